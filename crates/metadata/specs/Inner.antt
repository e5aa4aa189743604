-- What the functions of the range test promise each other.
use Rattle.std.specs.Prelude.{ℕ, Bool, List, [], ◌∷◌, eqb, leb}
use Rattle.std.specs.Int.Bits.{bit_or}
use Rattle.common.specs.Counting.{every}
use Rattle.model.specs.Limits.{timestamps}
use Rattle.model.specs.Range.{locks_in_range, index_in_range, instants_in_range, none_above}
use Rattle.model.specs.declared.Writer.{Writer}

-- none of a writer's numbers that have a range has a bit set
abbrev pub keeps_zeros : Writer → Bool
keeps_zeros x = eqb (bit_or (bit_or (bit_or (bit_or x.phase x.key) x.group) x.ts) x.base) 0

-- the horizon, and the numbers that all writers share, are in range; what is noted stands apart
abbrev pub shared_in_range : ℕ → ℕ → List ℕ → List ℕ → List ℕ → Bool
shared_in_range horizon last locks index timeline =
    every
    (leb last timestamps
    ∷ leb horizon last
    ∷ locks_in_range locks
    ∷ index_in_range index
    ∷ instants_in_range timeline
    ∷ none_above last timeline
    ∷ [])
