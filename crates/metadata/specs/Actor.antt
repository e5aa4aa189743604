-- The range test of one writer.
use Rattle.std.specs.Prelude.{ℕ, Bool, [], ◌∷◌, leb}
use Rattle.common.specs.Counting.{every}
use Rattle.model.specs.Limits.{timestamps}
use Rattle.model.specs.Range.{writer_in_range}
use Rattle.model.specs.declared.Writer.{Writer}

-- the record of a writer, and the last timestamp, are in range
abbrev pub actor_in_range : ℕ → Writer → Bool
actor_in_range last x = every (leb last timestamps ∷ writer_in_range last x ∷ [])
