-- Who binds a key, so that it is in the index (document 02, Q-4): the statement. The theorem is `bound` in proofs/Corollaries.antt.
use Rattle.std.specs.Prelude.{ℕ, ◌≡◌, Bool, true, false, eqb}
use mathlib.Core.List.{Memᴰ}
use Rattle.std.proofs.Math.Option.{some}
use Rattle.model.specs.History.{Pending, Committed, History}
use Rattle.model.specs.declared.Writer.{Writer}
use Rattle.model.specs.declared.Operation.{Operation}
use Rattle.model.specs.declared.Operation.TheVariants.{Put, Remove}

-- is an operation a put on key k
abbrev pub puts_on : ℕ → Operation → Bool
puts_on k (Put j v g) = eqb j k
puts_on k (Remove j) = false

-- what key k is in the index for: a committed put on it, or a put on it in progress that made the entry; an operation that ended is neither
pub data Bound (h : History) (writer : ℕ → Writer) (k : ℕ) : Type 0 where
  by_committed : (c : Committed) → Memᴰ c h.done → puts_on k c.operation ≡ true → Bound h writer k
  by_pending : (w : ℕ) (p : Pending) → h.pending w ≡ some p → puts_on k p.operation ≡ true → (writer w).made ≡ true → Bound h writer k
