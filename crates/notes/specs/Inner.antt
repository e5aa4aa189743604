-- What the inner functions of the notes promise each other: how many instants are completed, and what the writers hold.
use Rattle.std.specs.Prelude.{ℕ, ◌≤◌, ◌<◌, List, ◌≡◌, get_or}
use Rattle.model.specs.Limits.{writers, timestamps}
use Rattle.model.specs.State.{ready}
use Rattle.model.specs.Notes.{held_by}
use Rattle.model.specs.declared.Writer.{Writer}

-- a count of instants, and that there are no more than timestamps
pub record CountIs (r count : ℕ) : Type 0 where
  pub is : r ≡ count
  pub most : r ≤ timestamps

-- what each writer's operation in progress holds
abbrev pub HeldBy : List ℕ → List Writer → Type 0
HeldBy held xs = (u : ℕ) → u < writers → get_or held u 0 ≡ held_by (get_or xs u ready)
