-- `completed_that` meets its contract. The loop's invariant: the timestamps up to i are listed, whatever the test tells.
use Rattle.std.proofs.Common.{ℕ, Bool, ◌≤◌}
use Rattle.model.specs.Limits as limits
use Rattle.candidates.specs.Inner.{Tells}
use Rattle.candidates.proofs.ListLoop.{ListedUpto, is_listed}
use Rattle.candidates.proofs.listing.completed_that.Given as goal

abbrev pub invariant-loop-i : goal.invariant-loop-i
invariant-loop-i g l =
    (l.count ≤ l.i) × ((p : ℕ → Bool) → Tells (goal.F-post g l.fn.test) p → ListedUpto (is_listed l.timeline p) limits.timestamps l.timestamps l.count l.i)
