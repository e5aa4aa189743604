-- `completed_that` meets its contract. The loop's invariant: the timestamps up to i are listed, whatever the test tells.
use Prim.Native.Nat.{◌+◌}
use native.Mathlib.Omega.{arith}
use mathlib.Core.Path.{sym, ◌∙◌}
use Rattle.candidates.proofs.ListLoop.{list_none, list_next, list_skip, list_end, listed_by, not_completed}
use Rattle.candidates.proofs.listing.completed_that.Goals as goal
use Rattle.candidates.proofs.listing.completed_that.Goals.{then-has_completed+then-test, else-has_completed, else-has_completed-via-then-has_completed+else-test, else-has_completed-via-else-has_completed}

pub loop-i-init : goal.loop-i-init
loop-i-init g c = (omega arith, λ p _. list_none _ _)

pub loop-i-preserved : goal.loop-i-preserved
loop-i-preserved g c =
    let l = c.loop-i in (
      elim c.if-has_completed.branch [ then-has_completed+then-test w ↦ omega arith | else-has_completed w ↦ omega arith ],
      λ p tells.
          elim c.if-has_completed.branch [
            | then-has_completed+then-test w ↦
                let marked = tells (l.i + 1) _ (omega arith) (omega arith) w.test.ensures in
                rw (w.timestamps-is, w.count-is)
                (list_next (l.invariant.1 p tells) (omega arith) (listed_by c.args.timeline.now p l.i (sym c.has_completed.ensures ∙ w.if-has_completed.true) marked ∙ w.if-test.true))
            | else-has_completed w ↦
                rw (w.timestamps-is, w.count-is)
                (elim w.else-has_completed.branch [
                  | else-has_completed-via-then-has_completed+else-test v ↦
                      let marked = tells (l.i + 1) _ (omega arith) (omega arith) v.test.ensures in
                      list_skip (l.invariant.1 p tells) (omega arith) (listed_by c.args.timeline.now p l.i (sym c.has_completed.ensures ∙ v.if-has_completed.true) marked ∙ v.if-test.false)
                  | else-has_completed-via-else-has_completed v ↦
                      list_skip (l.invariant.1 p tells) (omega arith) (not_completed c.args.timeline.now p l.i (sym c.has_completed.ensures ∙ v.if-has_completed.false))
                ])
          ],
    )

pub returns : goal.returns
returns g c = λ p tells. list_end _ _ (c.loop-i.invariant.1 p tells) (omega arith)
