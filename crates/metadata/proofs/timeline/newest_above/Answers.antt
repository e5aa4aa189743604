-- `newest_above` meets its contract: the loop begins with none looked at, goes on past a miss, and ends at a hit or at the base.
use mathlib.Core.Path.{◌≡◌, sym, ◌∙◌}
use Prim.Native.Nat.{◌+◌, ◌-◌}
use native.Mathlib.Omega.{arith}
use borrow.Author.Tests.{eqb-true, eqb-false}
use Rattle.metadata.proofs.Looking.{look_first, look_hit, look_miss, look_end}
use Rattle.metadata.proofs.timeline.newest_above.Goals as goal

pub loop-below-init : goal.loop-below-init
loop-below-init c = look_first

pub returns-then-completed_in : goal.returns-then-completed_in
returns-then-completed_in c =
    let n : c.loop-below.below - 1 + 1 ≡ c.loop-below.below = omega (arith, c.loop-below-test.true) in
    rw n
    (look_hit c.loop-below.invariant (omega (arith, c.loop-below-test.true))
    (rw n at (eqb-true _ _ (sym c.completed_in.ensures ∙ c.if-completed_in.true))))

pub loop-below-preserved : goal.loop-below-preserved
loop-below-preserved c =
    let n : c.loop-below.below - 1 + 1 ≡ c.loop-below.below = omega (arith, c.loop-below-test.true) in
    look_miss c.loop-below.invariant (omega (arith, c.loop-below-test.true))
    (rw n at (eqb-false _ _ (sym c.completed_in.ensures ∙ c.if-completed_in.false)))

pub returns : goal.returns
returns c = look_end c.loop-below.invariant (omega (arith, c.loop-below-test.false))
