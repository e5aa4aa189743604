-- `sweep` meets its contract: a timestamp whose slice stays, and one whose slice is dropped.
use native.Mathlib.Omega.{arith}
use Prim.Native.Nat.{◌+◌, ◌-◌}
use mathlib.Core.Path.{◌≡◌, sym, ◌∙◌}
use Rattle.model.proofs.Sweeping.{dropped_below}
use Rattle.cleaning.proofs.Sweeping.{sweep_none, sweep_keep, sweep_drop, sweep_end}
use Rattle.cleaning.proofs.sweep.Goals.{then-drops, else-drops}
use Rattle.cleaning.proofs.sweep.Goals as goal

pub loop-n-init : goal.loop-n-init
loop-n-init c = sweep_none

pub overflow_sub-instant : goal.overflow_sub-instant
overflow_sub-instant c =
    omega (arith, c.instant_of-instant.ensures, (dropped_below _ _ _ (sym c.drops.ensures ∙ c.if-drops.true)).0)

pub loop-n-preserved : goal.loop-n-preserved
loop-n-preserved c =
    let here : c.loop-n.n + 1 - 1 ≡ c.loop-n.n = omega arith in
    rw here
    (elim c.if-drops.branch [
      | then-drops w ↦
          rw (w.present-is, w.drop_slice.ensures)
          (sweep_drop c.loop-n.n (omega arith) (omega arith) c.loop-n.invariant c.requires.0 c.requires.1 w.instant_of-instant.ensures
          (sym c.drops.ensures ∙ w.if-drops.true))
      | else-drops w ↦
          rw w.present-is (sweep_keep c.loop-n.n (omega arith) (omega arith) c.loop-n.invariant (sym c.drops.ensures ∙ w.if-drops.false))
    ])

pub returns-after-drops : goal.returns-after-drops
returns-after-drops c =
    sweep_end {n = c.loop-n.n} (omega arith)
    (elim c.if-drops.branch [
      | then-drops w ↦
          rw (w.present-is, w.drop_slice.ensures)
          (sweep_drop c.loop-n.n (omega arith) (omega arith) c.loop-n.invariant c.requires.0 c.requires.1 w.instant_of-instant.ensures
          (sym c.drops.ensures ∙ w.if-drops.true))
      | else-drops w ↦
          rw w.present-is (sweep_keep c.loop-n.n (omega arith) (omega arith) c.loop-n.invariant (sym c.drops.ensures ∙ w.if-drops.false))
    ])

pub returns : goal.returns
returns c = sweep_end (omega arith) c.loop-n.invariant
