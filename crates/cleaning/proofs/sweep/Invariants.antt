-- `sweep` meets its contract. The loop's invariant: the timestamps below n are swept.
use Prim.Native.Nat.{◌-◌}
use Rattle.cleaning.proofs.Sweeping.{Swept}
use Rattle.cleaning.proofs.sweep.Given as goal

abbrev pub invariant-loop-n : goal.invariant-loop-n
invariant-loop-n l = Swept l.timeline l.at l.initial.present l.present (l.n - 1)
