-- `completed_count` meets its contract. The loop's invariant is `CountTurn`.
use Rattle.model.specs.Limits.{timestamps}
use Rattle.notes.proofs.Counting.{CountTurn}
use Rattle.notes.proofs.completed.completed_count.Given as goal

abbrev pub invariant-loop-instant : goal.invariant-loop-instant
invariant-loop-instant l = CountTurn timestamps l.timeline l.count l.instant-index
