-- `held_timestamps` meets its contract. The loop's invariant: each writer passed has been asked.
use lib.ListN.{get_or}
use Rattle.model.specs.Limits.{writers}
use Rattle.model.specs.State.{ready}
use Rattle.model.specs.Notes.{held_by}
use Rattle.common.proofs.Loops.{SetUpto}
use Rattle.notes.proofs.rows.held_timestamps.Given as goal

abbrev pub invariant-loop-u : goal.invariant-loop-u
invariant-loop-u l = SetUpto 0 (λ j. held_by (get_or l.writers j ready)) writers l.held l.u
