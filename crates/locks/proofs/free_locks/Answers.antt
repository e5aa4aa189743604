-- `free_locks` meets its contract. The loop's invariant: each lock passed is released.
use Rattle.std.proofs.Common.{◌<◌, length, arith}
use Rattle.std.proofs.lemmas.List.{get_or_default}
use Rattle.std.proofs.lemmas.List.Edits.{map_over_more}
use Rattle.model.specs.Rules.{released}
use Rattle.locks.proofs.free_locks.Goals as goal

pub loop-lock-preserved : goal.loop-lock-preserved
loop-lock-preserved c =
    let l = c.loop-lock in
    let within : l.lock-index < length l.locks = omega arith in
    rw c.released.ensures
    (map_over_more (λ lock. released lock c.args.w) c.args.locks.now l.locks l.lock-index _ (omega arith) l.invariant (get_or_default l.locks l.lock-index 0 _ within))
