-- `free_locks` meets its contract. The loop's invariant: each lock passed is released.
use Rattle.std.proofs.Common.{◌≡◌, ◌++◌, map, take, drop}
use Rattle.model.specs.Rules.{released}
use Rattle.locks.proofs.free_locks.Given as goal

abbrev pub invariant-loop-lock : goal.invariant-loop-lock
invariant-loop-lock l = l.locks ≡ map (λ lock. released lock l.w) (take l.lock-index l.initial.locks) ++ drop l.lock-index l.initial.locks
