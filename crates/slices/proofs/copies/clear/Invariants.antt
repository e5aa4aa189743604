-- `clear` meets its contract. The loop's invariant: the first k rows are cleared.
use Rattle.std.proofs.Common.{◌≡◌}
use Rattle.model.specs.Rules.{copied}
use Rattle.slices.proofs.copies.clear.Given as goal

abbrev pub invariant-loop-k : goal.invariant-loop-k
invariant-loop-k g l = l.rows ≡ copied l.absent l.initial.rows l.fn.slice.group 0 l.fn.slice.ts l.k
