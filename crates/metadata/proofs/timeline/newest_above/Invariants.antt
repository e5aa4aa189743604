-- `newest_above` meets its contract. The loop's invariant: `looked_at` timestamps have been looked at, those above `below`, the end of what is left,
-- and none is a hit.
use Rattle.metadata.proofs.Looking.{Looked}
use Rattle.metadata.proofs.timeline.newest_above.Given as goal

abbrev pub invariant-loop-below : goal.invariant-loop-below
invariant-loop-below l = Looked l.timeline l.group l.base l.last l.below l.looked_at
