-- `newest_of_groups` meets its contract. The loop's invariant is `Passed` of proofs/Timeline, with one law for each way round it.
use Rattle.snapshot.proofs.Timeline.{Passed}
use Rattle.snapshot.proofs.newest.newest_of_groups.Given as goal

abbrev pub invariant-loop-n : goal.invariant-loop-n
invariant-loop-n l = Passed l.timeline l.at l.slices l.missing l.n
