-- `total` meets its contract. The loop's invariant is the sum of the counts below its index.
use lib.ListN.{get_or}
use Rattle.model.specs.Limits.{keys, groups}
use Rattle.common.proofs.Loops.{Summed}
use Rattle.shown_rows.proofs.counting.KeyCounts.total.Given as goal

abbrev pub invariant-loop-shows : goal.invariant-loop-shows
invariant-loop-shows l = Summed (λ j. get_or l.self.shows j 0) groups keys l.total l.shows-index
