-- `count_slices` meets its contract. The loop's invariant is `Counted` of the groups below the one at hand.
use Rattle.shown_rows.specs.Inner.{ForKeys, Counted}
use Rattle.shown_rows.proofs.counting.count_slices.Given as goal

abbrev pub invariant-loop-group : goal.invariant-loop-group
invariant-loop-group l = ForKeys l.counts.shows l.counts.lowest × Counted l.shown.slices l.shown.present.now l.group l.counts.shows l.counts.lowest
