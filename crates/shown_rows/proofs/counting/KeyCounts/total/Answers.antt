-- `total` meets its contract, by the laws of a loop that sums up.
use native.Mathlib.Omega.{arith}
use Rattle.common.proofs.Loops.{sum_none, sum_next}
use Rattle.shown_rows.proofs.counting.KeyCounts.total.Goals as goal

pub loop-shows-init : goal.loop-shows-init
loop-shows-init c = sum_none

pub loop-shows-preserved : goal.loop-shows-preserved
loop-shows-preserved c =
    rw c.from-total.ensures (sum_next c.loop-shows.invariant (omega arith) (c.requires c.loop-shows.shows-index (omega arith)))
