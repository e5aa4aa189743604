-- `completed_count` meets its contract: a turn of the loop, and its end.
use Rattle.notes.proofs.Counting.{count_goes_on, count_ends}
use Rattle.notes.proofs.completed.completed_count.Goals as goal

pub loop-instant-preserved : goal.loop-instant-preserved
loop-instant-preserved c = count_goes_on c.loop-instant.invariant c.loop-instant-test.true c.one_if_completed-count.ensures

pub returns : goal.returns
returns c = count_ends c.loop-instant.invariant c.loop-instant-test.false
