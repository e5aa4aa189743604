-- `newest_of_groups` meets its contract, by one law of `Passed` for each way round the loop.
use native.Mathlib.Omega.{arith}
use borrow.Author.Rules.{rules}
use Rattle.snapshot.proofs.Timeline.{pass_none, pass_open, pass_old, pass_missing, pass_new, pass_end, pass_full}
use Rattle.snapshot.proofs.newest.newest_of_groups.Goals as goal

pub loop-n-init : goal.loop-n-init
loop-n-init c = pass_none _ _ _ (search rules) c.requires c.min-upto.ensures

pub overflow_sub-missing : goal.overflow_sub-missing
overflow_sub-missing c =
    pass_missing c.loop-n.invariant (omega arith) c.if-instant-ge-COMPLETED.true c.if-slices-g-eq0.true

pub returns-then-missing-eq0 : goal.returns-then-missing-eq0
returns-then-missing-eq0 c =
    pass_full (pass_new c.loop-n.invariant (omega arith) c.if-instant-ge-COMPLETED.true c.if-slices-g-eq0.true) c.if-missing-eq0.true

pub loop-n-preserved-else-missing-eq0 : goal.loop-n-preserved-else-missing-eq0
loop-n-preserved-else-missing-eq0 c =
    pass_new c.loop-n.invariant (omega arith) c.if-instant-ge-COMPLETED.true c.if-slices-g-eq0.true

pub loop-n-preserved-else-slices-g-eq0 : goal.loop-n-preserved-else-slices-g-eq0
loop-n-preserved-else-slices-g-eq0 c =
    pass_old c.loop-n.invariant (omega arith) c.if-instant-ge-COMPLETED.true c.if-slices-g-eq0.false

pub loop-n-preserved : goal.loop-n-preserved
loop-n-preserved c = pass_open c.loop-n.invariant (omega arith) c.if-instant-ge-COMPLETED.false

pub returns : goal.returns
returns c = pass_end c.loop-n.invariant (omega arith)
