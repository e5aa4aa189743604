-- `others_completed` meets its contract: a timestamp that has an instant takes its own part out of the count.
use native.Mathlib.Omega.{arith}
use Rattle.notes.proofs.Counting.{others_less}
use Rattle.notes.proofs.completed.others_completed.Goals as goal

pub overflow_sub-result : goal.overflow_sub-result
overflow_sub-result c =
    let a = c.args in
    let less = others_less a.timeline.now a.ts c.if-slot-timeline.false (omega arith) c.one_if_completed-own.ensures in
    omega (arith, c.completed_count-count.ensures.is, less)

pub returns : goal.returns
returns c =
    let a = c.args in
    let less = others_less a.timeline.now a.ts c.if-slot-timeline.false (omega arith) c.one_if_completed-own.ensures in
    let count = c.completed_count-count.ensures in
    record { is = omega (arith, count.is, less); most = omega (arith, count.most) }
