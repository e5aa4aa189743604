-- `put_answers` puts the lines of the answers, one at a time.
use Rattle.transcript.proofs.Lines.{answers_all}
use Rattle.transcript.proofs.Putting.{starts, part_fits, goes_on, ends}
use Rattle.transcript.proofs.text.Text.put_answers.Goals as goal

pub loop-answer-init : goal.loop-answer-init
loop-answer-init c = starts _ _ _ (rw answers_all c.requires)

pub put_field-requires : goal.put_field-requires
put_field-requires c = part_fits c.loop-answer.invariant c.loop-answer-test.true

pub loop-answer-preserved : goal.loop-answer-preserved
loop-answer-preserved c = goes_on c.loop-answer.invariant c.loop-answer-test.true c.put_field.ensures

pub returns : goal.returns
returns c = rw (← answers_all c.args.answers.now) (ends c.loop-answer.invariant c.loop-answer-test.false)
