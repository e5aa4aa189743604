-- The loop keeps `Putting` of one line at a time.
use Rattle.std.proofs.Common.{length}
use Rattle.transcript.proofs.Lines.{answer_line}
use Rattle.transcript.proofs.Putting.{Putting}
use Rattle.transcript.proofs.text.Text.put_answers.Given as goal

abbrev pub invariant-loop-answer : goal.invariant-loop-answer
invariant-loop-answer l = Putting (answer_line l.answers) (length l.answers) l.fn.self l.self l.answer-index
