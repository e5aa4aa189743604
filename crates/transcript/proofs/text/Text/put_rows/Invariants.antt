-- The loop keeps `Putting` of one line at a time.
use Rattle.std.proofs.Common.{◌/◌, length}
use Rattle.transcript.specs.Text.{row_line}
use Rattle.transcript.specs.Inner.{row_of}
use Rattle.transcript.proofs.Putting.{Putting}
use Rattle.transcript.proofs.text.Text.put_rows.Given as goal

abbrev pub invariant-loop-key : goal.invariant-loop-key
invariant-loop-key l = Putting (λ i. row_line (row_of l.numbers i)) (length l.numbers / 3) l.fn.self l.self l.key-index
