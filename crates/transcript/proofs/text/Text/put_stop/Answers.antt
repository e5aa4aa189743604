-- `put_stop` puts the four pieces of the line, one behind the other.
use Rattle.std.proofs.Common.{ℕ, [], ◌∷◌}
use Rattle.common.proofs.Pieces.{Fits, first_fits}
use Rattle.transcript.specs.Text.{newline, decimal, field, stop_word, at_word, stop_line}
use Rattle.transcript.specs.Inner.{HasRoom}
use Rattle.transcript.specs.declared.text.Text.{Text}
use Rattle.transcript.proofs.Lines.{stop_pieces}
use Rattle.transcript.proofs.Putting.{rest_room, together, one_put}
use Rattle.transcript.proofs.text.Text.put_stop.Goals as goal

pieces : (t : Text) (stop offset : ℕ) → HasRoom t (stop_line stop offset)
    → Fits t.buffer.now t.at (stop_word ∷ decimal stop ∷ at_word ∷ field offset newline ∷ [])
pieces t stop offset h = record { room = rw stop_pieces at h }

pub put_bytes-requires : goal.put_bytes-requires
put_bytes-requires c = first_fits (pieces c.args.self.now c.args.stop c.args.offset c.requires)

pub put_decimal-requires : goal.put_decimal-requires
put_decimal-requires c =
    let all = pieces c.args.self.now c.args.stop c.args.offset c.requires in
    first_fits (rest_room all c.put_bytes.ensures)

pub put_bytes-requires-2 : goal.put_bytes-requires-2
put_bytes-requires-2 c =
    let all = pieces c.args.self.now c.args.stop c.args.offset c.requires in
    first_fits (rest_room (rest_room all c.put_bytes.ensures) c.put_decimal.ensures)

pub put_field-requires : goal.put_field-requires
put_field-requires c =
    let all = pieces c.args.self.now c.args.stop c.args.offset c.requires in
    first_fits (rest_room (rest_room (rest_room all c.put_bytes.ensures) c.put_decimal.ensures) c.put_bytes-2.ensures)

pub returns : goal.returns
returns c =
    let all = pieces c.args.self.now c.args.stop c.args.offset c.requires in
    let rest = rest_room all c.put_bytes.ensures in
    rw stop_pieces (together all c.put_bytes.ensures (together rest c.put_decimal.ensures
    (together (rest_room rest c.put_decimal.ensures) c.put_bytes-2.ensures (one_put c.put_field.ensures))))
