-- `put_field` puts a number in decimal, and behind it the byte.
use Rattle.std.proofs.Common.{ℕ, [], ◌∷◌}
use Rattle.common.proofs.Pieces.{Fits, first_fits}
use Rattle.transcript.specs.Text.{decimal, field}
use Rattle.transcript.specs.Inner.{HasRoom}
use Rattle.transcript.specs.declared.text.Text.{Text}
use Rattle.transcript.proofs.Lines.{field_pieces}
use Rattle.transcript.proofs.Putting.{rest_room, together, one_put}
use Rattle.transcript.proofs.text.Text.put_field.Goals as goal

pieces : (t : Text) (number end : ℕ) → HasRoom t (field number end) → Fits t.buffer.now t.at (decimal number ∷ (end ∷ []) ∷ [])
pieces t number end h = record { room = rw field_pieces at h }

pub put_decimal-requires : goal.put_decimal-requires
put_decimal-requires c = first_fits (pieces c.args.self.now c.args.number c.args.end c.requires)

pub put_byte-requires : goal.put_byte-requires
put_byte-requires c =
    let all = pieces c.args.self.now c.args.number c.args.end c.requires in
    first_fits (rest_room all c.put_decimal.ensures)

pub returns : goal.returns
returns c =
    let all = pieces c.args.self.now c.args.number c.args.end c.requires in
    rw field_pieces (together all c.put_decimal.ensures (one_put c.put_byte.ensures))
