-- `put_row` puts the three fields of a row, one behind the other.
use Rattle.std.proofs.Common.{[], ◌∷◌}
use Rattle.model.specs.Snapshot.{Row}
use Rattle.common.proofs.Pieces.{Fits, first_fits}
use Rattle.transcript.specs.Text.{newline, space, field, row_line}
use Rattle.transcript.specs.Inner.{HasRoom}
use Rattle.transcript.specs.declared.text.Text.{Text}
use Rattle.transcript.proofs.Lines.{row_pieces}
use Rattle.transcript.proofs.Putting.{rest_room, together, one_put}
use Rattle.transcript.proofs.text.Text.put_row.Goals as goal

pieces : (t : Text) (r : Row) → HasRoom t (row_line r)
    → Fits t.buffer.now t.at (field r.key space ∷ field r.value space ∷ field r.group newline ∷ [])
pieces t r h = record { room = rw row_pieces at h }

pub put_field-requires : goal.put_field-requires
put_field-requires c = first_fits (pieces c.args.self.now _ c.requires)

pub put_field-requires-2 : goal.put_field-requires-2
put_field-requires-2 c = first_fits (rest_room (pieces c.args.self.now _ c.requires) c.put_field.ensures)

pub put_field-requires-3 : goal.put_field-requires-3
put_field-requires-3 c = first_fits (rest_room (rest_room (pieces c.args.self.now _ c.requires) c.put_field.ensures) c.put_field-2.ensures)

pub returns : goal.returns
returns c =
    let all = pieces c.args.self.now _ c.requires in
    rw row_pieces (together all c.put_field.ensures (together (rest_room all c.put_field.ensures) c.put_field-2.ensures (one_put c.put_field-3.ensures)))
