-- `note_row` meets its contract: the row is written over its places.
use native.Mathlib.Omega.{arith}
use Rattle.notes.proofs.RowLoops.{row_written}
use Rattle.notes.proofs.rows.note_row.Goals as goal

pub returns : goal.returns
returns c = rw c.copy_from_slice.ensures.after (row_written _ _ c.args.w _ c.requires c.told-noted c.told-row (omega arith))
