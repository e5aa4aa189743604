-- `note_start` meets its contract: the count and the row are those of the definition.
use mathlib.Core.Path.{ap, ◌∙◌}
use native.Mathlib.Omega.{arith}
use Rattle.model.specs.Limits.{writers}
use Rattle.model.specs.State.{notes}
use Rattle.notes.proofs.RowLoops.{row_same}
use Rattle.notes.proofs.note_start.Goals as goal

pub returns : goal.returns
returns c =
    λ places.
    rw (← c.completed_count.ensures.is)
    (ap (notes places _) (c.note_row.ensures ∙ row_same _ _ _ _ c.held_timestamps-held.ensures writers (omega arith)))
