-- `advance` meets its contract: a step on the parts of a table is a step of the table, by the law `parts_step`.
use mathlib.Core.Path.{refl, ap, ◌∙◌}
use Rattle.model.specs.State.{state_of}
use Rattle.model.specs.Rules.{answered, updated}
use Rattle.rules.proofs.Parts.{parts_step}
use Rattle.table.proofs.advance.Goals as goal

pub returns : goal.returns
returns c =
    let a = c.args in
    let st = state_of a.t a.present.now a.values.now in
    ap (answered _) (c.with_parts-table.ensures _ _)
    ∙ rw c.note.ensures
    (ap (updated st _ _) (c.act-r.ensures st.shared) ∙ rw (c.parts_in_range-tested.ensures st refl, c.slot_of-slot.ensures.is) (parts_step st _))
