-- `first_row` meets its contract, by the laws of `NoneBelow`.
use mathlib.Core.Path.{sym, ◌∙◌}
use Rattle.shown_rows.proofs.FirstRow.{no_key, search_none, search_hit, search_miss}
use Rattle.shown_rows.proofs.first_row.Goals as goal

pub returns-then-key-ge-KEYS : goal.returns-then-key-ge-KEYS
returns-then-key-ge-KEYS c = no_key c.args.slices _ _ c.if-key-ge-KEYS.true

pub loop-group-init : goal.loop-group-init
loop-group-init c = search_none

pub returns-then-has_row : goal.returns-then-has_row
returns-then-has_row c =
    rw c.value_at.ensures
    (search_hit c.loop-group.invariant c.if-key-ge-KEYS.false c.loop-group-test.true (sym c.has_row.ensures ∙ c.if-has_row.true))

pub loop-group-preserved : goal.loop-group-preserved
loop-group-preserved c =
    search_miss c.loop-group.invariant c.if-key-ge-KEYS.false c.loop-group-test.true (sym c.has_row.ensures ∙ c.if-has_row.false)
