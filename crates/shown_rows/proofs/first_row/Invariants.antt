-- `first_row` meets its contract. The loop's invariant is `NoneBelow` of proofs/FirstRow.
use Rattle.shown_rows.proofs.FirstRow.{NoneBelow}
use Rattle.shown_rows.proofs.first_row.Given as goal

abbrev pub invariant-loop-group : goal.invariant-loop-group
invariant-loop-group l = NoneBelow l.shown.slices l.shown.present.now l.shown.values.now l.key l.group
