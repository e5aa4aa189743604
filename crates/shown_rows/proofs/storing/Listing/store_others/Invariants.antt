-- `store_others` meets its contract. The loop's invariant is `StoringOthers` of proofs/StoredRows.
use Rattle.shown_rows.proofs.StoredRows.{StoringOthers}
use Rattle.shown_rows.proofs.storing.Listing.store_others.Given as goal

abbrev pub invariant-loop-group : goal.invariant-loop-group
invariant-loop-group l = StoringOthers l.shown l.key l.from l.initial.self l.self l.left l.group
