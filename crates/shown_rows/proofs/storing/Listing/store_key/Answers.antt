-- `store_key` meets its contract: no rows, or the first and behind it the others, by proofs/StoredRows.
use native.Mathlib.Omega.{arith}
use Rattle.shown_rows.proofs.StoredRows.{key_none, key_first, key_others, key_end}
use Rattle.shown_rows.proofs.storing.Listing.store_key.Goals as goal

pub returns-then-count-eq0 : goal.returns-then-count-eq0
returns-then-count-eq0 c = key_none c.requires c.if-count-eq0.true

pub store_row-requires : goal.store_row-requires
store_row-requires c = key_first c.requires (omega arith)

pub store_others-requires : goal.store_others-requires
store_others-requires c = key_others c.requires (omega arith) c.store_row.ensures

pub returns : goal.returns
returns c = key_end c.requires (omega arith) c.store_row.ensures c.store_others.ensures
