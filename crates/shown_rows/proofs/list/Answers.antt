-- `list` meets its contract: the rows are counted, and stored if they fit, by proofs/ListedRows.
use native.Mathlib.Omega.{arith}
use Rattle.shown_rows.proofs.CountedRows.{counted_le}
use Rattle.shown_rows.proofs.ListedRows.{all_fit, list_full, list_done}
use Rattle.shown_rows.proofs.list.Goals as goal

pub total-count-requires : goal.total-count-requires
total-count-requires c = counted_le _ _ c.count_slices-counts.ensures (omega arith)

pub returns-then-buffer-count : goal.returns-then-buffer-count
returns-then-buffer-count c =
    list_full _ _ _ c.count_slices-counts.ensures c.total-count.ensures.0 _ c.if-buffer-count.true

pub store-requires : goal.store-requires
store-requires c = all_fit _ c.count_slices-counts.ensures c.total-count.ensures.0 c.if-buffer-count.false

pub returns : goal.returns
returns c = list_done _ _ _ c.count_slices-counts.ensures c.total-count.ensures.0 _ c.if-buffer-count.false c.store.ensures
