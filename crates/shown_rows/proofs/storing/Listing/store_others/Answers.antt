-- `store_others` meets its contract, by the laws of `StoringOthers`.
use native.Mathlib.Omega.{arith}
use mathlib.Core.Path.{sym, ◌∙◌}
use Rattle.shown_rows.proofs.StoredRows.{others_begin, others_ask, others_skip, others_row, others_end, others_none}
use Rattle.shown_rows.proofs.storing.Listing.store_others.Goals as goal
use Rattle.shown_rows.proofs.storing.Listing.store_others.Goals.{then-has_row, else-has_row}

pub loop-group-init : goal.loop-group-init
loop-group-init c = others_begin c.requires

pub returns-then-left-eq0 : goal.returns-then-left-eq0
returns-then-left-eq0 c = others_end c.loop-group.invariant c.if-left-eq0.true

pub store_row-requires : goal.store_row-requires
store_row-requires c = others_ask c.loop-group.invariant c.loop-group-test.true (sym c.has_row.ensures ∙ c.if-has_row.true)

pub loop-group-preserved : goal.loop-group-preserved
loop-group-preserved c =
    elim c.if-has_row.branch [
      | then-has_row w ↦
          rw (w.self-is, w.left-is)
          (others_row c.loop-group.invariant c.loop-group-test.true (sym c.has_row.ensures ∙ w.if-has_row.true) (omega (arith, c.if-left-eq0.false)) w.store_row.ensures)
      | else-has_row w ↦ rw (w.self-is, w.left-is) (others_skip c.loop-group.invariant c.loop-group-test.true (sym c.has_row.ensures ∙ w.if-has_row.false))
    ]

pub returns : goal.returns
returns c = others_end c.loop-group.invariant (others_none c.loop-group.invariant c.loop-group-test.false)
