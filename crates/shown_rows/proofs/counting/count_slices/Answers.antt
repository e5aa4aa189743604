-- `count_slices` meets its contract, by the laws of `Counted`.
use Prim.Native.Nat.{ℕ}
use native.Mathlib.Omega.{arith}
use lib.ListN.{length-replicate}
use Rattle.model.specs.Limits.{keys, groups}
use Rattle.shown_rows.proofs.CountedRows.{counted_none, counted_skip, counted_next, counted_le}
use Rattle.shown_rows.proofs.counting.count_slices.Goals as goal
use Rattle.shown_rows.proofs.counting.count_slices.Goals.{then-has_slices, else-has_slices}

pub loop-group-init : goal.loop-group-init
loop-group-init c = (
  record { shows = length-replicate {A = ℕ} keys 0; lowest = length-replicate {A = ℕ} keys groups },
  counted_none _ _,
)

pub count_slice-requires : goal.count_slice-requires
count_slice-requires c = (
  c.loop-group.invariant.0,
  omega (arith, c.has_slices.ensures.has c.if-has_slices.true, c.row_at-from.ensures.0),
  counted_le _ _ c.loop-group.invariant.1 (omega arith),
)

pub loop-group-preserved : goal.loop-group-preserved
loop-group-preserved c =
    elim c.if-has_slices.branch [
      | then-has_slices w ↦
          rw w.counts-is (
            w.count_slice.ensures.for_keys,
            counted_next _ _ c.loop-group.invariant.1 (c.has_slices.ensures.has w.if-has_slices.true) w.row_at-from.ensures.0 w.count_slice.ensures,
          )
      | else-has_slices w ↦ rw w.counts-is (c.loop-group.invariant.0, counted_skip _ _ c.loop-group.invariant.1 (c.has_slices.ensures.lacks w.if-has_slices.false))
    ]
