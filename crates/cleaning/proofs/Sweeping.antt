-- The sweep over the timestamps 1 to c: `Swept` is the loop's invariant, with one law for each way round it.
--     sweep_none, sweep_keep, sweep_drop, sweep_end    before the first timestamp, past one, past one whose slice is dropped, and past all
use Prim.Native.Nat.{ℕ, zero, suc, ◌-◌, ◌<◌, ◌≤◌}
use native.Mathlib.Numerals.{sub-one}
use native.Mathlib.Omega.{arith}
use mathlib.Core.Bool.{Bool, true, false}
use mathlib.Core.List.{List}
use mathlib.Core.Path.{◌≡◌, refl, ◌∙◌, ap}
use lib.ListN.{get_or}
use borrow.Author.Tests.{lt-ltb, le-leb}
use Rattle.model.specs.Limits.{groups, timestamps}
use Rattle.model.specs.State.{group_of_completed}
use Rattle.model.specs.Range.{instants_in_range}
use Rattle.model.specs.Snapshot.{instant_of}
use Rattle.model.specs.Cleaning.{drops, swept}
use Rattle.model.proofs.Ranged.{at_most_iff}
use Rattle.slices.specs.Slices.{slice_dropped}

-- the timestamps up to n are swept
pub record Swept (timeline : List ℕ) (c : ℕ) (before present : List Bool) (n : ℕ) : Type 0 where
  pub within : n ≤ c
  pub same : present ≡ swept timeline c before n

module _ {timeline : List ℕ} {c : ℕ} {before : List Bool} where
  pub sweep_none : Swept timeline c before before 0
  unfolding swept
  sweep_none = record { within = omega arith; same = refl }

  pub sweep_end : {present : List Bool} {n : ℕ} → c ≤ n → Swept timeline c before present n → present ≡ swept timeline c before c
  sweep_end {n} h v = let z : n ≡ c = omega (arith, v.within) in v.same ∙ ap (swept timeline c before) z

  pub sweep_keep : {present : List Bool} (n : ℕ) → 0 < n → n ≤ c → Swept timeline c before present (n - 1) → drops timeline c n ≡ false
      → Swept timeline c before present n
  unfolding swept
  sweep_keep zero p l v e = absurd (omega arith)
  sweep_keep (suc n) p l v e = record { within = l; same = rw e (rw (sub-one (suc n)) at v.same) }

  pub sweep_drop : {present : List Bool} (n : ℕ) {i : ℕ} → 0 < n → n ≤ c → Swept timeline c before present (n - 1)
      → instants_in_range timeline ≡ true → c ≤ timestamps → i ≡ instant_of timeline n → drops timeline c n ≡ true
      → Swept timeline c before (slice_dropped present (group_of_completed i) n) n
  unfolding swept
  sweep_drop zero p l v r h z e = absurd (omega arith)
  sweep_drop (suc n) p l v r h z e =
      let coded = (at_most_iff _ timeline).0 r n in
      let group : group_of_completed (get_or timeline n 0) < groups = omega (arith, coded) in
      let below = rw (sub-one (suc n)) at v.same in
      record {
        within = l;
        same =
            rw z
            (rw (
              lt-ltb _ _ group,
              le-leb 1 (suc n) (omega arith),
              le-leb (suc n) timestamps (omega arith),
              e,
              below,
            ));
      }
