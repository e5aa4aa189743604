-- The rows of slices, listed: `all_fit`, what storing them asks; `list_full`, no room; `list_done`, all are stored.
use Prim.Native.Nat.{ℕ, ◌+◌, ◌*◌, ◌<◌, ◌≤◌}
use native.Mathlib.Omega.{arith}
use mathlib.Core.Bool.{Bool}
use mathlib.Core.Path.{◌≡◌, ◌∙◌}
use mathlib.Core.List.{List}
use lib.ListN.{get_or, length}
use borrow.Author.Tests.{lt-ltb, le-ltb}
use Rattle.common.specs.Counting.{sum}
use Rattle.common.specs.Pasting.{pasted}
use Rattle.model.specs.Limits.{keys, groups}
use Rattle.model.specs.Answers.{taken, no_room}
use Rattle.model.specs.Snapshot.{Row, all_rows, Listed, unlisted, listed_if_fits, numbers}
use Rattle.shown_rows.specs.declared.counting.KeyCounts.{KeyCounts}
use Rattle.shown_rows.specs.declared.places.Shown.{Shown}
use Rattle.shown_rows.specs.Slices.{slice_in}
use Rattle.shown_rows.specs.Inner.{Counted, AllFit}
use Rattle.shown_rows.proofs.ShownRows.{numbers_length}
use Rattle.shown_rows.proofs.CountedRows.{counted_all}

pub all_fit : (s : Shown) {counts : KeyCounts} {count room : ℕ} → Counted s.slices s.present.now groups counts.shows counts.lowest
    → count ≡ sum keys (λ k. get_or counts.shows k 0) → 3 * count ≤ room → AllFit s counts room
all_fit s c e l = record { counted = c; fits = omega (arith, e ∙ counted_all s.slices s.present.now c s.values.now) }

module _ (present : List Bool) (values slices : List ℕ) {shown : KeyCounts} {count : ℕ}
    (c : Counted slices present groups shown.shows shown.lowest) (e : count ≡ sum keys (λ k. get_or shown.shows k 0)) where
  abbrev listed : List Row
  listed = all_rows present values (slice_in slices)

  counted : count ≡ length listed
  counted = e ∙ counted_all slices present c values

  pub list_full : (buffer : List ℕ) → length buffer < 3 * count → unlisted no_room buffer ≡ listed_if_fits listed buffer
  list_full buffer l = rw (← counted, lt-ltb (length buffer) (3 * count) l)

  pub list_done : {new : List ℕ} (buffer : List ℕ) → 3 * count ≤ length buffer → new ≡ pasted buffer 0 (numbers listed)
      → ◌≡◌ {A = Listed} (record { answer = taken; count = count; buffer = new }) (listed_if_fits listed buffer)
  unfolding pasted
  list_done buffer l f =
      let behind : 0 + length (numbers listed) ≡ 3 * length listed = omega (arith, numbers_length listed) in
      rw (f, behind, counted, le-ltb (length buffer) (3 * length listed) (omega (arith, counted)))
