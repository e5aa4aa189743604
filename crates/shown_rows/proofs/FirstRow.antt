-- The first row of a key: `NoneBelow` is the invariant of the search up the file groups.
use Rattle.std.specs.Prelude.{Option, Some, None}
use Prim.Native.Nat.{ℕ, ◌+◌, ◌<◌, ◌≤◌}
use native.Mathlib.Omega.{arith}
use mathlib.Core.Bool.{Bool, true, false}
use mathlib.Core.Path.{◌≡◌, refl, ◌∙◌}
use mathlib.Core.List.{List, []}
use lib.ListN.{get_or}
use borrow.Author.Tests.{lt-ltb, le-ltb}
use Rattle.common.specs.Counting.{list_below}
use Rattle.common.proofs.ListBelow.{none_below, list_more, list_rest}
use Rattle.model.specs.Limits.{keys, groups}
use Rattle.model.specs.State.{row_in, cell}
use Rattle.model.specs.Snapshot.{Row, shown, rows_of, first_of}
use Rattle.model.specs.declared.Found.{Found}
use Rattle.shown_rows.specs.Slices.{slice_in}
use Rattle.shown_rows.specs.Inner.{has_row}
use Rattle.shown_rows.proofs.ShownRows.{shown_row, shown_none}

-- no file group below g shows key k
pub record NoneBelow (slices : List ℕ) (present : List Bool) (values : List ℕ) (k g : ℕ) : Type 0 where
  pub low : g ≤ groups
  pub hidden : list_below g (shown present values (slice_in slices) k) ≡ []

-- a key past the last has no row
pub no_key : (slices values : List ℕ) (present : List Bool) {k : ℕ} → keys ≤ k → ◌≡◌ {A = Option Found} None (first_of (rows_of present values (slice_in slices) k))
unfolding cell
no_key slices values present {k} h =
    rw (none_below groups (shown present values (slice_in slices) k) (λ g l. rw (lt-ltb g groups l, le-ltb k keys h)))

pub search_none : {slices values : List ℕ} {present : List Bool} {k : ℕ} → NoneBelow slices present values k 0
unfolding list_below
search_none = record { low = omega arith; hidden = refl }

module _ {slices values : List ℕ} {present : List Bool} {k g : ℕ} (s : NoneBelow slices present values k g) where
  abbrev group_rows : ℕ → List Row
  group_rows = shown present values (slice_in slices) k

  module _ (key : k < keys) (l : g < groups) where
    pub search_hit : has_row slices present k g ≡ true
        → Some (record { value = row_in 0 values g (get_or slices g 0) k; group = g }) ≡ first_of (rows_of present values (slice_in slices) k)
    search_hit e = rw (list_rest (g + 1) groups group_rows (omega arith), list_more g group_rows, s.hidden, shown_row slices present values key l e)

    pub search_miss : has_row slices present k g ≡ false → NoneBelow slices present values k (g + 1)
    search_miss e = record { low = omega arith; hidden = list_more g group_rows ∙ rw (s.hidden, shown_none slices present values key l e) }
