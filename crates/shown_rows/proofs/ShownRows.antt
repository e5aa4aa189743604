-- What the file groups' slices show of a key, in rows and in numbers.
--     shown_row, shown_none, shown_place    what a group shows, and where it stands; key_count    how many groups show a key
--     numbers_below, numbers_length    the numbers of rows made by counting, and how many there are
use Prim.Native.Nat.{ℕ, zero, suc, ◌*◌, ◌<◌, ◌≤◌}
use native.Mathlib.Omega.{arith}
use mathlib.Core.Bool.{Bool, true, false, false≢true}
use mathlib.Core.Path.{◌≡◌, refl, sym, ap}
use mathlib.Core.List.{List, [], ◌∷◌, ◌++◌}
use lib.ListN.{get_or, length}
use lib.Dec.{leb}
use borrow.Author.Tests.{leb-true, lt-ltb}
use Rattle.common.specs.Counting.{list_below, sum}
use Rattle.common.proofs.Cases.{by_test}
use Rattle.common.proofs.ListBelow.{sum_length}
use Rattle.model.specs.Limits.{keys, groups, timestamps}
use Rattle.model.specs.State.{row_in, cell}
use Rattle.model.specs.Snapshot.{Row, row, shown, rows_of, numbers}
use Rattle.shown_rows.specs.Slices.{timestamp_or0, slice_in}
use Rattle.shown_rows.specs.Inner.{HasPlace, has_row, number_of}

-- a timestamp that has slices is the one given
kept : (n : ℕ) → 0 < timestamp_or0 n → (timestamp_or0 n ≡ n) × (n ≤ timestamps)
kept n l =
    by_test (leb n timestamps) (λ e. (rw e, leb-true n timestamps e)) (λ e. let none : timestamp_or0 n ≡ 0 = rw e in absurd (omega arith))

row_slice : (present : List Bool) (g n k : ℕ) → row_in false present g n k ≡ true → 0 < n
row_slice present g zero k e = absurd (false≢true e)
row_slice present g (suc n) k e = omega arith

module _ (slices : List ℕ) (present : List Bool) (values : List ℕ) where
  module _ {k g : ℕ} (key : k < keys) (group : g < groups) where
    module _ (e : has_row slices present k g ≡ true) where
      given : (slice_in slices g ≡ get_or slices g 0) × (get_or slices g 0 ≤ timestamps)
      given = kept (get_or slices g 0) (row_slice present g (slice_in slices g) k e)

      pub shown_place : HasPlace g (get_or slices g 0) k
      shown_place = (group, (omega (arith, given.0, row_slice present g (slice_in slices g) k e), given.1), key)

      pub shown_row : shown present values (slice_in slices) k g ≡ row k (row_in 0 values g (get_or slices g 0) k) g ∷ []
      unfolding cell
      shown_row = rw (lt-ltb g groups group, lt-ltb k keys key, e) (ap (λ n. row k (row_in 0 values g n k) g ∷ []) given.0)

    pub shown_none : has_row slices present k g ≡ false → shown present values (slice_in slices) k g ≡ []
    unfolding cell
    shown_none e = rw (lt-ltb g groups group, lt-ltb k keys key, e)

    shown_count : number_of (has_row slices present k g) ≡ length (shown present values (slice_in slices) k g)
    shown_count = by_test (has_row slices present k g) (λ e. rw (shown_row e, e)) (λ e. rw (shown_none e, e))

  pub key_count : (k : ℕ) → k < keys → sum groups (λ g. number_of (has_row slices present k g)) ≡ length (rows_of present values (slice_in slices) k)
  key_count k key = sum_length groups (shown present values (slice_in slices) k) (λ g. number_of (has_row slices present k g)) (λ g l. shown_count key l)

numbers_append : (xs ys : List Row) → numbers (xs ++ ys) ≡ numbers xs ++ numbers ys
unfolding numbers
numbers_append [] ys = refl
numbers_append (x ∷ xs) ys = rw (numbers_append xs ys)

pub numbers_below : (n : ℕ) (f : ℕ → List Row) → list_below n (λ i. numbers (f i)) ≡ numbers (list_below n f)
unfolding list_below numbers
numbers_below zero f = refl
numbers_below (suc n) f = rw (numbers_below n f) (sym (numbers_append (list_below n f) (f n)))

pub numbers_length : (xs : List Row) → length (numbers xs) ≡ 3 * length xs
unfolding numbers
numbers_length [] = refl
numbers_length (x ∷ xs) = omega (arith, numbers_length xs)
