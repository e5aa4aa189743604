-- Completed instants, counted by a loop, and one of them taken out of the count.
--     CountTurn      what holds at each turn: count_goes_on, count_ends
--     others_less    the count of the others, of a timestamp that has an instant
use Prim.Native.Nat.{ℕ, zero, suc, ◌+◌, ◌-◌, ◌≤◌, ◌<◌}
use native.Mathlib.Numerals.{add-one, sub-one}
use native.Mathlib.Omega.{arith}
use mathlib.Core.Path.{◌≡◌, refl}
use mathlib.Core.List.{List, [], ◌∷◌}
use mathlib.Core.Bool.{cond}
use lib.ListN.{length, get_or, set, drop, drop_of_length-le}
use lib.Seq.{drop-cons}
use Rattle.common.proofs.Cases.{by_test}
use Rattle.model.specs.Limits.{timestamps}
use Rattle.model.specs.State.{has_completed}
use Rattle.model.specs.Notes.{completed_count, others_completed}
use Rattle.notes.specs.Inner.{CountIs}

-- what an instant counts
abbrev pub counted : ℕ → ℕ
counted i = cond (has_completed i) 1 0

none_counted : completed_count [] ≡ 0
unfolding completed_count
none_counted = refl

count_cons : (i : ℕ) (is : List ℕ) → completed_count (i ∷ is) ≡ counted i + completed_count is
unfolding completed_count
count_cons i is = by_test (has_completed i) (λ e. rw e (omega arith)) (λ e. rw e (omega arith))

-- it counts at most one
counts_one : {r : ℕ} (i : ℕ) → r ≡ counted i → r ≤ 1
counts_one i e = rw e (by_test (has_completed i) (λ e. rw e (omega arith)) (λ e. rw e (omega arith)))

-- a loop over the n instants of a timeline has come to the place i: what it has counted, with what is still ahead, is the count
pub record CountTurn (n : ℕ) (l : List ℕ) (count i : ℕ) : Type 0 where
  pub size : length l ≡ n
  pub low : i ≤ n
  pub small : count ≤ i
  pub is : count + completed_count (drop i l) ≡ completed_count l

module _ {l : List ℕ} {count i : ℕ} (h : CountTurn timestamps l count i) where
  pub count_goes_on : {one : ℕ} → i < length l → one ≡ counted (get_or l i 0) → CountTurn timestamps l (count + one) (i + 1)
  count_goes_on {one} lt e =
      let turn : completed_count (drop i l) ≡ counted (get_or l i 0) + completed_count (drop (i + 1) l) =
      rw (drop-cons l i 0 lt, add-one) (count_cons (get_or l i 0) (drop (suc i) l)) in
      record { size = h.size; low = omega (arith, h.size); small = omega (arith, h.small, counts_one (get_or l i 0) e); is = omega (arith, h.is, e, turn) }

  pub count_ends : length l ≤ i → CountIs count (completed_count l)
  count_ends le =
      let behind : completed_count (drop i l) ≡ 0 = rw (drop_of_length-le l {i = i} le) none_counted in
      record { is = omega (arith, h.is, behind); most = omega (arith, h.small, h.low) }

-- one instant taken out of the count
count_without : (l : List ℕ) (i : ℕ) → i < length l → completed_count l ≡ completed_count (set l i 0) + counted (get_or l i 0)
unfolding completed_count
count_without [] i lt = absurd (omega arith)
count_without (x ∷ l) zero lt = by_test (has_completed x) (λ e. rw e) (λ e. rw e (omega arith))
count_without (x ∷ l) (suc i) lt =
    let rest = count_without l i (omega arith) in
    by_test (has_completed x) (λ e. rw e (omega (arith, rest))) (λ e. rw e (omega (arith, rest)))

pub others_less : (l : List ℕ) (n : ℕ) {own : ℕ} → n - 1 < length l → 0 < n → own ≡ counted (get_or l (n - 1) 0) → completed_count l ≡ others_completed l n + own
others_less l zero lt pos e = absurd (omega arith)
others_less l (suc m) lt pos e = rw (e, sub-one (suc m)) (count_without l m (rw (sub-one (suc m)) at lt))
