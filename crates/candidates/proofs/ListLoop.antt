-- The loop that lists the completed timestamps of which a test holds: `ListedUpto` is its invariant, with one law for
-- each way round it.
--     list_none, list_next, list_skip, list_end    before the first timestamp, past one that is listed, past another,
--                                                  and past all
use Prim.Native.Nat.{ℕ, zero, suc, ◌+◌, ◌-◌, ◌<◌, ◌≤◌}
use native.Mathlib.Nat.{zero-add}
use native.Mathlib.Numerals.{add-one}
use native.Mathlib.Omega.{arith}
use mathlib.Core.Bool.{Bool, true, false, cond, ◌&&◌}
use mathlib.Core.List.{List, [], ◌∷◌, ◌++◌}
use mathlib.Core.Path.{◌≡◌, refl, sym, ◌∙◌, ap}
use lib.ListN.{length, get_or, set, drop, replicate, length-replicate, replicate-append-replicate}
use lib.Seq.{drop_at}
use Rattle.common.specs.Counting.{list_below, up_to}
use Rattle.common.specs.Pasting.{pasted}
use Rattle.common.proofs.Cases.{cond_each}
use Rattle.common.proofs.ListBelow.{length_below}
use Rattle.common.proofs.Pieces.{none_pasted, element_pasted}
use Rattle.common.proofs.PastedParts.{Putting, starts, same_length, goes_on, ends}
use Rattle.model.specs.Limits.{timestamps}
use Rattle.model.specs.State.{has_completed}
use Rattle.model.specs.Candidates.{completed_that, filled}

-- ---- the numbers 1, 2, .. of which a test holds, listed from the beginning of n zeros on
-- the number after i, if a test holds of i
abbrev pub next_if : (ℕ → Bool) → ℕ → List ℕ
next_if q i = cond (q i) (suc i ∷ []) []

-- those up to i are listed: `count` of them
pub record ListedUpto (q : ℕ → Bool) (n : ℕ) (list : List ℕ) (count i : ℕ) : Type 0 where
  pub few : count ≤ i
  pub put : Putting (next_if q) n (replicate n 0) 0 list count i

module _ (q : ℕ → Bool) (n : ℕ) where
  abbrev all : List ℕ
  all = list_below n (next_if q)

  short : (i : ℕ) → length (next_if q i) ≤ 1
  short i = cond_each (λ (l : List ℕ). length l ≤ 1) (q i) (suc i ∷ []) [] (omega arith) (omega arith)

  all_fit : length all ≤ n
  all_fit = omega (arith, length_below 1 n (next_if q) short)

  pub list_none : ListedUpto q n (replicate n 0) 0 0
  list_none = record { few = omega arith; put = starts (next_if q) n (replicate n 0) 0 (rw (length-replicate {A = ℕ} n 0) (omega (arith, all_fit))) }

drop_replicate : {A : Type 0} (n k : ℕ) (a : A) → k ≤ n → drop k (replicate n a) ≡ replicate (n - k) a
drop_replicate n k a h =
    let e : k + (n - k) ≡ n = omega arith in
    rw e at (ap (drop k) (sym (replicate-append-replicate k (n - k) a)) ∙ drop_at (replicate k a) (replicate (n - k) a) k (length-replicate k a))

module _ {q : ℕ → Bool} {n : ℕ} {list : List ℕ} {count i : ℕ} (v : ListedUpto q n list count i) where
  module _ (h : i < n) where
    pub list_skip : q i ≡ false → ListedUpto q n list count (i + 1)
    list_skip e = record { few = omega (arith, v.few); put = goes_on v.put h (rw e (none_pasted list count)) }

    pub list_next : q i ≡ true → ListedUpto q n (set list count (i + 1)) (count + 1) (i + 1)
    list_next e =
        let room : count < length list = omega (arith, v.few, same_length v.put, length-replicate {A = ℕ} n 0) in
        record { few = omega (arith, v.few); put = goes_on v.put h (rw (e, add-one i) (element_pasted list count (suc i) room)) }

  all_listed : n ≤ i → (count ≡ length (all q n)) × (list ≡ all q n ++ replicate (n - length (all q n)) 0)
  unfolding pasted
  all_listed h =
      let (counted, put) = simp zero-add at (ends v.put h) in
      (counted, put ∙ ap (◌++◌ (all q n)) (drop_replicate {A = ℕ} n (length (all q n)) 0 (all_fit q n)))

-- ---- the completed timestamps of which a test holds
-- is the timestamp after place i listed
abbrev pub is_listed : List ℕ → (ℕ → Bool) → ℕ → Bool
is_listed timeline p i = has_completed (get_or timeline i 0) && p (suc i)

-- a test that does not hold of 0
up_to_later : (p : ℕ → Bool) → p 0 ≡ false → (n : ℕ) → up_to n p ≡ list_below n (next_if (λ i. p (suc i)))
unfolding up_to list_below
up_to_later p e zero = rw e
up_to_later p e (suc n) = rw (up_to_later p e n)

module _ (timeline : List ℕ) (p : ℕ → Bool) where
  completed_listed : completed_that timeline p ≡ all (is_listed timeline p) timestamps
  completed_listed = up_to_later _ refl timestamps

  -- where its instant is completed the test decides, and else it is not listed
  pub listed_by : (i : ℕ) {b : Bool} → has_completed (get_or timeline i 0) ≡ true → b ≡ p (i + 1) → is_listed timeline p i ≡ b
  listed_by i h e = rw h (ap p (sym (add-one i)) ∙ sym e)

  pub not_completed : (i : ℕ) → has_completed (get_or timeline i 0) ≡ false → is_listed timeline p i ≡ false
  not_completed i h = rw h

  pub list_end : {list : List ℕ} {count i : ℕ} → ListedUpto (is_listed timeline p) timestamps list count i → timestamps ≤ i
      → record { count = count; timestamps = list } ≡ filled (completed_that timeline p)
  list_end v h = let (counted, put) = all_listed v h in rw (completed_listed, counted, put)
