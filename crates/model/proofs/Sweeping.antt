-- The rows after a sweep of the slices that a clean drops, where each instant is coded.
--     dropped_below    what is dropped is completed, and below the newest of its file group at or below c
--     swept_length     the rows keep their number
--     swept_other      a row that is of no dropped slice is as it was
--     swept_own        one of a dropped slice is absent
--     swept_again      a second sweep changes nothing
use Prim.Native.Nat.{ℕ, zero, suc, ◌≤◌, ◌<◌}
use mathlib.Core.Path.{◌≡◌, refl, sym, ◌∙◌}
use mathlib.Core.Logic.{◌≢◌, by_cases}
use mathlib.Core.List.{List}
use mathlib.Core.Bool.{Bool, true, false, true≢false}
use native.Mathlib.Decide.{ℕ_discrete}
use native.Mathlib.Omega.{arith}
use lib.ListN.{length, get_or}
use lib.Seq.{set-get_or}
use borrow.Author.Tests.{ne_eqb}
use Rattle.model.specs.Limits.{keys, groups, timestamps, rows}
use Rattle.model.specs.State.{completed, group_of_completed, newest, row_at, row_in}
use Rattle.model.specs.Rules.{copied}
use Rattle.model.specs.Snapshot.{instant_of}
use Rattle.model.specs.Cleaning.{drops, swept}
use Rattle.common.proofs.Cases.{cond_iff, facts}
use Rattle.model.proofs.Slices.{copied_length, copied_other, copied_own}

pub dropped_below : (timeline : List ℕ) (c s : ℕ) → drops timeline c s ≡ true
    → (completed 0 ≤ instant_of timeline s) × (s < newest timeline (group_of_completed (instant_of timeline s)) c)
unfolding drops
dropped_below timeline c s e = simp facts at e

-- rows that are absent are dropped without a change
absent_emptied : (l : List Bool) (g n : ℕ) → 0 < n → ((k : ℕ) → k < keys → row_in false l g n k ≡ false) → (j : ℕ) → j ≤ keys
    → copied false l g 0 n j ≡ l
unfolding copied
absent_emptied l g n pos absent zero le = refl
absent_emptied l g n pos absent (suc j) le =
    let row : get_or l (row_at g n j) false ≡ false = rw (ne_eqb n 0 (omega arith)) at (absent j le) in
    rw (absent_emptied l g n pos absent j (omega arith), ← row) (set-get_or l (row_at g n j) false)

module _ (timeline : List ℕ) (c : ℕ) (coded : (i : ℕ) → i < timestamps → get_or timeline i 0 < completed groups) (ps : List Bool) where
  abbrev sweep : ℕ → List Bool
  sweep = swept timeline c ps

  -- the file group of the instant of a timestamp that is dropped
  abbrev group_at : ℕ → ℕ
  group_at s = group_of_completed (instant_of timeline s)

  inside : (n : ℕ) → n < timestamps → drops timeline c (suc n) ≡ true → group_at (suc n) < groups
  inside n lt e = omega (arith, coded n lt, (dropped_below timeline c (suc n) e).0)

  pub swept_length : (n : ℕ) → length (sweep n) ≡ length ps
  unfolding swept
  swept_length zero = refl
  swept_length (suc n) =
      simp (cond_iff (λ (l : List Bool). length l ≡ length ps))
      (λ _. copied_length false (sweep n) (group_at (suc n)) _ (suc n) keys ∙ swept_length n, λ _. swept_length n)

  pub swept_other : (n g s k : ℕ) → n ≤ timestamps → (g < groups) × (k < keys) → (drops timeline c s ≡ true → group_at s ≢ g)
      → row_in false (sweep n) g s k ≡ row_in false ps g s k
  unfolding swept
  swept_other zero g s k le small other = refl
  swept_other (suc n) g s k le small other =
      simp (cond_iff (λ (l : List Bool). row_in false l g s k ≡ row_in false ps g s k)) (
        λ e.
            copied_other false (sweep n) (group_at (suc n)) _ (suc n) (omega arith) (inside n le e) keys g s k (omega arith)
            (λ p q. other (rw q e) (rw (p, q))) small
            ∙ swept_other n g s k (omega arith) small other,
        λ _. swept_other n g s k (omega arith) small other,
      )

  pub swept_own : length ps ≡ rows → (n s k : ℕ) → n ≤ timestamps → s < n → k < keys → drops timeline c (suc s) ≡ true
      → row_in false (sweep n) (group_at (suc s)) (suc s) k ≡ false
  unfolding swept
  swept_own size zero s k le lt small drop = absurd (omega arith)
  swept_own size (suc n) s k le lt small drop =
      let sized = swept_length n in
      simp (cond_iff (λ (l : List Bool). row_in false l (group_at (suc s)) (suc s) k ≡ false)) (
        λ e.
            by_cases (ℕ_discrete s n)
            (λ q.
            rw q
            (copied_own false (sweep n) (group_at (suc n)) 0 (suc n) (omega arith) (inside n le e) (omega arith) keys k (omega arith) small))
            (λ ne.
            copied_other false (sweep n) (group_at (suc n)) 0 (suc n) (omega arith) (inside n le e) keys (group_at (suc s)) (suc s) k (omega arith)
            (λ _ q. ne (omega arith)) (inside s (omega arith) drop, small)
            ∙ swept_own size n s k (omega arith) (omega arith) small drop),
        λ e.
            by_cases (ℕ_discrete s n) (λ q. absurd (true≢false (sym drop ∙ rw q e)))
            (λ ne. swept_own size n s k (omega arith) (omega arith) small drop),
      )

  pub swept_again : length ps ≡ rows → (m n : ℕ) → m ≤ n → n ≤ timestamps → swept timeline c (sweep n) m ≡ sweep n
  unfolding swept
  swept_again size zero n le high = refl
  swept_again size (suc m) n le high =
      let again = swept_again size m n (omega arith) high in
      simp (cond_iff (λ (l : List Bool). l ≡ sweep n)) (
        λ e. rw again (absent_emptied (sweep n) (group_at (suc m)) (suc m) (omega arith) (λ k small. swept_own size n m k high le small e) keys (omega arith)),
        λ _. again,
      )
