-- Lists of completed timestamps: two tests that agree choose the same (`same_chosen`), what is chosen is completed (`chosen_completed`) and what is
-- completed and passes the test is chosen (`completed_chosen`); in a list with a place for each timestamp only the used ones are above 0 (`in_used`).
use Prim.Native.Nat.{ℕ, zero, suc, ◌-◌, ◌≤◌, ◌<◌}
use mathlib.Core.Path.{◌≡◌, refl}
use mathlib.Core.Logic.{⊎_elim}
use mathlib.Core.List.Memᴰ
use mathlib.Core.List.{List, Memᴰ}
use mathlib.Core.Bool.{Bool, true, and-eq-true_iff}
use mathlib.Core.Option.{some}
use native.Mathlib.Omega.{arith}
use lib.ListN.{length, replicate}
use Rattle.common.specs.Counting.{up_to}
use Rattle.common.proofs.Cases.{cond_iff, by_test}
use Rattle.common.proofs.Functions.{none_some}
use Rattle.common.proofs.ListBelow.{same_below, each_listed, mem_below}
use Rattle.model.specs.Limits.{timestamps}
use Rattle.model.specs.State.{has_completed, group_of_completed}
use Rattle.model.specs.Snapshot.{instant_of}
use Rattle.model.specs.Candidates.{completed_that, filled}
use Rattle.model.proofs.CompletedInstants.{group_completed, completed_at}

module _ (timeline : List ℕ) where
  -- two tests that agree on what is completed choose the same
  pub same_chosen : (p q : ℕ → Bool) → ((s g : ℕ) → completed_at timeline s ≡ some g → p s ≡ q s) → completed_that timeline p ≡ completed_that timeline q
  unfolding up_to group_completed
  same_chosen p q h =
      same_below (suc timestamps) _ _
      (λ s lt.
      by_test (has_completed (instant_of timeline s)) (λ e. rw (e, h s (group_of_completed (instant_of timeline s)) (rw e))) (λ e. rw e))

  -- what is chosen is completed
  pub chosen_completed : (p : ℕ → Bool) (s : ℕ) → Memᴰ s (completed_that timeline p) → has_completed (instant_of timeline s) ≡ true
  unfolding up_to
  chosen_completed p =
      each_listed (suc timestamps) _ (λ s. has_completed (instant_of timeline s) ≡ true)
      (λ i s.
      simp (cond_iff (λ (l : List ℕ). Memᴰ s l → has_completed (instant_of timeline s) ≡ true)) (
        λ e m. rw (Memᴰ.eq_of_singleton m) ((and-eq-true_iff (has_completed (instant_of timeline i)) (p i)).0 e).0,
        λ _ m. absurd (Memᴰ.not-nil m),
      ))

  -- what is completed, and passes the test, is chosen
  pub completed_chosen : (p : ℕ → Bool) (s g : ℕ) → s ≤ timestamps → completed_at timeline s ≡ some g → p s ≡ true → Memᴰ s (completed_that timeline p)
  unfolding up_to group_completed
  completed_chosen p s g le e t =
      mem_below (suc timestamps) _ s (omega arith)
      (by_test (has_completed (instant_of timeline s)) (λ q. rw (q, t) (Memᴰ.head refl)) (λ q. absurd (none_some (rw q) e)))

-- the unused places have 0
zeros_only : (n : ℕ) (s : ℕ) → Memᴰ s (replicate n 0) → s ≡ 0
zeros_only zero s m = absurd (Memᴰ.not-nil m)
zeros_only (suc n) s m = ⊎_elim (λ e. e) (zeros_only n s) (Memᴰ.cases_cons m)

pub in_used : (l : List ℕ) (s : ℕ) → 0 < s → Memᴰ s (filled l).timestamps → Memᴰ s l
in_used l s pos m = ⊎_elim (λ c. c) (λ z. absurd (omega (arith, zeros_only (timestamps - length l) s z))) (Memᴰ.append_cases l m)
