-- The locks of a table as a function of their places.
--     freed_at                      where a writer frees its locks, each is released
--     released_other, released_own  a released lock is another writer's as before, and not its own
--     taken_other, taken_own        the same of a step that takes a lock which no other writer holds, or takes none
--     taken_holds                   which locks a writer holds after such a step
use Prim.Native.Nat.{ℕ, zero, suc, ◌+◌}
use mathlib.Core.Path.{◌≡◌, refl, sym, ◌∙◌}
use mathlib.Core.Logic.{◌≢◌}
use mathlib.Core.List.{List, [], ◌∷◌}
use mathlib.Core.Bool.{Bool, true, false, cond}
use native.Mathlib.Omega.{arith}
use lib.ListN.{get_or}
use Rattle.common.specs.Counting.{upd}
use Rattle.model.specs.Rules.{released, freed}
use Rattle.common.proofs.Cases.{cond_iff, facts}
use Rattle.common.proofs.Functions.{upd_same, upd_ind}

pub freed_at : (w : ℕ) (locks : List ℕ) (p : ℕ) → get_or (freed w locks) p 0 ≡ released (get_or locks p 0) w
freed_at w [] p = simp (cond_iff (λ (l : ℕ). 0 ≡ l)) (λ _. refl, λ _. refl)
freed_at w (l ∷ locks) zero = refl
freed_at w (l ∷ locks) (suc p) = freed_at w locks p

module _ (l w : ℕ) where
  pub released_other : (u : ℕ) → u ≢ w → (l ≡ u + 1 → released l w ≡ u + 1) × (released l w ≡ u + 1 → l ≡ u + 1)
  released_other u ne = (
    λ e. simp (cond_iff (λ r. r ≡ u + 1), facts) (λ held. absurd (omega arith), λ _. e),
    simp (cond_iff (λ r. r ≡ u + 1 → l ≡ u + 1)) (λ _ e. absurd (omega arith), λ _ e. e),
  )

  pub released_own : released l w ≢ w + 1
  released_own = simp (cond_iff (λ r. r ≢ w + 1), facts) (λ _. omega arith, λ free. free)

-- the locks l after a step of writer w that takes the one at p, if `takes` says so
abbrev pub taken_if : Bool → (ℕ → ℕ) → ℕ → ℕ → ℕ → ℕ
taken_if takes l p w = cond takes (upd l p (w + 1)) l

module _ (takes : Bool) (l : ℕ → ℕ) (p w : ℕ) where
  pub taken_other : (takes ≡ true → l p ≢ 0 → l p ≡ w + 1) → (u : ℕ) → u ≢ w
      → (q : ℕ) → (l q ≡ u + 1 → taken_if takes l p w q ≡ u + 1) × (taken_if takes l p w q ≡ u + 1 → l q ≡ u + 1)
  taken_other free u ne q =
      simp (cond_iff (λ (f : ℕ → ℕ). (l q ≡ u + 1 → f q ≡ u + 1) × (f q ≡ u + 1 → l q ≡ u + 1))) (
        λ e.
            upd_ind l p (w + 1) (λ q m. (l q ≡ u + 1 → m ≡ u + 1) × (m ≡ u + 1 → l q ≡ u + 1))
            (λ h. sym (free e (λ z. omega arith)) ∙ h, λ h. absurd (omega arith)) (λ q ne. (λ h. h, λ h. h)) q,
        λ _. (λ h. h, λ h. h),
      )

  pub taken_own : (takes ≡ false → l p ≡ w + 1) → taken_if takes l p w p ≡ w + 1
  taken_own held = simp (cond_iff (λ (f : ℕ → ℕ). f p ≡ w + 1)) (λ _. upd_same l p (w + 1), held)

  pub taken_holds : {P : ℕ → Type 0} → (takes ≡ true → P p) → ((q : ℕ) → l q ≡ w + 1 → P q) → (q : ℕ) → taken_if takes l p w q ≡ w + 1 → P q
  taken_holds {P} took had q =
      simp (cond_iff (λ (f : ℕ → ℕ). f q ≡ w + 1 → P q))
      (λ e. upd_ind l p (w + 1) (λ q m. m ≡ w + 1 → P q) (λ _. took e) (λ q ne. had q) q, λ _. had q)
