-- Tests of each number below n, as specs/Counting.antt has them.
--     below_all     a test that holds of each holds of all
--     below_stop    a test that fails of one fails of all
--     below_iff     it holds of all exactly if it does of each
--     below_same    two tests that agree below n
use Prim.Native.Nat.{ℕ, zero, suc, ◌<◌}
use mathlib.Core.Bool.{Bool, true, false, and-eq-true_iff}
use mathlib.Core.Logic.{◌↔◌}
use mathlib.Core.Path.{◌≡◌, refl, sym, ◌∙◌}
use native.Mathlib.Omega.{arith}
use borrow.Author.Count.{below_none, below_more}
use Rattle.common.specs.Counting.{each_below}

module _ (p : ℕ → Bool) where
  below_at : (n : ℕ) → each_below n p ≡ true → (i : ℕ) → i < n → p i ≡ true
  unfolding each_below
  below_at zero e i l = below_none (λ k. p k ≡ true) i l
  below_at (suc n) e i l =
      let (below, here) = (and-eq-true_iff (each_below n p) (p n)).0 e in
      below_more (λ k. p k ≡ true) n (below_at n below) here i (omega arith)

  pub below_all : (n : ℕ) → ((i : ℕ) → i < n → p i ≡ true) → each_below n p ≡ true
  unfolding each_below
  below_all zero f = refl
  below_all (suc n) f = rw (below_all n (λ i l. f i (omega arith)), f n (omega arith))

  pub below_stop : (n i : ℕ) → i < n → p i ≡ false → each_below n p ≡ false
  below_stop n i l e = go (each_below n p) refl
    where
      go : (b : Bool) → each_below n p ≡ b → b ≡ false
      go true h = sym (below_at n h i l) ∙ e
      go false h = refl

pub below_same : (p q : ℕ → Bool) (n : ℕ) → ((i : ℕ) → i < n → p i ≡ q i) → each_below n p ≡ each_below n q
unfolding each_below
below_same p q zero f = refl
below_same p q (suc n) f = rw (below_same p q n (λ i l. f i (omega arith)), f n (omega arith))

pub below_iff : (n : ℕ) (p : ℕ → Bool) → (each_below n p ≡ true) ↔ ((i : ℕ) → i < n → p i ≡ true)
below_iff n p = (below_at p n, below_all p n)
