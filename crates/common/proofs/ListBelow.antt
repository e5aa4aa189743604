-- Lists over the numbers below n.
--     same_below, none_below, one_below    two that agree, and one that is empty, at all places or but for one
--     length_below                         one with at most m elements at each place
--     each_listed                          what holds of the elements at each place holds of all
--     mem_below                            an element at a place is one of all
--     list_more, length_more               one number more
--     list_rest, list_whole                the part below n, and where that is all
--     sum_length                           the length as a sum
use Prim.Native.Nat.{ℕ, zero, suc, ◌+◌, ◌-◌, ◌*◌, ◌≤◌, ◌<◌}
use mathlib.Core.Path.{◌≡◌, refl, sym, ◌∙◌, ap}
use mathlib.Core.Logic.{◌≢◌, by_cases, ⊎_elim}
use mathlib.Core.List.Memᴰ
use mathlib.Core.List.{List, [], ◌∷◌, ◌++◌, append-nil, append_assoc, Memᴰ}
use native.Mathlib.Decide.{ℕ_discrete}
use native.Mathlib.Numerals.{add-one}
use native.Mathlib.Omega.{arith}
use lib.ListN.{length, length-append}
use Rattle.common.specs.Counting.{list_below, sum}

module _ {A : Type 0} where
  pub same_below : (n : ℕ) (f g : ℕ → List A) → ((i : ℕ) → i < n → f i ≡ g i) → list_below n f ≡ list_below n g
  unfolding list_below
  same_below zero f g h = refl
  same_below (suc n) f g h = rw (same_below n f g (λ i lt. h i (omega arith)), h n (omega arith))

  pub none_below : (n : ℕ) (f : ℕ → List A) → ((i : ℕ) → i < n → f i ≡ []) → list_below n f ≡ []
  unfolding list_below
  none_below zero f h = refl
  none_below (suc n) f h = rw (none_below n f (λ i lt. h i (omega arith)), h n (omega arith))

  pub one_below : (n : ℕ) (f : ℕ → List A) (j : ℕ) → j < n → ((i : ℕ) → i < n → i ≢ j → f i ≡ []) → list_below n f ≡ f j
  unfolding list_below
  one_below zero f j lt h = absurd (omega arith)
  one_below (suc n) f j lt h =
      by_cases (ℕ_discrete n j) (λ e. rw (none_below n f (λ i l. h i (omega arith) (omega arith)), e))
      (λ ne. rw (one_below n f j (omega arith) (λ i l. h i (omega arith)), h n (omega arith) ne) (append-nil (f j)))

  pub length_below : (m n : ℕ) (f : ℕ → List A) → ((i : ℕ) → length (f i) ≤ m) → length (list_below n f) ≤ m * n
  unfolding list_below
  length_below m zero f h = omega arith
  length_below m (suc n) f h = rw length-append (omega (arith, length_below m n f h, h n))

  pub each_listed : (n : ℕ) (f : ℕ → List A) (P : A → Type 0) → ((i : ℕ) (x : A) → Memᴰ x (f i) → P x) → (x : A) → Memᴰ x (list_below n f) → P x
  unfolding list_below
  each_listed zero f P h x m = absurd (Memᴰ.not-nil m)
  each_listed (suc n) f P h x m = ⊎_elim (each_listed n f P h x) (h n x) (Memᴰ.append_cases (list_below n f) m)

  pub mem_below : {a : A} (n : ℕ) (f : ℕ → List A) (i : ℕ) → i < n → Memᴰ a (f i) → Memᴰ a (list_below n f)
  unfolding list_below
  mem_below zero f i lt m = absurd (omega arith)
  mem_below (suc n) f i lt m =
      by_cases (ℕ_discrete i n) (λ e. Memᴰ.append_right (list_below n f) (rw e at m)) (λ ne. Memᴰ.append_left (f n) (mem_below n f i (omega arith) m))

pub no_length : {A : Type 0} (l : List A) → length l ≡ 0 → l ≡ []
no_length [] e = refl
no_length (x ∷ xs) e = absurd (omega arith)

module _ {A : Type 0} where
  pub list_more : (n : ℕ) (f : ℕ → List A) → list_below (n + 1) f ≡ list_below n f ++ f n
  unfolding list_below
  list_more n f = rw add-one

  pub length_more : (n : ℕ) (f : ℕ → List A) → length (list_below (n + 1) f) ≡ length (list_below n f) + length (f n)
  length_more n f = ap length (list_more n f) ∙ length-append (list_below n f) (f n)

  -- the part below n, and what comes behind
  list_split : (m n : ℕ) (f : ℕ → List A) → list_below (n + m) f ≡ list_below n f ++ list_below m (λ i. f (n + i))
  unfolding list_below
  list_split zero n f = let e : n + 0 ≡ n = omega arith in rw e (sym (append-nil (list_below n f)))
  list_split (suc m) n f =
      let e : n + suc m ≡ suc (n + m) = omega arith in
      rw (e, list_split m n f) (append_assoc (list_below n f) (list_below m (λ i. f (n + i))) (f (n + m)))

  module _ (n all : ℕ) (f : ℕ → List A) (h : n ≤ all) where
    abbrev rest : List A
    rest = list_below (all - n) (λ i. f (n + i))

    pub list_rest : list_below all f ≡ list_below n f ++ rest
    list_rest = let e : n + (all - n) ≡ all = omega arith in rw e at (list_split (all - n) n f)

    pub list_whole : length (list_below n f) ≡ length (list_below all f) → list_below n f ≡ list_below all f
    list_whole e =
        let l = ap length list_rest ∙ length-append (list_below n f) rest in
        sym (list_rest ∙ rw (no_length rest (omega arith)) (append-nil (list_below n f)))

  pub sum_length : (n : ℕ) (f : ℕ → List A) (c : ℕ → ℕ) → ((i : ℕ) → i < n → c i ≡ length (f i)) → sum n c ≡ length (list_below n f)
  unfolding list_below sum
  sum_length zero f c h = refl
  sum_length (suc n) f c h =
      rw (sum_length n f c (λ i l. h i (omega arith)), h n (omega arith)) (sym (length-append (list_below n f) (f n)))
