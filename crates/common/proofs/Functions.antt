-- Functions of numbers that are changed at one place, and lists read as such functions.
-- `upd_same`, `upd_other`, `upd_ind`, `upd_some`, `upd_none`, `upd_id` and `map_upd` are the laws of `upd`;
-- `get_d_upd` says that a list set at a place is its function updated there.
use Prim.Native.Nat.{ℕ, zero, suc, ◌<◌}
use mathlib.Core.Path.{◌≡◌, refl, sym, subst, fun_ext}
use mathlib.Core.Logic.{◌≢◌}
use mathlib.Core.List.{List}
use mathlib.Core.Option.{Option, none, some}
use native.Mathlib.Omega.{arith}
use lib.ListN.{length, get_or, set, replicate}
use lib.Seq.{get_or-set_same, get_or-set_other}
use borrow.Author.Tests.{eq-eqb, ne_eqb}
use Rattle.common.specs.Counting.{upd}
use Rattle.common.proofs.Cases.{cond_iff, facts}

pub none_some : {A : Type 0} {a : A} {o : Option A} → o ≡ none → o ≡ some a → ⊥
none_some {a} {o} e h = let z : ◌≡◌ {A = ℕ} 0 1 = cc in omega arith

pub some_inj : {A : Type 0} {a b : A} {o : Option A} → o ≡ some a → o ≡ some b → a ≡ b
some_inj e h = cc

module _ {A : Type 0} (f : ℕ → A) (i : ℕ) (x : A) where
  pub upd_same : upd f i x i ≡ x
  unfolding upd
  upd_same = rw (eq-eqb i i refl)

  pub upd_other : (j : ℕ) → j ≢ i → upd f i x j ≡ f j
  unfolding upd
  upd_other j ne = rw (ne_eqb j i ne)

  -- what holds at i of x, and elsewhere of f
  pub upd_ind : (P : ℕ → A → Type 0) → P i x → ((j : ℕ) → j ≢ i → P j (f j)) → (j : ℕ) → P j (upd f i x j)
  unfolding upd
  upd_ind P p h j =
      simp (cond_iff (P j), facts) (λ e. subst (λ (k : ℕ). P k x) (sym e) p, h j)

  pub upd_id : f i ≡ x → upd f i x ≡ f
  upd_id e = fun_ext (upd_ind (λ j y. y ≡ f j) (sym e) (λ j ne. refl))

-- what holds of every value that there is, also where another is put in or one taken out
module _ {A : Type 0} (P : A → Type 0) (f : ℕ → Option A) (i : ℕ) (h : (j : ℕ) (a : A) → f j ≡ some a → P a) where
  pub upd_some : (x : A) → P x → (j : ℕ) (a : A) → upd f i (some x) j ≡ some a → P a
  upd_some x p j a = upd_ind f i (some x) (λ j o. o ≡ some a → P a) (λ e. subst P (some_inj refl e) p) (λ j ne. h j a) j

  pub upd_none : (j : ℕ) (a : A) → upd f i none j ≡ some a → P a
  upd_none j a = upd_ind f i none (λ j o. o ≡ some a → P a) (λ e. absurd (none_some refl e)) (λ j ne. h j a) j

pub map_upd : {A B : Type 0} (g : A → B) (f : ℕ → A) (i : ℕ) (x : A) → (λ (j : ℕ). g (upd f i x j)) ≡ upd (λ (j : ℕ). g (f j)) i (g x)
map_upd {B} g f i x =
    let h : ℕ → B = λ j. g (f j) in
    fun_ext (upd_ind f i x (λ j y. g y ≡ upd h i (g x) j) (sym (upd_same h i (g x))) (λ j ne. sym (upd_other h i (g x) j ne)))

pub get_d_upd : {A : Type 0} (l : List A) (i : ℕ) (x d : A) → i < length l → (λ (j : ℕ). get_or (set l i x) j d) ≡ upd (λ (j : ℕ). get_or l j d) i x
get_d_upd {A} l i x d h =
    let f : ℕ → A = λ j. get_or l j d in
    sym (fun_ext (upd_ind f i x (λ j y. y ≡ get_or (set l i x) j d) (sym (get_or-set_same l i x d h)) (λ j ne. sym (get_or-set_other l i j x d ne))))

pub get_d_fresh : {A : Type 0} (n i : ℕ) (a : A) → get_or (replicate n a) i a ≡ a
get_d_fresh zero i a = refl
get_d_fresh (suc n) zero a = refl
get_d_fresh (suc n) (suc i) a = get_d_fresh n i a
