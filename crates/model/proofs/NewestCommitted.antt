-- The newest of the committed operations that a test picks.
--     newest_ind      it is none, or one of them
--     newest_skip     one that the test does not pick does not count
--     newest_first    one above all others picked is the newest
--     newest_agree    two tests that agree on the list pick the same
-- `left` is what the newest one of a file group on a key left there, which are the rows of the group's slices:
--     left_skip       one of another group, or above t, changes nothing at t
--     left_between    timestamps with none of the group change nothing
--     left_last       one above all others of the group changes its own key alone
--     left_hidden     a group with none on the key has nothing there
--     left_shown      the group of all on the key has what the newest of all left
use Prim.Native.Nat.{ℕ, ◌≤◌, ◌<◌}
use mathlib.Core.Path.{◌≡◌, refl, sym, ap, ◌∙◌, fun_ext}
use mathlib.Core.Bool.{Bool, true, false, ◌&&◌}
use mathlib.Core.List.{List, [], ◌∷◌, Memᴰ}
use mathlib.Core.Option.{Option, none, some}
use native.Mathlib.Omega.{arith}
use lib.Dec.{eqb}
use borrow.Author.Tests.{lt-ltb}
use Rattle.common.specs.Counting.{upd}
use Rattle.model.specs.Rules.{key_of}
use Rattle.model.specs.History.{Committed, newer, newest_that, on_key, newest_on}
use Rattle.model.specs.declared.Operation.{Operation}
use Rattle.model.specs.declared.Operation.TheVariants.{Put, Remove}
use Rattle.common.proofs.Cases.{cond_iff, facts, refuted, both_ways}
use Rattle.common.proofs.Functions.{upd_ind}

module _ (picks : Committed → Bool) where
  newer_ind : (P : Option Committed → Type 0) (c : Committed) (o : Option Committed) → P (some c) → P o → P (newer c o)
  unfolding newer
  newer_ind P c none p q = p
  newer_ind P c (some d) p q = simp (cond_iff P) (λ _. p, λ _. q)

  pub newest_ind : (P : Option Committed → Type 0) (cs : List Committed) → P none → ((c : Committed) → Memᴰ c cs → picks c ≡ true → P (some c))
      → P (newest_that picks cs)
  unfolding newest_that
  newest_ind P [] p h = p
  newest_ind P (c ∷ cs) p h =
      let rest : P (newest_that picks cs) = newest_ind P cs p (λ d m. h d (Memᴰ.tail m)) in
      simp (cond_iff P) (λ e. newer_ind P c (newest_that picks cs) (h c (Memᴰ.head refl) e) rest, λ _. rest)

  pub newest_skip : (c : Committed) (cs : List Committed) → picks c ≡ false → newest_that picks (c ∷ cs) ≡ newest_that picks cs
  unfolding newest_that
  newest_skip c cs e = rw e

  newest_first : (c : Committed) (cs : List Committed) → picks c ≡ true → ((d : Committed) → Memᴰ d cs → picks d ≡ true → d.ts < c.ts)
      → newest_that picks (c ∷ cs) ≡ some c
  unfolding newest_that newer
  newest_first c cs e above = rw e (newest_ind (λ o. newer c o ≡ some c) cs refl (λ d m p. rw (lt-ltb d.ts c.ts (above d m p))))

newest_agree : (p q : Committed → Bool) (cs : List Committed) → ((c : Committed) → Memᴰ c cs → p c ≡ q c) → newest_that p cs ≡ newest_that q cs
unfolding newest_that
newest_agree p q [] h = refl
newest_agree p q (c ∷ cs) h = rw (h c (Memᴰ.head refl), newest_agree p q cs (λ d m. h d (Memᴰ.tail m)))

-- what an operation leaves at its key, and what the newest one left
abbrev pub left_by : Operation → Option ℕ
left_by (Put k v g) = some v
left_by (Remove k) = none

abbrev pub left_in : Option Committed → Option ℕ
left_in none = none
left_in (some c) = left_by c.operation

-- is a committed operation of file group g, on key k, and at or before t
abbrev in_group : ℕ → ℕ → ℕ → Committed → Bool
in_group g t k c = eqb c.group g && on_key k t c

-- what the newest committed operation of file group g on key k at or before t left there
unfoldable pub left : List Committed → ℕ → ℕ → ℕ → Option ℕ
left cs g t k = left_in (newest_that (in_group g t k) cs)

pub left_skip : (c : Committed) (cs : List Committed) (g t : ℕ) → (c.group ≡ g → t < c.ts) → left (c ∷ cs) g t ≡ left cs g t
unfolding left
left_skip c cs g t far =
    fun_ext (λ k. ap left_in (newest_skip (in_group g t k) c cs (refuted (λ e. let (group, (key, low)) = simp facts at e in omega (arith, far group)))))

pub left_between : (cs : List Committed) (g b t : ℕ) → b ≤ t → ((c : Committed) → Memᴰ c cs → c.group ≡ g → c.ts ≤ t → c.ts ≤ b)
    → left cs g t ≡ left cs g b
unfolding left
left_between cs g b t le low =
    fun_ext
    (λ k.
    ap left_in
    (newest_agree (in_group g t k) (in_group g b k) cs
    (λ c m.
    both_ways (λ e. let (group, (key, at)) = simp facts at e in simp facts (group, (key, low c m group at)))
    (λ e. let (group, (key, at)) = simp facts at e in simp facts (group, (key, omega arith))))))

pub left_last : (c : Committed) (cs : List Committed) (b : ℕ) → b < c.ts → ((d : Committed) → Memᴰ d cs → d.group ≡ c.group → d.ts ≤ b)
    → left (c ∷ cs) c.group c.ts ≡ upd (left cs c.group b) (key_of c.operation) (left_by c.operation)
unfolding left
left_last c cs b late low =
    fun_ext
    (upd_ind (left cs c.group b) (key_of c.operation) (left_by c.operation) (λ k y. left (c ∷ cs) c.group c.ts k ≡ y)
    (ap left_in
    (newest_first (in_group c.group c.ts (key_of c.operation)) c cs (simp facts (refl, (refl, omega arith)))
    (λ d m e. let (group, (key, at)) = simp facts at e in omega (arith, low d m group))))
    (λ k ne.
    ap left_in (newest_skip (in_group c.group c.ts k) c cs (refuted (λ e. let (group, (key, at)) = simp facts at e in ne (sym key))))
    ∙ ap (λ (f : ℕ → Option ℕ). f k) (left_between cs c.group b c.ts (omega arith) (λ d m group at. low d m group))))

module _ (cs : List Committed) (g t k : ℕ) where
  pub left_hidden : ((c : Committed) → Memᴰ c cs → key_of c.operation ≡ k → c.group ≡ g → ⊥) → left cs g t k ≡ none
  unfolding left
  left_hidden elsewhere =
      newest_ind (in_group g t k) (λ o. left_in o ≡ none) cs refl
      (λ c m e. let (group, (key, at)) = simp facts at e in absurd (elsewhere c m key group))

  pub left_shown : ((c : Committed) → Memᴰ c cs → key_of c.operation ≡ k → c.group ≡ g) → left cs g t k ≡ left_in (newest_on cs k t)
  unfolding left
  left_shown own =
      ap left_in
      (newest_agree (in_group g t k) (on_key k t) cs
      (λ c m.
      both_ways (λ e. let (group, (key, at)) = simp facts at e in simp facts (key, at))
      (λ e. let (key, at) = simp facts at e in simp facts (own c m key, (key, at)))))
