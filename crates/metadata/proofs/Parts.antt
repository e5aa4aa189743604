-- The range test of a table in parts.
--     parts_lem     what the writers share, what is noted, and the writers, each tested by itself
--     below_list    a test of the element at each place is one of each element
use Prim.Native.Nat.{ℕ, zero, suc, ◌≤◌}
use native.Mathlib.Numerals.{add-one}
use native.Mathlib.Omega.{arith}
use mathlib.Core.Bool.{Bool, ◌&&◌, and-true, and_assoc}
use mathlib.Core.List.{List}
use mathlib.Core.Path.{◌≡◌, refl, ◌∙◌, ap}
use lib.ListN.{get_or, length, take}
use Rattle.std.specs.List.{list_all}
use Rattle.std.proofs.lemmas.List.Folds.{list_all_more}
use Rattle.std.proofs.lemmas.List.{take_all}
use Rattle.common.specs.Counting.{each_below}
use Rattle.model.specs.State.{Notes, State}
use Rattle.model.specs.Range.{in_range, writers_in_range, notes_in_range}
use Rattle.model.specs.declared.Writer.{Writer}
use Rattle.metadata.specs.Inner.{shared_in_range}
use Rattle.metadata.specs.Parts.{with_parts}

pub parts_lem : (st : State) (horizon last : ℕ) (locks : List ℕ) (ws : List Writer) (index timeline : List ℕ) (n : Notes) → st.horizon ≡ horizon
    → in_range (with_parts st last locks ws index timeline n)
    ≡ ((shared_in_range horizon last locks index timeline && writers_in_range last ws) && notes_in_range last n)
unfolding in_range
parts_lem st horizon last locks ws index timeline n h = rw h (simp (and_assoc, and-true))

below_list_taken : {A : Type 0} (p : A → Bool) (d : A) (xs : List A) (n : ℕ) → n ≤ length xs → each_below n (λ i. p (get_or xs i d)) ≡ list_all p (take n xs)
unfolding each_below
below_list_taken p d xs zero le = refl
below_list_taken p d xs (suc n) le = rw (below_list_taken p d xs n (omega arith), ← add-one, list_all_more p xs n d (omega arith))

pub below_list : {A : Type 0} (p : A → Bool) (d : A) (xs : List A) {n : ℕ} → length xs ≡ n → each_below n (λ i. p (get_or xs i d)) ≡ list_all p xs
below_list p d xs {n} e = below_list_taken p d xs n (omega (arith, e)) ∙ ap (list_all p) (take_all n xs (omega (arith, e)))
