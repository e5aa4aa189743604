-- The largest number of a list: the loop that takes it, and the tests of answer 17 as tests of it.
--     largest_next, largest_end    a turn of the loop over the numbers, and its end
--     at_most_largest              each of some numbers is at most n exactly if the largest is
use Prim.Native.Nat.{ℕ, ◌+◌, ◌<◌, ◌≤◌, max}
use native.Mathlib.Numerals.{add-one}
use native.Mathlib.Omega.{arith}
use mathlib.Core.Bool.{Bool, true, false, ◌&&◌}
use mathlib.Core.List.{List, [], ◌∷◌}
use mathlib.Core.Path.{◌≡◌, refl, sym}
use lib.ListN.{length, drop, get_or, drop_of_length-le}
use lib.Seq.{drop-cons}
use lib.Dec.{leb, leb-zero}
use borrow.Author.Tests.{leb-true, leb-false, le-leb, lt-leb}
use Rattle.model.specs.Range.{all_at_most}
use Rattle.metadata.specs.Largest.{largest}

module _ (xs : List ℕ) (most i : ℕ) where
  pub largest_next : i < length xs → max (max most (get_or xs i 0)) (largest (drop (i + 1) xs)) ≡ max most (largest (drop i xs))
  unfolding largest
  largest_next l = rw (drop-cons xs i 0 l, add-one) (omega arith)

  pub largest_end : length xs ≤ i → max most (largest (drop i xs)) ≡ most
  unfolding largest
  largest_end l = rw (drop_of_length-le xs l) (omega arith)

-- the larger of two numbers is at most n exactly if both are
leb_max : (a b n : ℕ) → leb (max a b) n ≡ (leb a n && leb b n)
leb_max a b n = go (leb a n) (leb b n) refl refl
  where
    go : (p q : Bool) → leb a n ≡ p → leb b n ≡ q → leb (max a b) n ≡ (p && q)
    go true true e h = le-leb (max a b) n (omega (arith, leb-true a n e, leb-true b n h))
    go true false e h = lt-leb (max a b) n (omega (arith, leb-false b n h))
    go false q e h = lt-leb (max a b) n (omega (arith, leb-false a n e))

-- each of some numbers is at most n exactly if the largest is
pub at_most_largest : (n : ℕ) (xs : List ℕ) → all_at_most n xs ≡ leb (largest xs) n
unfolding largest all_at_most
at_most_largest n [] = sym (leb-zero n)
at_most_largest n (x ∷ xs) = rw (leb_max, ← at_most_largest n xs)
