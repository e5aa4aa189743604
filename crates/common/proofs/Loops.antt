-- Invariants of loops over the numbers below n. The check goes on from turn to turn by itself, but for sums: sum_none, sum_next.
--     SetUpto    a list is set place by place
--     Changed    a list is changed place by place
--     Summed     numbers are summed up
use Prim.Native.Nat.{ℕ, ◌+◌, ◌*◌, ◌<◌, ◌≤◌}
use native.Mathlib.Numerals.{add-one}
use native.Mathlib.Omega.{arith}
use mathlib.Core.Path.{◌≡◌, refl}
use mathlib.Core.List.{List}
use lib.ListN.{get_or, length}
use Rattle.common.specs.Counting.{sum}

-- a loop that sets a list of n elements, place by place: each below i is what f gives
pub record SetUpto {A : Type 0} (d : A) (f : ℕ → A) (n : ℕ) (xs : List A) (i : ℕ) : Type 0 where
  pub size : length xs ≡ n
  pub done : (j : ℕ) → j < i → get_or xs j d ≡ f j

-- a loop that changes a list of n numbers, `old`, place by place: each below i is what f makes of it, the others are as they were
pub record Changed (f : ℕ → ℕ → ℕ) (n : ℕ) (old xs : List ℕ) (i : ℕ) : Type 0 where
  pub size : length xs ≡ n
  pub done : (j : ℕ) → j < i → get_or xs j 0 ≡ f j (get_or old j 0)
  pub same : (j : ℕ) → i ≤ j → get_or xs j 0 ≡ get_or old j 0

-- a loop that sums up the numbers f 0, f 1, .., each at most m: those below i
pub record Summed (f : ℕ → ℕ) (m n total i : ℕ) : Type 0 where
  pub low : i ≤ n
  pub small : total ≤ m * i
  pub is : total ≡ sum i f

pub sum_none : {f : ℕ → ℕ} {m n : ℕ} → Summed f m n 0 0
unfolding sum
sum_none = record { low = omega arith; small = omega arith; is = refl }

pub sum_next : {f : ℕ → ℕ} {m n total i : ℕ} → Summed f m n total i → i < n → f i ≤ m → Summed f m n (total + f i) (i + 1)
unfolding sum
sum_next h l s = record { low = omega arith; small = omega (arith, h.small); is = rw (add-one, h.is) }
