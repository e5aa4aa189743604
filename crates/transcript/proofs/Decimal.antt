-- Numbers in decimal.
--     digits_fit        the most digits of a word
--     decimal_short     a number below 10 is one digit
--     decimal_long      any other word is the digits before its last, and the last
--     decimal_pieces    which are its pieces
use mathlib.Core.Path.{◌≡◌, refl, sym, ◌∙◌}
use mathlib.Core.List.{[], ◌∷◌, ◌++◌, flatten}
use mathlib.Core.Logic.{by_cases}
use Prim.Native.Nat.{ℕ, zero, suc, ◌+◌, ◌-◌, ◌/◌, ◌%◌, ◌^◌, ◌≤◌, ◌<◌}
use native.Mathlib.Decide.{dec_lt}
use native.Mathlib.Nat.{pow-succ'}
use native.Mathlib.Omega.{arith}
use borrow.Author.Tests.{lt-ltb, le-ltb}
use Rattle.common.specs.Width.{range}
use Rattle.transcript.specs.Text.{zero_digit, max_digits, decimal_in, decimal}

-- ---- with at most k digits before the last
pub short_in : (k n : ℕ) → n < 10 → decimal_in k n ≡ (zero_digit + n) ∷ []
unfolding decimal_in
short_in zero n h = refl
short_in (suc k) n h = rw (lt-ltb n 10 h)

pub long_in : (k n : ℕ) → 10 ≤ n → decimal_in (suc k) n ≡ decimal_in k (n / 10) ++ (zero_digit + n % 10) ∷ []
unfolding decimal_in
long_in k n h = rw (le-ltb n 10 h)

-- room for more digits than a number has changes nothing
more_room : (k n : ℕ) → n < 10 ^ suc k → decimal_in (suc k) n ≡ decimal_in k n
more_room zero n h = short_in 1 n (omega arith) ∙ sym (short_in 0 n (omega arith))
more_room (suc k) n h = by_cases (dec_lt n 10)
    (λ l. short_in (suc (suc k)) n l ∙ sym (short_in (suc k) n l))
    (λ l. rw (long_in (suc k) n (omega arith), long_in k n (omega arith), more_room k (n / 10) (omega (arith, pow-succ' 10 (suc k)))))

-- ---- a word
-- no word has more digits, and some have as many
pub digits_fit : (range ≤ 10 ^ max_digits) × (10 ^ (max_digits - 1) < range)
digits_fit = omega arith

pub decimal_short : (n : ℕ) → n < 10 → decimal n ≡ (zero_digit + n) ∷ []
unfolding decimal
decimal_short n h = short_in (max_digits - 1) n h

pub decimal_long : (n : ℕ) → 10 ≤ n → n < range → decimal n ≡ decimal (n / 10) ++ (zero_digit + n % 10) ∷ []
unfolding decimal
decimal_long n h fits = rw (more_room (max_digits - 2) (n / 10) (omega (arith, digits_fit))) (long_in (max_digits - 2) n h)

pub decimal_pieces : (n : ℕ) → 10 ≤ n → n < range → decimal n ≡ flatten (decimal (n / 10) ∷ ((zero_digit + n % 10) ∷ []) ∷ [])
unfolding flatten
decimal_pieces n h fits = decimal_long n h fits
