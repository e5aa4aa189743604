-- What the calls are stated to give, in numbers, where several traces state the same.
use Rattle.std.specs.Prelude.{ℕ, ◌-◌, List, [], ◌∷◌, ◌++◌, length, replicate, set}
use Rattle.model.specs.Limits.{groups}

-- no ground of 17: the step gives 10, the read 12, the scan 31, the instant is completed in group 7, the clean gives 34, and the candidates call 10
abbrev pub in_range_numbers : List ℕ
in_range_numbers = 10 ∷ 12 ∷ 31 ∷ 0 ∷ 99 ∷ 99 ∷ 0 ∷ 3 ∷ 7 ∷ 34 ∷ 10 ∷ []

-- a ground of 17: all six calls give it, and the scan stores nothing
abbrev pub out_of_range_numbers : List ℕ
out_of_range_numbers = 17 ∷ 17 ∷ 17 ∷ 0 ∷ 99 ∷ 99 ∷ 17 ∷ 17 ∷ 17 ∷ []

-- the locks where the one at a place is n, which is w + 1 for writer w and 0 for nobody, and the others are free
abbrev pub locks_with : ℕ → ℕ → List ℕ
locks_with p n = set (replicate groups 0) p n

-- the same of the table lock, which is the first
abbrev pub table_lock : ℕ → List ℕ
table_lock = locks_with 0

-- the record of a ready writer
abbrev pub ready_numbers : List ℕ
ready_numbers = 0 ∷ 0 ∷ 0 ∷ 0 ∷ 0 ∷ 0 ∷ 0 ∷ 0 ∷ []

-- n writers have nothing in progress
abbrev pub idle : ℕ → List ℕ
idle n = replicate n 0

-- the instant call gives these
abbrev pub is_none : List ℕ
is_none = 0 ∷ 0 ∷ []

abbrev pub is_requested : List ℕ
is_requested = 0 ∷ 1 ∷ []

abbrev pub is_inflight : ℕ → List ℕ
is_inflight g = 0 ∷ 2 ∷ g ∷ []

abbrev pub is_completed : ℕ → List ℕ
is_completed g = 0 ∷ 3 ∷ g ∷ []

-- n places that begin with some numbers, 0 behind them
abbrev pub padded : ℕ → List ℕ → List ℕ
padded n l = l ++ replicate (n - length l) 0

-- the candidates call answers 0 and gives one list by starts and one by completions, of 128 places each; where both are the same; and where it is refused
abbrev pub in_each : List ℕ → List ℕ → List ℕ
in_each starts completions = 0 ∷ length starts ∷ padded 128 starts ++ length completions ∷ padded 128 completions

abbrev pub in_both : List ℕ → List ℕ
in_both l = in_each l l

abbrev pub in_neither : ℕ → List ℕ
in_neither n = n ∷ 0 ∷ replicate 128 0 ++ 0 ∷ replicate 128 0

-- these places, counts and noted timestamps, sixteen for each writer, and 0 behind each
abbrev pub notes_given : List ℕ → List ℕ → List ℕ → List ℕ
notes_given places counts noted = padded 128 places ++ padded 16 counts ++ padded 256 noted
