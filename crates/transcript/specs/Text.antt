-- The parts of the printed text, in ASCII: each answer in decimal on its own line, the stop, and the rows of a scan (document 01, The step log, the program).
use Rattle.std.specs.Prelude.{ℕ, zero, suc, ◌+◌, ◌-◌, ◌*◌, ◌/◌, ◌%◌, cond, ltb}
use mathlib.Core.List.{List, [], ◌∷◌, ◌++◌, flatten, map}
use Rattle.model.specs.Snapshot.{Row}

abbrev pub newline : ℕ
newline = 10

abbrev pub space : ℕ
space = 32

-- the digit 0; the others follow it
abbrev pub zero_digit : ℕ
zero_digit = 48

-- the most digits of a word: no word has more, and some have as many (`digits_fit` of proofs/Decimal.antt)
abbrev pub max_digits : ℕ
max_digits = 20

-- n in decimal, with at most k digits before its last
unfoldable pub decimal_in : ℕ → ℕ → List ℕ
decimal_in zero n = (zero_digit + n) ∷ []
decimal_in (suc k) n = cond (ltb n 10) ((zero_digit + n) ∷ []) (decimal_in k (n / 10) ++ (zero_digit + n % 10) ∷ [])

-- a word in decimal
unfoldable pub decimal : ℕ → List ℕ
decimal n = decimal_in (max_digits - 1) n

-- a number, and the byte behind it
unfoldable pub field : ℕ → ℕ → List ℕ
field n end = decimal n ++ end ∷ []

-- each answer on its own line
unfoldable pub answer_lines : List ℕ → List ℕ
answer_lines answers = flatten (map (λ a. field a newline) answers)

-- `stop ` and ` at `
abbrev pub stop_word : List ℕ
stop_word = 115 ∷ 116 ∷ 111 ∷ 112 ∷ 32 ∷ []

abbrev pub at_word : List ℕ
at_word = 32 ∷ 97 ∷ 116 ∷ 32 ∷ []

-- the line `stop N at OFFSET`
unfoldable pub stop_line : ℕ → ℕ → List ℕ
stop_line stop offset = stop_word ++ decimal stop ++ at_word ++ field offset newline

-- the line `key value group` of a row
unfoldable pub row_line : Row → List ℕ
row_line r = field r.key space ++ field r.value space ++ field r.group newline

-- each row on its own line
unfoldable pub row_lines : List Row → List ℕ
row_lines rows = flatten (map row_line rows)

-- room for the text of a run: an answer has at most three digits, the stop three, its offset and each number of a row as many as a word; then
-- words and line ends
abbrev pub answer_room : ℕ
answer_room = 3 + 1

abbrev pub stop_room : ℕ
stop_room = 5 + 3 + 4 + max_digits + 1

abbrev pub row_room : ℕ
row_room = 3 * (max_digits + 1)

abbrev pub run_room : ℕ → ℕ → ℕ
run_room answers rows = answer_room * answers + stop_room + row_room * rows

-- the line `too long`
abbrev pub too_long : List ℕ
too_long = 116 ∷ 111 ∷ 111 ∷ 32 ∷ 108 ∷ 111 ∷ 110 ∷ 103 ∷ newline ∷ []
