-- The sizes of the parts of the text.
--     decimal_most       a number has at most max_digits digits
--     decimal_within     and no more than j, where it is below 10 ^ j
--     answers_most       n answers, each a byte, take at most 4 bytes each
--     stop_most          the line of a stop, a byte, has room in stop_room
--     rows_most          a row has room in row_room
--     run_most           so the text of a run has room
use mathlib.Core.Path.{◌≡◌}
use mathlib.Core.List.{List, [], ◌∷◌}
use mathlib.Core.Logic.{by_cases}
use Prim.Native.Nat.{ℕ, zero, suc, ◌+◌, ◌-◌, ◌*◌, ◌/◌, ◌^◌, ◌≤◌, ◌<◌}
use native.Mathlib.Decide.{dec_lt}
use native.Mathlib.Nat.{pow-succ'}
use native.Mathlib.Omega.{arith}
use lib.ListN.{length, get_or, length-append}
use Rattle.model.specs.Snapshot.{Row}
use Rattle.common.proofs.ListBelow.{length_below}
use Rattle.transcript.specs.Text.{newline, max_digits, decimal_in, decimal, field, answer_lines, stop_line, row_line, answer_room, stop_room, row_room, run_room}
use Rattle.transcript.specs.Inner.{row_of, number_lines, run_text}
use Rattle.transcript.proofs.Decimal.{short_in, long_in}
use Rattle.transcript.proofs.Lines.{answers_all}

-- ---- numbers
most_in : (k n : ℕ) → length (decimal_in k n) ≤ suc k
unfolding decimal_in
most_in zero n = omega arith
most_in (suc k) n = by_cases (dec_lt n 10)
    (λ h. rw (short_in (suc k) n h) (omega arith))
    (λ h. rw (long_in k n (omega arith), length-append) (omega (arith, most_in k (n / 10))))

within_in : (k j n : ℕ) → n < 10 ^ suc j → length (decimal_in k n) ≤ suc j
unfolding decimal_in
within_in zero j n h = omega arith
within_in (suc k) zero n h = rw (short_in (suc k) n (omega arith)) (omega arith)
within_in (suc k) (suc j) n h = by_cases (dec_lt n 10)
    (λ l. rw (short_in (suc k) n l) (omega arith))
    (λ l. rw (long_in k n (omega arith), length-append) (omega (arith, within_in k j (n / 10) (omega (arith, pow-succ' 10 (suc j))))))

pub decimal_most : (n : ℕ) → length (decimal n) ≤ max_digits
unfolding decimal
decimal_most n = most_in (max_digits - 1) n

pub decimal_within : (j n : ℕ) → 1 ≤ j → n < 10 ^ j → length (decimal n) ≤ j
unfolding decimal
decimal_within zero n some h = absurd (omega arith)
decimal_within (suc j) n some h = within_in (max_digits - 1) j n h

byte_within : (n : ℕ) → n < 256 → length (decimal n) ≤ 3
byte_within n h = decimal_within 3 n (omega arith) (omega arith)

field_length : (n end : ℕ) → length (field n end) ≡ length (decimal n) + 1
unfolding field
field_length n end = length-append (decimal n) (end ∷ [])

-- ---- lines
answers_most : (answers : List ℕ) → ((i : ℕ) → get_or answers i 0 < 256) → length (answer_lines answers) ≤ answer_room * length answers
answers_most answers bytes =
    rw (← answers_all answers) (length_below answer_room (length answers) _ (λ i. omega (
      arith,
      field_length (get_or answers i 0) newline,
      byte_within (get_or answers i 0) (bytes i),
    )))

stop_most : (stop offset : ℕ) → stop < 256 → length (stop_line stop offset) ≤ stop_room
unfolding stop_line
stop_most stop offset byte = simp length-append (omega (arith, byte_within stop byte, field_length offset newline, decimal_most offset))

row_most : (r : Row) → length (row_line r) ≤ row_room
unfolding row_line
row_most r =
    simp (length-append, field_length) (omega (arith, decimal_most r.key, decimal_most r.value, decimal_most r.group))

rows_most : (ns : List ℕ) (count : ℕ) → length (number_lines ns count) ≤ row_room * count
unfolding number_lines
rows_most ns count = length_below row_room count _ (λ i. row_most (row_of ns i))

pub run_most : (answers : List ℕ) (stop offset : ℕ) (ns : List ℕ) (rows : ℕ) → ((i : ℕ) → get_or answers i 0 < 256) → stop < 256
    → length (run_text answers stop offset ns rows) ≤ run_room (length answers) rows
unfolding run_text
run_most answers stop offset ns rows bytes byte =
    simp length-append (omega (arith, answers_most answers bytes, stop_most stop offset byte, rows_most ns rows))
