-- What is put part by part, or piece by piece, is what the definitions give.
--     answers_all       the lines of answers, one at a time, are their text
--     rows_all          the lines of the numbers that a scan stores are those of its rows
--     field_pieces      a field by its number and the byte behind it
--     row_pieces        the line of a row by its fields
--     stop_pieces       the line of a stop by its words and numbers
--     run_pieces        the text of a run by its parts
use mathlib.Core.Path.{◌≡◌, refl, ap, ◌∙◌}
use mathlib.Core.List.{List, [], ◌∷◌, flatten, append_assoc, append-nil}
use Prim.Native.Nat.{ℕ, zero, suc, ◌+◌, ◌*◌, ◌<◌}
use native.Mathlib.Omega.{arith}
use lib.ListN.{length, get_or}
use lib.Seq.{get_or-append-add}
use Rattle.common.specs.Counting.{list_below}
use Rattle.model.specs.Snapshot.{Row, row, numbers}
use Rattle.common.proofs.ListBelow.{same_below}
use Rattle.common.proofs.Pieces.{each_all}
use Rattle.transcript.specs.Text.{newline, space, decimal, field, answer_lines, stop_word, at_word, stop_line, row_line, row_lines}
use Rattle.transcript.specs.Inner.{row_of, number_lines, run_text}

-- the line of an answer
abbrev pub answer_line : List ℕ → ℕ → List ℕ
answer_line answers i = field (get_or answers i 0) newline

pub answers_all : (answers : List ℕ) → list_below (length answers) (answer_line answers) ≡ answer_lines answers
unfolding answer_lines
answers_all answers = each_all (λ a. field a newline) answers 0

-- behind the first three numbers
skipped : (k v g : ℕ) (ns : List ℕ) (n m : ℕ) → m ≡ 3 + n → get_or (k ∷ v ∷ g ∷ ns) m 0 ≡ get_or ns n 0
skipped k v g ns n m e = rw e (get_or-append-add (k ∷ v ∷ g ∷ []) ns n 0)

row_behind : (k v g : ℕ) (ns : List ℕ) (i : ℕ) → row_of (k ∷ v ∷ g ∷ ns) (suc i) ≡ row_of ns i
row_behind k v g ns i =
    let behind : (n m : ℕ) → m ≡ 3 + n → get_or (k ∷ v ∷ g ∷ ns) m 0 ≡ get_or ns n 0 = skipped k v g ns in
    cc (behind (3 * i) (3 * suc i) (omega arith), behind (3 * i + 1) (3 * suc i + 1) (omega arith), behind (3 * i + 2) (3 * suc i + 2) (omega arith))

row_at : (rows : List Row) (i : ℕ) → i < length rows → row_of (numbers rows) i ≡ get_or rows i (row 0 0 0)
unfolding numbers
row_at [] i h = absurd (omega arith)
row_at (r ∷ rows) zero h = refl
row_at (r ∷ rows) (suc i) h = row_behind r.key r.value r.group (numbers rows) i ∙ row_at rows i (omega arith)

pub rows_all : (rows : List Row) → number_lines (numbers rows) (length rows) ≡ row_lines rows
unfolding number_lines row_lines
rows_all rows = same_below (length rows) _ _ (λ i h. ap row_line (row_at rows i h)) ∙ each_all row_line rows (row 0 0 0)

-- ---- lines of several pieces
pub field_pieces : (n end : ℕ) → field n end ≡ flatten (decimal n ∷ (end ∷ []) ∷ [])
unfolding field flatten
field_pieces n end = refl

pub row_pieces : (r : Row) → row_line r ≡ flatten (field r.key space ∷ field r.value space ∷ field r.group newline ∷ [])
unfolding row_line flatten
row_pieces r = simp (append_assoc, append-nil)

pub stop_pieces : (stop offset : ℕ) → stop_line stop offset ≡ flatten (stop_word ∷ decimal stop ∷ at_word ∷ field offset newline ∷ [])
unfolding stop_line flatten
stop_pieces stop offset = simp (append_assoc, append-nil)

pub run_pieces : (answers : List ℕ) (stop offset : ℕ) (ns : List ℕ) (count : ℕ)
    → run_text answers stop offset ns count ≡ flatten (answer_lines answers ∷ stop_line stop offset ∷ number_lines ns count ∷ [])
unfolding run_text flatten
run_pieces answers stop offset ns count = simp (append_assoc, append-nil)
