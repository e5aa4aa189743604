-- What the inner functions of the transcript promise each other.
use Rattle.std.specs.Prelude.{ℕ, ◌≡◌, ◌+◌, ◌*◌, ◌≤◌, List, ◌++◌, get_or, length}
use Rattle.std.specs.Borrow.{MutBor}
use denote.Triple.Both.{Both}
use Rattle.common.specs.Counting.{list_below}
use Rattle.common.specs.Pasting.{PastedTo}
use Rattle.model.specs.Snapshot.{Row, row}
use Rattle.transcript.specs.Text.{answer_lines, stop_line, row_line}
use Rattle.transcript.specs.declared.text.Text.{Text}

-- there is room for a piece behind the text
abbrev pub HasRoom : Text → List ℕ → Type 0
HasRoom t piece = t.at + length piece ≤ length t.buffer.now

-- a call puts a piece behind the text
pub record Put (t : Text) (piece : List ℕ) (u : Text) : Type 0 where
  pub same_reference : u.buffer.ghost_name ≡ t.buffer.ghost_name
  pub pasted : PastedTo t.buffer.now t.at piece u.at u.buffer.now

abbrev pub Puts : Both (MutBor Text) (MutBor Text) → List ℕ → Type 0
Puts t piece = Put t.entry.now piece t.exit.now

-- row i of some numbers, three a row, as a scan stores them
abbrev pub row_of : List ℕ → ℕ → Row
row_of numbers i = row (get_or numbers (3 * i) 0) (get_or numbers (3 * i + 1) 0) (get_or numbers (3 * i + 2) 0)

-- the first rows of some numbers, each on its own line
unfoldable pub number_lines : List ℕ → ℕ → List ℕ
number_lines numbers count = list_below count (λ i. row_line (row_of numbers i))

-- the text of a run: its answers, its stop, and the first rows of the numbers that a scan stored
unfoldable pub run_text : List ℕ → ℕ → ℕ → List ℕ → ℕ → List ℕ
run_text answers stop offset numbers rows = answer_lines answers ++ stop_line stop offset ++ number_lines numbers rows
