-- What the program prints for a log (document 01, The step log, the program; What the engine holds, its input).
use Rattle.std.specs.Prelude.{ℕ, ◌/◌, cond, List, ◌++◌, length, take, replicate, ltb, Option, Some, None}
use Rattle.leb128.specs.Coding.{Stored}
use Rattle.model.specs.Limits.{keys}
use Rattle.model.specs.State.{State, fresh}
use Rattle.model.specs.Machine.{answers_to}
use Rattle.model.specs.Snapshot.{rows_at}
use Rattle.model.specs.History.{listing}
use Rattle.model.specs.Isolation.{events_of, after}
use Rattle.model.specs.declared.Mode.{Mode}
use Rattle.steplog.specs.Records.{LogRead}
use Rattle.common.specs.Pasting.{pasted}
use Rattle.run.specs.Runs.{Run, of_log, run_of}
use Rattle.transcript.specs.Text.{answer_lines, stop_line, row_lines, run_room, too_long}

-- the most bytes of the input
abbrev pub max_log : ℕ
max_log = 32768

-- places for the answers of a log: a record has at least two bytes
abbrev pub max_answers : ℕ
max_answers = max_log / 2

-- room for any text: no key has two rows
abbrev pub max_text : ℕ
max_text = run_room max_answers keys

-- the text of a run
abbrev pub reported : Run State → List ℕ
reported r =
    answer_lines (take r.count r.answers) ++ stop_line r.stop r.offset ++ row_lines (rows_at r.state.shared r.state.shared.last)

-- a log's text, from a fresh table of a mode; for a longer input the one line `too long`
unfoldable pub transcript : Mode → List ℕ → List ℕ
transcript mode log = cond (ltb max_log (length log)) too_long (reported (run_of (of_log log) (fresh mode) (replicate max_answers 0)))

-- the size of a text, if one is printed
abbrev pub size_of : Option ℕ → ℕ
size_of (Some size) = size
size_of None = 0

-- a log's text at the start of a buffer; nothing where the buffer has not room for any text
unfoldable pub printed : Mode → List ℕ → List ℕ → Stored
printed mode log buffer =
    cond (ltb (length buffer) max_text) (record { size = 0; buffer = buffer })
    (record { size = length (transcript mode log); buffer = pasted buffer 0 (transcript mode log) })

-- the text of some steps from a fresh table of a mode: their answers, where they end, and the rows that their history lists at the last timestamp
-- issued
abbrev pub steps_text : Mode → LogRead → List ℕ
steps_text mode t =
    answer_lines (answers_to mode t.steps) ++ stop_line t.stop t.offset
    ++ row_lines (listing (after mode (events_of t.steps)).history (after mode (events_of t.steps)).history.last)
