-- The run of a log on a fresh table, and what is printed of it.
--     rows_of_history    the rows at any timestamp are those that the history of the steps taken lists
--     rows_within        so there is at most one of a key
--     scan_lists         and a scan with room for one of each key gives them all
--     run_fits           the answers and the rows that are printed lie in their buffers
--     run_printed        the text of the run is what the definition gives
use Prim.Native.Nat.{ℕ, ◌*◌, ◌/◌, ◌≤◌, zero-le}
use native.Mathlib.Omega.{arith}
use mathlib.Core.List.{List}
use mathlib.Core.Option.{Option, none, some}
use mathlib.Core.Path.{◌≡◌, ap, ◌∙◌}
use lib.ListN.{length, take, drop, replicate, length-replicate, length-append, length-drop}
use lib.Seq.{take_at, length-take-le}
use borrow.Author.Tests.{le-ltb}
use Rattle.model.specs.Limits.{keys}
use Rattle.model.specs.State.{State, fresh}
use Rattle.model.specs.Snapshot.{Row, rows_at, numbers, Listed, listed, scan}
use Rattle.model.specs.History.{Committed, History, newest_on, put_row, row_of_newest, listing}
use Rattle.model.specs.Isolation.{Event, events_of, after, horizon_after}
use Rattle.model.specs.declared.Mode.{Mode}
use Rattle.model.specs.declared.Operation.{Operation}
use Rattle.model.specs.declared.Operation.TheVariants.{Put, Remove}
use Rattle.model.specs.declared.Step.{Step}
use Rattle.common.proofs.ListBelow.{length_below}
use Rattle.model.proofs.Listing.{rows_listed}
use Rattle.model.proofs.Isolation.{reached, isolated}
use Rattle.model.proofs.Corollaries.{steps_horizon}
use Rattle.common.specs.Pasting.{PastedTo}
use Rattle.run.specs.Runs.{of_log, taken_from, Run, run_of}
use Rattle.run.proofs.Taken.{count_fits, answers_length}
use Rattle.run.proofs.RunState.{run_state}
use Rattle.transcript.specs.Inner.{run_text}
use Rattle.transcript.specs.Transcript.{max_log, max_answers, max_text, transcript, printed}
use Rattle.transcript.proofs.Lines.{rows_all}
use Rattle.transcript.proofs.Printed.{text_printed}

-- ---- the rows
-- a history lists at most one row of a key
one_put : (op : Operation) (group : ℕ) → length (put_row op group) ≤ 1
one_put (Put k v g) group = omega arith
one_put (Remove k) group = omega arith

one_row : (newest : Option Committed) → length (row_of_newest newest) ≤ 1
one_row none = omega arith
one_row (some c) = one_put c.operation c.group

listing_within : (h : History) (t : ℕ) → length (listing h t) ≤ keys
unfolding listing
listing_within h t = length_below 1 keys _ (λ k. one_row (newest_on h.done k t))

module _ (mode : Mode) (log answers : List ℕ) where
  -- the run, and the steps that it takes
  abbrev run : Run State
  run = run_of (of_log log) (fresh mode) answers

  abbrev steps : List Step
  steps = (taken_from (of_log log) (length answers) 0).steps

  abbrev events : List Event
  events = events_of steps

  -- no timestamp is below the horizon
  not_cleaned : (t : ℕ) → horizon_after mode events ≤ t
  not_cleaned t = rw (steps_horizon mode steps) zero-le

  -- each answer has its place, and the answers keep their length
  count_within : run.count ≤ length answers
  unfolding run_of
  count_within = count_fits _ (of_log log) (fresh mode) answers

  same_places : length run.answers ≡ length answers
  unfolding run_of
  same_places = answers_length _ (of_log log) (fresh mode) answers

  pub rows_of_history : (t : ℕ) → rows_at run.state.shared t ≡ listing (after mode events).history t
  rows_of_history t = rw (run_state mode answers (of_log log)) (rows_listed (after mode events) (reached mode events) t (not_cleaned t))

  pub rows_within : (t : ℕ) → length (rows_at run.state.shared t) ≤ keys
  rows_within t = rw (rows_of_history t) (listing_within (after mode events).history t)

  pub scan_lists : (t : ℕ) (buffer : List ℕ) → 3 * keys ≤ length buffer → scan run.state t buffer ≡ listed (rows_at run.state.shared t) buffer
  scan_lists t buffer room =
      rw (rows_of_history t, run_state mode answers (of_log log))
      ((isolated mode events).lists t buffer (not_cleaned t) (omega (arith, listing_within (after mode events).history t)))

-- ---- the run and the scan
-- the answers and the numbers of rows, as they are lent
abbrev no_answers : List ℕ
no_answers = replicate max_answers 0

abbrev no_numbers : List ℕ
no_numbers = replicate (3 * keys) 0

-- a run from a fresh table, and a scan of the table after it at the last timestamp
module _ (mode : Mode) (log : List ℕ) {st : State} {r : Run State} {s : Listed} (begins : st ≡ fresh mode) (runs : r ≡ run_of (of_log log) st no_answers)
    (scanned : s ≡ scan r.state r.state.shared.last no_numbers) (size : length s.buffer ≡ 3 * keys) where
  abbrev rows : List Row
  rows = rows_at r.state.shared r.state.shared.last

  is_run : r ≡ run_of (of_log log) (fresh mode) no_answers
  is_run = runs ∙ ap (λ (t : State). run_of (of_log log) t no_answers) begins

  is_listed_lem : s ≡ listed rows no_numbers
  is_listed_lem = scanned ∙ rw is_run (scan_lists mode log no_answers _ no_numbers (omega (arith, length-replicate {A = ℕ} (3 * keys) 0)))

  counted : s.count ≡ length rows
  counted = ap (λ (l : Listed). l.count) is_listed_lem

  pub run_fits : (r.count ≤ length r.answers) × (3 * s.count ≤ length s.buffer)
  run_fits =
      let count = rw (← is_run) at (count_within mode log no_answers) in
      let same = rw (← is_run) at (same_places mode log no_answers) in
      let few = rw (← is_run) at (rows_within mode log no_answers r.state.shared.last) in
      (omega arith, omega (arith, counted))

  -- the numbers that the scan stored
  stored : take (3 * s.count) s.buffer ≡ numbers rows
  stored =
      let few = rw (← is_run) at (rows_within mode log no_answers r.state.shared.last) in
      let behind = drop (3 * length rows) no_numbers in
      let whole = ap (λ (l : Listed). length l.buffer) is_listed_lem ∙ length-append (numbers rows) behind in
      let room = length-replicate {A = ℕ} (3 * keys) 0 in
      rw is_listed_lem (take_at (numbers rows) behind (3 * length rows) (omega (arith, length-drop (3 * length rows) no_numbers)))

  is_transcript : length log ≤ max_log
      → run_text (take r.count r.answers) r.stop r.offset (take (3 * s.count) s.buffer) (length (take (3 * s.count) s.buffer) / 3) ≡ transcript mode log
  unfolding run_text transcript
  is_transcript short =
      let third : length (take (3 * s.count) s.buffer) / 3 ≡ length rows = omega (arith, counted, length-take-le (3 * s.count) s.buffer run_fits.1) in
      rw (third, stored, rows_all, le-ltb _ _ short, is_run)

  pub run_printed : (text : List ℕ) {size : ℕ} {buffer : List ℕ} → max_text ≤ length text → length log ≤ max_log
      → PastedTo text 0 (run_text (take r.count r.answers) r.stop r.offset (take (3 * s.count) s.buffer) (length (take (3 * s.count) s.buffer) / 3)) size buffer
      → record { size = size; buffer = buffer } ≡ printed mode log text
  run_printed text room short put = text_printed mode log text room (rw (is_transcript short) at put)
