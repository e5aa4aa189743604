-- The text of a log that is run is that of its steps.
--     consumed_printed    of those that the run takes
--     log_printed         which are all that the log reads as
-- Line by line: the answers and the end are those of the steps taken (`answers_given`, `same_end`, by Taken.antt of
-- run), the rows those that their history lists (`rows_listed`, by LogRun.antt and RunState.antt). There are places
-- for the answers to all records (`places_enough`), since a record has two bytes at least.
use Prim.Native.Nat.{ℕ, ◌≤◌, ◌<◌}
use native.Mathlib.Decide.{ℕ_discrete, dec_lt}
use native.Mathlib.Omega.{arith}
use mathlib.Core.List.{List, [], ◌∷◌}
use mathlib.Core.Logic.{◌≢◌, by_cases}
use mathlib.Core.Path.{◌≡◌, sym, ap, ◌∙◌}
use lib.ListN.{length, get_or, take, drop, replicate, length-replicate, length-append}
use borrow.Author.Tests.{le-ltb, eq-eqb, ne_eqb}
use Rattle.model.specs.State.{State, fresh}
use Rattle.model.specs.Machine.{answers_to}
use Rattle.model.specs.Snapshot.{rows_at}
use Rattle.model.specs.History.{listing}
use Rattle.model.specs.Isolation.{Event, events_of, after}
use Rattle.model.specs.declared.Mode.{Mode}
use Rattle.model.proofs.Isolation.{reached}
use Rattle.steplog.specs.Records.{used_up, record_numbers, encoded_steps, LogRead, log_read}
use Rattle.steplog.proofs.Sizes.{steps_most}
use Rattle.steplog.proofs.EndOfLog.{at_end}
use Rattle.steplog.proofs.RoundTrip.{log_stops}
use Rattle.run.specs.Runs.{of_log, taken_from, Run, run_of}
use Rattle.run.proofs.Taken.{run_taken, answers_taken}
use Rattle.run.proofs.LogAsList.{places_for, log_taken_whole}
use Rattle.run.proofs.RunState.{run_state}
use Rattle.transcript.specs.Transcript.{max_log, max_answers, reported, transcript, steps_text}
use Rattle.transcript.proofs.LogRun.{rows_of_history}

module _ (mode : Mode) (log answers : List ℕ) where
  abbrev run : Run State
  run = run_of (of_log log) (fresh mode) answers

  abbrev consumed : LogRead
  consumed = taken_from (of_log log) (length answers) 0

  abbrev events : List Event
  events = events_of consumed.steps

  last_issued : run.state.shared.last ≡ (after mode events).history.last
  last_issued = ap (λ (st : State). st.shared.last) (run_state mode answers (of_log log)) ∙ sym (reached mode events).invariant.last

  rows_listed : rows_at run.state.shared run.state.shared.last ≡ listing (after mode events).history (after mode events).history.last
  rows_listed = rows_of_history mode log answers _ ∙ ap (listing (after mode events).history) last_issued

  answers_given : take run.count run.answers ≡ answers_to mode consumed.steps
  unfolding run_of
  answers_given = answers_taken _ (of_log log) (fresh mode) answers

  same_end : (run.stop ≡ consumed.stop) × (run.offset ≡ consumed.offset)
  unfolding run_of
  same_end = let is = run_taken _ (of_log log) (fresh mode) answers in (ap (λ (r : Run State). r.stop) is, ap (λ (r : Run State). r.offset) is)

  run_reported : reported run ≡ steps_text mode consumed
  run_reported = rw (answers_given, same_end.0, same_end.1, rows_listed)

pub consumed_printed : (mode : Mode) (log : List ℕ) → length log ≤ max_log → transcript mode log ≡ steps_text mode (taken_from (of_log log) max_answers 0)
unfolding transcript
consumed_printed mode log short =
    rw (le-ltb _ _ short) (run_reported mode log (replicate max_answers 0) ∙ ap (λ (n : ℕ). steps_text mode (taken_from (of_log log) n 0))
    (length-replicate {A = ℕ} max_answers 0))

-- ---- all steps of the log
module _ (mode : Mode) (log : List ℕ) (are-bytes : (i : ℕ) → get_or log i 0 < 256) (short : length log ≤ max_log) where
  abbrev reads : LogRead
  reads = log_read log

  -- a record that stops the reading stands before the log's end
  stops_inside : reads.stop ≢ used_up → reads.offset < length log
  unfolding record_numbers
  stops_inside ne = by_cases (dec_lt reads.offset (length log)) (λ h. h)
      (λ h. let e : reads.stop ∷ [] ≡ used_up ∷ [] = sym (log_stops log are-bytes).stops ∙ ap record_numbers (at_end log reads.offset (omega arith)) in
      absurd (ne (cc)))

  places_enough : places_for reads ≤ max_answers
  places_enough =
      let at = (log_stops log are-bytes).bytes in
      let all = ap length at.code ∙ length-append (encoded_steps reads.steps) (drop reads.offset log) in
      by_cases (ℕ_discrete reads.stop used_up)
      (λ e. rw (eq-eqb _ _ e) (omega (arith, all, steps_most reads.steps)))
      (λ ne. rw (ne_eqb _ _ ne) (omega (arith, at.behind, stops_inside ne, steps_most reads.steps)))

  pub log_printed : transcript mode log ≡ steps_text mode reads
  log_printed = rw (← log_taken_whole log are-bytes max_answers places_enough) (consumed_printed mode log short)
