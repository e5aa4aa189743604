-- The table of traces holds: `traces_hold`.
use Rattle.std.specs.Prelude.{◌≡◌, refl}
use Rattle.std.proofs.Common.{ap, ◌∙◌}
use mathlib.Core.List.{flatten, map}
use Rattle.leb128.specs.Coding.{encoded_in, encoded, decoded_in, decoded_at, decoded_numbers}
use Rattle.common.specs.Counting.{upd, each_below, list_below, up_to}
use Rattle.common.specs.Pasting.{pasted}
use Rattle.model.specs.State.{fresh, newest, cell}
use Rattle.model.specs.Modes.{guard, lock_phase, after_index, may_check}
use Rattle.model.specs.Range.{in_range, writers_in_range, all_at_most}
use Rattle.model.specs.Notes.{completed_count, row_noted, notes_after}
use Rattle.model.specs.Candidates.{has_noted, by_start, by_completion, candidates}
use Rattle.model.specs.Rules.{copied, sliced, start, look_up, read_base, write_slice, enter_index, check_conflict, commit, abort}
use Rattle.model.specs.Rules.{ruled, act, step_tested, step}
use Rattle.model.specs.Machine.{answers_from}
use Rattle.model.specs.Snapshot.{rows_at, numbers, scan, point_read, instant_state, instant_at}
use Rattle.model.specs.History.{empty, start_recorded, commit_recorded, end_recorded, recorded}
use Rattle.model.specs.Cleaning.{drops, swept, bases_kept, clean}
use Rattle.model.specs.Isolation.{next, stored_by}
use Rattle.metadata.specs.Largest.{largest}
use Rattle.metadata.specs.Search.{newest_above}
use Rattle.steplog.specs.Records.{encoded_step, of_kind, arguments_by, record_by, record_numbers, log_read_from, log_read}
use Rattle.logwriter.specs.Writing.{log_written}
use Rattle.run.specs.Runs.{run_from}
use Rattle.rules.specs.Parts.{act_on_parts}
use Rattle.traces.specs.Ways.{tested_once}
use Rattle.traces.specs.Cases.{result_by, result, Trace}
use Rattle.traces.specs.Pessimistic.{pessimistic_traces}
use Rattle.traces.specs.Cleaning.{cleaning_traces}
use Rattle.traces.specs.Candidates.{candidates_traces}
use Rattle.traces.specs.Traces.{traces}
use Rattle.traces.proofs.Ways.{ways_same}

-- the table, computed with one range test of steps for each list
computed : map (λ (t : Trace). result_by tested_once t.case) traces ≡ map (λ (t : Trace). t.stated) traces
unfolding traces pessimistic_traces cleaning_traces candidates_traces result_by act_on_parts encoded encoded_in decoded_at decoded_in decoded_numbers answers_from
    step step_tested ruled act start look_up read_base write_slice enter_index check_conflict commit abort in_range each_below writers_in_range all_at_most
    guard lock_phase after_index may_check completed_count row_noted notes_after has_noted by_start by_completion candidates
    newest largest up_to newest_above cell copied sliced fresh scan rows_at numbers list_below point_read instant_state instant_at
    drops swept bases_kept clean next
    upd empty start_recorded commit_recorded end_recorded recorded stored_by
    encoded_step of_kind arguments_by record_by record_numbers log_read_from log_read log_written pasted flatten run_from
computed = refl

-- the one claim
pub traces_hold : map (λ (t : Trace). result t.case) traces ≡ map (λ (t : Trace). t.stated) traces
traces_hold = ap (λ way. map (λ (t : Trace). result_by way t.case) traces) ways_same ∙ computed
