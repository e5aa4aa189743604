-- The candidates of a commit (document 02, Q-12; source 004, the step getCompletedInstants): the completed instants that ran beside an operation, chosen in two
-- ways; and the claim that both choose the same. The theorem is `candidates_agree` in proofs/TwoWays.antt.
use Rattle.std.specs.Prelude.{ℕ, ◌-◌, ◌<◌, ◌≡◌, Bool, cond, not, ◌&&◌, ◌||◌, length, get_or, replicate, eqb, ltb, leb}
use mathlib.Core.List.{List, [], ◌++◌, Memᴰ}
use Rattle.std.proofs.Math.Option.{some}
use Rattle.common.specs.Counting.{any_below, up_to}
use Rattle.model.specs.Limits.{writers, timestamps}
use Rattle.model.specs.Answers.{taken, no_writer, wrong_phase, out_of_range}
use Rattle.model.specs.State.{State, has_completed, at_timestamp, note_at}
use Rattle.model.specs.Range.{in_range}
use Rattle.model.specs.Rules.{writer_of}
use Rattle.model.specs.Snapshot.{instant_of}
use Rattle.model.specs.History.{Pending, Committed, History}
use Rattle.model.specs.Isolation.{Event, after}
use Rattle.model.specs.declared.Mode.{Mode}
use Rattle.model.specs.declared.InstantList.{InstantList}

-- the completed timestamps of which a test holds, rising
abbrev pub completed_that : List ℕ → (ℕ → Bool) → List ℕ
completed_that timeline p = up_to timestamps (λ s. has_completed (instant_of timeline s) && p s)

-- has writer w noted timestamp s
unfoldable pub has_noted : List ℕ → ℕ → ℕ → Bool
has_noted noted w s = any_below writers (λ u. eqb (get_or noted (note_at w u) 0) s)

-- was timestamp s pending when the operation of writer w, whose timestamp is n, started, or did it start later
abbrev pub pending_or_later : List ℕ → ℕ → ℕ → ℕ → Bool
pending_or_later noted w n s = has_noted noted w s || ltb n s

-- way one (source 004: start_timestamp_based), for writer w, whose operation has timestamp n: of the instants that were pending at its start those
-- that are completed now, and all completed ones with a later start. It uses no place and no count
unfoldable pub by_start : List ℕ → List ℕ → ℕ → ℕ → List ℕ
by_start timeline noted w n = completed_that timeline (pending_or_later noted w n)

-- is the place of timestamp s in the order of completions above a count
abbrev pub placed_above : List ℕ → ℕ → ℕ → Bool
placed_above places count s = ltb count (at_timestamp places s)

-- way two (source 004: end_timestamp_based), for an operation at whose start `count` instants had completed: those that completed after it started. It
-- uses no noted timestamp
unfoldable pub by_completion : List ℕ → List ℕ → ℕ → List ℕ
by_completion timeline places count = completed_that timeline (placed_above places count)

-- a list with a place for each timestamp: its count, and 0 in the places that it does not use
abbrev pub filled : List ℕ → InstantList
filled l = record { count = length l; timestamps = l ++ replicate (timestamps - length l) 0 }

-- what the call gives: its answer, and the list of each way
pub record Chosen : Type 0 where
  pub answer : ℕ
  pub by_start : InstantList
  pub by_completion : InstantList

-- refused: all places and counts are 0
abbrev pub no_candidates : ℕ → Chosen
no_candidates n = record { answer = n; by_start = filled []; by_completion = filled [] }

-- both lists of the operation of writer w
abbrev pub both_ways : State → ℕ → Chosen
both_ways st w =
    record {
      answer = taken;
      by_start = filled (by_start st.shared.timeline st.notes.noted w (writer_of st w).ts);
      by_completion = filled (by_completion st.shared.timeline st.notes.places (get_or st.notes.counts w 0));
    }

-- the call is refused with 17, then with 10, then with 14 where the writer has no operation in progress
unfoldable pub candidates : State → ℕ → Chosen
candidates st w =
    cond (not (in_range st)) (no_candidates out_of_range)
    (cond (leb writers w) (no_candidates no_writer) (cond (eqb (writer_of st w).phase 0) (no_candidates wrong_phase) (both_ways st w)))

-- a timestamp is that of a committed operation. One that ended without commit is issued, and the history has it neither in progress nor committed
pub record CommittedAt (h : History) (s : ℕ) : Type 0 where
  pub operation : Committed
  pub done : Memᴰ operation h.done
  pub ts : operation.ts ≡ s

-- the call is not refused, its two lists and counts are the same, and what they have are committed operations
pub record Agreeing (h : History) (c : Chosen) : Type 0 where
  pub answer : c.answer ≡ taken
  pub same : c.by_start ≡ c.by_completion
  pub committed : (s : ℕ) → 0 < s → Memᴰ s c.by_completion.timestamps → CommittedAt h s

-- for every operation in progress, after a list of events from a fresh table of either mode
abbrev pub CandidatesAgree : Mode → List Event → Type 0
CandidatesAgree mode es =
    (w : ℕ) (p : Pending) → (after mode es).history.pending w ≡ some p → Agreeing (after mode es).history (candidates (after mode es).state w)
