-- Demand 3 of document 00, over the history (document 01, The book behind demand 3), as document 02, Q-13 has it: the statement. The theorem is
-- `isolated` in proofs/Isolation.antt.
use Rattle.std.specs.Prelude.{ℕ, ◌*◌, ◌≤◌, ◌<◌, ◌≡◌, Bool, true, false, cond, ◌&&◌, length, eqb, Result, Ok, Err}
use mathlib.Core.List.{List, ◌++◌, map, foldl, Memᴰ}
use Rattle.std.proofs.Math.Option.{Option, none, some}
use Rattle.model.specs.Answers.{taken}
use Rattle.common.specs.Counting.{upd}
use Rattle.model.specs.State.{Shared, State, fresh, cell}
use Rattle.model.specs.Rules.{Answered, writer_of, step}
use Rattle.model.specs.Snapshot.{scan, listed, instant_at}
use Rattle.model.specs.Cleaning.{clean}
use Rattle.model.specs.History.{Pending, Committed, History, empty, recorded, listing}
use Rattle.model.specs.declared.answers.Refusal.{Refusal}
use Rattle.model.specs.declared.Action.{Action}
use Rattle.model.specs.declared.Action.TheVariants.{Start, LookUp, Read, Write, Index, Check, Commit, Abort}
use Rattle.model.specs.declared.Mode.{Mode}
use Rattle.model.specs.declared.Writer.{Writer}
use Rattle.model.specs.declared.InstantState.{InstantState}
use Rattle.model.specs.declared.InstantState.TheVariants.{None, Requested, Inflight, Completed}
use Rattle.model.specs.declared.Step.{Step}

-- the file group that the instant call gives, or 0 where it gives none; asked after a commit alone, where it gives a completed instant's
abbrev pub group_given : Result InstantState Refusal → ℕ
group_given (Err e) = 0
group_given (Ok None) = 0
group_given (Ok Requested) = 0
group_given (Ok (Inflight g)) = g
group_given (Ok (Completed g)) = g

-- what happens to a table: a step of a writer, or a clean at a timestamp
pub data Event : Type 0 where
  takes_step : Step → Event
  cleans_at : ℕ → Event

-- the events of a list of steps, with no clean among them
abbrev pub events_of : List Step → List Event
events_of ss = map takes_step ss

-- a table, its history, and what the write steps stored: by timestamp, the value of each key that has a row in the slice stored under it
pub record Execution : Type 0 where
  pub state : State
  pub history : History
  pub stored : ℕ → ℕ → Option ℕ

-- is an action the write step, which stores a slice (document 01, A writer's walk, 4)
abbrev pub is_write : Action → Bool
is_write (Start op) = false
is_write LookUp = false
is_write Read = false
is_write Write = true
is_write Index = false
is_write Check = false
is_write Commit = false
is_write Abort = false

-- the slice that a table has of a writer's file group and timestamp
abbrev pub slice_of : Shared → Writer → ℕ → Option ℕ
slice_of s x = cell s.present s.values x.group x.ts

-- what is stored after a step of the writer x: a write step answered 0 has stored x's slice, which is read from the table right after it
unfoldable pub stored_by : (ℕ → ℕ → Option ℕ) → Step → Answered → Writer → ℕ → ℕ → Option ℕ
stored_by stored s r x = cond (eqb r.answer taken && is_write s.action) (upd stored x.ts (slice_of r.state.shared x)) stored

-- an answer to a step, recorded: the table after it, and the history and the stored slices with it
abbrev pub answered_by : Execution → Step → Answered → Execution
answered_by u s r =
    record {
      state = r.state;
      history = recorded u.history s r.answer (λ n. group_given (instant_at r.state n));
      stored = stored_by u.stored s r (writer_of r.state s.writer);
    }

-- one event: the table's answer, recorded; a clean, taken or refused, changes neither the history nor what was stored (document 02, Q-13)
unfoldable pub next : Execution → Event → Execution
next u (takes_step s) = answered_by u s (step u.state s)
next u (cleans_at c) = record { state = (clean u.state c).state; history = u.history; stored = u.stored }

-- a list of events, each on the table that the one before it returned (document 00, demand 3)
unfoldable pub executed : Execution → List Event → Execution
executed u es = foldl next u es

-- a fresh table of a mode, with no history and no slice stored
abbrev pub beginning : Mode → Execution
beginning mode = record { state = fresh mode; history = empty; stored = λ n k. none }

-- the table after a list of events from a fresh one of a mode, with its history and the stored slices
abbrev pub after : Mode → List Event → Execution
after mode es = executed (beginning mode) es

-- its horizon
abbrev pub horizon_after : Mode → List Event → ℕ
horizon_after mode es = (after mode es).state.horizon

-- the slice that the write step of a committed operation stored (document 01, The book behind demand 3): the value of each key that has a row in it,
-- dropped by a clean or not
abbrev pub committed_slice : Execution → Committed → ℕ → Option ℕ
committed_slice u c = u.stored c.ts

-- demand 3, after a list of events, for each mode (document 02, Q-9). Where the events are those of steps the horizon is 0 (`steps_horizon` in
-- proofs/Corollaries.antt), so that every timestamp is at or above it and the statement is that of document 00
pub record Isolated (mode : Mode) (es : List Event) : Type 0 where
  -- a scan at any timestamp at or above the horizon, with room for the history's listing, is not refused: it counts and stores these rows and leaves
  -- what stands behind them
  pub lists : (t : ℕ) (buffer : List ℕ) → horizon_after mode es ≤ t → 3 * length (listing (after mode es).history t) ≤ length buffer
      → scan (after mode es).state t buffer ≡ listed (listing (after mode es).history t) buffer
  -- two committed slices that have a row of one key are of one file group
  pub one_group : (c d : Committed) → Memᴰ c (after mode es).history.done → Memᴰ d (after mode es).history.done → (k u v : ℕ)
      → committed_slice (after mode es) c k ≡ some u → committed_slice (after mode es) d k ≡ some v → c.group ≡ d.group
  -- if t is issued, and every operation in progress has a later timestamp, the scan at t gives this listing whatever events follow, until a clean
  -- passes t
  pub stays : (t : ℕ) → 1 ≤ t → t ≤ (after mode es).history.last
      → ((w : ℕ) (p : Pending) → (after mode es).history.pending w ≡ some p → t < p.ts)
      → (more : List Event) (buffer : List ℕ) → horizon_after mode (es ++ more) ≤ t → 3 * length (listing (after mode es).history t) ≤ length buffer
      → scan (after mode (es ++ more)).state t buffer ≡ listed (listing (after mode es).history t) buffer
