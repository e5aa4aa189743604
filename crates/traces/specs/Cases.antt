-- A trace: what is asked of the definitions, and what they are stated to give, in numbers.
use Rattle.std.specs.Prelude.{ℕ, ◌+◌, true, false, cond, length, get_or, take, replicate}
use mathlib.Core.List.{List, [], ◌∷◌, ◌++◌, flatten, map}
use Rattle.std.proofs.Math.Option.{Option, none, some}
use Rattle.std.specs.Option.{unwrap_or, option_map}
use Rattle.leb128.specs.Coding.{encoded, decoded_at, decoded_numbers}
use Rattle.common.specs.Counting.{list_below}
use Rattle.model.specs.Limits.{writers}
use Rattle.model.specs.State.{Shared, Notes, State, row_at}
use Rattle.model.specs.Rules.{entry_of, Answered, writer_of, step}
use Rattle.model.specs.Snapshot.{Listed, scan, point_read, found_numbers, instant_at, instant_numbers}
use Rattle.model.specs.History.{Pending, Committed, History}
use Rattle.model.specs.Cleaning.{clean}
use Rattle.model.specs.Candidates.{Chosen, candidates}
use Rattle.model.specs.Isolation.{Event, takes_step, cleans_at, beginning}
use Rattle.model.specs.declared.Mode.{Mode}
use Rattle.model.specs.declared.Writer.{Writer}
use Rattle.model.specs.declared.InstantList.{InstantList}
use Rattle.model.specs.declared.Operation.{Operation}
use Rattle.model.specs.declared.Operation.TheVariants.{Put, Remove}
use Rattle.model.specs.declared.Action.{Action}
use Rattle.model.specs.declared.Action.TheVariants.{Start, LookUp, Read, Write, Index, Check, Commit, Abort}
use Rattle.model.specs.declared.Step.{Step}
use Rattle.metadata.specs.Search.{newest_above}
use Rattle.metadata.specs.declared.timeline.Search.{Search}
use Rattle.steplog.specs.Records.{numbers_of, record_at, record_numbers, LogRead}
use Rattle.logwriter.specs.Writing.{LogWritten, log_written}
use Rattle.run.specs.Runs.{Input, Run}
use Rattle.rules.specs.Parts.{slot_of, act_on_parts}
use Rattle.traces.specs.Ways.{Way, stepwise}

pub data Case : Type 0 where
  encode : ℕ → Case  -- a number
  decode : List ℕ → ℕ → Case  -- the number at a place of bytes
  read_record : List ℕ → ℕ → Case  -- the record at a place of a log
  read_log : (List ℕ → LogRead) → List ℕ → Case  -- a whole log, under a rule
  written : List Step → ℕ → ℕ → Case  -- the log of steps, written into so many bytes, each 99, from a place on
  ran : State → Input → ℕ → Case  -- a run on a table, with so many places for answers, each 99
  answers : State → List Step → Case  -- the answers to steps on a table
  each_answer : State → Case  -- the answers to each action of writer 0, all on the same table
  scanned : State → List Step → ℕ → ℕ → Case  -- a scan after steps on a table, at a timestamp, with room for so many numbers, each 99
  read : State → List Step → ℕ → ℕ → Case  -- a point read after steps on a table, at a timestamp, of a key
  stands : State → List Step → ℕ → ℕ → Case  -- last timestamp, locks, a key's index entry and a writer's record after steps on a table
  place : ℕ → ℕ → ℕ → Case  -- the place of the row of a file group, timestamp and key
  rows : State → List Step → List ℕ → Case  -- the rows at some places after steps on a table
  instants : State → List Step → List ℕ → Case  -- the instants of some timestamps after steps on a table
  history : Mode → List Event → Case  -- the history of events on a fresh table of a mode
  stored : Mode → List Event → ℕ → ℕ → Case  -- what the write steps among events on a fresh table of a mode stored under a timestamp, of a key
  replies : Mode → List Event → List Event → Case  -- after events on a fresh table of a mode, the answers to others
  seen : Mode → List Event → ℕ → List ℕ → Case  -- after such events the horizon, and at some timestamps what the reads give: see `seen_at`
  cleaned : State → ℕ → List ℕ → Case  -- the answer to a clean at a timestamp, then the horizon, and the rows at some places
  chosen : Mode → List Event → List ℕ → Case  -- after events on a fresh table of a mode, the candidates of some writers' operations
  chosen_along : State → List Step → List ℕ → Case  -- before the first of some steps on a table, and after each, the candidates of some writers' operations
  chosen_on : State → List ℕ → Case  -- on a table, the candidates of some writers' operations
  noted_after : State → List Step → Case  -- all that is noted after steps on a table
  on_parts : State → Step → Case  -- the answer of `rules::act` to a caller who says that the table is in range, whether it is or not
  searched : List ℕ → ℕ → ℕ → ℕ → Case  -- the search of a timeline for hits of a file group, above a base and up to a last timestamp
  judged : State → Case  -- what each call gives on a table: see `judged_numbers`

-- the answer of the log writer, its byte count and the buffer
abbrev pub written_numbers : LogWritten → List ℕ
written_numbers l = l.answer ∷ l.count ∷ l.buffer

-- the stop of a log, the offset of the first record not taken, and the numbers of the steps
abbrev pub log_numbers : LogRead → List ℕ
log_numbers r = r.stop ∷ r.offset ∷ flatten (map numbers_of r.steps)

-- the stop of a run, the count of records taken, the offset of the first one not taken, and the lent answers
abbrev pub run_numbers : Run State → List ℕ
run_numbers r = r.stop ∷ r.count ∷ r.offset ∷ r.answers

-- the answer of a scan, its row count and the lent numbers
abbrev pub listed_numbers : Listed → List ℕ
listed_numbers l = l.answer ∷ l.count ∷ l.buffer

-- the instants of some timestamps
abbrev pub instants_numbers : State → List ℕ → List ℕ
instants_numbers st [] = []
instants_numbers st (t ∷ ts) = instant_numbers (instant_at st t) ++ instants_numbers st ts

-- a writer's record
abbrev pub writer_numbers : Writer → List ℕ
writer_numbers x = x.phase ∷ cond x.put 1 0 ∷ cond x.made 1 0 ∷ x.key ∷ x.group ∷ x.ts ∷ x.base ∷ x.value ∷ []

-- the last timestamp, the locks, a key's index entry and a writer's record
abbrev pub standing : State → ℕ → ℕ → List ℕ
standing st w k = st.shared.last ∷ st.shared.locks ++ entry_of st.shared k ∷ writer_numbers (writer_of st w)

-- the rows at some places: present or not, and the value
abbrev pub rows_numbers : Shared → List ℕ → List ℕ
rows_numbers s [] = []
rows_numbers s (i ∷ is) = cond (get_or s.present i false) 1 0 ∷ get_or s.values i 0 ∷ rows_numbers s is

-- a value, or none
abbrev pub value_numbers : Option ℕ → List ℕ
value_numbers none = 0 ∷ []
value_numbers (some v) = 1 ∷ v ∷ []

-- an operation, as a log has it
abbrev pub operation_numbers : Operation → List ℕ
operation_numbers (Put k v g) = 1 ∷ k ∷ v ∷ g ∷ []
operation_numbers (Remove k) = 2 ∷ k ∷ []

-- an operation in progress under a timestamp, and one committed at a timestamp in a file group
abbrev pub pending_operation : ℕ → Operation → List ℕ
pending_operation ts op = ts ∷ operation_numbers op

abbrev pub committed_operation : ℕ → ℕ → Operation → List ℕ
committed_operation ts group op = ts ∷ group ∷ operation_numbers op

-- what a writer has in progress, 0 for nothing
abbrev pub pending_numbers : Option Pending → List ℕ
pending_numbers none = 0 ∷ []
pending_numbers (some p) = pending_operation p.ts p.operation

-- the committed operations, the last one first
abbrev pub committed_numbers : List Committed → List ℕ
committed_numbers [] = []
committed_numbers (c ∷ cs) = committed_operation c.ts c.group c.operation ++ committed_numbers cs

-- a whole history: the last timestamp, what each writer has in progress, the committed operations
abbrev pub history_numbers : History → List ℕ
history_numbers h = h.last ∷ list_below writers (λ w. pending_numbers (h.pending w)) ++ committed_numbers h.done

-- what a search of the timeline gives: 0 for no hit, or 1 and the hit; then the count of the timestamps looked at
abbrev pub search_numbers : Search → List ℕ
search_numbers r = unwrap_or (option_map (λ t. 1 ∷ t ∷ []) r.hit) (0 ∷ []) ++ r.looked_at ∷ []

-- writer w does a
abbrev pub does : ℕ → Action → Step
does w a = record { writer = w; action = a }

-- the answers to events on a table
abbrev pub replies_to : State → List Event → List ℕ
replies_to st [] = []
replies_to st (takes_step s ∷ es) = (step st s).answer ∷ replies_to (step st s).state es
replies_to st (cleans_at c ∷ es) = (clean st c).answer ∷ replies_to (clean st c).state es

-- at a timestamp: a scan with room for six numbers, each 99, a point read of key k, and the instant
abbrev pub seen_at : State → ℕ → ℕ → List ℕ
seen_at st k t = listed_numbers (scan st t (replicate 6 99)) ++ found_numbers (point_read st t k) ++ instant_numbers (instant_at st t)

-- the horizon, and what is seen at some timestamps
abbrev pub seen_numbers : State → ℕ → List ℕ → List ℕ
seen_numbers st k ts = st.horizon ∷ flatten (map (seen_at st k) ts)

-- the answer to a clean, the horizon after it, and the rows at some places
abbrev pub cleaned_numbers : Answered → List ℕ → List ℕ
cleaned_numbers r is = r.answer ∷ r.state.horizon ∷ rows_numbers r.state.shared is

-- the candidates of some writers' operations: the answer, and of each list its count and all its places
abbrev pub list_numbers : InstantList → List ℕ
list_numbers l = l.count ∷ l.timestamps

abbrev pub candidates_numbers : Chosen → List ℕ
candidates_numbers c = c.answer ∷ list_numbers c.by_start ++ list_numbers c.by_completion

abbrev pub chosen_numbers : State → List ℕ → List ℕ
chosen_numbers st ws = flatten (map (λ w. candidates_numbers (candidates st w)) ws)

-- all that is noted: the place of each timestamp, the count of each writer, and the timestamps that each writer has noted
abbrev pub notes_numbers : Notes → List ℕ
notes_numbers n = n.places ++ n.counts ++ n.noted

-- what each call gives: a step of writer 16, at the timestamp t a read of key 32, a scan with too little room and the instant, a clean at 0, and whether
-- the candidates of writer 16 are refused
abbrev pub judged_numbers : State → ℕ → List ℕ
judged_numbers st t =
    (step st (does 16 (Start (Put 32 0 8)))).answer
    ∷ found_numbers (point_read st t 32) ++ listed_numbers (scan st t (replicate 2 99)) ++ instant_numbers (instant_at st t)
    ++ (clean st 0).answer ∷ (candidates st 16).answer ∷ []

-- every action, a start with a key and a group that exist
abbrev pub actions : List Action
actions = Start (Put 0 10 0) ∷ LookUp ∷ Read ∷ Write ∷ Index ∷ Check ∷ Commit ∷ Abort ∷ []

-- what the definitions give, where lists of steps and events are carried out in one of the two ways
unfoldable pub result_by : Way → Case → List ℕ
result_by way (encode n) = encoded n
result_by way (decode bytes at) = decoded_numbers (decoded_at bytes at)
result_by way (read_record log at) = record_numbers (record_at log at)
result_by way (read_log rule log) = log_numbers (rule log)
result_by way (written ss room at) = written_numbers (log_written ss (replicate room 99) at)
result_by way (ran st input places) = run_numbers (way.run input st (replicate places 99))
result_by way (answers st ss) = way.answers st ss
result_by way (each_answer st) = map (λ a. (step st (does 0 a)).answer) actions
result_by way (scanned st ss t room) = listed_numbers (scan (way.after st ss) t (replicate room 99))
result_by way (read st ss t k) = found_numbers (point_read (way.after st ss) t k)
result_by way (stands st ss w k) = standing (way.after st ss) w k
result_by way (place g n k) = row_at g n k ∷ []
result_by way (rows st ss is) = rows_numbers (way.after st ss).shared is
result_by way (instants st ss ts) = instants_numbers (way.after st ss) ts
result_by way (history mode es) = history_numbers (way.executed (beginning mode) es).history
result_by way (stored mode es n k) = value_numbers ((way.executed (beginning mode) es).stored n k)
result_by way (replies mode es more) = replies_to (way.executed (beginning mode) es).state more
result_by way (seen mode es k ts) = seen_numbers (way.executed (beginning mode) es).state k ts
result_by way (cleaned st c is) = cleaned_numbers (clean st c) is
result_by way (chosen mode es ws) = chosen_numbers (way.executed (beginning mode) es).state ws
result_by way (chosen_along st ss ws) = list_below (length ss + 1) (λ n. chosen_numbers (way.after st (take n ss)) ws)
result_by way (chosen_on st ws) = chosen_numbers st ws
result_by way (noted_after st ss) = notes_numbers (way.after st ss).notes
result_by way (on_parts st s) = (act_on_parts st.mode true (writer_of st (slot_of s.writer)) st.shared s).answer ∷ []
result_by way (searched timeline g base last) = search_numbers (newest_above timeline g base last)
result_by way (judged st) = judged_numbers st st.shared.last

-- as the definitions have it
abbrev pub result : Case → List ℕ
result = result_by stepwise

-- a case and what it is stated to give
pub record Trace : Type 0 where
  pub case : Case
  pub stated : List ℕ

abbrev pub ◌gives◌ : Case → List ℕ → Trace
case gives stated = record { case = case; stated = stated }

infix 4 ◌gives◌
