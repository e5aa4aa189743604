-- The rules of a step (document 01, A writer's walk): what each action makes of the writer's own record and of what all writers share.
-- The walk is the commit protocol of an operation.
use Rattle.std.specs.Prelude.{ℕ, zero, suc, ◌+◌, ◌-◌, Bool, true, false, cond, not, ◌&&◌, List, map, get_or, set, eqb, ltb, leb}
use Rattle.model.specs.Limits.{writers, keys, groups, timestamps, erased_word}
use Rattle.model.specs.Answers.{taken, committed, not_indexed, too_late, other_group, group_changed, aborted}
use Rattle.model.specs.Answers.{no_writer, no_key, no_group, wrong_phase, no_timestamp, table_locked, out_of_range, erased_value, group_locked}
use Rattle.model.specs.Modes.{guard, lock_phase, after_index, may_check}
use Rattle.model.specs.State.{Shared, State, ready, requested, inflight, completed, newest, row_at, row_in}
use Rattle.model.specs.State.{with_last, with_locks, with_index, with_timeline, with_present, with_values}
use Rattle.model.specs.Notes.{notes_after}
use Rattle.model.specs.Range.{in_range}
use Rattle.model.specs.declared.Mode.{Mode}
use Rattle.model.specs.declared.Writer.{Writer}
use Rattle.model.specs.declared.Operation.{Operation}
use Rattle.model.specs.declared.Operation.TheVariants.{Put, Remove}
use Rattle.model.specs.declared.Action.{Action}
use Rattle.model.specs.declared.Action.TheVariants.{Start, LookUp, Read, Write, Index, Check, Commit, Abort}
use Rattle.model.specs.declared.Step.{Step}

-- an operation's key, and the file group that a put proposes
abbrev pub key_of : Operation → ℕ
key_of (Put k v g) = k
key_of (Remove k) = k

abbrev pub group_of : Operation → ℕ
group_of (Put k v g) = g
group_of (Remove k) = 0

-- is an operation a put of the erased word; a remove has no value (document 02, Q-3)
abbrev pub puts_erased : Operation → Bool
puts_erased (Put k v g) = eqb v erased_word
puts_erased (Remove k) = false

-- a writer that has started an operation under timestamp n
abbrev pub begun : Operation → ℕ → Writer
begun (Put k v g) n = record { phase = 1; put = true; made = false; key = k; group = g; ts = n; base = 0; value = v }
begun (Remove k) n = record { phase = 1; put = false; made = false; key = k; group = 0; ts = n; base = 0; value = 0 }

-- a writer at another phase, with a file group and a base
abbrev pub moved : Writer → ℕ → ℕ → ℕ → Writer
moved x phase group base =
    record { phase = phase; put = x.put; made = x.made; key = x.key; group = group; ts = x.ts; base = base; value = x.value }

-- a writer whose operation has made the index entry of its key, or has not (document 02, Q-4)
abbrev pub with_made : Writer → Bool → Writer
with_made x made = record { phase = x.phase; put = x.put; made = made; key = x.key; group = x.group; ts = x.ts; base = x.base; value = x.value }

-- the index entry of key k: 0, or its file group + 1
abbrev pub entry_of : Shared → ℕ → ℕ
entry_of s k = get_or s.index k 0

-- the largest completed timestamp of file group g, or 0
abbrev pub newest_of : Shared → ℕ → ℕ
newest_of s g = newest s.timeline g s.last

-- another instant at timestamp n
abbrev pub with_instant : Shared → ℕ → ℕ → Shared
with_instant s n i = with_timeline s (set s.timeline (n - 1) i)

-- the next timestamp issued, its instant requested
abbrev pub issued : Shared → Shared
issued s = with_timeline (with_last s (s.last + 1)) (set s.timeline s.last requested)

-- the rows, once the first k of file group g's slice of timestamp n have been taken over from its slice of b (none for b = 0)
unfoldable pub copied : {A : Type 0} → A → List A → ℕ → ℕ → ℕ → ℕ → List A
copied absent rows g b n zero = rows
copied absent rows g b n (suc k) = set (copied absent rows g b n k) (row_at g n k) (row_in absent rows g b k)

-- file group g's slice of timestamp n stored: the rows of its slice of b, with v at key k
unfoldable pub sliced : {A : Type 0} → A → List A → ℕ → ℕ → ℕ → ℕ → A → List A
sliced absent rows g b n k v = set (copied absent rows g b n keys) (row_at g n k) v

-- the slice of a writer's operation stored; a base with no slice stored gives no rows, since none of them is present (document 01, A writer's walk, end)
abbrev pub with_slice : Shared → Writer → Shared
with_slice s x =
    with_values (with_present s (sliced false s.present x.group x.base x.ts x.key x.put))
    (sliced 0 s.values x.group x.base x.ts x.key x.value)

-- a lock or an index entry, which is 0 for none and m + 1 for m: it is set, and not to n
abbrev pub names_other : ℕ → ℕ → Bool
names_other e n = not (eqb e 0) && not (eqb e (n + 1))

-- does the step that fits a writer's phase take the lock that guards its file group (document 02, Q-9)
abbrev pub takes_lock : Mode → Writer → Bool
takes_lock mode x = eqb x.phase (lock_phase mode)

-- so it does for writer w, whose record is x, and another writer holds the lock
abbrev pub blocked : Mode → Writer → ℕ → Shared → Bool
blocked mode x w s = takes_lock mode x && names_other (get_or s.locks (guard mode x.group) 0) w

-- the locks after the step: the one that it takes, if it takes one, is set to l, which is w + 1 for writer w
abbrev pub locking : Mode → Writer → ℕ → List ℕ → List ℕ
locking mode x l locks = cond (takes_lock mode x) (set locks (guard mode x.group) l) locks

-- what a rule says of a step: it is refused with a number; or the operation ends with a number; or the writer goes on, as the record given.
-- The last two come with the shared part after them
pub data Verdict : Type 0 where
  refused : ℕ → Verdict
  ended : ℕ → Shared → Verdict
  goes_on : Writer → Shared → Verdict

-- The rules, in the order of document 01, A writer's walk. Each tests its refusals in the order of document 01, Answer numbers, with 18 between 13
-- and 14 (document 02, Q-3) and 19 where 16 is (Q-9); 17 and 10 come before all rules, in `step_tested`.

-- 1: the operation is judged, then a ready writer takes the next timestamp, whose instant is requested
unfoldable pub start : Writer → Shared → Operation → Verdict
start x s op =
    cond (leb keys (key_of op)) (refused no_key)
    (cond (leb groups (group_of op)) (refused no_group)
    (cond (puts_erased op) (refused erased_value)
    (cond (not (eqb x.phase 0)) (refused wrong_phase)
    (cond (leb timestamps s.last) (refused no_timestamp) (goes_on (begun op (s.last + 1)) (issued s))))))

-- 2: the group is that of the key's index entry; without one a put takes the group that it proposes, and a remove ends
unfoldable pub look_up : Writer → Shared → Verdict
look_up x s =
    cond (not (eqb x.phase 1)) (refused wrong_phase)
    (cond (not (eqb (entry_of s x.key) 0)) (goes_on (moved x 2 (entry_of s x.key - 1) x.base) s)
    (cond x.put (goes_on (moved x 2 x.group x.base) s) (ended not_indexed s)))

-- 3: the base is the newest completed timestamp of the group, and the instant is inflight; a completed timestamp above the writer's own ends the
-- operation, and its instant stays as it is. In a pessimistic table the group's lock is taken (document 02, Q-9)
unfoldable pub read_base : Mode → Writer → ℕ → Shared → Verdict
read_base mode x w s =
    cond (not (eqb x.phase 2)) (refused wrong_phase)
    (cond (blocked mode x w s) (refused group_locked)
    (cond (ltb x.ts (newest_of s x.group)) (ended too_late s)
    (goes_on (moved x 3 x.group (newest_of s x.group))
    (with_instant (with_locks s (locking mode x (w + 1) s.locks)) x.ts (inflight x.group)))))

-- 4: the slice of the writer's group and timestamp is stored; no read shows it while the instant is inflight
unfoldable pub write_slice : Writer → Shared → Verdict
write_slice x s = cond (not (eqb x.phase 3)) (refused wrong_phase) (goes_on (moved x 4 x.group x.base) (with_slice s x))

-- 5: in an optimistic table the table lock is taken; a key indexed to another group ends the operation, and so does a remove whose key is no longer
-- indexed (document 02, Q-4). Else the key is entered in the writer's group, which is where it is if it is indexed, and its flag says whether the writer
-- made the entry. A pessimistic table has no check to come (Q-9)
unfoldable pub enter_index : Mode → Writer → ℕ → Shared → Verdict
enter_index mode x w s =
    cond (not (eqb x.phase 4)) (refused wrong_phase)
    (cond (blocked mode x w s) (refused table_locked)
    (cond (names_other (entry_of s x.key) x.group) (ended other_group s)
    (cond (not x.put && eqb (entry_of s x.key) 0) (ended not_indexed s)
    (goes_on (moved (with_made x (eqb (entry_of s x.key) 0)) (after_index mode) x.group x.base)
    (with_locks (with_index s (set s.index x.key (x.group + 1))) (locking mode x (w + 1) s.locks))))))

-- 6: a completed timestamp of the group above the base ends the operation
unfoldable pub check_conflict : Mode → Writer → Shared → Verdict
check_conflict mode x s =
    cond (not (may_check mode x.phase)) (refused wrong_phase)
    (cond (ltb x.base (newest_of s x.group)) (ended group_changed s) (goes_on (moved x 6 x.group x.base) s))

-- 7: the instant is completed in the writer's group
unfoldable pub commit : Writer → Shared → Verdict
commit x s = cond (not (eqb x.phase 6)) (refused wrong_phase) (ended committed (with_instant s x.ts (completed x.group)))

-- 8: at any phase but 0 a writer may give its operation up
unfoldable pub abort : Writer → Shared → Verdict
abort x s = cond (eqb x.phase 0) (refused wrong_phase) (ended aborted s)

-- the rule of an action of writer w, whose own record is x
unfoldable pub ruled : Mode → Writer → ℕ → Shared → Action → Verdict
ruled mode x w s (Start op) = start x s op
ruled mode x w s LookUp = look_up x s
ruled mode x w s Read = read_base mode x w s
ruled mode x w s Write = write_slice x s
ruled mode x w s Index = enter_index mode x w s
ruled mode x w s Check = check_conflict mode x s
ruled mode x w s Commit = commit x s
ruled mode x w s Abort = abort x s

-- the answer to an action, with the writer and the shared part after it
pub record Outcome : Type 0 where
  pub answer : ℕ
  pub writer : Writer
  pub shared : Shared

abbrev pub outcome : ℕ → Writer → Shared → Outcome
outcome n x s = record { answer = n; writer = x; shared = s }

-- the lock l after writer w has let go of it
abbrev pub released : ℕ → ℕ → ℕ
released l w = cond (eqb l (w + 1)) 0 l

-- the locks after writer w has let go of each that it holds (document 02, Q-9)
abbrev pub freed : ℕ → List ℕ → List ℕ
freed w locks = map (λ l. released l w) locks

-- the index after an operation on key k has ended with the answer n: the entry is taken out again if the operation made it, unless it has committed;
-- one that was there before stays (document 02, Q-4)
abbrev pub withdrawn : ℕ → Bool → ℕ → List ℕ → List ℕ
withdrawn n made k index = cond (not (eqb n committed) && made) (set index k 0) index

-- every operation ends here, committed or not: each lock that its writer holds is freed, the writer is ready, the instant stays (document 01, A writer's
-- walk, end), and the index entry that it made is withdrawn, unless it has committed
abbrev pub closed : ℕ → Writer → ℕ → Shared → Outcome
closed n x w s = outcome n ready (with_locks (with_index s (withdrawn n x.made x.key s.index)) (freed w s.locks))

-- a verdict carried out: refused, nothing changes
abbrev pub carried : Writer → ℕ → Shared → Verdict → Outcome
carried x w s (refused n) = outcome n x s
carried x w s (ended n t) = closed n x w t
carried x w s (goes_on y t) = outcome taken y t

-- the action of writer w, whose own record is x
unfoldable pub act : Mode → Writer → ℕ → Shared → Action → Outcome
act mode x w s a = carried x w s (ruled mode x w s a)

-- an answer, and the state after it
pub record Answered : Type 0 where
  pub answer : ℕ
  pub state : State

abbrev pub answered : ℕ → State → Answered
answered n st = record { answer = n; state = st }

-- the record of writer w
abbrev pub writer_of : State → ℕ → Writer
writer_of st w = get_or st.writers w ready

-- the outcome of writer w's action in the whole state; what is noted goes by the action and its answer (document 02, Q-12)
abbrev pub updated : State → ℕ → Action → Outcome → Answered
updated st w a o =
    answered o.answer
    (record {
      mode = st.mode;
      horizon = st.horizon;
      shared = o.shared;
      writers = set st.writers w o.writer;
      notes = notes_after st.notes w a o.answer (writer_of st w).ts st.writers o.shared.timeline;
    })

-- one step of a table whose range test gave `tested`: 17, then 10, then the rule of the action (document 01, Answer numbers)
unfoldable pub step_tested : Bool → State → Step → Answered
step_tested tested st s =
    cond (not tested) (answered out_of_range st)
    (cond (leb writers s.writer) (answered no_writer st)
    (updated st s.writer s.action (act st.mode (writer_of st s.writer) s.writer st.shared s.action)))

-- one step
unfoldable pub step : State → Step → Answered
step st s = step_tested (in_range st) st s
