-- The tables that the traces begin with: the fresh ones, and others that no run reaches.
use Rattle.std.specs.Prelude.{ℕ, ◌+◌, ◌-◌, ◌*◌, true, false, List, [], ◌∷◌, ◌++◌, length, replicate, set}
use Rattle.model.specs.Limits.{writers, timestamps, noted}
use Rattle.model.specs.State.{Shared, Notes, State, notes, ready, fresh, requested, inflight, completed, row_at}
use Rattle.model.specs.State.{with_last, with_locks, with_index, with_timeline, with_present, with_values}
use Rattle.model.specs.Rules.{with_made}
use Rattle.model.specs.declared.Mode.{Mode}
use Rattle.model.specs.declared.Mode.TheVariants.{Optimistic, Pessimistic}
use Rattle.model.specs.declared.Writer.{Writer}
use Rattle.traces.specs.Stories.{largest_number}
use Rattle.traces.specs.Stated.{table_lock}

-- a fresh table of each mode
abbrev pub optimistic : State
optimistic = fresh Optimistic

abbrev pub pessimistic : State
pessimistic = fresh Pessimistic

-- a table with all its numbers, in the pessimistic mode
abbrev pub in_pessimistic : State → State
in_pessimistic st = record { mode = Pessimistic; horizon = st.horizon; shared = st.shared; writers = st.writers; notes = st.notes }

-- what writers share, with one row more, of key k and value v, in the slice of file group g and timestamp n
abbrev pub with_row : ℕ → ℕ → ℕ → ℕ → Shared → Shared
with_row g n k v s = with_values (with_present s (set s.present (row_at g n k) true)) (set s.values (row_at g n k) v)

-- what writers share, with another index entry of key k
abbrev pub with_entry : Shared → ℕ → ℕ → Shared
with_entry s k e = with_index s (set s.index k e)

-- what writers share, with another lock at a place
abbrev pub with_lock_at : Shared → ℕ → ℕ → Shared
with_lock_at s p l = with_locks s (set s.locks p l)

-- what writers share where these instants are issued, and nothing else is done
abbrev pub with_instants : List ℕ → Shared
with_instants is = with_timeline (with_last optimistic.shared (length is)) (is ++ replicate (timestamps - length is) 0)

-- eight instants: of those completed, 1 and 7 are in group 0, 2, 4 and 6 in group 1, and 5 is in group 3
abbrev pub three_groups : List ℕ
three_groups = completed 0 ∷ completed 1 ∷ requested ∷ completed 1 ∷ completed 3 ∷ completed 1 ∷ completed 0 ∷ inflight 1 ∷ []

-- as many instants as a table has, the last of them completed in group 7
abbrev pub last_completed : List ℕ
last_completed = replicate 127 requested ++ completed 7 ∷ []

-- an optimistic table whose writers are ready
abbrev pub table : Shared → State
table s = record { mode = Optimistic; horizon = 0; shared = s; writers = replicate writers ready; notes = optimistic.notes }

-- a table with another horizon
abbrev pub with_horizon : State → ℕ → State
with_horizon st c = record { mode = st.mode; horizon = c; shared = st.shared; writers = st.writers; notes = st.notes }

-- a table whose writer w is x
abbrev pub with_writer : State → ℕ → Writer → State
with_writer st w x = record { mode = st.mode; horizon = st.horizon; shared = st.shared; writers = set st.writers w x; notes = st.notes }

-- a table with other notes
abbrev pub with_notes : State → Notes → State
with_notes st n = record { mode = st.mode; horizon = st.horizon; shared = st.shared; writers = st.writers; notes = n }

-- a table with another place of timestamp n, another count of writer w, or another timestamp that it has noted of writer u
abbrev pub with_place : State → ℕ → ℕ → State
with_place st n p = with_notes st (notes (set st.notes.places (n - 1) p) st.notes.counts st.notes.noted)

abbrev pub with_count : State → ℕ → ℕ → State
with_count st w c = with_notes st (notes st.notes.places (set st.notes.counts w c) st.notes.noted)

abbrev pub with_noted : State → ℕ → ℕ → ℕ → State
with_noted st w u n = with_notes st (notes st.notes.places st.notes.counts (set st.notes.noted (16 * w + u) n))

-- a writer with a put in progress, with one of 55, and with a remove
abbrev pub putting : ℕ → ℕ → ℕ → ℕ → ℕ → ℕ → Writer
putting value phase key group ts base =
    record { phase = phase; put = true; made = false; key = key; group = group; ts = ts; base = base; value = value }

abbrev pub busy : ℕ → ℕ → ℕ → ℕ → ℕ → Writer
busy = putting 55

abbrev pub removing : ℕ → ℕ → ℕ → ℕ → ℕ → Writer
removing phase key group ts base = record { phase = phase; put = false; made = false; key = key; group = group; ts = ts; base = base; value = 0 }

-- the same writer, which has made its key's index entry
abbrev pub maker : Writer → Writer
maker x = with_made x true

-- timestamp 1 is inflight in group 0, and writer 0 is x
abbrev pub one_inflight : Writer → State
one_inflight x = with_writer (table (with_instants (inflight 0 ∷ []))) 0 x

-- writer 0 stands at a phase, the others are ready
abbrev pub at_phase : ℕ → State
at_phase p = one_inflight (busy p 0 0 1 0)

-- the same, where its value is the erased word
abbrev pub erased_at_phase : ℕ → State
erased_at_phase p = one_inflight (putting largest_number p 0 0 1 0)

-- timestamp 1 is completed in group 0, and another writer holds it in group 1
abbrev pub other_groups_timestamp : State
other_groups_timestamp = with_writer (table (with_row 0 1 0 10 (with_instants (completed 0 ∷ [])))) 1 (busy 3 5 1 1 0)

-- the base of writer 0, in group 0, is a timestamp at which only group 1 has a slice
abbrev pub other_groups_base : State
other_groups_base = with_writer (table (with_entry (with_row 1 1 5 7 (with_instants (completed 1 ∷ inflight 0 ∷ []))) 5 2)) 0 (busy 3 2 0 2 1)

-- writers 0 and 1 hold timestamp 1, in two groups
abbrev pub one_timestamp : State
one_timestamp = with_writer (one_inflight (busy 3 2 0 1 0)) 1 (busy 3 5 1 1 0)

-- two groups show one key
abbrev pub one_key_twice : State
one_key_twice = table (with_row 1 1 5 7 (with_row 0 2 5 8 (with_instants (completed 1 ∷ completed 0 ∷ []))))

-- in group 0 the slice of timestamp 1 has keys 0 and 2, and a value under key 1, which is absent; at timestamp 2 rows stand in groups 0 and 1;
-- writer 0 removes key 2 in group 0 with a value in its record, writer 1 puts key 1 in group 1 with base 0
abbrev pub stale_rows : State
stale_rows =
    let values = set optimistic.shared.values (row_at 0 1 1) 11 in
    let shared = with_row 0 1 0 10 (with_row 0 1 2 12 (with_row 0 2 1 13 (with_row 1 2 0 14 (with_values (with_instants (completed 0 ∷ inflight 0 ∷ [])) values)))) in
    let remover : Writer = record { phase = 3; put = false; made = false; key = 2; group = 0; ts = 2; base = 1; value = 7 } in
    with_writer (with_writer (table shared) 0 remover) 1 (busy 3 1 1 2 0)

-- all timestamps are issued, writer 5 holds the lock, writer 1 is at phase 1, and writer 2 at phase 4 with a key of another group
abbrev pub refusing : State
refusing =
    with_writer (with_writer (table (with_entry (with_lock_at (with_instants (replicate 128 requested)) 0 6) 0 2)) 1 (busy 1 0 0 1 0)) 2 (busy 4 0 0 2 0)

-- a table of a mode, with these locks, where timestamps 1 and 2 are completed in groups 0 and 1, key 5 is indexed to group 3, and writer 0 is x
abbrev pub two_completed : Mode → List ℕ → Writer → State
two_completed mode locks x =
    record {
      mode = mode;
      horizon = 0;
      shared = with_entry (with_locks (with_instants (completed 0 ∷ completed 1 ∷ [])) locks) 5 4;
      writers = set (replicate writers ready) 0 x;
      notes = optimistic.notes;
    }

-- the same, optimistic, where writer 5 holds the lock, or writer 0, or nobody
abbrev pub holding : Writer → State
holding = two_completed Optimistic (table_lock 6)

abbrev pub own_lock : Writer → State
own_lock = two_completed Optimistic (table_lock 1)

abbrev pub unlocked : Writer → State
unlocked = two_completed Optimistic (table_lock 0)

-- n timestamps are issued, and every other number is the largest in range; one row is shown at timestamp n
abbrev pub at_largest : ℕ → State
at_largest n =
    record {
      mode = Optimistic;
      horizon = n;
      shared = with_row 7 n 0 largest_number (with_index (with_locks (with_instants (replicate n (completed 7))) (replicate 8 16)) (replicate 32 8));
      writers = replicate writers (maker (putting largest_number 6 31 7 n n));
      notes = notes (replicate timestamps 128) (replicate writers 128) (replicate noted n);
    }

-- the same, with something else in what writers share, or in one writer
abbrev pub at_largest_but : ℕ → (Shared → Shared) → State
at_largest_but n change =
    record { mode = Optimistic; horizon = n; shared = change (at_largest n).shared; writers = (at_largest n).writers; notes = (at_largest n).notes }

-- eight instants, six of them completed: 1 and 7 in group 0, 2, 4 and 6 in group 1, 5 in group 3; 3 is inflight in group 0, 8 requested. Each timestamp
-- has a row of key 5, 8 in group 1; group 1's slice of 2 has its first row and its last too, and rows stand right before and behind it, in groups 0 and 2
abbrev pub cleanable : State
cleanable =
    table
    (with_row 0 1 5 11 (with_row 1 2 5 12 (with_row 0 3 5 13 (with_row 1 4 5 14 (with_row 3 5 5 15 (with_row 1 6 5 16 (with_row 0 7 5 17 (with_row 1 8 5 18
    (with_row 1 2 0 20 (with_row 1 2 31 21 (with_row 0 2 31 22 (with_row 2 2 0 23
    (with_instants (completed 0 ∷ completed 1 ∷ inflight 0 ∷ completed 1 ∷ completed 3 ∷ completed 1 ∷ completed 0 ∷ requested ∷ []))))))))))))))

-- the same, where a writer at a phase, in a file group, has a base
abbrev pub with_base : ℕ → ℕ → ℕ → ℕ → State
with_base w phase group base = with_writer cleanable w (busy phase 5 group 8 base)

-- a table where every place is 9, every count 5, and timestamp 1 is noted everywhere
abbrev pub all_noted : State → State
all_noted st = with_notes st (notes (replicate 128 9) (replicate 16 5) (replicate 256 1))

-- so it is in `two_completed`
abbrev pub noted_all : Mode → List ℕ → Writer → State
noted_all mode locks x = all_noted (two_completed mode locks x)

-- the eight instants of `three_groups`, with places that fit them and others: 2 and 7 have none, 3 and 8 have one though they are not completed, and so
-- have 9 and 128, which are not issued. Writers 0, 1, 14 and 15 have an operation in progress, at timestamps 5, 7, 8 and 1; writer 2 is ready and holds 5.
-- Writer 0 has noted 2 twice, 3, 8 and 1; writer 14 has noted 4; writer 15 its own timestamp; writer 2 has the count and the row of writer 0
abbrev pub no_run_notes : State
no_run_notes =
    let places : List ℕ = 1 ∷ 0 ∷ 5 ∷ 3 ∷ 4 ∷ 128 ∷ 0 ∷ 9 ∷ 50 ∷ replicate 118 0 ++ 50 ∷ [] in
    let counts : List ℕ = 3 ∷ 2 ∷ 3 ∷ replicate 11 0 ++ 128 ∷ 0 ∷ [] in
    let first : List ℕ = 2 ∷ 3 ∷ 2 ∷ replicate 11 0 ++ 8 ∷ 1 ∷ [] in
    let noted : List ℕ = first ++ replicate 16 0 ++ first ++ replicate 191 0 ++ 4 ∷ 1 ∷ replicate 15 0 in
    with_writer (with_writer (with_writer (with_writer (with_writer (with_notes (table (with_instants three_groups)) (notes places counts noted))
    0 (busy 4 6 0 5 0)) 1 (busy 2 6 0 7 0)) 2 (busy 0 6 0 5 0)) 14 (busy 6 6 0 8 0)) 15 (busy 1 6 0 1 0)
