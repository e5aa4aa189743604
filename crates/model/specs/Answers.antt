-- The answers of a table's calls (document 01, Answer numbers and Reading at a timestamp; document 02, Q-3, Q-9, Q-12 and Q-13).
-- 1 to 6 end an operation, from `committed` to `aborted`; what is above `aborted` is a refusal and changes nothing.
use Rattle.std.specs.Prelude.{ℕ}

-- 0: the step is taken and the operation goes on; or another call is not refused
abbrev pub taken : ℕ
taken = 0

-- the operation is committed
abbrev pub committed : ℕ
committed = 1

-- it ends: a remove of a key that has no index entry
abbrev pub not_indexed : ℕ
not_indexed = 2

-- it ends: its group has a newer commit already
abbrev pub too_late : ℕ
too_late = 3

-- it ends: its key is indexed to another group
abbrev pub other_group : ℕ
other_group = 4

-- it ends: its group has a commit newer than the base
abbrev pub group_changed : ℕ
group_changed = 5

-- it ends: its writer gave it up
abbrev pub aborted : ℕ
aborted = 6

-- there is no such writer
abbrev pub no_writer : ℕ
no_writer = 10

-- there is no such key
abbrev pub no_key : ℕ
no_key = 12

-- there is no such file group, in a put
abbrev pub no_group : ℕ
no_group = 13

-- the writer's phase is not that of the action; at a check step, the table is pessimistic (document 02, Q-9); at the candidates' call, the writer is
-- ready (document 02, Q-12)
abbrev pub wrong_phase : ℕ
wrong_phase = 14

-- all timestamps are issued, at a start
abbrev pub no_timestamp : ℕ
no_timestamp = 15

-- another writer holds the table lock, at an index step
abbrev pub table_locked : ℕ
table_locked = 16

-- a number of the table is out of its range
abbrev pub out_of_range : ℕ
out_of_range = 17

-- the value is the erased word, in a put (document 02, Q-3)
abbrev pub erased_value : ℕ
erased_value = 18

-- another writer holds the file group's lock, at a read step (document 02, Q-9)
abbrev pub group_locked : ℕ
group_locked = 19

-- the rows of a scan do not fit
abbrev pub no_room : ℕ
no_room = 31

-- the timestamp is below the horizon, at a point read or a scan (document 02, Q-13)
abbrev pub below_horizon : ℕ
below_horizon = 32

-- a writer is about to copy a base that would be dropped, at a clean (document 02, Q-13)
abbrev pub base_needed : ℕ
base_needed = 33

-- there is no such horizon, at a clean: below the one that the table has, or above the last timestamp issued (document 02, Q-13)
abbrev pub no_horizon : ℕ
no_horizon = 34
