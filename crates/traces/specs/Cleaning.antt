-- What the definitions give where tables are cleaned (document 02, Q-13): a part of the table of traces.
use Rattle.std.specs.Prelude.{ℕ, List, [], ◌∷◌, ◌++◌, map, take, replicate}
use Rattle.model.specs.Limits.{writers}
use Rattle.model.specs.Isolation.{Event, takes_step, cleans_at, events_of}
use Rattle.model.specs.declared.Mode.TheVariants.{Optimistic, Pessimistic}
use Rattle.model.specs.declared.Operation.TheVariants.{Put}
use Rattle.model.specs.declared.Action.TheVariants.{Start, LookUp, Read, Write, Index, Check, Commit}
use Rattle.traces.specs.Cases.{scanned, read, instants, history, stored, replies, seen, cleaned, judged, committed_operation, does, Trace, ◌gives◌}
use Rattle.traces.specs.Stories.{whole, p5}
use Rattle.traces.specs.Tables.{in_pessimistic, with_horizon, with_base, cleanable, at_largest}
use Rattle.traces.specs.Stated.{in_range_numbers, out_of_range_numbers, idle, is_inflight, is_completed}

-- keys 1 and 2 are put twice each, in groups 1 and 2: timestamps 1 and 3, and 2 and 4
abbrev two_groups : List Event
two_groups = events_of (whole 0 (Put 1 10 1) ++ whole 1 (Put 2 20 2) ++ whole 0 (Put 1 11 1) ++ whole 1 (Put 2 21 2))

-- what a scan, a read of key 1 and the instant give then at timestamps 3 and 4
abbrev at_three : List ℕ
at_three = 0 ∷ 2 ∷ 1 ∷ 11 ∷ 1 ∷ 2 ∷ 20 ∷ 2 ∷ 0 ∷ 1 ∷ 11 ∷ 1 ∷ is_completed 1

abbrev at_four : List ℕ
at_four = 0 ∷ 2 ∷ 1 ∷ 11 ∷ 1 ∷ 2 ∷ 21 ∷ 2 ∷ 0 ∷ 1 ∷ 11 ∷ 1 ∷ is_completed 2

-- and what they give below the horizon, where an instant is completed in group g
abbrev below_it : ℕ → List ℕ
below_it g = 32 ∷ 0 ∷ replicate 6 99 ++ 32 ∷ is_completed g

-- key 1 is put in group 0 at timestamp 1; writer 1 is about to commit a put of key 2 there, at 2; writer 2, at 3, has read the base 1
abbrev reads_beside : List Event
reads_beside = events_of (whole 0 (Put 1 10 0) ++ take 6 (whole 1 (Put 2 20 0)) ++ take 3 (whole 2 (Put 1 11 0)))

-- writer w goes on from its write step to its commit
abbrev from_write : ℕ → List Event
from_write w = map (λ a. takes_step (does w a)) (Write ∷ Index ∷ Check ∷ Commit ∷ [])

-- key 1 is put in group 0 at timestamps 1 and 2; writer 1, at 3, is about to put key 2 there and has read the base 2
abbrev reads_newest : List Event
reads_newest = events_of (whole 0 (Put 1 10 0) ++ whole 0 (Put 1 11 0) ++ take 3 (whole 1 (Put 2 20 0)))

-- the same in a pessimistic table, where no check comes
abbrev whole_unchecked : ℕ → ℕ → List Event
whole_unchecked w v = map (λ a. takes_step (does w a)) (Start (Put 1 v 0) ∷ LookUp ∷ Read ∷ Write ∷ Index ∷ Commit ∷ [])

abbrev reads_newest_unchecked : List Event
reads_newest_unchecked = whole_unchecked 0 10 ++ whole_unchecked 0 11 ++ events_of (take 3 (whole 1 (Put 2 20 0)))

-- the places of the rows of key 5 in `cleanable`, by timestamp, and those at the ends of group 1's slice of timestamp 2 and beside it
abbrev key_five : List ℕ
key_five = 5 ∷ 293 ∷ 517 ∷ 805 ∷ 1125 ∷ 1317 ∷ 1541 ∷ 1829 ∷ []

abbrev edges : List ℕ
edges = 287 ∷ 288 ∷ 319 ∷ 320 ∷ []

-- all these rows of key 5 are there
abbrev all_there : List ℕ
all_there = 1 ∷ 11 ∷ 1 ∷ 12 ∷ 1 ∷ 13 ∷ 1 ∷ 14 ∷ 1 ∷ 15 ∷ 1 ∷ 16 ∷ 1 ∷ 17 ∷ 1 ∷ 18 ∷ []

unfoldable pub cleaning_traces : List Trace
cleaning_traces =
    -- keys in two groups, cleaned at a timestamp between: what is seen at and above it stays, below it reads are refused, instants are as they were
    (seen Optimistic two_groups 1 (3 ∷ 4 ∷ []) gives 0 ∷ at_three ++ at_four)
    ∷ (seen Optimistic (two_groups ++ cleans_at 3 ∷ []) 1 (1 ∷ 2 ∷ 3 ∷ 4 ∷ []) gives 3 ∷ below_it 1 ++ below_it 2 ++ at_three ++ at_four)
    ∷ (seen Optimistic (two_groups ++ cleans_at 4 ∷ []) 1 (3 ∷ 4 ∷ []) gives 4 ∷ below_it 1 ++ at_four)
    -- 34 above the last timestamp and below the horizon; the same clean again, and later ones
    ∷ (replies Optimistic two_groups (cleans_at 5 ∷ cleans_at 3 ∷ cleans_at 2 ∷ cleans_at 3 ∷ cleans_at 4 ∷ cleans_at 3 ∷ []) gives 34 ∷ 0 ∷ 34 ∷ 0 ∷ 0 ∷ 34 ∷ [])
    ∷ (replies Optimistic [] (cleans_at 0 ∷ cleans_at 1 ∷ []) gives 0 ∷ 34 ∷ [])
    -- a timestamp whose lowest bits are those of one issued
    ∷ (replies Optimistic two_groups (cleans_at 257 ∷ cleans_at 4294967299 ∷ cleans_at 18446744073709551615 ∷ []) gives 34 ∷ 34 ∷ 34 ∷ [])
    -- what was stored and what is committed stay, also where refused cleans stand among the events
    ∷ (stored Optimistic (two_groups ++ cleans_at 4 ∷ []) 1 1 gives 1 ∷ 10 ∷ [])
    ∷ (history Optimistic (cleans_at 0 ∷ events_of (p5 0 1) ++ cleans_at 9 ∷ cleans_at 2 ∷ []) gives 2 ∷ idle writers ++ committed_operation 1 0 (Put 0 10 0))
    -- a clean drops nothing; writer 1 commits, and the base of writer 2 would be dropped; after its write step the same clean is taken, and its check
    -- gives 5 as it would have without
    ∷ (replies Optimistic reads_beside (cleans_at 3 ∷ takes_step (does 1 Commit) ∷ cleans_at 3 ∷ takes_step (does 2 Write) ∷ cleans_at 3 ∷ takes_step (does 2 Index)
    ∷ takes_step (does 2 Check) ∷ []) gives 0 ∷ 1 ∷ 33 ∷ 0 ∷ 0 ∷ 0 ∷ 5 ∷ [])
    ∷ (seen Optimistic (reads_beside ++ takes_step (does 1 Commit) ∷ takes_step (does 2 Write) ∷ cleans_at 3 ∷ []) 1 (2 ∷ 3 ∷ [])
    gives 3 ∷ below_it 0 ++ 0 ∷ 2 ∷ 1 ∷ 10 ∷ 0 ∷ 2 ∷ 20 ∷ 0 ∷ 0 ∷ 1 ∷ 10 ∷ 0 ∷ is_inflight 0)
    -- an operation in progress commits at the horizon as it would have without the clean; then the same clean drops its base too
    ∷ (replies Optimistic reads_newest (cleans_at 3 ∷ from_write 1 ++ cleans_at 3 ∷ []) gives 0 ∷ 0 ∷ 0 ∷ 0 ∷ 1 ∷ 0 ∷ [])
    ∷ (seen Optimistic (reads_newest ++ cleans_at 3 ∷ takes_step (does 1 Write) ∷ cleans_at 3 ∷ []) 1 (3 ∷ []) gives
    3 ∷ 0 ∷ 1 ∷ 1 ∷ 11 ∷ 0 ∷ 99 ∷ 99 ∷ 99 ∷ 0 ∷ 1 ∷ 11 ∷ 0 ∷ is_inflight 0)
    ∷ (seen Optimistic (reads_newest ++ cleans_at 3 ∷ from_write 1 ++ cleans_at 3 ∷ []) 1 (3 ∷ []) gives
    3 ∷ 0 ∷ 2 ∷ 1 ∷ 11 ∷ 0 ∷ 2 ∷ 20 ∷ 0 ∷ 0 ∷ 1 ∷ 11 ∷ 0 ∷ is_completed 0)
    ∷ (replies Pessimistic reads_newest_unchecked (cleans_at 3 ∷ takes_step (does 1 Write) ∷ takes_step (does 1 Index) ∷ takes_step (does 1 Commit) ∷ cleans_at 3 ∷ [])
    gives 0 ∷ 0 ∷ 0 ∷ 1 ∷ 0 ∷ [])
    ∷ (seen Pessimistic (reads_newest_unchecked ++ cleans_at 2 ∷ []) 1 (1 ∷ 2 ∷ [])
    gives 2 ∷ below_it 0 ++ 0 ∷ 1 ∷ 1 ∷ 11 ∷ 0 ∷ 99 ∷ 99 ∷ 99 ∷ 0 ∷ 1 ∷ 11 ∷ 0 ∷ is_completed 0)
    -- tables that no run reaches. Of each group the newest completed slice at or below c stays, and so do newer ones, uncompleted ones, and one of a
    -- timestamp completed in another group; values stay
    ∷ (cleaned cleanable 0 key_five gives 0 ∷ 0 ∷ all_there)
    ∷ (cleaned cleanable 2 key_five gives 0 ∷ 2 ∷ all_there)
    ∷ (cleaned cleanable 5 key_five gives 0 ∷ 5 ∷ 1 ∷ 11 ∷ 0 ∷ 12 ∷ 1 ∷ 13 ∷ 1 ∷ 14 ∷ 1 ∷ 15 ∷ 1 ∷ 16 ∷ 1 ∷ 17 ∷ 1 ∷ 18 ∷ [])
    ∷ (cleaned cleanable 5 edges gives 0 ∷ 5 ∷ 1 ∷ 22 ∷ 0 ∷ 20 ∷ 0 ∷ 21 ∷ 1 ∷ 23 ∷ [])
    ∷ (cleaned cleanable 8 key_five gives 0 ∷ 8 ∷ 0 ∷ 11 ∷ 0 ∷ 12 ∷ 1 ∷ 13 ∷ 0 ∷ 14 ∷ 1 ∷ 15 ∷ 1 ∷ 16 ∷ 1 ∷ 17 ∷ 1 ∷ 18 ∷ [])
    ∷ (cleaned (in_pessimistic cleanable) 8 key_five gives 0 ∷ 8 ∷ 0 ∷ 11 ∷ 0 ∷ 12 ∷ 1 ∷ 13 ∷ 0 ∷ 14 ∷ 1 ∷ 15 ∷ 1 ∷ 16 ∷ 1 ∷ 17 ∷ 1 ∷ 18 ∷ [])
    -- refused, nothing changes
    ∷ (cleaned cleanable 9 key_five gives 34 ∷ 0 ∷ all_there)
    ∷ (cleaned (with_horizon cleanable 6) 5 key_five gives 34 ∷ 6 ∷ all_there)
    ∷ (cleaned (with_horizon cleanable 9) 9 key_five gives 17 ∷ 9 ∷ all_there)
    ∷ (cleaned (with_base 0 3 1 2) 5 key_five gives 33 ∷ 0 ∷ all_there)
    -- 33 for any writer, and for a base completed in another group than the writer's
    ∷ (cleaned (with_base 15 3 1 2) 5 [] gives 33 ∷ 0 ∷ [])
    ∷ (cleaned (with_base 0 3 0 2) 5 [] gives 33 ∷ 0 ∷ [])
    ∷ (cleaned (with_base 0 3 1 1) 8 [] gives 33 ∷ 0 ∷ [])
    ∷ (cleaned (in_pessimistic (with_base 0 3 1 2)) 5 [] gives 33 ∷ 0 ∷ [])
    -- not where the base is the newest of its own group at or below c, or newer, or not completed, or 0
    ∷ (cleaned (with_base 0 3 1 2) 3 [] gives 0 ∷ 3 ∷ [])
    ∷ (cleaned (with_base 0 3 1 1) 5 [] gives 0 ∷ 5 ∷ [])
    ∷ (cleaned (with_base 0 3 1 6) 5 [] gives 0 ∷ 5 ∷ [])
    ∷ (cleaned (with_base 0 3 1 3) 8 [] gives 0 ∷ 8 ∷ [])
    ∷ (cleaned (with_base 0 3 1 8) 8 [] gives 0 ∷ 8 ∷ [])
    ∷ (cleaned (with_base 0 3 1 0) 8 [] gives 0 ∷ 8 ∷ [])
    -- nor at another phase
    ∷ (cleaned (with_base 0 0 1 2) 5 [] gives 0 ∷ 5 ∷ [])
    ∷ (cleaned (with_base 0 2 1 2) 5 [] gives 0 ∷ 5 ∷ [])
    ∷ (cleaned (with_base 0 4 1 2) 5 [] gives 0 ∷ 5 ∷ [])
    ∷ (cleaned (with_base 0 6 1 2) 5 [] gives 0 ∷ 5 ∷ [])
    -- 17, then 34, then 33
    ∷ (cleaned (with_horizon (with_base 0 3 1 2) 9) 10 [] gives 17 ∷ 9 ∷ [])
    ∷ (cleaned (with_base 0 3 1 2) 9 [] gives 34 ∷ 0 ∷ [])
    ∷ (cleaned (with_horizon (with_base 0 3 1 2) 6) 5 [] gives 34 ∷ 6 ∷ [])
    -- 17, then 32, then 31 and 12; the instant call is not refused below the horizon
    ∷ (scanned (with_horizon cleanable 9) [] 4 2 gives 17 ∷ 0 ∷ 99 ∷ 99 ∷ [])
    ∷ (scanned (with_horizon cleanable 5) [] 4 2 gives 32 ∷ 0 ∷ 99 ∷ 99 ∷ [])
    ∷ (scanned (with_horizon cleanable 4) [] 4 2 gives 31 ∷ 0 ∷ 99 ∷ 99 ∷ [])
    ∷ (read (with_horizon cleanable 9) [] 4 32 gives 17 ∷ [])
    ∷ (read (with_horizon cleanable 5) [] 4 32 gives 32 ∷ [])
    ∷ (read (with_horizon cleanable 4) [] 4 32 gives 12 ∷ [])
    ∷ (instants (with_horizon cleanable 5) [] (4 ∷ []) gives is_completed 1)
    -- a horizon above the last timestamp, where that is 20 and where it is 128; and one below it
    ∷ (judged (with_horizon (at_largest 20) 21) gives out_of_range_numbers)
    ∷ (judged (with_horizon (at_largest 128) 129) gives out_of_range_numbers)
    ∷ (judged (with_horizon (at_largest 20) 1) gives in_range_numbers)
    ∷ []
