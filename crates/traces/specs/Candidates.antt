-- What the definitions give for the candidates of a commit, and what is noted for them (document 02, Q-12): a part of the table of traces.
use Rattle.std.specs.Prelude.{ℕ, suc, take, replicate}
use mathlib.Core.List.{List, [], ◌∷◌, ◌++◌, flatten}
use Rattle.common.specs.Counting.{list_below}
use Rattle.model.specs.Isolation.{Event, cleans_at, events_of}
use Rattle.model.specs.State.{State}
use Rattle.model.specs.declared.Mode.TheVariants.{Optimistic, Pessimistic}
use Rattle.model.specs.declared.Operation.TheVariants.{Put, Remove}
use Rattle.model.specs.declared.Action.TheVariants.{Start, LookUp, Read, Write, Index, Check, Commit, Abort}
use Rattle.model.specs.declared.Step.{Step}
use Rattle.traces.specs.Cases.{chosen, chosen_along, chosen_on, noted_after, judged, does, Trace, ◌gives◌}
use Rattle.traces.specs.Stories.{rest_of, p5, p7, p10, start_erased, largest_number}
use Rattle.traces.specs.Tables.{optimistic, pessimistic, in_pessimistic, with_horizon, with_writer, with_place, with_count, with_noted, busy, removing}
use Rattle.traces.specs.Tables.{refusing, all_noted, noted_all, no_run_notes, at_largest}
use Rattle.traces.specs.Stated.{out_of_range_numbers, locks_with, table_lock, in_each, in_both, in_neither, notes_given}
use Rattle.traces.specs.Pessimistic.{rest_unchecked, whole_unchecked, p5_waits}

-- writer w starts a put of key w, which proposes group w
abbrev starts : ℕ → Step
starts w = does w (Start (Put w 10 w))

-- timestamp 1 is started before all others, and 3 commits before 2
abbrev first_is_last : List Step
first_is_last = starts 0 ∷ starts 1 ∷ starts 2 ∷ rest_of 2 ++ rest_of 1

-- key 1 is put twice beside timestamp 1, with cleans between; the second drops the slice of timestamp 2
abbrev cleaned_beside : List Event
cleaned_beside =
    events_of (starts 0 ∷ whole_unchecked 1 (Put 1 10 1)) ++ cleans_at 2 ∷ events_of (whole_unchecked 1 (Put 1 11 1)) ++ cleans_at 3 ∷ []

-- writers 0 to 2 have started when writer 3 starts, at timestamp 4; writer 4 starts and gives up, writer 0 gives up, writer 1 commits, and writer 0 starts
-- again, at timestamp 6; then writer 2 commits
abbrev started_before : List Step
started_before =
    starts 0 ∷ starts 1 ∷ starts 2 ∷ starts 3 ∷ starts 4 ∷ does 4 Abort ∷ does 0 Abort ∷ rest_unchecked 1 ++ starts 0 ∷ rest_unchecked 2

-- writer 15 starts before writers 0 and 1, gives up, starts again, and gives up again
abbrev last_writer : List Step
last_writer = does 15 (Start (Remove 0)) ∷ starts 0 ∷ starts 1 ∷ does 15 Abort ∷ does 15 (Start (Remove 0)) ∷ does 15 Abort ∷ []

-- writers 0 and 1 are ready and hold a timestamp; writers 2 and 15 have an operation in progress
abbrev ready_holding : State
ready_holding =
    with_writer (with_writer (with_writer (noted_all Optimistic (table_lock 0) (busy 0 6 1 2 2)) 1 (busy 0 6 1 2 2)) 2 (busy 1 6 1 1 0)) 15 (busy 6 6 1 2 0)

-- `noted_all` as it was; and without the notes of writer 0, with these places
abbrev all_kept : List ℕ
all_kept = notes_given (replicate 128 9) (replicate 16 5) (replicate 256 1)

abbrev first_cleared : List ℕ → List ℕ
first_cleared places = notes_given places (0 ∷ replicate 15 5) (replicate 16 0 ++ replicate 240 1)

-- writers 0 and 1 have no operation in progress
abbrev both_ready : List ℕ
both_ready = in_neither 14 ++ in_neither 14

-- the same numbers after each of n steps
abbrev repeated : ℕ → List ℕ → List ℕ
repeated n l = flatten (replicate n l)

-- 1 to 128
abbrev all_timestamps : List ℕ
all_timestamps = list_below 128 (λ n. suc n ∷ [])

unfoldable pub candidates_traces : List Trace
candidates_traces =
    -- P10, step by step: timestamps 1 and 2 run alone; 3 and 4 start, and neither has a candidate, as nothing completed since they started; 4 commits, and
    -- is one of 3's until that commits; where 3 commits first it is one of 4's, though it started before
    (chosen_along optimistic (p10 ++ rest_of 0) (0 ∷ 1 ∷ [])
    gives both_ready ++ repeated 6 (in_both [] ++ in_neither 14) ++ both_ready ++ repeated 6 (in_neither 14 ++ in_both []) ++ both_ready
    ++ in_both [] ++ in_neither 14 ++ repeated 6 (in_both [] ++ in_both []) ++ repeated 6 (in_both (4 ∷ []) ++ in_neither 14) ++ both_ready)
    ∷ (chosen Optimistic (events_of (take 16 p10 ++ rest_of 0)) (0 ∷ 1 ∷ []) gives in_neither 14 ++ in_both (3 ∷ []))
    -- what is noted then: places, counts, and timestamp 3 by writer 1; no place before a commit; writers that have committed have no notes
    ∷ (noted_after optimistic (take 16 p10) gives notes_given (1 ∷ 2 ∷ []) (2 ∷ 2 ∷ []) (replicate 16 0 ++ 3 ∷ []))
    ∷ (noted_after optimistic p10 gives notes_given (1 ∷ 2 ∷ 0 ∷ 3 ∷ []) (2 ∷ []) [])
    ∷ (noted_after optimistic (p10 ++ rest_of 0) gives notes_given (1 ∷ 2 ∷ 4 ∷ 3 ∷ []) [] [])
    -- started before all others, and last: all others are candidates, by rising timestamp, in whatever order they completed, and cleaned or not
    ∷ (chosen Optimistic (events_of (take 9 first_is_last)) (0 ∷ 1 ∷ 2 ∷ []) gives in_both (3 ∷ []) ++ in_both (3 ∷ []) ++ in_neither 14)
    ∷ (chosen Optimistic (events_of first_is_last) (0 ∷ 1 ∷ []) gives in_both (2 ∷ 3 ∷ []) ++ in_neither 14)
    ∷ (chosen Pessimistic cleaned_beside (0 ∷ []) gives in_both (2 ∷ 3 ∷ []))
    ∷ (noted_after optimistic first_is_last gives notes_given (0 ∷ 2 ∷ 1 ∷ []) [] [])
    -- pending at the start: what gave up is in neither list, what committed is in both, what is still pending is not; nor is what started later and gave
    -- up, or is pending
    ∷ (chosen Pessimistic (events_of (take 13 started_before)) (0 ∷ 1 ∷ 2 ∷ 3 ∷ []) gives in_both [] ++ in_neither 14 ++ in_both (2 ∷ []) ++ in_both (2 ∷ []))
    ∷ (chosen Pessimistic (events_of started_before) (0 ∷ 2 ∷ 3 ∷ []) gives in_both (3 ∷ []) ++ in_neither 14 ++ in_both (2 ∷ 3 ∷ []))
    ∷ (noted_after pessimistic (take 13 started_before)
    gives notes_given (0 ∷ 1 ∷ []) (1 ∷ []) (0 ∷ 0 ∷ 3 ∷ 4 ∷ replicate 28 0 ++ 1 ∷ 2 ∷ replicate 14 0 ++ 1 ∷ 2 ∷ 3 ∷ []))
    -- P5: the second writer has the first as a candidate before its check, which ends it with 5; in a pessimistic table before its read and its commit
    ∷ (chosen Optimistic (events_of (take 12 (p5 0 1))) (1 ∷ []) gives in_both (1 ∷ []))
    ∷ (chosen Pessimistic (events_of (take 9 p5_waits)) (1 ∷ []) gives in_both (1 ∷ []))
    ∷ (chosen Pessimistic (events_of (take 12 p5_waits)) (0 ∷ 1 ∷ []) gives in_neither 14 ++ in_both (1 ∷ []))
    ∷ (noted_after optimistic (take 12 (p5 0 1)) gives notes_given (1 ∷ []) [] (replicate 16 0 ++ 1 ∷ []))
    ∷ (noted_after optimistic (p5 0 1) gives notes_given (1 ∷ []) [] [])
    -- P7: ended with 3
    ∷ (noted_after optimistic p7 gives notes_given (1 ∷ 0 ∷ 2 ∷ []) [] [])
    -- every writer is noted, at its own place in the row of the one that starts, and no row but that one changes
    ∷ (noted_after optimistic (take 4 last_writer) gives notes_given [] [] (replicate 15 0 ++ 1 ∷ 2 ∷ replicate 14 0 ++ 1 ∷ []))
    ∷ (noted_after optimistic (take 5 last_writer) gives notes_given [] [] (replicate 15 0 ++ 1 ∷ 2 ∷ replicate 14 0 ++ 1 ∷ replicate 208 0 ++ 2 ∷ 3 ∷ []))
    ∷ (noted_after optimistic last_writer gives notes_given [] [] (replicate 15 0 ++ 1 ∷ 2 ∷ replicate 14 0 ++ 1 ∷ []))
    -- refusals: 17, then 10, then 14; all places and counts are 0
    ∷ (chosen_on (with_place no_run_notes 1 129) (0 ∷ 2 ∷ 16 ∷ []) gives in_neither 17 ++ in_neither 17 ++ in_neither 17)
    ∷ (chosen_on optimistic (0 ∷ 15 ∷ []) gives in_neither 14 ++ in_neither 14)
    ∷ (chosen_on optimistic (16 ∷ 256 ∷ largest_number ∷ []) gives in_neither 10 ++ in_neither 10 ++ in_neither 10)
    ∷ (chosen_on no_run_notes (2 ∷ 16 ∷ []) gives in_neither 14 ++ in_neither 10)
    -- tables that no run reaches. A noted timestamp is listed by way one if it is completed, whatever its place, and once, though noted twice; the
    -- operation's own is no later one. By way two a completed timestamp is listed if its place is above the count, the operation's own too
    ∷ (chosen_on no_run_notes (0 ∷ []) gives in_each (1 ∷ 2 ∷ 6 ∷ 7 ∷ []) (5 ∷ 6 ∷ []))
    ∷ (chosen_on no_run_notes (1 ∷ []) gives in_each [] (4 ∷ 5 ∷ 6 ∷ []))
    ∷ (chosen_on no_run_notes (14 ∷ 15 ∷ []) gives in_each (4 ∷ []) [] ++ in_each (1 ∷ 2 ∷ 4 ∷ 5 ∷ 6 ∷ 7 ∷ []) (1 ∷ 4 ∷ 5 ∷ 6 ∷ []))
    ∷ (chosen_on (in_pessimistic no_run_notes) (0 ∷ []) gives in_each (1 ∷ 2 ∷ 6 ∷ 7 ∷ []) (5 ∷ 6 ∷ []))
    -- the last timestamp of all, and all of them
    ∷ (chosen_on (at_largest 128) (15 ∷ []) gives in_each (128 ∷ []) [])
    ∷ (chosen_on (with_writer (with_count (with_noted (at_largest 128) 0 7 1) 0 127) 0 (busy 6 31 7 1 1)) (0 ∷ []) gives in_both all_timestamps)
    -- a start notes the timestamps of operations in progress, not those that ready writers hold, the starting one among them, and how many are completed
    ∷ (noted_after ready_holding (does 0 (Start (Put 6 55 5)) ∷ [])
    gives notes_given (replicate 128 9) (2 ∷ replicate 15 5) (0 ∷ 0 ∷ 1 ∷ replicate 12 0 ++ 2 ∷ replicate 240 1))
    -- a refused step notes nothing: 10, 12, 14, 18 and 13, and a read with 19; 15 and 16; 17
    ∷ (noted_after (noted_all Optimistic (table_lock 0) (busy 1 6 5 1 0))
    (does 16 (Start (Put 6 55 5)) ∷ does 1 (Start (Put 32 55 5)) ∷ does 0 (Start (Put 6 55 5)) ∷ start_erased 1 6 5 ∷ does 1 (Start (Put 6 55 8))
    ∷ does 0 Commit ∷ does 1 Abort ∷ [])
    gives all_kept)
    ∷ (noted_after (noted_all Pessimistic (locks_with 1 6) (busy 2 6 1 1 0)) (does 0 Read ∷ []) gives all_kept)
    ∷ (noted_after (all_noted refusing) (does 0 (Start (Put 31 0 7)) ∷ does 2 Index ∷ []) gives all_kept)
    ∷ (noted_after (with_horizon (noted_all Optimistic (table_lock 0) (busy 1 6 5 1 0)) 3) (does 0 Abort ∷ starts 1 ∷ []) gives all_kept)
    -- nor does a step that goes on
    ∷ (noted_after (noted_all Optimistic (table_lock 0) (busy 1 6 5 1 0)) (does 0 LookUp ∷ does 0 Read ∷ does 0 Write ∷ does 0 Index ∷ does 0 Check ∷ [])
    gives all_kept)
    ∷ (noted_after (noted_all Pessimistic (table_lock 0) (busy 1 6 5 1 0)) (does 0 LookUp ∷ does 0 Read ∷ does 0 Write ∷ does 0 Index ∷ []) gives all_kept)
    -- whoever ends keeps no note, and leaves those of others: 2, 3, 4, 2 at the index step, 5 and 6
    ∷ (noted_after (noted_all Optimistic (table_lock 0) (removing 1 6 0 1 0)) (does 0 LookUp ∷ []) gives first_cleared (replicate 128 9))
    ∷ (noted_after (noted_all Optimistic (table_lock 0) (busy 2 6 1 1 0)) (does 0 Read ∷ []) gives first_cleared (replicate 128 9))
    ∷ (noted_after (noted_all Optimistic (table_lock 0) (busy 4 5 0 1 0)) (does 0 Index ∷ []) gives first_cleared (replicate 128 9))
    ∷ (noted_after (noted_all Optimistic (table_lock 0) (removing 4 6 0 1 0)) (does 0 Index ∷ []) gives first_cleared (replicate 128 9))
    ∷ (noted_after (noted_all Optimistic (table_lock 0) (busy 5 6 1 1 0)) (does 0 Check ∷ []) gives first_cleared (replicate 128 9))
    ∷ (noted_after (noted_all Pessimistic (table_lock 0) (busy 6 6 1 1 0)) (does 0 Abort ∷ []) gives first_cleared (replicate 128 9))
    -- so does whoever commits; its place is one more than the number of other completed instants, where its own is completed already too
    ∷ (noted_after (noted_all Optimistic (table_lock 0) (busy 6 6 0 2 2)) (does 0 Commit ∷ []) gives first_cleared (9 ∷ 2 ∷ replicate 126 9))
    ∷ (noted_after (noted_all Pessimistic (table_lock 0) (busy 6 6 0 1 0)) (does 0 Commit ∷ []) gives first_cleared (2 ∷ replicate 127 9))
    -- out of range by one number: the place of the first timestamp and of the last, the count of the first writer and of the last, the first noted
    -- timestamp and the last, where the last issued is 20 and where it is 128
    ∷ (judged (with_place (at_largest 20) 1 129) gives out_of_range_numbers)
    ∷ (judged (with_place (at_largest 20) 128 129) gives out_of_range_numbers)
    ∷ (judged (with_count (at_largest 20) 0 129) gives out_of_range_numbers)
    ∷ (judged (with_count (at_largest 20) 15 129) gives out_of_range_numbers)
    ∷ (judged (with_noted (at_largest 20) 0 0 21) gives out_of_range_numbers)
    ∷ (judged (with_noted (at_largest 20) 15 15 21) gives out_of_range_numbers)
    ∷ (judged (with_noted (at_largest 128) 15 15 129) gives out_of_range_numbers)
    ∷ []
