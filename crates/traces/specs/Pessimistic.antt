-- What the definitions give in a pessimistic table (document 02, Q-9), and what group locks are in an optimistic one: a part of the table of traces.
use Rattle.std.specs.Prelude.{ℕ, List, [], ◌∷◌, ◌++◌, take}
use Rattle.model.specs.Limits.{writers}
use Rattle.model.specs.Isolation.{events_of}
use Rattle.model.specs.declared.Mode.TheVariants.{Optimistic, Pessimistic}
use Rattle.model.specs.declared.Operation.{Operation}
use Rattle.model.specs.declared.Operation.TheVariants.{Put, Remove}
use Rattle.model.specs.declared.Action.TheVariants.{Start, LookUp, Read, Write, Index, Check, Commit, Abort}
use Rattle.model.specs.declared.Step.{Step}
use Rattle.run.specs.Runs.{of_log}
use Rattle.traces.specs.Cases.{ran, answers, each_answer, scanned, stands, instants, history, stored, judged, on_parts}
use Rattle.traces.specs.Cases.{writer_numbers, committed_operation, does, Trace, ◌gives◌}
use Rattle.traces.specs.Stories.{every_kind_log, printed_log}
use Rattle.traces.specs.Tables.{pessimistic, in_pessimistic, with_lock_at}
use Rattle.traces.specs.Tables.{putting, busy, removing, maker, at_phase, two_completed, at_largest, at_largest_but}
use Rattle.traces.specs.Stated.{in_range_numbers, out_of_range_numbers, locks_with, ready_numbers, idle, is_requested, is_inflight, is_completed}

-- a started operation carried out to its commit, from its look up on: no check comes
abbrev pub rest_unchecked : ℕ → List Step
rest_unchecked w = does w LookUp ∷ does w Read ∷ does w Write ∷ does w Index ∷ does w Commit ∷ []

-- an operation carried out whole
abbrev pub whole_unchecked : ℕ → Operation → List Step
whole_unchecked w op = does w (Start op) ∷ rest_unchecked w

-- P5's story: writers 0 and 1 put two keys in one group; writer 1's read is refused until writer 0 has committed, and then it commits too
abbrev pub p5_waits : List Step
p5_waits =
    does 0 (Start (Put 0 10 0)) ∷ does 1 (Start (Put 1 11 0)) ∷ does 0 LookUp ∷ does 1 LookUp ∷ does 0 Read ∷ does 1 Read ∷ does 0 Write ∷ does 0 Index
    ∷ does 0 Commit ∷ does 1 Read ∷ does 1 Write ∷ does 1 Index ∷ does 1 Commit ∷ []

-- P6's story: two puts of one key in two groups, both looked up before the first commits; then the second's index step
abbrev p6_unchecked : List Step
p6_unchecked =
    does 0 (Start (Put 1 10 0)) ∷ does 1 (Start (Put 1 11 1)) ∷ does 0 LookUp ∷ does 1 LookUp ∷ does 0 Read ∷ does 0 Write ∷ does 0 Index ∷ does 0 Commit
    ∷ does 1 Read ∷ does 1 Write ∷ does 1 Index ∷ []

-- P7's story: puts of one key at timestamps 1, 2 and 3; 1 and 3 commit, then 2 reads and is too late; then writer 3 reads in that group
abbrev p7_then_read : List Step
p7_then_read =
    does 0 (Start (Put 0 10 0)) ∷ does 1 (Start (Put 0 11 0)) ∷ does 2 (Start (Put 0 12 0))
    ∷ rest_unchecked 0 ++ rest_unchecked 2 ++ does 1 LookUp ∷ does 1 Read ∷ take 3 (whole_unchecked 3 (Put 1 13 0))

-- a writer gives up after n steps of a put in group 0; then another writer reads in that group
abbrev given_up_then_read : ℕ → List Step
given_up_then_read n = take n (whole_unchecked 0 (Put 1 10 0)) ++ does 0 Abort ∷ take 3 (whole_unchecked 1 (Put 1 20 0))

-- the writer that stalls: writer 0 has read in group 0; writer 1's read there is refused, again and again; writer 2 commits in group 5
abbrev stalls : List Step
stalls =
    take 3 (whole_unchecked 0 (Put 0 10 0)) ++ take 3 (whole_unchecked 1 (Put 1 11 0)) ++ does 1 Read ∷ whole_unchecked 2 (Put 2 12 5) ++ does 1 Read ∷ []

-- a put of key 1 makes its entry in group 0 and is given up at phase 6; then key 1 is put in group 1
abbrev entry_taken_out : List Step
entry_taken_out = take 5 (whole_unchecked 0 (Put 1 10 0)) ++ does 0 Abort ∷ whole_unchecked 2 (Put 1 20 1)

-- writer 1 removes key 1, whose entry is taken out before its index step
abbrev removes : List Step
removes = take 5 (whole_unchecked 0 (Put 1 10 0)) ++ take 2 (whole_unchecked 1 (Remove 1)) ++ does 0 Abort ∷ does 1 Read ∷ does 1 Write ∷ does 1 Index ∷ []

-- the locks where writer 0 holds those of groups 0 and 7, writer 5 that of group 3
abbrev many_locks : List ℕ
many_locks = 1 ∷ 0 ∷ 0 ∷ 6 ∷ 0 ∷ 0 ∷ 0 ∷ 1 ∷ []

-- the same after writer 0 has freed its own
abbrev others_lock : List ℕ
others_lock = locks_with 3 6

unfoldable pub pessimistic_traces : List Trace
pessimistic_traces =
    -- P5's story: nothing is lost; the second writer waits, reads what the first has committed, and commits
    (answers pessimistic p5_waits gives 0 ∷ 0 ∷ 0 ∷ 0 ∷ 0 ∷ 19 ∷ 0 ∷ 0 ∷ 1 ∷ 0 ∷ 0 ∷ 0 ∷ 1 ∷ [])
    ∷ (stands pessimistic (take 6 p5_waits) 1 1 gives 2 ∷ locks_with 0 1 ++ 0 ∷ writer_numbers (putting 11 2 1 0 2 0))
    ∷ (stands pessimistic (take 10 p5_waits) 1 1 gives 2 ∷ locks_with 0 2 ++ 0 ∷ writer_numbers (putting 11 3 1 0 2 1))
    ∷ (scanned pessimistic p5_waits 2 6 gives 0 ∷ 2 ∷ 0 ∷ 10 ∷ 0 ∷ 1 ∷ 11 ∷ 0 ∷ [])
    ∷ (history Pessimistic (events_of p5_waits) gives 2 ∷ idle writers ++ committed_operation 2 0 (Put 1 11 0) ++ committed_operation 1 0 (Put 0 10 0))
    ∷ (stored Pessimistic (events_of p5_waits) 2 0 gives 1 ∷ 10 ∷ [])
    -- P6's story: the key check stays, and frees the lock of the group that the writer wrote to
    ∷ (answers pessimistic p6_unchecked gives 0 ∷ 0 ∷ 0 ∷ 0 ∷ 0 ∷ 0 ∷ 0 ∷ 1 ∷ 0 ∷ 0 ∷ 4 ∷ [])
    ∷ (stands pessimistic (take 10 p6_unchecked) 1 1 gives 2 ∷ locks_with 1 2 ++ 1 ∷ writer_numbers (putting 11 4 1 1 2 0))
    ∷ (stands pessimistic p6_unchecked 1 1 gives 2 ∷ locks_with 1 0 ++ 1 ∷ ready_numbers)
    ∷ (history Pessimistic (events_of p6_unchecked) gives 2 ∷ idle writers ++ committed_operation 1 0 (Put 1 10 0))
    ∷ (instants pessimistic p6_unchecked (1 ∷ 2 ∷ []) gives is_completed 0 ++ is_inflight 1)
    -- P7's story: too late, the writer holds no lock, and another reads
    ∷ (answers pessimistic p7_then_read gives 0 ∷ 0 ∷ 0 ∷ 0 ∷ 0 ∷ 0 ∷ 0 ∷ 1 ∷ 0 ∷ 0 ∷ 0 ∷ 0 ∷ 1 ∷ 0 ∷ 3 ∷ 0 ∷ 0 ∷ 0 ∷ [])
    ∷ (stands pessimistic (take 15 p7_then_read) 1 0 gives 3 ∷ locks_with 0 0 ++ 1 ∷ ready_numbers)
    ∷ (instants pessimistic p7_then_read (2 ∷ []) gives is_requested)
    -- given up at phases 2, 3, 4 and 6: the lock is free, and another reads
    ∷ (answers pessimistic (given_up_then_read 2) gives 0 ∷ 0 ∷ 6 ∷ 0 ∷ 0 ∷ 0 ∷ [])
    ∷ (answers pessimistic (given_up_then_read 3) gives 0 ∷ 0 ∷ 0 ∷ 6 ∷ 0 ∷ 0 ∷ 0 ∷ [])
    ∷ (answers pessimistic (given_up_then_read 4) gives 0 ∷ 0 ∷ 0 ∷ 0 ∷ 6 ∷ 0 ∷ 0 ∷ 0 ∷ [])
    ∷ (answers pessimistic (given_up_then_read 5) gives 0 ∷ 0 ∷ 0 ∷ 0 ∷ 0 ∷ 6 ∷ 0 ∷ 0 ∷ 0 ∷ [])
    ∷ (stands pessimistic (take 4 (given_up_then_read 3)) 0 1 gives 1 ∷ locks_with 0 0 ++ 0 ∷ ready_numbers)
    -- a writer stalls: another in its group is refused for as long as it stands, a third one in another group commits
    ∷ (answers pessimistic stalls gives 0 ∷ 0 ∷ 0 ∷ 0 ∷ 0 ∷ 19 ∷ 19 ∷ 0 ∷ 0 ∷ 0 ∷ 0 ∷ 0 ∷ 1 ∷ 19 ∷ [])
    ∷ (scanned pessimistic stalls 3 3 gives 0 ∷ 1 ∷ 2 ∷ 12 ∷ 5 ∷ [])
    -- a table at each step of an operation: the lock is taken by the read step, and kept to the commit; the index step leads to phase 6
    ∷ (stands pessimistic (take 2 (whole_unchecked 2 (Put 6 55 3))) 2 6 gives 1 ∷ locks_with 3 0 ++ 0 ∷ writer_numbers (busy 2 6 3 1 0))
    ∷ (stands pessimistic (take 3 (whole_unchecked 2 (Put 6 55 3))) 2 6 gives 1 ∷ locks_with 3 3 ++ 0 ∷ writer_numbers (busy 3 6 3 1 0))
    ∷ (stands pessimistic (take 4 (whole_unchecked 2 (Put 6 55 3))) 2 6 gives 1 ∷ locks_with 3 3 ++ 0 ∷ writer_numbers (busy 4 6 3 1 0))
    ∷ (stands pessimistic (take 5 (whole_unchecked 2 (Put 6 55 3))) 2 6 gives 1 ∷ locks_with 3 3 ++ 4 ∷ writer_numbers (maker (busy 6 6 3 1 0)))
    ∷ (stands pessimistic (whole_unchecked 2 (Put 6 55 3)) 2 6 gives 1 ∷ locks_with 3 0 ++ 4 ∷ ready_numbers)
    -- an entry is taken out again as in an optimistic table, and a remove must find its key still indexed
    ∷ (answers pessimistic entry_taken_out gives 0 ∷ 0 ∷ 0 ∷ 0 ∷ 0 ∷ 6 ∷ 0 ∷ 0 ∷ 0 ∷ 0 ∷ 0 ∷ 1 ∷ [])
    ∷ (instants pessimistic entry_taken_out (2 ∷ []) gives is_completed 1)
    ∷ (answers pessimistic removes gives 0 ∷ 0 ∷ 0 ∷ 0 ∷ 0 ∷ 0 ∷ 0 ∷ 6 ∷ 0 ∷ 0 ∷ 2 ∷ [])
    ∷ (stands pessimistic removes 1 1 gives 2 ∷ locks_with 0 0 ++ 0 ∷ ready_numbers)
    -- the actions at each phase: start, look up, read, write, index, check, commit, abort; no phase takes the check
    ∷ (each_answer (in_pessimistic (at_phase 0)) gives 0 ∷ 14 ∷ 14 ∷ 14 ∷ 14 ∷ 14 ∷ 14 ∷ 14 ∷ [])
    ∷ (each_answer (in_pessimistic (at_phase 1)) gives 14 ∷ 0 ∷ 14 ∷ 14 ∷ 14 ∷ 14 ∷ 14 ∷ 6 ∷ [])
    ∷ (each_answer (in_pessimistic (at_phase 2)) gives 14 ∷ 14 ∷ 0 ∷ 14 ∷ 14 ∷ 14 ∷ 14 ∷ 6 ∷ [])
    ∷ (each_answer (in_pessimistic (at_phase 3)) gives 14 ∷ 14 ∷ 14 ∷ 0 ∷ 14 ∷ 14 ∷ 14 ∷ 6 ∷ [])
    ∷ (each_answer (in_pessimistic (at_phase 4)) gives 14 ∷ 14 ∷ 14 ∷ 14 ∷ 0 ∷ 14 ∷ 14 ∷ 6 ∷ [])
    ∷ (each_answer (in_pessimistic (at_phase 5)) gives 14 ∷ 14 ∷ 14 ∷ 14 ∷ 14 ∷ 14 ∷ 14 ∷ 6 ∷ [])
    ∷ (each_answer (in_pessimistic (at_phase 6)) gives 14 ∷ 14 ∷ 14 ∷ 14 ∷ 14 ∷ 14 ∷ 1 ∷ 6 ∷ [])
    -- a log is the same for both modes; document 01's has a check step, which is refused
    ∷ (ran pessimistic (of_log every_kind_log) 10 gives 0 ∷ 9 ∷ 23 ∷ 0 ∷ 12 ∷ 14 ∷ 14 ∷ 14 ∷ 14 ∷ 14 ∷ 14 ∷ 14 ∷ 99 ∷ [])
    ∷ (ran pessimistic (of_log printed_log) 7 gives 0 ∷ 7 ∷ 18 ∷ 0 ∷ 0 ∷ 0 ∷ 0 ∷ 0 ∷ 14 ∷ 1 ∷ [])
    -- tables that no run reaches. The lock of the group is another writer's: 19 where 3 would follow, and nothing changes; 14 comes before it; the write,
    -- the index step, the commit and the abort do not ask for it, and leave it
    ∷ (answers (two_completed Pessimistic (locks_with 1 6) (busy 2 6 1 1 0)) (does 0 Read ∷ []) gives 19 ∷ [])
    ∷ (stands (two_completed Pessimistic (locks_with 1 6) (busy 2 6 1 1 0)) (does 0 Read ∷ []) 0 6 gives 2 ∷ locks_with 1 6 ++ 0 ∷ writer_numbers (busy 2 6 1 1 0))
    ∷ (each_answer (two_completed Pessimistic (locks_with 1 6) (busy 3 6 1 1 0)) gives 14 ∷ 14 ∷ 14 ∷ 0 ∷ 14 ∷ 14 ∷ 14 ∷ 6 ∷ [])
    ∷ (stands (two_completed Pessimistic (locks_with 1 6) (busy 4 6 1 1 0)) (does 0 Index ∷ []) 0 6
    gives 2 ∷ locks_with 1 6 ++ 2 ∷ writer_numbers (maker (busy 6 6 1 1 0)))
    ∷ (stands (two_completed Pessimistic (locks_with 1 6) (busy 6 6 1 1 0)) (does 0 Commit ∷ []) 0 6 gives 2 ∷ locks_with 1 6 ++ 0 ∷ ready_numbers)
    ∷ (stands (two_completed Pessimistic (locks_with 1 6) (busy 4 6 1 1 0)) (does 0 Abort ∷ []) 0 6 gives 2 ∷ locks_with 1 6 ++ 0 ∷ ready_numbers)
    -- it is another group's: it is not asked for; it is the writer's own already: it reads, and is too late, and then the lock is free
    ∷ (stands (two_completed Pessimistic (locks_with 0 6) (busy 2 6 3 1 0)) (does 0 Read ∷ []) 0 6
    gives 2 ∷ (6 ∷ 0 ∷ 0 ∷ 1 ∷ 0 ∷ 0 ∷ 0 ∷ 0 ∷ []) ++ 0 ∷ writer_numbers (busy 3 6 3 1 0))
    ∷ (stands (two_completed Pessimistic (locks_with 3 1) (busy 2 6 3 1 0)) (does 0 Read ∷ []) 0 6 gives 2 ∷ locks_with 3 1 ++ 0 ∷ writer_numbers (busy 3 6 3 1 0))
    ∷ (answers (two_completed Pessimistic (locks_with 1 1) (busy 2 6 1 1 0)) (does 0 Read ∷ []) gives 3 ∷ [])
    ∷ (stands (two_completed Pessimistic (locks_with 1 1) (busy 2 6 1 1 0)) (does 0 Read ∷ []) 0 6 gives 2 ∷ locks_with 1 0 ++ 0 ∷ ready_numbers)
    -- whoever ends or commits frees each lock that it holds, and no other: 2, 3, 4, 6 and 1; group locks in an optimistic table too, and there also with 5
    ∷ (stands (two_completed Pessimistic many_locks (removing 1 6 0 1 0)) (does 0 LookUp ∷ []) 0 6 gives 2 ∷ others_lock ++ 0 ∷ ready_numbers)
    ∷ (stands (two_completed Pessimistic many_locks (busy 2 6 1 1 0)) (does 0 Read ∷ []) 0 6 gives 2 ∷ others_lock ++ 0 ∷ ready_numbers)
    ∷ (stands (two_completed Pessimistic many_locks (busy 4 5 0 1 0)) (does 0 Index ∷ []) 0 5 gives 2 ∷ others_lock ++ 4 ∷ ready_numbers)
    ∷ (stands (two_completed Pessimistic many_locks (removing 4 6 0 1 0)) (does 0 Index ∷ []) 0 6 gives 2 ∷ others_lock ++ 0 ∷ ready_numbers)
    ∷ (stands (two_completed Pessimistic many_locks (busy 5 6 0 1 0)) (does 0 Abort ∷ []) 0 6 gives 2 ∷ others_lock ++ 0 ∷ ready_numbers)
    ∷ (stands (two_completed Pessimistic many_locks (busy 6 6 0 2 0)) (does 0 Commit ∷ []) 0 6 gives 2 ∷ others_lock ++ 0 ∷ ready_numbers)
    ∷ (stands (two_completed Optimistic many_locks (busy 2 6 1 1 0)) (does 0 Read ∷ []) 0 6 gives 2 ∷ others_lock ++ 0 ∷ ready_numbers)
    ∷ (stands (two_completed Optimistic many_locks (busy 5 6 1 1 0)) (does 0 Check ∷ []) 0 6 gives 2 ∷ others_lock ++ 0 ∷ ready_numbers)
    ∷ (stands (two_completed Optimistic many_locks (busy 6 6 0 2 0)) (does 0 Commit ∷ []) 0 6 gives 2 ∷ others_lock ++ 0 ∷ ready_numbers)
    -- in an optimistic table no step asks for the lock of a group but the first, and an index step takes that one, whichever its group
    ∷ (stands (two_completed Optimistic others_lock (busy 2 6 3 1 0)) (does 0 Read ∷ []) 0 6 gives 2 ∷ others_lock ++ 0 ∷ writer_numbers (busy 3 6 3 1 0))
    ∷ (stands (two_completed Optimistic others_lock (busy 4 6 3 1 0)) (does 0 Index ∷ []) 0 6
    gives 2 ∷ (1 ∷ 0 ∷ 0 ∷ 6 ∷ 0 ∷ 0 ∷ 0 ∷ 0 ∷ []) ++ 4 ∷ writer_numbers (maker (busy 5 6 3 1 0)))
    -- whoever goes on keeps each lock that it holds, and takes none but the one that it should, also where others are free
    ∷ (stands (two_completed Pessimistic many_locks (busy 0 0 0 0 0)) (does 0 (Start (Put 6 55 5)) ∷ does 0 LookUp ∷ []) 0 6
    gives 3 ∷ many_locks ++ 0 ∷ writer_numbers (busy 2 6 5 3 0))
    ∷ (stands (two_completed Optimistic many_locks (busy 0 0 0 0 0)) (does 0 (Start (Put 6 55 5)) ∷ does 0 LookUp ∷ []) 0 6
    gives 3 ∷ many_locks ++ 0 ∷ writer_numbers (busy 2 6 5 3 0))
    ∷ (stands (two_completed Pessimistic many_locks (busy 2 6 5 1 0)) (does 0 Read ∷ does 0 Write ∷ does 0 Index ∷ []) 0 6
    gives 2 ∷ (1 ∷ 0 ∷ 0 ∷ 6 ∷ 0 ∷ 1 ∷ 0 ∷ 1 ∷ []) ++ 6 ∷ writer_numbers (maker (busy 6 6 5 1 0)))
    ∷ (stands (two_completed Pessimistic (locks_with 5 0) (busy 3 6 5 1 0)) (does 0 Write ∷ []) 0 6 gives 2 ∷ locks_with 5 0 ++ 0 ∷ writer_numbers (busy 4 6 5 1 0))
    ∷ (stands (two_completed Pessimistic (locks_with 5 0) (busy 4 6 5 1 0)) (does 0 Index ∷ []) 0 6
    gives 2 ∷ locks_with 5 0 ++ 6 ∷ writer_numbers (maker (busy 6 6 5 1 0)))
    ∷ (stands (two_completed Optimistic many_locks (busy 2 6 5 1 0)) (does 0 Read ∷ []) 0 6 gives 2 ∷ many_locks ++ 0 ∷ writer_numbers (busy 3 6 5 1 0))
    ∷ (stands (two_completed Optimistic many_locks (busy 3 6 5 1 0)) (does 0 Write ∷ []) 0 6 gives 2 ∷ many_locks ++ 0 ∷ writer_numbers (busy 4 6 5 1 0))
    ∷ (stands (two_completed Optimistic many_locks (busy 4 6 5 1 0)) (does 0 Index ∷ does 0 Check ∷ []) 0 6
    gives 2 ∷ many_locks ++ 6 ∷ writer_numbers (maker (busy 6 6 5 1 0)))
    -- a step on the parts of a pessimistic table
    ∷ (on_parts (two_completed Pessimistic (locks_with 1 6) (busy 2 6 1 1 0)) (does 0 Read) gives 19 ∷ [])
    -- the grounds of 17 are the same: every number the largest; the first lock and the last too large
    ∷ (judged (in_pessimistic (at_largest 20)) gives in_range_numbers)
    ∷ (judged (in_pessimistic (at_largest_but 20 (λ s. with_lock_at s 0 17))) gives out_of_range_numbers)
    ∷ (judged (in_pessimistic (at_largest_but 20 (λ s. with_lock_at s 7 17))) gives out_of_range_numbers)
    ∷ []
