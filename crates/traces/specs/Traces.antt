-- What the definitions give, in one table with one claim about all of it: document 01's traces (Traces to hold it to) that are marked P, with the
-- writers and timestamps of document 02, Q-6, and the numbers of Q-8; and cases for what no law of the whole table says: the stops of numbers and
-- records, logs of the old rule, the log writer's refusals, histories, instants, the grounds of 17 one by one, the refusals in their order, the erased
-- word (document 02, Q-3), the search of the check and its count (Q-2), index entries that are taken out again (Q-4), pessimistic tables (Q-9, in
-- Pessimistic.antt), cleaned tables (Q-13, in Cleaning.antt), candidates of a commit (Q-12, in Candidates.antt), tables that no run reaches. The lists
-- of steps are in Stories.antt, the tables in Tables.antt, what several cases state in Stated.antt.
use Rattle.std.specs.Prelude.{◌-◌, replicate, take}
use mathlib.Core.List.{List, [], ◌∷◌, ◌++◌}
use Rattle.common.specs.Counting.{list_below}
use Rattle.model.specs.Limits.{writers}
use Rattle.model.specs.State.{requested, inflight, completed}
use Rattle.model.specs.State.{with_last}
use Rattle.model.specs.Rules.{with_instant}
use Rattle.model.specs.Isolation.{events_of}
use Rattle.model.specs.declared.Mode.TheVariants.{Optimistic}
use Rattle.model.specs.declared.Operation.TheVariants.{Put, Remove}
use Rattle.model.specs.declared.Action.TheVariants.{Start, LookUp, Read, Write, Index, Check, Commit, Abort}
use Rattle.steplog.specs.Records.{log_read, old_log_read}
use Rattle.run.specs.Runs.{of_log, of_list}
use Rattle.traces.specs.Cases.{encode, decode, read_record, read_log, written, ran, answers, each_answer, scanned, read, stands}
use Rattle.traces.specs.Cases.{on_parts, place, rows, instants, history, stored, searched, judged}
use Rattle.traces.specs.Cases.{writer_numbers, pending_operation, committed_operation, does, Trace, ◌gives◌}
use Rattle.traces.specs.Stories.{rest_of, whole, p5, p6, p7, p8, p10, start_and_abort, aborts, beside, put_and_remove, second_put, given_up_after}
use Rattle.traces.specs.Stories.{proposes, entry_before, fails_later, looked_up, removes_indexed, every_kind, every_kind_log, printed_log, largest_number}
use Rattle.traces.specs.Stories.{largest_code, longest_start, longest_log, start_erased, start_erased_log, old_largest_log, past_old_log, wide_value}
use Rattle.traces.specs.Stories.{bad_kind_log}
use Rattle.traces.specs.Tables.{optimistic, with_entry, with_lock_at, with_instants, three_groups, last_completed, table, with_writer, putting, busy}
use Rattle.traces.specs.Tables.{removing, maker, at_phase, erased_at_phase, other_groups_timestamp, other_groups_base, one_timestamp, one_key_twice}
use Rattle.traces.specs.Tables.{stale_rows, refusing, holding, own_lock, unlocked, at_largest, at_largest_but}
use Rattle.traces.specs.Stated.{in_range_numbers, out_of_range_numbers, table_lock, ready_numbers, idle, is_none, is_requested, is_inflight, is_completed}
use Rattle.traces.specs.Pessimistic.{pessimistic_traces}
use Rattle.traces.specs.Cleaning.{cleaning_traces}
use Rattle.traces.specs.Candidates.{candidates_traces}

unfoldable pub traces : List Trace
traces =
    -- numbers: P1 to P4, the second case of P4 as document 02, Q-8 has it, and numbers above P3's
    (encode 0 gives 0x00 ∷ [])
    ∷ (encode 127 gives 0x7F ∷ [])
    ∷ (encode 128 gives 0x80 ∷ 0x01 ∷ [])
    ∷ (encode 16383 gives 0xFF ∷ 0x7F ∷ [])
    ∷ (encode 16384 gives 0x80 ∷ 0x80 ∷ 0x01 ∷ [])
    ∷ (encode 4294967295 gives 0xFF ∷ 0xFF ∷ 0xFF ∷ 0xFF ∷ 0x0F ∷ [])
    ∷ (encode 4294967296 gives 0x80 ∷ 0x80 ∷ 0x80 ∷ 0x80 ∷ 0x10 ∷ [])
    ∷ (encode largest_number gives largest_code)
    ∷ (decode (0x80 ∷ 0x00 ∷ []) 0 gives 21 ∷ [])
    ∷ (decode (replicate 9 0xFF ++ 0x02 ∷ []) 0 gives 22 ∷ [])
    ∷ (decode (0x80 ∷ []) 0 gives 20 ∷ [])
    -- numbers read, with the place behind them; the stops at a tenth byte, and none at a fifth; at the end of the bytes and past it
    ∷ (decode (largest_code ++ 0x00 ∷ []) 0 gives 0 ∷ largest_number ∷ 10 ∷ [])
    ∷ (decode (0x80 ∷ 0x01 ∷ 0x00 ∷ []) 2 gives 0 ∷ 0 ∷ 3 ∷ [])
    ∷ (decode (replicate 9 0x80 ++ 0x00 ∷ []) 0 gives 21 ∷ [])
    ∷ (decode (replicate 10 0x80 ++ 0x00 ∷ []) 0 gives 22 ∷ [])
    ∷ (decode (replicate 9 0xFF) 0 gives 20 ∷ [])
    ∷ (decode (0xFF ∷ 0xFF ∷ 0xFF ∷ 0xFF ∷ 0x0F ∷ 0x00 ∷ []) 0 gives 0 ∷ 4294967295 ∷ 5 ∷ [])
    ∷ (decode (0xFF ∷ 0xFF ∷ 0xFF ∷ 0xFF ∷ 0x10 ∷ []) 0 gives 0 ∷ 4563402751 ∷ 5 ∷ [])
    ∷ (decode (0x80 ∷ 0x80 ∷ 0x80 ∷ 0x80 ∷ 0x80 ∷ 0x00 ∷ []) 0 gives 21 ∷ [])
    ∷ (decode (0x00 ∷ []) 1 gives 20 ∷ [])
    ∷ (decode (0x00 ∷ []) 2 gives 20 ∷ [])
    -- records: the place behind them and their numbers; the end of the log and past it; a kind that is none, with nothing behind it
    ∷ (read_record every_kind_log 0 gives 0 ∷ 6 ∷ 0 ∷ 1 ∷ 1 ∷ 300 ∷ 2 ∷ [])
    ∷ (read_record every_kind_log 6 gives 0 ∷ 9 ∷ 1 ∷ 2 ∷ 99 ∷ [])
    ∷ (read_record every_kind_log 21 gives 0 ∷ 23 ∷ 2 ∷ 9 ∷ [])
    ∷ (read_record every_kind_log 23 gives 0 ∷ [])
    ∷ (read_record every_kind_log 24 gives 0 ∷ [])
    ∷ (read_record bad_kind_log 2 gives 23 ∷ [])
    ∷ (read_record (0x00 ∷ 0x00 ∷ []) 0 gives 23 ∷ [])
    ∷ (read_record (0x00 ∷ 0x02 ∷ []) 0 gives 20 ∷ [])
    -- the longest record, and what there is of it before its last byte
    ∷ (read_record longest_log 0 gives 0 ∷ 41 ∷ largest_number ∷ 1 ∷ largest_number ∷ largest_number ∷ largest_number ∷ [])
    ∷ (read_record (take 40 longest_log) 0 gives 20 ∷ [])
    -- logs under the old rule and under this one
    ∷ (read_log old_log_read old_largest_log gives 0 ∷ 7 ∷ 0 ∷ 2 ∷ 4294967295 ∷ [])
    ∷ (read_log log_read old_largest_log gives 0 ∷ 7 ∷ 0 ∷ 2 ∷ 4294967295 ∷ [])
    ∷ (read_log old_log_read past_old_log gives 22 ∷ 7 ∷ 0 ∷ 2 ∷ 4294967295 ∷ [])
    ∷ (read_log log_read past_old_log gives 0 ∷ 14 ∷ 0 ∷ 2 ∷ 4294967295 ∷ 0 ∷ 2 ∷ 4563402751 ∷ [])
    -- logs written: each kind; the longest record; a log that just fits, and no step; no room, at the end too; past the end, with no step too
    ∷ (written every_kind 26 2 gives 0 ∷ 23 ∷ 99 ∷ 99 ∷ every_kind_log ++ 99 ∷ [])
    ∷ (written (longest_start ∷ []) 41 0 gives 0 ∷ 41 ∷ longest_log)
    ∷ (written (longest_start ∷ []) 40 0 gives 26 ∷ 0 ∷ replicate 40 99)
    ∷ (written (does 0 LookUp ∷ []) 3 1 gives 0 ∷ 2 ∷ 99 ∷ 0x00 ∷ 0x03 ∷ [])
    ∷ (written [] 3 3 gives 0 ∷ 0 ∷ 99 ∷ 99 ∷ 99 ∷ [])
    ∷ (written (does 0 LookUp ∷ []) 3 2 gives 26 ∷ 0 ∷ 99 ∷ 99 ∷ 99 ∷ [])
    ∷ (written (does 0 LookUp ∷ []) 3 3 gives 26 ∷ 0 ∷ 99 ∷ 99 ∷ 99 ∷ [])
    ∷ (written (does 0 LookUp ∷ []) 3 4 gives 27 ∷ 0 ∷ 99 ∷ 99 ∷ 99 ∷ [])
    ∷ (written [] 3 4 gives 27 ∷ 0 ∷ 99 ∷ 99 ∷ 99 ∷ [])
    -- runs over a log and over a list: to the end, with a place left and with just enough; no place; a record that is refused, with a place and without
    ∷ (ran optimistic (of_log every_kind_log) 10 gives 0 ∷ 9 ∷ 23 ∷ 0 ∷ 12 ∷ 14 ∷ 14 ∷ 14 ∷ 14 ∷ 14 ∷ 14 ∷ 14 ∷ 99 ∷ [])
    ∷ (ran optimistic (of_log every_kind_log) 1 gives 24 ∷ 1 ∷ 6 ∷ 0 ∷ [])
    ∷ (ran optimistic (of_log bad_kind_log) 2 gives 23 ∷ 1 ∷ 2 ∷ 14 ∷ 99 ∷ [])
    ∷ (ran optimistic (of_log bad_kind_log) 1 gives 24 ∷ 1 ∷ 2 ∷ 14 ∷ [])
    ∷ (ran optimistic (of_log []) 0 gives 0 ∷ 0 ∷ 0 ∷ [])
    ∷ (ran optimistic (of_log printed_log) 7 gives 0 ∷ 7 ∷ 18 ∷ 0 ∷ 0 ∷ 0 ∷ 0 ∷ 0 ∷ 0 ∷ 1 ∷ [])
    ∷ (ran optimistic (of_list every_kind) 10 gives 0 ∷ 9 ∷ 9 ∷ 0 ∷ 12 ∷ 14 ∷ 14 ∷ 14 ∷ 14 ∷ 14 ∷ 14 ∷ 14 ∷ 99 ∷ [])
    ∷ (ran optimistic (of_list every_kind) 9 gives 0 ∷ 9 ∷ 9 ∷ 0 ∷ 12 ∷ 14 ∷ 14 ∷ 14 ∷ 14 ∷ 14 ∷ 14 ∷ 14 ∷ [])
    ∷ (ran optimistic (of_list every_kind) 1 gives 24 ∷ 1 ∷ 1 ∷ 0 ∷ [])
    ∷ (ran optimistic (of_list []) 0 gives 0 ∷ 0 ∷ 0 ∷ [])
    -- answers: P5, also with the commits swapped, to P9, and a start by the last writer; the 128th start and the 129th
    ∷ (answers optimistic (p5 0 1) gives 0 ∷ 0 ∷ 0 ∷ 0 ∷ 0 ∷ 0 ∷ 0 ∷ 0 ∷ 0 ∷ 1 ∷ 0 ∷ 0 ∷ 5 ∷ [])
    ∷ (answers optimistic (p5 1 0) gives 0 ∷ 0 ∷ 0 ∷ 0 ∷ 0 ∷ 0 ∷ 0 ∷ 0 ∷ 0 ∷ 1 ∷ 0 ∷ 0 ∷ 5 ∷ [])
    ∷ (answers optimistic p6 gives 0 ∷ 0 ∷ 0 ∷ 0 ∷ 0 ∷ 0 ∷ 0 ∷ 0 ∷ 1 ∷ 0 ∷ 0 ∷ 4 ∷ [])
    ∷ (answers optimistic p7 gives 0 ∷ 0 ∷ 0 ∷ 0 ∷ 0 ∷ 0 ∷ 0 ∷ 0 ∷ 1 ∷ 0 ∷ 0 ∷ 0 ∷ 0 ∷ 0 ∷ 1 ∷ 0 ∷ 3 ∷ [])
    ∷ (answers optimistic p8 gives 0 ∷ 2 ∷ [])
    ∷ (answers optimistic (does 16 (Start (Put 0 0 0)) ∷ does 16 (Start (Put 32 0 0)) ∷ does 15 (Start (Put 0 0 0)) ∷ []) gives 10 ∷ 10 ∷ 0 ∷ [])
    ∷ (answers optimistic (list_below 128 start_and_abort ++ start_and_abort 0) gives list_below 128 (λ n. 0 ∷ 6 ∷ []) ++ 15 ∷ 14 ∷ [])
    -- scans: P10, and two rows with room for 5 numbers and for 8
    ∷ (scanned optimistic p10 3 6 gives 0 ∷ 2 ∷ 1 ∷ 10 ∷ 1 ∷ 2 ∷ 20 ∷ 2 ∷ [])
    ∷ (scanned optimistic p10 4 6 gives 0 ∷ 2 ∷ 1 ∷ 10 ∷ 1 ∷ 2 ∷ 21 ∷ 2 ∷ [])
    ∷ (scanned optimistic (p10 ++ rest_of 0) 3 6 gives 0 ∷ 2 ∷ 1 ∷ 11 ∷ 1 ∷ 2 ∷ 20 ∷ 2 ∷ [])
    ∷ (scanned optimistic p10 4 5 gives 31 ∷ 0 ∷ 99 ∷ 99 ∷ 99 ∷ 99 ∷ 99 ∷ [])
    ∷ (scanned optimistic p10 4 8 gives 0 ∷ 2 ∷ 1 ∷ 10 ∷ 1 ∷ 2 ∷ 21 ∷ 2 ∷ 99 ∷ 99 ∷ [])
    -- point reads after P10: at the timestamp before the key's put, at that of its second, at one past the timeline's end, of a key with no row, and of no key
    ∷ (read optimistic p10 1 2 gives 0 ∷ 0 ∷ [])
    ∷ (read optimistic p10 4 2 gives 0 ∷ 1 ∷ 21 ∷ 2 ∷ [])
    ∷ (read optimistic p10 129 1 gives 0 ∷ 1 ∷ 10 ∷ 1 ∷ [])
    ∷ (read optimistic p10 4 3 gives 0 ∷ 0 ∷ [])
    ∷ (read optimistic p10 4 257 gives 12 ∷ [])
    ∷ (read optimistic p10 4 4294967298 gives 12 ∷ [])
    -- histories: operations that ended with 5, 4, 3 and 2 and by an abort are not in progress; one in progress; the group is the table's
    ∷ (history Optimistic (events_of (p5 0 1)) gives 2 ∷ idle writers ++ committed_operation 1 0 (Put 0 10 0))
    ∷ (history Optimistic (events_of p6) gives 2 ∷ idle writers ++ committed_operation 1 0 (Put 1 10 0))
    ∷ (history Optimistic (events_of p7) gives 3 ∷ idle writers ++ committed_operation 3 0 (Put 0 12 0) ++ committed_operation 1 0 (Put 0 10 0))
    ∷ (history Optimistic (events_of p8) gives 1 ∷ idle writers)
    ∷ (history Optimistic (events_of (start_and_abort 0)) gives 1 ∷ idle writers)
    ∷ (history Optimistic (events_of aborts) gives 3 ∷ pending_operation 3 (Put 1 11 6) ++ idle (writers - 1))
    ∷ (history Optimistic (events_of p10)
    gives 4 ∷ pending_operation 3 (Put 1 11 1) ++ idle (writers - 1)
    ++ committed_operation 4 2 (Put 2 21 2) ++ committed_operation 2 2 (Put 2 20 2) ++ committed_operation 1 1 (Put 1 10 1))
    ∷ (history Optimistic (events_of beside) gives 2 ∷ pending_operation 1 (Put 0 10 0) ++ idle (writers - 1))
    ∷ (history Optimistic (events_of put_and_remove)
    gives 3 ∷ idle writers ++ committed_operation 3 1 (Remove 1) ++ committed_operation 2 1 (Put 1 11 5) ++ committed_operation 1 1 (Put 1 10 1))
    -- what write steps stored: nothing before them; the rows of the base with the key put; also where the operation ends
    ∷ (stored Optimistic (events_of (take 10 second_put)) 2 5 gives 0 ∷ [])
    ∷ (stored Optimistic (events_of (take 11 second_put)) 2 5 gives 1 ∷ 10 ∷ [])
    ∷ (stored Optimistic (events_of second_put) 2 6 gives 1 ∷ 55 ∷ [])
    ∷ (stored Optimistic (events_of (p5 0 1)) 2 1 gives 1 ∷ 11 ∷ [])
    ∷ (stored Optimistic (events_of (p5 0 1)) 2 0 gives 0 ∷ [])
    -- instants: none at 0 and above the last; inflight after an ending with 5 and 4, requested after one with 3 and 2; as they are after an abort
    ∷ (instants optimistic (p5 0 1) (1 ∷ 2 ∷ []) gives is_completed 0 ++ is_inflight 0)
    ∷ (instants optimistic p6 (1 ∷ 2 ∷ []) gives is_completed 0 ++ is_inflight 1)
    ∷ (instants optimistic p7 (0 ∷ 1 ∷ 2 ∷ 3 ∷ 4 ∷ 257 ∷ 65537 ∷ 4294967297 ∷ 18446744073709551615 ∷ [])
    gives is_none ++ is_completed 0 ++ is_requested ++ is_completed 0 ++ is_none ++ is_none ++ is_none ++ is_none ++ is_none)
    ∷ (instants optimistic p8 (1 ∷ []) gives is_requested)
    ∷ (instants optimistic aborts (1 ∷ 2 ∷ 3 ∷ []) gives is_requested ++ is_inflight 5 ++ is_requested)
    ∷ (instants optimistic p10 (1 ∷ 2 ∷ 3 ∷ 4 ∷ []) gives is_completed 1 ++ is_completed 2 ++ is_requested ++ is_completed 2)
    -- a fresh table
    ∷ (stands optimistic [] 0 0 gives 0 ∷ table_lock 0 ++ 0 ∷ ready_numbers)
    -- a table at each step of an operation: writer 2 puts key 6 in group 3, whose base is timestamp 1
    ∷ (stands optimistic (take 8 second_put) 2 6 gives 2 ∷ table_lock 0 ++ 0 ∷ writer_numbers (busy 1 6 3 2 0))
    ∷ (stands optimistic (take 9 second_put) 2 6 gives 2 ∷ table_lock 0 ++ 0 ∷ writer_numbers (busy 2 6 3 2 0))
    ∷ (stands optimistic (take 10 second_put) 2 6 gives 2 ∷ table_lock 0 ++ 0 ∷ writer_numbers (busy 3 6 3 2 1))
    ∷ (stands optimistic (take 11 second_put) 2 6 gives 2 ∷ table_lock 0 ++ 0 ∷ writer_numbers (busy 4 6 3 2 1))
    ∷ (stands optimistic (take 12 second_put) 2 6 gives 2 ∷ table_lock 3 ++ 4 ∷ writer_numbers (maker (busy 5 6 3 2 1)))
    ∷ (stands optimistic (take 13 second_put) 2 6 gives 2 ∷ table_lock 3 ++ 4 ∷ writer_numbers (maker (busy 6 6 3 2 1)))
    ∷ (stands optimistic second_put 2 6 gives 2 ∷ table_lock 0 ++ 4 ∷ ready_numbers)
    -- a remove carries no value and no group before its look up
    ∷ (stands optimistic (does 2 (Start (Remove 6)) ∷ []) 2 6 gives 1 ∷ table_lock 0 ++ 0 ∷ writer_numbers (removing 1 6 0 1 0))
    -- after an ending the writer is ready: 5, 4, 3 and 2; it frees its own lock and no other's
    ∷ (stands optimistic (p5 0 1) 1 1 gives 2 ∷ table_lock 0 ++ 0 ∷ ready_numbers)
    ∷ (stands optimistic p6 1 1 gives 2 ∷ table_lock 0 ++ 1 ∷ ready_numbers)
    ∷ (stands optimistic p7 1 0 gives 3 ∷ table_lock 0 ++ 1 ∷ ready_numbers)
    ∷ (stands optimistic p8 0 0 gives 1 ∷ table_lock 0 ++ 0 ∷ ready_numbers)
    ∷ (stands (holding (busy 3 6 0 2 0)) (does 0 Abort ∷ []) 0 6 gives 2 ∷ table_lock 6 ++ 0 ∷ ready_numbers)
    ∷ (stands (holding (busy 5 6 0 1 0)) (does 0 Check ∷ []) 0 6 gives 2 ∷ table_lock 6 ++ 0 ∷ ready_numbers)
    ∷ (stands (holding (busy 6 6 0 2 2)) (does 0 Commit ∷ []) 0 6 gives 2 ∷ table_lock 6 ++ 0 ∷ ready_numbers)
    -- a start takes nothing over from the record of a ready writer
    ∷ (stands (holding (maker (busy 0 6 1 2 2))) (does 0 (Start (Put 5 55 3)) ∷ []) 0 5 gives 3 ∷ table_lock 6 ++ 4 ∷ writer_numbers (busy 1 5 3 3 0))
    ∷ (stands (holding (maker (busy 0 6 1 2 2))) (does 0 (Start (Remove 5)) ∷ []) 0 5 gives 3 ∷ table_lock 6 ++ 4 ∷ writer_numbers (removing 1 5 0 3 0))
    -- a look up leaves the base, of a key that is indexed or not; a read at the writer's own timestamp is not too late; a check at the base is no change
    ∷ (stands (holding (busy 1 6 0 1 2)) (does 0 LookUp ∷ []) 0 6 gives 2 ∷ table_lock 6 ++ 0 ∷ writer_numbers (busy 2 6 0 1 2))
    ∷ (stands (holding (busy 1 5 0 1 2)) (does 0 LookUp ∷ []) 0 5 gives 2 ∷ table_lock 6 ++ 4 ∷ writer_numbers (busy 2 5 3 1 2))
    ∷ (stands (holding (busy 2 6 1 2 0)) (does 0 Read ∷ []) 0 6 gives 2 ∷ table_lock 6 ++ 0 ∷ writer_numbers (busy 3 6 1 2 2))
    ∷ (stands (holding (busy 5 6 1 1 2)) (does 0 Check ∷ []) 0 6 gives 2 ∷ table_lock 6 ++ 0 ∷ writer_numbers (busy 6 6 1 1 2))
    -- the last timestamp of all counts for a read and for a check
    ∷ (answers (with_writer (at_largest 128) 0 (busy 2 31 7 127 0)) (does 0 Read ∷ []) gives 3 ∷ [])
    ∷ (answers (with_writer (at_largest 128) 0 (busy 5 31 7 128 127)) (does 0 Check ∷ []) gives 5 ∷ [])
    -- the search of the check: two hits above the base, none, one at the base only; a base equal to the last timestamp, and above it
    ∷ (searched three_groups 1 2 8 gives 1 ∷ 6 ∷ 3 ∷ [])
    ∷ (searched three_groups 2 2 8 gives 0 ∷ 6 ∷ [])
    ∷ (searched three_groups 3 5 8 gives 0 ∷ 3 ∷ [])
    ∷ (searched three_groups 1 8 8 gives 0 ∷ 0 ∷ [])
    ∷ (searched three_groups 1 9 8 gives 0 ∷ 0 ∷ [])
    -- a hit at the last timestamp, right above the base, and at the first timestamp; hits above the last; an instant that is inflight
    ∷ (searched three_groups 1 0 6 gives 1 ∷ 6 ∷ 1 ∷ [])
    ∷ (searched three_groups 1 5 8 gives 1 ∷ 6 ∷ 3 ∷ [])
    ∷ (searched three_groups 0 0 6 gives 1 ∷ 1 ∷ 6 ∷ [])
    ∷ (searched three_groups 0 1 6 gives 0 ∷ 5 ∷ [])
    ∷ (searched three_groups 1 6 8 gives 0 ∷ 2 ∷ [])
    -- the last timestamp of all is the hit, is not looked at, and is the base
    ∷ (searched last_completed 7 0 128 gives 1 ∷ 128 ∷ 1 ∷ [])
    ∷ (searched last_completed 7 0 127 gives 0 ∷ 127 ∷ [])
    ∷ (searched last_completed 7 128 128 gives 0 ∷ 0 ∷ [])
    -- a last timestamp, and a base, past the timeline's end; a file group that does not exist; no instant at all
    ∷ (searched three_groups 0 6 255 gives 1 ∷ 7 ∷ 249 ∷ [])
    ∷ (searched three_groups 2 0 255 gives 0 ∷ 255 ∷ [])
    ∷ (searched three_groups 0 9 255 gives 0 ∷ 246 ∷ [])
    ∷ (searched (completed 245 ∷ requested ∷ []) 245 0 2 gives 1 ∷ 1 ∷ 2 ∷ [])
    ∷ (searched [] 0 0 3 gives 0 ∷ 3 ∷ [])
    -- an index step that holds the lock already
    ∷ (stands (with_writer (table (with_lock_at (with_instants (inflight 0 ∷ [])) 0 1)) 0 (busy 4 6 0 1 0)) (does 0 Index ∷ []) 0 6
    gives 1 ∷ table_lock 1 ++ 1 ∷ writer_numbers (maker (busy 5 6 0 1 0)))
    -- the entry of a put that ends with 5, or is given up at phase 5 or 6, is taken out, and a put that proposes another group commits there
    ∷ (answers optimistic (p5 0 1 ++ proposes) gives 0 ∷ 0 ∷ 0 ∷ 0 ∷ 0 ∷ 0 ∷ 0 ∷ 0 ∷ 0 ∷ 1 ∷ 0 ∷ 0 ∷ 5 ∷ 0 ∷ 0 ∷ 0 ∷ 0 ∷ 0 ∷ 0 ∷ 1 ∷ [])
    ∷ (answers optimistic (given_up_after 5 ++ proposes) gives 0 ∷ 0 ∷ 0 ∷ 0 ∷ 0 ∷ 6 ∷ 0 ∷ 0 ∷ 0 ∷ 0 ∷ 0 ∷ 0 ∷ 1 ∷ [])
    ∷ (answers optimistic (given_up_after 6 ++ proposes) gives 0 ∷ 0 ∷ 0 ∷ 0 ∷ 0 ∷ 0 ∷ 6 ∷ 0 ∷ 0 ∷ 0 ∷ 0 ∷ 0 ∷ 0 ∷ 1 ∷ [])
    ∷ (instants optimistic (p5 0 1 ++ proposes) (3 ∷ []) gives is_completed 1)
    ∷ (instants optimistic (given_up_after 5 ++ proposes) (2 ∷ []) gives is_completed 1)
    ∷ (instants optimistic (given_up_after 6 ++ proposes) (2 ∷ []) gives is_completed 1)
    ∷ (stands optimistic (given_up_after 5) 0 1 gives 1 ∷ table_lock 0 ++ 0 ∷ ready_numbers)
    ∷ (stands optimistic (given_up_after 6) 0 1 gives 1 ∷ table_lock 0 ++ 0 ∷ ready_numbers)
    -- an entry that was there before stays: a put past its index step has not made it; it gives up there, at phase 6, or its check fails
    ∷ (stands optimistic (take 12 (entry_before 5)) 1 1 gives 2 ∷ table_lock 2 ++ 1 ∷ writer_numbers (putting 11 5 1 0 2 1))
    ∷ (stands optimistic (entry_before 5) 1 1 gives 2 ∷ table_lock 0 ++ 1 ∷ ready_numbers)
    ∷ (stands optimistic (entry_before 6) 1 1 gives 2 ∷ table_lock 0 ++ 1 ∷ ready_numbers)
    ∷ (stands optimistic fails_later 1 1 gives 3 ∷ table_lock 0 ++ 1 ∷ ready_numbers)
    ∷ (instants optimistic (entry_before 5 ++ proposes) (3 ∷ []) gives is_completed 0)
    -- a remove does not make its entry, which stays where it gives up
    ∷ (stands optimistic removes_indexed 1 6 gives 2 ∷ table_lock 2 ++ 4 ∷ writer_numbers (removing 5 6 3 2 1))
    ∷ (stands optimistic (removes_indexed ++ does 1 Abort ∷ []) 1 6 gives 2 ∷ table_lock 0 ++ 4 ∷ ready_numbers)
    -- a remove that looked up an entry which is then taken out ends with 2 at its index step, and the lock is free for the next index step
    ∷ (answers optimistic (looked_up (Remove 1) ++ does 1 Index ∷ take 5 (whole 2 (Put 2 20 0)))
    gives 0 ∷ 0 ∷ 0 ∷ 0 ∷ 0 ∷ 0 ∷ 0 ∷ 0 ∷ 0 ∷ 6 ∷ 2 ∷ 0 ∷ 0 ∷ 0 ∷ 0 ∷ 0 ∷ [])
    ∷ (stands optimistic (looked_up (Remove 1) ++ does 1 Index ∷ []) 1 1 gives 2 ∷ table_lock 0 ++ 0 ∷ ready_numbers)
    ∷ (history Optimistic (events_of (looked_up (Remove 1) ++ does 1 Index ∷ [])) gives 2 ∷ idle writers)
    -- a put that looked it up keeps the group that it found, makes the entry again and commits there
    ∷ (stands optimistic (looked_up (Put 1 11 1) ++ does 1 Index ∷ []) 1 1 gives 2 ∷ table_lock 2 ++ 1 ∷ writer_numbers (maker (putting 11 5 1 0 2 0)))
    ∷ (instants optimistic (looked_up (Put 1 11 1) ++ does 1 Index ∷ does 1 Check ∷ does 1 Commit ∷ []) (2 ∷ []) gives is_completed 0)
    -- the index step is refused with 16 where it would end with 2 (and with 4: see the refusals below); a remove of another group's key ends with 4;
    -- a writer that ends with 2 or 4 frees the lock that it holds
    ∷ (answers (holding (removing 4 6 0 1 0)) (does 0 Index ∷ []) gives 16 ∷ [])
    ∷ (answers (unlocked (removing 4 5 0 1 0)) (does 0 Index ∷ []) gives 4 ∷ [])
    ∷ (stands (own_lock (removing 4 6 0 1 0)) (does 0 Index ∷ []) 0 6 gives 2 ∷ table_lock 0 ++ 0 ∷ ready_numbers)
    ∷ (stands (own_lock (busy 4 5 0 1 0)) (does 0 Index ∷ []) 0 5 gives 2 ∷ table_lock 0 ++ 4 ∷ ready_numbers)
    -- no later step asks whether a remove's key is indexed; a check leaves the flag
    ∷ (stands (holding (maker (removing 5 6 1 1 2))) (does 0 Check ∷ []) 0 6 gives 2 ∷ table_lock 6 ++ 0 ∷ writer_numbers (maker (removing 6 6 1 1 2)))
    ∷ (answers (holding (removing 6 6 0 2 2)) (does 0 Commit ∷ []) gives 1 ∷ [])
    -- a writer that no steps have given its flag: an end without commit takes its key's entry out, at any phase and whatever the entry names (6, 3, 4
    -- and 5); a look up, a read, a write and a refusal leave the flag, an index step sets it anew, and a commit leaves the entry, another group's too
    ∷ (stands (holding (maker (busy 1 5 0 1 0))) (does 0 Abort ∷ []) 0 5 gives 2 ∷ table_lock 6 ++ 0 ∷ ready_numbers)
    ∷ (stands (holding (maker (busy 3 5 0 1 0))) (does 0 Abort ∷ []) 0 5 gives 2 ∷ table_lock 6 ++ 0 ∷ ready_numbers)
    ∷ (stands (holding (maker (busy 2 5 1 1 0))) (does 0 Read ∷ []) 0 5 gives 2 ∷ table_lock 6 ++ 0 ∷ ready_numbers)
    ∷ (stands (unlocked (maker (busy 4 5 0 1 0))) (does 0 Index ∷ []) 0 5 gives 2 ∷ table_lock 0 ++ 0 ∷ ready_numbers)
    ∷ (stands (holding (maker (removing 5 5 0 1 0))) (does 0 Check ∷ []) 0 5 gives 2 ∷ table_lock 6 ++ 0 ∷ ready_numbers)
    ∷ (stands (holding (maker (busy 1 5 0 1 2))) (does 0 LookUp ∷ []) 0 5 gives 2 ∷ table_lock 6 ++ 4 ∷ writer_numbers (maker (busy 2 5 3 1 2)))
    ∷ (stands (holding (maker (busy 1 6 0 1 2))) (does 0 LookUp ∷ []) 0 6 gives 2 ∷ table_lock 6 ++ 0 ∷ writer_numbers (maker (busy 2 6 0 1 2)))
    ∷ (stands (holding (maker (busy 2 6 0 1 0))) (does 0 Read ∷ does 0 Write ∷ []) 0 6 gives 2 ∷ table_lock 6 ++ 0 ∷ writer_numbers (maker (busy 4 6 0 1 1)))
    ∷ (stands (holding (maker (busy 4 5 3 1 0))) (does 0 Index ∷ []) 0 5 gives 2 ∷ table_lock 6 ++ 4 ∷ writer_numbers (maker (busy 4 5 3 1 0)))
    ∷ (stands (unlocked (maker (busy 4 5 3 1 0))) (does 0 Index ∷ []) 0 5 gives 2 ∷ table_lock 1 ++ 4 ∷ writer_numbers (busy 5 5 3 1 0))
    ∷ (stands (unlocked (maker (removing 4 5 3 1 0))) (does 0 Index ∷ []) 0 5 gives 2 ∷ table_lock 1 ++ 4 ∷ writer_numbers (removing 5 5 3 1 0))
    ∷ (stands (unlocked (maker (busy 4 6 0 1 0))) (does 0 Index ∷ []) 0 6 gives 2 ∷ table_lock 1 ++ 1 ∷ writer_numbers (maker (busy 5 6 0 1 0)))
    ∷ (stands (holding (maker (busy 6 5 0 2 2))) (does 0 Commit ∷ []) 0 5 gives 2 ∷ table_lock 6 ++ 4 ∷ ready_numbers)
    ∷ (answers (holding (maker (busy 6 5 0 2 2))) (does 0 Commit ∷ []) gives 1 ∷ [])
    -- the actions at each phase: start, look up, read, write, index, check, commit, abort
    ∷ (each_answer (at_phase 0) gives 0 ∷ 14 ∷ 14 ∷ 14 ∷ 14 ∷ 14 ∷ 14 ∷ 14 ∷ [])
    ∷ (each_answer (at_phase 1) gives 14 ∷ 0 ∷ 14 ∷ 14 ∷ 14 ∷ 14 ∷ 14 ∷ 6 ∷ [])
    ∷ (each_answer (at_phase 2) gives 14 ∷ 14 ∷ 0 ∷ 14 ∷ 14 ∷ 14 ∷ 14 ∷ 6 ∷ [])
    ∷ (each_answer (at_phase 3) gives 14 ∷ 14 ∷ 14 ∷ 0 ∷ 14 ∷ 14 ∷ 14 ∷ 6 ∷ [])
    ∷ (each_answer (at_phase 4) gives 14 ∷ 14 ∷ 14 ∷ 14 ∷ 0 ∷ 14 ∷ 14 ∷ 6 ∷ [])
    ∷ (each_answer (at_phase 5) gives 14 ∷ 14 ∷ 14 ∷ 14 ∷ 14 ∷ 0 ∷ 14 ∷ 6 ∷ [])
    ∷ (each_answer (at_phase 6) gives 14 ∷ 14 ∷ 14 ∷ 14 ∷ 14 ∷ 14 ∷ 1 ∷ 6 ∷ [])
    -- refusals, each where the later ones apply too: 10, 12 (put and remove), 13, 18 (before 14, and before 15), 14, 15; 14, 16
    ∷ (answers refusing
    (start_erased 16 32 8 ∷ start_erased 1 32 8 ∷ does 1 (Start (Remove 32)) ∷ start_erased 1 31 8 ∷ start_erased 1 31 7 ∷ start_erased 0 31 7
    ∷ does 1 (Start (Put 31 0 7)) ∷ does 0 (Start (Put 31 0 7)) ∷ does 1 Index ∷ does 2 Index ∷ [])
    gives 10 ∷ 12 ∷ 12 ∷ 13 ∷ 18 ∷ 18 ∷ 14 ∷ 15 ∷ 14 ∷ 16 ∷ [])
    -- the erased word: put by a ready writer, and by one at phase 1; with no such group, key and writer; the largest value but one; some of its bits alone
    ∷ (answers optimistic
    (does 1 (Start (Put 1 10 1)) ∷ start_erased 0 0 0 ∷ start_erased 1 0 0 ∷ start_erased 0 0 8 ∷ start_erased 0 32 0 ∷ start_erased 16 0 0
    ∷ does 0 (Start (Put 0 18446744073709551614 0)) ∷ does 2 (Start (Put 0 4294967295 0)) ∷ does 3 (Start (Put 0 9223372036854775807 0)) ∷ [])
    gives 0 ∷ 18 ∷ 18 ∷ 13 ∷ 12 ∷ 10 ∷ 0 ∷ 0 ∷ 0 ∷ [])
    -- its refusal changes nothing in the table or in the history, for a ready writer and for one at phase 1
    ∷ (stands optimistic (start_erased 0 0 0 ∷ []) 0 0 gives 0 ∷ table_lock 0 ++ 0 ∷ ready_numbers)
    ∷ (stands optimistic (does 0 (Start (Put 5 55 3)) ∷ start_erased 0 0 0 ∷ []) 0 5 gives 1 ∷ table_lock 0 ++ 0 ∷ writer_numbers (busy 1 5 3 1 0))
    ∷ (history Optimistic (events_of (does 0 (Start (Put 5 55 3)) ∷ start_erased 0 0 0 ∷ start_erased 1 0 0 ∷ []))
    gives 1 ∷ pending_operation 1 (Put 5 55 3) ++ idle (writers - 1))
    -- a log codes it and reads it
    ∷ (written (start_erased 0 1 2 ∷ []) 15 0 gives 0 ∷ 14 ∷ start_erased_log ++ 99 ∷ [])
    ∷ (read_record start_erased_log 0 gives 0 ∷ 14 ∷ 0 ∷ 1 ∷ 1 ∷ largest_number ∷ 2 ∷ [])
    ∷ (ran optimistic (of_log start_erased_log) 2 gives 0 ∷ 1 ∷ 14 ∷ 18 ∷ 99 ∷ [])
    -- only the start of its put is refused: a writer that has it already, which no run reaches, goes on, gives up and starts as any other
    ∷ (scanned (erased_at_phase 1) (rest_of 0) 1 3 gives 0 ∷ 1 ∷ 0 ∷ largest_number ∷ 0 ∷ [])
    ∷ (each_answer (erased_at_phase 0) gives 0 ∷ 14 ∷ 14 ∷ 14 ∷ 14 ∷ 14 ∷ 14 ∷ 14 ∷ [])
    ∷ (each_answer (erased_at_phase 1) gives 14 ∷ 0 ∷ 14 ∷ 14 ∷ 14 ∷ 14 ∷ 14 ∷ 6 ∷ [])
    -- writers, keys and groups whose lowest bits name one
    ∷ (answers optimistic
    (does 256 (Start (Put 0 0 0)) ∷ does 0 (Start (Put 256 0 0)) ∷ does 0 (Start (Remove 65536)) ∷ does 0 (Start (Put 0 0 256))
    ∷ does 4294967296 (Start (Put 0 0 0)) ∷ does 0 (Start (Put 4294967296 0 0)) ∷ does 0 (Start (Put 0 0 4294967296)) ∷ [])
    gives 10 ∷ 12 ∷ 12 ∷ 13 ∷ 10 ∷ 12 ∷ 13 ∷ [])
    -- a value of more than 32 bits: in the writer's record, in a scan and in a point read
    ∷ (stands optimistic (does 0 (Start wide_value) ∷ []) 0 1 gives 1 ∷ table_lock 0 ++ 0 ∷ 1 ∷ 1 ∷ 0 ∷ 1 ∷ 2 ∷ 1 ∷ 0 ∷ 4294967297 ∷ [])
    ∷ (scanned optimistic (whole 0 wide_value) 1 3 gives 0 ∷ 1 ∷ 1 ∷ 4294967297 ∷ 2 ∷ [])
    ∷ (read optimistic (whole 0 wide_value) 1 1 gives 0 ∷ 1 ∷ 4294967297 ∷ 2 ∷ [])
    -- rows: the first place, one between and the last; a write step stores every row of its slice, absent ones with their value, and no other;
    -- the base is another timestamp, 0, or the writer's own
    ∷ (place 0 1 0 gives 0 ∷ [])
    ∷ (place 2 3 4 gives 580 ∷ [])
    ∷ (place 7 128 31 gives 32767 ∷ [])
    ∷ (rows stale_rows (does 0 Write ∷ []) (0 ∷ 1 ∷ 2 ∷ 256 ∷ 257 ∷ 258 ∷ 288 ∷ []) gives
    1 ∷ 10 ∷ 0 ∷ 11 ∷ 1 ∷ 12 ∷ 1 ∷ 10 ∷ 0 ∷ 11 ∷ 0 ∷ 7 ∷ 1 ∷ 14 ∷ [])
    ∷ (rows (with_writer stale_rows 0 (removing 3 2 0 2 1)) (does 0 Write ∷ []) (257 ∷ 258 ∷ []) gives 0 ∷ 11 ∷ 0 ∷ 0 ∷ [])
    ∷ (rows stale_rows (does 1 Write ∷ []) (256 ∷ 257 ∷ 288 ∷ 289 ∷ []) gives 0 ∷ 0 ∷ 1 ∷ 13 ∷ 0 ∷ 0 ∷ 1 ∷ 55 ∷ [])
    ∷ (rows (with_writer stale_rows 0 (busy 3 2 0 2 2)) (does 0 Write ∷ []) (256 ∷ 257 ∷ 258 ∷ []) gives 0 ∷ 0 ∷ 1 ∷ 13 ∷ 1 ∷ 55 ∷ [])
    -- slices stand by file group and timestamp
    ∷ (scanned other_groups_timestamp (does 1 Write ∷ []) 1 3 gives 0 ∷ 1 ∷ 0 ∷ 10 ∷ 0 ∷ [])
    ∷ (scanned other_groups_base (does 0 Write ∷ does 0 Index ∷ does 0 Check ∷ does 0 Commit ∷ []) 2 6 gives 0 ∷ 2 ∷ 2 ∷ 55 ∷ 0 ∷ 5 ∷ 7 ∷ 1 ∷ [])
    ∷ (scanned one_timestamp (does 0 Write ∷ does 1 Write ∷ does 0 Index ∷ does 0 Check ∷ does 0 Commit ∷ []) 1 3 gives 0 ∷ 1 ∷ 2 ∷ 55 ∷ 0 ∷ [])
    ∷ (scanned one_timestamp
    (does 0 Write ∷ does 1 Write ∷ does 0 Index ∷ does 0 Check ∷ does 0 Commit ∷ does 1 Index ∷ does 1 Check ∷ does 1 Commit ∷ []) 1 3
    gives 0 ∷ 1 ∷ 5 ∷ 55 ∷ 1 ∷ [])
    -- a key in two groups: both rows are listed, and the lower group's is read
    ∷ (scanned one_key_twice [] 2 6 gives 0 ∷ 2 ∷ 5 ∷ 8 ∷ 0 ∷ 5 ∷ 7 ∷ 1 ∷ [])
    ∷ (read one_key_twice [] 2 5 gives 0 ∷ 1 ∷ 8 ∷ 0 ∷ [])
    ∷ (read one_key_twice [] 1 5 gives 0 ∷ 1 ∷ 7 ∷ 1 ∷ [])
    -- in range: every number the largest and every writer's flag set, with all timestamps issued and with 20; a ready writer with a timestamp; a base
    -- above the timestamp
    ∷ (judged (at_largest 128) gives in_range_numbers)
    ∷ (judged (at_largest 20) gives in_range_numbers)
    ∷ (judged (with_writer (at_largest 20) 0 (busy 0 31 7 20 20)) gives in_range_numbers)
    ∷ (judged (with_writer (at_largest 20) 0 (busy 0 31 7 0 20)) gives in_range_numbers)
    ∷ (judged (with_writer (at_largest 20) 0 (busy 6 31 7 1 20)) gives in_range_numbers)
    -- a step on the parts of a table that its caller takes for one in range: 10; 17 for an actor or a last timestamp out of range; else the rules
    ∷ (on_parts (at_largest 128) (does 16 Abort) gives 10 ∷ [])
    ∷ (on_parts (at_largest 128) (does 0 Abort) gives 6 ∷ [])
    ∷ (on_parts (with_writer (at_largest 20) 0 (busy 7 31 7 20 20)) (does 0 Abort) gives 17 ∷ [])
    ∷ (on_parts (with_writer (at_largest 20) 0 (busy 6 31 7 21 20)) (does 0 Abort) gives 17 ∷ [])
    ∷ (on_parts (at_largest_but 128 (λ s. with_last s 129)) (does 0 Abort) gives 17 ∷ [])
    ∷ (on_parts (with_writer (at_largest 20) 0 (busy 7 31 7 20 20)) (does 1 Abort) gives 6 ∷ [])
    ∷ (on_parts (at_largest_but 20 (λ s. with_lock_at s 0 17)) (does 0 Abort) gives 6 ∷ [])
    -- 17 before the rule's own refusals
    ∷ (answers (at_largest_but 128 (λ s. with_last s 129)) (start_erased 0 32 8 ∷ start_erased 0 31 7 ∷ does 0 Abort ∷ []) gives 17 ∷ 17 ∷ 17 ∷ [])
    -- out of range by one number: the last timestamp; the first lock, and the last
    ∷ (judged (at_largest_but 128 (λ s. with_last s 129)) gives out_of_range_numbers)
    ∷ (judged (at_largest_but 20 (λ s. with_lock_at s 0 17)) gives out_of_range_numbers)
    ∷ (judged (at_largest_but 20 (λ s. with_lock_at s 7 17)) gives out_of_range_numbers)
    -- of the first writer and of the last: phase, key, group, timestamp, base, timestamp 0 off phase 0; key, group, timestamp, base of a ready writer
    ∷ (judged (with_writer (at_largest 20) 0 (busy 7 31 7 20 20)) gives out_of_range_numbers)
    ∷ (judged (with_writer (at_largest 20) 0 (busy 6 32 7 20 20)) gives out_of_range_numbers)
    ∷ (judged (with_writer (at_largest 20) 0 (busy 6 31 8 20 20)) gives out_of_range_numbers)
    ∷ (judged (with_writer (at_largest 20) 0 (busy 6 31 7 21 20)) gives out_of_range_numbers)
    ∷ (judged (with_writer (at_largest 20) 0 (busy 6 31 7 20 21)) gives out_of_range_numbers)
    ∷ (judged (with_writer (at_largest 20) 0 (busy 1 31 7 0 20)) gives out_of_range_numbers)
    ∷ (judged (with_writer (at_largest 20) 0 (busy 0 32 7 20 20)) gives out_of_range_numbers)
    ∷ (judged (with_writer (at_largest 20) 0 (busy 0 31 8 20 20)) gives out_of_range_numbers)
    ∷ (judged (with_writer (at_largest 20) 0 (busy 0 31 7 21 20)) gives out_of_range_numbers)
    ∷ (judged (with_writer (at_largest 20) 0 (busy 0 31 7 20 21)) gives out_of_range_numbers)
    ∷ (judged (with_writer (at_largest 20) 15 (busy 7 31 7 20 20)) gives out_of_range_numbers)
    ∷ (judged (with_writer (at_largest 20) 15 (busy 6 32 7 20 20)) gives out_of_range_numbers)
    ∷ (judged (with_writer (at_largest 20) 15 (busy 6 31 8 20 20)) gives out_of_range_numbers)
    ∷ (judged (with_writer (at_largest 20) 15 (busy 6 31 7 21 20)) gives out_of_range_numbers)
    ∷ (judged (with_writer (at_largest 20) 15 (busy 6 31 7 20 21)) gives out_of_range_numbers)
    ∷ (judged (with_writer (at_largest 20) 15 (busy 1 31 7 0 20)) gives out_of_range_numbers)
    -- the index entry of the first key and of the last
    ∷ (judged (at_largest_but 20 (λ s. with_entry s 0 9)) gives out_of_range_numbers)
    ∷ (judged (at_largest_but 20 (λ s. with_entry s 31 9)) gives out_of_range_numbers)
    -- the group of the first instant and of the last; an instant right above the last timestamp, and one far above
    ∷ (judged (at_largest_but 128 (λ s. with_instant s 1 (completed 8))) gives out_of_range_numbers)
    ∷ (judged (at_largest_but 128 (λ s. with_instant s 128 (completed 8))) gives out_of_range_numbers)
    ∷ (judged (at_largest_but 20 (λ s. with_instant s 21 requested)) gives out_of_range_numbers)
    ∷ (judged (at_largest_but 20 (λ s. with_instant s 128 requested)) gives out_of_range_numbers)
    ∷ pessimistic_traces ++ cleaning_traces ++ candidates_traces
