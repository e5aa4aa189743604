-- The lists of steps, and the logs, that the traces are about, but for those of the pessimistic mode alone.
use Rattle.std.specs.Prelude.{ℕ, List, [], ◌∷◌, ◌++◌, map, take, replicate}
use Rattle.model.specs.declared.Operation.{Operation}
use Rattle.model.specs.declared.Operation.TheVariants.{Put, Remove}
use Rattle.model.specs.declared.Action.TheVariants.{Start, LookUp, Read, Write, Index, Check, Commit, Abort}
use Rattle.model.specs.declared.Step.{Step}
use Rattle.traces.specs.Cases.{does}

-- a started operation carried out to its commit, from its look up on, in an optimistic table
abbrev pub rest_of : ℕ → List Step
rest_of w = does w LookUp ∷ does w Read ∷ does w Write ∷ does w Index ∷ does w Check ∷ does w Commit ∷ []

-- an operation carried out whole
abbrev pub whole : ℕ → Operation → List Step
whole w op = does w (Start op) ∷ rest_of w

-- writers 0 and 1 put two keys in one group, and both read before `first` commits; then the check of `second`
abbrev pub p5 : ℕ → ℕ → List Step
p5 first second =
    does 0 (Start (Put 0 10 0)) ∷ does 1 (Start (Put 1 11 0)) ∷ does 0 LookUp ∷ does 1 LookUp ∷ does 0 Read ∷ does 1 Read ∷ does first Write
    ∷ does first Index ∷ does first Check ∷ does first Commit ∷ does second Write ∷ does second Index ∷ does second Check ∷ []

-- two puts of one key in two groups, both looked up before the first commits; then the second's index step
abbrev pub p6 : List Step
p6 =
    does 0 (Start (Put 1 10 0)) ∷ does 1 (Start (Put 1 11 1)) ∷ does 0 LookUp ∷ does 1 LookUp ∷ does 0 Read ∷ does 0 Write ∷ does 0 Index
    ∷ does 0 Check ∷ does 0 Commit ∷ does 1 Read ∷ does 1 Write ∷ does 1 Index ∷ []

-- puts of one key at timestamps 1, 2 and 3; 1 and 3 commit, then 2 reads
abbrev pub p7 : List Step
p7 =
    does 0 (Start (Put 0 10 0)) ∷ does 1 (Start (Put 0 11 0)) ∷ does 2 (Start (Put 0 12 0))
    ∷ rest_of 0 ++ rest_of 2 ++ (does 1 LookUp ∷ does 1 Read ∷ [])

-- a remove of a key that is not indexed
abbrev pub p8 : List Step
p8 = does 0 (Start (Remove 0)) ∷ does 0 LookUp ∷ []

-- two keys put in two groups; then a put of each is started, at timestamps 3 and 4, and 4 commits
abbrev pub p10 : List Step
p10 = whole 0 (Put 1 10 1) ++ whole 1 (Put 2 20 2) ++ (does 0 (Start (Put 1 11 1)) ∷ does 1 (Start (Put 2 21 2)) ∷ rest_of 1)

abbrev pub start_and_abort : ℕ → List Step
start_and_abort n = does 0 (Start (Remove 0)) ∷ does 0 Abort ∷ []

-- a writer aborts at phase 1, then at phase 3; then it starts again
abbrev pub aborts : List Step
aborts = start_and_abort 0 ++ (does 0 (Start (Put 1 10 5)) ∷ does 0 LookUp ∷ does 0 Read ∷ does 0 Abort ∷ does 0 (Start (Put 1 11 6)) ∷ [])

-- a writer has an operation in progress and is refused, while another's operation ends
abbrev pub beside : List Step
beside = does 0 (Start (Put 0 10 0)) ∷ does 0 Commit ∷ does 1 (Start (Remove 5)) ∷ does 1 LookUp ∷ []

-- a put that proposes another group than the key's own, then a remove of the key
abbrev pub put_and_remove : List Step
put_and_remove = whole 0 (Put 1 10 1) ++ whole 3 (Put 1 11 5) ++ whole 3 (Remove 1)

-- a put in a group that has a commit
abbrev pub second_put : List Step
second_put = whole 0 (Put 5 10 3) ++ whole 2 (Put 6 55 3)

-- a put of key 1 in group 0 that makes its entry
abbrev pub makes_entry : List Step
makes_entry = whole 0 (Put 1 10 0)

-- it is given up after n steps
abbrev pub given_up_after : ℕ → List Step
given_up_after n = take n makes_entry ++ does 0 Abort ∷ []

-- a put of the same key that proposes group 1
abbrev pub proposes : List Step
proposes = whole 2 (Put 1 20 1)

-- key 1 is put; then another put of it is given up after n steps
abbrev pub entry_before : ℕ → List Step
entry_before n = makes_entry ++ take n (whole 1 (Put 1 11 1)) ++ does 1 Abort ∷ []

-- key 1 is put; then another put of it fails its check
abbrev pub fails_later : List Step
fails_later =
    makes_entry ++ take 3 (whole 1 (Put 1 11 1)) ++ whole 2 (Put 2 20 0) ++ (does 1 Write ∷ does 1 Index ∷ does 1 Check ∷ [])

-- writer 1, with an operation on key 1, looks up the entry that writer 0 has made, and comes to its index step; writer 0 gives up
abbrev pub looked_up : Operation → List Step
looked_up op = take 5 makes_entry ++ take 4 (whole 1 op) ++ does 0 Abort ∷ []

-- a remove of a key that is put, as far as its index step
abbrev pub removes_indexed : List Step
removes_indexed = whole 0 (Put 6 10 3) ++ take 5 (whole 1 (Remove 6))

-- a step of each kind, and their log
abbrev pub every_kind : List Step
every_kind =
    does 0 (Start (Put 1 300 2)) ∷ does 1 (Start (Remove 99))
    ∷ map (does 2) (LookUp ∷ Read ∷ Write ∷ Index ∷ Check ∷ Commit ∷ Abort ∷ [])

abbrev pub every_kind_log : List ℕ
every_kind_log =
    0x00 ∷ 0x01 ∷ 0x01 ∷ 0xAC ∷ 0x02 ∷ 0x02 ∷ 0x01 ∷ 0x02 ∷ 0x63 ∷ 0x02 ∷ 0x03 ∷ 0x02 ∷ 0x04 ∷ 0x02 ∷ 0x05 ∷ 0x02 ∷ 0x06 ∷ 0x02 ∷ 0x07
    ∷ 0x02 ∷ 0x08 ∷ 0x02 ∷ 0x09 ∷ []

-- document 01's log, whose text it prints
abbrev pub printed_log : List ℕ
printed_log =
    0x00 ∷ 0x01 ∷ 0x01 ∷ 0xAC ∷ 0x02 ∷ 0x02 ∷ 0x00 ∷ 0x03 ∷ 0x00 ∷ 0x04 ∷ 0x00 ∷ 0x05 ∷ 0x00 ∷ 0x06 ∷ 0x00 ∷ 0x07 ∷ 0x00 ∷ 0x08 ∷ []

-- the largest number, and its code
abbrev pub largest_number : ℕ
largest_number = 18446744073709551615

abbrev pub largest_code : List ℕ
largest_code = replicate 9 0xFF ++ 0x01 ∷ []

-- a start of a put whose every number is the largest, and its log: no record is longer
abbrev pub longest_start : Step
longest_start = does largest_number (Start (Put largest_number largest_number largest_number))

abbrev pub longest_log : List ℕ
longest_log = largest_code ++ 0x01 ∷ largest_code ++ largest_code ++ largest_code

-- writer w starts a put of the erased word, and the log of such a start
abbrev pub start_erased : ℕ → ℕ → ℕ → Step
start_erased w k g = does w (Start (Put k largest_number g))

abbrev pub start_erased_log : List ℕ
start_erased_log = 0x00 ∷ 0x01 ∷ 0x01 ∷ largest_code ++ 0x02 ∷ []

-- a remove of the largest key of the old rule; the same, and behind it a remove of a key whose fifth byte was too large
abbrev pub old_largest_log : List ℕ
old_largest_log = 0x00 ∷ 0x02 ∷ 0xFF ∷ 0xFF ∷ 0xFF ∷ 0xFF ∷ 0x0F ∷ []

abbrev pub past_old_log : List ℕ
past_old_log = old_largest_log ++ 0x00 ∷ 0x02 ∷ 0xFF ∷ 0xFF ∷ 0xFF ∷ 0xFF ∷ 0x10 ∷ []

-- a put of a value whose lowest 32 bits are those of 1
abbrev pub wide_value : Operation
wide_value = Put 1 4294967297 2

-- a look up, then a record whose kind is none
abbrev pub bad_kind_log : List ℕ
bad_kind_log = 0x00 ∷ 0x03 ∷ 0x00 ∷ 0x0A ∷ []
