-- The grounds of answer 17 (document 01, below the answer numbers; document 02, Q-6, Q-9, Q-12 and Q-13), one test each. A value needs none, nor does
-- a flag or the mode: its type is its range. Nor do rows, which are no numbers of a timestamp or a group but stand at one.
use Rattle.std.specs.Prelude.{ℕ, ◌-◌, Bool, true, ◌&&◌, ◌||◌, List, [], ◌∷◌, get_or, drop, eqb, ltb, leb}
use Rattle.model.specs.Limits.{writers, keys, groups, timestamps, last_phase}
use Rattle.common.specs.Counting.{every, each_below}
use Rattle.model.specs.State.{Notes, State, ready, completed}
use Rattle.model.specs.declared.Writer.{Writer}

-- a writer's numbers, where `last` is the last timestamp issued; off phase 0 it has a timestamp
abbrev pub writer_tests : ℕ → Writer → List Bool
writer_tests last x =
    ltb x.key keys ∷ ltb x.group groups ∷ leb x.phase last_phase ∷ leb x.ts last ∷ leb x.base last ∷ (eqb x.phase 0 || ltb 0 x.ts) ∷ []

abbrev pub writer_in_range : ℕ → Writer → Bool
writer_in_range last x = every (writer_tests last x)

-- the numbers of all writers
unfoldable pub writers_in_range : ℕ → List Writer → Bool
writers_in_range last xs = each_below writers (λ w. writer_in_range last (get_or xs w ready))

-- each of some numbers is at most n
unfoldable pub all_at_most : ℕ → List ℕ → Bool
all_at_most n [] = true
all_at_most n (x ∷ xs) = leb x n && all_at_most n xs

-- each lock, in either mode: 0, or a writer + 1 (document 02, Q-9)
abbrev pub locks_in_range : List ℕ → Bool
locks_in_range locks = all_at_most writers locks

-- an index entry: 0, or a file group + 1
abbrev pub index_in_range : List ℕ → Bool
index_in_range index = all_at_most groups index

-- an instant: at most that of the last file group, completed
abbrev pub instants_in_range : List ℕ → Bool
instants_in_range timeline = all_at_most (completed (groups - 1)) timeline

-- no instant is kept above the last timestamp issued
abbrev pub none_above : ℕ → List ℕ → Bool
none_above last timeline = all_at_most 0 (drop last timeline)

-- what is noted: places and counts at most the number of timestamps, noted timestamps at most the last issued (document 02, Q-12)
abbrev pub notes_in_range : ℕ → Notes → Bool
notes_in_range last n = every (all_at_most timestamps n.places ∷ all_at_most timestamps n.counts ∷ all_at_most last n.noted ∷ [])

-- every stored number of a table is in its range, the horizon at most the last timestamp issued (document 02, Q-13): 17 is given exactly where this is
-- false
unfoldable pub in_range : State → Bool
in_range st =
    every
    (leb st.shared.last timestamps
    ∷ leb st.horizon st.shared.last
    ∷ locks_in_range st.shared.locks
    ∷ index_in_range st.shared.index
    ∷ instants_in_range st.shared.timeline
    ∷ none_above st.shared.last st.shared.timeline
    ∷ writers_in_range st.shared.last st.writers
    ∷ notes_in_range st.shared.last st.notes
    ∷ [])
