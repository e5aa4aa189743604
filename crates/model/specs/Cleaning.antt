-- Cleaning (document 02, Q-13): a call between steps, at a timestamp c, that drops the completed file slices which no read at or above c shows.
use Rattle.std.specs.Prelude.{ℕ, zero, suc, Bool, false, cond, not, ◌&&◌, ◌||◌, List, get_or, eqb, ltb}
use Rattle.model.specs.Limits.{writers, keys}
use Rattle.model.specs.Answers.{taken, out_of_range, base_needed, no_horizon}
use Rattle.common.specs.Counting.{each_below}
use Rattle.model.specs.State.{State, ready, has_completed, group_of_completed, newest, with_present}
use Rattle.model.specs.Range.{in_range}
use Rattle.model.specs.Rules.{copied, Answered, answered}
use Rattle.model.specs.Snapshot.{instant_of}
use Rattle.model.specs.declared.Writer.{Writer}

-- is an instant i of timestamp n completed, and not the newest one of its file group at or below c, nor newer than that
abbrev pub superseded : List ℕ → ℕ → ℕ → ℕ → Bool
superseded timeline c n i = has_completed i && ltb n (newest timeline (group_of_completed i) c)

-- does a clean at c drop the slice of timestamp n, that of the file group in which n is completed; timestamp 0, which has no instant, has none to drop
unfoldable pub drops : List ℕ → ℕ → ℕ → Bool
drops timeline c n = superseded timeline c n (instant_of timeline n)

-- the presence of rows once file group g's slice of timestamp n is dropped: its rows are absent, as in a slice with base 0
abbrev pub emptied : List Bool → ℕ → ℕ → List Bool
emptied present g n = copied false present g 0 n keys

-- the presence of rows once a clean at c has been through the timestamps 1 to n
unfoldable pub swept : List ℕ → ℕ → List Bool → ℕ → List Bool
swept timeline c present zero = present
swept timeline c present (suc n) =
    cond (drops timeline c (suc n)) (emptied (swept timeline c present n) (group_of_completed (instant_of timeline (suc n))) (suc n))
    (swept timeline c present n)

-- the state after a clean at c that is taken: c is the horizon, and the dropped slices, all of them below c, have no row. Values stay, and so do
-- instants: one whose slice is dropped is completed in every rule and call
abbrev pub cleaned : State → ℕ → State
cleaned st c =
    record {
      mode = st.mode;
      horizon = c;
      shared = with_present st.shared (swept st.shared.timeline c st.shared.present c);
      writers = st.writers;
      notes = st.notes;
    }

-- would a writer lose its base: it is at phase 3, where the next step copies the base, and a clean at c drops it, in whatever file group the base's
-- instant is completed
abbrev pub loses_base : List ℕ → ℕ → Writer → Bool
loses_base timeline c x = eqb x.phase 3 && drops timeline c x.base

-- no writer would
unfoldable pub bases_kept : List ℕ → ℕ → List Writer → Bool
bases_kept timeline c xs = each_below writers (λ w. not (loses_base timeline c (get_or xs w ready)))

-- a clean is refused with 17, then with 34 if c is below the horizon or above the last timestamp issued, then with 33 exactly if a writer would lose its
-- base; else it answers 0
unfoldable pub clean : State → ℕ → Answered
clean st c =
    cond (not (in_range st)) (answered out_of_range st)
    (cond (ltb c st.horizon || ltb st.shared.last c) (answered no_horizon st)
    (cond (not (bases_kept st.shared.timeline c st.writers)) (answered base_needed st) (answered taken (cleaned st c))))
