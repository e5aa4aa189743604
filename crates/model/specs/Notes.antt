-- What is noted for the candidates of a commit (document 02, Q-12): at its commit an instant notes its place in the order of completions; at its start an
-- operation notes how many instants had completed, and which timestamps the operations in progress held. Candidates.antt says what for.
use Rattle.std.specs.Prelude.{ℕ, zero, suc, ◌+◌, Bool, true, false, cond, ◌||◌, List, [], ◌∷◌, get_or, set, eqb, ltb, leb}
use Rattle.model.specs.Limits.{writers}
use Rattle.model.specs.Answers.{taken, committed, aborted}
use Rattle.model.specs.State.{Notes, notes, ready, has_completed, note_at}
use Rattle.model.specs.declared.Writer.{Writer}
use Rattle.model.specs.declared.Action.{Action}
use Rattle.model.specs.declared.Action.TheVariants.{Start, LookUp, Read, Write, Index, Check, Commit, Abort}

-- how many instants of a timeline are completed
unfoldable pub completed_count : List ℕ → ℕ
completed_count [] = 0
completed_count (i ∷ is) = cond (has_completed i) (completed_count is + 1) (completed_count is)

-- a list with a number for each timestamp, where that of timestamp n is x; timestamp 0 has none
abbrev pub set_timestamp : List ℕ → ℕ → ℕ → List ℕ
set_timestamp l zero x = l
set_timestamp l (suc i) x = set l i x

-- how many are completed besides that of timestamp n
abbrev pub others_completed : List ℕ → ℕ → ℕ
others_completed timeline n = completed_count (set_timestamp timeline n 0)

-- the timestamp that a writer's operation in progress holds, or 0; a ready writer has none in progress, whatever its record holds
abbrev pub held_by : Writer → ℕ
held_by x = cond (eqb x.phase 0) 0 x.ts

-- the noted timestamps, once the first places of writer w's row are what f gives for 0, 1, .. below u
unfoldable pub row_noted : List ℕ → ℕ → (ℕ → ℕ) → ℕ → List ℕ
row_noted noted w f zero = noted
row_noted noted w f (suc u) = set (row_noted noted w f u) (note_at w u) (f u)

-- writer w's operation starts: it notes how many instants are completed, and the timestamps that the operations in progress hold
abbrev pub start_noted : Notes → ℕ → List Writer → List ℕ → Notes
start_noted n w xs timeline =
    notes n.places (set n.counts w (completed_count timeline)) (row_noted n.noted w (λ u. held_by (get_or xs u ready)) writers)

-- the instant of timestamp t is completed: its place is one more than the number of the others
abbrev pub completion_noted : Notes → ℕ → List ℕ → Notes
completion_noted n t timeline = notes (set_timestamp n.places t (others_completed timeline t + 1)) n.counts n.noted

-- writer w's operation ends or commits: the writer keeps neither
abbrev pub notes_cleared : Notes → ℕ → Notes
notes_cleared n w = notes n.places (set n.counts w 0) (row_noted n.noted w (λ u. 0) writers)

-- is an action a start
abbrev pub is_start : Action → Bool
is_start (Start op) = true
is_start LookUp = false
is_start Read = false
is_start Write = false
is_start Index = false
is_start Check = false
is_start Commit = false
is_start Abort = false

-- what is noted after an action of writer w and its answer: before it the writer has timestamp t and the writers are xs, after it the timeline has these
-- instants. A refusal changes nothing, and a writer past the last has no place for notes
unfoldable pub notes_after : Notes → ℕ → Action → ℕ → ℕ → List Writer → List ℕ → Notes
notes_after n w a answer t xs timeline =
    cond (leb writers w || ltb aborted answer) n
    (cond (eqb answer taken) (cond (is_start a) (start_noted n w xs timeline) n)
    (cond (eqb answer committed) (notes_cleared (completion_noted n t timeline) w) (notes_cleared n w)))
