-- What the theorems see of the notes (`notes_view`), and what each answer makes of it: a refusal (`refused_notes`), an end without commit
-- (`ended_notes`), a start (`started_notes`), a step that goes on (`kept_notes`; `read_notes` where it sets an instant), and a commit
-- (`committed_notes`).
use Prim.Native.Nat.{ℕ, ◌+◌, ◌-◌, ◌≤◌, ◌<◌}
use mathlib.Core.Path.{◌≡◌, refl, ap, ◌∙◌}
use mathlib.Core.List.{List}
use mathlib.Core.Bool.{true, false}
use native.Mathlib.Omega.{arith}
use lib.ListN.{length, get_or, set}
use Rattle.common.specs.Counting.{upd}
use Rattle.common.proofs.Functions.{get_d_upd}
use Rattle.model.specs.Limits.{writers, timestamps}
use Rattle.model.specs.Answers.{taken, committed, aborted}
use Rattle.model.specs.State.{Notes, notes, requested, has_completed, at_timestamp, ready}
use Rattle.model.specs.Notes.{completed_count, notes_cleared, is_start, notes_after}
use Rattle.model.specs.Candidates.{has_noted}
use Rattle.model.specs.declared.Writer.{Writer}
use Rattle.model.specs.declared.Action.{Action}
use Rattle.model.proofs.Notes.{count_same, count_next, count_others, row_noted_lem, timestamp_set, NotesLengths}
use Rattle.model.proofs.Notes.{notes_refused, notes_started, notes_same, notes_committed, notes_ended}
use Rattle.model.proofs.Moves.{NotesView, start_viewed, end_viewed, completion_viewed}

-- what is noted, with the number of completed instants
abbrev pub notes_view : List ℕ → Notes → NotesView
notes_view timeline n =
    record {
      completions = completed_count timeline;
      place = at_timestamp n.places;
      count = λ w. get_or n.counts w 0;
      noted = has_noted n.noted;
    }

notes_path : (m n : NotesView) → m.completions ≡ n.completions → m.place ≡ n.place → m.count ≡ n.count → m.noted ≡ n.noted → m ≡ n
notes_path m n p q r s = λ i. record { completions = p i; place = q i; count = r i; noted = s i }

module _ (n : Notes) (w : ℕ) (a : Action) (t : ℕ) (xs : List Writer) (timeline : List ℕ) where
  pub refused_notes : (k : ℕ) → aborted < k → notes_view timeline (notes_after n w a k t xs timeline) ≡ notes_view timeline n
  refused_notes k above = ap (notes_view timeline) (notes_refused n w a k t xs timeline above)

  module _ (there : w < writers) where
    pub kept_notes : is_start a ≡ false → notes_view timeline (notes_after n w a taken t xs timeline) ≡ notes_view timeline n
    kept_notes other = ap (notes_view timeline) (notes_same n w a taken t xs timeline there refl other)

    -- an instant is set, and none completed by it
    pub read_notes : (i y : ℕ) → is_start a ≡ false → has_completed (get_or timeline i 0) ≡ has_completed y
        → notes_view (set timeline i y) (notes_after n w a taken t xs (set timeline i y)) ≡ notes_view timeline n
    read_notes i y other same =
        ap (notes_view (set timeline i y)) (notes_same n w a taken t xs (set timeline i y) there refl other)
        ∙ notes_path _ _ (count_same timeline i y same) refl refl refl

  module _ (h : NotesLengths n) (there : w < writers) where
    -- the instant at a place where there was none is requested
    pub started_notes : (i : ℕ) → is_start a ≡ true → get_or timeline i 0 ≡ 0
        → notes_view (set timeline i requested) (notes_after n w a taken t xs (set timeline i requested))
        ≡ start_viewed (notes_view timeline n) (λ u. get_or xs u ready) w
    started_notes i start free =
        let same = count_same timeline i requested (ap has_completed free) in
        ap (notes_view (set timeline i requested)) (notes_started n w a taken t xs (set timeline i requested) there refl start)
        ∙ notes_path _ _ same refl
        (get_d_upd n.counts w _ 0 (omega (arith, h.counts)) ∙ ap (upd (notes_view timeline n).count w) same)
        (row_noted_lem n.noted w _ there h.noted)

    -- the count and the row are cleared, whatever the instants and the places
    cleared_notes : (l places : List ℕ)
        → notes_view l (notes_cleared (notes places n.counts n.noted) w) ≡ end_viewed (notes_view l (notes places n.counts n.noted)) w
    cleared_notes l places =
        notes_path _ _ refl refl (get_d_upd n.counts w 0 0 (omega (arith, h.counts))) (row_noted_lem n.noted w (λ u. 0) there h.noted)

    pub ended_notes : (k : ℕ) → committed < k → k ≤ aborted → notes_view timeline (notes_after n w a k t xs timeline) ≡ end_viewed (notes_view timeline n) w
    ended_notes k above up_to =
        ap (notes_view timeline) (notes_ended n w a k t xs timeline there above up_to) ∙ cleared_notes timeline n.places

    -- the writer's own instant, which was not completed, is
    pub committed_notes : (y : ℕ) → 0 < t → t ≤ timestamps → t ≤ length timeline
        → has_completed (get_or timeline (t - 1) 0) ≡ false → has_completed y ≡ true
        → notes_view (set timeline (t - 1) y) (notes_after n w a committed t xs (set timeline (t - 1) y))
        ≡ end_viewed (completion_viewed (notes_view timeline n) t) w
    committed_notes y pos fits within undone done =
        let more = count_next timeline (t - 1) y (omega arith) undone done in
        let place = ap (λ (c : ℕ). c + 1) (count_others timeline t y pos undone) in
        ap (notes_view (set timeline (t - 1) y)) (notes_committed n w a committed t xs (set timeline (t - 1) y) there refl)
        ∙ cleared_notes _ _
        ∙ ap (λ (m : NotesView). end_viewed m w)
        (notes_path _ _ more (timestamp_set n.places t _ pos (omega (arith, h.places)) ∙ ap (upd (notes_view timeline n).place t) place) refl refl)
