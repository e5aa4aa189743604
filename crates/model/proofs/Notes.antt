-- The laws of what is noted for the candidates of a commit.
--     count_same, count_next, count_most   completed instants, counted: one set to another that is completed or not as before, one completed, and at most
--                                          so many; `others_most`, one fewer besides one of them
--     count_others                         the others of a timestamp, where its own instant was not completed; `uncompleted_at`, where it was not
--     row_ind, row_noted_lem               a writer's row set: what holds of every noted timestamp, and who has noted what
--     timestamp_set                        a number set in a list with one for each timestamp
--     notes_past, notes_refused, notes_started, notes_same, notes_committed, notes_ended    what is noted after each answer
--     notes_ranged, notes_lengths          what is noted stays in range, and keeps its lengths
use Prim.Native.Nat.{ℕ, zero, suc, ◌+◌, ◌-◌, ◌≤◌, ◌<◌, zero-le}
use native.Mathlib.Nat.{le_trans}
use native.Mathlib.Decide.{ℕ_discrete}
use native.Mathlib.Numerals.{sub-one}
use native.Mathlib.Omega.{arith}
use mathlib.Core.Path.{◌≡◌, refl, sym, ap, ◌∙◌, fun_ext}
use mathlib.Core.Logic.{◌≢◌, by_cases}
use mathlib.Core.Bool.{Bool, true, false, not, ◌||◌, or-true}
use mathlib.Core.List.{List, [], ◌∷◌}
use mathlib.Core.Option.{none}
use lib.ListN.{length, get_or, set, length-set}
use lib.Seq.{get_or-set_same, get_or-set_other, set-set}
use lib.Dec.{eqb, ltb, leb}
use borrow.Author.Tests.{ne_eqb, le-leb, lt-leb, lt-ltb, le-ltb}
use Rattle.common.specs.Counting.{upd, any_below}
use Rattle.common.proofs.Cases.{cond_each, by_test, refuted, set_ind}
use Rattle.common.proofs.EachBelow.{below_same}
use Rattle.common.proofs.Functions.{none_some, upd_ind}
use Rattle.model.specs.Limits.{writers, timestamps, noted}
use Rattle.model.specs.Answers.{taken, committed, aborted}
use Rattle.model.specs.State.{Notes, State, has_completed, group_of_completed, at_timestamp, note_at, ready}
use Rattle.model.specs.Notes.{completed_count, set_timestamp, others_completed, held_by, row_noted, start_noted, completion_noted, notes_cleared, is_start}
use Rattle.model.specs.Notes.{notes_after}
use Rattle.model.specs.Rules.{Outcome}
use Rattle.model.specs.Candidates.{has_noted}
use Rattle.model.specs.declared.Writer.{Writer}
use Rattle.model.specs.declared.Action.{Action}
use Rattle.model.proofs.CompletedInstants.{group_completed, completed_at, instant_next}
use Rattle.model.proofs.Ranged.{InstantRanged, NotesRanged, Ranged}
use Rattle.model.proofs.Actions.{OutcomeRanged}

-- ---- completed instants, counted
pub count_same : (l : List ℕ) (i y : ℕ) → has_completed (get_or l i 0) ≡ has_completed y → completed_count (set l i y) ≡ completed_count l
unfolding completed_count
count_same [] i y e = refl
count_same (x ∷ l) zero y e = rw e
count_same (x ∷ l) (suc i) y e = rw (count_same l i y e)

pub count_next : (l : List ℕ) (i y : ℕ) → i < length l → has_completed (get_or l i 0) ≡ false → has_completed y ≡ true
    → completed_count (set l i y) ≡ completed_count l + 1
unfolding completed_count
count_next [] i y lt old new = absurd (omega arith)
count_next (x ∷ l) zero y lt old new = rw (old, new)
count_next (x ∷ l) (suc i) y lt old new =
    by_test (has_completed x) (λ e. rw (e, count_next l i y (omega arith) old new)) (λ e. rw (e, count_next l i y (omega arith) old new))

pub count_others : (l : List ℕ) (n y : ℕ) → 0 < n → has_completed (get_or l (n - 1) 0) ≡ false → others_completed (set l (n - 1) y) n ≡ completed_count l
count_others l zero y pos old = absurd (omega arith)
count_others l (suc m) y pos old =
    rw (sub-one (suc m)) (ap completed_count (set-set l m y 0) ∙ count_same l m 0 (rw (sub-one (suc m)) at old))

pub uncompleted_at : (l : List ℕ) (n : ℕ) → 0 < n → completed_at l n ≡ none → has_completed (get_or l (n - 1) 0) ≡ false
unfolding group_completed
uncompleted_at l zero pos e = absurd (omega arith)
uncompleted_at l (suc m) pos e = rw (sub-one (suc m)) (refuted (λ done. none_some {a = group_of_completed (get_or l m 0)} e (rw done)))

-- where no instant from m on is completed
count_most : (l : List ℕ) (m : ℕ) → ((i : ℕ) → m ≤ i → get_or l i 0 ≡ 0) → completed_count l ≤ m
unfolding completed_count
count_most [] m free = zero-le
count_most (x ∷ l) zero free = rw (free 0 zero-le) (count_most l zero (λ i le. free (suc i) zero-le))
count_most (x ∷ l) (suc m) free =
    let rest = count_most l m (λ i le. free (suc i) (omega arith)) in
    cond_each (λ (n : ℕ). n ≤ suc m) (has_completed x) _ _ (omega (arith, rest)) (omega (arith, rest))

-- and one before m is taken out
others_most : (l : List ℕ) (m i : ℕ) → i < m → ((j : ℕ) → m ≤ j → get_or l j 0 ≡ 0) → completed_count (set l i 0) + 1 ≤ m
unfolding completed_count
others_most l zero i lt free = absurd (omega arith)
others_most [] (suc m) i lt free = omega arith
others_most (x ∷ l) (suc m) zero lt free = omega (arith, count_most l m (λ i le. free (suc i) (omega arith)))
others_most (x ∷ l) (suc m) (suc i) lt free =
    let rest = others_most l m i (omega arith) (λ i le. free (suc i) (omega arith)) in
    cond_each (λ (n : ℕ). n + 1 ≤ suc m) (has_completed x) _ _ (omega (arith, rest)) (omega (arith, rest))

-- ---- a writer's row of the noted timestamps
module _ (l : List ℕ) (w : ℕ) (f : ℕ → ℕ) where
  row_ind : (P : ℕ → Type 0) (n : ℕ) → ((u : ℕ) → u < n → P (f u)) → ((k : ℕ) → P (get_or l k 0)) → (k : ℕ) → P (get_or (row_noted l w f n) k 0)
  unfolding row_noted
  row_ind P zero own old = old
  row_ind P (suc n) own old =
      set_ind (λ _. P) (row_noted l w f n) (note_at w n) (f n) 0 (own n (omega arith)) (row_ind P n (λ u lt. own u (omega arith)) old)

  row_length : (n : ℕ) → length (row_noted l w f n) ≡ length l
  unfolding row_noted
  row_length zero = refl
  row_length (suc n) = length-set (row_noted l w f n) (note_at w n) (f n) ∙ row_length n

  row_own : w < writers → length l ≡ noted → (n u : ℕ) → n ≤ writers → u < n → get_or (row_noted l w f n) (note_at w u) 0 ≡ f u
  unfolding row_noted
  row_own there sized zero u le lt = absurd (omega arith)
  row_own there sized (suc n) u le lt =
      by_cases (ℕ_discrete u n)
      (λ e. rw e (get_or-set_same (row_noted l w f n) (note_at w n) (f n) 0 (omega (arith, row_length n))))
      (λ ne. get_or-set_other (row_noted l w f n) (note_at w n) (note_at w u) (f n) 0 (omega arith) ∙ row_own there sized n u (omega arith) (omega arith))

  row_other : (n v u : ℕ) → n ≤ writers → v ≢ w → u < writers → get_or (row_noted l w f n) (note_at v u) 0 ≡ get_or l (note_at v u) 0
  unfolding row_noted
  row_other zero v u le ne lt = refl
  row_other (suc n) v u le ne lt =
      get_or-set_other (row_noted l w f n) (note_at w n) (note_at v u) (f n) 0 (omega arith) ∙ row_other n v u (omega arith) ne lt

-- is a timestamp among those that f gives for the writers
abbrev pub amongst : (ℕ → ℕ) → ℕ → Bool
amongst f s = any_below writers (λ u. eqb (f u) s)

same_amongst : (f g : ℕ → ℕ) → ((u : ℕ) → u < writers → f u ≡ g u) → amongst f ≡ amongst g
same_amongst f g h = fun_ext (λ s. ap not (below_same _ _ writers (λ u lt. ap (λ (n : ℕ). not (eqb n s)) (h u lt))))

pub row_noted_lem : (l : List ℕ) (w : ℕ) (f : ℕ → ℕ) → w < writers → length l ≡ noted → has_noted (row_noted l w f writers) ≡ upd (has_noted l) w (amongst f)
unfolding has_noted
row_noted_lem l w f there sized =
    let old : ℕ → ℕ → Bool = λ v. amongst (λ u. get_or l (note_at v u) 0) in
    let new : ℕ → ℕ → Bool = λ v. amongst (λ u. get_or (row_noted l w f writers) (note_at v u) 0) in
    sym (fun_ext
    (upd_ind old w (amongst f) (λ v y. y ≡ new v) (same_amongst _ _ (λ u lt. sym (row_own l w f there sized writers u (omega arith) lt)))
    (λ v ne. same_amongst _ _ (λ u lt. sym (row_other l w f writers v u (omega arith) ne lt)))))

-- ---- a number for each timestamp
pub timestamp_set : (l : List ℕ) (n x : ℕ) → 0 < n → n ≤ length l → at_timestamp (set_timestamp l n x) ≡ upd (at_timestamp l) n x
timestamp_set l zero x pos le = absurd (omega arith)
timestamp_set l (suc m) x pos le = instant_next l m x le

timestamp_length : (l : List ℕ) (n x : ℕ) → length (set_timestamp l n x) ≡ length l
timestamp_length l zero x = refl
timestamp_length l (suc m) x = length-set l m x

-- ---- what is noted after an answer
module _ (n : Notes) (w : ℕ) (a : Action) (k t : ℕ) (xs : List Writer) (timeline : List ℕ) where
  pub notes_past : writers ≤ w → notes_after n w a k t xs timeline ≡ n
  unfolding notes_after
  notes_past past = rw (le-leb writers w past)

  pub notes_refused : aborted < k → notes_after n w a k t xs timeline ≡ n
  unfolding notes_after
  notes_refused p = rw (lt-ltb aborted k p, or-true (leb writers w))

  module _ (there : w < writers) where
    pub notes_started : k ≡ taken → is_start a ≡ true → notes_after n w a k t xs timeline ≡ start_noted n w xs timeline
    unfolding notes_after
    notes_started e start = rw (lt-leb writers w there, e, start)

    pub notes_same : k ≡ taken → is_start a ≡ false → notes_after n w a k t xs timeline ≡ n
    unfolding notes_after
    notes_same e other = rw (lt-leb writers w there, e, other)

    pub notes_committed : k ≡ committed → notes_after n w a k t xs timeline ≡ notes_cleared (completion_noted n t timeline) w
    unfolding notes_after
    notes_committed e = rw (lt-leb writers w there, e)

    pub notes_ended : committed < k → k ≤ aborted → notes_after n w a k t xs timeline ≡ notes_cleared n w
    unfolding notes_after
    notes_ended p q = rw (lt-leb writers w there, le-ltb aborted k q, ne_eqb k taken (omega arith), ne_eqb k committed (omega arith))

  -- a claim about what is noted: after a start, after a commit, after another end, and where nothing changes
  notes_each : (P : Notes → Type 0) → P (start_noted n w xs timeline) → P (notes_cleared (completion_noted n t timeline) w)
      → P (notes_cleared n w) → P n → P (notes_after n w a k t xs timeline)
  unfolding notes_after
  notes_each P started done ended same =
      cond_each P (leb writers w || ltb aborted k) _ _ same
      (cond_each P (eqb k taken) _ _ (cond_each P (is_start a) _ _ started same) (cond_each P (eqb k committed) _ _ done ended))

-- the last timestamp may have grown
later_notes : {last m : ℕ} {n : Notes} → last ≤ m → NotesRanged last n → NotesRanged m n
later_notes le r = record { place = r.place; count = r.count; noted = λ i. le_trans (r.noted i) le }

cleared_ranged : {last : ℕ} {n : Notes} (w : ℕ) → NotesRanged last n → NotesRanged last (notes_cleared n w)
cleared_ranged {last} {n} w r =
    record {
      place = r.place;
      count = set_ind (λ _ c. c ≤ timestamps) n.counts w _ 0 (omega arith) r.count;
      noted = row_ind n.noted w (λ u. 0) (λ s. s ≤ last) writers (λ u lt. zero-le) r.noted;
    }

module _ (timeline : List ℕ) (last : ℕ) (issued : (i : ℕ) → InstantRanged last i (get_or timeline i 0)) (low : last ≤ timestamps) where
  started_ranged : {n : Notes} (w : ℕ) (xs : List Writer) → ((u : ℕ) → u < writers → (get_or xs u ready).ts ≤ last) → NotesRanged last n
      → NotesRanged last (start_noted n w xs timeline)
  started_ranged {n} w xs held r =
      record {
        place = r.place;
        count =
            set_ind (λ _ c. c ≤ timestamps) n.counts w _ 0 (omega (arith, count_most timeline last (λ i le. (issued i).above le))) r.count;
        noted =
            row_ind n.noted w (λ u. held_by (get_or xs u ready)) (λ s. s ≤ last) _
            (λ u lt. cond_each (λ (s : ℕ). s ≤ last) (eqb (get_or xs u ready).phase 0) _ _ zero-le (held u (omega arith))) r.noted;
      }

  completion_ranged : {n : Notes} (t : ℕ) → t ≤ last → NotesRanged last n → NotesRanged last (completion_noted n t timeline)
  completion_ranged zero le r = r
  completion_ranged {n} (suc i) le r =
      record {
        place =
            set_ind (λ _ p. p ≤ timestamps) n.places i _ 0 (omega (arith, others_most timeline last i le (λ j b. (issued j).above b))) r.place;
        count = r.count;
        noted = r.noted;
      }

pub notes_ranged : (st : State) (w : ℕ) (a : Action) (o : Outcome) → w < writers → Ranged st → OutcomeRanged st.shared.last o
    → NotesRanged o.shared.last (notes_after st.notes w a o.answer (get_or st.writers w ready).ts st.writers o.shared.timeline)
notes_ranged st w a o there r k =
    let same = later_notes k.grows r.notes in
    let held : (u : ℕ) → u < writers → (get_or st.writers u ready).ts ≤ o.shared.last = λ u lt. le_trans (r.writer u lt).ts k.grows in
    let issued = k.shared.instant in
    let low = k.shared.last in
    notes_each st.notes w a o.answer _ st.writers o.shared.timeline (NotesRanged o.shared.last)
    (started_ranged o.shared.timeline o.shared.last issued low w st.writers held same)
    (cleared_ranged w (completion_ranged o.shared.timeline o.shared.last issued low _ (held w there) same)) (cleared_ranged w same) same

pub record NotesLengths (n : Notes) : Type 0 where
  pub places : length n.places ≡ timestamps
  pub counts : length n.counts ≡ writers
  pub noted : length n.noted ≡ noted

cleared_lengths : {n : Notes} (w : ℕ) → NotesLengths n → NotesLengths (notes_cleared n w)
cleared_lengths {n} w h =
    record { places = h.places; counts = length-set n.counts w _ ∙ h.counts; noted = row_length n.noted w (λ u. 0) writers ∙ h.noted }

pub notes_lengths : (n : Notes) (w : ℕ) (a : Action) (k t : ℕ) (xs : List Writer) (timeline : List ℕ) → NotesLengths n
    → NotesLengths (notes_after n w a k t xs timeline)
notes_lengths n w a k t xs timeline h =
    notes_each n w a k t xs timeline NotesLengths
    (record {
      places = h.places;
      counts = length-set n.counts w _ ∙ h.counts;
      noted = row_length n.noted w (λ u. held_by (get_or xs u ready)) _ ∙ h.noted;
    })
    (cleared_lengths {n = completion_noted n t timeline} w
    (record { places = timestamp_length n.places t _ ∙ h.places; counts = h.counts; noted = h.noted }))
    (cleared_lengths w h) h
