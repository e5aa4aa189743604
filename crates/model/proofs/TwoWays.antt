-- The candidates of a commit (document 02, Q-12), after any list of events from a fresh table of either mode.
--     candidates_agree      the two ways choose the same, and only what is committed
--     keeps_neither         a ready writer keeps no count and no timestamp
--     completion_placed     a completed instant has its place among 1, 2, .., up to the number of completed instants;
--                           `places_differ`, no other has the same; `unplaced`, an instant that is not completed has
--                           none
--     above_base            past its read step an operation has as candidates all that is completed in its file group
--                           above its base
--     changed_by            so where a check is answered 5, a candidate of the group is above the base
use Prim.Native.Nat.{ℕ, zero, suc, ◌≤◌, ◌<◌}
use mathlib.Core.Path.{◌≡◌, refl, sym, ap, ◌∙◌, fun_ext}
use mathlib.Core.Logic.{◌≢◌, by_cases}
use mathlib.Core.List.{List, Memᴰ}
use mathlib.Core.List.Memᴰ
use mathlib.Core.Bool.{Bool, true, false, not, true≢false}
use mathlib.Core.Option.{some}
use native.Mathlib.Decide.{ℕ_discrete, dec_lt}
use native.Mathlib.Omega.{arith}
use lib.ListN.{get_or, replicate, get_or-eq_default}
use borrow.Author.Tests.{eq-eqb, ne_eqb, lt-ltb, lt-leb}
use Rattle.common.proofs.Cases.{cond_iff, facts}
use Rattle.common.proofs.Functions.{none_some, get_d_fresh}
use Rattle.common.proofs.EachBelow.{below_all, below_stop}
use Rattle.model.specs.Limits.{writers, timestamps, noted}
use Rattle.model.specs.Answers.{group_changed}
use Rattle.model.specs.State.{Shared, State, completed, has_completed, group_of_completed, at_timestamp, note_at, ready, fresh}
use Rattle.model.specs.Notes.{completed_count}
use Rattle.model.specs.Rules.{newest_of, Verdict, check_conflict, ruled, carried, act, Answered, writer_of, step_tested, step}
use Rattle.model.specs.Snapshot.{instant_of}
use Rattle.model.specs.History.{Pending}
use Rattle.model.specs.Isolation.{Event, Execution, beginning, after}
use Rattle.model.specs.Candidates.{has_noted, by_start, by_completion, filled, candidates, CommittedAt, Agreeing, CandidatesAgree}
use Rattle.model.specs.declared.Mode.{Mode}
use Rattle.model.specs.declared.Writer.{Writer}
use Rattle.model.specs.declared.Action.TheVariants.{Check}
use Rattle.model.proofs.Modes.{may_check_lem}
use Rattle.model.proofs.CompletedInstants.{group_completed, completed_at, completed_group, group_completed_lem, newest_of_lem}
use Rattle.model.proofs.Ranged.{ranged}
use Rattle.model.proofs.Executed.{executed_keeps}
use Rattle.model.proofs.Notes.{amongst}
use Rattle.model.proofs.StepMoves.{view_of, Consistent}
use Rattle.model.proofs.EventChanges.{event_changes, event_consistent}
use Rattle.model.proofs.Chosen.{same_chosen, chosen_completed, completed_chosen, in_used}
use Rattle.model.proofs.Noted.{OperationNoted, Noted, Bounded}
use Rattle.model.proofs.NotesKept.{change_noted}
use Rattle.model.proofs.Isolation.{fresh_consistent, fresh_completed, fresh_writer, reached}

-- ---- every table reached
bounded : (u : Execution) → Consistent u → Bounded (view_of u)
unfolding group_completed
bounded u h =
    record {
      writer =
          λ w p.
          by_cases (dec_lt w writers) (λ lt. lt)
          (λ ge.
          let idle : writer_of u.state w ≡ ready = get_or-eq_default u.state.writers ready (omega (arith, h.lengths.writers)) in
          absurd (omega (arith, p, ap (λ (x : Writer). x.phase) idle)));
      zero = refl;
    }

fresh_noted : (mode : Mode) → Noted (view_of (beginning mode))
unfolding fresh has_noted
fresh_noted mode =
    record {
      placed = λ s g e. absurd (none_some (fresh_completed s) e);
      unplaced = λ s e. fresh_place s;
      unique = λ s t g h e. absurd (none_some (fresh_completed s) e);
      known = λ s g e. absurd (none_some (fresh_completed s) e);
      operation = λ w p. absurd (omega (arith, p, ap (λ (x : Writer). x.phase) (fresh_writer mode w)));
      cleared =
          λ w q.
          record { count = get_d_fresh {A = ℕ} writers w 0; noted = ap amongst (fun_ext (λ u. get_d_fresh {A = ℕ} noted (note_at w u) 0)) };
    }
  where
    fresh_place : (s : ℕ) → at_timestamp (replicate timestamps 0) s ≡ 0
    fresh_place zero = refl
    fresh_place (suc n) = get_d_fresh {A = ℕ} timestamps n 0

reached_noted : (mode : Mode) (es : List Event) → Noted (view_of (after mode es))
reached_noted mode es =
    (executed_keeps (λ u. Consistent u × Noted (view_of u))
    (λ u e (c, m). (event_consistent u e c, change_noted (view_of u) _ c.invariant (bounded u c) m (event_changes u e c))) (beginning mode) es
    (fresh_consistent mode, fresh_noted mode)).1

-- an operation in progress, with what holds of its notes
module _ (mode : Mode) (es : List Event) (w : ℕ) where
  abbrev u : Execution
  u = after mode es

  abbrev x : Writer
  x = writer_of u.state w

  small : 0 < x.phase → w < writers
  small = (bounded u (reached mode es)).writer w

  noted_of : 0 < x.phase → OperationNoted (view_of u) w x
  noted_of = (reached_noted mode es).operation w

  issued_timestamp : (s g : ℕ) → completed_at u.state.shared.timeline s ≡ some g → s ≤ timestamps
  issued_timestamp s g e =
      let h = reached mode es in
      by_cases (dec_lt u.state.shared.last s) (λ late. absurd (none_some (h.invariant.above s late) e))
      (λ le. omega (arith, (ranged u.state h.ranged).shared.last))

  completed_committed : (s : ℕ) → has_completed (instant_of u.state.shared.timeline s) ≡ true → CommittedAt u.history s
  unfolding group_completed
  completed_committed s e = (reached_noted mode es).known s (group_of_completed (instant_of u.state.shared.timeline s)) (rw e)

  agreeing : (p : Pending) → u.history.pending w ≡ some p → Agreeing u.history (candidates u.state w)
  unfolding candidates by_start by_completion
  agreeing p is =
      let h = reached mode es in
      let busy : x.phase ≢ 0 = λ e. none_some ((h.invariant.writer w).ready e) is in
      let a = noted_of (omega arith) in
      record {
        answer = rw (h.ranged, lt-leb writers w (small (omega arith)), ne_eqb x.phase 0 busy);
        same =
            rw (h.ranged, lt-leb writers w (small (omega arith)), ne_eqb x.phase 0 busy)
            (ap filled (same_chosen u.state.shared.timeline _ _ a.alike));
        committed =
            λ s pos.
            rw (h.ranged, lt-leb writers w (small (omega arith)), ne_eqb x.phase 0 busy)
            (λ m. completed_committed s (chosen_completed u.state.shared.timeline _ s (in_used _ s pos m)));
      }

pub candidates_agree : (mode : Mode) (es : List Event) → CandidatesAgree mode es
candidates_agree mode es = agreeing mode es

-- ---- laws for testers
module _ (mode : Mode) (es : List Event) where
  abbrev st : State
  st = (after mode es).state

  pub keeps_neither : (w : ℕ) → (writer_of st w).phase ≡ 0
      → (get_or st.notes.counts w 0 ≡ 0) × ((u : ℕ) → u < writers → get_or st.notes.noted (note_at w u) 0 ≡ 0)
  unfolding has_noted
  keeps_neither w q =
      let c = (reached_noted mode es).cleared w q in (
        c.count,
        λ u lt.
            let n = get_or st.notes.noted (note_at w u) 0 in
            by_cases (ℕ_discrete n 0) (λ e. e)
            (λ ne.
            let has : amongst (λ u. get_or st.notes.noted (note_at w u) 0) n ≡ true = ap not (below_stop _ writers u lt (ap not (eq-eqb n n refl))) in
            let lacks : amongst (λ u. 0) n ≡ false = ap not (below_all _ writers (λ u lt. ap not (ne_eqb 0 n (omega arith)))) in
            absurd (true≢false (sym has ∙ ap (λ (r : ℕ → Bool). r n) c.noted ∙ lacks))),
      )

  abbrev completed_in : ℕ → Bool
  completed_in s = has_completed (instant_of st.shared.timeline s)

  abbrev place_of : ℕ → ℕ
  place_of s = at_timestamp st.notes.places s

  completed_some : (s : ℕ) → completed_in s ≡ true
      → completed_at st.shared.timeline s ≡ some (group_of_completed (instant_of st.shared.timeline s))
  unfolding group_completed
  completed_some s e = rw e

  pub completion_placed : (s : ℕ) → completed_in s ≡ true → (0 < place_of s) × (place_of s ≤ completed_count st.shared.timeline)
  completion_placed s e = (reached_noted mode es).placed s _ (completed_some s e)

  pub places_differ : (s t : ℕ) → completed_in s ≡ true → completed_in t ≡ true → place_of s ≡ place_of t → s ≡ t
  places_differ s t e f = (reached_noted mode es).unique s t _ _ (completed_some s e) (completed_some t f)

  pub unplaced : (s : ℕ) → completed_in s ≡ false → place_of s ≡ 0
  unfolding group_completed
  unplaced s e = (reached_noted mode es).unplaced s (rw e)

  -- the candidates that the call gives writer w
  abbrev chosen_for : ℕ → List ℕ
  chosen_for w = (candidates st w).by_completion.timestamps

  pub above_base : (w s : ℕ) → 2 < (writer_of st w).phase → instant_of st.shared.timeline s ≡ completed (writer_of st w).group → (writer_of st w).base < s
      → Memᴰ s (chosen_for w)
  unfolding candidates by_completion
  above_base w s past is above =
      let h = reached mode es in
      let done : completed_at st.shared.timeline s ≡ some (writer_of st w).group = ap group_completed is ∙ completed_group (writer_of st w).group in
      let a = noted_of mode es w (omega arith) in
      let late : s ≤ timestamps = omega (arith, issued_timestamp mode es w s _ done) in
      rw (chosen_for, h.ranged, lt-leb writers w (small mode es w (omega arith)), ne_eqb (writer_of st w).phase 0 (omega arith))
      (Memᴰ.append_left _ (completed_chosen st.shared.timeline _ s _ late done (lt-ltb _ _ (a.newer past s done above))))

-- a candidate that a check step finds: it is above the base, and completed in the writer's file group
pub record ChangedBy (st : State) (w : ℕ) : Type 0 where
  pub ts : ℕ
  pub above : (writer_of st w).base < ts
  pub group : instant_of st.shared.timeline ts ≡ completed (writer_of st w).group
  pub listed : Memᴰ ts (candidates st w).by_completion.timestamps

-- the check's rule, where it ends an operation with 5
ends_changed : (mode : Mode) (x : Writer) (w : ℕ) (s : Shared) → (carried x w s (check_conflict mode x s)).answer ≡ group_changed
    → (x.phase ≡ 5) × (x.base < newest_of s x.group)
unfolding check_conflict
ends_changed mode x w s =
    simp (cond_iff (λ (v : Verdict). (carried x w s v).answer ≡ group_changed → (x.phase ≡ 5) × (x.base < newest_of s x.group)), facts) (
      λ _ e. absurd (omega arith),
      λ may. (λ above e. ((may_check_lem mode x.phase may).1, above), λ _ e. absurd (omega arith)),
    )

pub changed_by : (mode : Mode) (es : List Event) (w : ℕ) → (step (after mode es).state (record { writer = w; action = Check })).answer ≡ group_changed
    → ChangedBy (after mode es).state w
unfolding step step_tested act ruled
changed_by mode es w =
    let st = (after mode es).state in
    let x = writer_of st w in
    let top = newest_of_lem st.shared.timeline x.group st.shared.last in
    simp (cond_iff (λ (a : Answered). a.answer ≡ group_changed → ChangedBy st w)) (
      λ _ e. absurd (omega arith),
      λ _. (
        λ _ e. absurd (omega arith),
        λ _ e.
            let (phase, above) = ends_changed st.mode x w st.shared e in
            let group = group_completed_lem _ _ (top.hit (omega arith)) in
            record { ts = newest_of st.shared x.group; above = above; group = group; listed = above_base mode es w _ (omega arith) group above },
      ),
    )
