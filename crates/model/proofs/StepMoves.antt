-- What the theorems see of an execution (`view_of`), and when it is `Consistent`. A step of the table, with the
-- history recorded by it, is a move of the view: `step_moves`.
-- Each list after a step is first shown as a function (`writer_path`, `entry_path`, `withdrawn_path`, `locking_path`,
-- `freed_path`, `same_notes`); `ruling_moves` then has one move for each verdict of Outcomes.antt.
use Prim.Native.Nat.{ℕ, suc, ◌+◌, ◌-◌, ◌≤◌, ◌<◌}
use mathlib.Core.Path.{◌≡◌, refl, sym, ap, ◌∙◌, fun_ext}
use mathlib.Core.List.{List}
use mathlib.Core.Bool.{true, false}
use native.Mathlib.Omega.{arith}
use lib.ListN.{length, get_or, set}
use lib.Seq.{set-get_or}
use borrow.Author.Tests.{ne_eqb, le-leb, lt-leb}
use Rattle.model.specs.Limits.{writers, timestamps}
use Rattle.model.specs.Answers.{taken, committed}
use Rattle.common.specs.Counting.{upd}
use Rattle.model.specs.State.{Shared, Notes, requested, inflight, completed, has_completed, cell, ready}
use Rattle.model.specs.Notes.{is_start, notes_after}
use Rattle.model.specs.Range.{in_range}
use Rattle.model.specs.Rules.{begun, moved, takes_lock, locking, freed, withdrawn, Verdict, carried, act, Answered, updated, step_tested, step}
use Rattle.model.specs.Snapshot.{instant_of}
use Rattle.model.specs.History.{start_recorded, commit_recorded, recorded}
use Rattle.model.specs.Isolation.{group_given, takes_step, Execution, stored_by, answered_by, next}
use Rattle.model.specs.declared.Writer.{Writer}
use Rattle.model.specs.declared.Action.{Action}
use Rattle.model.specs.declared.Action.TheVariants.{Start, LookUp, Read, Write, Index, Check, Commit}
use Rattle.model.specs.declared.Step.{Step}
use Rattle.common.proofs.Cases.{cond_iff, by_test, facts}
use Rattle.common.proofs.Functions.{upd_same, upd_id, get_d_upd}
use Rattle.model.proofs.Modes.{guard_fits}
use Rattle.model.proofs.Locks.{freed_at}
use Rattle.model.proofs.CompletedInstants.{group_completed, completed_at, completed_group, requested_group, inflight_group}
use Rattle.model.proofs.CompletedInstants.{instant_next, instant_set, completed_upd, newest_of_lem, completed_given}
use Rattle.model.proofs.Ranged.{WriterRanged, ranged}
use Rattle.model.proofs.RangeKept.{step_in_range}
use Rattle.model.proofs.Outcomes.{Ruling, is_refused, is_ended, rules}
use Rattle.model.proofs.Outcomes.{has_started, has_found, has_proposed, has_read, has_written, has_entered, has_checked, has_committed}
use Rattle.model.proofs.Slices.{stored_own, cell_sliced}
use Rattle.model.proofs.Recorded.{recorded_refused, recorded_ended, recorded_taken, recorded_committed, commit_group}
use Rattle.model.proofs.Recorded.{stored_untaken, stored_unwritten, stored_written}
use Rattle.model.proofs.Lengths.{StateLengths}
use Rattle.model.proofs.Notes.{uncompleted_at}
use Rattle.model.proofs.NotesViewed.{notes_view, refused_notes, ended_notes, started_notes, kept_notes, read_notes, committed_notes}
use Rattle.model.proofs.Moves.{View, guard_of, locks_taken, after_start, after_phase, after_end, after_commit, looks_up, reads, writes, indexes, checks}
use Rattle.model.proofs.Moves.{Move, stays, starts, continues, ends, commits}
use Rattle.model.proofs.Invariant.{Invariant}

abbrev pub view_of : Execution → View
view_of u =
    record {
      mode = u.state.mode;
      horizon = u.state.horizon;
      last = u.state.shared.last;
      lock = λ p. get_or u.state.shared.locks p 0;
      entry = λ k. get_or u.state.shared.index k 0;
      completed = completed_at u.state.shared.timeline;
      cell = cell u.state.shared.present u.state.shared.values;
      writer = λ w. get_or u.state.writers w ready;
      history = u.history;
      stored = u.stored;
      notes = notes_view u.state.shared.timeline u.state.notes;
    }

-- a table and a history that satisfy the invariant
pub record Consistent (u : Execution) : Type 0 where
  pub lengths : StateLengths u.state
  pub ranged : in_range u.state ≡ true
  pub invariant : Invariant (view_of u)

view_path : (v n : View) → v.mode ≡ n.mode → v.horizon ≡ n.horizon → v.last ≡ n.last → v.lock ≡ n.lock → v.entry ≡ n.entry
    → v.completed ≡ n.completed → v.cell ≡ n.cell → v.writer ≡ n.writer → v.history ≡ n.history → v.stored ≡ n.stored → v.notes ≡ n.notes
    → v ≡ n
view_path v n m z p q r s t x h d o =
    λ i.
    record {
      mode = m i;
      horizon = z i;
      last = p i;
      lock = q i;
      entry = r i;
      completed = s i;
      cell = t i;
      writer = x i;
      history = h i;
      stored = d i;
      notes = o i;
    }

module _ (u : Execution) (h : Consistent u) (w : ℕ) (there : w < writers) where
  abbrev v : View
  v = view_of u

  abbrev sh : Shared
  sh = u.state.shared

  abbrev x : Writer
  x = v.writer w

  fits : WriterRanged sh.last x
  fits = (ranged u.state h.ranged).writer w there

  ts_fits : x.ts ≤ timestamps
  ts_fits = omega (arith, fits.ts, (ranged u.state h.ranged).shared.last)

  in_timeline : x.ts ≤ length sh.timeline
  in_timeline = omega (arith, ts_fits, h.lengths.shared.timeline)

  writer_path : (y : Writer) → (λ (i : ℕ). get_or (set u.state.writers w y) i ready) ≡ upd v.writer w y
  writer_path y = get_d_upd u.state.writers w y ready (omega (arith, h.lengths.writers))

  entry_path : (e : ℕ) → (λ (k : ℕ). get_or (set sh.index x.key e) k 0) ≡ upd v.entry x.key e
  entry_path e = get_d_upd sh.index x.key e 0 (omega (arith, fits.key, h.lengths.shared.index))

  -- the index after an end without commit
  withdrawn_path : (n : ℕ) → committed < n → (λ (k : ℕ). get_or (withdrawn n x.made x.key sh.index) k 0) ≡ (after_end v w).entry
  withdrawn_path n above =
      rw (ne_eqb n committed (omega arith)) (by_test x.made (λ made. rw made (entry_path 0)) (λ unmade. rw unmade))

  -- the locks after a step that may take one, and after an end
  locking_path : (λ (p : ℕ). get_or (locking v.mode x (w + 1) sh.locks) p 0) ≡ locks_taken v w x
  locking_path =
      by_test (takes_lock v.mode x)
      (λ takes.
      rw takes
      (get_d_upd sh.locks (guard_of v x) (w + 1) 0 (omega (arith, guard_fits v.mode x.group fits.group, h.lengths.shared.locks))))
      (λ none. rw none)

  freed_path : (λ (p : ℕ). get_or (freed w sh.locks) p 0) ≡ (after_end v w).lock
  freed_path = fun_ext (freed_at w sh.locks)

  -- what is noted
  abbrev ns : Notes
  ns = u.state.notes

  abbrev xs : List Writer
  xs = u.state.writers

  same_notes : (a : Action) → is_start a ≡ false → notes_view sh.timeline (notes_after ns w a taken x.ts xs sh.timeline) ≡ v.notes
  same_notes a other = kept_notes ns w a x.ts xs sh.timeline there other

  -- the instant of an operation in progress is not completed
  own_open : 0 < x.phase → has_completed (get_or sh.timeline (x.ts - 1) 0) ≡ false
  own_open busy = uncompleted_at sh.timeline x.ts (fits.issued busy) ((h.invariant.writer w).in_progress busy).uncompleted

  ruling_moves : {a : Action} {r : Verdict} → Ruling v.mode x w sh a r → in_range (updated u.state w a (carried x w sh r)).state ≡ true
      → Move v w (view_of (answered_by u (record { writer = w; action = a }) (updated u.state w a (carried x w sh r))))
  unfolding start_recorded
  ruling_moves (is_refused a n p) fine =
      stays
      (view_path _ v refl refl refl refl refl refl refl
      (ap {B = ℕ → Writer} (λ (l : List Writer) (i : ℕ). get_or l i ready) (set-get_or u.state.writers w ready)) (recorded_refused _ _ n _ p.above)
      (stored_untaken _ _ _ _ (omega (arith, p.above))) (refused_notes ns w a x.ts xs sh.timeline n p.above))
  ruling_moves (is_ended a n p) fine =
      ends
      (view_path _ (after_end v w) refl refl refl freed_path (withdrawn_path n p.above) refl refl (writer_path ready)
      (recorded_ended _ _ n _ p.above p.up_to) (stored_untaken _ _ _ _ (omega (arith, p.above)))
      (ended_notes ns w a x.ts xs sh.timeline h.lengths.notes there n p.above p.up_to))
  ruling_moves (has_started op k g unerased p l) fine =
      starts op unerased p
      (view_path _ (after_start v w op) refl refl refl refl refl
      (completed_upd sh.timeline _ (suc sh.last) requested
      (instant_next sh.timeline sh.last requested (omega (arith, h.lengths.shared.timeline)))
      ∙ upd_id v.completed (suc sh.last) _ (h.invariant.above (suc sh.last) (omega arith) ∙ sym requested_group))
      refl (writer_path (begun op (sh.last + 1))) (recorded_taken _ _ _) (stored_unwritten _ _ _ _ refl)
      (started_notes ns w (Start op) x.ts xs sh.timeline h.lengths.notes there sh.last refl
      (((ranged u.state h.ranged).shared.instant sh.last).above (omega arith))))
  ruling_moves (has_found p ne) fine =
      continues (looks_up _ p)
      (view_path _ (after_phase v w _ _ _ _ _) refl refl refl refl refl refl refl (writer_path _) (recorded_taken _ _ _) (stored_unwritten _ _ _ _ refl)
      (same_notes LookUp refl))
  ruling_moves (has_proposed p put) fine =
      continues (looks_up _ p)
      (view_path _ (after_phase v w _ _ _ _ _) refl refl refl refl refl refl refl (writer_path _) (recorded_taken _ _ _) (stored_unwritten _ _ _ _ refl)
      (same_notes LookUp refl))
  ruling_moves (has_read p free q) fine =
      continues (reads _ p free (newest_of_lem sh.timeline x.group sh.last) q)
      (view_path _ (after_phase v w _ _ _ _ _) refl refl refl locking_path refl
      (completed_upd sh.timeline _ x.ts (inflight x.group)
      (instant_set sh.timeline x.ts (inflight x.group) (fits.issued (omega arith)) in_timeline)
      ∙ upd_id v.completed x.ts _ (((h.invariant.writer w).in_progress (omega arith)).uncompleted ∙ sym (inflight_group x.group fits.group)))
      refl (writer_path _) (recorded_taken _ _ _) (stored_unwritten _ _ _ _ refl)
      (read_notes ns w Read x.ts xs sh.timeline there _ (inflight x.group) refl
      (own_open (omega arith) ∙ sym (lt-leb (completed 0) (inflight x.group) (omega (arith, fits.group))))))
  ruling_moves (has_written p) fine =
      let y = moved x 4 x.group x.base in
      let slices =
      cell_sliced sh.present sh.values x (fits.issued (omega arith)) fits.group fits.key (omega (arith, ts_fits, h.lengths.shared.present))
      (omega (arith, ts_fits, h.lengths.shared.values)) in
      continues (writes p)
      (view_path _ (after_phase v w _ _ _ _ _) refl refl refl refl refl refl slices (writer_path y) (recorded_taken _ _ _)
      (stored_written _ _ _ _ refl refl
      ∙ rw (ap (λ (f : ℕ → Writer). f w) (writer_path y), upd_same v.writer w y, slices) (ap (upd v.stored x.ts) (stored_own v.cell x)))
      (same_notes Write refl))
  ruling_moves (has_entered made p e) fine =
      continues (indexes made p e.free e.new e.found)
      (view_path _ (after_phase v w _ _ _ _ _) refl refl refl locking_path (entry_path _) refl refl (writer_path _) (recorded_taken _ _ _)
      (stored_unwritten _ _ _ _ refl) (same_notes Index refl))
  ruling_moves (has_checked p q) fine =
      continues (checks _ p (newest_of_lem sh.timeline x.group sh.last) q)
      (view_path _ (after_phase v w _ _ _ _ _) refl refl refl refl refl refl refl (writer_path _) (recorded_taken _ _ _) (stored_unwritten _ _ _ _ refl)
      (same_notes Check refl))
  ruling_moves (has_committed i p is) fine =
      let b = (h.invariant.writer w).in_progress (omega arith) in
      let done = instant_set sh.timeline x.ts i (fits.issued (omega arith)) in_timeline in
      let given = completed_given _ b.pending.ts x.group fine (rw (b.ts, done) (upd_same (instant_of sh.timeline) x.ts i ∙ is)) in
      commits b.pending p b.is
      (view_path _ (after_commit v w b.pending) refl refl refl freed_path refl
      (completed_upd sh.timeline _ x.ts i done ∙ ap (upd v.completed x.ts) (ap group_completed is ∙ completed_group x.group))
      refl (writer_path ready)
      (recorded_committed _ _ _
      ∙ ap (commit_recorded u.history w _) b.is
      ∙ commit_group u.history w b.pending _ (λ n. x.group) (ap group_given given))
      (stored_unwritten _ _ _ _ refl)
      (committed_notes ns w Commit x.ts xs sh.timeline h.lengths.notes there i (fits.issued (omega arith)) ts_fits in_timeline
      (own_open (omega arith)) (rw is (le-leb (completed 0) (completed x.group) (omega arith)))))

pub step_moves : (u : Execution) (s : Step) → Consistent u → Move (view_of u) s.writer (view_of (next u (takes_step s)))
unfolding next step step_tested act recorded stored_by
step_moves u s h = by_rule (step_in_range u.state s h.ranged)
  where
    by_rule : in_range (step u.state s).state ≡ true → Move (view_of u) s.writer (view_of (answered_by u s (step u.state s)))
    by_rule =
        simp (cond_iff (λ (r : Answered). in_range r.state ≡ true → Move (view_of u) s.writer (view_of (answered_by u s r))), facts) (
          λ _ _. stays refl,
          λ _. (
            λ _ _. stays refl,
            λ there. ruling_moves u h s.writer there (rules u.state.mode ((view_of u).writer s.writer) s.writer u.state.shared s.action),
          ),
        )
