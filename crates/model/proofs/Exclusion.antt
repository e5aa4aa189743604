-- What follows for locks and modes after any list of events from a fresh table.
--     mode_stays                    the table has the mode that it was made with
--     guard_excludes                while a writer holds the lock that guards a file group, no other writer's step changes what a scan shows of the group
--     lock_excludes                 so in an optimistic table, while a writer holds the table lock, no other writer's step changes any row
--     abort_frees                   an abort by the holder of a lock frees it
--     table_locked_by               where 16 is given, another writer is past the index step
--     group_locked_by               where 19 is given, another writer in the same file group is past the read step
--     groups_apart                  in a pessimistic table two writers past the read step have different file groups
--     never_to_check                no writer comes to phase 5 there
--     never_changed                 and no step is answered 5
--     never_checked                 and a check step, by any writer that exists, is answered 14
--     base_never_needed             and no clean is refused with 33, since nothing is completed in a file group while a writer holds its lock
use Prim.Native.Nat.{ℕ, suc, zero, ◌+◌, ◌<◌}
use mathlib.Core.Path.{◌≡◌, refl, sym, ap, ◌∙◌}
use mathlib.Core.Logic.{◌≢◌}
use mathlib.Core.List.{List}
use mathlib.Core.Bool.{true, false, not, and-false, false≢true}
use mathlib.Core.Option.{some}
use native.Mathlib.Omega.{arith}
use lib.Dec.{eqb}
use borrow.Author.Tests.{eq-eqb, ne_eqb, eqb-true, le-leb, lt-leb}
use Rattle.model.specs.Limits.{writers, keys, groups}
use Rattle.model.specs.Answers.{group_changed, wrong_phase, table_locked, group_locked, base_needed}
use Rattle.model.specs.Modes.{guard, lock_phase}
use Rattle.model.specs.State.{Shared, State, group_of_completed, newest, fresh}
use Rattle.model.specs.Rules.{abort, ruled, act, Answered, writer_of, step_tested, step}
use Rattle.model.specs.Snapshot.{Row, shown, newest_at, rows_at, instant_of}
use Rattle.model.specs.Cleaning.{drops, loses_base, bases_kept, clean}
use Rattle.model.specs.Isolation.{Event, takes_step, cleans_at, Execution, next, beginning, after}
use Rattle.model.specs.declared.Mode.{Mode}
use Rattle.model.specs.declared.Mode.TheVariants.{Optimistic, Pessimistic}
use Rattle.model.specs.declared.Action.TheVariants.{Check, Abort}
use Rattle.model.specs.declared.Step.{Step}
use Rattle.common.proofs.EachBelow.{below_all}
use Rattle.common.proofs.Cases.{cond_iff, by_test, refuted}
use Rattle.common.proofs.Functions.{some_inj, upd_ind}
use Rattle.common.proofs.ListBelow.{same_below}
use Rattle.model.proofs.Modes.{modes_differ, lock_phase_lem, locks_late, locks_early, guard_own}
use Rattle.model.proofs.Locks.{freed_at}
use Rattle.model.proofs.Newest.{newest_same}
use Rattle.model.proofs.CompletedInstants.{group_completed, completed_at, newest_of_lem}
use Rattle.model.proofs.StepLocks.{lock_at, step_keeps_mode, clean_keeps_mode, step_answers}
use Rattle.model.proofs.StepLocks.{changed_optimistic, check_refused}
use Rattle.model.proofs.Executed.{executed_keeps}
use Rattle.model.proofs.Ranged.{ranged}
use Rattle.model.proofs.Sweeping.{dropped_below}
use Rattle.model.proofs.Moves.{View, Move, stays, starts, continues, ends, commits}
use Rattle.model.proofs.Invariant.{CompletedIn, Invariant, one_guarded}
use Rattle.model.proofs.PhaseKept.{phase_keeps_rows}
use Rattle.model.proofs.InvariantKept.{move_keeps}
use Rattle.model.proofs.StepMoves.{view_of, Consistent, step_moves}
use Rattle.model.proofs.Isolation.{reached}

pub mode_stays : (mode : Mode) (es : List Event) → (after mode es).state.mode ≡ mode
unfolding next fresh
mode_stays mode es = executed_keeps (λ u. u.state.mode ≡ mode) stays_so (beginning mode) es refl
  where
    stays_so : (u : Execution) (e : Event) → u.state.mode ≡ mode → (next u e).state.mode ≡ mode
    stays_so u (takes_step s) is = step_keeps_mode u.state s ∙ is
    stays_so u (cleans_at c) is = clean_keeps_mode u.state c ∙ is

-- what file group g shows of key k at timestamp t
abbrev pub shown_at : Shared → ℕ → ℕ → ℕ → List Row
shown_at s t g k = shown s.present s.values (newest_at s t) k g

-- a writer that does not hold the lock of file group g completes nothing in g
completes_nothing : (v n : View) (w g : ℕ) → Invariant v → v.lock (guard v.mode g) ≢ w + 1 → Move v w n
    → (s : ℕ) → n.completed s ≡ some g → v.completed s ≡ some g
completes_nothing v n w g i free (stays e) s q = ap (λ (x : View). x.completed s) (sym e) ∙ q
completes_nothing v n w g i free (starts op unerased at e) s q = ap (λ (x : View). x.completed s) (sym e) ∙ q
completes_nothing v n w g i free (continues p e) s q = ap (λ (x : View). x.completed s) (sym e) ∙ q
completes_nothing v n w g i free (ends e) s q = ap (λ (x : View). x.completed s) (sym e) ∙ q
completes_nothing v n w g i free (commits p at is e) s q =
    let x = v.writer w in
    let held = (i.writer w).guards (omega (arith, lock_phase_lem v.mode)) in
    upd_ind v.completed x.ts (some x.group) (λ s o. o ≡ some g → v.completed s ≡ some g)
    (λ r. let same : x.group ≡ g = some_inj {o = some x.group} refl r in absurd (free (rw same at held))) (λ s ne r. r)
    s (ap (λ (x : View). x.completed s) (sym e) ∙ q)

-- nor changes it the rows of what is completed there
keeps_rows : (v n : View) (w g : ℕ) → Invariant v → Move v w n → (s : ℕ) → CompletedIn v g s → n.cell g s ≡ v.cell g s
keeps_rows v n w g i (stays e) s hit = ap (λ (x : View). x.cell g s) e
keeps_rows v n w g i (starts op unerased at e) s hit = ap (λ (x : View). x.cell g s) e
keeps_rows v n w g i (continues p e) s hit = ap (λ (x : View). x.cell g s) e ∙ phase_keeps_rows v w i p g s hit
keeps_rows v n w g i (ends e) s hit = ap (λ (x : View). x.cell g s) e
keeps_rows v n w g i (commits p at is e) s hit = ap (λ (x : View). x.cell g s) e

shown_stays : (u : Execution) → Consistent u → (s : Step) (g : ℕ) → lock_at u.state (guard u.state.mode g) ≢ s.writer + 1
    → (t k : ℕ) → shown_at (step u.state s).state.shared t g k ≡ shown_at u.state.shared t g k
unfolding next
shown_stays u h s g free t k =
    let v = view_of u in
    let n = view_of (next u (takes_step s)) in
    let move = step_moves u s h in
    let old = newest_of_lem u.state.shared.timeline g t in
    let same =
    newest_same (newest_of_lem (step u.state s).state.shared.timeline g t) old (completes_nothing v n s.writer g h.invariant free move)
    (λ m. (move_keeps v n s.writer h.invariant move).shared.completed g m) in
    rw (same, keeps_rows v n s.writer g h.invariant move (newest u.state.shared.timeline g t) old.hit)

pub guard_excludes : (mode : Mode) (es : List Event) (w g : ℕ) → lock_at (after mode es).state (guard mode g) ≡ w + 1 → (s : Step) → s.writer ≢ w
    → (t k : ℕ) → shown_at (step (after mode es).state s).state.shared t g k ≡ shown_at (after mode es).state.shared t g k
guard_excludes mode es w g held s other =
    shown_stays (after mode es) (reached mode es) s g (rw (mode_stays mode es) (λ e. other (omega arith)))

pub lock_excludes : (es : List Event) (w : ℕ) → lock_at (after Optimistic es).state 0 ≡ w + 1 → (s : Step) → s.writer ≢ w
    → (t : ℕ) → rows_at (step (after Optimistic es).state s).state.shared t ≡ rows_at (after Optimistic es).state.shared t
unfolding rows_at guard
lock_excludes es w held s other t =
    same_below keys _ _
    (λ k _. same_below groups _ _
    (λ g _. shown_stays (after Optimistic es) (reached Optimistic es) s g (rw (mode_stays Optimistic es) (λ e. other (omega arith))) t k))

pub abort_frees : (mode : Mode) (es : List Event) (w p : ℕ) → p < groups → lock_at (after mode es).state p ≡ w + 1
    → lock_at (step (after mode es).state (record { writer = w; action = Abort })).state p ≡ 0
unfolding step step_tested act ruled abort
abort_frees mode es w p small held =
    let u = after mode es in
    let h = reached mode es in
    rw (
      h.ranged,
      lt-leb writers w (omega (arith, (ranged u.state h.ranged).shared.lock p)),
      ne_eqb ((view_of u).writer w).phase 0 (omega (arith, (h.invariant.writer w).holds p held)),
      freed_at w u.state.shared.locks p,
      eq-eqb (lock_at u.state p) (w + 1) held,
    )

-- the holder of the lock that another writer w, in file group g, is refused for
record Holder (v : View) (w g : ℕ) : Type 0 where
  holder : ℕ
  other : holder ≢ w
  past : lock_phase v.mode < (v.writer holder).phase
  same : guard v.mode (v.writer holder).group ≡ guard v.mode g

holder_of : (v : View) → Invariant v → (w g l : ℕ) → v.lock (guard v.mode g) ≡ l → l ≢ 0 → l ≢ w + 1 → Holder v w g
holder_of v i w g zero e held other = absurd (held refl)
holder_of v i w g (suc u) e held other =
    let (past, is) = (i.writer u).holds (guard v.mode g) (omega arith) in
    record { holder = u; other = omega arith; past = past; same = sym is }

-- another writer than w is past the index step
pub record PastIndex (st : State) (w : ℕ) : Type 0 where
  pub writer : ℕ
  pub other : writer ≢ w
  pub past : 4 < (writer_of st writer).phase

-- another writer than w, with its file group, is past the read step
pub record PastRead (st : State) (w : ℕ) : Type 0 where
  pub writer : ℕ
  pub other : writer ≢ w
  pub past : 2 < (writer_of st writer).phase
  pub same : (writer_of st writer).group ≡ (writer_of st w).group

module _ (mode : Mode) (es : List Event) (s : Step) where
  abbrev u : Execution
  u = after mode es

  pub table_locked_by : (step u.state s).answer ≡ table_locked → PastIndex u.state s.writer
  table_locked_by e =
      let b = (step_answers u.state s).1 e in
      let h = holder_of (view_of u) (reached mode es).invariant s.writer _ _ refl b.held b.other in
      record { writer = h.holder; other = h.other; past = omega (arith, h.past, (locks_late u.state.mode).1 b.is) }

  pub group_locked_by : (step u.state s).answer ≡ group_locked → PastRead u.state s.writer
  group_locked_by e =
      let b = (step_answers u.state s).2 e in
      let h = holder_of (view_of u) (reached mode es).invariant s.writer _ _ refl b.held b.other in
      let own = guard_own u.state.mode b.is in
      record {
        writer = h.holder;
        other = h.other;
        past = omega (arith, h.past, (locks_early u.state.mode).1 b.is);
        same = sym (own _) ∙ h.same ∙ own _;
      }

module _ (es : List Event) where
  abbrev st : State
  st = (after Pessimistic es).state

  pub groups_apart : (a b : ℕ) → a ≢ b → 2 < (writer_of st a).phase → 2 < (writer_of st b).phase → (writer_of st a).group ≢ (writer_of st b).group
  groups_apart a b ne p q e =
      let from = (locks_early st.mode).1 (mode_stays Pessimistic es) in
      ne (one_guarded (view_of (after Pessimistic es)) (reached Pessimistic es).invariant a b (omega arith) (omega arith) e)

  pub never_to_check : (w : ℕ) → (writer_of st w).phase ≢ 5
  never_to_check w at = modes_differ (sym (mode_stays Pessimistic es) ∙ ((reached Pessimistic es).invariant.writer w).checks at)

  pub never_changed : (s : Step) → (step st s).answer ≢ group_changed
  never_changed s e = modes_differ (sym (mode_stays Pessimistic es) ∙ changed_optimistic st s e)

  pub never_checked : (w : ℕ) → w < writers → (step st (record { writer = w; action = Check })).answer ≡ wrong_phase
  never_checked = check_refused st (mode_stays Pessimistic es) (reached Pessimistic es).ranged

module _ (es : List Event) (c : ℕ) where
  abbrev locked : Execution
  locked = after Pessimistic es

  -- the base of a writer at phase 3 is the newest of its file group
  base_newest : (w : ℕ) → ((view_of locked).writer w).phase ≡ 3 → drops locked.state.shared.timeline c ((view_of locked).writer w).base ≡ false
  unfolding group_completed
  base_newest w at =
      refuted
      (λ e.
      let timeline = locked.state.shared.timeline in
      let x = (view_of locked).writer w in
      let f = (reached Pessimistic es).invariant.writer w in
      let early = (locks_early locked.state.mode).1 (mode_stays Pessimistic es) in
      let (done, late) = dropped_below timeline c x.base e in
      let issued : x.base ≢ 0 = λ z. omega (arith, rw z at done) in
      let own : completed_at timeline x.base ≡ some (group_of_completed (instant_of timeline x.base)) = rw (le-leb _ _ done) in
      let group = some_inj own ((f.based (omega arith)).hit (omega arith)) in
      let h = newest_of_lem timeline x.group c in
      let above : x.base < newest timeline x.group c = rw group at late in
      omega (arith, f.latest (omega arith) (omega arith) (newest timeline x.group c) (h.hit (omega arith))))

  base_stays : (w : ℕ) → not (loses_base locked.state.shared.timeline c ((view_of locked).writer w)) ≡ true
  base_stays w =
      by_test (eqb ((view_of locked).writer w).phase 3)
      (λ at. rw (base_newest w (eqb-true _ 3 at), and-false (eqb ((view_of locked).writer w).phase 3))) (λ other. rw other)

  pub base_never_needed : (clean locked.state c).answer ≢ base_needed
  unfolding clean bases_kept
  base_never_needed =
      rw (below_all (λ w. not (loses_base locked.state.shared.timeline c ((view_of locked).writer w))) writers (λ w _. base_stays w))
      (simp (cond_iff (λ (a : Answered). a.answer ≢ base_needed))
      (λ _. omega arith, λ _. (λ _. omega arith, λ _. (λ e. absurd (false≢true e), λ _. omega arith))))
