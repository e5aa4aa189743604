-- What a step does to locks and modes, for any table and any step.
--     step_keeps_mode               no step changes the mode, and, by `clean_keeps_mode`, no clean
--     changed_optimistic            5 comes in an optimistic table only
--     table_locked_optimistic       and so does 16
--     group_locked_pessimistic      19 comes in a pessimistic one only
--     taken_locks                   a step that is taken changes no lock but the one that it takes, which is its
--                                   writer's then
--     ending_frees                  whoever ends or commits has no lock afterwards, and every other lock stays
--     check_refused                 in a pessimistic table in range a check step of a writer that exists is refused
--                                   with 14, at every phase
--     read_step_refused             there a read step at phase 2 is refused with 19 where another writer holds the
--                                   lock of its file group
use Prim.Native.Nat.{ℕ, ◌+◌, ◌≤◌, ◌<◌}
use mathlib.Core.Path.{◌≡◌, refl}
use mathlib.Core.Logic.{◌≢◌}
use mathlib.Core.List.{List}
use mathlib.Core.Bool.{true}
use native.Mathlib.Omega.{arith}
use lib.ListN.{get_or}
use borrow.Author.Tests.{eq-eqb, ne_eqb, lt-leb}
use Rattle.model.specs.Limits.{writers}
use Rattle.model.specs.Answers.{taken, committed, group_changed, aborted, wrong_phase, table_locked, group_locked}
use Rattle.model.specs.Modes.{guard, lock_phase, may_check}
use Rattle.model.specs.State.{State}
use Rattle.model.specs.Range.{in_range}
use Rattle.model.specs.Rules.{read_base, check_conflict, ruled, act, Answered, writer_of, step_tested, step}
use Rattle.model.specs.Cleaning.{clean}
use Rattle.model.specs.declared.Mode.{Mode}
use Rattle.model.specs.declared.Mode.TheVariants.{Optimistic, Pessimistic}
use Rattle.model.specs.declared.Action.TheVariants.{Read, Check}
use Rattle.model.specs.declared.Step.{Step}
use Rattle.common.proofs.Cases.{cond_iff, facts, set_ind}
use Rattle.model.proofs.Locks.{freed_at}
use Rattle.model.proofs.Outcomes.{Blocked}
use Rattle.model.proofs.Actions.{act_sound}

-- the lock at a place
abbrev pub lock_at : State → ℕ → ℕ
lock_at st p = get_or st.shared.locks p 0

pub step_keeps_mode : (st : State) (s : Step) → (step st s).state.mode ≡ st.mode
unfolding step step_tested
step_keeps_mode st s = simp (cond_iff (λ (a : Answered). a.state.mode ≡ st.mode)) (λ _. refl, λ _. (λ _. refl, λ _. refl))

pub clean_keeps_mode : (st : State) (c : ℕ) → (clean st c).state.mode ≡ st.mode
unfolding clean
clean_keeps_mode st c =
    simp (cond_iff (λ (a : Answered). a.state.mode ≡ st.mode)) (λ _. refl, λ _. (λ _. refl, λ _. (λ _. refl, λ _. refl)))

module _ (st : State) (s : Step) where
  -- another writer holds the lock that the step takes, in a table of the mode m
  abbrev pub BlockedIn : Mode → Type 0
  BlockedIn m = Blocked st.mode m (writer_of st s.writer) s.writer st.shared

  pub step_answers : ((step st s).answer ≡ group_changed → st.mode ≡ Optimistic)
      × ((step st s).answer ≡ table_locked → BlockedIn Optimistic)
      × ((step st s).answer ≡ group_locked → BlockedIn Pessimistic)
  unfolding step step_tested
  step_answers =
      simp (cond_iff
      (λ (a : Answered).
      (a.answer ≡ group_changed → st.mode ≡ Optimistic) × (a.answer ≡ table_locked → BlockedIn Optimistic)
      × (a.answer ≡ group_locked → BlockedIn Pessimistic))) (
        λ _. (λ e. absurd (omega arith), λ e. absurd (omega arith), λ e. absurd (omega arith)),
        λ _. (
          λ _. (λ e. absurd (omega arith), λ e. absurd (omega arith), λ e. absurd (omega arith)),
          λ _. let h = act_sound _ _ _ _ s.action in (h.changed, h.table, h.group),
        ),
      )

  pub changed_optimistic : (step st s).answer ≡ group_changed → st.mode ≡ Optimistic
  changed_optimistic = step_answers.0

  pub table_locked_optimistic : (step st s).answer ≡ table_locked → st.mode ≡ Optimistic
  table_locked_optimistic e = (step_answers.1 e).is

  pub group_locked_pessimistic : (step st s).answer ≡ group_locked → st.mode ≡ Pessimistic
  group_locked_pessimistic e = (step_answers.2 e).is

  pub taken_locks : (step st s).answer ≡ taken → (p : ℕ) → lock_at (step st s).state p ≢ lock_at st p
      → ((writer_of st s.writer).phase ≡ lock_phase st.mode) × (p ≡ guard st.mode (writer_of st s.writer).group)
      × (lock_at (step st s).state p ≡ s.writer + 1)
  unfolding step step_tested
  taken_locks =
      let x = writer_of st s.writer in
      simp (cond_iff
      (λ (a : Answered).
      a.answer ≡ taken → (p : ℕ) → lock_at a.state p ≢ lock_at st p
      → (x.phase ≡ lock_phase st.mode) × (p ≡ guard st.mode x.group) × (lock_at a.state p ≡ s.writer + 1))) (
        λ _ e. absurd (omega arith),
        λ _. (
          λ _ e. absurd (omega arith),
          λ _ e p.
              rw ((act_sound _ _ _ _ s.action).takes e)
              (simp (
                cond_iff
                    (λ (l : List ℕ).
                    get_or l p 0 ≢ lock_at st p → (x.phase ≡ lock_phase st.mode) × (p ≡ guard st.mode x.group) × (get_or l p 0 ≡ s.writer + 1)),
                facts,
              ) (
                λ at.
                    set_ind
                    (λ q m. m ≢ lock_at st q → (x.phase ≡ lock_phase st.mode) × (q ≡ guard st.mode x.group) × (m ≡ s.writer + 1))
                    st.shared.locks (guard st.mode x.group) (s.writer + 1) 0 (λ _. (at, refl, refl)) (λ q ne. absurd (ne refl)) p,
                λ _ ne. absurd (ne refl),
              )),
        ),
      )

  pub ending_frees : committed ≤ (step st s).answer → (step st s).answer ≤ aborted
      → (p : ℕ) → (lock_at st p ≡ s.writer + 1 → lock_at (step st s).state p ≡ 0) × (lock_at st p ≢ s.writer + 1 → lock_at (step st s).state p ≡ lock_at st p)
  unfolding step step_tested
  ending_frees =
      simp (cond_iff
      (λ (a : Answered).
      committed ≤ a.answer → a.answer ≤ aborted
      → (p : ℕ) → (lock_at st p ≡ s.writer + 1 → lock_at a.state p ≡ 0) × (lock_at st p ≢ s.writer + 1 → lock_at a.state p ≡ lock_at st p))) (
        λ _ _ e. absurd (omega arith),
        λ _. (
          λ _ _ e. absurd (omega arith),
          λ _ above up_to p.
              let w = s.writer in
              rw ((act_sound _ _ _ _ s.action).frees above up_to, freed_at w st.shared.locks p)
              (λ held. rw (eq-eqb (lock_at st p) (w + 1) held), λ other. rw (ne_eqb (lock_at st p) (w + 1) other)),
        ),
      )

module _ (st : State) (pessimistic : st.mode ≡ Pessimistic) (fine : in_range st ≡ true) (w : ℕ) (there : w < writers) where
  pub check_refused : (step st (record { writer = w; action = Check })).answer ≡ wrong_phase
  unfolding step step_tested act ruled check_conflict may_check
  check_refused = rw (fine, lt-leb writers w there, pessimistic)

  pub read_step_refused : (writer_of st w).phase ≡ 2 → lock_at st (writer_of st w).group ≢ 0 → lock_at st (writer_of st w).group ≢ w + 1
      → (step st (record { writer = w; action = Read })).answer ≡ group_locked
  unfolding step step_tested act ruled read_base lock_phase guard
  read_step_refused at held other = rw (fine, lt-leb writers w there, pessimistic, at, ne_eqb _ _ held, ne_eqb _ _ other)
