-- No table reached from a fresh one gives 17.
--     step_in_range        a step leaves a state in range in range
--     answer_in_range      a step on a state in range is not answered 17
--     fresh_in_range       a fresh state is in range
--     event_in_range       an event leaves a state in range in range
--     reached_in_range     a state reached from a fresh one is in range
--     never_out_of_range   so no step and no clean there is answered 17
use Prim.Native.Nat.{ℕ, ◌<◌, ◌≤◌}
use native.Mathlib.Nat.{le_trans}
use native.Mathlib.Omega.{arith}
use mathlib.Core.Bool.{true, true≢false}
use mathlib.Core.List.{List}
use mathlib.Core.Path.{◌≡◌, refl, sym, ◌∙◌}
use mathlib.Core.Logic.{◌≢◌}
use Rattle.model.specs.Limits.{writers}
use Rattle.model.specs.Answers.{out_of_range}
use Rattle.common.specs.Counting.{each_below}
use Rattle.model.specs.State.{State, ready, fresh}
use Rattle.model.specs.Range.{writers_in_range, all_at_most, in_range}
use Rattle.model.specs.Rules.{Outcome, act, Answered, updated, step_tested, step}
use Rattle.model.specs.Cleaning.{clean}
use Rattle.model.specs.Isolation.{Event, takes_step, cleans_at, Execution, next, after}
use Rattle.model.specs.declared.Mode.{Mode}
use Rattle.model.specs.declared.Writer.{Writer}
use Rattle.model.specs.declared.Action.{Action}
use Rattle.model.specs.declared.Step.{Step}
use Rattle.common.proofs.Cases.{cond_iff, facts, set_ind}
use Rattle.model.proofs.Ranged.{WriterRanged, Ranged, ranged, in_range_lem}
use Rattle.model.proofs.Executed.{executed_keeps}
use Rattle.model.proofs.Actions.{OutcomeRanged, act_sound}
use Rattle.model.proofs.Notes.{notes_ranged}
use Rattle.model.proofs.Cleaning.{clean_in_range}

later_ranged : {last n : ℕ} {x : Writer} → last ≤ n → WriterRanged last x → WriterRanged n x
later_ranged h g =
    record { key = g.key; group = g.group; phase = g.phase; ts = le_trans g.ts h; base = le_trans g.base h; issued = g.issued }

updated_ranged : (st : State) (w : ℕ) (a : Action) (o : Outcome) → w < writers → Ranged st → OutcomeRanged st.shared.last o
    → Ranged (updated st w a o).state
updated_ranged st w a o there r k =
    record {
      horizon = le_trans r.horizon k.grows;
      shared = k.shared;
      writer =
          set_ind (λ v y. v < writers → WriterRanged o.shared.last y) st.writers w o.writer ready
          (λ _. k.writer)
          (λ v l. later_ranged k.grows (r.writer v l));
      notes = notes_ranged st w a o there r k;
    }

module _ (st : State) (s : Step) (e : in_range st ≡ true) where
  pub step_in_range : in_range (step st s).state ≡ true
  unfolding step step_tested
  step_in_range =
      let r : Ranged st = ranged st e in
      simp (cond_iff (λ (a : Answered). in_range a.state ≡ true), facts) (
        λ _. e,
        λ _. (
          λ _. e,
          λ l. let k = (act_sound _ _ _ _ s.action).kept l r.shared (r.writer s.writer l) in
              in_range_lem _ (updated_ranged st s.writer s.action (act _ _ _ _ _) l r k),
        ),
      )

  pub answer_in_range : (step st s).answer ≢ out_of_range
  unfolding step step_tested
  answer_in_range =
      simp (cond_iff (λ (a : Answered). a.answer ≢ out_of_range), facts)
      (λ h. absurd (true≢false (sym e ∙ h)), λ _. (λ _. omega arith, λ _. (act_sound _ _ _ _ s.action).answer))

pub fresh_in_range : (mode : Mode) → in_range (fresh mode) ≡ true
unfolding in_range writers_in_range all_at_most each_below fresh
fresh_in_range mode = refl

pub event_in_range : (u : Execution) (e : Event) → in_range u.state ≡ true → in_range (next u e).state ≡ true
unfolding next
event_in_range u (takes_step s) fine = step_in_range u.state s fine
event_in_range u (cleans_at c) fine = (clean_in_range u.state c fine).0

pub reached_in_range : (mode : Mode) (es : List Event) → in_range (after mode es).state ≡ true
reached_in_range mode es = executed_keeps (λ u. in_range u.state ≡ true) event_in_range _ es (fresh_in_range mode)

pub never_out_of_range : (mode : Mode) (es : List Event)
    → ((s : Step) → (step (after mode es).state s).answer ≢ out_of_range) × ((c : ℕ) → (clean (after mode es).state c).answer ≢ out_of_range)
never_out_of_range mode es =
    let fine = reached_in_range mode es in
    (λ s. answer_in_range (after mode es).state s fine, λ c. (clean_in_range (after mode es).state c fine).1)
