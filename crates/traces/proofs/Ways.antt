-- The two ways to carry out lists of steps and events give the same: `ways_same`.
use Rattle.std.specs.Prelude.{ℕ, Bool, true, ◌≡◌, length}
use mathlib.Core.List.{List, [], ◌∷◌, foldl}
use Rattle.std.proofs.Math.Path.{refl, ap, ap₂, fun_ext}
use Rattle.std.proofs.Common.{sym, ◌∙◌}
use Rattle.model.specs.State.{State}
use Rattle.model.specs.Range.{in_range}
use Rattle.model.specs.Rules.{Answered, step_tested, step}
use Rattle.model.specs.Machine.{answers_from, commit_machine}
use Rattle.model.specs.Isolation.{Event, takes_step, cleans_at, Execution, answered_by, next, executed}
use Rattle.model.specs.declared.Step.{Step}
use Rattle.run.specs.Runs.{Input, taken_from, run, run_of}
use Rattle.model.specs.Cleaning.{clean}
use Rattle.model.proofs.Cleaning.{Cleans, is_refused, is_taken, clean_rules, clean_in_range}
use Rattle.run.proofs.TestedRange.{range_stays}
use Rattle.run.proofs.Taken.{run_taken}
use Rattle.traces.specs.Ways.{stepwise, machine_tested, next_tested, tested_once}

module _ (tested : Bool) where
  step_tested_lem : (st : State) (s : Step) → in_range st ≡ tested → step st s ≡ step_tested tested st s
  unfolding step
  step_tested_lem st s e = ap (λ b. step_tested b st s) e

  answers_tested : (st : State) (ss : List Step) → in_range st ≡ tested → answers_from commit_machine st ss ≡ answers_from (machine_tested tested) st ss
  unfolding answers_from
  answers_tested st [] e = refl
  answers_tested st (s ∷ ss) e =
      ap₂ (λ (a : Answered) (ns : List ℕ). a.answer ∷ ns) (step_tested_lem st s e)
      (answers_tested (step st s).state ss (range_stays st s tested e)
      ∙ ap (λ (a : Answered). answers_from (machine_tested tested) a.state ss) (step_tested_lem st s e))

  after_tested : (st : State) (ss : List Step) → in_range st ≡ tested
      → foldl commit_machine.after st ss ≡ foldl (machine_tested tested).after st ss
  after_tested st [] e = refl
  after_tested st (s ∷ ss) e =
      after_tested (step st s).state ss (range_stays st s tested e)
      ∙ ap (λ (a : Answered). foldl (machine_tested tested).after a.state ss) (step_tested_lem st s e)

  clean_tested : (st : State) (c : ℕ) → in_range st ≡ tested → in_range (clean st c).state ≡ tested
  clean_tested st c e = go (clean_rules st c) (λ fine. (clean_in_range st c fine).0)
    where
      go : {a : Answered} → Cleans st c a → (in_range st ≡ true → in_range a.state ≡ true) → in_range a.state ≡ tested
      go (is_refused n p q) _ = e
      go (is_taken fine low high kept) h = h fine ∙ sym fine ∙ e

  executed_tested : (u : Execution) (es : List Event) → in_range u.state ≡ tested → executed u es ≡ foldl (next_tested tested) u es
  unfolding executed next
  executed_tested u [] e = refl
  executed_tested u (takes_step s ∷ es) e =
      executed_tested (next u (takes_step s)) es (range_stays u.state s tested e)
      ∙ ap (λ (a : Answered). foldl (next_tested tested) (answered_by u s a) es) (step_tested_lem u.state s e)
  executed_tested u (cleans_at c ∷ es) e = executed_tested (next u (cleans_at c)) es (clean_tested u.state c e)

run_tested : (input : Input) (st : State) (answers : List ℕ) → run_of input st answers ≡ run (machine_tested (in_range st)) input st answers
unfolding run_of
run_tested input st answers =
    let taken = (taken_from input (length answers) 0).steps in
    run_taken commit_machine input st answers
    ∙ rw (answers_tested _ st taken refl, after_tested _ st taken refl) (sym (run_taken (machine_tested (in_range st)) input st answers))

pub ways_same : stepwise ≡ tested_once
ways_same =
    λ i. record {
      answers = fun_ext (λ st. fun_ext (λ ss. answers_tested _ st ss refl)) i;
      after = fun_ext (λ st. fun_ext (λ ss. after_tested _ st ss refl)) i;
      executed = fun_ext (λ u. fun_ext (λ es. executed_tested _ u es refl)) i;
      run = fun_ext (λ input. fun_ext (λ st. fun_ext (λ answers. run_tested input st answers))) i;
    }
