-- Two ways to carry out lists of steps and events: one by one, as the definitions have it, and with the range test of steps made once, on the table that
-- the list begins with. An event keeps its result, so both give the same (`ways_same` in proofs/Ways.antt), and the traces are computed in the second.
use Rattle.std.specs.Prelude.{ℕ, Bool}
use mathlib.Core.List.{List, foldl}
use Rattle.model.specs.State.{State}
use Rattle.model.specs.Range.{in_range}
use Rattle.model.specs.Rules.{step_tested}
use Rattle.model.specs.Machine.{Machine, answers_from, commit_machine}
use Rattle.model.specs.Isolation.{Event, takes_step, cleans_at, Execution, answered_by, next, executed}
use Rattle.model.specs.declared.Step.{Step}
use Rattle.run.specs.Runs.{Input, Run, run, run_of}

-- what a list of steps gives on a table, the answers and the table after them; what a list of events makes of an execution; and a run
pub record Way : Type 0 where
  pub answers : State → List Step → List ℕ
  pub after : State → List Step → State
  pub executed : Execution → List Event → Execution
  pub run : Input → State → List ℕ → Run State

-- each step tests the table that it finds
abbrev pub stepwise : Way
stepwise =
    record {
      answers = answers_from commit_machine;
      after = foldl commit_machine.after;
      executed = executed;
      run = run_of;
    }

-- the table's machine, and an event of an execution, where the range test gave `tested`
abbrev pub machine_tested : Bool → Machine State
machine_tested tested = record { answer = λ st s. (step_tested tested st s).answer; after = λ st s. (step_tested tested st s).state }

abbrev pub next_tested : Bool → Execution → Event → Execution
next_tested tested u (takes_step s) = answered_by u s (step_tested tested u.state s)
next_tested tested u (cleans_at c) = next u (cleans_at c)

-- for steps the table that the list begins with is tested, and no other; a clean tests its own
abbrev pub tested_once : Way
tested_once =
    record {
      answers = λ st. answers_from (machine_tested (in_range st)) st;
      after = λ st. foldl (machine_tested (in_range st)).after st;
      executed = λ u. foldl (next_tested (in_range u.state)) u;
      run = λ input st. run (machine_tested (in_range st)) input st;
    }
