-- A table in parts: what a caller keeps in locals over many steps.
use Rattle.std.specs.Prelude.{ℕ, List}
use Rattle.model.specs.State.{Notes, State, with_last, with_locks, with_index, with_timeline}
use Rattle.model.specs.declared.Writer.{Writer}

-- a state with these parts; what is not among them stays
abbrev pub with_parts : State → ℕ → List ℕ → List Writer → List ℕ → List ℕ → Notes → State
with_parts st last locks writers index timeline notes =
    record {
      mode = st.mode;
      horizon = st.horizon;
      shared = with_timeline (with_index (with_locks (with_last st.shared last) locks) index) timeline;
      writers = writers;
      notes = notes;
    }
