-- `parts_step`: on the parts of a table, with the result of its range test, `act_on_parts` put into the state by `updated`, which notes it, is a step.
use Prim.Native.Nat.{ℕ, ◌<◌}
use mathlib.Core.Bool.{Bool, true, false}
use mathlib.Core.Path.{◌≡◌, refl, ap₂}
use native.Mathlib.Omega.{arith}
use lib.ListN.{get_or}
use lib.Seq.{set-get_or}
use lib.Dec.{leb}
use borrow.Author.Tests.{le-leb, leb-false, lt-ltb}
use Rattle.model.specs.Limits.{writers}
use Rattle.model.specs.Answers.{aborted}
use Rattle.model.specs.State.{State, ready}
use Rattle.model.specs.Range.{in_range}
use Rattle.model.specs.Rules.{outcome, Answered, answered, updated, step_tested, step}
use Rattle.model.specs.declared.Action.{Action}
use Rattle.model.specs.declared.Step.{Step}
use Rattle.model.proofs.Notes.{notes_refused}
use Rattle.model.proofs.Ranged.{ranged, writer_in_range_lem}
use Rattle.rules.specs.Parts.{slot_of, act_on_parts}
use Rattle.metadata.specs.Actor.{actor_in_range}

-- in a state in range, each of its writers is an actor in range
actor : (st : State) (w : ℕ) → in_range st ≡ true → w < writers → actor_in_range st.shared.last (get_or st.writers w ready) ≡ true
actor st w e l = let r = ranged st e in rw (le-leb _ _ r.shared.last, writer_in_range_lem _ _ (r.writer w l))

-- a record stored where it stands changes nothing, and a refusal notes nothing
same : (st : State) (w : ℕ) (a : Action) (n : ℕ) → aborted < n → updated st w a (outcome n (get_or st.writers w ready) st.shared) ≡ answered n st
same st w a n above =
    ap₂ (λ ws ns. answered n (record { mode = st.mode; horizon = st.horizon; shared = st.shared; writers = ws; notes = ns }))
    (set-get_or st.writers w ready) (notes_refused st.notes w a n _ st.writers st.shared.timeline above)

module _ (st : State) (s : Step) where
  -- the step on the parts, and its outcome in the whole state
  abbrev on_parts : Answered
  on_parts = updated st (slot_of s.writer) s.action (act_on_parts st.mode (in_range st) (get_or st.writers (slot_of s.writer) ready) st.shared s)

  pub parts_step : on_parts ≡ step st s
  unfolding step step_tested act_on_parts
  parts_step = go (in_range st) (leb writers s.writer) refl refl
    where
      go : (tested past : Bool) → in_range st ≡ tested → leb writers s.writer ≡ past → on_parts ≡ step_tested (in_range st) st s
      go false past e h = rw e (same st _ _ _ (omega arith))
      go true true e h = rw (e, h) (same st _ _ _ (omega arith))
      go true false e h = let l = leb-false writers s.writer h in rw (e, h, lt-ltb _ _ l, actor st s.writer e l)
