-- One step on the parts of a table: what the public call `act` gives to a caller that keeps a table in parts and has tested its range before.
-- Document 01 has no such call. Where the test given is the table's own, it is a step of document 01 but for what is noted, which
-- `notes::note` leaves (`parts_step` in proofs/Parts.antt).
use Rattle.std.specs.Prelude.{ℕ, ◌<◌, ◌≡◌, Bool, cond, not, ltb, leb}
use Rattle.model.specs.Limits.{writers}
use Rattle.model.specs.Answers.{no_writer, out_of_range}
use Rattle.model.specs.State.{Shared}
use Rattle.model.specs.Rules.{Outcome, outcome, act}
use Rattle.model.specs.declared.Mode.{Mode}
use Rattle.model.specs.declared.Writer.{Writer}
use Rattle.model.specs.declared.Step.{Step}
use Rattle.metadata.specs.Actor.{actor_in_range}
use Rattle.verdicts.specs.Fields.{Fields}
use Rattle.verdicts.specs.Verdicts.{outcome_of}
use Rattle.verdicts.specs.declared.Acted.{Acted}

-- the place of a writer's record: that of its number, or the first for a number past the last
abbrev pub slot_of : ℕ → ℕ
slot_of w = cond (ltb w writers) w 0

-- r is that place, which exists whatever the number
pub record Slot (w r : ℕ) : Type 0 where
  pub is : r ≡ slot_of w
  pub small : r < writers

-- a step on the parts of a table of a mode, where `tested` is the result of its range test and x stands at the writer's place: 17, 10, then the
-- action (document 01, Answer numbers). An actor that is out of range although `tested` says otherwise is answered 17 too
unfoldable pub act_on_parts : Mode → Bool → Writer → Shared → Step → Outcome
act_on_parts mode tested x s p =
    cond (not tested) (outcome out_of_range x s)
    (cond (leb writers p.writer) (outcome no_writer x s)
    (cond (not (actor_in_range s.last x)) (outcome out_of_range x s) (act mode x p.writer s p.action)))

-- a call that gave r, and takes these fields, gives what f says of the shared part before it
abbrev pub OutcomeIs : Acted → Fields → (Shared → Outcome) → Type 0
OutcomeIs r fields f = (s : Shared) → outcome_of r (fields.after s) ≡ f (fields.before s)
