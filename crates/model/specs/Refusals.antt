-- The answer number of each refusal of a call other than a step.
use Rattle.std.specs.Prelude.{ℕ, Result, Ok, Err}
use Rattle.model.specs.Answers.{taken, no_writer, no_key, wrong_phase, out_of_range, no_room, below_horizon, base_needed, no_horizon}
use Rattle.model.specs.declared.answers.Refusal.{Refusal}
use Rattle.model.specs.declared.answers.Refusal.TheVariants as refusal

abbrev pub refusal_number : Refusal → ℕ
refusal_number refusal.NoWriter = no_writer
refusal_number refusal.NoKey = no_key
refusal_number refusal.WrongPhase = wrong_phase
refusal_number refusal.OutOfRange = out_of_range
refusal_number refusal.NoRoom = no_room
refusal_number refusal.BelowHorizon = below_horizon
refusal_number refusal.BaseNeeded = base_needed
refusal_number refusal.NoHorizon = no_horizon

-- the answer number of such a call: that of its refusal, or 0
abbrev pub answer_of : {A : Type 0} → Result A Refusal → ℕ
answer_of (Ok a) = taken
answer_of (Err e) = refusal_number e
