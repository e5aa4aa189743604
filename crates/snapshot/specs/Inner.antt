-- What the inner functions of a read ask of each other and promise. `slices` has the timestamp of each file group's slice that counts, or 0 for none.
use Rattle.std.specs.Prelude.{ℕ, ◌≤◌, ◌<◌, Bool, cond, not, ◌≡◌, List, get_or, ltb, Result, Ok, Err}
use Rattle.model.specs.Limits.{groups, timestamps}
use Rattle.model.specs.declared.answers.Refusal.{Refusal}
use Rattle.model.specs.declared.answers.Refusal.TheVariants.{OutOfRange, BelowHorizon}
use Rattle.model.specs.State.{completed, newest}

-- is a read at timestamp t admitted, where `tested` is the result of the range test: refused with 17, then with 32
abbrev pub admission : Bool → ℕ → ℕ → Result Unit Refusal
admission tested t horizon = cond (not tested) (Err OutOfRange) (cond (ltb t horizon) (Err BelowHorizon) (Ok tt))

-- each instant of the timeline is one of the numbers that stand for an instant
abbrev pub Coded : List ℕ → Type 0
Coded timeline = (i : ℕ) → i < timestamps → get_or timeline i 0 < completed groups

-- each file group's slice is one of a timestamp, or none
abbrev pub Slices : List ℕ → Type 0
Slices slices = (g : ℕ) → g < groups → get_or slices g 0 ≤ timestamps

-- the newest slice of each file group at or below timestamp t
pub record NewestSlices (timeline : List ℕ) (t : ℕ) (slices : List ℕ) : Type 0 where
  pub within : Slices slices
  pub is : (g : ℕ) → g < groups → get_or slices g 0 ≡ newest timeline g t
