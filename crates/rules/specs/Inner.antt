-- What the functions of the rules promise each other.
use Rattle.std.specs.Prelude.{◌*◌, ◌<◌, ◌≤◌}
use Rattle.model.specs.Limits.{keys, groups, timestamps, last_phase}
use Rattle.model.specs.declared.Writer.{Writer}

-- what an actor in range tells, as arithmetic reads it
pub record Bounds (x : Writer) : Type 0 where
  pub key : x.key < keys
  pub group : x.group < groups
  pub ts : x.ts ≤ timestamps
  pub base : x.base ≤ timestamps
  pub started : x.phase ≤ last_phase * x.ts  -- a phase is at most the last, and 0 where the timestamp is
