-- `in_range` meets its contract, by that of the test of a table in parts.
use mathlib.Core.Path.{refl}
use Rattle.model.specs.State.{state_of}
use Rattle.metadata.proofs.range.in_range.Goals as goal

pub returns : goal.returns
returns c = let a = c.args in
    λ present values. c.parts_in_range.ensures (state_of a.t present values) refl
