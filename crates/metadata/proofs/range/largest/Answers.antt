-- `largest` meets its contract: a turn of the loop, and its end.
use mathlib.Core.Path.{sym, ◌∙◌}
use Rattle.metadata.proofs.Largest.{largest_next, largest_end}
use Rattle.metadata.proofs.range.largest.Goals as goal

pub loop-x-preserved : goal.loop-x-preserved
loop-x-preserved c = let e = c.max-most.ensures in rw e (largest_next _ _ _ c.loop-x-test.true ∙ c.loop-x.invariant)

pub returns : goal.returns
returns c = sym (largest_end _ _ _ c.loop-x-test.false) ∙ c.loop-x.invariant
