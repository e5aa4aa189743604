-- `newest_of` meets its contract, by what the hit of the search tells.
use mathlib.Core.Path.{refl, ◌∙◌}
use Rattle.metadata.proofs.SearchLaws.{tells, hit_or_zero}
use Rattle.metadata.proofs.timeline.newest_of.Goals as goal

pub returns : goal.returns
returns c = c.unwrap_or.ensures ∙ hit_or_zero _ _ _ _ (tells _ _ 0 _ c.newest_above.ensures refl)
