-- `writers_in_range` meets its contract: the test of each writer is that of each place.
use mathlib.Core.Path.{sym, ◌∙◌}
use borrow.Author.Rules.{rules}
use borrow.Author.Tests.{tests}
use Rattle.std.proofs.lemmas.Iterator.{YieldsList-from_slice}
use Rattle.std.proofs.lemmas.Iterator.Search.{all_from_yields_List}
use Rattle.model.specs.State.{ready}
use Rattle.model.specs.Range.{writer_in_range, writers_in_range}
use Rattle.metadata.proofs.Parts.{below_list}
use Rattle.metadata.proofs.range.writers_in_range.Goals as goal

pub returns : goal.returns
unfolding writers_in_range
returns c =
    let xs = c.args.writers.now in
    let test = writer_in_range c.args.last in
    all_from_yields_List test _ _ _ c.all.ensures.ran (YieldsList-from_slice xs cc) (λ x b q k. search (rules, tests))
    ∙ sym (below_list test ready xs c.told-writers)
