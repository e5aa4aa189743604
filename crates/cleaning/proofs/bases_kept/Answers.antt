-- `bases_kept` meets its contract: the test of each writer is that of each place.
use mathlib.Core.Bool.{not}
use mathlib.Core.Path.{sym, ◌∙◌}
use borrow.Author.Rules.{rules}
use borrow.Author.Tests.{tests}
use Rattle.std.proofs.lemmas.Iterator.{YieldsList-from_slice}
use Rattle.std.proofs.lemmas.Iterator.Search.{all_from_yields_List}
use Rattle.model.specs.State.{ready}
use Rattle.model.specs.Cleaning.{loses_base, bases_kept}
use Rattle.model.specs.declared.Writer.{Writer}
use Rattle.metadata.proofs.Parts.{below_list}
use Rattle.cleaning.proofs.bases_kept.Goals as goal

pub returns : goal.returns
unfolding bases_kept
returns c =
    let a = c.args in
    let xs = a.writers.now in
    let test = λ (x : Writer). not (loses_base a.timeline.now a.at x) in
    all_from_yields_List test _ _ _ c.all.ensures.ran (YieldsList-from_slice xs cc) (λ x b q k. search (rules, tests))
    ∙ sym (below_list test ready xs c.told-writers)
