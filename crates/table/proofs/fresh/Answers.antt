-- `fresh` meets its contract.
use Rattle.model.specs.State.{fresh}
use Rattle.table.proofs.fresh.Goals as goal

pub returns : goal.returns
unfolding fresh
returns c = rw c.ready.ensures
