-- `writer_in_range` meets its contract: a writer that keeps zeros is in range.
use mathlib.Core.Path.{sym, ◌∙◌}
use Rattle.metadata.proofs.Zeros.{zeros_in_range}
use Rattle.metadata.proofs.range.writer_in_range.Goals as goal

pub returns-then-keeps_zeros : goal.returns-then-keeps_zeros
returns-then-keeps_zeros c =
    let a = c.args in
    sym (zeros_in_range a.last a.x (sym c.keeps_zeros.ensures ∙ c.if-keeps_zeros.true))
