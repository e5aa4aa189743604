-- `note_end` meets its contract: a row of zeros is noted.
use mathlib.Core.Path.{ap, ◌∙◌}
use Prim.Native.Nat.{ℕ}
use native.Mathlib.Omega.{arith}
use Rattle.common.proofs.Functions.{get_d_fresh}
use Rattle.model.specs.Limits.{writers}
use Rattle.model.specs.State.{notes}
use Rattle.notes.proofs.RowLoops.{row_same}
use Rattle.notes.proofs.note_end.Goals as goal

pub returns : goal.returns
returns c = λ places. ap (notes places _) (c.note_row.ensures ∙ row_same _ _ _ _ (λ u lt. get_d_fresh {A = ℕ} writers u 0) writers (omega arith))
