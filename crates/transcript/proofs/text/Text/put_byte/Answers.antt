-- `put_byte` pastes the byte at the text's place.
use Rattle.std.proofs.Common.{refl, arith}
use Rattle.common.proofs.Pieces.{element_pasted}
use Rattle.transcript.proofs.text.Text.put_byte.Goals as goal

pub returns : goal.returns
returns c = record { same_reference = refl; pasted = element_pasted _ _ _ (omega arith) }
