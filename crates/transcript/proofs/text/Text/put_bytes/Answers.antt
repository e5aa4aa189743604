-- `put_bytes` pastes the bytes at the text's place.
use Rattle.std.proofs.Common.{refl}
use Rattle.transcript.proofs.Putting.{part_pasted}
use Rattle.transcript.proofs.text.Text.put_bytes.Goals as goal

pub returns : goal.returns
returns c = record { same_reference = refl; pasted = rw c.copy_from_slice.ensures.after (part_pasted c.args.self.now.buffer.now c.args.self.now.at c.args.bytes.now) }
