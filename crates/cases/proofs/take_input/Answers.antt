-- `take_input` is safe: the input buffer has its length. All is written out in the lemma, since antt would else count to that length.
use Rattle.std.proofs.Common.{ℕ, sym}
use Rattle.std.proofs.lemmas.List.{length-replicate}
use Rattle.cases.proofs.take_input.Goals as goal

pub slice_bounds-read_full-end : goal.slice_bounds-read_full-end
slice_bounds-read_full-end g c = sym (length-replicate {0} {A = ℕ} 524288 0)
