-- `print_number` is safe: a code has room in the buffer, and the size that `encode` gives is within it.
use Rattle.std.proofs.Common.{sym, arith}
use Rattle.std.proofs.lemmas.List.{length-take-le}
use Rattle.leb128.proofs.Laws.{size_within}
use Rattle.leb128.proofs.Storing.{stored_within}
use Rattle.uleb128_vectors.proofs.print_number.Goals as goal

pub unwrap-size-requires : goal.unwrap-size-requires
unwrap-size-requires g c = grind (arith, size_within c.args.number)

pub slice_bounds-buffer-end : goal.slice_bounds-buffer-end
slice_bounds-buffer-end g c = stored_within _ _ (rw c.unwrap-size.ensures at c.encode.ensures.stores)

pub slice_bounds-byte-items-end : goal.slice_bounds-byte-items-end
slice_bounds-byte-items-end g c = sym (length-take-le _ _ (stored_within _ _ (rw c.unwrap-size.ensures at c.encode.ensures.stores)))
