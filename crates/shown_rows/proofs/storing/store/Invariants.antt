-- `store` meets its contract. The loop's invariant is `Putting` of each key's numbers, in the buffer that is lent.
use mathlib.Core.Path.{◌≡◌}
use Rattle.common.proofs.PastedParts as parts
use Rattle.model.specs.Limits.{keys}
use Rattle.shown_rows.proofs.StoredRows.{key_part}
use Rattle.shown_rows.proofs.storing.store.Given as goal

abbrev pub invariant-loop-key : goal.invariant-loop-key
invariant-loop-key l =
    (l.listing.buffer.ghost_name ≡ l.initial.listing.buffer.ghost_name)
    × parts.Putting (key_part l.shown) keys l.initial.listing.buffer.now 0 l.listing.buffer.now l.listing.at l.key
