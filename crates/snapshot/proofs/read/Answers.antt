-- `read` meets its contract: the first row of the newest slices is that of the definition, by proofs/Snapshots.
use mathlib.Core.List.{[]}
use mathlib.Core.Path.{ap}
use Rattle.model.specs.State.{state_of}
use Rattle.model.specs.Snapshot.{found_numbers}
use Rattle.snapshot.proofs.Snapshots.{in_range_coded, readable, read_found}
use Rattle.snapshot.proofs.read.Goals as goal

pub newest_of_groups-slices-requires : goal.newest_of_groups-slices-requires
newest_of_groups-slices-requires c =
    let st = state_of c.args.t [] [] in
    in_range_coded st (readable st _ (c.in_range.ensures _ _) c.admitted.ensures c.in_ok-admitted.was).fine

pub returns : goal.returns
returns c =
    let h = readable _ _ (c.in_range.ensures _ _) c.admitted.ensures c.in_ok-admitted.was in
    rw c.first_row-found.ensures (ap found_numbers (read_found _ _ c.newest_of_groups-slices.ensures h _ c.if-key.false))
