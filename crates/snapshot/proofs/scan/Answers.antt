-- `scan` meets its contract: refused by the tests, or the rows of the newest slices, by proofs/Snapshots.
use mathlib.Core.List.{[]}
use mathlib.Core.Path.{refl, ◌∙◌}
use Rattle.std.proofs.lemmas.Result.{err_from_is_err_and}
use Rattle.model.specs.State.{state_of}
use Rattle.snapshot.proofs.Snapshots.{in_range_coded, readable, scan_refused, scan_listed}
use Rattle.snapshot.proofs.scan.Goals as goal

pub returns-in_err-admitted : goal.returns-in_err-admitted
returns-in_err-admitted c =
    let st = state_of c.args.t _ _ in
    let p = err_from_is_err_and c.from_residual.result c.from_residual.ensures.1 in
    rw (p.1, p.2) (scan_refused st _ (c.parts_in_range-tested.ensures st refl) c.admitted.ensures _ c.in_err-admitted.was)

pub newest_of_groups-slices-requires : goal.newest_of_groups-slices-requires
newest_of_groups-slices-requires c =
    let st = state_of c.args.t [] [] in
    in_range_coded st (readable st _ (c.parts_in_range-tested.ensures st refl) c.admitted.ensures c.in_ok-admitted.was).fine

pub returns : goal.returns
returns c =
    let st = state_of c.args.t _ _ in
    let h = readable st _ (c.parts_in_range-tested.ensures st refl) c.admitted.ensures c.in_ok-admitted.was in
    c.list.ensures ∙ scan_listed st _ c.newest_of_groups-slices.ensures h _
