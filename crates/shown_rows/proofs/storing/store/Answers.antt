-- `store` meets its contract, by the laws of `Putting`.
use native.Mathlib.Omega.{arith}
use mathlib.Core.Path.{◌≡◌, refl, ◌∙◌}
use Rattle.common.proofs.PastedParts as parts
use Rattle.common.specs.Pasting.{pasted}
use Rattle.model.specs.Snapshot.{numbers}
use Rattle.shown_rows.specs.Inner.{rows_shown}
use Rattle.shown_rows.proofs.StoredRows.{all_begin, all_key, all_end}
use Rattle.shown_rows.proofs.storing.store.Goals as goal

pub loop-key-init : goal.loop-key-init
loop-key-init c = (refl, all_begin _ c.requires)

pub store_key-requires : goal.store_key-requires
store_key-requires c = all_key _ _ c.loop-key.invariant.1 c.requires c.loop-key-test.true

pub loop-key-preserved : goal.loop-key-preserved
loop-key-preserved c = (
  c.store_key.ensures.same_reference ∙ c.loop-key.invariant.0,
  parts.goes_on c.loop-key.invariant.1 c.loop-key-test.true c.store_key.ensures.pasted,
)

pub returns : goal.returns
returns c =
    let stored : c.loop-key.listing.buffer.now ≡ pasted c.args.buffer.now 0 (numbers (rows_shown c.args.shown.now))
    = all_end c.args.shown.now c.loop-key.listing c.loop-key.invariant.1 c.loop-key-test.false in
    grind (arith, stored)
