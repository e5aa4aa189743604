-- `put_rows` puts the lines of the rows, one at a time.
use Rattle.std.proofs.Common.{◌/◌, ◌<◌, length, arith}
use Rattle.transcript.specs.Inner.{number_lines}
use Rattle.transcript.proofs.Chunks.{chunk_row}
use Rattle.transcript.proofs.Putting.{starts, part_fits, goes_on, ends}
use Rattle.transcript.proofs.text.Text.put_rows.Goals as goal

pub loop-key-init : goal.loop-key-init
unfolding number_lines
loop-key-init c = starts _ _ _ c.requires

pub put_row-requires : goal.put_row-requires
put_row-requires c =
    let turn : c.loop-key.key-index < length c.args.numbers.now / 3 = omega (arith, c.loop-key-test.true, c.as_chunks.ensures.front_len) in
    rw (chunk_row _ _ _ c.as_chunks.ensures.front turn) (part_fits c.loop-key.invariant turn)

pub loop-key-preserved : goal.loop-key-preserved
loop-key-preserved c =
    let turn : c.loop-key.key-index < length c.args.numbers.now / 3 = omega (arith, c.loop-key-test.true, c.as_chunks.ensures.front_len) in
    goes_on c.loop-key.invariant turn (rw (chunk_row _ _ _ c.as_chunks.ensures.front turn) at c.put_row.ensures)

pub returns : goal.returns
unfolding number_lines
returns c = ends c.loop-key.invariant (omega (arith, c.loop-key-test.false, c.as_chunks.ensures.front_len))
