-- `largest` meets its contract. The loop's invariant: the larger of `most` and the largest number still ahead is the result.
use Rattle.std.proofs.Common.{◌≡◌, max, drop}
use Rattle.metadata.specs.Largest.{largest}
use Rattle.metadata.proofs.range.largest.Given as goal

abbrev pub invariant-loop-x : goal.invariant-loop-x
invariant-loop-x l = max l.most (largest (drop l.x-index l.numbers)) ≡ largest l.numbers
