-- `print_numbers` ends: a number's code has at least one byte, so each turn leaves fewer bytes.
use Rattle.std.proofs.Common.{length, ◌-◌}
use Rattle.uleb128_vectors.proofs.print_numbers.Given as goal

abbrev pub decreases-loop-at : goal.decreases-loop-at
decreases-loop-at g l = length l.bytes - l.at
