-- `count_slice` meets its contract. The loop's invariant: both lists are changed below the key.
use Prim.Native.Nat.{◌+◌}
use mathlib.Core.Bool.{false}
use lib.ListN.{get_or}
use Rattle.model.specs.Limits.{keys}
use Rattle.shown_rows.specs.Inner.{count_with, lowest_with}
use Rattle.common.proofs.Loops.{Changed}
use Rattle.shown_rows.proofs.counting.KeyCounts.count_slice.Given as goal

abbrev pub invariant-loop-key : goal.invariant-loop-key
invariant-loop-key l =
    Changed (λ j. count_with (get_or l.present (l.from + j) false)) keys l.initial.self.shows l.self.shows l.key
    × Changed (λ j. lowest_with (get_or l.present (l.from + j) false) l.group) keys l.initial.self.lowest l.self.lowest l.key
