-- `pass` ends: its loop goes on in the log, and what is left of that is the measure.
use Rattle.std.proofs.Common.{length}
use Rattle.speed.proofs.pass.Given as goal

abbrev pub decreases-loop-rest : goal.decreases-loop-rest
decreases-loop-rest g l = length l.rest
