-- `blank` meets its contract: so far zeros are written up to i.
use Rattle.publish.specs.Runs.{WroteRun, zeros}
use Rattle.publish.proofs.blank.Given as goal

abbrev pub invariant-loop-i : goal.invariant-loop-i
invariant-loop-i l = WroteRun zeros l.from l.i l.initial.dest l.dest
