-- `keep` meets its contract: so far the file's octets are written up to i.
use Rattle.publish.specs.Runs.{WroteRun, file_octet}
use Rattle.publish.proofs.keep.Given as goal

abbrev pub invariant-loop-i : goal.invariant-loop-i
invariant-loop-i l = WroteRun (file_octet l.file) l.from l.i l.initial.dest l.dest
