-- `first_at` meets its contract. The loop keeps `Scanned`, of every test that decides as the code's does.
use Rattle.writer.specs.Plan.{Part}
use Rattle.writer.specs.Decides.{Decides}
use Rattle.writer.proofs.Scanned.{Scanned}
use Rattle.writer.proofs.plan.first_at.Given as goal
use mathlib.Core.Bool.{Bool}

abbrev pub invariant-loop-place : goal.invariant-loop-place
invariant-loop-place g l = (test : Part → Bool) → Decides (goal.F-post g l.faulty) test → Scanned test l.plan l.place
