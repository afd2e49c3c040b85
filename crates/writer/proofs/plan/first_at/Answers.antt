-- `first_at` meets its contract. The loop keeps `Scanned`, of every test that decides as the code's does.
use Prim.Native.Nat.{◌*◌}
use mathlib.Core.Path.{refl, sym, ◌∙◌}
use Rattle.writer.proofs.Scanned.{on, here, ended}
use Rattle.writer.proofs.Parts.{part_at}
use Rattle.writer.proofs.plan.first_at.Goals as goal

pub loop-place-init : goal.loop-place-init
loop-place-init g c = λ test decides. refl

pub returns-then-faulty : goal.returns-then-faulty
returns-then-faulty g c =
    λ test decides.
    here test _ _ (c.loop-place.invariant test decides) c.loop-place-test.true
    (sym (decides (part_at c.args.plan.now (c.loop-place.place * 3)) _ c.faulty.ensures) ∙ c.if-faulty.true)

pub loop-place-preserved : goal.loop-place-preserved
loop-place-preserved g c =
    λ test decides.
    on test _ _ (c.loop-place.invariant test decides) c.loop-place-test.true
    (sym (decides (part_at c.args.plan.now (c.loop-place.place * 3)) _ c.faulty.ensures) ∙ c.if-faulty.false)

pub returns : goal.returns
returns g c = λ test decides. ended test _ _ (c.loop-place.invariant test decides) c.loop-place-test.false
