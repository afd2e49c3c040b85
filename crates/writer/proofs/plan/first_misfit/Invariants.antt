-- `first_misfit` meets its contract. The loop keeps `Kept`: what is left, judged after what was read last, is the whole plan judged.
use Prim.Native.Nat.{ℕ, ◌*◌}
use mathlib.Core.Path.{◌≡◌}
use mathlib.Core.List.{List}
use lib.ListN.{drop}
use Rattle.order.specs.declared.Order.{Order}
use Rattle.writer.specs.Plan.{parts_of, misfit_from, misfit}
use Rattle.writer.proofs.plan.first_misfit.Given as goal

pub record Kept (plan : List ℕ) (order : Order) (at : ℕ) : Type 0 where
  pub same : misfit_from order at (parts_of (drop (at * 3) plan)) ≡ misfit (parts_of plan)

abbrev pub invariant-loop-place : goal.invariant-loop-place
invariant-loop-place l = Kept l.plan l.order l.place
