-- `total_of` meets its contract. The loop keeps `Summed`: the sum so far, and what is left, are the whole.
use Rattle.std.specs.Prelude.{Ok}
use Prim.Native.Nat.{ℕ, ◌+◌, ◌*◌, ◌≤◌}
use mathlib.Core.Path.{◌≡◌}
use mathlib.Core.List.{List}
use lib.ListN.{drop}
use Rattle.writer.specs.Plan.{parts_of, is_wrong_size, first_at, sections_size, total_of}
use Rattle.writer.proofs.plan.total_of.Given as goal

pub record Summed (plan : List ℕ) (total at : ℕ) : Type 0 where
  pub most : total ≤ 20 + at * 4294967295
  pub sized : first_at is_wrong_size at (parts_of (drop (at * 3) plan)) ≡ Ok tt
  pub same : total + sections_size (parts_of (drop (at * 3) plan)) ≡ total_of (parts_of plan)

abbrev pub invariant-loop-place : goal.invariant-loop-place
invariant-loop-place l = Summed l.plan l.total l.place
