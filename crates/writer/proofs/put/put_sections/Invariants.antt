-- `put_sections` meets its contract. The loop keeps `Filled`: what is left, put from here on, is the whole body put.
use Prim.Native.Nat.{ℕ, ◌+◌, ◌*◌, ◌≤◌}
use mathlib.Core.Path.{◌≡◌}
use mathlib.Core.List.{List}
use lib.ListN.{length, drop}
use Rattle.writer.specs.Plan.{parts_of, sections_size}
use Rattle.writer.specs.Message.{body_octets}
use Rattle.writer.specs.Put.{written_at}
use Rattle.writer.proofs.Checks.{AllSound}
use Rattle.writer.proofs.put.put_sections.Given as goal

pub record Filled (plan store dest d : List ℕ) (at place : ℕ) : Type 0 where
  pub long : length d ≡ length dest
  pub sound : AllSound (length store) (parts_of (drop (place * 3) plan))
  pub room : at + (sections_size (parts_of (drop (place * 3) plan)) + 4) ≤ length d
  pub same : written_at d at (body_octets (parts_of (drop (place * 3) plan)) store) ≡ written_at dest 16 (body_octets (parts_of plan) store)

abbrev pub invariant-loop-place : goal.invariant-loop-place
invariant-loop-place l = Filled l.plan l.store l.initial.dest l.dest l.at l.place
