-- What it means that a request's octets stand inside the input, behind its kind octet, and that its
-- numbers are no larger than their limits; and that the next request starts behind it.
use Rattle.std.specs.Prelude.{Option, Some, None}
use Prim.Native.Nat.{ℕ, ◌<◌, ◌≤◌}
use mathlib.Core.List.{List}
use lib.ListN.{length}
use Rattle.requests.specs.Requests.{Planned}
use Rattle.requests.specs.declared.Request.{Request}
use Rattle.requests.specs.declared.Writing.{Writing}
use Rattle.requests.specs.declared.Request.TheVariants.{Walk, Pull, Copy, Write}
use Rattle.requests.specs.declared.Request.TheVariants.{Fields, Signed, Inventory}
use Rattle.requests.specs.declared.Request.TheVariants.{Offsets, WhenWhere}
use Rattle.requests.specs.declared.Request.TheVariants as request

-- octets from `from` up to `to` stand inside the input and behind the octet at `at`
pub record Inside (s : List ℕ) (at from to : ℕ) : Type 0 where
  pub behind : at < from
  pub ordered : from ≤ to
  pub within : to ≤ length s

-- the octets of a walk do, and its tables are no larger than its limits
pub record Walked (s : List ℕ) (at n m from to : ℕ) : Type 0 where
  pub octets : Inside s at from to
  pub numbers : n ≤ 6144
  pub lines : m ≤ 512

-- the octets of a request with one room do, and that is no larger than its limit
pub record Roomed (most : ℕ) (s : List ℕ) (at d from to : ℕ) : Type 0 where
  pub octets : Inside s at from to
  pub room : d ≤ most

-- the octets of a message to be written do, up to the next request
pub record ToWrite (s : List ℕ) (at : ℕ) (w : Writing) : Type 0 where
  pub planned : Planned s w
  pub later : at < w.to
  pub inside : w.to ≤ length s

-- the next request starts behind the present one, at the input's end at the latest
pub record Goes (s : List ℕ) (at next : ℕ) : Type 0 where
  pub later : at < next
  pub inside : next ≤ length s

-- the octets of a request do; behind one that has numbers alone the next one starts
abbrev pub Stands : List ℕ → ℕ → Option Request → Type 0
Stands s at (Some (Walk n m from to)) = Walked s at n m from to
Stands s at (Some (Pull from to)) = Inside s at from to
Stands s at (Some (Copy d from to)) = Roomed 262144 s at d from to
Stands s at (Some (Write w)) = ToWrite s at w
Stands s at (Some (Fields number from to)) = Inside s at from to
Stands s at (Some (Signed from to)) = Inside s at from to
Stands s at (Some (Inventory d from to)) = Roomed 262144 s at d from to
Stands s at (Some (request.List m from to)) = Roomed 512 s at m from to
Stands s at (Some (Offsets reading template to)) = Goes s at to
Stands s at (Some (WhenWhere reading from to)) = Inside s at from to
Stands s at None = Unit
