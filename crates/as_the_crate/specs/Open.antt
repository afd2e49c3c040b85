-- Turning the crate's 0 in the ninth position into "goes on" (02, Ticket 7: "Demand 2 then compares
-- with the Rust after turning its zero into `open`") loses nothing.
use Rattle.std.specs.Prelude.{ℕ, ◌≡◌, List, Option, Some, None}
use Rattle.index.specs.declared.bounds.Room.{Room}
use Rattle.index.specs.Walk.{walked}
use Rattle.index.specs.Pins.{Every}
use Rattle.as_the_crate.specs.Told.{end_in}
use Rattle.order.specs.declared.Place.{Place}

-- the ninth position as the crate has it
abbrev pub ninth_of : Option Place → ℕ
ninth_of None = 0
ninth_of (Some p) = p.0

-- its number is told by what is made of it; and since no section 8 has place 0, what stands behind a
-- line of any walk is told by that number
abbrev pub OpenLosesNothing : Type 0
OpenLosesNothing =
    ((pos : ℕ) → ninth_of (end_in pos) ≡ pos)
    × ((room : Room) (file : List ℕ)
    → Every (λ line. end_in (ninth_of line.end) ≡ line.end) (walked room file).lines)
