-- Where a line's message stands (02, Ticket 7: "the line carries its message's octet offset and
-- total length"), by the file's octets, for any file and any room. The statements are proved in
-- proofs/Spans.antt, under their names in small letters.
use Rattle.std.specs.Prelude.{ℕ, ◌+◌, ◌≡◌, List, Some}
use Rattle.framing.specs.LaidOut.{HasGrib, section_of}
use Rattle.framing.specs.declared.read.Section.{Section}
use Rattle.order.specs.declared.Place.{Place}
use Rattle.index.specs.declared.line.Line.{Line}
use Rattle.index.specs.declared.bounds.Room.{Room}
use Rattle.index.specs.Walk.{walked}
use Rattle.index.specs.Pins.{Every, told_at, ToldAt}
use Rattle.walk_laws.specs.ExactlyWhen.{total}

-- at a line's octet offset "GRIB" stands, where its section 0 is told, and that states the line's
-- total length, however large
pub record CarriesItsMessage (file : List ℕ) (told : List Section) (line : Line) : Type 0 where
  pub grib : HasGrib file line.span.offset.0
  pub zeroth : told_at told line.indicator.0 ≡ section_of 0 line.span.offset.0 16
  pub stated : line.span.total ≡ total file line.span.offset.0

abbrev pub LinesCarryTheirMessage : Type 0
LinesCarryTheirMessage =
    (room : Room) (file : List ℕ)
    → let told = walked room file in
    Every (CarriesItsMessage file told.sections) told.lines

-- a line that is closed at a place: a section 8 is told there, and its four octets end where the
-- message ends
abbrev pub EndsItsMessage : List Section → Line → Type 0
EndsItsMessage told line =
    (p : Place) → line.end ≡ Some p
    → ToldAt told 8 p.0
    × ((told_at told p.0).offset.0 + 4 ≡ line.span.offset.0 + line.span.total)

abbrev pub ClosingLinesEnd : Type 0
ClosingLinesEnd =
    (room : Room) (file : List ℕ)
    → let told = walked room file in
    Every (EndsItsMessage told.sections) told.lines

-- all that is said of it
pub record WhereMessagesStand : Type 0 where
  pub carry : LinesCarryTheirMessage
  pub end : ClosingLinesEnd
