-- The next section of a file, read and judged (01, "Framing" and "Order"). No table, no line and no
-- count has a say in it.
use Rattle.std.specs.Prelude.{ℕ, true, ◌≡◌, List}
use Rattle.octets.specs.Words.{pick}
use Rattle.framing.specs.Framing.{read_at}
use Rattle.framing.specs.declared.read.Section.{Section}
use Rattle.framing.specs.declared.read.Cursor.{Cursor}
use Rattle.framing.specs.Read.{Read}
use Rattle.framing.specs.Read as read
use Rattle.order.specs.Order.{judged_read, is_between}
use Rattle.order.specs.declared.Order.{Order}
use Rattle.order.specs.declared.Order.TheVariants.{BetweenMessages}
use Rattle.order.specs.declared.Judged.{Judged}
use Rattle.order.specs.declared.Judged.TheVariants as order
use Rattle.reading.specs.declared.Reading.{Reading}
use Rattle.reading.specs.declared.Seen.{Seen}
use Rattle.reading.specs.declared.Seen.TheVariants.{
  Passes,
  Closes,
  Misplaced,
  NoGrid,
  Clean,
  InputOver,
  Unreadable,
}

abbrev pub reading : Cursor → Order → Reading
reading cursor order = record { cursor = cursor; order = order }

-- before a file's first section
abbrev pub start : Reading
start = reading (record { at = record { 0 = 0 }; rest = 0 }) BetweenMessages

-- between messages nothing of a message is to come: so it is of every reading that a walk comes to
abbrev pub Settled : Reading → Type 0
Settled r = is_between r.order ≡ true → r.cursor.rest ≡ 0

-- a well-read section, by what the order says of it
unfoldable pub seen_by_order : Judged → Section → Cursor → Seen
seen_by_order (order.Fits next) s cursor = Passes s (reading cursor next)
seen_by_order order.Closes s cursor = Closes s (reading cursor BetweenMessages)
seen_by_order order.Misplaced s cursor = Misplaced s
seen_by_order order.NoGrid s cursor = NoGrid s

-- the input is over: clean between messages
unfoldable pub over_in : Order → Seen
over_in before = pick (is_between before) Clean InputOver

-- by what is read; at a settled reading between messages that is a section 0
unfoldable pub seen_by_read : Read → Order → Seen
seen_by_read (read.Section s cursor) before = seen_by_order (judged_read before s.number) s cursor
seen_by_read read.Over before = over_in before
seen_by_read (read.Refused fault offset) before = Unreadable fault offset

-- what stands where the reading is
unfoldable pub seen : List ℕ → Reading → Seen
seen file r = seen_by_read (read_at file r.cursor.at.0 r.cursor.rest) r.order
