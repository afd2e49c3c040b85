-- What a read finds at a place of a file (01, "Framing").
use Rattle.framing.specs.declared.read.Section.{Section as Found}
use Rattle.framing.specs.declared.read.Cursor.{Cursor}
use Rattle.framing.specs.declared.read.Fault.{Fault}
use Rattle.framing.specs.declared.read.Offset.{Offset}

-- a section, and where the next read is made; that the input is over; or a refusal, with the
-- offset that the section would have
pub data Read : Type 0 where
  Section : Found → Cursor → Read
  Over : Read
  Refused : Fault → Offset → Read
