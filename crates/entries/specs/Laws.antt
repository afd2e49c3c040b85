-- Laws of the form (02, Ticket 1: "Written and read returns the same fields; each list has one
-- spelling"). The statements are proved in proofs/, under their names in small letters.
use Rattle.std.specs.Prelude.{ℕ, ◌≡◌, List, []}
use Rattle.index.specs.Pins.{Every}
use Rattle.entries.specs.Entries.{text_of}
use Rattle.entries.specs.Form.{InBounds, Reads}
use Rattle.entries.specs.declared.Entry.{Entry}

-- what is written of a list within its bounds is in this form, and says that list
abbrev pub WrittenSaysItsList : Type 0
WrittenSaysItsList =
    (entries : List Entry) → Every InBounds entries → Reads (text_of entries) entries []

-- a text says at most one list
abbrev pub OneList : Type 0
OneList =
    (text : List ℕ) (entries others : List Entry) → Reads text entries [] → Reads text others []
    → entries ≡ others

-- and a list has one text, the one that is written
abbrev pub OneText : Type 0
OneText = (text : List ℕ) (entries : List Entry) → Reads text entries [] → text ≡ text_of entries
