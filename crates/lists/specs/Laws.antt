-- When the reader of a list answers what (02, Ticket 1), by the form of its lines. The statements
-- are proved in proofs/, under their names in small letters.
use Rattle.std.specs.Prelude.{ℕ, ◌+◌, ◌≤◌, ◌≡◌, List, [], ◌∷◌, ◌++◌, length, Ok}
use Rattle.octets.specs.Words.{Not, Iff}
use Rattle.index.specs.Pins.{Every}
use Rattle.entries.specs.Entries.{line_feed, text_of}
use Rattle.entries.specs.Form.{InBounds, InForm, Reads}
use Rattle.entries.specs.declared.Entry.{Entry}
use Rattle.lists.specs.Line.{says, entry_of}
use Rattle.lists.specs.Lists.{ListTold, list_told}
use Rattle.lists.specs.End.{list_end}

-- a line says an entry exactly when it is in this form
abbrev pub EntryExactlyInForm : Type 0
EntryExactlyInForm = (line : List ℕ) (e : Entry) → Iff (entry_of line ≡ says e) (InForm line e)

-- no line in this form, closed by a line feed, stands first in a text
abbrev pub NoLineFirst : List ℕ → Type 0
NoLineFirst text =
    (line more : List ℕ) (e : Entry) → InForm line e → Not (text ≡ line ++ (line_feed ∷ more))

-- the entries read, the number and the detail, with room for so many entries
pub data ListGiven (room : ℕ) (text : List ℕ) : List Entry → ℕ → ℕ → Type 0 where
  all_read : {entries : List Entry} → Reads text entries [] → length entries ≤ room
      → ListGiven room text entries 0 0
  -- the line behind those read
  not_in_form : {entries : List Entry} {rest : List ℕ} → Reads text entries rest
      → length entries ≤ room → Not (rest ≡ []) → NoLineFirst rest
      → ListGiven room text entries 21 (length entries + 1)
  -- one more is in this form, and there is no room for it
  table_full : {entries : List Entry} {rest more : List ℕ} {next : Entry}
      → Reads text entries rest → length entries ≡ room → Reads rest (next ∷ []) more
      → ListGiven room text entries 14 0

-- so a list is read, or refused by 21 or 14; place and offset are 0
pub record ListTells (told : ListTold) (entries : List Entry) (n d : ℕ) : Type 0 where
  pub read : told.entries ≡ entries
  pub number : (list_end told.end).outcome ≡ n
  pub place : (list_end told.end).place ≡ 0
  pub offset : (list_end told.end).offset ≡ 0
  pub detail : (list_end told.end).detail ≡ d

abbrev pub ListExactlyWhen : Type 0
ListExactlyWhen =
    (room : ℕ) (text : List ℕ) (entries : List Entry) (n d : ℕ)
    → Iff (ListTells (list_told room text) entries n d) (ListGiven room text entries n d)

-- what is written of a list within its bounds reads back
abbrev pub ListReadsBack : Type 0
ListReadsBack =
    (room : ℕ) (entries : List Entry) → Every InBounds entries → length entries ≤ room
    → list_told room (text_of entries) ≡ record { entries = entries; end = Ok tt }
