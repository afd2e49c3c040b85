-- What it is to be in this form (02, Ticket 1), said of a text and what it says, and not as a way
-- to read it.
use Rattle.std.specs.Prelude.{ℕ, ◌≤◌, ◌≡◌, List, [], ◌∷◌, ◌++◌, Option, Some, None}
use Rattle.index.specs.Bounds.{most_octets}
use Rattle.entries.specs.Decimal.{Spelling}
use Rattle.entries.specs.Entries.{none_text, joined, line_feed}
use Rattle.entries.specs.declared.Entry.{Entry}
use Rattle.products.specs.declared.ForecastTime.{ForecastTime}

-- a number of one octet, and one of four
abbrev pub InOctet : ℕ → Type 0
InOctet n = n ≤ 255

abbrev pub OctetInBounds : Option ℕ → Type 0
OctetInBounds (Some n) = InOctet n
OctetInBounds None = Unit

abbrev pub TimeInBounds : Option ForecastTime → Type 0
TimeInBounds (Some t) = InOctet t.unit × (t.time ≤ 4294967295)
TimeInBounds None = Unit

-- message and submessage number and offset are at most 2^40, the time fits four octets, the rest
-- one
pub record InBounds (e : Entry) : Type 0 where
  pub message : e.message ≤ most_octets
  pub submessage : e.submessage ≤ most_octets
  pub offset : e.offset.0 ≤ most_octets
  pub discipline : InOctet e.discipline
  pub category : OctetInBounds e.category
  pub number : OctetInBounds e.number
  pub time : TimeInBounds e.time
  pub surface : OctetInBounds e.surface

-- a field that can be none
abbrev pub OctetSaid : List ℕ → Option ℕ → Type 0
OctetSaid text (Some n) = Spelling text n
OctetSaid text None = text ≡ none_text

-- time unit and time are both none or neither
abbrev pub TimeSaid : List ℕ → List ℕ → Option ForecastTime → Type 0
TimeSaid unit time (Some t) = Spelling unit t.unit × Spelling time t.time
TimeSaid unit time None = (unit ≡ none_text) × (time ≡ none_text)

-- nine texts say an entry
pub record Says (message submessage offset discipline category number unit time surface : List ℕ)
    (e : Entry) : Type 0 where
  pub message_said : Spelling message e.message
  pub submessage_said : Spelling submessage e.submessage
  pub offset_said : Spelling offset e.offset.0
  pub discipline_said : Spelling discipline e.discipline
  pub category_said : OctetSaid category e.category
  pub number_said : OctetSaid number e.number
  pub time_said : TimeSaid unit time e.time
  pub surface_said : OctetSaid surface e.surface

-- a line, without its line feed, is in this form and says an entry
pub data InForm : List ℕ → Entry → Type 0 where
  in_form : {m s o d c n u t f : List ℕ} {e : Entry} → Says m s o d c n u t f e → InBounds e
      → InForm (joined (m ∷ s ∷ o ∷ d ∷ c ∷ n ∷ u ∷ t ∷ f ∷ [])) e

-- a text is the lines of these entries, each in this form and closed, and what is left behind them
pub data Reads : List ℕ → List Entry → List ℕ → Type 0 where
  nothing : {rest : List ℕ} → Reads rest [] rest
  line : {l more rest : List ℕ} {e : Entry} {later : List Entry} → InForm l e
      → Reads more later rest → Reads (l ++ (line_feed ∷ more)) (e ∷ later) rest
