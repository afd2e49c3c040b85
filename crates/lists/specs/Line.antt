-- Machinery: what a line says, computed, octet by octet. That it says an entry exactly when it is
-- in this form is `EntryExactlyInForm` (`Laws`).
use Rattle.std.specs.Prelude.{ℕ, ◌+◌, ◌-◌, ◌*◌, Bool, false, ◌&&◌, List, [], ◌∷◌, ◌++◌, eqb, ltb, drop, Option, Some, None}
use Rattle.octets.specs.Words.{pick}
use Rattle.index.specs.Bounds.{most_octets}
use Rattle.entries.specs.Entries.{colon, line_feed}
use Rattle.entries.specs.declared.Entry.{Entry}
use Rattle.lists.specs.declared.line.FirstFour.{FirstFour}
use Rattle.lists.specs.declared.line.LastFive.{LastFive}
use Rattle.products.specs.declared.ForecastTime.{ForecastTime}

-- what is taken off the start of a text, and the text behind it
pub data Taken (A : Type 0) : Type 0 where
  taken : A → List ℕ → Taken A
  not_taken : Taken A

-- then more is taken off what is left
abbrev pub then_take : {A B : Type 0} → Taken A → (A → List ℕ → Taken B) → Taken B
then_take (taken a rest) go = go a rest
then_take not_taken go = not_taken

-- this octet comes next
unfoldable pub next_is : ℕ → List ℕ → Bool
next_is octet [] = false
next_is octet (next ∷ more) = eqb next octet

-- what is taken if this octet closes it; the octet is taken with it
abbrev pub closed_by : {A : Type 0} → ℕ → A → List ℕ → Taken A
closed_by close a text = pick (next_is close text) (taken a (drop 1 text)) not_taken

unfoldable pub is_digit : ℕ → Bool
is_digit octet = pick (ltb octet 48) false (ltb octet 58)

-- digits behind a value, up to what closes them; the value may not pass the most
unfoldable pub take_digits : ℕ → ℕ → ℕ → List ℕ → Taken ℕ
take_digits most close value [] = not_taken
take_digits most close value (octet ∷ more) =
    let longer = value * 10 + (octet - 48) in
    let further = take_digits most close longer more in
    pick (is_digit octet) (pick (ltb most longer) not_taken further)
    (pick (eqb octet close) (taken value more) not_taken)

-- a number: 0 alone, or digits of which the first is not 0
unfoldable pub take_number : ℕ → ℕ → List ℕ → Taken ℕ
take_number most close [] = not_taken
take_number most close (first ∷ more) =
    pick (eqb first 48) (closed_by close 0 more)
    (pick (is_digit first) (take_digits most close (first - 48) more) not_taken)

-- `none` comes next, closed
unfoldable pub none_next : ℕ → List ℕ → Bool
none_next close text =
    next_is 110 text
    && (next_is 111 (drop 1 text)
    && (next_is 110 (drop 2 text) && (next_is 101 (drop 3 text) && next_is close (drop 4 text))))

-- a field that can be none
unfoldable pub take_octet : ℕ → List ℕ → Taken (Option ℕ)
take_octet close text =
    pick (none_next close text) (taken None (drop 5 text))
    (then_take (take_number 255 close text) λ n rest. taken (Some n) rest)

-- time unit and time: both none or neither
unfoldable pub take_time : List ℕ → Taken (Option ForecastTime)
take_time text =
    pick (none_next colon text)
    (pick (none_next colon (drop 5 text)) (taken None (drop 10 text)) not_taken)
    (then_take (take_number 255 colon text) λ unit rest.
    then_take (take_number 4294967295 colon rest) λ time rest.
    taken (Some (record { unit = unit; time = time })) rest)

-- message and submessage number, offset and discipline
unfoldable pub take_four : List ℕ → Taken FirstFour
take_four text =
    then_take (take_number most_octets colon text) λ message rest.
    then_take (take_number most_octets colon rest) λ submessage rest.
    then_take (take_number most_octets colon rest) λ offset rest.
    then_take (take_number 255 colon rest) λ discipline rest.
    taken
    (record {
      message = message;
      submessage = submessage;
      offset = record { 0 = offset };
      discipline = discipline;
    })
    rest

-- category, parameter number, time unit and time, first surface type; a line feed closes the last
unfoldable pub take_five : List ℕ → Taken LastFive
take_five text =
    then_take (take_octet colon text) λ category rest.
    then_take (take_octet colon rest) λ number rest.
    then_take (take_time rest) λ time rest.
    then_take (take_octet line_feed rest) λ surface rest.
    taken (record { category = category; number = number; time = time; surface = surface }) rest

-- an entry of both
abbrev pub entry_of_both : FirstFour → LastFive → Entry
entry_of_both four five =
    record {
      message = four.message;
      submessage = four.submessage;
      offset = four.offset;
      discipline = four.discipline;
      category = five.category;
      number = five.number;
      time = five.time;
      surface = five.surface;
    }

-- a closed line
unfoldable pub take_line : List ℕ → Taken Entry
take_line text =
    then_take (take_four text) λ four rest.
    then_take (take_five rest) λ five rest. taken (entry_of_both four five) rest

-- a line says an entry, or is not in this form
pub data LineSaid : Type 0 where
  says : Entry → LineSaid
  says_nothing : LineSaid

-- what is taken, where nothing is left behind it
abbrev pub wholly : Taken Entry → LineSaid
wholly (taken e []) = says e
wholly (taken e (octet ∷ more)) = says_nothing
wholly not_taken = says_nothing

-- what a line says: of the line with what closes it
unfoldable pub entry_of : List ℕ → LineSaid
entry_of line = wholly (take_line (line ++ (line_feed ∷ [])))

-- What the functions answer: what is taken, and the place in the text behind it.
unfoldable pub number_taken : List ℕ → Option (ℕ × ℕ) → Taken ℕ
number_taken text (Some (n, next)) = taken n (drop next text)
number_taken text None = not_taken

unfoldable pub octet_taken : List ℕ → Option (Option ℕ × ℕ) → Taken (Option ℕ)
octet_taken text (Some (n, next)) = taken n (drop next text)
octet_taken text None = not_taken

unfoldable pub time_taken : List ℕ → Option (Option ForecastTime × ℕ) → Taken (Option ForecastTime)
time_taken text (Some (t, next)) = taken t (drop next text)
time_taken text None = not_taken

unfoldable pub four_taken : List ℕ → Option (FirstFour × ℕ) → Taken FirstFour
four_taken text (Some (fields, next)) = taken fields (drop next text)
four_taken text None = not_taken

unfoldable pub five_taken : List ℕ → Option (LastFive × ℕ) → Taken LastFive
five_taken text (Some (fields, next)) = taken fields (drop next text)
five_taken text None = not_taken

unfoldable pub line_taken : List ℕ → Option (Entry × ℕ) → Taken Entry
line_taken text (Some (e, next)) = taken e (drop next text)
line_taken text None = not_taken
