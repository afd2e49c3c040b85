-- When the reader of a list answers what, and that what is written reads back.
use Rattle.std.specs.Prelude.{Result, Ok, Err, ⊤}
use Prim.Native.Nat.{ℕ, zero, suc, ◌+◌, ◌≤◌, ◌<◌}
use native.Mathlib.Omega.{arith}
use native.Mathlib.Nat.{add-zero, zero-add}
use mathlib.Core.Path.{◌≡◌, refl, sym, ap, subst, ◌∙◌}
use mathlib.Core.List.{List, [], ◌∷◌, ◌++◌, append-nil, nil≢cons}
use lib.Dec.{eqb}
use lib.ListN.{length, length-append}
use borrow.Author.Tests.{eqb-true, eqb-false, lt-leb}
use Rattle.framing.proofs.Tests.{by_test}
use Rattle.index.specs.Numbers.{end_of}
use Rattle.entries.specs.Entries.{line_feed}
use Rattle.entries.specs.Form.{Reads, nothing, line}
use Rattle.entries.proofs.Laws.{written_says_its_list}
use Rattle.entries.specs.declared.Entry.{Entry}
use Rattle.lists.specs.Line.{Taken, taken, not_taken, take_line}
use Rattle.lists.specs.Lists.{ListTold, list_ends, entry_then, list_told}
use Rattle.lists.specs.End.{list_end}
use Rattle.lists.specs.Laws.{ListGiven, all_read, not_in_form, table_full, ListTells, ListExactlyWhen, ListReadsBack}
use Rattle.lists.proofs.InForm.{line_taken}
use Rattle.lists.proofs.Lines.{
  stands_of,
  none_first,
  none_taken,
  told_from,
  told_none,
  told_taken,
  told_full,
  told_not_taken,
}
use Rattle.lists.specs.declared.ListRefusal.TheVariants.{NotInForm, TableFull}
use Rattle.lists.specs.declared.ListRefusal.{ListRefusal}

-- these entries, and what is told after them
abbrev pub entries_then : List Entry → ListTold → ListTold
entries_then entries later =
    record { entries = entries ++ later.entries; end = later.end }

-- where there is room for the entries of a text, they are told, and then what is behind them
pub reads_on : (room read : ℕ) {text rest : List ℕ} {entries : List Entry} → Reads text entries rest
    → read + length entries ≤ room
    → told_from room read text
    ≡ entries_then entries (told_from room (read + length entries) rest)
reads_on room read {rest = rest} nothing small =
    ap (λ (k : ℕ). entries_then [] (told_from room k rest)) (sym (add-zero read))
reads_on room read {rest = rest} (line {l = l} {more = more} {e = e} {later = later} so reads) small =
    let count : read + 1 + length later ≡ read + length (e ∷ later) = omega arith in
    told_taken room read (l ++ (line_feed ∷ more)) (line_taken more so)
    ∙ rw (lt-leb room read (omega arith))
    (ap (entry_then e) (reads_on room (read + 1) reads (omega arith))
    ∙ ap (λ (k : ℕ). entries_then (e ∷ later) (told_from room k rest)) count)

-- and so the reading ends
pub ends_so : (room : ℕ) {text rest : List ℕ} {entries : List Entry} (end : Result ⊤ ListRefusal)
    → Reads text entries rest → length entries ≤ room
    → told_from room (length entries) rest ≡ list_ends end
    → list_told room text ≡ record { entries = entries; end = end }
unfolding list_told
ends_so room {rest = rest} {entries = entries} end reads small last =
    reads_on room 0 reads (omega arith)
    ∙ ap (λ (k : ℕ). entries_then entries (told_from room k rest)) (zero-add (length entries))
    ∙ ap (entries_then entries) last
    ∙ ap (λ (l : List Entry). record { entries = l; end = end }) (append-nil entries)

no_place : (end : Result ⊤ ListRefusal) → ((list_end end).place ≡ 0) × ((list_end end).offset ≡ 0)
unfolding list_end end_of
no_place (Ok tt) = (refl, refl)
no_place (Err (NotInForm number)) = (refl, refl)
no_place (Err TableFull) = (refl, refl)

tells : (room : ℕ) (text : List ℕ) {entries : List Entry} (end : Result ⊤ ListRefusal)
    → list_told room text ≡ record { entries = entries; end = end }
    → ListTells (list_told room text) entries (list_end end).outcome (list_end end).detail
tells room text end e =
    record {
      read = ap (λ (t : ListTold). t.entries) e;
      number = ap (λ (t : ListTold). (list_end t.end).outcome) e;
      place = ap (λ (t : ListTold). (list_end t.end).place) e ∙ (no_place end).0;
      offset = ap (λ (t : ListTold). (list_end t.end).offset) e ∙ (no_place end).1;
      detail = ap (λ (t : ListTold). (list_end t.end).detail) e;
    }

-- the next line is in this form, and there is no room for it
full : (room : ℕ) {rest more : List ℕ} {next : Entry} → Reads rest (next ∷ []) more
    → told_from room room rest ≡ list_ends (Err TableFull)
full room (line {l = l} {more = more} so reads) =
    told_full room room (l ++ (line_feed ∷ more)) (line_taken more so) (omega arith)

-- what is given is told
told_as_given : (room : ℕ) (text : List ℕ) (entries : List Entry) (n d : ℕ)
    → ListGiven room text entries n d → ListTells (list_told room text) entries n d
unfolding list_end end_of
told_as_given room text entries n d (all_read reads small) =
    tells room text (Ok tt) (ends_so room (Ok tt) reads small (told_none room (length entries)))
told_as_given room text entries n d (not_in_form {rest = rest} reads small some none) =
    let end = Err (NotInForm (length entries + 1)) in
    tells room text end (ends_so room end reads small
    (told_not_taken room (length entries) rest some (none_taken rest none (take_line rest) refl)))
told_as_given room text entries n d (table_full {rest = rest} reads many next) =
    tells room text (Err TableFull) (ends_so room (Err TableFull) reads (omega arith)
    (ap (λ (k : ℕ). told_from room k rest) many ∙ full room next))

-- and something is given of every text
data Given (room : ℕ) (text : List ℕ) : Type 0 where
  given : {entries : List Entry} {n d : ℕ} → ListGiven room text entries n d → Given room text

pub reads_then : {text rest left : List ℕ} {entries later : List Entry} → Reads text entries rest
    → Reads rest later left → Reads text (entries ++ later) left
reads_then nothing next = next
reads_then (line so reads) next = line so (reads_then reads next)

pub one_line : (text : List ℕ) {e : Entry} {rest : List ℕ} → take_line text ≡ taken e rest
    → Reads text (e ∷ []) rest
one_line text {e} {rest} is =
    let stands = stands_of text is in
    subst (λ (l : List ℕ). Reads l (e ∷ []) rest) (sym stands.stands)
    (line stands.in_form_lem nothing)

-- a line that is taken shortens the text
pub shorter : (text : List ℕ) {e : Entry} {rest : List ℕ} → take_line text ≡ taken e rest
    → length rest < length text
shorter text {rest = rest} is =
    let stands = stands_of text is in
    let long : length text ≡ length stands.line + suc (length rest) =
    ap (λ (l : List ℕ). length l) stands.stands ∙ length-append stands.line (line_feed ∷ rest) in
    omega arith

-- by the line that is taken next, if any is
given_next : (room : ℕ) (text : List ℕ) (entries : List Entry) (rest : List ℕ)
    → Reads text entries rest → length entries ≤ room
    → ((e : Entry) (more : List ℕ) → take_line rest ≡ taken e more → length entries < room → Given room text)
    → (t : Taken Entry) → take_line rest ≡ t → Given room text
given_next room text entries [] reads small further t is = given (all_read reads small)
given_next room text entries (octet ∷ more) reads small further not_taken is =
    given (not_in_form reads small (λ e. nil≢cons (sym e)) (none_first (octet ∷ more) is))
given_next room text entries (octet ∷ more) reads small further (taken e rest) is =
    by_test {A = Unit} (λ z. Given room text) (eqb (length entries) room) {a = tt} {b = tt}
    (λ many.
    given (table_full reads (eqb-true (length entries) room many) (one_line (octet ∷ more) is)))
    (λ fewer. further e rest is (omega (arith, eqb-false (length entries) room fewer)))

given_from : (fuel room : ℕ) (text : List ℕ) (entries : List Entry) (rest : List ℕ)
    → Reads text entries rest → length entries ≤ room → length rest ≤ fuel → Given room text
given_from zero room text entries rest reads small few =
    given_next room text entries rest reads small
    (λ e more is less. absurd (omega (arith, shorter rest is))) (take_line rest) refl
given_from (suc fuel) room text entries rest reads small few =
    given_next room text entries rest reads small
    (λ e more is less.
    let longer : length (entries ++ (e ∷ [])) ≤ room = simp length-append (omega arith) in
    given_from fuel room text (entries ++ (e ∷ [])) more (reads_then reads (one_line rest is)) longer
    (omega (arith, shorter rest is)))
    (take_line rest) refl

given_of : (room : ℕ) (text : List ℕ) → Given room text
given_of room text =
    given_from (length text) room text [] text nothing (omega arith) (omega arith)

-- what is told is given
given_as_told : (room : ℕ) (text : List ℕ) (entries : List Entry) (n d : ℕ)
    → ListTells (list_told room text) entries n d → Given room text
    → ListGiven room text entries n d
given_as_told room text entries n d told (given {entries = others} {n = m} {d = c} so) =
    let other = told_as_given room text others m c so in
    subst (λ (k : ℕ). ListGiven room text entries n k) (sym other.detail ∙ told.detail)
    (subst (λ (k : ℕ). ListGiven room text entries k c) (sym other.number ∙ told.number)
    (subst (λ (l : List Entry). ListGiven room text l m c) (sym other.read ∙ told.read) so))

-- a list is read, or refused by 21 or 14, exactly when it is so given
pub list_exactly_when : ListExactlyWhen
list_exactly_when room text entries n d =
    (λ told. given_as_told room text entries n d told (given_of room text), told_as_given room text entries n d)

-- what is written of a list within its bounds reads back
pub list_reads_back : ListReadsBack
list_reads_back room entries so small =
    ends_so room (Ok tt) (written_says_its_list entries so) small (told_none room (length entries))
