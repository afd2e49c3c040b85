-- The lines of a text, one by one: what is told of a text is told of the line that is taken off it
-- and of the text behind that line.
use Rattle.std.specs.Prelude.{Ok, Err}
use Prim.Native.Nat.{ℕ, ◌+◌, ◌≤◌, ◌<◌}
use native.Mathlib.Omega.{arith}
use mathlib.Core.Path.{◌≡◌, refl, sym, ap, subst, ◌∙◌}
use mathlib.Core.List.{List, [], ◌∷◌, ◌++◌, append_cancel_right}
use lib.Dec.{eqb, leb}
use lib.ListN.{length, drop, length-drop, drop_of_length-le}
use borrow.Author.Tests.{eqb-true, eqb-false, le-leb, ne_eqb}
use Rattle.octets.specs.Words.{pick, Not}
use Rattle.index.specs.Pins.{Every}
use Rattle.framing.proofs.Tests.{by_test}
use Rattle.entries.specs.Entries.{line_feed}
use Rattle.entries.specs.Form.{InForm}
use Rattle.entries.proofs.Laws.{AboveLineFeed, line_above}
use Rattle.entries.specs.declared.Entry.{Entry}
use Rattle.lists.specs.Line.{LineSaid, says, says_nothing, Taken, taken, not_taken, wholly, take_line, entry_of}
use Rattle.lists.specs.Lists.{text_lines, ListTold, list_ends, entry_then, lines_read}
use Rattle.lists.specs.Laws.{EntryExactlyInForm, NoLineFirst}
use Rattle.lists.proofs.Numbers.{Where}
use Rattle.lists.proofs.InForm.{LineStands, line_stands, line_taken}
use Rattle.lists.specs.declared.ListRefusal.TheVariants.{NotInForm, TableFull}

-- where a line is taken, one in this form stands
pub stands_of : (text : List ℕ) {e : Entry} {rest : List ℕ} → take_line text ≡ taken e rest
    → LineStands text e rest
stands_of text is = subst (Where (LineStands text)) is (line_stands text)

-- nothing is taken where nothing is
abbrev Anything : Taken Entry → Type 0
Anything (taken e rest) = Unit
Anything not_taken = ⊥

pub taken_something : {t : Taken Entry} {e : Entry} {rest : List ℕ} → t ≡ taken e rest
    → t ≡ not_taken → ⊥
taken_something p q = subst Anything (sym p ∙ q) tt

-- no line in this form stands first exactly where none is taken
pub none_first : (text : List ℕ) → take_line text ≡ not_taken → NoLineFirst text
none_first text none line more e so is =
    taken_something (ap take_line is ∙ line_taken more so) none

pub none_taken : (text : List ℕ) → NoLineFirst text → (t : Taken Entry) → take_line text ≡ t
    → take_line text ≡ not_taken
none_taken text none not_taken is = is
none_taken text none (taken e rest) is =
    let stands = stands_of text is in
    absurd (none stands.line rest e stands.in_form_lem stands.stands)

-- a line says an entry exactly when it is in this form
abbrev IsRead : LineSaid → Type 0
IsRead (says e) = Unit
IsRead says_nothing = ⊥

abbrev or_else : Entry → LineSaid → Entry
or_else other (says e) = e
or_else other says_nothing = other

in_form_of : (line : List ℕ) (e : Entry) (t : Taken Entry) → take_line (line ++ (line_feed ∷ [])) ≡ t
    → wholly t ≡ says e → InForm line e
in_form_of line e not_taken is so = absurd (subst IsRead (sym so) tt)
in_form_of line e (taken other (octet ∷ more)) is so = absurd (subst IsRead (sym so) tt)
in_form_of line e (taken other []) is so =
    let stands = stands_of (line ++ (line_feed ∷ [])) is in
    let same : stands.line ≡ line =
    sym (append_cancel_right line stands.line (line_feed ∷ []) stands.stands) in
    subst (λ (l : List ℕ). InForm l e) same
    (subst (λ (x : Entry). InForm stands.line x) (ap (or_else e) so) stands.in_form_lem)

pub entry_exactly_in_form : EntryExactlyInForm
unfolding entry_of
entry_exactly_in_form line e =
    (λ says. in_form_of line e (take_line (line ++ (line_feed ∷ []))) refl says, λ so. rw (line_taken [] so))

-- a text without a line feed, and a line before one
abbrev NoFeed : ℕ → Type 0
NoFeed octet = Not (octet ≡ line_feed)

no_feed : (l : List ℕ) → Every AboveLineFeed l → Every NoFeed l
no_feed [] above = tt
no_feed (octet ∷ l) above = (λ e. omega (arith, above.0), no_feed l above.1)

lines_unclosed : (text : List ℕ) → Every NoFeed text
    → text_lines text ≡ record { closed = []; left = text }
unfolding text_lines
lines_unclosed [] clear = refl
lines_unclosed (octet ∷ more) clear =
    rw (ne_eqb octet line_feed clear.0, lines_unclosed more clear.1)

lines_closed : (line more : List ℕ) → Every NoFeed line
    → text_lines (line ++ (line_feed ∷ more))
    ≡ record { closed = line ∷ (text_lines more).closed; left = (text_lines more).left }
unfolding text_lines
lines_closed [] more clear = refl
lines_closed (octet ∷ line) more clear =
    rw (ne_eqb octet line_feed clear.0, lines_closed line more clear.1)

data Split : List ℕ → Type 0 where
  unclosed : {text : List ℕ} → Every NoFeed text → Split text
  closed : (line more : List ℕ) → Every NoFeed line → Split (line ++ (line_feed ∷ more))

octet_before_lem : (octet : ℕ) → NoFeed octet → {text : List ℕ} → Split text → Split (octet ∷ text)
octet_before_lem octet other {text} (unclosed clear) = unclosed {text = octet ∷ text} (other, clear)
octet_before_lem octet other (closed line more clear) = closed (octet ∷ line) more (other, clear)

split : (text : List ℕ) → Split text
split [] = unclosed tt
split (octet ∷ more) =
    by_test {A = Unit} (λ z. Split (octet ∷ more)) (eqb octet line_feed) {a = tt} {b = tt}
    (λ is. subst (λ (o : ℕ). Split (o ∷ more)) (sym (eqb-true octet line_feed is)) (closed [] more tt))
    (λ other. octet_before_lem octet (eqb-false octet line_feed other) (split more))

-- what is told of a text from some line on
abbrev pub told_from : ℕ → ℕ → List ℕ → ListTold
told_from room read text = lines_read room read (text_lines text).closed (text_lines text).left

pub told_none : (room read : ℕ) → told_from room read [] ≡ list_ends (Ok tt)
unfolding lines_read text_lines
told_none room read = refl

pub told_taken : (room read : ℕ) (text : List ℕ) {e : Entry} {rest : List ℕ}
    → take_line text ≡ taken e rest
    → told_from room read text
    ≡ pick (leb room read) (list_ends (Err TableFull))
    (entry_then e (told_from room (read + 1) rest))
unfolding lines_read
told_taken room read text {e} {rest} is =
    let stands = stands_of text is in
    let clear = no_feed stands.line (line_above stands.in_form_lem) in
    rw (
      stands.stands,
      lines_closed stands.line rest clear,
      (entry_exactly_in_form stands.line e).1 stands.in_form_lem,
    )

pub told_full : (room read : ℕ) (text : List ℕ) {e : Entry} {rest : List ℕ}
    → take_line text ≡ taken e rest → room ≤ read
    → told_from room read text ≡ list_ends (Err TableFull)
told_full room read text is many = told_taken room read text is ∙ rw (le-leb room read many)

not_in_form_lem : (line more : List ℕ) → take_line (line ++ (line_feed ∷ more)) ≡ not_taken
    → (said : LineSaid) → entry_of line ≡ said → said ≡ says_nothing
not_in_form_lem line more none says_nothing is = refl
not_in_form_lem line more none (says e) is =
    absurd (taken_something (line_taken more ((entry_exactly_in_form line e).0 is)) none)

none_of : (text : List ℕ) → length text ≡ 0 → text ≡ []
none_of [] e = refl
none_of (octet ∷ more) e = absurd (omega arith)

told_of_split : (room read : ℕ) {text : List ℕ} → Not (text ≡ []) → take_line text ≡ not_taken
    → Split text → told_from room read text ≡ list_ends (Err (NotInForm (read + 1)))
unfolding lines_read
told_of_split room read {text} some none (unclosed clear) =
    rw (lines_unclosed text clear, ne_eqb (length text) 0 (λ z. some (none_of text z)))
told_of_split room read some none (closed line more clear) =
    rw (lines_closed line more clear, not_in_form_lem line more none (entry_of line) refl)

pub told_not_taken : (room read : ℕ) (text : List ℕ) → Not (text ≡ []) → take_line text ≡ not_taken
    → told_from room read text ≡ list_ends (Err (NotInForm (read + 1)))
told_not_taken room read text some none = told_of_split room read some none (split text)

-- at a place behind the end, and at one inside
pub told_behind : (room read : ℕ) (text : List ℕ) (at : ℕ) → length text ≤ at
    → told_from room read (drop at text) ≡ list_ends (Ok tt)
told_behind room read text at behind = rw (drop_of_length-le text behind) (told_none room read)

pub some_left : (text : List ℕ) (at : ℕ) → at < length text → Not (drop at text ≡ [])
some_left text at inside e =
    let none : length (drop at text) ≡ 0 = ap (λ (l : List ℕ). length l) e in
    omega (arith, length-drop at text)
