-- The laws of specs/Laws.antt. A line in this form is the one that is written, for each of its fields is. And a line comes apart
-- in one way: no field holds a colon, no line a line feed.
use Prim.Native.Nat.{ℕ, ◌+◌, ◌<◌}
use native.Mathlib.Omega.{arith}
use mathlib.Core.Path.{◌≡◌, refl, sym, ap, ap₂, subst, ◌∙◌}
use mathlib.Core.List.{List, [], ◌∷◌, ◌++◌, append_assoc, append-nil}
use lib.ListN.{length, get_or, drop, length-append}
use Rattle.octets.specs.Words.{Not}
use Rattle.framing.specs.declared.read.Offset.{Offset}
use Rattle.index.specs.Pins.{Every}
use Rattle.index.proofs.Pins.{every_append}
use Rattle.entries.specs.Entries.{colon, line_feed, joined, nine_fields, entry_line, text_of}
use Rattle.entries.specs.Form.{InBounds, Says, InForm, in_form, Reads, nothing, line}
use Rattle.entries.specs.Laws.{WrittenSaysItsList, OneList, OneText}
use Rattle.entries.specs.declared.Entry.{Entry}
use Rattle.entries.proofs.Decimal.{decimal_spells, is_decimal, one_number}
use Rattle.entries.proofs.Said.{
  octet_written,
  time_written,
  octet_text_lem,
  time_text_lem,
  one_octet,
  one_time,
  InField,
  digits_in_field,
  octet_in_field,
  time_in_fields,
}

-- what is written of an entry says it
says_written : (e : Entry) → InBounds e → InForm (joined (nine_fields e)) e
unfolding nine_fields
says_written e b =
    in_form
    (record {
      message_said = decimal_spells e.message (omega (arith, b.message));
      submessage_said = decimal_spells e.submessage (omega (arith, b.submessage));
      offset_said = decimal_spells e.offset.0 (omega (arith, b.offset));
      discipline_said = decimal_spells e.discipline (omega (arith, b.discipline));
      category_said = octet_written e.category b.category;
      number_said = octet_written e.number b.number;
      time_said = time_written e.time b.time;
      surface_said = octet_written e.surface b.surface;
    })
    b

closed : (e : Entry) (more : List ℕ) → joined (nine_fields e) ++ (line_feed ∷ more) ≡ entry_line e ++ more
unfolding entry_line
closed e more = sym (append_assoc (joined (nine_fields e)) (line_feed ∷ []) more)

pub written_says_its_list : WrittenSaysItsList
unfolding text_of
written_says_its_list [] so = nothing
written_says_its_list (e ∷ more) so =
    subst (λ (text : List ℕ). Reads text (e ∷ more) []) (closed e (text_of more))
    (line (says_written e so.0) (written_says_its_list more so.1))

-- a line that says an entry is the one that is written
is_written : {l : List ℕ} {e : Entry} → InForm l e → l ≡ joined (nine_fields e)
unfolding nine_fields
is_written (in_form {e = e} so b) =
    let time = time_text_lem e.time b.time so.time_said in
    rw (
      is_decimal so.message_said (omega (arith, b.message)),
      is_decimal so.submessage_said (omega (arith, b.submessage)),
      is_decimal so.offset_said (omega (arith, b.offset)),
      is_decimal so.discipline_said (omega (arith, b.discipline)),
      octet_text_lem e.category b.category so.category_said,
      octet_text_lem e.number b.number so.number_said,
      time.0,
      time.1,
      octet_text_lem e.surface b.surface so.surface_said,
    )

text_and_rest : {text rest : List ℕ} {entries : List Entry} → Reads text entries rest → text ≡ text_of entries ++ rest
unfolding text_of
text_and_rest nothing = refl
text_and_rest (line {more = more} {rest = rest} {e = e} {later = later} so reads) =
    ap₂ (λ (l m : List ℕ). l ++ (line_feed ∷ m)) (is_written so) (text_and_rest reads)
    ∙ closed e (text_of later ++ rest)
    ∙ sym (append_assoc (entry_line e) (text_of later) rest)

pub one_text : OneText
one_text text entries reads = text_and_rest reads ∙ append-nil (text_of entries)

-- texts without an octet, before that octet, come apart in one way
apart : (So : ℕ → Type 0) (x : ℕ) → Not (So x) → (a b : List ℕ) {c d : List ℕ} → Every So a → Every So b
    → a ++ (x ∷ c) ≡ b ++ (x ∷ d) → (a ≡ b) × (c ≡ d)
apart So x not [] [] p q e = (refl, ap (λ (l : List ℕ). drop 1 l) e)
apart So x not [] (z ∷ b) p q e = absurd (not (subst So (sym (ap (λ (l : List ℕ). get_or l 0 0) e)) q.0))
apart So x not (y ∷ a) [] p q e = absurd (not (subst So (ap (λ (l : List ℕ). get_or l 0 0) e) p.0))
apart So x not (y ∷ a) (z ∷ b) p q e =
    let rest = apart So x not a b p.1 q.1 (ap (λ (l : List ℕ). drop 1 l) e) in
    (ap₂ (λ (o : ℕ) (l : List ℕ). o ∷ l) (ap (λ (l : List ℕ). get_or l 0 0) e) rest.0, rest.1)

-- fields before a colon
field_apart : (a b : List ℕ) {c d : List ℕ} → Every InField a → Every InField b → a ++ (colon ∷ c) ≡ b ++ (colon ∷ d) → (a ≡ b) × (c ≡ d)
field_apart a b p q e = apart InField colon (λ so. so.1 refl) a b p q e

in_fields : {m s o d c n u t f : List ℕ} {e : Entry} → Says m s o d c n u t f e
    → Every (Every InField) (m ∷ s ∷ o ∷ d ∷ c ∷ n ∷ u ∷ t ∷ f ∷ [])
in_fields {c = c} {n = n} {u = u} {t = t} {f = f} {e = e} so =
    let times = time_in_fields e.time u t so.time_said in
    let last : Every (Every InField) (u ∷ t ∷ f ∷ []) =
    (times.0, (times.1, (octet_in_field e.surface f so.surface_said, tt))) in (
      digits_in_field so.message_said,
      (
        digits_in_field so.submessage_said,
        (
          digits_in_field so.offset_said,
          (
            digits_in_field so.discipline_said,
            (octet_in_field e.category c so.category_said, (octet_in_field e.number n so.number_said, last)),
          ),
        ),
      ),
    )

same_offset : (a b : Offset) → a.0 ≡ b.0 → a ≡ b
same_offset a b e = λ i. record { 0 = e i }

-- a line says one entry
one_entry : {l k : List ℕ} {a b : Entry} → InForm l a → InForm k b → l ≡ k → a ≡ b
one_entry (in_form {m = m} {s = s} {o = o} {d = d} {c = c} {n = n} {u = u} {t = t} {f = f} {e = a} so _)
    (in_form {m = m'} {s = s'} {o = o'} {d = d'} {c = c'} {n = n'} {u = u'} {t = t'} {f = f'} {e = b} so' _) e =
    let p₁ = in_fields so in
    let q₁ = in_fields so' in
    let m-s = field_apart m m' p₁.0 q₁.0 e in
    let s-o = field_apart s s' p₁.1.0 q₁.1.0 m-s.1 in
    let p₃ = p₁.1.1 in
    let q₃ = q₁.1.1 in
    let o-d = field_apart o o' p₃.0 q₃.0 s-o.1 in
    let d-c = field_apart d d' p₃.1.0 q₃.1.0 o-d.1 in
    let p₅ = p₃.1.1 in
    let q₅ = q₃.1.1 in
    let c-n = field_apart c c' p₅.0 q₅.0 d-c.1 in
    let n-u = field_apart n n' p₅.1.0 q₅.1.0 c-n.1 in
    let p₇ = p₅.1.1 in
    let q₇ = q₅.1.1 in
    let u-t = field_apart u u' p₇.0 q₇.0 n-u.1 in
    let t-f = field_apart t t' p₇.1.0 q₇.1.0 u-t.1 in
    λ i.
    record {
      message = one_number so.message_said so'.message_said m-s.0 i;
      submessage = one_number so.submessage_said so'.submessage_said s-o.0 i;
      offset = same_offset a.offset b.offset (one_number so.offset_said so'.offset_said o-d.0) i;
      discipline = one_number so.discipline_said so'.discipline_said d-c.0 i;
      category = one_octet a.category b.category so.category_said so'.category_said c-n.0 i;
      number = one_octet a.number b.number so.number_said so'.number_said n-u.0 i;
      time = one_time a.time b.time so.time_said so'.time_said u-t.0 t-f.0 i;
      surface = one_octet a.surface b.surface so.surface_said so'.surface_said t-f.1 i;
    }

-- colons and the octets of fields are above the line feed
abbrev pub AboveLineFeed : ℕ → Type 0
AboveLineFeed octet = line_feed < octet

field_above : (s : List ℕ) → Every InField s → Every AboveLineFeed s
field_above [] so = tt
field_above (o ∷ s) so = (omega (arith, so.0.0), field_above s so.1)

joined_above : (fields : List (List ℕ)) → Every (Every InField) fields → Every AboveLineFeed (joined fields)
joined_above [] so = tt
joined_above (field ∷ []) so = field_above field so.0
joined_above (field ∷ next ∷ more) so =
    every_append AboveLineFeed field (colon ∷ joined (next ∷ more)) (field_above field so.0)
    (omega arith, joined_above (next ∷ more) so.1)

pub line_above : {l : List ℕ} {e : Entry} → InForm l e → Every AboveLineFeed l
line_above (in_form {m} {s} {o} {d} {c} {n} {u} {t} {f} so b) =
    joined_above (m ∷ s ∷ o ∷ d ∷ c ∷ n ∷ u ∷ t ∷ f ∷ []) (in_fields so)

-- a text that has a line is not empty
not_empty : (l more : List ℕ) (x : ℕ) → Not (l ++ (x ∷ more) ≡ [])
not_empty l more x e =
    let long : length l + length (x ∷ more) ≡ 0 = sym (length-append l (x ∷ more)) ∙ ap length e in
    omega arith

lists_apart : {text other rest left : List ℕ} {entries others : List Entry} → Reads text entries rest → Reads other others left
    → text ≡ other → rest ≡ [] → left ≡ [] → entries ≡ others
lists_apart nothing nothing e none none' = refl
lists_apart nothing (line {l = l} {more = more} so reads) e none none' = absurd (not_empty l more line_feed (sym e ∙ none))
lists_apart (line {l = l} {more = more} so reads) nothing e none none' = absurd (not_empty l more line_feed (e ∙ none'))
lists_apart (line {l = l} so reads) (line {l = k} so' reads') e none none' =
    let split = apart AboveLineFeed line_feed (λ z. omega arith) l k (line_above so) (line_above so') e in
    ap₂ (λ (a : Entry) (more : List Entry). a ∷ more) (one_entry so so' split.0) (lists_apart reads reads' split.1 none none')

pub one_list : OneList
one_list text entries others reads reads' = lists_apart reads reads' refl refl refl
