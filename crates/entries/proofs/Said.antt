-- What one field says: its text is the one that is written, it says one thing, and it holds neither a colon nor a line feed.
use Rattle.std.specs.Prelude.{Option, Some, None}
use Prim.Native.Nat.{ℕ, ◌≤◌, ◌<◌}
use native.Mathlib.Omega.{arith}
use mathlib.Core.Path.{◌≡◌, refl, sym, ap, subst, ◌∙◌}
use mathlib.Core.List.{List}
use Rattle.octets.specs.Words.{Not}
use Rattle.index.specs.Pins.{Every}
use Rattle.entries.specs.Decimal.{Spelling}
use Rattle.entries.specs.Entries.{none_text, octet_text, unit_text, time_text}
use Rattle.entries.specs.Form.{OctetInBounds, TimeInBounds, OctetSaid, TimeSaid}
use Rattle.entries.proofs.Decimal.{decimal_spells, is_decimal, one_number, spelling_every}
use Rattle.products.specs.declared.ForecastTime.{ForecastTime}

-- `none` spells no number
pub none_spells_nothing : {n : ℕ} → Not (Spelling none_text n)
none_spells_nothing so =
    let low : Every (λ (o : ℕ). o < 58) none_text = spelling_every (λ (o : ℕ). o < 58) (λ d l. omega arith) so in
    omega (arith, low.0)

-- what is written of a field says it
pub octet_written : (octet : Option ℕ) → OctetInBounds octet → OctetSaid (octet_text octet) octet
unfolding octet_text
octet_written (Some n) small = decimal_spells n (omega arith)
octet_written None small = refl

pub time_written : (time : Option ForecastTime) → TimeInBounds time → TimeSaid (unit_text time) (time_text time) time
unfolding unit_text time_text
time_written (Some t) small = (decimal_spells t.unit (omega (arith, small.0)), decimal_spells t.time (omega (arith, small.1)))
time_written None small = (refl, refl)

-- and no other text does
pub octet_text_lem : (octet : Option ℕ) {s : List ℕ} → OctetInBounds octet → OctetSaid s octet → s ≡ octet_text octet
unfolding octet_text
octet_text_lem (Some n) small said = is_decimal said (omega arith)
octet_text_lem None small said = said

pub time_text_lem : (time : Option ForecastTime) {u t : List ℕ} → TimeInBounds time → TimeSaid u t time → (u ≡ unit_text time) × (t ≡ time_text time)
unfolding unit_text time_text
time_text_lem (Some t) small said = (is_decimal said.0 (omega (arith, small.0)), is_decimal said.1 (omega (arith, small.1)))
time_text_lem None small said = said

-- a text says one thing
pub one_octet : (octet other : Option ℕ) {s t : List ℕ} → OctetSaid s octet → OctetSaid t other → s ≡ t → octet ≡ other
one_octet (Some m) (Some n) said said' e = ap Some (one_number said said' e)
one_octet (Some m) None said said' e = absurd (none_spells_nothing (subst (λ (l : List ℕ). Spelling l m) (e ∙ said') said))
one_octet None (Some n) said said' e = absurd (none_spells_nothing (subst (λ (l : List ℕ). Spelling l n) (sym e ∙ said) said'))
one_octet None None said said' e = refl

pub one_time : (time other : Option ForecastTime) {u u' t t' : List ℕ} → TimeSaid u t time → TimeSaid u' t' other → u ≡ u' → t ≡ t' → time ≡ other
one_time (Some a) (Some b) said said' e f = λ i.
    Some (record { unit = one_number said.0 said'.0 e i; time = one_number said.1 said'.1 f i })
one_time (Some a) None said said' e f =
    absurd (none_spells_nothing (subst (λ (l : List ℕ). Spelling l a.unit) (e ∙ said'.0) said.0))
one_time None (Some b) said said' e f =
    absurd (none_spells_nothing (subst (λ (l : List ℕ). Spelling l b.unit) (sym e ∙ said.0) said'.0))
one_time None None said said' e f = refl

-- an octet of a field: a digit or a letter of `none`, so neither a colon nor a line feed
abbrev pub InField : ℕ → Type 0
InField octet = (48 ≤ octet) × Not (octet ≡ 58)

pub digits_in_field : {s : List ℕ} {n : ℕ} → Spelling s n → Every InField s
digits_in_field so = spelling_every InField (λ d low. (omega arith, λ e. omega arith)) so

none_in_field : {s : List ℕ} → s ≡ none_text → Every InField s
none_in_field e =
    let letter : (o : ℕ) → 59 ≤ o → InField o = λ o high. (omega arith, λ e. omega arith) in
    let letters : Every InField none_text =
    (letter 110 (omega arith), (letter 111 (omega arith), (letter 110 (omega arith), (letter 101 (omega arith), tt)))) in
    subst (λ (l : List ℕ). Every InField l) (sym e) letters

pub octet_in_field : (octet : Option ℕ) (s : List ℕ) → OctetSaid s octet → Every InField s
octet_in_field (Some n) s said = digits_in_field said
octet_in_field None s said = none_in_field said

pub time_in_fields : (time : Option ForecastTime) (u t : List ℕ) → TimeSaid u t time → Every InField u × Every InField t
time_in_fields (Some given) u t said = (digits_in_field said.0, digits_in_field said.1)
time_in_fields None u t said = (none_in_field said.0, none_in_field said.1)
