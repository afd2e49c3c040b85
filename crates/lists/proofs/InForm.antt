-- A line is taken off a text exactly where one that is in this form stands first, closed by a line
-- feed.
use Rattle.std.specs.Prelude.{Option, Some, None}
use Prim.Native.Nat.{ℕ, ◌≤◌}
use native.Mathlib.Omega.{arith}
use mathlib.Core.Path.{◌≡◌, refl, sym, ap, ◌∙◌}
use mathlib.Core.Bool.{true, false}
use mathlib.Core.List.{List, [], ◌∷◌, ◌++◌, append_assoc}
use lib.ListN.{drop}
use lib.Seq.{drop-drop}
use borrow.Author.Tests.{eq-eqb}
use Rattle.framing.proofs.Tests.{by_test, and_both}
use Rattle.index.specs.Bounds.{most_octets}
use Rattle.entries.specs.Decimal.{Spelling}
use Rattle.entries.specs.Entries.{colon, line_feed, none_text, joined}
use Rattle.entries.specs.Form.{OctetInBounds, TimeInBounds, OctetSaid, TimeSaid, InForm, in_form}
use Rattle.entries.specs.declared.Entry.{Entry}
use Rattle.lists.specs.Line.{taken, next_is, is_digit, take_number, none_next, take_octet, take_time, take_four, take_five, take_line}
use Rattle.lists.specs.declared.line.FirstFour.{FirstFour}
use Rattle.lists.specs.declared.line.LastFive.{LastFive}
use Rattle.lists.proofs.Numbers.{Where, where_then, Stands, next_stands, number_stands, number_taken_lem, no_letter}
use Rattle.products.specs.declared.ForecastTime.{ForecastTime}

-- `none` comes next where it stands, closed
none_stands : (close : ℕ) (text : List ℕ) → none_next close text ≡ true
    → text ≡ none_text ++ (close ∷ drop 5 text)
unfolding none_next
none_stands close text e =
    let first = and_both (next_is 110 text) _ e in
    let second = and_both (next_is 111 (drop 1 text)) _ first.1 in
    let third = and_both (next_is 110 (drop 2 text)) _ second.1 in
    let fourth = and_both (next_is 101 (drop 3 text)) _ third.1 in
    next_stands 110 text first.0
    ∙ ap (λ (l : List ℕ). 110 ∷ l) (next_stands 111 (drop 1 text) second.0 ∙ ap (λ (l : List ℕ). 111 ∷ l) (drop-drop 1 1 text
    ∙ next_stands 110 (drop 2 text) third.0 ∙ ap (λ (l : List ℕ). 110 ∷ l) (drop-drop 1 2 text
    ∙ next_stands 101 (drop 3 text) fourth.0 ∙ ap (λ (l : List ℕ). 101 ∷ l) (drop-drop 1 3 text
    ∙ next_stands close (drop 4 text) fourth.1 ∙ ap (λ (l : List ℕ). close ∷ l) (drop-drop 1 4 text)))))

none_comes : (close : ℕ) (rest : List ℕ) → none_next close (none_text ++ (close ∷ rest)) ≡ true
unfolding none_next next_is
none_comes close rest = eq-eqb close close refl

-- and does not where a number is spelled
no_none : (close : ℕ) {s : List ℕ} {n : ℕ} (tail : List ℕ) → Spelling s n
    → none_next close (s ++ tail) ≡ false
unfolding none_next
no_none close tail so = rw (no_letter 110 (omega arith) tail so)

-- a field that can be none
abbrev OctetStands : ℕ → List ℕ → Option ℕ → List ℕ → Type 0
OctetStands = Stands OctetSaid OctetInBounds

octet_stands : (close : ℕ) (text : List ℕ) → Where (OctetStands close text) (take_octet close text)
unfolding take_octet
octet_stands close text =
    by_test (Where (OctetStands close text)) (none_next close text)
    (λ none. record {
      spelling = none_text;
      says = refl;
      small = tt;
      stands = none_stands close text none;
    })
    λ some. where_then (OctetStands close text) (λ n rest. taken (Some n) rest)
    (take_number 255 close text) (number_stands 255 close text (omega arith))
    λ n rest number. record {
      spelling = number.spelling;
      says = number.says;
      small = number.small;
      stands = number.stands;
    }

octet_taken_lem : (close : ℕ) → is_digit close ≡ false → (s rest : List ℕ) (o : Option ℕ)
    → OctetSaid s o → OctetInBounds o → take_octet close (s ++ (close ∷ rest)) ≡ taken o rest
unfolding take_octet
octet_taken_lem close other s rest (Some n) so small =
    rw (no_none close (close ∷ rest) so, number_taken_lem 255 close other rest so small)
octet_taken_lem close other s rest None so small = rw (so, none_comes close rest)

-- time unit and time
record TimeStands (text : List ℕ) (t : Option ForecastTime) (rest : List ℕ) : Type 0 where
  unit : List ℕ
  time : List ℕ
  says : TimeSaid unit time t
  small : TimeInBounds t
  stands : text ≡ unit ++ (colon ∷ (time ++ (colon ∷ rest)))

time_stands : (text : List ℕ) → Where (TimeStands text) (take_time text)
unfolding take_time
time_stands text =
    by_test (Where (TimeStands text)) (none_next colon text)
    (λ none. by_test (Where (TimeStands text)) (none_next colon (drop 5 text))
    (λ both. record {
      unit = none_text;
      time = none_text;
      says = (refl, refl);
      small = tt;
      stands =
          none_stands colon text none
          ∙ ap (λ (l : List ℕ). none_text ++ (colon ∷ l))
          (none_stands colon (drop 5 text) both
          ∙ ap (λ (l : List ℕ). none_text ++ (colon ∷ l)) (drop-drop 5 5 text));
    })
    (λ one. tt))
    λ some. where_then (TimeStands text) _ (take_number 255 colon text) (number_stands 255 colon text (omega arith))
    λ u rest unit. where_then (TimeStands text) _ (take_number 4294967295 colon rest) (number_stands 4294967295 colon rest (omega arith))
    λ t rest time. record {
      unit = unit.spelling;
      time = time.spelling;
      says = (unit.says, time.says);
      small = (unit.small, time.small);
      stands = unit.stands ∙ ap (λ (l : List ℕ). unit.spelling ++ (colon ∷ l)) time.stands;
    }

time_taken_lem : (unit time rest : List ℕ) (t : Option ForecastTime) → TimeSaid unit time t
    → TimeInBounds t
    → take_time (unit ++ (colon ∷ (time ++ (colon ∷ rest)))) ≡ taken t rest
unfolding take_time is_digit
time_taken_lem unit time rest (Some t) so small =
    rw (
      no_none colon (colon ∷ (time ++ (colon ∷ rest))) so.0,
      number_taken_lem 255 colon refl (time ++ (colon ∷ rest)) so.0 small.0,
      number_taken_lem 4294967295 colon refl rest so.1 small.1,
    )
time_taken_lem unit time rest None so small =
    rw (so.0, so.1, none_comes colon (none_text ++ (colon ∷ rest)), none_comes colon rest)

-- the first four fields
record FourStand (text : List ℕ) (four : FirstFour) (rest : List ℕ) : Type 0 where
  message : List ℕ
  submessage : List ℕ
  offset : List ℕ
  discipline : List ℕ
  message_said : Spelling message four.message
  submessage_said : Spelling submessage four.submessage
  offset_said : Spelling offset four.offset.0
  discipline_said : Spelling discipline four.discipline
  message_small : four.message ≤ most_octets
  submessage_small : four.submessage ≤ most_octets
  offset_small : four.offset.0 ≤ most_octets
  discipline_small : four.discipline ≤ 255
  stand : text
      ≡ message ++ (colon ∷ (submessage ++ (colon ∷ (offset ++ (colon ∷ (discipline ++ (colon ∷ rest)))))))

-- a part behind what stands before it
behind_field : (field : List ℕ) {text rest more : List ℕ} → text ≡ field ++ (colon ∷ rest)
    → rest ≡ more → text ≡ field ++ (colon ∷ more)
behind_field field e q = e ∙ ap (λ (l : List ℕ). field ++ (colon ∷ l)) q

four_stand : (text : List ℕ) → Where (FourStand text) (take_four text)
unfolding take_four
four_stand text =
    let So = FourStand text in
    where_then So _ (take_number most_octets colon text) (number_stands most_octets colon text (omega arith))
    λ m rest message. where_then So _ (take_number most_octets colon rest) (number_stands most_octets colon rest (omega arith))
    λ s rest submessage. where_then So _ (take_number most_octets colon rest) (number_stands most_octets colon rest (omega arith))
    λ o rest offset. where_then So _ (take_number 255 colon rest) (number_stands 255 colon rest (omega arith))
    λ d rest discipline. record {
      message = message.spelling;
      submessage = submessage.spelling;
      offset = offset.spelling;
      discipline = discipline.spelling;
      message_said = message.says;
      submessage_said = submessage.says;
      offset_said = offset.says;
      discipline_said = discipline.says;
      message_small = message.small;
      submessage_small = submessage.small;
      offset_small = offset.small;
      discipline_small = discipline.small;
      stand =
          behind_field message.spelling message.stands
          (behind_field submessage.spelling submessage.stands
          (behind_field offset.spelling offset.stands discipline.stands));
    }

-- the last five
record FiveStand (text : List ℕ) (five : LastFive) (rest : List ℕ) : Type 0 where
  category : List ℕ
  number : List ℕ
  unit : List ℕ
  time : List ℕ
  surface : List ℕ
  category_said : OctetSaid category five.category
  number_said : OctetSaid number five.number
  time_said : TimeSaid unit time five.time
  surface_said : OctetSaid surface five.surface
  category_small : OctetInBounds five.category
  number_small : OctetInBounds five.number
  time_small : TimeInBounds five.time
  surface_small : OctetInBounds five.surface
  stand : text
      ≡ category ++ (colon ∷ (number ++ (colon ∷ (unit ++ (colon ∷ (time ++ (colon ∷ (surface ++ (line_feed ∷ rest)))))))))

five_stand : (text : List ℕ) → Where (FiveStand text) (take_five text)
unfolding take_five
five_stand text =
    let So = FiveStand text in
    where_then So _ (take_octet colon text) (octet_stands colon text)
    λ c rest category. where_then So _ (take_octet colon rest) (octet_stands colon rest)
    λ n rest number. where_then So _ (take_time rest) (time_stands rest)
    λ t rest time. where_then So _ (take_octet line_feed rest) (octet_stands line_feed rest)
    λ f rest surface. record {
      category = category.spelling;
      number = number.spelling;
      unit = time.unit;
      time = time.time;
      surface = surface.spelling;
      category_said = category.says;
      number_said = number.says;
      time_said = time.says;
      surface_said = surface.says;
      category_small = category.small;
      number_small = number.small;
      time_small = time.small;
      surface_small = surface.small;
      stand =
          behind_field category.spelling category.stands
          (behind_field number.spelling number.stands
          (time.stands ∙ ap (λ (l : List ℕ). time.unit ++ (colon ∷ (time.time ++ (colon ∷ l)))) surface.stands));
    }

-- nine fields with a colon between any two, and what stands behind them
joined_then : (m s o d c n u t f more : List ℕ)
    → joined (m ∷ s ∷ o ∷ d ∷ c ∷ n ∷ u ∷ t ∷ f ∷ []) ++ more
    ≡ m ++ (colon ∷ (s ++ (colon ∷ (o ++ (colon ∷ (d ++ (colon ∷ (c ++ (colon ∷ (n ++ (colon ∷ (u ++ (colon ∷ (t ++ (colon ∷ (f ++ more))))))))))))))))
joined_then m s o d c n u t f more = simp append_assoc

-- a line in this form stands first, closed
pub record LineStands (text : List ℕ) (e : Entry) (rest : List ℕ) : Type 0 where
  pub line : List ℕ
  pub in_form_lem : InForm line e
  pub stands : text ≡ line ++ (line_feed ∷ rest)

pub line_stands : (text : List ℕ) → Where (LineStands text) (take_line text)
unfolding take_line
line_stands text =
    let So = LineStands text in
    where_then So _ (take_four text) (four_stand text)
    λ four rest first. where_then So _ (take_five rest) (five_stand rest)
    λ five rest last. record {
      line = joined (first.message ∷ first.submessage ∷ first.offset ∷ first.discipline
          ∷ last.category ∷ last.number ∷ last.unit ∷ last.time ∷ last.surface ∷ []);
      in_form_lem = in_form
          (record {
            message_said = first.message_said;
            submessage_said = first.submessage_said;
            offset_said = first.offset_said;
            discipline_said = first.discipline_said;
            category_said = last.category_said;
            number_said = last.number_said;
            time_said = last.time_said;
            surface_said = last.surface_said;
          })
          (record {
            message = first.message_small;
            submessage = first.submessage_small;
            offset = first.offset_small;
            discipline = first.discipline_small;
            category = last.category_small;
            number = last.number_small;
            time = last.time_small;
            surface = last.surface_small;
          });
      stands =
          first.stand
          ∙ ap (λ (l : List ℕ). first.message ++ (colon ∷ (first.submessage ++ (colon ∷ (first.offset ++ (colon ∷ (first.discipline ++ (colon ∷ l)))))))) last.stand
          ∙ sym (joined_then first.message first.submessage first.offset first.discipline
          last.category last.number last.unit last.time last.surface (line_feed ∷ rest));
    }

-- and a line that is in this form, and closed, is taken
pub line_taken : {line : List ℕ} {e : Entry} (rest : List ℕ) → InForm line e
    → take_line (line ++ (line_feed ∷ rest)) ≡ taken e rest
unfolding take_line take_four take_five is_digit
line_taken {e = e} rest (in_form {m = m} {s = s} {o = o} {d = d} {c = c} {n = n} {u = u} {t = t} {f = f} said small) =
    rw (
      joined_then m s o d c n u t f (line_feed ∷ rest),
      number_taken_lem most_octets colon refl _ said.message_said small.message,
      number_taken_lem most_octets colon refl _ said.submessage_said small.submessage,
      number_taken_lem most_octets colon refl _ said.offset_said small.offset,
      number_taken_lem 255 colon refl _ said.discipline_said small.discipline,
      octet_taken_lem colon refl c _ e.category said.category_said small.category,
      octet_taken_lem colon refl n _ e.number said.number_said small.number,
      time_taken_lem u t _ e.time said.time_said small.time,
      octet_taken_lem line_feed refl f rest e.surface said.surface_said small.surface,
    )
