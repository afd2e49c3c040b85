-- The samples: walks and copies by computation, and a computed test that two files are alike.
use Rattle.std.specs.Prelude.{Option, Some, None, Ok, Err}
use Prim.Native.Nat.{ℕ, zero, suc, ◌+◌}
use native.Mathlib.Nat.{add-zero, zero-add}
use native.Mathlib.Omega.{arith}
use mathlib.Core.Path.{◌≡◌, refl, sym, ap, ◌∙◌}
use mathlib.Core.Bool.{Bool, true, false, ◌&&◌, ◌||◌, false≢true}
use mathlib.Core.List.{List, [], ◌∷◌}
use lib.Dec.{eqb}
use lib.ListN.{length, get_or}
use borrow.Author.Tests.{eqb-true}
use Rattle.framing.proofs.Tests.{and_both}
use Rattle.octets.specs.BigEndian.{be_at}
use Rattle.sections.specs.Kinds.{kinds, kind_of, least_payload_of, values_of}
use Rattle.sections.specs.BitMap.{bit_map_of}
use Rattle.sections.specs.ReprDefinition.{repr_definition_of}
use Rattle.framing.specs.Search.{says, starts_at, start_among, next_start}
use Rattle.framing.specs.Framing.{indicator_at, end_at, is_cut, payload_at, header_at, message_at, read_at}
use Rattle.framing.specs.Listing.{Listing, listing_from, listing}
use Rattle.order.specs.Order.{judged, completes, is_between}
use Rattle.index.specs.Lines.{in_force}
use Rattle.index.specs.Bounds.{unlimited}
use Rattle.index.specs.Walk.{Told, fitted, closing, by_order, judgement, concluded, walked_from, walked}
use Rattle.publish.specs.Values.{Terms, in_stretch, in_span, carries, licensed, is_value, in_message}
use Rattle.publish.specs.Copy.{stays, blanked_from, public_copy}
use Rattle.blindness.specs.Looks.{changed}
use Rattle.index.specs.Decoded.{own_octets, payload_of, SectionFields, of_indicator, of_identification, of_grid, of_product, of_representation, of_bit_map, of_none, fields_of, decoded}
use Rattle.blindness.specs.Agree.{Agree}
use Rattle.blindness.specs.Samples.{sample_of, sample, SamplesAlike, NothingLess}
use Rattle.sections.specs.declared.repr_definition.ReprDefinition.{ReprDefinition}
use Rattle.sections.specs.declared.bit_map.BitMap.{BitMap}
use Rattle.index.specs.Outcome.{Outcome}

-- two lists of one length, equal at every index where a test fails
unfoldable pub differ_only : (ℕ → Bool) → ℕ → List ℕ → List ℕ → Bool
differ_only p i [] [] = true
differ_only p i [] (y ∷ ys) = false
differ_only p i (x ∷ xs) [] = false
differ_only p i (x ∷ xs) (y ∷ ys) = (p i || eqb x y) && differ_only p (i + 1) xs ys

module _ (p : ℕ → Bool) where
  differ_length : (i : ℕ) (f g : List ℕ) → differ_only p i f g ≡ true → length f ≡ length g
  unfolding differ_only
  differ_length i [] [] e = refl
  differ_length i [] (y ∷ ys) e = absurd (false≢true e)
  differ_length i (x ∷ xs) [] e = absurd (false≢true e)
  differ_length i (x ∷ xs) (y ∷ ys) e =
      ap suc (differ_length (i + 1) xs ys (and_both (p i || eqb x y) (differ_only p (i + 1) xs ys) e).1)

  differ_octet : (i : ℕ) (f g : List ℕ) → differ_only p i f g ≡ true → (k : ℕ) → p (i + k) ≡ false → get_or f k 0 ≡ get_or g k 0
  unfolding differ_only
  differ_octet i [] [] e k h = refl
  differ_octet i [] (y ∷ ys) e k h = absurd (false≢true e)
  differ_octet i (x ∷ xs) [] e k h = absurd (false≢true e)
  differ_octet i (x ∷ xs) (y ∷ ys) e zero h =
      let a = (and_both (p i || eqb x y) (differ_only p (i + 1) xs ys) e).0 in
      let b : p i ≡ false = ap p (sym (add-zero i)) ∙ h in
      eqb-true x y (rw b at a)
  differ_octet i (x ∷ xs) (y ∷ ys) e (suc k) h =
      let a = (and_both (p i || eqb x y) (differ_only p (i + 1) xs ys) e).1 in
      let b : i + 1 + k ≡ i + suc k = omega arith in
      differ_octet (i + 1) xs ys a k (ap p b ∙ h)

-- the test, of values octets
pub agree_of : (terms : Terms) (f g : List ℕ) → differ_only (is_value terms (walked unlimited f).sections) 0 f g ≡ true
    → Agree terms (walked unlimited f).sections f g
agree_of terms f g e =
    record {
      one_length = differ_length (is_value terms (walked unlimited f).sections) 0 f g e;
      one_octet = λ k _ h.
          differ_octet (is_value terms (walked unlimited f).sections) 0 f g e k
          (ap (is_value terms (walked unlimited f).sections) (zero-add k) ∙ h);
    }

-- a template number, a bit-map indicator, 0 of other fields
abbrev template_in : Option ReprDefinition → ℕ
template_in (Some r) = r.template
template_in None = 0

abbrev indicator_in : Option BitMap → ℕ
indicator_in (Some b) = b.indicator
indicator_in None = 0

abbrev number_in : SectionFields → ℕ
number_in (of_representation r) = template_in r
number_in (of_bit_map b) = indicator_in b
number_in (of_indicator i) = 0
number_in (of_identification i) = 0
number_in (of_grid g) = 0
number_in (of_product p) = 0
number_in of_none = 0

-- 0 of a clean end
abbrev ended : Outcome → ℕ
ended (Ok tt) = 0
ended (Err stop) = 1

pub samples_alike : SamplesAlike
unfolding sample_of walked walked_from concluded judgement by_order fitted closing judged completes is_between in_force
    listing listing_from read_at message_at indicator_at end_at header_at payload_at is_cut next_start start_among starts_at says
    be_at least_payload_of values_of kind_of kinds is_value carries in_stretch in_span licensed changed public_copy blanked_from
    stays in_message differ_only own_octets payload_of fields_of decoded bit_map_of repr_definition_of
samples_alike =
    record {
      clean = refl;
      alike = agree_of licensed (sample 1) (sample 2) refl;
      two_files = λ e. let z : ◌≡◌ {A = ℕ} 1 2 = ap (λ (f : List ℕ). get_or f 42 0) e in omega arith;
      copied = refl;
    }

pub nothing_less : NothingLess
unfolding sample_of walked walked_from concluded judgement by_order fitted closing judged completes is_between in_force
    listing listing_from read_at message_at indicator_at end_at header_at payload_at is_cut next_start start_among starts_at says
    be_at least_payload_of values_of kind_of kinds is_value carries in_stretch in_span licensed changed public_copy blanked_from
    stays in_message differ_only own_octets payload_of fields_of decoded bit_map_of repr_definition_of
nothing_less =
    record {
      length_needed = λ e. let z : ◌≡◌ {A = ℕ} 0 9 = ap (λ (l : Listing). length l.sections) e in omega arith;
      edition_leaks = (
        agree_of _ (sample_of 2 0 255 7 1) (sample_of 1 0 255 7 1) refl,
        λ o. let z : ◌≡◌ {A = ℕ} 0 1 = ap (λ (t : Told). ended t.outcome) (o.one_walk unlimited) in omega arith,
      );
      five_leaks = (
        agree_of _ (sample_of 2 0 255 7 1) (sample_of 2 3 255 7 1) refl,
        λ o. let z : ◌≡◌ {A = ℕ} 0 3 = ap (λ (l : List SectionFields). number_in (get_or l 5 of_none)) (o.one_decoding unlimited) in omega arith,
      );
      six_leaks = (
        agree_of _ (sample_of 2 0 255 7 1) (sample_of 2 0 254 7 1) refl,
        λ o. let z : ◌≡◌ {A = ℕ} 255 254 = ap (λ (l : List SectionFields). number_in (get_or l 6 of_none)) (o.one_decoding unlimited) in omega arith,
      );
      seven_leaks = (
        agree_of _ (sample_of 2 0 255 7 1) (sample_of 2 0 255 6 1) refl,
        λ o. let z : ◌≡◌ {A = ℕ} 0 1 = ap (λ (t : Told). ended t.outcome) (o.one_walk unlimited) in omega arith,
      );
      value_in_message = refl;
      value_differs = λ e. let z : ◌≡◌ {A = ℕ} 0 1 = e in omega arith;
      clean_needed = λ e. let z : ◌≡◌ {A = ℕ} 0 1 = ap (λ (t : Told). ended t.outcome) e in omega arith;
    }
