-- Demand 3, at document 01's terms: two files that differ in values octets only are one to every
-- reader, and a copy is as good as its file.
use Prim.Native.Nat.{ℕ, ◌/◌}
use mathlib.Core.Path.{◌≡◌, refl, sym, ap, ◌∙◌}
use mathlib.Core.Bool.{Bool, true, false}
use mathlib.Core.List.{List, [], ◌∷◌, map}
use lib.Dec.{eqb}
use lib.ListN.{length}
use Rattle.octets.specs.Words.{pick}
use Rattle.framing.specs.declared.read.Section.{Section}
use Rattle.index.specs.Numbers.{end_of}
use Rattle.index.specs.Bounds.{unlimited}
use Rattle.index.specs.Walk.{Told, walked}
use Rattle.standing.specs.Tables.{room_of}
use Rattle.walk_numbers.specs.Numbers.{walk_numbers}
use Rattle.pull.specs.Calls.{pull_at, after_calls}
use Rattle.pull.specs.Pull.{hands_out, pulled}
use Rattle.pull.proofs.Sequence.{sequence}
use Rattle.publish.specs.Values.{licensed}
use Rattle.publish.specs.Copy.{public_copy}
use Rattle.index.specs.Decoded.{
  SectionFields,
  of_indicator,
  of_identification,
  of_grid,
  of_product,
  of_representation,
  of_bit_map,
  of_none,
  product_section_of,
  fields_of,
  decoded,
}
use Rattle.blindness.specs.Agree.{Alike}
use Rattle.blindness.specs.Blindness.{One, Public}
use Rattle.blindness.proofs.Spared.{terms_pass}
use Rattle.blindness.proofs.Theorems.{blindness, public_copies}
use Rattle.buttresk.specs.Fields as fields
use Rattle.products.specs.Products.{when_where_of, product_of}
use Rattle.products.specs.declared.templates.TemplateReading.{TemplateReading}
use Rattle.products.specs.declared.Product.{Product}
use Rattle.products.specs.declared.WhenWhere.{WhenWhere}
use Rattle.buttresk.specs.Product.{
  reading_of,
  fields_by,
  product_fields,
  when_where_numbers,
  when_where_by,
  when_where_fields,
}
use Rattle.walk_laws.proofs.WholeWalk.{is_clean}
use Rattle.promises.specs.CFace.{
  FaceFields,
  indicator_face,
  identification_face,
  grid_face,
  product_face,
  representation_face,
  bit_map_face,
  no_face,
  face_of,
  faces_of,
}

-- two files that differ in values octets only are one to every reader
pub one : (f g : List ℕ) → Alike licensed f g → One licensed f g
one f g d = blindness licensed terms_pass.licensed_pass f g d

-- a copy is as good as its file
pub public : (f : List ℕ) → (end_of (walked unlimited f).outcome).outcome ≡ 0
    → Public licensed f (public_copy licensed f)
public f e =
    public_copies licensed terms_pass.licensed_pass f (is_clean (walked unlimited f).outcome e)

pub equal_numbers : (f g : List ℕ) → Alike licensed f g → (rows lines : List ℕ)
    → walk_numbers f rows lines ≡ walk_numbers g rows lines
unfolding walk_numbers
equal_numbers f g d rows lines =
    rw ((one f g d).one_walk (room_of (length rows) (length lines / 15))) refl

pub equal_pulls : (f g : List ℕ) → Alike licensed f g → (call : ℕ)
    → (pull_at f (after_calls call f)).answer ≡ (pull_at g (after_calls call g)).answer
unfolding pulled
equal_pulls f g d call =
    sequence f call
    ∙ ap (λ (t : Told). hands_out 0 t.sections t.outcome call)
    ((one f g d).one_walk unlimited) ∙ sym (sequence g call)

-- time and surfaces of a product, by each reading
abbrev when_where_lem : (TemplateReading → Product) → TemplateReading → WhenWhere
when_where_lem product reading =
    record { time = (product reading).time; surfaces = (product reading).surfaces }

-- the C face's fields are the library's, as numbers, by whatever reading
abbrev shown : ℕ → SectionFields → FaceFields
shown reading (of_indicator i) = indicator_face (fields.indicator_fields i)
shown reading (of_identification i) = identification_face (fields.identification_fields i)
shown reading (of_grid g) = grid_face (fields.grid_fields g)
shown reading (of_product p) =
    product_face (fields_by (reading_of reading) p.definition p.product)
    (when_where_numbers (when_where_by (reading_of reading) (when_where_lem p.product)))
shown reading (of_representation r) = representation_face (fields.representation_fields r)
shown reading (of_bit_map b) = bit_map_face (fields.bit_map_fields b)
shown reading of_none = no_face

module _ (reading : ℕ) where
  -- by a test, on either side
  shown_pick : (t : Bool) (a b : SectionFields) (c d : FaceFields)
      → c ≡ shown reading a → d ≡ shown reading b → pick t c d ≡ shown reading (pick t a b)
  shown_pick true a b c d e f = e
  shown_pick false a b c d e f = f

  shows : (file : List ℕ) (s : Section) → face_of reading file s ≡ shown reading (fields_of file s)
  unfolding face_of fields_of product_section_of product_fields when_where_fields when_where_of product_of
  shows file s =
      shown_pick (eqb s.number 0) _ _ _ _ refl (shown_pick (eqb s.number 1) _ _ _ _ refl
      (shown_pick (eqb s.number 3) _ _ _ _ refl (shown_pick (eqb s.number 4) _ _ _ _ refl
      (shown_pick (eqb s.number 5) _ _ _ _ refl
      (shown_pick (eqb s.number 6) _ _ _ _ refl refl)))))

  all_show : (file : List ℕ) (sections : List Section)
      → map (face_of reading file) sections ≡ map (shown reading) (decoded file sections)
  unfolding decoded
  all_show file [] = refl
  all_show file (s ∷ more) = rw (shows file s, all_show file more) refl

pub equal_faces : (f g : List ℕ) → Alike licensed f g → (reading : ℕ)
    → faces_of reading f ≡ faces_of reading g
equal_faces f g d reading =
    all_show reading f (walked unlimited f).sections
    ∙ ap (map (shown reading)) ((one f g d).one_decoding unlimited)
    ∙ sym (all_show reading g (walked unlimited g).sections)
