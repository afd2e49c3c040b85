-- The decoded fields of a listed section as the C face gives them: as numbers, with `known` of 1 or
-- 0 beside each that can be none (01, "Fields"); those of section 4 by the reading of a number, all
-- of them, and when and where alone.
use Rattle.std.specs.Prelude.{List, map, ℕ, eqb}
use Rattle.octets.specs.Words.{pick}
use Rattle.sections.specs.Indicator.{indicator_of}
use Rattle.sections.specs.Identification.{identification_of}
use Rattle.sections.specs.GridDefinition.{grid_definition_of}
use Rattle.sections.specs.ReprDefinition.{repr_definition_of}
use Rattle.sections.specs.BitMap.{bit_map_of}
use Rattle.framing.specs.declared.read.Section.{Section}
use Rattle.index.specs.Bounds.{unlimited}
use Rattle.index.specs.Walk.{walked}
use Rattle.index.specs.Decoded.{own_octets, payload_of}
use Rattle.buttresk.specs.Fields as fields
use Rattle.buttresk.specs.Product.{product_fields, when_where_fields}
use Rattle.buttresk.specs.declared.fields.IndicatorFields.{IndicatorFields}
use Rattle.buttresk.specs.declared.fields.IdentificationFields.{IdentificationFields}
use Rattle.buttresk.specs.declared.fields.GridFields.{GridFields}
use Rattle.buttresk.specs.declared.fields.RepresentationFields.{RepresentationFields}
use Rattle.buttresk.specs.declared.fields.BitMapFields.{BitMapFields}
use Rattle.buttresk.specs.declared.product.ProductFields.{ProductFields}
use Rattle.buttresk.specs.declared.product.WhenWhereFields.{WhenWhereFields}

-- the fields of one section
pub data FaceFields : Type 0 where
  indicator_face : IndicatorFields → FaceFields
  identification_face : IdentificationFields → FaceFields
  grid_face : GridFields → FaceFields
  product_face : ProductFields → WhenWhereFields → FaceFields
  representation_face : RepresentationFields → FaceFields
  bit_map_face : BitMapFields → FaceFields
  no_face : FaceFields

-- by its number, of its octets or of those behind its header
unfoldable pub face_of : ℕ → List ℕ → Section → FaceFields
face_of reading file s =
    let payload = payload_of file s in
    pick (eqb s.number 0)
    (indicator_face (fields.indicator_fields (indicator_of (own_octets file s))))
    (pick (eqb s.number 1)
    (identification_face (fields.identification_fields (identification_of payload)))
    (pick (eqb s.number 3) (grid_face (fields.grid_fields (grid_definition_of payload)))
    (pick (eqb s.number 4)
    (product_face (product_fields reading payload) (when_where_fields reading payload))
    (pick (eqb s.number 5)
    (representation_face (fields.representation_fields (repr_definition_of payload)))
    (pick (eqb s.number 6) (bit_map_face (fields.bit_map_fields (bit_map_of payload)))
    no_face)))))

-- of every section of a file, by the reading of a number, whether it names one or not
abbrev pub faces_of : ℕ → List ℕ → List FaceFields
faces_of reading file = map (face_of reading file) (walked unlimited file).sections
