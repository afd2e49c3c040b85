-- What is decoded of a file's sections, one by one (01, "Fields").
use Rattle.std.specs.Prelude.{ℕ, List, [], ◌∷◌, eqb, take, drop, Option}
use Rattle.octets.specs.Words.{pick}
use Rattle.sections.specs.Kinds as kinds
use Rattle.sections.specs.Indicator.{indicator_of}
use Rattle.sections.specs.Identification.{identification_of}
use Rattle.sections.specs.GridDefinition.{grid_definition_of}
use Rattle.sections.specs.ProdDefinition.{prod_definition_of}
use Rattle.sections.specs.ReprDefinition.{repr_definition_of}
use Rattle.sections.specs.BitMap.{bit_map_of}
use Rattle.products.specs.Products.{product_of}
use Rattle.products.specs.declared.templates.TemplateReading.{TemplateReading}
use Rattle.products.specs.declared.Product.{Product}
use Rattle.framing.specs.declared.read.Section.{Section}
use Rattle.sections.specs.declared.repr_definition.ReprDefinition.{ReprDefinition}
use Rattle.sections.specs.declared.identification.Identification.{Identification}
use Rattle.sections.specs.declared.grid_definition.GridDefinition.{GridDefinition}
use Rattle.sections.specs.declared.bit_map.BitMap.{BitMap}
use Rattle.sections.specs.declared.indicator.Indicator.{Indicator}
use Rattle.sections.specs.declared.prod_definition.ProdDefinition.{ProdDefinition}

-- a section's own octets
unfoldable pub own_octets : List ℕ → Section → List ℕ
own_octets file s = take s.length (drop s.offset.0 file)

-- those behind its header
unfoldable pub payload_of : List ℕ → Section → List ℕ
payload_of file s = drop kinds.header_size (own_octets file s)

-- what a section 4 says: its own fields, and the product fields by either reading
pub record ProductSection : Type 0 where
  pub definition : Option ProdDefinition
  pub product : TemplateReading → Product

unfoldable pub product_section_of : List ℕ → ProductSection
product_section_of s =
    record { definition = prod_definition_of s; product = λ reading. product_of reading s }

-- the decoded fields of a section; sections 2, 7 and 8 have none
pub data SectionFields : Type 0 where
  of_indicator : Option Indicator → SectionFields
  of_identification : Option Identification → SectionFields
  of_grid : Option GridDefinition → SectionFields
  of_product : ProductSection → SectionFields
  of_representation : Option ReprDefinition → SectionFields
  of_bit_map : Option BitMap → SectionFields
  of_none : SectionFields

-- by its number
unfoldable pub fields_of : List ℕ → Section → SectionFields
fields_of file s =
    pick (eqb s.number (kinds.indicator).number) (of_indicator (indicator_of (own_octets file s)))
    (pick (eqb s.number (kinds.identification).number)
    (of_identification (identification_of (payload_of file s)))
    (pick (eqb s.number (kinds.grid_definition).number)
    (of_grid (grid_definition_of (payload_of file s)))
    (pick (eqb s.number (kinds.prod_definition).number)
    (of_product (product_section_of (payload_of file s)))
    (pick (eqb s.number (kinds.repr_definition).number)
    (of_representation (repr_definition_of (payload_of file s)))
    (pick (eqb s.number (kinds.bit_map).number) (of_bit_map (bit_map_of (payload_of file s)))
    of_none)))))

-- of each listed section
unfoldable pub decoded : List ℕ → List Section → List SectionFields
decoded file [] = []
decoded file (s ∷ more) = fields_of file s ∷ decoded file more
