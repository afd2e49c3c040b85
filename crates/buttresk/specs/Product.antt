-- The decoded fields of section 4 as numbers (01, "Fields": "Product fields"). A `known` of 1 or 0
-- stands beside every value that can be none; where it is 0 the value is 0 and says nothing.
use Rattle.std.specs.Prelude.{ℕ, List, eqb, pos, Option, Some, None}
use Rattle.octets.specs.Words.{pick}
use Rattle.sections.specs.ProdDefinition.{prod_definition_of}
use Rattle.products.specs.Products.{when_where_of, product_of}
use Rattle.products.specs.declared.templates.TemplateReading.{TemplateReading}
use Rattle.products.specs.declared.templates.TemplateReading.TheVariants.{AsCrate, ByManual}
use Rattle.products.specs.declared.FixedSurface.{FixedSurface}
use Rattle.products.specs.declared.WhenWhere.{WhenWhere}
use Rattle.products.specs.declared.Product.{Product}
use Rattle.buttresk.specs.declared.product.OctetField.{OctetField}
use Rattle.buttresk.specs.declared.product.TimeField.{TimeField}
use Rattle.buttresk.specs.declared.product.Surface.{Surface}
use Rattle.buttresk.specs.declared.product.SurfacesField.{SurfacesField}
use Rattle.buttresk.specs.declared.product.ProductFields.{ProductFields}
use Rattle.buttresk.specs.declared.product.WhenWhereFields.{WhenWhereFields}
use Rattle.sections.specs.declared.prod_definition.ProdDefinition.{ProdDefinition}
use Rattle.products.specs.declared.ForecastTime.{ForecastTime}

-- what every section 4 has, whatever its template
pub record DefinitionFields : Type 0 where
  pub known : ℕ
  pub coordinates : ℕ
  pub template : ℕ

-- coordinates and template: none under the least payload
unfoldable pub definition_fields : Option ProdDefinition → DefinitionFields
definition_fields (Some f) =
    record { known = 1; coordinates = f.coordinates; template = f.template }
definition_fields None = record { known = 0; coordinates = 0; template = 0 }

-- category, number, generating process
unfoldable pub octet_field : Option ℕ → OctetField
octet_field (Some value) = record { known = 1; value = value }
octet_field None = record { known = 0; value = 0 }

-- unit and time, together or not at all
unfoldable pub time_field : Option ForecastTime → TimeField
time_field (Some t) = record { known = 1; unit = t.unit; time = t.time }
time_field None = record { known = 0; unit = 0; time = 0 }

-- a surface: type, scale factor, scaled value
abbrev pub surface_numbers : FixedSurface → Surface
surface_numbers s = record { surface = s.surface; factor = s.factor; value = s.value }

abbrev pub no_surface : Surface
no_surface = record { surface = 0; factor = pos 0; value = pos 0 }

-- both surfaces or none
unfoldable pub surfaces_field : Option (FixedSurface × FixedSurface) → SurfacesField
surfaces_field (Some (first, second)) =
    record { known = 1; first = surface_numbers first; second = surface_numbers second }
surfaces_field None = record { known = 0; first = no_surface; second = no_surface }

-- all fields as numbers
unfoldable pub fields_of : Option ProdDefinition → Product → ProductFields
fields_of maybe product =
    let definition = definition_fields maybe in
    record {
      known = definition.known;
      coordinates = definition.coordinates;
      template = definition.template;
      category = octet_field product.category;
      number = octet_field product.number;
      process = octet_field product.process;
      time = time_field product.time;
      surfaces = surfaces_field product.surfaces;
    }

-- when and where as numbers
unfoldable pub when_where_numbers : WhenWhere → WhenWhereFields
when_where_numbers told =
    record { time = time_field told.time; surfaces = surfaces_field told.surfaces }

-- the reading of a number (02, Ticket 6): 1 as the crate, 2 by the Manual, and no other
unfoldable pub reading_of : ℕ → Option TemplateReading
reading_of number =
    pick (eqb number 1) (Some AsCrate) (pick (eqb number 2) (Some ByManual) None)

-- a product of which nothing is known
abbrev pub no_product : Product
no_product =
    record {
      category = None;
      number = None;
      process = None;
      time = None;
      surfaces = None;
    }

-- of a payload by a reading, and nothing without one
unfoldable pub fields_by :
    Option TemplateReading → Option ProdDefinition → (TemplateReading → Product) → ProductFields
fields_by (Some reading) definition product = fields_of definition (product reading)
fields_by None definition product = fields_of None no_product

-- section 4: of a payload, by the reading that a number names
unfoldable pub product_fields : ℕ → List ℕ → ProductFields
product_fields number s =
    fields_by (reading_of number) (prod_definition_of s) (λ reading. product_of reading s)

-- when and where of a payload by a reading, and neither without one
unfoldable pub when_where_by : Option TemplateReading → (TemplateReading → WhenWhere) → WhenWhere
when_where_by (Some reading) told = told reading
when_where_by None told = record { time = None; surfaces = None }

-- section 4's time and surfaces alone (02, Ticket 12): of a payload, by the reading of a number
unfoldable pub when_where_fields : ℕ → List ℕ → WhenWhereFields
when_where_fields number s =
    when_where_numbers (when_where_by (reading_of number) (λ reading. when_where_of reading s))
