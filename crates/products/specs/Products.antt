-- The product fields of a payload of section 4, octets from 0 (01, "Fields": "Product fields").
use Rattle.std.specs.Prelude.{ℕ, ◌+◌, List, ltb, length, get_or, take, drop, Option, Some, None, ℤ}
use Rattle.octets.specs.Words.{pick}
use Rattle.octets.specs.BigEndian.{be_at}
use Rattle.octets.specs.Signed.{signed_of}
use Rattle.products.specs.Templates.{is_supported}
use Rattle.products.specs.Readings.{octets_in, offsets_of}
use Rattle.products.specs.Rows.{offsets_by}
use Rattle.products.specs.declared.templates.TimeOctets.{TimeOctets}
use Rattle.products.specs.declared.templates.TemplateReading.{TemplateReading}
use Rattle.products.specs.declared.templates.Offsets.{Offsets}
use Rattle.products.specs.declared.Product.{Product}
use Rattle.products.specs.declared.WhenWhere.{WhenWhere}
use Rattle.products.specs.declared.FixedSurface.{FixedSurface}
use Rattle.products.specs.declared.ForecastTime.{ForecastTime}

-- the template number: none under the least payload, and none if it is not supported
unfoldable pub supported_of : List ℕ → Option ℕ
supported_of s =
    pick (ltb (length s) 4) None
    (pick (is_supported (be_at s 2 2)) (Some (be_at s 2 2)) None)

-- the first octet, if there is one
unfoldable pub octet_of : List ℕ → Option ℕ
octet_of s = pick (ltb (length s) 1) None (Some (get_or s 0 0))

-- a unit octet and the octets of a time, without sign
unfoldable pub time_of : TimeOctets → List ℕ → Option ForecastTime
time_of width s =
    let octets = octets_in width in
    pick (ltb (length s) (1 + octets)) None
    (Some (record { unit = get_or s 0 0; time = be_at s 1 octets }))

abbrev surface_by : ℕ → Option ℤ → Option ℤ → Option FixedSurface
surface_by t (Some f) (Some v) = Some (record { surface = t; factor = f; value = v })
surface_by t (Some f) None = None
surface_by t None v = None

-- a surface: type (1), scale factor (1, signed), scaled value (4, signed)
unfoldable pub surface_of : List ℕ → Option FixedSurface
surface_of s =
    pick (ltb (length s) 6) None
    (surface_by (get_or s 0 0) (signed_of (take 1 (drop 1 s))) (signed_of (take 4 (drop 2 s))))

abbrev both : Option FixedSurface → Option FixedSurface → Option (FixedSurface × FixedSurface)
both (Some a) (Some b) = Some (a, b)
both (Some a) None = None
both None b = None

-- the second surface follows the first: both or none
unfoldable pub surfaces_of : List ℕ → Option (FixedSurface × FixedSurface)
surfaces_of s = both (surface_of s) (surface_of (drop 6 s))

-- what a payload says by its template number: none where there is no supported one
abbrev pub by_template : {A : Type 0} → A → (ℕ → A) → Option ℕ → A
by_template none f (Some n) = f n
by_template none f None = none

-- what a payload says by an index of its template, whose first octet is the payload's octet 4
abbrev pub by_index : {A : Type 0} → A → (List ℕ → A) → List ℕ → Option ℕ → A
by_index none f s (Some i) = f (drop i (drop 4 s))
by_index none f s None = none

-- category at 4, number at 5: the first two octets of every template
unfoldable pub category_of : List ℕ → Option ℕ
category_of s = by_template None (λ n. by_index None octet_of s (Some 0)) (supported_of s)

unfoldable pub parameter_of : List ℕ → Option ℕ
parameter_of s = by_template None (λ n. by_index None octet_of s (Some 1)) (supported_of s)

-- what a payload says at a template's offsets, the time in so many octets
abbrev pub process_at : List ℕ → Offsets → Option ℕ
process_at s o = by_index None octet_of s o.process

abbrev pub time_at : List ℕ → Offsets → Option ForecastTime
time_at s o = by_index None (time_of o.width) s o.time

abbrev pub surfaces_at : List ℕ → Offsets → Option (FixedSurface × FixedSurface)
surfaces_at s o = by_index None surfaces_of s o.surfaces

-- generating process, time and surfaces at 4 plus an index chosen by the template number, by a
-- reading
unfoldable pub process_of : TemplateReading → List ℕ → Option ℕ
process_of reading s =
    by_template None (λ n. process_at s (offsets_of reading n)) (supported_of s)

unfoldable pub forecast_of : TemplateReading → List ℕ → Option ForecastTime
forecast_of reading s = by_template None (λ n. time_at s (offsets_of reading n)) (supported_of s)

unfoldable pub fixed_of : TemplateReading → List ℕ → Option (FixedSurface × FixedSurface)
fixed_of reading s =
    by_template None (λ n. surfaces_at s (offsets_of reading n)) (supported_of s)

-- when and where (02, Ticket 12): the time or none, and the surfaces or none, of one payload
unfoldable pub when_where_of : TemplateReading → List ℕ → WhenWhere
when_where_of reading s = record { time = forecast_of reading s; surfaces = fixed_of reading s }

-- all five
unfoldable pub product_of : TemplateReading → List ℕ → Product
product_of reading s =
    record {
      category = category_of s;
      number = parameter_of s;
      process = process_of reading s;
      time = forecast_of reading s;
      surfaces = fixed_of reading s;
    }

-- all five by lent rows
unfoldable pub product_by : List ℕ → TemplateReading → List ℕ → Product
product_by lent reading s =
    let by = offsets_by lent reading in
    let told = supported_of s in
    record {
      category = category_of s;
      number = parameter_of s;
      process = by_template None (λ n. process_at s (by n)) told;
      time = by_template None (λ n. time_at s (by n)) told;
      surfaces = by_template None (λ n. surfaces_at s (by n)) told;
    }
