-- Where the two readings differ, and that they agree everywhere else (02, Ticket 6: "All else
-- agrees between both, shown once over every template number"). The statements are proved in
-- proofs/, under their names in small letters.
use Rattle.std.specs.Prelude.{ℕ, ◌≡◌, List, [], ◌∷◌, ◌++◌, pos, negsuc, replicate, Option, Some, None}
use Rattle.octets.specs.Words.{Not}
use Rattle.octets.specs.BigEndian.{be_at}
use Rattle.products.specs.Readings.{offsets_of}
use Rattle.products.specs.Products.{process_of, forecast_of, fixed_of, product_of}
use Rattle.products.specs.declared.templates.TimeOctets.{TimeOctets}
use Rattle.products.specs.declared.templates.TimeOctets.TheVariants.{Two, Four}
use Rattle.products.specs.declared.templates.TemplateReading.{TemplateReading}
use Rattle.products.specs.declared.templates.TemplateReading.TheVariants.{AsCrate, ByManual}
use Rattle.products.specs.declared.templates.Offsets.{Offsets}
use Rattle.products.specs.declared.FixedSurface.{FixedSurface}
use Rattle.products.specs.declared.ForecastTime.{ForecastTime}

-- every template number but 44 and 47, supported or not; and of a payload all but the time of a 44
-- and the generating process of a 47
pub record Agreement : Type 0 where
  pub numbers : (n : ℕ) → Not (n ≡ 44) → Not (n ≡ 47) → offsets_of ByManual n ≡ offsets_of AsCrate n
  pub category : (s : List ℕ) → (product_of ByManual s).category ≡ (product_of AsCrate s).category
  pub number : (s : List ℕ) → (product_of ByManual s).number ≡ (product_of AsCrate s).number
  pub process : (s : List ℕ) → Not (be_at s 2 2 ≡ 47)
      → (product_of ByManual s).process ≡ (product_of AsCrate s).process
  pub time : (s : List ℕ) → Not (be_at s 2 2 ≡ 44)
      → (product_of ByManual s).time ≡ (product_of AsCrate s).time
  pub surfaces : (s : List ℕ) → (product_of ByManual s).surfaces ≡ (product_of AsCrate s).surfaces

-- a template's offsets and its width of time
abbrev offsets : ℕ → ℕ → TimeOctets → ℕ → Offsets
offsets process time width surfaces =
    record { process = Some process; time = Some time; width = width; surfaces = Some surfaces }

-- a payload of template 44 that says unit 1 and, behind it, these octets
abbrev pub dust : List ℕ → List ℕ
dust behind = 0 ∷ 0 ∷ 0 ∷ 44 ∷ replicate 21 0 ++ 1 ∷ behind

-- two surfaces: type 5, scale factor -2, value 1; type 7, scale factor 0, value 2
abbrev pub two_surfaces : List ℕ
two_surfaces = 5 ∷ 130 ∷ 0 ∷ 0 ∷ 0 ∷ 1 ∷ 7 ∷ 0 ∷ 0 ∷ 0 ∷ 0 ∷ 2 ∷ []

-- what they say
abbrev pub said_surfaces : Option (FixedSurface × FixedSurface)
said_surfaces =
    Some ((record { surface = 5; factor = negsuc 1; value = pos 1 }), (record { surface = 7; factor = pos 0; value = pos 2 }))

-- this time, in unit 1
abbrev pub said : ℕ → Option ForecastTime
said time = Some (record { unit = 1; time = time })

-- template 44: the time of such payloads, one whole, one that ends behind its two octets, one that
-- ends in them, and one above 32,767; its surfaces are the same in both readings
pub record At44 : Type 0 where
  pub by_manual : offsets_of ByManual 44 ≡ offsets 15 21 Two 24
  pub as_crate : offsets_of AsCrate 44 ≡ offsets 15 21 Four 24
  pub differ : Not (offsets_of ByManual 44 ≡ offsets_of AsCrate 44)
  pub whole_by_manual : forecast_of ByManual (dust (0 ∷ 6 ∷ two_surfaces)) ≡ said 6
  pub whole_as_crate : forecast_of AsCrate (dust (0 ∷ 6 ∷ two_surfaces)) ≡ said 394626
  pub surfaces : (reading : TemplateReading) → fixed_of reading (dust (0 ∷ 6 ∷ two_surfaces))
      ≡ said_surfaces
  pub ended_by_manual : forecast_of ByManual (dust (0 ∷ 6 ∷ [])) ≡ said 6
  pub ended_as_crate : forecast_of AsCrate (dust (0 ∷ 6 ∷ [])) ≡ None
  pub ended_surfaces : (reading : TemplateReading) → fixed_of reading (dust (0 ∷ 6 ∷ []))
      ≡ None
  pub too_soon : (reading : TemplateReading) → forecast_of reading (dust (0 ∷ [])) ≡ None
  pub without_sign : forecast_of ByManual (dust (255 ∷ 254 ∷ [])) ≡ said 65534

-- a payload of template 47: category and number 0, then these octets
abbrev pub particles : List ℕ → List ℕ
particles behind = 0 ∷ 0 ∷ 0 ∷ 47 ∷ 0 ∷ 0 ∷ behind

-- template 47: the generating process of one payload that is long enough for octet 25, and of one
-- that ends before
pub record At47 : Type 0 where
  pub by_manual : offsets_of ByManual 47 ≡ offsets 15 21 Four 26
  pub as_crate : offsets_of AsCrate 47 ≡ offsets 2 21 Four 26
  pub differ : Not (offsets_of ByManual 47 ≡ offsets_of AsCrate 47)
  pub long_by_manual : process_of ByManual (particles (9 ∷ replicate 12 0 ++ 4 ∷ [])) ≡ Some 4
  pub long_as_crate : process_of AsCrate (particles (9 ∷ replicate 12 0 ++ 4 ∷ [])) ≡ Some 9
  pub short_by_manual : process_of ByManual (particles (2 ∷ [])) ≡ None
  pub short_as_crate : process_of AsCrate (particles (2 ∷ [])) ≡ Some 2

-- nowhere else, and there
pub record WhereReadingsDiffer : Type 0 where
  pub agreement : Agreement
  pub at_44 : At44
  pub at_47 : At47
