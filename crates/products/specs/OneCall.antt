-- When and where in one call (02, Ticket 12: "One call on one payload, under either reading of
-- Ticket 6, answers the time or none, and the surfaces or none, each as before"). The statements
-- are proved in proofs/, under their names in small letters.
use Rattle.std.specs.Prelude.{ℕ, ◌≡◌, List, [], ◌∷◌, ◌++◌, replicate, Option, None}
use Rattle.octets.specs.Words.{Not}
use Rattle.octets.specs.BigEndian.{be_at}
use Rattle.products.specs.Products.{when_where_of, product_of}
use Rattle.products.specs.Agreement.{dust, two_surfaces, said_surfaces, said}
use Rattle.products.specs.declared.templates.TemplateReading.{TemplateReading}
use Rattle.products.specs.declared.templates.TemplateReading.TheVariants.{AsCrate, ByManual}
use Rattle.products.specs.declared.WhenWhere.{WhenWhere}
use Rattle.products.specs.declared.FixedSurface.{FixedSurface}
use Rattle.products.specs.declared.ForecastTime.{ForecastTime}

-- each as before: what the same payload has among its five product fields; and the readings differ
-- in the time of a 44 alone
pub record AsBefore : Type 0 where
  pub time : (reading : TemplateReading) (s : List ℕ)
      → (when_where_of reading s).time ≡ (product_of reading s).time
  pub surfaces : (reading : TemplateReading) (s : List ℕ)
      → (when_where_of reading s).surfaces ≡ (product_of reading s).surfaces
  pub readings : (s : List ℕ) → Not (be_at s 2 2 ≡ 44)
      → when_where_of ByManual s ≡ when_where_of AsCrate s

-- a payload of a template that says so many zeros and then these octets
abbrev pub telling : ℕ → ℕ → List ℕ → List ℕ
telling template zeros behind = 0 ∷ 0 ∷ 0 ∷ template ∷ replicate zeros 0 ++ behind

-- an answer of the two
abbrev answer : Option ForecastTime → Option (FixedSurface × FixedSurface) → WhenWhere
answer time surfaces = record { time = time; surfaces = surfaces }

-- either is there without the other: 32 has an index for its time alone; 88 has its surfaces at 5,
-- before its time at 26, and this payload ends behind them. 0 has both, the time at 8 and the
-- surfaces at 13, and has its time alone where it ends too soon; 64 is not supported; and 44 has
-- its time by each reading
pub record EachByItself : Type 0 where
  pub of_32 : (reading : TemplateReading)
      → when_where_of reading (telling 32 8 (1 ∷ 0 ∷ 0 ∷ 0 ∷ 6 ∷ two_surfaces))
      ≡ answer (said 6) None
  pub of_88 : (reading : TemplateReading)
      → when_where_of reading (telling 88 5 two_surfaces) ≡ answer None said_surfaces
  pub of_0 : (reading : TemplateReading)
      → when_where_of reading (telling 0 8 (1 ∷ 0 ∷ 0 ∷ 0 ∷ 6 ∷ two_surfaces))
      ≡ answer (said 6) said_surfaces
  pub of_0_ended : (reading : TemplateReading)
      → when_where_of reading (telling 0 8 (1 ∷ 0 ∷ 0 ∷ 0 ∷ 6 ∷ 5 ∷ [])) ≡ answer (said 6) None
  pub of_64 : (reading : TemplateReading)
      → when_where_of reading (telling 64 8 (1 ∷ 0 ∷ 0 ∷ 0 ∷ 6 ∷ two_surfaces))
      ≡ answer None None
  pub of_44_by_manual : when_where_of ByManual (dust (0 ∷ 6 ∷ two_surfaces))
      ≡ answer (said 6) said_surfaces
  pub of_44_as_crate : when_where_of AsCrate (dust (0 ∷ 6 ∷ two_surfaces))
      ≡ answer (said 394626) said_surfaces

-- all that is said of the one call
pub record WhenAndWhere : Type 0 where
  pub as_before : AsBefore
  pub each_by_itself : EachByItself
