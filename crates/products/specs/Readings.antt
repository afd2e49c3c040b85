-- Two readings of a template (02, Ticket 6): as the crate, which is 01's, and by the Manual. What
-- the Manual has otherwise stands before what 01's ranges say; all else is the same in both.
use Rattle.std.specs.Prelude.{ℕ, List, [], ◌∷◌, Option, Some}
use Rattle.products.specs.Ranges.{Range, ◌to◌is◌, lookup}
use Rattle.products.specs.Templates.{process_index, time_index, surfaces_index}
use Rattle.products.specs.declared.templates.TimeOctets.{TimeOctets}
use Rattle.products.specs.declared.templates.TimeOctets.TheVariants.{Two, Four}
use Rattle.products.specs.declared.templates.TemplateReading.{TemplateReading}
use Rattle.products.specs.declared.templates.TemplateReading.TheVariants.{AsCrate, ByManual}
use Rattle.products.specs.declared.templates.Offsets.{Offsets}

-- 4.47: the type of generating process is octet 25, as in 4.44 to 4.46
unfoldable pub processes_by_manual : List (Range (Option ℕ))
processes_by_manual = (47 to 47 is Some 15) ∷ []

-- 4.44: the time is the octets 32 and 33
unfoldable pub widths_by_manual : List (Range TimeOctets)
widths_by_manual = (44 to 44 is Two) ∷ []

-- so many octets has a time
unfoldable pub octets_in : TimeOctets → ℕ
octets_in Two = 2
octets_in Four = 4

-- as the crate: 01's ranges side by side, and a time of four octets
unfoldable pub as_crate : ℕ → Offsets
as_crate n =
    record {
      process = process_index n;
      time = time_index n;
      width = Four;
      surfaces = surfaces_index n;
    }

-- what a reading makes of that which the crate has for a template
unfoldable pub by_reading : TemplateReading → ℕ → Offsets → Offsets
by_reading AsCrate n o = o
by_reading ByManual n o =
    record {
      process = lookup o.process n processes_by_manual;
      time = o.time;
      width = lookup o.width n widths_by_manual;
      surfaces = o.surfaces;
    }

-- where a template holds what
unfoldable pub offsets_of : TemplateReading → ℕ → Offsets
offsets_of reading n = by_reading reading n (as_crate n)
