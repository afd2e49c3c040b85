-- The fields of section 0, from its own octets (01, "Fields"; the Manual, section 0, octets 7 and
-- 9 to 16).
use Rattle.std.specs.Prelude.{ℕ, List, ltb, length, get_or, Option, Some, None}
use Rattle.octets.specs.Words.{pick}
use Rattle.octets.specs.BigEndian.{be_at}
use Rattle.sections.specs.Kinds.{indicator_size}
use Rattle.sections.specs.declared.indicator.Indicator.{Indicator}

-- none under the whole size; neither "GRIB" nor the edition nor the reserved octets count
unfoldable pub indicator_of : List ℕ → Option Indicator
indicator_of s =
    pick (ltb (length s) indicator_size) None
    (Some (record { discipline = get_or s 6 0; total = be_at s 8 8 }))
