-- The fields of section 1, octets of the payload from 0 (01, "Fields").
use Rattle.std.specs.Prelude.{ℕ, List, ltb, length, get_or, Option, Some, None}
use Rattle.octets.specs.Words.{pick}
use Rattle.octets.specs.BigEndian.{be_at}
use Rattle.sections.specs.Kinds.{least_identification}
use Rattle.sections.specs.declared.identification.Identification.{Identification}

-- none under the least payload; the time is not checked
unfoldable pub identification_of : List ℕ → Option Identification
identification_of s =
    pick (ltb (length s) least_identification) None
    (Some
    (record {
      centre = be_at s 0 2;
      subcentre = be_at s 2 2;
      master = get_or s 4 0;
      local = get_or s 5 0;
      significance = get_or s 6 0;
      year = be_at s 7 2;
      month = get_or s 9 0;
      day = get_or s 10 0;
      hour = get_or s 11 0;
      minute = get_or s 12 0;
      second = get_or s 13 0;
      status = get_or s 14 0;
      processed = get_or s 15 0;
    }))
