-- The decoded fields of sections 0, 1, 3, 5 and 6 as numbers (01, "Fields"). A section has its
-- fields, and `known` is 1, or it has none, and `known` is 0: the other numbers are then 0 and say
-- nothing.
use Rattle.std.specs.Prelude.{Option, Some, None}
use Rattle.buttresk.specs.declared.fields.IndicatorFields.{IndicatorFields}
use Rattle.buttresk.specs.declared.fields.IdentificationFields.{IdentificationFields}
use Rattle.buttresk.specs.declared.fields.GridFields.{GridFields}
use Rattle.buttresk.specs.declared.fields.RepresentationFields.{RepresentationFields}
use Rattle.buttresk.specs.declared.fields.BitMapFields.{BitMapFields}
use Rattle.sections.specs.declared.identification.Identification.{Identification}
use Rattle.sections.specs.declared.grid_definition.GridDefinition.{GridDefinition}
use Rattle.sections.specs.declared.bit_map.BitMap.{BitMap}
use Rattle.sections.specs.declared.indicator.Indicator.{Indicator}
use Rattle.sections.specs.declared.repr_definition.ReprDefinition.{ReprDefinition}

-- section 0: discipline and total length
unfoldable pub indicator_fields : Option Indicator → IndicatorFields
indicator_fields (Some f) =
    record { known = 1; discipline = f.discipline; total = f.total }
indicator_fields None = record { known = 0; discipline = 0; total = 0 }

-- section 1 without fields
abbrev pub no_identification : IdentificationFields
no_identification =
    record {
      known = 0;
      master = 0;
      local = 0;
      significance = 0;
      month = 0;
      day = 0;
      hour = 0;
      minute = 0;
      second = 0;
      status = 0;
      processed = 0;
      centre = 0;
      subcentre = 0;
      year = 0;
    }

-- section 1: centre, subcentre, tables, time, status and type
unfoldable pub identification_fields : Option Identification → IdentificationFields
identification_fields (Some f) =
    record {
      known = 1;
      master = f.master;
      local = f.local;
      significance = f.significance;
      month = f.month;
      day = f.day;
      hour = f.hour;
      minute = f.minute;
      second = f.second;
      status = f.status;
      processed = f.processed;
      centre = f.centre;
      subcentre = f.subcentre;
      year = f.year;
    }
identification_fields None = no_identification

-- section 3: points and template
unfoldable pub grid_fields : Option GridDefinition → GridFields
grid_fields (Some f) = record { known = 1; template = f.template; points = f.points }
grid_fields None = record { known = 0; template = 0; points = 0 }

-- section 5: points and template
unfoldable pub representation_fields : Option ReprDefinition → RepresentationFields
representation_fields (Some f) =
    record { known = 1; template = f.template; points = f.points }
representation_fields None = record { known = 0; template = 0; points = 0 }

-- section 6: indicator
unfoldable pub bit_map_fields : Option BitMap → BitMapFields
bit_map_fields (Some f) = record { known = 1; indicator = f.indicator }
bit_map_fields None = record { known = 0; indicator = 0 }
