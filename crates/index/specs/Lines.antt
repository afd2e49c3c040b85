-- A submessage's line, and the sections in force that it is made of (01, "Order").
use Rattle.std.specs.Prelude.{ℕ, List, eqb, ltb, get_or, set, replicate, Option, Some, None}
use Rattle.octets.specs.Words.{pick}
use Rattle.sections.specs.Kinds as kinds
use Rattle.framing.specs.declared.read.Offset.{Offset}
use Rattle.order.specs.declared.Place.{Place}
use Rattle.index.specs.declared.line.Span.{Span}
use Rattle.index.specs.declared.line.Force.{Force}
use Rattle.index.specs.declared.line.Line.{Line}
use Rattle.index.specs.declared.listed.Listed.{Listed}

-- a place of the list, by its number
abbrev pub place : ℕ → Place
place n = record { 0 = n }

-- where a message stands: the octet offset of its section 0, and the total length stated there
abbrev pub span : Offset → ℕ → Span
span offset total = record { offset = offset; total = total }

-- before the first section of a file; nothing asks for it until a section is listed
abbrev pub unlisted : Listed
unlisted =
    record {
      place = place 0;
      section = record { number = 0; offset = record { 0 = 0 }; length = 0 };
    }

-- a place for each section number but the end section's
abbrev pub every_place : Place → List Place
every_place p = replicate (kinds.end_section).number p

-- a message, before its first section; no line is made before all its sections are read
abbrev pub opened : ℕ → Force
opened message =
    record {
      message = message;
      submessage = 0;
      span = span (record { 0 = 0 }) 0;
      local = None;
      places = every_place (place 0);
    }

-- the same, in a message that stands there
abbrev pub with_span : Force → Span → Force
with_span f span =
    record {
      message = f.message;
      submessage = f.submessage;
      span = span;
      local = f.local;
      places = f.places;
    }

-- the same, with another section 2
abbrev pub with_local : Force → Option Place → Force
with_local f local =
    record {
      message = f.message;
      submessage = f.submessage;
      span = f.span;
      local = local;
      places = f.places;
    }

-- the same, with other places
abbrev pub with_places : Force → List Place → Force
with_places f places =
    record {
      message = f.message;
      submessage = f.submessage;
      span = f.span;
      local = f.local;
      places = places;
    }

-- a section comes in force at its place: it replaces the one of its number, and no other; an end
-- section is never in force
unfoldable pub in_force : Force → ℕ → Place → Force
in_force f number here =
    pick (eqb number (kinds.local_use).number) (with_local f (Some here))
    (pick (ltb number (kinds.end_section).number) (with_places f (set f.places number here))
    f)

-- the next submessage of the same message, where all stays in force
abbrev pub with_submessage : Force → ℕ → Force
with_submessage f submessage =
    record {
      message = f.message;
      submessage = submessage;
      span = f.span;
      local = f.local;
      places = f.places;
    }

-- the line of the submessage in hand, by what stands behind it
unfoldable pub line_of : Force → Option Place → Line
line_of f end =
    record {
      message = f.message;
      submessage = f.submessage;
      indicator = get_or f.places (kinds.indicator).number (place 0);
      identification = get_or f.places (kinds.identification).number (place 0);
      local = f.local;
      grid = get_or f.places (kinds.grid_definition).number (place 0);
      product = get_or f.places (kinds.prod_definition).number (place 0);
      representation = get_or f.places (kinds.repr_definition).number (place 0);
      bitmap = get_or f.places (kinds.bit_map).number (place 0);
      values = get_or f.places (kinds.data_section).number (place 0);
      end = end;
      span = f.span;
    }
