-- Machinery: what the loop remembers for the next line.
use Rattle.std.specs.Prelude.{ℕ, ◌+◌, eqb}
use Rattle.octets.specs.Words.{pick}
use Rattle.sections.specs.Kinds as kinds
use Rattle.sections.specs.declared.indicator.Indicator.{Indicator}
use Rattle.products.specs.declared.Product.{Product}
use Rattle.framing.specs.declared.read.Section.{Section}
use Rattle.index.specs.Lines.{unlisted}
use Rattle.entries.specs.declared.Entry.{Entry}
use Rattle.inventory.specs.Inventory.{first_surface}
use Rattle.inventory.specs.declared.turn.Due.{Due}
use Rattle.inventory.specs.declared.turn.Due.TheVariants.{NoLine, Line, LastLine}
use Rattle.inventory.specs.declared.memory.Memory.{Memory}

abbrev pub memory_of : ℕ → ℕ → Section → Section → Memory
memory_of message submessage zeroth fourth =
    record { message = message; submessage = submessage; zeroth = zeroth; fourth = fourth }

-- before a file's first section; nothing asks for the two sections until they are read
abbrev pub blank : Memory
blank = memory_of 0 0 unlisted.section unlisted.section

-- a section 0 or 4 comes in force
unfoldable pub with_section : Memory → Section → Memory
with_section m s =
    pick (eqb s.number (kinds.indicator).number)
    (memory_of m.message m.submessage s m.fourth)
    (pick (eqb s.number (kinds.prod_definition).number)
    (memory_of m.message m.submessage m.zeroth s)
    m)

-- a section is passed, and what was due is done
unfoldable pub remembered : Due → Memory → Section → Memory
remembered NoLine m s = with_section m s
remembered Line m s =
    with_section (memory_of m.message (m.submessage + 1) m.zeroth m.fourth) s
remembered LastLine m s = memory_of (m.message + 1) 0 m.zeroth m.fourth

-- the entry of the line that is due
abbrev pub entry_in : Memory → Indicator → Product → Entry
entry_in m indicator product =
    record {
      message = m.message;
      submessage = m.submessage;
      offset = m.zeroth.offset;
      discipline = indicator.discipline;
      category = product.category;
      number = product.number;
      time = product.time;
      surface = first_surface product.surfaces;
    }
