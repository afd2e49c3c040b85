-- How a walk ends (01, "Refusal numbers").
use Rattle.std.specs.Prelude.{Result, ⊤}
use Rattle.framing.specs.declared.read.Offset.{Offset}
use Rattle.order.specs.declared.Place.{Place}
use Rattle.index.specs.declared.refusal.Refusal.{Refusal}
use Rattle.index.specs.declared.refusal.Refused.{Refused}

-- clean, or with a refusal
abbrev pub Outcome : Type 0
Outcome = Result ⊤ Refused

-- why, and the place and the offset of the section at fault
abbrev pub refused_there : Refusal → Place → Offset → Refused
refused_there why place offset = record { why = why; place = place; offset = offset }
