-- `look` meets its contract: by what is read at the cursor.
use mathlib.Core.Path.{sym, ◌∙◌}
use Rattle.framing.proofs.Framings.{known}
use Rattle.reading.specs.Reading.{seen_by_read, seen}
use Rattle.reading.proofs.look.Goals as goal

pub returns-in-Whole : goal.returns-in-Whole
unfolding seen seen_by_read
returns-in-Whole c = c.judged.ensures ∙ rw (sym (known _ c.framed_at-framed.result _ c.framed_at-framed.ensures c.in-Whole.is))

pub returns-in-Over : goal.returns-in-Over
unfolding seen seen_by_read
returns-in-Over c = c.over.ensures ∙ rw (sym (known _ c.framed_at-framed.result _ c.framed_at-framed.ensures c.in-Over.is))

pub returns-in-Refused : goal.returns-in-Refused
unfolding seen seen_by_read
returns-in-Refused c = rw (sym (known _ c.framed_at-framed.result _ c.framed_at-framed.ensures c.in-Refused.is))
