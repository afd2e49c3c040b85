-- `Indicator::from_section` meets its contract: the octets are too few or not.
use borrow.Author.Tests.{lt-ltb, le-ltb}
use Rattle.octets.specs.BigEndian.{be_at}
use Rattle.sections.specs.Indicator.{indicator_of}
use Rattle.sections.proofs.indicator.Indicator.from_section.Goals as goal

pub returns-then-section-lt-WHOLE_SIZE : goal.returns-then-section-lt-WHOLE_SIZE
unfolding indicator_of
returns-then-section-lt-WHOLE_SIZE c = simp (lt-ltb _ _ c.if-section-lt-WHOLE_SIZE.true)

pub returns : goal.returns
unfolding indicator_of be_at
returns c = simp (le-ltb _ _ c.if-section-lt-WHOLE_SIZE.false, c.be64.ensures)
