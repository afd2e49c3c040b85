-- `begin` meets its contract: a file is too long or not, and octets are what it is made of.
use mathlib.Core.Path.{◌∙◌}
use borrow.Author.Tests.{lt-ltb, le-ltb}
use Rattle.walk.specs.Turns.{begun_of}
use Rattle.walk.proofs.tally.begin.Goals as goal

pub returns-then-file-gt-MOST_OCTETS : goal.returns-then-file-gt-MOST_OCTETS
unfolding begun_of
returns-then-file-gt-MOST_OCTETS c = record { tally = c.ended.ensures ∙ rw (c.unstarted.ensures, lt-ltb _ _ c.if-file-gt-MOST_OCTETS.true); octets = λ i. (c.type_inv.file i).fits }

pub returns : goal.returns
unfolding begun_of
returns c = record { tally = c.unstarted-2.ensures ∙ rw (le-ltb _ _ c.if-file-gt-MOST_OCTETS.false); octets = λ i. (c.type_inv.file i).fits }
