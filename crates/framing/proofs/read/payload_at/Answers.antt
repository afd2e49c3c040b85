-- `payload_at` meets its contract: each return's tests are those that `payload_at` makes, in its order.
use mathlib.Core.Path.{sym, ◌∙◌}
use borrow.Author.Tests.{lt-ltb, le-ltb}
use Rattle.framing.specs.Framing.{payload_at}
use Rattle.framing.proofs.read.payload_at.Goals as goal

pub returns-in_default : goal.returns-in_default
unfolding payload_at
returns-in_default c = c.refuse.ensures ∙ rw (sym c.least_payload_of-known.ensures ∙ c.in_default.is)

pub returns-then-is_cut : goal.returns-then-is_cut
unfolding payload_at
returns-then-is_cut c =
    let least = sym c.least_payload_of-known.ensures ∙ c.in-Some.is in
    c.refuse-then-is_cut.ensures
    ∙ simp (least, ← c.is_cut.ensures, c.if-is_cut.true, c.missing.ensures)

pub returns-then-payload-least : goal.returns-then-payload-least
unfolding payload_at
returns-then-payload-least c =
    let least = sym c.least_payload_of-known.ensures ∙ c.in-Some.is in
    c.refuse-then-payload-least.ensures
    ∙ simp (least, ← c.is_cut.ensures, c.if-is_cut.false, lt-ltb _ _ c.if-payload-least.true)

pub returns-then-rest-length : goal.returns-then-rest-length
unfolding payload_at
returns-then-rest-length c =
    let least = sym c.least_payload_of-known.ensures ∙ c.in-Some.is in
    c.refuse-then-rest-length.ensures
    ∙ simp (
      least,
      ← c.is_cut.ensures,
      c.if-is_cut.false,
      le-ltb _ _ c.if-payload-least.false,
      lt-ltb _ _ c.if-rest-length.true,
    )

pub returns : goal.returns
unfolding payload_at
returns c =
    let least = sym c.least_payload_of-known.ensures ∙ c.in-Some.is in
    c.section_at.ensures
    ∙ simp (
      least,
      ← c.is_cut.ensures,
      c.if-is_cut.false,
      le-ltb _ _ c.if-payload-least.false,
      le-ltb _ _ c.if-rest-length.false,
    )
