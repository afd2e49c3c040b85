-- `surface_of` meets its contract, by the cases of its two numbers.
use mir.Facts.{to_z-of_z}
use mir.Syntax.{w32}
use mathlib.Core.Path.{sym, ◌∙◌}
use borrow.Author.Tests.{lt-ltb, le-ltb}
use Rattle.products.specs.Products.{surface_of}
use borrow.Author.Rules.{rules, sfits_of}
use Rattle.products.proofs.surface_of.Goals as goal

pub returns-then-s-lt6 : goal.returns-then-s-lt6
unfolding surface_of
returns-then-s-lt6 c = simp (lt-ltb _ _ c.if-s-lt6.true)

pub returns-in_default : goal.returns-in_default
unfolding surface_of
returns-in_default c = simp (le-ltb _ _ c.if-s-lt6.false, sym c.sign_and_size.ensures ∙ c.in_default.is)

pub returns-in_default-sign_and_size : goal.returns-in_default-sign_and_size
unfolding surface_of
returns-in_default-sign_and_size c =
    simp (
      le-ltb _ _ c.if-s-lt6.false,
      sym c.sign_and_size.ensures ∙ c.in-Some.is,
      sym c.sign_and_size-2.ensures ∙ c.in_default-sign_and_size.is,
    )

pub returns : goal.returns
unfolding surface_of
returns c =
    simp (
      le-ltb _ _ c.if-s-lt6.false,
      sym c.sign_and_size.ensures ∙ c.in-Some.is,
      sym c.sign_and_size-2.ensures ∙ c.in-Some-sign_and_size.is,
      to_z-of_z {w = w32} {z = c.in-Some.factor} (sfits_of (search rules)),
      to_z-of_z {w = w32} {z = c.in-Some-sign_and_size.value} (sfits_of (search rules)),
    )
