-- `indicator_at` meets its contract: by its edition and its total length.
use Prim.Native.Nat.{ℕ, ◌+◌}
use native.Mathlib.Nat.{add_assoc}
use mathlib.Core.Path.{◌≡◌, ◌∙◌}
use mathlib.Core.List.{List, [], ◌∷◌}
use lib.ListN.{get_or}
use borrow.Author.Tests.{lt-ltb, le-ltb, eq-eqb, ne_eqb}
use Rattle.octets.specs.BigEndian.{be_at}
use Rattle.framing.specs.Framing.{indicator_at}
use Rattle.framing.proofs.read.indicator_at.Goals as goal

-- the total length, as eight octets and in the file
eight : (s : List ℕ) (g : ℕ)
    → be_at
    (get_or s (g + 8) 0 ∷ get_or s (g + 9) 0 ∷ get_or s (g + 10) 0 ∷ get_or s (g + 11) 0 ∷ get_or s (g + 12) 0 ∷ get_or s (g + 13) 0
    ∷ get_or s (g + 14) 0 ∷ get_or s (g + 15) 0 ∷ []) 0 8 ≡ be_at s (g + 8) 8
unfolding be_at
eight s g = simp add_assoc

pub returns-then-edition-ne-EDITION : goal.returns-then-edition-ne-EDITION
unfolding indicator_at
returns-then-edition-ne-EDITION c = c.refuse.ensures ∙ simp (c.other_edition.ensures, ne_eqb _ _ c.if-edition-ne-EDITION.true)

pub returns-then-total : goal.returns-then-total
unfolding indicator_at
returns-then-total c =
    let args = c.args in
    let said = c.be64-total.ensures ∙ eight args.file.now args.g in
    c.refuse-then-total.ensures ∙ simp (eq-eqb _ _ c.if-edition-ne-EDITION.false, ← said, lt-ltb _ _ c.if-total.true)

pub returns : goal.returns
unfolding indicator_at
returns c =
    let args = c.args in
    let said = c.be64-total.ensures ∙ eight args.file.now args.g in
    c.section_at.ensures ∙ simp (eq-eqb _ _ c.if-edition-ne-EDITION.false, ← said, le-ltb _ _ c.if-total.false)
