-- `header_at` meets its contract: the header is cut, or its length has no room for it, or its kind decides.
use Prim.Native.Nat.{ℕ, ◌+◌}
use native.Mathlib.Nat.{add-zero}
use mathlib.Core.Path.{◌≡◌, ◌∙◌}
use mathlib.Core.List.{List, [], ◌∷◌}
use lib.ListN.{get_or}
use borrow.Author.Tests.{lt-ltb, le-ltb}
use Rattle.octets.specs.BigEndian.{be_at}
use Rattle.framing.specs.Framing.{header_at}
use Rattle.framing.proofs.read.header_at.Goals as goal

-- the length, as four octets and in the file
four : (s : List ℕ) (at : ℕ)
    → be_at (get_or s at 0 ∷ get_or s (at + 1) 0 ∷ get_or s (at + 2) 0 ∷ get_or s (at + 3) 0 ∷ []) 0 4 ≡ be_at s at 4
unfolding be_at
four s at = rw add-zero

pub returns-then-left-lt-HEADER_SIZE : goal.returns-then-left-lt-HEADER_SIZE
unfolding header_at
returns-then-left-lt-HEADER_SIZE c = c.refuse.ensures ∙ simp (lt-ltb _ _ c.if-left-lt-HEADER_SIZE.true)

pub returns-then-length : goal.returns-then-length
unfolding header_at
returns-then-length c =
    let args = c.args in
    let said = c.be32-length.ensures ∙ four args.file.now args.at in
    c.refuse-then-length.ensures ∙ simp (le-ltb _ _ c.if-left-lt-HEADER_SIZE.false, ← said, lt-ltb _ _ c.if-length.true)

pub returns : goal.returns
unfolding header_at
returns c =
    let args = c.args in
    let said = c.be32-length.ensures ∙ four args.file.now args.at in
    c.payload_at.ensures ∙ simp (le-ltb _ _ c.if-left-lt-HEADER_SIZE.false, ← said, le-ltb _ _ c.if-length.false)
