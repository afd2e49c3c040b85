-- When two files differ in values octets only (01, "Values octets and the public copy").
use Rattle.std.specs.Prelude.{ℕ, ◌<◌, false, List, ◌≡◌, length, get_or}
use Rattle.framing.specs.declared.read.Section.{Section}
use Rattle.index.specs.Bounds.{unlimited}
use Rattle.index.specs.Walk.{walked}
use Rattle.standing.specs.Tables.{room_of}
use Rattle.index.specs.declared.line.Line.{Line}
use Rattle.publish.specs.Values.{Terms, is_value}

-- two files of one length that differ at most in values octets of the listed sections
pub record Agree (terms : Terms) (sections : List Section) (f g : List ℕ) : Type 0 where
  pub one_length : length f ≡ length g
  pub one_octet : (k : ℕ) → k < length f → is_value terms sections k ≡ false
      → get_or f k 0 ≡ get_or g k 0

-- at most in those of the first one's walk, with room for all of it
abbrev pub Alike : Terms → List ℕ → List ℕ → Type 0
Alike terms f g = Agree terms (walked unlimited f).sections f g

-- at most in those of the sections that lent tables list
abbrev pub AlikeLent : Terms → List ℕ → List Line → List ℕ → List ℕ → Type 0
AlikeLent terms rows lines f g =
    Agree terms (walked (room_of (length rows) (length lines)) f).sections f g
