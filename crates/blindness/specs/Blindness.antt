-- Demand 3: nothing that is listed, told, decoded, written or copied depends on a values octet, and
-- a public copy is as good as its file (01, "Values octets and the public copy"; 02, Ticket 1).
-- Statements only: `proofs/Theorems.antt` has their proofs.
use Rattle.std.specs.Prelude.{ℕ, ◌<◌, true, false, List, ◌≡◌, length, get_or, Ok}
use Rattle.framing.specs.Listing.{listing}
use Rattle.index.specs.declared.line.Line.{Line}
use Rattle.index.specs.Bounds.{unlimited}
use Rattle.index.specs.declared.bounds.Room.{Room}
use Rattle.index.specs.Walk.{walked}
use Rattle.walk.specs.Tables.{walk_of}
use Rattle.inventory.specs.Inventory.{inventory_of}
use Rattle.publish.specs.Values.{Terms, onward, licensed, is_value, in_message}
use Rattle.publish.specs.Copy.{public_copy, copy_of}
use Rattle.blindness.specs.Looks.{is_blind, changed, four_stretches, six_stretches}
use Rattle.index.specs.Decoded.{decoded}
use Rattle.blindness.specs.Agree.{Alike, AlikeLent}

-- two files are one to every reader: sections, lines, counts and end answer, with any tables;
-- decoded fields; the inventory's call, also where 20 is the answer; the public copy and its call
pub record One (terms : Terms) (f g : List ℕ) : Type 0 where
  pub one_listing : listing f ≡ listing g
  pub one_walk : (room : Room) → walked room f ≡ walked room g
  pub one_tables : (rows : List ℕ) (lines : List Line) → walk_of f rows lines ≡ walk_of g rows lines
  pub one_decoding : (room : Room)
      → decoded f (walked room f).sections ≡ decoded g (walked room g).sections
  pub one_inventory : (text : List ℕ) → inventory_of f text ≡ inventory_of g text
  pub one_copy : (walked unlimited f).outcome ≡ Ok tt → public_copy terms f ≡ public_copy terms g
  pub one_call : (dest : List ℕ) → copy_of terms f dest ≡ copy_of terms g dest

-- a copy is as good as its file; it has the file's octet wherever that is inside a message and no
-- values octet, and 0 at values octets and outside every message
pub record Public (terms : Terms) (f copy : List ℕ) : Type 0 where
  pub copy_length : length copy ≡ length f
  pub copy_listing : listing copy ≡ listing f
  pub copy_walk : (room : Room) → walked room copy ≡ walked room f
  pub copy_tables : (rows : List ℕ) (lines : List Line)
      → walk_of copy rows lines ≡ walk_of f rows lines
  pub copy_decoding : (room : Room)
      → decoded copy (walked room copy).sections ≡ decoded f (walked room f).sections
  pub copy_inventory : (text : List ℕ) → inventory_of copy text ≡ inventory_of f text
  pub copy_octet : (k : ℕ) → k < length f → in_message f (walked unlimited f).sections k ≡ true
      → is_value terms (walked unlimited f).sections k ≡ false → get_or copy k 0 ≡ get_or f k 0
  pub copy_no_value : (k : ℕ) → is_value terms (walked unlimited f).sections k ≡ true
      → get_or copy k 0 ≡ 0
  pub copy_outside : (k : ℕ) → in_message f (walked unlimited f).sections k ≡ false
      → get_or copy k 0 ≡ 0

-- files that differ in values octets only are one, under every terms that pass the test ..
abbrev pub Blindness : Type 0
Blindness =
    (terms : Terms) → is_blind terms ≡ true → (f g : List ℕ) → Alike terms f g → One terms f g

-- .. also where values octets are only those of the sections that lent tables list
abbrev pub LentBlindness : Type 0
LentBlindness =
    (terms : Terms) → is_blind terms ≡ true → (rows : List ℕ) (lines : List Line) (f g : List ℕ)
    → AlikeLent terms rows lines f g
    → One terms f g

-- a walk that ends clean with lent tables is the walk with room for all of it: what is said of the
-- one holds of the other
abbrev pub CleanNeedsNoMore : Type 0
CleanNeedsNoMore =
    (room : Room) (f : List ℕ) → (walked room f).outcome ≡ Ok tt
    → walked room f ≡ walked unlimited f

-- the public copy of a file that walks clean
abbrev pub PublicCopies : Type 0
PublicCopies =
    (terms : Terms) → is_blind terms ≡ true → (f : List ℕ) → (walked unlimited f).outcome ≡ Ok tt
    → Public terms f (public_copy terms f)

-- document 01's terms are its four stretches
abbrev pub LicensedAreFour : Type 0
LicensedAreFour = (number : ℕ) → licensed number ≡ four_stretches number

-- they pass the test, and so do the six
pub record TermsPass : Type 0 where
  pub licensed_pass : is_blind licensed ≡ true
  pub four_pass : is_blind four_stretches ≡ true
  pub six_pass : is_blind six_stretches ≡ true

-- one octet more of sections 2, 5, 6 or 7 and terms fail it
pub record OneMoreFails : Type 0 where
  pub two : is_blind (changed 2 (onward 5) licensed) ≡ false
  pub five : is_blind (changed 5 (onward 11) licensed) ≡ false
  pub six : is_blind (changed 6 (onward 6) licensed) ≡ false
  pub seven : is_blind (changed 7 (onward 5) licensed) ≡ false
