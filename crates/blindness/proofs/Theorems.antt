-- Demand 3, the whole: two files that differ in values octets only are one to every reader, and a public copy is as good as its file.
--
use Rattle.std.specs.Prelude.{Ok, Err}
use Prim.Native.Nat.{ℕ, ◌+◌}
use native.Mathlib.Omega.{arith}
use mathlib.Core.Path.{◌≡◌, refl, sym, ap, ◌∙◌}
use mathlib.Core.Bool.{Bool, true, false, not}
use mathlib.Core.List.{List}
use lib.Dec.{ltb}
use lib.ListN.{length, get_or}
use lib.Seq.{ext_get_or}
use borrow.Author.Tests.{not-true}
use Rattle.octets.specs.Words.{pick}
use Rattle.framing.specs.Listing.{listing}
use Rattle.framing.specs.declared.read.Section.{Section}
use Rattle.framing.proofs.Tests.{and_both}
use Rattle.index.specs.declared.line.Line.{Line}
use Rattle.index.specs.Bounds.{unlimited}
use Rattle.index.specs.declared.bounds.Room.{Room}
use Rattle.index.specs.Walk.{Told, walked}
use Rattle.standing.specs.Tables.{room_of}
use Rattle.walk.specs.Tables.{walk_of}
use Rattle.publish.specs.Values.{Terms, is_value, in_message}
use Rattle.publish.specs.Copy.{stays, public_copy, by_outcome, copy_of}
use Rattle.blindness.specs.Looks.{is_blind}
use Rattle.index.specs.Decoded.{SectionFields, decoded}
use Rattle.inventory.specs.Inventory.{for_each, entry_at, TextWritten, inventory_by, entries_of, inventory_of}
use Rattle.blindness.specs.Agree.{Agree}
use Rattle.blindness.specs.Blindness.{One, Public, Blindness, LentBlindness, PublicCopies}
use Rattle.blindness.proofs.Spared.{Each, Spared, spared, and_left, and_right}
use Rattle.blindness.proofs.Reading.{same_pick, every_octet, Eq}
use Rattle.blindness.proofs.Listed.{span_past, of_messages}
use Rattle.blindness.proofs.Alike.{blind_from, copy_from, Seen, seen_from}
use Rattle.blindness.proofs.Fields.{spans_same, decoded_same, messages_same}
use Rattle.blindness.proofs.Walks.{fewer, fewer_values, clean_walk, walked_same}
use Rattle.blindness.proofs.Copies.{length_copy, octet_copy, copy_keeps, copy_zeros, copy_blanks}
use Rattle.index.specs.Outcome.{Outcome}

-- neither a values octet stays, nor one outside every message
value_goes : (terms : Terms) (f : List ℕ) (k : ℕ) → is_value terms (walked unlimited f).sections k ≡ true
    → stays terms f (walked unlimited f).sections k ≡ false
unfolding stays
value_goes terms f k h =
    and_right (in_message f (walked unlimited f).sections k) (not (is_value terms (walked unlimited f).sections k)) (rw h)

outside_goes : (terms : Terms) (f : List ℕ) (k : ℕ) → in_message f (walked unlimited f).sections k ≡ false
    → stays terms f (walked unlimited f).sections k ≡ false
unfolding stays
outside_goes terms f k h =
    and_left (in_message f (walked unlimited f).sections k) (not (is_value terms (walked unlimited f).sections k)) h

-- lent tables are filled by the walk
tables_same : (f g rows : List ℕ) (lines : List Line)
    → walked (room_of (length rows) (length lines)) f ≡ walked (room_of (length rows) (length lines)) g
    → walk_of f rows lines ≡ walk_of g rows lines
unfolding walk_of
tables_same f g rows lines e = rw e

-- an inventory is of the walk and of what is decoded
inventory_same : (f g : List ℕ) → walked unlimited f ≡ walked unlimited g
    → decoded f (walked unlimited f).sections ≡ decoded g (walked unlimited g).sections
    → (text : List ℕ) → inventory_of f text ≡ inventory_of g text
unfolding inventory_of entries_of
inventory_same f g walks fields text =
    ap (λ t. by t (decoded f (walked unlimited f).sections)) walks ∙ ap (by (walked unlimited g)) fields
  where
    by : Told → List SectionFields → TextWritten
    by t said = inventory_by t.outcome (for_each t.lines (entry_at said)) text

-- what is decoded of two files that are listed alike, and have the same of each section
decoding_same : (terms : Terms) → Spared terms → (f g : List ℕ) → length f ≡ length g → listing f ≡ listing g
    → Each (Seen terms f g) (listing f).sections → (room : Room)
    → decoded f (walked room f).sections ≡ decoded g (walked room g).sections
decoding_same terms s f g same e seen room =
    rw (← walked_same room f g same e (spans_same terms s f g same (listing f).sections seen))
    (decoded_same terms s f g same (walked room f).sections (fewer (Seen terms f g) room f seen))

module _ (terms : Terms) (passed : is_blind terms ≡ true) where
  -- two files that differ at most in values octets of the sections that a walk of the first lists, with whatever room
  module _ (room : Room) (f g : List ℕ) (a : Agree terms (walked room f).sections f g) where
    same : length f ≡ length g
    same = a.one_length

    agrees : (k : ℕ) → is_value terms (listing f).sections k ≡ false → Eq f g k
    agrees k h = every_octet f g same k (λ b. a.one_octet k b (fewer_values terms k room f h))

    same_listing : listing f ≡ listing g
    unfolding listing
    same_listing = rw (← same) (blind_from terms (spared terms passed) f g same (length f + 1) 0 0 (λ k _ h. agrees k h))

    seen : Each (Seen terms f g) (listing f).sections
    unfolding listing
    seen = seen_from terms f g (length f + 1) 0 0 (λ k _ _ h. agrees k h)

    one_walk : (room : Room) → walked room f ≡ walked room g
    one_walk room = walked_same room f g same same_listing (spans_same terms (spared terms passed) f g same (listing f).sections seen)

    same_stays : (k : ℕ) → stays terms g (walked unlimited g).sections k ≡ stays terms f (walked unlimited f).sections k
    unfolding stays
    same_stays k =
        let listed = fewer (Seen terms f g) unlimited f seen in
        let m = messages_same terms (spared terms passed) f g same (walked unlimited f).sections listed k in
        rw (← one_walk unlimited, m)

    same_copy : (walked unlimited f).outcome ≡ Ok tt → public_copy terms f ≡ public_copy terms g
    unfolding stays
    same_copy clean =
        ext_get_or 0 (public_copy terms f) (public_copy terms g) (length_copy terms f ∙ same ∙ sym (length_copy terms g)) (λ k _. octet k)
      where
        no_value : (k : ℕ) → stays terms f (walked unlimited f).sections k ≡ true → is_value terms (listing f).sections k ≡ false
        no_value k h =
            let p = and_both (in_message f (walked unlimited f).sections k) (not (is_value terms (walked unlimited f).sections k)) h in
            rw (← (clean_walk unlimited f clean).0) (not-true (is_value terms (walked unlimited f).sections k) p.1)

        octet : (k : ℕ) → get_or (public_copy terms f) k 0 ≡ get_or (public_copy terms g) k 0
        octet k =
            octet_copy terms f k
            ∙ same_pick (stays terms f (walked unlimited f).sections k) (λ h. agrees k (no_value k h)) (λ _. refl)
            ∙ sym (octet_copy terms g k ∙ ap (λ (t : Bool). pick t (get_or g k 0) 0) (same_stays k))

    same_outcome : (dest : List ℕ) (o : Outcome) → (walked unlimited f).outcome ≡ o → by_outcome o terms f dest ≡ by_outcome o terms g dest
    unfolding by_outcome
    same_outcome dest (Ok tt) e = rw (same, same_copy e)
    same_outcome dest (Err stop) e = refl

    same_call : (dest : List ℕ) → copy_of terms f dest ≡ copy_of terms g dest
    unfolding copy_of
    same_call dest =
        rw (← same, ← one_walk unlimited) (
        same_pick (ltb 1099511627776 (length f)) (λ _. refl) λ _.
        same_pick (ltb (length dest) (length f)) (λ _. refl) λ _.
        same_outcome dest (walked unlimited f).outcome refl)

    one : One terms f g
    one =
        record {
          one_listing = same_listing;
          one_walk = one_walk;
          one_tables = λ rows lines. tables_same f g rows lines (one_walk (room_of (length rows) (length lines)));
          one_decoding = decoding_same terms (spared terms passed) f g same same_listing seen;
          one_inventory = inventory_same f g (one_walk unlimited)
              (decoding_same terms (spared terms passed) f g same same_listing seen unlimited);
          one_copy = same_copy;
          one_call = same_call;
        }

  -- a file that walks clean, and its copy
  module _ (f : List ℕ) (clean : (walked unlimited f).outcome ≡ Ok tt) where
    abbrev copy : List ℕ
    copy = public_copy terms f

    from_start : (sections : List Section) (k : ℕ) → of_messages f 0 0 sections k ≡ in_message f sections k
    unfolding of_messages
    from_start sections k = rw (span_past 0 0 k (omega arith))

    keeps : (k : ℕ) → of_messages f 0 0 (listing f).sections k ≡ true → is_value terms (listing f).sections k ≡ false → Eq f copy k
    keeps k a b =
        let e = (clean_walk unlimited f clean).0 in
        let m : in_message f (walked unlimited f).sections k ≡ true = rw e (sym (from_start (listing f).sections k) ∙ a) in
        sym (copy_keeps terms f k m (rw e b))

    blanks : (k : ℕ) → of_messages f 0 0 (listing f).sections k ≡ false → get_or copy k 0 ≡ 0
    blanks k a =
        let e = (clean_walk unlimited f clean).0 in
        copy_blanks terms f k (rw e (sym (from_start (listing f).sections k) ∙ a))

    copy_listed : listing f ≡ listing copy
    unfolding listing
    copy_listed =
        rw (length_copy terms f)
        (copy_from terms (spared terms passed) f copy (sym (length_copy terms f)) (length f + 1) 0 0 (clean_walk unlimited f clean).1
        (λ k _. keeps k) (λ k _. blanks k))

    copy_seen : Each (Seen terms f copy) (listing f).sections
    unfolding listing
    copy_seen = seen_from terms f copy (length f + 1) 0 0 (λ k _. keeps k)

    copy_walks : (room : Room) → walked room copy ≡ walked room f
    copy_walks room =
        sym
        (walked_same room f copy (sym (length_copy terms f)) copy_listed
        (spans_same terms (spared terms passed) f copy (sym (length_copy terms f)) (listing f).sections copy_seen))

    copy_decodes : (room : Room) → decoded copy (walked room copy).sections ≡ decoded f (walked room f).sections
    copy_decodes room =
        sym (decoding_same terms (spared terms passed) f copy (sym (length_copy terms f)) copy_listed copy_seen room)

    public : Public terms f copy
    public =
        record {
          copy_length = length_copy terms f;
          copy_listing = sym copy_listed;
          copy_walk = copy_walks;
          copy_tables = λ rows lines. tables_same copy f rows lines (copy_walks (room_of (length rows) (length lines)));
          copy_decoding = copy_decodes;
          copy_inventory = inventory_same copy f (copy_walks unlimited) (copy_decodes unlimited);
          copy_octet = λ k _. copy_keeps terms f k;
          copy_no_value = λ k h. copy_zeros terms f k (value_goes terms f k h);
          copy_outside = λ k h. copy_zeros terms f k (outside_goes terms f k h);
        }

pub blindness : Blindness
blindness terms passed f g a = one terms passed unlimited f g a

pub lent_blindness : LentBlindness
lent_blindness terms passed rows lines f g a = one terms passed (room_of (length rows) (length lines)) f g a

pub public_copies : PublicCopies
public_copies terms passed f clean = public terms passed f clean
