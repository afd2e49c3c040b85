-- The writer's whole message: section 0, its sections framed, "7777"; and that these are the octets of our definition.
use Prim.Native.Nat.{ℕ, ◌+◌, ◌≤◌, ◌<◌}
use native.Mathlib.Omega.{arith}
use mathlib.Core.Path.{◌≡◌, refl, sym, ap, ◌∙◌}
use mathlib.Core.Bool.{Bool, true, false}
use mathlib.Core.List.{List, [], ◌∷◌, ◌++◌, map, flat_map, append_assoc}
use lib.Dec.{ltb}
use lib.ListN.{length, drop, length-append}
use borrow.Author.Tests.{ltb-true, ltb-false, lt-ltb, le-ltb}
use Rattle.octets.specs.Words.{pick}
use Rattle.sections.specs.Kinds.{end_mark}
use Rattle.writer.specs.Message.{digits, indicator_octets}
use Rattle.writer.proofs.Lengths.{length_indicator}
use Rattle.as_the_encoder.specs.Encoder.{
  Usize,
  size,
  too_large,
  usize,
  ◌⊞◌,
  sum,
  having,
  Ok,
  TooSmall,
  each,
  Section0,
  Section0-write_to_buffer,
  write_section0,
  write_section8,
  section_len,
  IterL1,
  IterL1-num_octets,
  IterL1-write,
  Grib2Message,
  Grib2Message-num_octets,
  Grib2Message-write,
}
use Rattle.as_the_encoder.specs.Writes.{flattened_l1, flattened}
use Rattle.as_the_encoder.proofs.EncodingSteps.{usizes, add_usize, enough, Frames, then_frames, each_frames, to_buffer_frames, then_field, bytes_8}
use Rattle.as_the_encoder.proofs.EncodingLevels.{frame, framed, framed_each, length_frame, count_sum, counts_1, section_frames, writes_1}

-- section 0
abbrev section0 : ℕ → ℕ → ℕ → ℕ → Section0
section0 discipline reserved₁ reserved₂ total =
    record {
      identifier = 71 ∷ 82 ∷ 73 ∷ 66 ∷ [];
      reserved = reserved₁ ∷ reserved₂ ∷ [];
      discipline = discipline;
      edition_num = 2;
      total_len = total;
    }

-- its fields one after the other
fields_frame : (discipline reserved₁ reserved₂ total : ℕ)
    → Frames (Section0-write_to_buffer (section0 discipline reserved₁ reserved₂ total)) (indicator_octets discipline reserved₁ reserved₂ total)
unfolding Section0-write_to_buffer indicator_octets
fields_frame discipline reserved₁ reserved₂ total buf room small =
    let mark : List ℕ = 71 ∷ 82 ∷ 73 ∷ 66 ∷ [] in
    let reserved : List ℕ = reserved₁ ∷ reserved₂ ∷ [] in
    let marked = then_field [] mark buf refl (omega arith) (omega arith) in
    let then-reserved = then_field mark reserved buf marked (omega arith) (omega arith) in
    let then-discipline = then_field (mark ++ reserved) (discipline ∷ []) buf then-reserved (omega arith) (omega arith) in
    let then-edition = then_field (mark ++ reserved ++ (discipline ∷ [])) (2 ∷ []) buf then-discipline (omega arith) (omega arith) in
    rw (bytes_8 total) (then_field (mark ++ reserved ++ (discipline ∷ []) ++ (2 ∷ [])) (digits 8 total) buf then-edition room small)

indicator_frames : (discipline reserved₁ reserved₂ total : ℕ)
    → Frames (write_section0 discipline (reserved₁ ∷ reserved₂ ∷ []) total) (indicator_octets discipline reserved₁ reserved₂ total)
unfolding write_section0
indicator_frames discipline reserved₁ reserved₂ total buf room small =
    let long = length_indicator discipline reserved₁ reserved₂ total in
    rw (le-ltb (length buf) 16 (omega arith))
    (then_frames (Section0-write_to_buffer (section0 discipline reserved₁ reserved₂ total)) []
    (indicator_octets discipline reserved₁ reserved₂ total) buf refl (fields_frame discipline reserved₁ reserved₂ total) room small)

-- section 8
end_frames : Frames write_section8 end_mark
unfolding write_section8
end_frames buf room small = rw (le-ltb (length buf) 4 room) (to_buffer_frames end_mark buf room small)

-- the total length
message_counts : (m : Grib2Message) → Grib2Message-num_octets m ≡ usize (16 + (length (framed (flattened m)) + 4))
unfolding Grib2Message-num_octets section_len flattened flat_map
message_counts m =
    let rest = flat_map flattened_l1 m.iter in
    let f = length (frame (1, m.section1)) in
    let r = length (framed rest) in
    let long : f ≡ length m.section1 + 5 = length_frame (1, m.section1) in
    let whole : length (frame (1, m.section1) ++ framed rest) ≡ f + r = length-append (frame (1, m.section1)) (framed rest) in
    let first : section_len m.section1 ≡ usize f = ap usize (sym long) in
    let sum_of : sum (map IterL1-num_octets m.iter) ≡ usize r = count_sum IterL1-num_octets flattened_l1 counts_1 m.iter in
    let all : usize 16 ⊞ usize f ⊞ usize r ⊞ usize 4 ≡ usize (16 + f + r + 4) =
    ap (λ (u : Usize). u ⊞ usize r ⊞ usize 4) (add_usize 16 f) ∙ ap (λ (u : Usize). u ⊞ usize 4) (add_usize (16 + f) r) ∙ add_usize (16 + f + r) 4 in
    let same : 16 + f + r + 4 ≡ 16 + (length (frame (1, m.section1) ++ framed rest) + 4) = omega arith in
    rw (first, sum_of) (all ∙ ap usize same)

-- the octets of a message
abbrev pub octets_of : Grib2Message → ℕ → List ℕ
octets_of m total = indicator_octets m.discipline m.reserved₁ m.reserved₂ total ++ (framed (flattened m) ++ end_mark)

-- as a number
counted : (m : Grib2Message) (total : ℕ) → total ≡ 16 + (length (framed (flattened m)) + 4) → Grib2Message-num_octets m ≡ usize total
counted m total is = message_counts m ∙ ap usize (sym is)

-- written into a buffer that holds them
writes_whole : (m : Grib2Message) (buf : List ℕ) (total : ℕ) → total ≡ 16 + (length (framed (flattened m)) + 4) → total ≤ length buf → total < usizes
    → Grib2Message-write m buf ≡ Ok total (octets_of m total ++ drop total buf)
unfolding Grib2Message-write flattened flat_map
writes_whole m buf total is room small =
    let start = indicator_octets m.discipline m.reserved₁ m.reserved₂ total in
    let first = frame (1, m.section1) in
    let rest = flat_map (λ (i : IterL1). framed (flattened_l1 i)) m.iter in
    let sixteen : length start ≡ 16 = length_indicator m.discipline m.reserved₁ m.reserved₂ total in
    let same : framed (flat_map flattened_l1 m.iter) ≡ rest = framed_each flattened_l1 m.iter in
    let middle : length (first ++ framed (flat_map flattened_l1 m.iter)) ≡ length first + length rest =
    length-append first (framed (flat_map flattened_l1 m.iter)) ∙ ap (λ (l : List ℕ). length first + length l) same in
    let two : length (start ++ first) ≡ 16 + length first = length-append start first ∙ ap (λ (n : ℕ). n + length first) sixteen in
    let three : length (start ++ first ++ rest) ≡ 16 + length first + length rest =
    length-append (start ++ first) rest ∙ ap (λ (n : ℕ). n + length rest) two in
    let four : length (start ++ first ++ rest ++ end_mark) ≡ total =
    length-append (start ++ first ++ rest) end_mark ∙ (omega arith) in
    let begun =
    then_frames _ [] start buf refl (indicator_frames m.discipline m.reserved₁ m.reserved₂ total) (omega arith) (omega arith) in
    let identified = then_frames _ start first buf begun (section_frames 1 m.section1) (omega arith) (omega arith) in
    let filled =
    ap (each IterL1-write m.iter) identified
    ∙ each_frames IterL1-write (λ (i : IterL1). framed (flattened_l1 i))
    (λ i b room small. writes_1 i b (record { room = room; small = small })) m.iter (start ++ first) buf (omega arith) (omega arith) in
    let whole : start ++ first ++ rest ++ end_mark ≡ octets_of m total =
    rw same
    (ap (λ (l : List ℕ). l ++ end_mark) (append_assoc start first rest) ∙ append_assoc start (first ++ rest) end_mark) in
    rw (counted m total is, lt-ltb total usizes small)
    (enough (TooSmall buf) _ (length buf) total room
    ∙ then_frames write_section8 (start ++ first ++ rest) end_mark buf filled end_frames (omega arith) (omega arith)
    ∙ rw (four, whole))

-- what the writer answers
pub message_writes : (m : Grib2Message) (buf : List ℕ) (total : ℕ) → total ≡ 16 + (length (framed (flattened m)) + 4)
    → Grib2Message-write m buf
    ≡ having (usize total) λ n. pick (ltb (length buf) n) (TooSmall buf) (Ok n (octets_of m total ++ drop n buf))
unfolding Grib2Message-write
message_writes m buf total is = go (ltb total usizes) (ltb (length buf) total) refl refl
  where
    go : (small full : Bool) → ltb total usizes ≡ small → ltb (length buf) total ≡ full
        → Grib2Message-write m buf
        ≡ having (pick small (size total) too_large) λ n. pick (ltb (length buf) n) (TooSmall buf) (Ok n (octets_of m total ++ drop n buf))
    go false full p q = rw (counted m total is, p)
    go true true p q = rw (counted m total is, p, q)
    go true false p q = rw q (writes_whole m buf total is (ltb-false (length buf) total q) (ltb-true total usizes p))
