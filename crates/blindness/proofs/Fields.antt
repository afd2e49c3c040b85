-- What is decoded of a section of two files, and where its message lies: the decoders look at no values octet.
use Prim.Native.Nat.{ℕ, ◌+◌, ◌-◌, ◌≤◌, ◌<◌}
use native.Mathlib.Omega.{arith}
use mathlib.Core.Path.{◌≡◌, refl, sym, ap, ◌∙◌}
use mathlib.Core.Bool.{Bool, true, false, ◌&&◌}
use mathlib.Core.List.{List, [], ◌∷◌}
use lib.Dec.{eqb}
use lib.ListN.{length, get_or, drop, length-take, length-drop}
use lib.Seq.{get_or-take, get_or-drop, ext_get_or}
use borrow.Author.Tests.{eqb-true}
use Rattle.octets.specs.BigEndian.{be_at}
use Rattle.sections.specs.Indicator.{indicator_of}
use Rattle.sections.specs.Identification.{identification_of}
use Rattle.sections.specs.GridDefinition.{grid_definition_of}
use Rattle.sections.specs.ReprDefinition.{repr_definition_of}
use Rattle.sections.specs.BitMap.{bit_map_of}
use Rattle.framing.specs.declared.read.Section.{Section}
use Rattle.index.specs.Lines.{span}
use Rattle.index.specs.Walk.{span_at, span_behind}
use Rattle.publish.specs.Values.{Terms, in_stretch, in_span, in_message}
use Rattle.index.specs.Decoded.{own_octets, payload_of, product_section_of, fields_of, decoded, of_indicator, of_identification, of_grid, of_product, of_representation, of_bit_map}
use Rattle.blindness.proofs.Spared.{Each, Still, Spared}
use Rattle.blindness.proofs.Reading.{same_pick, every_octet, be_agree}
use Rattle.blindness.proofs.Alike.{Seen}
use Rattle.blindness.proofs.Walks.{SameSpan}

-- octets of two lists that are equal, from one index up to another
abbrev Same : List ℕ → List ℕ → ℕ → ℕ → Type 0
Same s t from to = (i : ℕ) → from ≤ i → i < to → get_or s i 0 ≡ get_or t i 0

-- the decoders, of octets that are equal where they look
module _ (s t : List ℕ) (same : length s ≡ length t) where
  indicator_same : Same s t 6 7 → Same s t 8 16 → indicator_of s ≡ indicator_of t
  unfolding indicator_of
  indicator_same d h = rw (same, d 6 (omega arith) (omega arith), be_agree s t 8 8 (λ k a b. h k a (omega arith)))

  identification_same : Same s t 0 16 → identification_of s ≡ identification_of t
  unfolding identification_of
  identification_same h =
      let o : (i : ℕ) → i < 16 → get_or s i 0 ≡ get_or t i 0 = λ i a. h i (omega arith) a in
      let two : (at : ℕ) → at + 2 ≤ 16 → be_at s at 2 ≡ be_at t at 2 = λ at room. be_agree s t 2 at (λ k a b. o k (omega arith)) in
      rw (same, two 0 (omega arith), two 2 (omega arith), two 7 (omega arith))
      (rw (o 4 (omega arith), o 5 (omega arith), o 6 (omega arith), o 9 (omega arith), o 10 (omega arith))
      (rw (o 11 (omega arith), o 12 (omega arith), o 13 (omega arith), o 14 (omega arith), o 15 (omega arith))))

  grid_same : Same s t 1 5 → Same s t 7 9 → grid_definition_of s ≡ grid_definition_of t
  unfolding grid_definition_of
  grid_same a b = rw (same, be_agree s t 4 1 (λ k c d. a k c (omega arith)), be_agree s t 2 7 (λ k c d. b k c (omega arith)))

  representation_same : Same s t 0 6 → repr_definition_of s ≡ repr_definition_of t
  unfolding repr_definition_of
  representation_same h =
      rw (same, be_agree s t 4 0 (λ k c d. h k c (omega arith)), be_agree s t 2 4 (λ k c d. h k (omega arith) (omega arith)))

  bit_map_same : Same s t 0 1 → bit_map_of s ≡ bit_map_of t
  unfolding bit_map_of
  bit_map_same h = rw (same, h 0 (omega arith) (omega arith))

  -- a section 4 is equal as a whole
  product_same : ((i : ℕ) → get_or s i 0 ≡ get_or t i 0) → product_section_of s ≡ product_section_of t
  product_same h = ap product_section_of (ext_get_or 0 s t same (λ i _. h i))

module _ (terms : Terms) (spared : Spared terms) (f g : List ℕ) (same : length f ≡ length g) where
  module _ (s : Section) (seen : Seen terms f g s) where
    octets_length : length (own_octets f s) ≡ length (own_octets g s)
    unfolding own_octets
    octets_length = simp (length-take, length-drop, same)

    octets_short : length (own_octets f s) ≤ s.length
    unfolding own_octets
    octets_short = simp length-take (omega arith)

    octet_of_lem : (h : List ℕ) (i : ℕ) → i < s.length → get_or (own_octets h s) i 0 ≡ get_or h (s.offset.0 + i) 0
    unfolding own_octets
    octet_of_lem h i a = get_or-take s.length (drop s.offset.0 h) i 0 a ∙ get_or-drop s.offset.0 h i 0

    -- an octet of the section that is no value
    octet_same : (i : ℕ) → in_stretch (terms s.number) i ≡ false → get_or (own_octets f s) i 0 ≡ get_or (own_octets g s) i 0
    octet_same i h =
        every_octet (own_octets f s) (own_octets g s) octets_length i (λ a.
        let b : i < s.length = omega (arith, octets_short) in octet_of_lem f i b ∙ seen.same_octet i b h ∙ sym (octet_of_lem g i b))

    payload_length : length (payload_of f s) ≡ length (payload_of g s)
    unfolding payload_of
    payload_length = simp (length-drop, octets_length)

    payload_same : (i : ℕ) → in_stretch (terms s.number) (5 + i) ≡ false → get_or (payload_of f s) i 0 ≡ get_or (payload_of g s) i 0
    unfolding payload_of
    payload_same i h = get_or-drop 5 (own_octets f s) i 0 ∙ octet_same (5 + i) h ∙ sym (get_or-drop 5 (own_octets g s) i 0)

    -- octets of the payload, from a look
    payload_still : (number first last : ℕ) → s.number ≡ number → Still terms number first last → (from to : ℕ) → first ≤ from + 6
        → to + 5 ≤ last → Same (payload_of f s) (payload_of g s) from to
    payload_still number first last e still from to p q i a b =
        payload_same i (rw e (still (5 + i) (omega arith) (omega arith)))

    octets_still : (number first last : ℕ) → s.number ≡ number → Still terms number first last → (from to : ℕ) → first ≤ from + 1
        → to ≤ last → Same (own_octets f s) (own_octets g s) from to
    octets_still number first last e still from to p q i a b = octet_same i (rw e (still i (omega arith) (omega arith)))

    pub fields_same : fields_of f s ≡ fields_of g s
    unfolding fields_of
    fields_same =
        same_pick (eqb n 0)
        (λ e. ap of_indicator (indicator_same (own_octets f s) (own_octets g s) octets_length
        (octets_still 0 7 7 (eqb-true n 0 e) spared.discipline 6 7 (omega arith) (omega arith))
        (octets_still 0 8 16 (eqb-true n 0 e) spared.total 8 16 (omega arith) (omega arith)))) λ _.
        same_pick (eqb n 1)
        (λ e. ap of_identification (identification_same p q payload_length
        (payload_still 1 6 21 (eqb-true n 1 e) spared.identification 0 16 (omega arith) (omega arith)))) λ _.
        same_pick (eqb n 3)
        (λ e. ap of_grid (grid_same p q payload_length
        (payload_still 3 7 10 (eqb-true n 3 e) spared.grid_points 1 5 (omega arith) (omega arith))
        (payload_still 3 13 14 (eqb-true n 3 e) spared.grid_template 7 9 (omega arith) (omega arith)))) λ _.
        same_pick (eqb n 4)
        (λ e. ap of_product (product_same p q payload_length
        (λ i. payload_same i (rw (eqb-true n 4 e) (spared.product (5 + i) (omega arith)))))) λ _.
        same_pick (eqb n 5)
        (λ e. ap of_representation (representation_same p q payload_length
        (payload_still 5 6 11 (eqb-true n 5 e) spared.representation 0 6 (omega arith) (omega arith)))) λ _.
        same_pick (eqb n 6)
        (λ e. ap of_bit_map (bit_map_same p q payload_length
        (payload_still 6 6 6 (eqb-true n 6 e) spared.bit_map_lem 0 1 (omega arith) (omega arith)))) λ _. refl
      where
        n : ℕ
        n = s.number

        p : List ℕ
        p = payload_of f s

        q : List ℕ
        q = payload_of g s

    -- a section 0 says how long its message is, and the same in both
    total_same : s.number ≡ 0 → be_at f (s.offset.0 + 8) 8 ≡ be_at g (s.offset.0 + 8) 8
    total_same e =
        be_agree f g 8 (s.offset.0 + 8) λ k a b.
        let size = seen.sixteen e in
        let i : s.offset.0 + (k - s.offset.0) ≡ k = omega arith in
        let h = seen.same_octet (k - s.offset.0) (omega arith) (rw e (spared.total (k - s.offset.0) (omega arith) (omega arith))) in
        rw i at h

    pub span_same : SameSpan f g s
    unfolding span_behind span_at
    span_same before =
        same_pick (eqb s.number 0) (λ e. ap (span s.offset) (total_same (eqb-true s.number 0 e))) (λ other. refl)

    -- so its message lies in the same octets
    message_same : (k : ℕ)
        → (eqb s.number 0 && in_span s.offset.0 (be_at f (s.offset.0 + 8) 8) k)
        ≡ (eqb s.number 0 && in_span s.offset.0 (be_at g (s.offset.0 + 8) 8) k)
    message_same k = go (eqb s.number 0) refl
      where
        o : ℕ
        o = s.offset.0

        go : (t : Bool) → eqb s.number 0 ≡ t → (t && in_span o (be_at f (o + 8) 8) k) ≡ (t && in_span o (be_at g (o + 8) 8) k)
        go true e = rw (total_same (eqb-true s.number 0 e))
        go false e = refl

  pub spans_same : (sections : List Section) → Each (Seen terms f g) sections → Each (SameSpan f g) sections
  spans_same [] seen = tt
  spans_same (s ∷ more) seen = (span_same s seen.0, spans_same more seen.1)

  pub decoded_same : (sections : List Section) → Each (Seen terms f g) sections → decoded f sections ≡ decoded g sections
  unfolding decoded
  decoded_same [] seen = refl
  decoded_same (s ∷ more) seen = let a = fields_same s seen.0 in let b = decoded_same more seen.1 in cc

  pub messages_same : (sections : List Section) → Each (Seen terms f g) sections → (k : ℕ)
      → in_message f sections k ≡ in_message g sections k
  unfolding in_message
  messages_same [] seen k = refl
  messages_same (s ∷ more) seen k = let a = message_same s seen.0 k in let b = messages_same more seen.1 k in cc
