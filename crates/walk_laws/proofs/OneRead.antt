-- A read is refused, good or over exactly when the rows of the section in hand say so.
use Rattle.std.specs.Prelude.{Option, Some, None}
use Prim.Native.Nat.{ℕ, ◌+◌, ◌-◌, ◌≤◌, ◌<◌}
use native.Mathlib.Omega.{arith}
use mathlib.Core.Path.{◌≡◌, refl, sym, subst, ◌∙◌}
use mathlib.Core.Bool.{Bool, true, false, not, ◌&&◌, ◌||◌}
use mathlib.Core.List.{List}
use mathlib.Core.Logic.{◌⊎◌, inl, inr}
use lib.Dec.{ltb, leb, eqb}
use lib.ListN.{length}
use borrow.Author.Tests.{ltb-true, ltb-false, leb-true, leb-false, eqb-true, eqb-false, lt-ltb, le-ltb, eq-eqb, ne_eqb}
use Rattle.octets.specs.Words.{Not}
use Rattle.sections.specs.Kinds.{least_payload_of, least_in, kind_of, kinds}
use Rattle.framing.specs.Search.{says, IsNextStart, next_start}
use Rattle.framing.specs.LaidOut.{FirstGrib, section_of, stated_length, stated_number}
use Rattle.framing.specs.Framing.{refused_at, indicator_at, end_at, is_cut, missing, payload_at, header_at, message_at, read_at}
use Rattle.framing.specs.declared.read.Section.{Section as Listed}
use Rattle.framing.specs.declared.read.Fault.{Fault}
use Rattle.framing.specs.Read.{Read}
use Rattle.framing.specs.Read.{Section, Over}
use Rattle.framing.proofs.Tests.{by_test, never_both, and_both, or_neither}
use Rattle.framing.proofs.NextStart.{is_start, next_start_first}
use Rattle.framing.proofs.LaidOut.{spells, says_so, first_grib}
use Rattle.framing.proofs.OneLayout.{one_grib}
use Rattle.index.specs.Numbers.{fault_number, fault_detail}
use Rattle.walk_laws.specs.Rows.{Rows, FirstRow}
use Rattle.walk_laws.specs.ExactlyWhen.{left, edition, total, rows0, HeaderCut, LengthUnder5, NumberNot1To7, payload, PayloadCut, IndicatorCut, least_octets, rows_behind_header, InHand, hand0, hand8, behind_header, NoneInHand, no_start, no_octet, CannotBeRead, WellRead}
use Rattle.walk_laws.proofs.Rows.{first_same, first_holds}
use Rattle.sections.specs.declared.kinds.Kind.{Kind}

-- what holds of any offset and rows holds of the section in hand
pub in_hand_lem : {file : List ℕ} {at rest : ℕ} {So : Listed → ℕ → Rows → Type 0} {A : Type 0}
    → InHand file at rest So → ((s : Listed) (behind : ℕ) (rows : Rows) → So s behind rows → A) → A
in_hand_lem (hand0 p q so) then = then _ _ _ so
in_hand_lem (hand8 p q so) then = then _ _ _ so
in_hand_lem (behind_header p q i so) then = then _ _ _ so

module _ (file : List ℕ) (at rest : ℕ) where
  -- there is one section in hand
  module _ (P Q : Listed → ℕ → Rows → Type 0) where
    pub both : InHand file at rest P → InHand file at rest Q → InHand file at rest (λ s behind rows. P s behind rows × Q s behind rows)
    both (hand0 {g} z first p) (hand0 {g = g'} z' first' q) =
        let same : g' ≡ g = one_grib file at g' g first' first in
        hand0 z first (p, subst (λ (x : ℕ). Q (section_of 0 x 16) (total file x - 16) (rows0 file x)) same q)
    both (hand0 z first p) (hand8 z' i q) = absurd (omega arith)
    both (hand0 z first p) (behind_header a b i q) = absurd (a z)
    both (hand8 z i p) (hand0 z' first q) = absurd (omega arith)
    both (hand8 z i p) (hand8 z' i' q) = hand8 z i (p, q)
    both (hand8 z i p) (behind_header a b i' q) = absurd (b z)
    both (behind_header a b i p) (hand0 z first q) = absurd (a z)
    both (behind_header a b i p) (hand8 z i' q) = absurd (b z)
    both (behind_header a b i p) (behind_header a' b' i' q) = behind_header a b i (p, q)

  -- or none
  pub none_there : (So : Listed → ℕ → Rows → Type 0) → InHand file at rest So → NoneInHand file at rest → ⊥
  none_there So (hand0 {g} z first p) (no_start z' none) = none g first.0 first.1
  none_there So (hand0 z first p) (no_octet a i) = a z
  none_there So (hand8 z i p) (no_start z' none) = omega arith
  none_there So (hand8 z i p) (no_octet a i') = omega arith
  none_there So (behind_header a b i p) (no_start z none) = a z
  none_there So (behind_header a b i p) (no_octet a' i') = omega arith

  pub same_refusal : (n o d n' o' d' : ℕ) → CannotBeRead file at rest n o d → CannotBeRead file at rest n' o' d'
      → (n ≡ n') × (o ≡ o') × (d ≡ d')
  same_refusal n o d n' o' d' p q =
      in_hand_lem (both _ _ p q)
      (λ s behind rows so. let same = first_same rows n d n' d' so.0.1 so.1.1 in (same.0, so.0.0 ∙ sym so.1.0, same.1))

  pub never_well : (n o d : ℕ) (s : Listed) (rest' : ℕ) → CannotBeRead file at rest n o d → WellRead file at rest s rest' → ⊥
  never_well n o d s rest' p q = in_hand_lem (both _ _ p q) (λ here behind rows so. first_holds rows n d so.0.1 so.1.2)

  pub same_section : (s s' : Listed) (left left' : ℕ) → WellRead file at rest s left → WellRead file at rest s' left'
      → (s ≡ s') × (left ≡ left')
  same_section s s' left left' p q =
      in_hand_lem (both _ _ p q) (λ here behind rows so. (so.0.0 ∙ sym so.1.0, so.0.1 ∙ sym so.1.1))

-- the sections with a header are 1 to 7
data Headed (n : ℕ) : Option ℕ → Type 0 where
  headed : {least : ℕ} → 1 ≤ n → n ≤ 7 → least_octets n ≡ least → Headed n (Some least)
  bare : Not ((1 ≤ n) × (n ≤ 7)) → Headed n None

by_kind : (n : ℕ) → Headed n (least_payload_of n)
unfolding least_payload_of kind_of kinds
by_kind n =
    by_test H (eqb n 0) (λ e. let z = eqb-true n 0 e in bare (λ h. omega (arith, h.0))) λ e0.
    by_test H (eqb n 1) (λ e. let z = eqb-true n 1 e in headed (omega arith) (omega arith) (rw z refl)) λ e1.
    by_test H (eqb n 2) (λ e. let z = eqb-true n 2 e in headed (omega arith) (omega arith) (rw z refl)) λ e2.
    by_test H (eqb n 3) (λ e. let z = eqb-true n 3 e in headed (omega arith) (omega arith) (rw z refl)) λ e3.
    by_test H (eqb n 4) (λ e. let z = eqb-true n 4 e in headed (omega arith) (omega arith) (rw z refl)) λ e4.
    by_test H (eqb n 5) (λ e. let z = eqb-true n 5 e in headed (omega arith) (omega arith) (rw z refl)) λ e5.
    by_test H (eqb n 6) (λ e. let z = eqb-true n 6 e in headed (omega arith) (omega arith) (rw z refl)) λ e6.
    by_test H (eqb n 7) (λ e. let z = eqb-true n 7 e in headed (omega arith) (omega arith) (rw z refl)) λ e7.
    let other = bare (above e0 e1 e2 e3 e4 e5 e6 e7) in
    by_test H (eqb n 8) (λ e. other) λ e. other
  where
    H : Option Kind → Type 0
    H kind = Headed n (least_in kind)

    above : eqb n 0 ≡ false → eqb n 1 ≡ false → eqb n 2 ≡ false → eqb n 3 ≡ false → eqb n 4 ≡ false → eqb n 5 ≡ false
        → eqb n 6 ≡ false → eqb n 7 ≡ false → Not ((1 ≤ n) × (n ≤ 7))
    above e0 e1 e2 e3 e4 e5 e6 e7 h =
        let a : 2 ≤ n = more 1 h.0 e1 in
        let b : 3 ≤ n = more 2 a e2 in
        let c : 4 ≤ n = more 3 b e3 in
        let d : 5 ≤ n = more 4 c e4 in
        let f : 6 ≤ n = more 5 d e5 in
        let g : 7 ≤ n = more 6 f e6 in
        let k : 8 ≤ n = more 7 g e7 in
        omega (arith, h.1)
      where
        more : (k : ℕ) → k ≤ n → eqb n k ≡ false → k + 1 ≤ n
        more k low e = let other = eqb-false n k e in omega arith

-- all that a read can be
pub data Tells (file : List ℕ) (at rest : ℕ) : Read → Type 0 where
  refuses : {fault : Fault} {o : ℕ} → CannotBeRead file at rest (fault_number fault) o (fault_detail fault)
      → Tells file at rest (refused_at fault o)
  reads : {s : Listed} {rest' : ℕ} → WellRead file at rest s rest'
      → Tells file at rest (Section s (record { at = record { 0 = s.offset.0 + s.length }; rest = rest' }))
  over : NoneInHand file at rest → Tells file at rest Over

-- the payload is cut where the test says so, of a section 1 to 7 with its whole header in the file
cut_is : (n l m : ℕ) → is_cut n l m ≡ true → 5 ≤ m → 5 ≤ l → n ≤ 7
    → ((n ≤ 6) × (m < l)) ⊎ ((n ≡ 6) × (l ≡ 5) × (m ≡ 5))
unfolding is_cut
cut_is n l m e l5 n5 hi = go (eqb n 7) (ltb m l) refl refl e
  where
    go : (b c : Bool) → eqb n 7 ≡ b → ltb m l ≡ c → (not b && (c || (eqb n 6 && ltb m 6))) ≡ true
        → ((n ≤ 6) × (m < l)) ⊎ ((n ≡ 6) × (l ≡ 5) × (m ≡ 5))
    go true c p q h = let y : ◌≡◌ {A = ℕ} 0 1 = cc in absurd (omega arith)
    go false true p q h = let other = eqb-false n 7 p in inl (omega arith, ltb-true m l q)
    go false false p q h =
        let six = and_both _ _ h in
        let a = eqb-true n 6 six.0 in
        let b = ltb-true m 6 six.1 in
        let c = ltb-false m l q in
        inr (a, omega arith, omega arith)

whole_is : (n l m : ℕ) → is_cut n l m ≡ false
    → Not ((n ≤ 6) × (m < l)) × Not ((n ≡ 6) × (m ≡ 5))
unfolding is_cut
whole_is n l m e = (past, bare)
  where
    tests : Not (n ≡ 7) → (ltb m l ≡ false) × ((eqb n 6 && ltb m 6) ≡ false)
    tests other = or_neither _ _ (rw (ne_eqb n 7 other) at e)

    past : Not ((n ≤ 6) × (m < l))
    past (low, h) = let k = ltb-false m l (tests (λ z. omega arith)).0 in omega arith

    bare : Not ((n ≡ 6) × (m ≡ 5))
    bare (six, five) =
        let f : ltb m 6 ≡ false = rw (eq-eqb n 6 six) at (tests (λ z. omega arith)).1 in
        let z = ltb-false m 6 f in
        omega arith

-- how much is missing of it
missing_past : (l m : ℕ) → m < l → missing l m ≡ l - m
unfolding missing
missing_past l m h = rw (lt-ltb m l h) refl

missing_none_past : (l m : ℕ) → l ≤ m → missing l m ≡ 1
unfolding missing
missing_none_past l m h = rw (le-ltb m l h) refl

module _ (file : List ℕ) (at rest : ℕ) where
  abbrev T : Read → Type 0
  T = Tells file at rest

  tells_indicator : (g : ℕ) → rest ≡ 0 → FirstGrib file at g → T (indicator_at file g)
  unfolding indicator_at fault_number fault_detail
  tells_indicator g z first =
      by_test T (not (eqb (edition file g) 2)) (λ e. refuses (hand0 z first (refl, inl (not-true _ _ e, refl, refl)))) λ e.
      let same = not-false _ _ e in
      by_test T (ltb (total file g) 16)
      (λ e. refuses (hand0 z first (refl, inr ((λ other. other same), inl (ltb-true _ _ e, refl, refl))))) λ e.
      reads (hand0 z first (refl, refl, ((λ other. other same), ((λ under. let k = ltb-false (total file g) 16 e in omega arith), tt))))
    where
      not-true : (a b : ℕ) → not (eqb a b) ≡ true → Not (a ≡ b)
      not-true a b e same = let y : ◌≡◌ {A = ℕ} 0 1 = cc (eq-eqb a b same) in omega arith

      not-false : (a b : ℕ) → not (eqb a b) ≡ false → a ≡ b
      not-false a b e = go (eqb a b) refl e
        where
          go : (t : Bool) → eqb a b ≡ t → not t ≡ false → a ≡ b
          go true p q = eqb-true a b p
          go false p q = let y : ◌≡◌ {A = ℕ} 0 1 = cc in absurd (omega arith)

  tells_message : (found : Option ℕ) → rest ≡ 0 → IsNextStart file at found → T (message_at file found)
  unfolding message_at
  tells_message (Some g) z first = tells_indicator g z (first_grib file at g first)
  tells_message None z none = over (no_start z (λ g from (room, letters). none g from (is_start file g room (says_so file g 71 82 73 66 letters))))

  module _ (inside : at < length file) where
    tells_end : rest ≡ 4 → T (end_at file at)
    unfolding end_at fault_number fault_detail
    tells_end last =
        by_test T (ltb (left file at) 4)
        (λ e.
        let k = ltb-true (left file at) 4 e in
        refuses (hand8 last inside (refl, inl ((omega arith, omega arith), refl, refl)))) λ e.
        let no2 : Not ((1 ≤ left file at) × (left file at ≤ 3)) = λ h. let k = ltb-false (left file at) 4 e in omega (arith, h.1) in
        by_test T (says file at 55 55 55 55)
        (λ e. reads (hand8 last inside (refl, refl, (no2, ((λ other. other (spells file at 55 55 55 55 e)), tt))))) λ e.
        refuses (hand8 last inside (refl, inr (no2, inl ((λ there. never_both (says_so file at 55 55 55 55 there) e), refl, refl))))

    module _ (within : Not (rest ≡ 0)) (not_last : Not (rest ≡ 4)) where
      refuses_here : (fault : Fault) → FirstRow (rows_behind_header file at rest) (fault_number fault) (fault_detail fault) → T (refused_at fault at)
      refuses_here fault first = refuses (behind_header within not_last inside (refl, first))

      -- the first row of a section whose payload is cut
      cut_row : Not (HeaderCut file at) → Not (LengthUnder5 file at) → Not (NumberNot1To7 file at) → 1 ≤ stated_number file at
          → ((stated_number file at ≤ 6) × (left file at < stated_length file at))
          ⊎ ((stated_number file at ≡ 6) × (stated_length file at ≡ 5) × (left file at ≡ 5))
          → FirstRow (rows_behind_header file at rest) 2 (missing (stated_length file at) (left file at))
      cut_row no2 no6 no7 low (inl (high, short)) =
          let count = missing_past (stated_length file at) (left file at) short in
          inr (no2, inr (no6, inr (no7, inl ((low, high, omega arith), refl, omega arith))))
      cut_row no2 no6 no7 low (inr (six, size, ends)) =
          let count = missing_none_past (stated_length file at) (left file at) (omega arith) in
          inr (no2, inr (no6, inr (no7, inr ((λ h. omega (arith, h.2)), inl ((six, size, omega arith), refl, count)))))

      tells_payload : (least : Option ℕ) → least_payload_of (stated_number file at) ≡ least → Headed (stated_number file at) least
          → 5 ≤ left file at → 5 ≤ stated_length file at
          → T (payload_at least at (stated_number file at) (stated_length file at) (left file at) rest)
      unfolding payload_at fault_number fault_detail
      tells_payload None kind (bare other) l5 n5 =
          refuses_here _ (inr ((λ h. omega (arith, h.1)), inr ((λ h. omega arith), inl (other, refl, refl))))
      tells_payload (Some least) kind (headed low high same) l5 n5 =
          let no2 : Not ((1 ≤ left file at) × (left file at ≤ 4)) = λ h. omega (arith, h.1) in
          let no6 : Not (stated_length file at < 5) = λ h. omega arith in
          let no7 : Not (Not ((1 ≤ stated_number file at) × (stated_number file at ≤ 7))) = λ h. h (low, high) in
          by_test T (is_cut (stated_number file at) (stated_length file at) (left file at))
          (λ e. refuses_here _ (cut_row no2 no6 no7 low (cut_is _ _ _ e l5 n5 high))) λ e.
          let whole = whole_is _ _ _ e in
          let no2' : Not (PayloadCut file at) = λ h. whole.0 (h.1, omega (arith, h.2)) in
          let no2'' : Not (IndicatorCut file at) = λ h. whole.1 (h.0, omega (arith, h.1, h.2)) in
          by_test T (ltb (payload file at) least)
          (λ e. refuses_here _ (inr (no2, inr (no6, inr (no7, inr (no2', inr (no2'', inl (rw same (ltb-true _ _ e), refl, refl)))))))) λ e.
          let no8 : Not (payload file at < least_octets (stated_number file at)) =
          rw same (λ h. let k = ltb-false (payload file at) least e in omega arith) in
          by_test T (ltb rest (stated_length file at))
          (λ e. refuses_here _ (inr (no2, inr (no6, inr (no7, inr (no2', inr (no2'', inr (no8, inl (ltb-true _ _ e, refl, refl))))))))) λ e.
          let no9 : Not (rest < stated_length file at) = λ h. let k = ltb-false rest (stated_length file at) e in omega arith in
          reads (behind_header within not_last inside (refl, refl, (no2, (no6, (no7, (no2', (no2'', (no8, (no9, tt)))))))))

      tells_header : T (header_at file at rest)
      unfolding header_at fault_number fault_detail
      tells_header =
          by_test T (ltb (left file at) 5)
          (λ e. let k = ltb-true (left file at) 5 e in refuses_here _ (inl ((omega arith, omega arith), refl, refl))) λ e.
          let l5 = ltb-false (left file at) 5 e in
          by_test T (ltb (stated_length file at) 5)
          (λ e. refuses_here _ (inr ((λ h. omega (arith, h.1)), inl (ltb-true _ _ e, refl, refl)))) λ e.
          tells_payload (least_payload_of (stated_number file at)) refl (by_kind (stated_number file at)) l5 (ltb-false _ _ e)

  pub tells : T (read_at file at rest)
  unfolding read_at
  tells =
      by_test T (eqb rest 0) (λ e. tells_message (next_start file at) (eqb-true _ _ e) (next_start_first file at)) λ within.
      let some = eqb-false rest 0 within in
      by_test T (leb (length file) at) (λ e. over (no_octet some (leb-true _ _ e))) λ e.
      let inside = leb-false (length file) at e in
      by_test T (eqb rest 4) (λ e. tells_end inside (eqb-true _ _ e)) λ e. tells_header inside some (eqb-false rest 4 e)

-- a read that is refused, with its number and detail
pub record ReadRefused (file : List ℕ) (at rest n offset d : ℕ) : Type 0 where
  pub fault : Fault
  pub refuses : read_at file at rest ≡ refused_at fault offset
  pub numbered : n ≡ fault_number fault
  pub detailed : d ≡ fault_detail fault

-- the rows say what is read
pub unreadable_refused : (file : List ℕ) (at rest n o d : ℕ) → CannotBeRead file at rest n o d → ReadRefused file at rest n o d
unreadable_refused file at rest n o d v = go (read_at file at rest) refl (tells file at rest)
  where
    go : (r : Read) → read_at file at rest ≡ r → Tells file at rest r → ReadRefused file at rest n o d
    go _ e (refuses {fault} {o = o'} u) =
        let same = same_refusal file at rest n o d (fault_number fault) o' (fault_detail fault) v u in
        record { fault = fault; refuses = rw same.1 e; numbered = same.0; detailed = same.2 }
    go _ e (reads {s} {rest'} w) = absurd (never_well file at rest n o d s rest' v w)
    go _ e (over z) = absurd (none_there file at rest _ v z)

pub section_there : (file : List ℕ) (at rest : ℕ) (s : Listed) (rest' : ℕ) → WellRead file at rest s rest'
    → read_at file at rest ≡ Section s (record { at = record { 0 = s.offset.0 + s.length }; rest = rest' })
section_there file at rest s rest' v = go (read_at file at rest) refl (tells file at rest)
  where
    go : (r : Read) → read_at file at rest ≡ r → Tells file at rest r
        → read_at file at rest ≡ Section s (record { at = record { 0 = s.offset.0 + s.length }; rest = rest' })
    go _ e (refuses {fault} {o} u) = absurd (never_well file at rest (fault_number fault) o (fault_detail fault) s rest' u v)
    go _ e (reads {s = s'} {rest' = left} w) =
        let same = same_section file at rest s s' rest' left v w in rw (same.0, same.1) e
    go _ e (over z) = absurd (none_there file at rest _ v z)

pub none_read : (file : List ℕ) (at rest : ℕ) → NoneInHand file at rest → read_at file at rest ≡ Over
none_read file at rest v = go (read_at file at rest) refl (tells file at rest)
  where
    go : (r : Read) → read_at file at rest ≡ r → Tells file at rest r → read_at file at rest ≡ Over
    go _ e (refuses u) = absurd (none_there file at rest _ u v)
    go _ e (reads w) = absurd (none_there file at rest _ w v)
    go _ e (over z) = e
