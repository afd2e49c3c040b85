-- What the loop remembers is what is in force: the numbers, and the sections 0 and 4 that stand at
-- the places kept. So the entry of what is remembered is that of the line.
use Rattle.std.specs.Prelude.{Option, Some, None}
use Prim.Native.Nat.{ℕ, zero, suc, ◌+◌, ◌<◌}
use native.Mathlib.Omega.{arith}
use mathlib.Core.Path.{◌≡◌, refl, sym, ap, subst₂, ◌∙◌}
use mathlib.Core.Bool.{false}
use mathlib.Core.List.{List, [], ◌∷◌}
use lib.Dec.{ltb, eqb}
use lib.ListN.{length, take, drop, length-set}
use lib.Seq.{get_or-set_same, get_or-set_other}
use borrow.Author.Tests.{eqb-true, eqb-false, eq-eqb, ne_eqb, ltb-false}
use Rattle.octets.specs.Words.{Not}
use Rattle.sections.specs.Indicator.{indicator_of}
use Rattle.products.specs.Products.{product_of}
use Rattle.products.specs.declared.templates.TemplateReading.TheVariants.{ByManual}
use Rattle.products.specs.declared.Product.{Product}
use Rattle.framing.specs.declared.read.Section.{Section}
use Rattle.framing.proofs.Tests.{by_test, never_both}
use Rattle.order.specs.Order.{is_between}
use Rattle.order.specs.declared.Place.{Place}
use Rattle.order.specs.declared.Order.{Order}
use Rattle.order.specs.declared.Order.TheVariants.{BetweenMessages, AfterData, SubmessageStart}
use Rattle.index.specs.Lines.{place, opened, in_force, with_submessage, line_of}
use Rattle.index.specs.Walk.{span_at, span_behind, comes_in_force}
use Rattle.index.specs.Decoded.{
  SectionFields,
  of_indicator,
  of_product,
  own_octets,
  payload_of,
  product_section_of,
  fields_of,
  decoded,
}
use Rattle.index.specs.declared.line.Force.{Force}
use Rattle.index.specs.declared.line.Line.{Line}
use Rattle.index.proofs.Fitting.{level, Fitting, opening, within}
use Rattle.index.proofs.InForce.{kept}
use Rattle.inventory.specs.Inventory.{
  for_each,
  stands_at,
  indicator_in,
  product_in,
  entry_with,
  entry_at,
}
use Rattle.inventory.specs.Memory.{memory_of, with_section}
use Rattle.inventory.specs.Lines.{entries_in}
use Rattle.inventory.specs.declared.memory.Memory.{Memory}
use Rattle.sections.specs.declared.indicator.Indicator.{Indicator}

-- a section comes in force at a place, and other places stay
module _ (f : Force) (n : ℕ) (c : ℕ) where
  abbrev after : Force
  after = in_force f n (place c)

  same_numbers : (after.message ≡ f.message) × (after.submessage ≡ f.submessage)
      × (length after.places ≡ length f.places)
  unfolding in_force
  same_numbers =
      by_test So (eqb n 2) (λ e. (refl, refl, refl)) λ e.
      by_test So (ltb n 8) (λ low. (refl, refl, length-set f.places n (place c)))
      (λ high. (refl, refl, refl))
    where
      So : Force → Type 0
      So g = (g.message ≡ f.message) × (g.submessage ≡ f.submessage)
          × (length g.places ≡ length f.places)

  kept_other : (k : ℕ) → Not (k ≡ n) → kept after k ≡ kept f k
  unfolding in_force
  kept_other k other =
      by_test (λ (g : Force). kept g k ≡ kept f k) (eqb n 2) (λ e. refl) λ e.
      by_test (λ (g : Force). kept g k ≡ kept f k) (ltb n 8)
      (λ low. ap (λ (p : Place). p.0) (get_or-set_other f.places n k (place c) (place 0) other))
      (λ high. refl)

  kept_new : length f.places ≡ 8 → n < 8 → Not (n ≡ 2) → kept after n ≡ c
  unfolding in_force
  kept_new room low other =
      by_test (λ (g : Force). kept g n ≡ c) (eqb n 2) (λ e. absurd (other (eqb-true n 2 e))) λ e.
      by_test (λ (g : Force). kept g n ≡ c) (ltb n 8)
      (λ l. ap (λ (p : Place). p.0)
      (get_or-set_same f.places n (place c) (place 0) (omega arith)))
      (λ high. absurd (omega (arith, ltb-false n 8 high)))

-- and in memory
module _ (m : Memory) (s : Section) where
  pub memory_numbers : ((with_section m s).message ≡ m.message)
      × ((with_section m s).submessage ≡ m.submessage)
  unfolding with_section
  memory_numbers =
      by_test So (eqb s.number 0) (λ e. (refl, refl))
      λ e. by_test So (eqb s.number 4) (λ f. (refl, refl)) (λ f. (refl, refl))
    where
      So : Memory → Type 0
      So x = (x.message ≡ m.message) × (x.submessage ≡ m.submessage)

  zeroth_new : s.number ≡ 0 → (with_section m s).zeroth ≡ s
  unfolding with_section
  zeroth_new e = rw e

  zeroth_other : Not (s.number ≡ 0) → (with_section m s).zeroth ≡ m.zeroth
  unfolding with_section
  zeroth_other other = rw (ne_eqb s.number 0 other)
      (by_test (λ (x : Memory). x.zeroth ≡ m.zeroth) (eqb s.number 4) (λ e. refl) (λ e. refl))

  fourth_new : s.number ≡ 4 → (with_section m s).fourth ≡ s
  unfolding with_section
  fourth_new e = rw e

  fourth_other : Not (s.number ≡ 4) → (with_section m s).fourth ≡ m.fourth
  unfolding with_section
  fourth_other other = rw (ne_eqb s.number 4 other)
      (by_test (λ (x : Memory). x.fourth ≡ m.fourth) (eqb s.number 0) (λ e. refl) (λ e. refl))

module _ (told : List Section) where
  -- a section of this number is told at a place
  pub record StandsThere (number p : ℕ) (s : Section) : Type 0 where
    pub there : stands_at p told ≡ s ∷ []
    pub number_is : s.number ≡ number

  pub record Remembered (order : Order) (f : Force) (m : Memory) : Type 0 where
    pub room : length f.places ≡ 8
    pub message : f.message ≡ m.message
    pub submessage : f.submessage ≡ m.submessage
    pub zeroth : is_between order ≡ false → StandsThere 0 (kept f 0) m.zeroth
    pub offset : is_between order ≡ false → f.span.offset ≡ m.zeroth.offset
    pub fourth : 4 < level order → StandsThere 4 (kept f 4) m.fourth

  -- a section that fits is remembered
  module _ (file : List ℕ) (f : Force) (m : Memory) (s : Section) (c : ℕ)
      (here : stands_at c told ≡ s ∷ []) where
    abbrev f' : Force
    f' = comes_in_force file f s (place c)

    abbrev m' : Memory
    m' = with_section m s

    zeroth_comes : {order next : Order} → Remembered order f m → Fitting s.number order next
        → StandsThere 0 (kept f' 0) m'.zeroth
    zeroth_comes k (opening e) =
        let new = kept_new f s.number c k.room (omega arith) (λ z. omega arith) in
        subst₂ (StandsThere 0) (sym (ap (kept f') (sym e) ∙ new)) (sym (zeroth_new m s e))
        (record { there = here; number_is = e })
    zeroth_comes k (within was ajar low high none seven lower) =
        subst₂ (StandsThere 0) (sym (kept_other f s.number c 0 (λ z. omega arith)))
        (sym (zeroth_other m s (λ z. omega arith)))
        (k.zeroth was)

    offset_comes : {order next : Order} → Remembered order f m → Fitting s.number order next
        → f'.span.offset ≡ m'.zeroth.offset
    unfolding span_behind span_at
    offset_comes k (opening e) =
        rw (eq-eqb s.number 0 e) (ap (λ (z : Section). z.offset) (sym (zeroth_new m s e)))
    offset_comes k (within was ajar low high none seven lower) =
        let other : Not (s.number ≡ 0) = λ z. omega arith in
        rw (ne_eqb s.number 0 other)
        (k.offset was ∙ ap (λ (z : Section). z.offset) (sym (zeroth_other m s other)))

    fourth_comes : {order next : Order} → Remembered order f m → Fitting s.number order next
        → 4 < level next
        → StandsThere 4 (kept f' 4) m'.fourth
    fourth_comes k (opening e) early = absurd (omega arith)
    fourth_comes {order} k (within was ajar low high none seven lower) late =
        by_test (λ (n : ℕ). StandsThere 4 (kept f' 4) m'.fourth) (eqb s.number 4) {a = 0}
        {b = 0}
        (λ e. as_new (eqb-true s.number 4 e))
        (λ e.
        let other = eqb-false s.number 4 e in
        subst₂ (StandsThere 4) (sym (kept_other f s.number c 4 (λ z. other (sym z))))
        (sym (fourth_other m s other))
        (k.fourth (lower 4 late (λ z. omega arith) (λ z. other (sym z)))))
      where
        as_new : s.number ≡ 4 → StandsThere 4 (kept f' 4) m'.fourth
        as_new e =
            let new = kept_new f s.number c k.room high (λ z. omega arith) in
            subst₂ (StandsThere 4) (sym (ap (kept f') (sym e) ∙ new)) (sym (fourth_new m s e))
            (record { there = here; number_is = e })

    pub comes : {order next : Order} → Remembered order f m → Fitting s.number order next
        → Remembered next f' m'
    comes k fits =
        let (message, submessage, long) = same_numbers f s.number c in
        let (message', submessage') = memory_numbers m s in
        record {
          room = long ∙ k.room;
          message = message ∙ k.message ∙ sym message';
          submessage = submessage ∙ k.submessage ∙ sym submessage';
          zeroth = λ ajar. zeroth_comes k fits;
          offset = λ ajar. offset_comes k fits;
          fourth = fourth_comes k fits;
        }

  -- a message that goes on
  pub goes_on : {f : Force} {m : Memory} → Remembered AfterData f m
      → Remembered SubmessageStart (with_submessage f (f.submessage + 1))
      (memory_of m.message (m.submessage + 1) m.zeroth m.fourth)
  unfolding is_between
  goes_on k =
      record {
        room = k.room;
        message = k.message;
        submessage = ap (λ (n : ℕ). n + 1) k.submessage;
        zeroth = λ ajar. k.zeroth refl;
        offset = λ ajar. k.offset refl;
        fourth = λ late. k.fourth (omega arith);
      }

  -- and one that is closed
  pub closes : {order : Order} {f : Force} {m : Memory} → Remembered order f m
      → Remembered BetweenMessages (opened (f.message + 1))
      (memory_of (m.message + 1) 0 m.zeroth m.fourth)
  unfolding is_between
  closes k =
      record {
        room = refl;
        message = ap (λ (n : ℕ). n + 1) k.message;
        submessage = refl;
        zeroth = λ ajar. absurd (never_both refl ajar);
        offset = λ ajar. absurd (never_both refl ajar);
        fourth = λ late. absurd (omega arith);
      }

-- the fields at a place are those of the section that stands there
decoded_drop : (file : List ℕ) (p : ℕ) (told : List Section)
    → drop p (decoded file told) ≡ decoded file (drop p told)
unfolding decoded
decoded_drop file zero told = refl
decoded_drop file (suc p) [] = refl
decoded_drop file (suc p) (s ∷ told) = decoded_drop file p told

decoded_first : (file : List ℕ) (told : List Section) {s : Section} → take 1 told ≡ s ∷ []
    → take 1 (decoded file told) ≡ fields_of file s ∷ []
unfolding decoded
decoded_first file [] e = let z : ◌≡◌ {A = ℕ} 0 1 = ap length e in absurd (omega arith)
decoded_first file (x ∷ told) e = ap (λ (l : List Section). decoded file l) e

pub stands_decoded : (file : List ℕ) (told : List Section) (p : ℕ) {s : Section}
    → stands_at p told ≡ s ∷ []
    → stands_at p (decoded file told) ≡ fields_of file s ∷ []
stands_decoded file told p e =
    ap (take 1) (decoded_drop file p told) ∙ decoded_first file (drop p told) e

pub fields_0 : (file : List ℕ) (s : Section) → s.number ≡ 0
    → fields_of file s ≡ of_indicator (indicator_of (own_octets file s))
unfolding fields_of
fields_0 file s e = rw e

pub fields_4 : (file : List ℕ) (s : Section) → s.number ≡ 4
    → fields_of file s ≡ of_product (product_section_of (payload_of file s))
unfolding fields_of
fields_4 file s e = rw e

-- the entry of the line of what is in force
module _ (file : List ℕ) (told : List Section) where
  from_one : (line : Line) (indicator : Option Indicator) (product : Product)
      → (for_each (for_each (of_indicator indicator ∷ []) indicator_in) λ i.
      for_each (product ∷ []) λ p.
      entry_with line i p ∷ [])
      ≡ for_each (indicator_in (of_indicator indicator)) λ i. entry_with line i product ∷ []
  unfolding indicator_in
  from_one line (Some i) product = refl
  from_one line None product = refl

  -- where these stand at its places
  from_lists : (line : Line) (z p : Section) (zeroths fourths : List SectionFields)
      → zeroths ≡ of_indicator (indicator_of (own_octets file z)) ∷ []
      → fourths ≡ of_product (product_section_of (payload_of file p)) ∷ []
      → (for_each (for_each zeroths indicator_in) λ i.
      for_each (for_each fourths product_in) λ product.
      entry_with line i product ∷ [])
      ≡ for_each (indicator_in (of_indicator (indicator_of (own_octets file z))))
      λ i. entry_with line i (product_of ByManual (payload_of file p)) ∷ []
  unfolding product_in product_section_of
  from_lists line z p zeroths fourths f g =
      rw (f, g) (from_one line (indicator_of (own_octets file z))
      (product_of ByManual (payload_of file p)))

  pub entry_at_lem : (line : Line) {z p : Section} → StandsThere told 0 line.indicator.0 z
      → StandsThere told 4 line.product.0 p
      → entry_at (decoded file told) line
      ≡ for_each (indicator_in (of_indicator (indicator_of (own_octets file z))))
      λ i. entry_with line i (product_of ByManual (payload_of file p)) ∷ []
  unfolding entry_at
  entry_at_lem line {z} {p} zeroth fourth =
      let here = line.indicator.0 in
      let there = line.product.0 in
      from_lists line z p (stands_at here (decoded file told)) (stands_at there (decoded file told))
      (stands_decoded file told here zeroth.there
      ∙ ap (λ (x : SectionFields). x ∷ []) (fields_0 file z zeroth.number_is))
      (stands_decoded file told there fourth.there
      ∙ ap (λ (x : SectionFields). x ∷ []) (fields_4 file p fourth.number_is))

  -- is that of what is remembered
  pub remembered_entry : {f : Force} {m : Memory} (end : Option Place)
      → Remembered told AfterData f m
      → entry_at (decoded file told) (line_of f end) ≡ entries_in file m
  unfolding line_of entries_in is_between
  remembered_entry {f} {m} end k =
      entry_at_lem (line_of f end) (k.zeroth refl) (k.fourth (omega arith))
      ∙ rw (k.message, k.submessage, k.offset refl)
