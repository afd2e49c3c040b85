-- A plan that is one message is one of a nested message: read from its end on, each 7 closes a product, each 3 the products of a grid, each 2
-- the grids behind it.
use Prim.Native.Nat.{ℕ, zero, suc, ◌+◌}
use native.Mathlib.Omega.{arith}
use mathlib.Core.Path.{◌≡◌, refl, sym, ap, ◌∙◌}
use mathlib.Core.Bool.{Bool, true, false}
use mathlib.Core.List.{List, [], ◌∷◌, ◌++◌, map, flat_map, append_assoc}
use mathlib.Core.Option.{none, some}
use lib.Dec.{eqb}
use lib.ListN.{length, take, drop, length-append}
use lib.Seq.{take-append_seam, drop-append_seam}
use borrow.Author.Tests.{eqb-true}
use Rattle.octets.specs.Words.{pick}
use Rattle.order.specs.Order.{only, after_identification, at_submessage_start, judged}
use Rattle.order.specs.declared.Order.{Order}
use Rattle.order.specs.declared.Order.TheVariants.{
  BetweenMessages,
  AfterIndicator,
  AfterIdentification,
  AfterLocalUse,
  AfterGrid,
  AfterProduct,
  AfterRepresentation,
  AfterBitMap,
  AfterData,
  SubmessageStart,
}
use Rattle.order.specs.declared.Judged.TheVariants.{Fits, Closes, Misplaced, NoGrid}
use Rattle.writer.specs.Plan.{Part, parts_of}
use Rattle.round_trip.specs.Faults.{Reaches, arrived, on, AtNone, Outside}
use Rattle.as_the_encoder.specs.Encoder.{IterL3, IterL2, IterL1}
use Rattle.as_the_encoder.specs.Writes.{
  flattened_l3,
  flattened_l2,
  flattened_l1,
  flattened,
  named,
  EveryAcceptedPlanIsNested,
  EveryNestedMessageHasAPlan,
}

abbrev Sections : Type 0
Sections = List (ℕ × List ℕ)

-- what may follow a product: products of its grid, grids of its local use, and more of these
record Rest : Type 0 where
  products : List IterL3
  grids : List IterL2
  locals : List IterL1

abbrev rest : List IterL3 → List IterL2 → List IterL1 → Rest
rest products grids locals = record { products = products; grids = grids; locals = locals }

-- in a row
flat : Rest → Sections
flat r = flat_map flattened_l3 r.products ++ (flat_map flattened_l2 r.grids ++ flat_map flattened_l1 r.locals)

-- what sections are, by what was read last
abbrev Nested : Order → Sections → Type 0
Nested BetweenMessages s = Unit {0}
Nested AfterIndicator s = (one : List ℕ) × (locals : List IterL1) × (s ≡ (1, one) ∷ flat_map flattened_l1 locals)
Nested AfterIdentification s = (locals : List IterL1) × (s ≡ flat_map flattened_l1 locals)
Nested AfterLocalUse s = (grids : List IterL2) × (locals : List IterL1) × (s ≡ flat_map flattened_l2 grids ++ flat_map flattened_l1 locals)
Nested AfterGrid s = (r : Rest) × (s ≡ flat r)
Nested AfterProduct s = (five : List ℕ) × (six : List ℕ) × (seven : List ℕ) × (r : Rest) × (s ≡ (5, five) ∷ (6, six) ∷ (7, seven) ∷ flat r)
Nested AfterRepresentation s = (six : List ℕ) × (seven : List ℕ) × (r : Rest) × (s ≡ (6, six) ∷ (7, seven) ∷ flat r)
Nested AfterBitMap s = (seven : List ℕ) × (r : Rest) × (s ≡ (7, seven) ∷ flat r)
Nested AfterData s = (r : Rest) × (s ≡ flat r)
Nested SubmessageStart s = (r : Rest) × (s ≡ flat r)

-- a product before the rest
a_product : (four five six seven : List ℕ) (r : Rest) (s : Sections) → s ≡ (5, five) ∷ (6, six) ∷ (7, seven) ∷ flat r
    → (q : Rest) × ((4, four) ∷ s ≡ flat q)
unfolding flat flat_map flattened_l3
a_product four five six seven r s is = (
  rest (record { section4 = four; data_sections = record { section5 = five; section6 = six; section7 = seven } } ∷ r.products) r.grids r.locals,
  ap {B = Sections} (λ more. (4, four) ∷ more) is,
)

-- a grid before them
a_grid : (three : List ℕ) (r : Rest) (s : Sections) → s ≡ flat r
    → (grids : List IterL2) × (locals : List IterL1) × ((3, three) ∷ s ≡ flat_map flattened_l2 grids ++ flat_map flattened_l1 locals)
unfolding flat flat_map flattened_l2
a_grid three r s is = (
  record { section3 = three; iter = r.products } ∷ r.grids,
  r.locals,
  ap {B = Sections} (λ more. (3, three) ∷ more)
      (is ∙ sym (append_assoc (flat_map flattened_l3 r.products) (flat_map flattened_l2 r.grids) (flat_map flattened_l1 r.locals))),
)

-- a local use before its grids
a_local : (two : List ℕ) (grids : List IterL2) (locals : List IterL1) (s : Sections)
    → s ≡ flat_map flattened_l2 grids ++ flat_map flattened_l1 locals
    → (all : List IterL1) × ((2, two) ∷ s ≡ flat_map flattened_l1 all)
unfolding flat_map flattened_l1
a_local two grids locals s is = (
  record { section2 = some two; iter = grids } ∷ locals,
  ap {B = Sections} (λ more. (2, two) ∷ more) is,
)

-- grids with no local use
no_local : (grids : List IterL2) (locals : List IterL1) (s : Sections) → s ≡ flat_map flattened_l2 grids ++ flat_map flattened_l1 locals
    → (all : List IterL1) × (s ≡ flat_map flattened_l1 all)
unfolding flat_map flattened_l1
no_local grids locals s is = (record { section2 = none; iter = grids } ∷ locals, is)

-- what follows a product, with none of its own
no_products : (grids : List IterL2) (locals : List IterL1) (s : Sections) → s ≡ flat_map flattened_l2 grids ++ flat_map flattened_l1 locals
    → (r : Rest) × (s ≡ flat r)
unfolding flat flat_map
no_products grids locals s is = (rest [] grids locals, is)

no_grids : (locals : List IterL1) (s : Sections) → s ≡ flat_map flattened_l1 locals → (r : Rest) × (s ≡ flat r)
unfolding flat flat_map
no_grids locals s is = (rest [] [] locals, is)

-- one order fits
same_next : {this next : Order} → Fits this ≡ Fits next → this ≡ next
same_next e = cc

-- one number alone fits
only_fits : (number wanted : ℕ) {this next : Order} → only number wanted this ≡ Fits next → (number ≡ wanted) × (this ≡ next)
only_fits number wanted {this} {next} = go (eqb number wanted) refl
  where
    go : (t : Bool) → eqb number wanted ≡ t → pick t (Fits this) Misplaced ≡ Fits next → (number ≡ wanted) × (this ≡ next)
    go true e fits = (eqb-true number wanted e, same_next fits)
    go false e fits = absurd (let z : ◌≡◌ {A = ℕ} 0 1 = cc in omega arith)

module _ (number : ℕ) (payload : List ℕ) (next : Order) (s : Sections) (after : Nested next s) where
  -- the section as one of a number
  abbrev Now : (Sections → Type 0) → Type 0
  Now P = P ((number, payload) ∷ s)

  numbered : (k : ℕ) {this : Order} (P : Sections → Type 0) → number ≡ k → this ≡ next → (Nested this s → P ((k, payload) ∷ s)) → Now P
  numbered k P is same so = rw is (so (rw same after))

  -- 2 or 3
  after_identification_lem : after_identification number ≡ Fits next → Now (Nested AfterIdentification)
  after_identification_lem = go (eqb number 2) (eqb number 3) (eqb number 4) refl refl
    where
      go : (t u v : Bool) → eqb number 2 ≡ t → eqb number 3 ≡ u
          → pick t (Fits AfterLocalUse) (pick u (Fits AfterGrid) (pick v NoGrid Misplaced)) ≡ Fits next → Now (Nested AfterIdentification)
      go true u v e f fits = numbered 2 (Nested AfterIdentification) (eqb-true number 2 e) (same_next fits) λ n. a_local payload n.0 n.1 s n.2
      go false true v e f fits =
          numbered 3 (Nested AfterIdentification) (eqb-true number 3 f) (same_next fits) λ n.
          let g = a_grid payload n.0 s n.1 in no_local g.0 g.1 _ g.2
      go false false true e f fits = absurd (let z : ◌≡◌ {A = ℕ} 0 1 = cc in omega arith)
      go false false false e f fits = absurd (let z : ◌≡◌ {A = ℕ} 0 1 = cc in omega arith)

  -- 2, 3 or 4
  at_start_lem : at_submessage_start number ≡ Fits next → Now (λ all. (r : Rest) × (all ≡ flat r))
  at_start_lem = go (eqb number 2) (eqb number 3) (eqb number 4) refl refl refl
    where
      go : (t u v : Bool) → eqb number 2 ≡ t → eqb number 3 ≡ u → eqb number 4 ≡ v
          → pick t (Fits AfterLocalUse) (pick u (Fits AfterGrid) (pick v (Fits AfterProduct) Misplaced)) ≡ Fits next
          → Now (λ all. (r : Rest) × (all ≡ flat r))
      go true u v e f g fits =
          numbered 2 (Nested AfterData) (eqb-true number 2 e) (same_next fits) λ n. let l = a_local payload n.0 n.1 s n.2 in no_grids l.0 _ l.1
      go false true v e f g fits =
          numbered 3 (Nested AfterData) (eqb-true number 3 f) (same_next fits) λ n. let l = a_grid payload n.0 s n.1 in no_products l.0 l.1 _ l.2
      go false false true e f g fits =
          numbered 4 (Nested AfterData) (eqb-true number 4 g) (same_next fits) λ n. a_product payload n.0 n.1 n.2 n.3 s n.4
      go false false false e f g fits = absurd (let z : ◌≡◌ {A = ℕ} 0 1 = cc in omega arith)

  -- one section more
  one_more : (order : Order) → judged order number ≡ Fits next → Now (Nested order)
  unfolding judged
  one_more BetweenMessages fits = tt
  one_more AfterIndicator fits = let o = only_fits number 1 fits in numbered 1 (Nested AfterIndicator) o.0 o.1 λ n. (payload, n.0, ap {B = Sections} (λ more. (1, payload) ∷ more) n.1)
  one_more AfterIdentification fits = after_identification_lem fits
  one_more AfterLocalUse fits = let o = only_fits number 3 fits in numbered 3 (Nested AfterLocalUse) o.0 o.1 λ n. a_grid payload n.0 s n.1
  one_more AfterGrid fits =
      let o = only_fits number 4 fits in
      numbered 4 (Nested AfterGrid) o.0 o.1 λ n. a_product payload n.0 n.1 n.2 n.3 s n.4
  one_more AfterProduct fits =
      let o = only_fits number 5 fits in
      numbered 5 (Nested AfterProduct) o.0 o.1 λ n. (payload, n.0, n.1, n.2, ap {B = Sections} (λ more. (5, payload) ∷ more) n.3)
  one_more AfterRepresentation fits =
      let o = only_fits number 6 fits in
      numbered 6 (Nested AfterRepresentation) o.0 o.1 λ n. (payload, n.0, n.1, ap {B = Sections} (λ more. (6, payload) ∷ more) n.2)
  one_more AfterBitMap fits =
      let o = only_fits number 7 fits in
      numbered 7 (Nested AfterBitMap) o.0 o.1 λ n. (payload, n.0, ap {B = Sections} (λ more. (7, payload) ∷ more) n.1)
  one_more AfterData fits = go (eqb number 8) fits
    where
      go : (t : Bool) → pick t Closes (at_submessage_start number) ≡ Fits next → Now (Nested AfterData)
      go true fits = absurd (let z : ◌≡◌ {A = ℕ} 0 1 = cc in omega arith)
      go false fits = at_start_lem fits
  one_more SubmessageStart fits = at_start_lem fits

-- nothing more, where an 8 closes
nothing_more_lem : (order : Order) → judged order 8 ≡ Closes → Nested order []
unfolding judged flat flat_map
nothing_more_lem AfterData closed = (rest [] [] [], refl)
nothing_more_lem BetweenMessages closed = tt
nothing_more_lem AfterIndicator closed = absurd (let z : ◌≡◌ {A = ℕ} 0 1 = cc in omega arith)
nothing_more_lem AfterIdentification closed = absurd (let z : ◌≡◌ {A = ℕ} 0 1 = cc in omega arith)
nothing_more_lem AfterLocalUse closed = absurd (let z : ◌≡◌ {A = ℕ} 0 1 = cc in omega arith)
nothing_more_lem AfterGrid closed = absurd (let z : ◌≡◌ {A = ℕ} 0 1 = cc in omega arith)
nothing_more_lem AfterProduct closed = absurd (let z : ◌≡◌ {A = ℕ} 0 1 = cc in omega arith)
nothing_more_lem AfterRepresentation closed = absurd (let z : ◌≡◌ {A = ℕ} 0 1 = cc in omega arith)
nothing_more_lem AfterBitMap closed = absurd (let z : ◌≡◌ {A = ℕ} 0 1 = cc in omega arith)
nothing_more_lem SubmessageStart closed = absurd (let z : ◌≡◌ {A = ℕ} 0 1 = cc in omega arith)

-- the sections that follow, and an 8
nested : (store : List ℕ) (order last : Order) (parts : List Part) → Reaches order parts last → judged last 8 ≡ Closes
    → Nested order (map (named store) parts)
nested store order last [] arrived closed = nothing_more_lem order closed
nested store order last (part ∷ more) (on {next} fits reaches) closed =
    one_more part.number (named store part).1 next (map (named store) more) (nested store next last more reaches closed) order fits

pub every_accepted_plan_is_nested : EveryAcceptedPlanIsNested
unfolding flattened
every_accepted_plan_is_nested discipline reserved₁ reserved₂ plan store one =
    let n = nested store AfterIndicator one.last (parts_of plan) one.ordered one.closed in (
      record { discipline = discipline; reserved₁ = reserved₁; reserved₂ = reserved₂; section1 = n.0; iter = n.1 },
      n.2,
      refl,
      refl,
      refl,
    )

-- the other way: payloads one after the other in a store, behind some octets
plan_from : ℕ → Sections → List ℕ
plan_from at [] = []
plan_from at (s ∷ more) = s.0 ∷ at ∷ length s.1 ∷ plan_from (at + length s.1) more

store_of : Sections → List ℕ
store_of [] = []
store_of (s ∷ more) = s.1 ++ store_of more

-- the next payload is behind those before it
further : (before : List ℕ) (s : ℕ × List ℕ) (more : Sections) (P : List ℕ → ℕ → Type 0)
    → P ((before ++ s.1) ++ store_of more) (length (before ++ s.1)) → P (before ++ (s.1 ++ store_of more)) (length before + length s.1)
further before s more P so = rw (append_assoc before s.1 (store_of more), length-append before s.1) at so

names_all : (before : List ℕ) (sections : Sections)
    → map (named (before ++ store_of sections)) (parts_of (plan_from (length before) sections)) ≡ sections
unfolding plan_from store_of parts_of
names_all before [] = refl
names_all before (s ∷ more) =
    let all = before ++ (s.1 ++ store_of more) in
    let here : take (length s.1) (drop (length before) all) ≡ s.1 =
    rw (drop-append_seam before (s.1 ++ store_of more)) (take-append_seam s.1 (store_of more)) in
    let later =
    further before s more (λ store at. map (named store) (parts_of (plan_from at more)) ≡ more) (names_all (before ++ s.1) more) in
    rw (here, later)

all_inside : (before : List ℕ) (sections : Sections)
    → AtNone (Outside (length (before ++ store_of sections))) (parts_of (plan_from (length before) sections))
unfolding plan_from store_of parts_of
all_inside before [] k within outside = omega arith
all_inside before (s ∷ more) zero within outside =
    let first = length-append before (s.1 ++ store_of more) in
    let second = length-append s.1 (store_of more) in
    omega arith
all_inside before (s ∷ more) (suc k) within outside =
    further before s more (λ store at. AtNone (Outside (length store)) (parts_of (plan_from at more))) (all_inside (before ++ s.1) more) k
    (omega arith) outside

pub every_nested_message_has_a_plan : EveryNestedMessageHasAPlan
every_nested_message_has_a_plan m =
    let sections = flattened m in (plan_from 0 sections, store_of sections, names_all [] sections, all_inside [] sections)
