-- A function whose parameters are plain data, by value or in lent slices, can be called (specs/Contract.antt): the slices are put into memory,
-- lifetimes are begun, and the memory is lent.
use Prim.Native.Nat.{ℕ, zero, suc, ◌+◌}
use mathlib.Core.List.{List, [], ◌∷◌}
use mathlib.Core.Path.{◌≡◌, refl, sym, subst}
use mathlib.Core.Option.{some}
use mathlib.Core.Logic.{∥∥₁_prop, ∥∥₁_elim, ∥∥₁_map}
use lib.ListN.{length}
use lib.Dec.{T}
use seplogic.Ra.Ura.{Ura}
use base.Fraction.{full_share}
use mir.Syntax.{Ty, ty_array, named}
use mir.Val.{Val, WT, has_ty}
use base.Logic.{SProp, ent, sep, ex, emp, guard, upd, id⊢, via, comm∗, assoc∗, assoc', mono_l, mono_r, fst∗, snd∗, emp∗, ex_i, ex∗, upd_mono, upd_frame, Sat_exists}
use base.Fml.{GName, Lft, Fml, feq}
use prog.Memory.{Memory, alloc_m, store_m}
use prog.Model.{Model}
use prog.AdequacyRun.{start_mem}
use prog.Routine.{Routine, Callee}
use prog.Wired.{Code}
use types.Logic.{Logic, sem}
use types.SemTy.{cells}
use types.Share.{parts, arr_parts}
use contract.Adequate.{Satisfies, sat_weaken, sat_upd, sat_⇛, sat_ex∗, start_Satisfies}
use contract.Monad.{Fun}
use contract.Lifetimes.{Lfts, Shares, Within, lft_at, toks}
use denote.Array.{Array, array_val, each, Array-Typed}
use denote.ArrayMemory.{Single, Array-apart}
use denote.Laws.{Typed, Is, Lawful}
use denote.Lend.{lends_slice, Held}
use denote.Lends.{Lent, Lent-nothing, Lent-both}
use denote.Memory.{part_at, part_of, raw_all, cell_at, mem, shares, shared_of, lone}
use denote.RattleType.{RattleType, Denots, Valss, owns}
use denote.Shadow.{shadow, Pure, makes_shadow}
use denote.Signature.{Slot, type_at, types_at}
use denote.Slice.{MutSlice, slice_val, shr_slice_at, elements_shared}
use denote.Ref.{Bor}
use Rattle.promises.proofs.Told.{Stated, promised}
use Rattle.promises.specs.Contract.{Contract, SeenAtExit, asked, AsksNothing, SeenIs, CanBeCalled, Promised}
use Rattle.promises.specs.Parameters.{Parameter, value, lent, lent_mut, AllRepresentable, slot_of, slots_of, function_of, Content, Contents, content_of, contents_of, MayPass, MayPassAll}

-- data that owns only facts
pub record Plain (R : RattleType) : Type 2 where
  pub pure : (x : R.Denot) (vs : List Val) → Pure (R.own_val x vs)

-- and that can stand in a slice: it has one machine value, of its type
pub record Element (R : RattleType) : Type 2 where
  pub plain : Plain R
  pub single : Single R.mir
  pub lawful : {M : Type 1} {𝓤 : Ura M} (𝓛 : Logic 𝓤) → Lawful 𝓛 R

-- and whose slices can be lent to read: a value in memory is
pub record Readable (R : RattleType) : Type 2 where
  pub element : Element R
  pub lends : {M : Type 1} {𝓤 : Ura M} (𝓛 : Logic 𝓤) (x : R.Denot) (b o : ℕ)
      → Lent 𝓛 (part_at R full_share x b o) (shared_of R x b o)

module _ {n : ℕ} where
  abbrev pub Known : Parameter n → Type 2
  Known (value R) = Plain R
  Known (lent j ok R) = Readable R
  Known (lent_mut j ok R) = Element R

  abbrev pub KnownAll : List (Parameter n) → Type 2
  KnownAll [] = Unit {2}
  KnownAll (p ∷ ps) = Known p × KnownAll ps

-- the whole share of each lifetime
abbrev whole : (n : ℕ) → Shares n
whole zero = tt
whole (suc n) = (full_share, whole n)

-- values that are each representable are so together, as an array
only_one : (τs : List Ty) → Single τs → (vs : List Val) → Typed τs vs → (u : Val) × (vs ≡ u ∷ [])
only_one [] s vs t = absurd s
only_one (τ ∷ []) s [] t = absurd t
only_one (τ ∷ []) s (u ∷ []) t = (u, refl)
only_one (τ ∷ []) s (u ∷ v ∷ vs) t = absurd t.1
only_one (τ ∷ σ ∷ τs) s vs t = absurd s

in_row : (R : RattleType) → Single R.mir → ((x : R.Denot) (vs : List Val) → Is R x vs → Typed R.mir vs)
    → (xs : List R.Denot) → AllRepresentable R xs → (us : List Val) × shadow (each R.Denot R.own_val xs us)
in_row R single typed [] rs = ([], tt)
in_row R single typed (x ∷ xs) rs =
    let u = only_one R.mir single rs.0.0 (typed x rs.0.0 rs.0.1) in
    let us = in_row R single typed xs rs.1 in
    (u.0 ∷ us.0, (subst (λ vs. shadow (R.own_val x vs)) u.1 rs.0.1, us.1))

each_pure : (R : RattleType) → Plain R → (xs : List R.Denot) (us : List Val) → Pure (each R.Denot R.own_val xs us)
each_pure R P [] [] = tt
each_pure R P [] (u ∷ us) = tt
each_pure R P (x ∷ xs) [] = tt
each_pure R P (x ∷ xs) (u ∷ us) = (P.pure x (u ∷ []), each_pure R P xs us)

pub plain_array : (R : RattleType) (n : ℕ) → Plain R → Plain (Array R n)
plain_array R n P = record { pure = λ xs vs us. ((tt, tt), each_pure R P xs us) }

module _ {M : Type 1} {𝓤 : Ura M} (𝓛 : Logic 𝓤) (𝓜 : Model 𝓤 𝓛.H) where
  open 𝓛 use {H}

  abbrev Pr : Type 2
  Pr = SProp 𝓤

  abbrev ◌⊢◌ : Pr → Pr → Type 1
  P ⊢ Q = ent 𝓤 P Q

  abbrev ◌∗◌ : Pr → Pr → Pr
  P ∗ Q = sep 𝓤 P Q

  abbrev ⟦◌⟧ : Fml → Pr
  ⟦ P ⟧ = sem 𝓛 P

  infix 26 ◌⊢◌
  infixr 35 ◌∗◌
  abbrev Sat : Memory → Pr → Type 1
  Sat = Satisfies 𝓤 H 𝓜

  -- what is had for nothing is had beside the rest
  beside : (σ : Memory) (P F : Pr) → emp 𝓤 ⊢ P → Sat σ F → Sat σ (P ∗ F)
  beside σ P F h s = sat_weaken 𝓤 H 𝓜 σ (via 𝓤 (emp 𝓤 ∗ F) (emp∗ 𝓤 F) (mono_l 𝓤 F h)) s

  -- a new block, and a store into it
  allocated : (σ : Memory) (τ : Ty) (F : Pr) → Sat σ F → Sat (alloc_m σ τ) (H.room τ (length σ) zero ∗ F)
  allocated σ τ F s =
      let σ' = alloc_m σ τ in
      let room = H.room τ (length σ) zero in
      let dies = H.dies τ (length σ) in
      sat_upd 𝓤 H 𝓜 σ σ' F (room ∗ F)
      (via 𝓤 (upd 𝓤 (𝓜.mem σ' ∗ room ∗ dies) ∗ F) (mono_l 𝓤 F (𝓜.alloc σ τ))
      (via 𝓤 (upd 𝓤 ((𝓜.mem σ' ∗ room ∗ dies) ∗ F)) (upd_frame 𝓤 (𝓜.mem σ' ∗ room ∗ dies) F)
      (upd_mono 𝓤 (via 𝓤 (𝓜.mem σ' ∗ ((room ∗ dies) ∗ F)) (assoc∗ 𝓤 (𝓜.mem σ') (room ∗ dies) F)
      (mono_r 𝓤 (𝓜.mem σ') (mono_l 𝓤 F (fst∗ 𝓤 room dies))))))) s

  stored : (σ : Memory) (τ : Ty) (b : ℕ) (v : Val) → T (has_ty τ v) → WT v → (F : Pr) → Sat σ (H.room τ b zero ∗ F)
      → ∥ ((σ' : Memory) × Sat σ' (H.at full_share τ b zero v ∗ F)) ∥₁
  unfolding Satisfies
  stored σ τ b v t w F s =
      let at : Pr = H.at full_share τ b zero v in
      let room : Pr = H.room τ b zero in
      let After : Memory → Pr = λ σ'. upd 𝓤 (𝓜.mem σ' ∗ (at ∗ F)) in
      ∥∥₁_map
      (Sat_exists 𝓤 After (seplogic.Bi.Sat.mono 𝓤.op
      (via 𝓤 ((𝓜.mem σ ∗ room) ∗ F) (assoc' 𝓤 (𝓜.mem σ) room F)
      (via 𝓤 (ex 𝓤 (λ (σ' : Memory). guard 𝓤 (store_m σ τ b zero v ≡ some σ') (upd 𝓤 (𝓜.mem σ' ∗ at))) ∗ F) (mono_l 𝓤 F (𝓜.room_store σ τ b zero v t w))
      (ex∗ 𝓤 (λ (σ' : Memory). guard 𝓤 (store_m σ τ b zero v ≡ some σ') (upd 𝓤 (𝓜.mem σ' ∗ at))) F (λ σ'.
      ex∗ 𝓤 (λ (_ : store_m σ τ b zero v ≡ some σ'). upd 𝓤 (𝓜.mem σ' ∗ at)) F (λ e.
      via 𝓤 (After σ')
      (via 𝓤 (upd 𝓤 ((𝓜.mem σ' ∗ at) ∗ F)) (upd_frame 𝓤 (𝓜.mem σ' ∗ at) F) (upd_mono 𝓤 (assoc∗ 𝓤 (𝓜.mem σ') at F)))
      (ex_i 𝓤 After σ')))))) s))
      (λ r. (r.0, seplogic.Bi.Sat.bupd 𝓤 (𝓜.mem r.0 ∗ (at ∗ F)) r.1))

  -- a value, with what it owns, in a block of its own
  pub put : (τ : Ty) {D : Type 0} (own : D → List Val → Fml) (x : D) (v : Val) → T (has_ty τ v) → WT v → (σ : Memory) (F : Pr) → Sat σ (⟦ own x (v ∷ []) ⟧ ∗ F)
      → ∥ ((σ' : Memory) × (b : ℕ) × Sat σ' (⟦ part_of (raw_all (τ ∷ [])) own full_share x b zero ⟧ ∗ F)) ∥₁
  unfolding part_of
  put τ own x v t w σ F s =
      let b = length σ in
      let owned : Pr = ⟦ own x (v ∷ []) ⟧ in
      let cell : Pr = ⟦ cell_at full_share (τ ∷ []) (v ∷ []) b zero ⟧ in
      ∥∥₁_map (stored (alloc_m σ τ) τ b v t w (owned ∗ F) (allocated σ τ (owned ∗ F) s))
      (λ r. (
        r.0,
        b,
        sat_weaken 𝓤 H 𝓜 r.0
            (via 𝓤 (cell ∗ (owned ∗ F)) (mono_l 𝓤 (owned ∗ F) (𝓛.laws.at_raw full_share τ b zero v))
            (via 𝓤 ((cell ∗ owned) ∗ F) (assoc' 𝓤 cell owned F)
            (mono_l 𝓤 F (ex_i 𝓤 (λ (vs : List Val). ⟦ cell_at full_share (τ ∷ []) vs b zero ⟧ ∗ ⟦ own x vs ⟧) (v ∷ []))))) r.1,
      ))

  -- plain values of one type, side by side
  abbrev Lies : (R : RattleType) → List R.Denot → ℕ → Pr
  Lies R xs b = ⟦ (arr_parts (shares R) (length xs)).part full_share xs b zero ⟧

  laid : (R : RattleType) → Element R → (xs : List R.Denot) → AllRepresentable R xs → (σ : Memory) (F : Pr) → Sat σ F
      → ∥ ((σ' : Memory) × (b : ℕ) × Sat σ' (Lies R xs b ∗ F)) ∥₁
  laid R E xs rs σ F s =
      let n = length xs in
      let lawful = E.lawful 𝓛 in
      let us = in_row R E.single lawful.typed xs rs in
      let v : Val = array_val us.0 in
      let is : Is (Array R n) xs (v ∷ []) = (us.0, ((refl, refl), us.1)) in
      let typed = Array-Typed R lawful.typed n xs (v ∷ []) is in
      let own : Fml = (Array R n).own_val xs (v ∷ []) in
      ∥∥₁_map (put (ty_array (lone R.mir) n) (Array R n).own_val xs v typed.0.0 typed.0.1 σ F
      (beside σ ⟦ own ⟧ F (makes_shadow 𝓛 own ((plain_array R n E.plain).pure xs (v ∷ [])) is) s))
      (λ r. (r.0, r.1, sat_weaken 𝓤 H 𝓜 r.0 (mono_l 𝓤 F (Array-apart 𝓛 R full_share E.single n xs r.1 zero)) r.2))

  whole_cells : (R : RattleType) (xs : List R.Denot) (b o : ℕ) → ⟦ parts (mem R) (shares R) full_share xs b o ⟧ ⊢ ⟦ cells (mem R) xs b o ⟧
  whole_cells R [] b o = id⊢ 𝓤 (emp 𝓤)
  whole_cells R (x ∷ xs) b o = mono_r 𝓤 ⟦ part_at R full_share x b o ⟧ (whole_cells R xs b _)

  -- values side by side are lent to read, one by one
  elements_lent : (R : RattleType) → Readable R → (xs : List R.Denot) (b o : ℕ) → Lent 𝓛 (parts (mem R) (shares R) full_share xs b o) (elements_shared R xs b o)
  elements_lent R E [] b o = Lent-nothing 𝓛
  elements_lent R E (x ∷ xs) b o =
      let o' = o + (mem R).size in
      Lent-both 𝓛 (part_at R full_share x b o) (parts (mem R) (shares R) full_share xs b o') (shared_of R x b o) (elements_shared R xs b o') (E.lends 𝓛 x b o) (elements_lent R E xs b o')

  shared_out : (R : RattleType) → Readable R → (κ : Lft) (xs : List R.Denot) (b : ℕ) (σ : Memory) (F : Pr) → Sat σ (Lies R xs b ∗ F) → Sat σ (⟦ elements_shared R xs b zero κ ⟧ ∗ F)
  shared_out R E κ xs b σ F s =
      let lie : Fml = parts (mem R) (shares R) full_share xs b zero in
      let out : Pr = ⟦ elements_shared R xs b zero κ ⟧ in
      let back : Pr = 𝓛.A.lent κ lie in
      sat_weaken 𝓤 H 𝓜 σ (mono_l 𝓤 F (fst∗ 𝓤 out back))
      (sat_⇛ 𝓤 H 𝓜 σ (out ∗ back) F
      (sat_weaken 𝓤 H 𝓜 σ (mono_l 𝓤 F (via 𝓤 ⟦ lie ⟧ (snd∗ 𝓤 ⟦ feq ℕ (length xs) (length xs) ⟧ ⟦ lie ⟧) (elements_lent R E xs b zero κ))) s))

  -- a ghost update that makes something under a name is run
  pub under_name : (σ : Memory) (P F : Pr) (Q L : GName → Pr) → P ⊢ H.⇛ (ex 𝓤 (λ (γ : GName). Q γ ∗ L γ)) → Sat σ (P ∗ F) → ∥ ((γ : GName) × Sat σ (Q γ ∗ F)) ∥₁
  under_name σ P F Q L h s =
      ∥∥₁_map (sat_ex∗ 𝓤 H 𝓜 σ (λ (γ : GName). Q γ ∗ L γ) F (sat_⇛ 𝓤 H 𝓜 σ (ex 𝓤 (λ (γ : GName). Q γ ∗ L γ)) F (sat_weaken 𝓤 H 𝓜 σ (mono_l 𝓤 F h) s)))
      (λ r. (r.0, sat_weaken 𝓤 H 𝓜 σ (mono_l 𝓤 F (fst∗ 𝓤 (Q r.0) (L r.0))) r.1))

  module _ {n : ℕ} (κs : Lfts n) where
    -- what one argument owns, in some memory, beside what is there already
    pub record Passed (p : Parameter n) (x : Content p) (F : Pr) : Type 1 where
      pub memory : Memory
      pub argument : (type_at (slot_of p) κs).Denot
      pub values : List Val
      pub is : content_of p κs argument ≡ x
      pub holds : Sat memory (⟦ (type_at (slot_of p) κs).own_val argument values ⟧ ∗ F)

    passed : (p : Parameter n) → Known p → (x : Content p) → MayPass p x → (σ : Memory) (F : Pr) → Sat σ F → ∥ Passed p x F ∥₁
    passed (value R) E x may σ F s =
        ∣ record {
          memory = σ;
          argument = x;
          values = may.0;
          is = refl;
          holds = beside σ ⟦ R.own_val x may.0 ⟧ F (makes_shadow 𝓛 (R.own_val x may.0) (E.pure x may.0) may.1) s;
        } ∣₁
    passed (lent j ok R) E xs may σ F s =
        let κ = lft_at n j ok κs in
        ∥∥₁_map (laid R E.element xs may.1 σ F s) λ r.
        let b = r.1 in
        let argument : Bor (List R.Denot) = record { ref_ptr = (b, zero); now = xs } in
        let values : List Val = slice_val (b, zero) (length xs) ∷ [] in
        let at : Fml = shr_slice_at R argument values in
        let out : Pr = ⟦ elements_shared R xs b zero κ ⟧ in
        record {
          memory = r.0;
          argument = argument;
          values = values;
          is = refl;
          holds = sat_weaken 𝓤 H 𝓜 r.0 (assoc' 𝓤 ⟦ at ⟧ out F) (beside r.0 ⟦ at ⟧ (out ∗ F) (makes_shadow 𝓛 at (tt, (tt, tt)) (refl, may.0)) (shared_out R E κ xs b r.0 F r.2));
        }
    passed (lent_mut j ok R) E xs may σ F s =
        let κ = lft_at n j ok κs in
        ∥∥₁_elim (laid R E xs may.1 σ F s) ∥∥₁_prop λ r.
        let b = r.1 in
        ∥∥₁_map (under_name r.0 (Lies R xs b) F (λ γ. ⟦ (MutSlice (named j) κ R).own_val (record { ref_ptr = (b, zero); ghost_name = γ; now = xs }) (slice_val (b, zero) (length xs) ∷ []) ⟧)
        (λ γ. 𝓛.A.lent κ (Held R (length xs) b zero γ))
        (via 𝓤 ⟦ cells (mem R) xs b zero ⟧ (via 𝓤 ⟦ parts (mem R) (shares R) full_share xs b zero ⟧ (snd∗ 𝓤 ⟦ feq ℕ (length xs) (length xs) ⟧ ⟦ parts (mem R) (shares R) full_share xs b zero ⟧) (whole_cells R xs b zero))
        (lends_slice 𝓛 R (named j) κ xs b zero may.0)) r.2) λ g.
        record { memory = r.0; argument = record { ref_ptr = (b, zero); ghost_name = g.0; now = xs }; values = slice_val (b, zero) (length xs) ∷ []; is = refl; holds = g.1 }

    pub record AllPassed (ps : List (Parameter n)) (xs : Contents ps) (F : Pr) : Type 1 where
      pub memory : Memory
      pub arguments : Denots (types_at (slots_of ps) κs)
      pub values : Valss (types_at (slots_of ps) κs)
      pub are : contents_of ps κs arguments ≡ xs
      pub hold : Sat memory (⟦ owns (types_at (slots_of ps) κs) arguments values ⟧ ∗ F)

    pub all_passed : (ps : List (Parameter n)) → KnownAll ps → (xs : Contents ps) → MayPassAll ps xs → (σ : Memory) (F : Pr) → Sat σ F → ∥ AllPassed ps xs F ∥₁
    all_passed [] Es xs may σ F s = ∣ record { memory = σ; arguments = tt; values = tt; are = refl; hold = beside σ (emp 𝓤) F (id⊢ 𝓤 (emp 𝓤)) s } ∣₁
    all_passed (p ∷ ps) Es xs may σ F s =
        ∥∥₁_elim (all_passed ps Es.1 xs.1 may.1 σ F s) ∥∥₁_prop λ r.
        let rest : Pr = ⟦ owns (types_at (slots_of ps) κs) r.arguments r.values ⟧ in
        ∥∥₁_map (passed p Es.0 xs.0 may.0 r.memory (rest ∗ F) r.hold) λ q.
        record {
          memory = q.memory;
          arguments = (q.argument, r.arguments);
          values = (q.values, r.values);
          are = λ i. (q.is i, r.are i);
          hold = sat_weaken 𝓤 H 𝓜 q.memory (assoc' 𝓤 ⟦ (type_at (slot_of p) κs).own_val q.argument q.values ⟧ rest F) q.holds;
        }

  -- lifetimes are begun
  begun : (n : ℕ) (σ : Memory) (F : Pr) → Sat σ F → ∥ ((κs : Lfts n) × Sat σ (toks 𝓛 n κs (whole n) ∗ F)) ∥₁
  begun zero σ F s = ∣ (tt, beside σ (emp 𝓤) F (id⊢ 𝓤 (emp 𝓤)) s) ∣₁
  begun (suc n) σ F s =
      ∥∥₁_elim (begun n σ F s) ∥∥₁_prop λ r.
      let others : Pr = toks 𝓛 n r.0 (whole n) in
      let new : ℕ → Pr = λ a. 𝓛.A.lft (a ∷ []) full_share in
      ∥∥₁_map (sat_ex∗ 𝓤 H 𝓜 σ new (others ∗ F) (sat_⇛ 𝓤 H 𝓜 σ (ex 𝓤 new) (others ∗ F) (beside σ (H.⇛ (ex 𝓤 new)) (others ∗ F) 𝓛.lfts.lft_new r.1)))
      (λ a. ((a.0 ∷ [], r.0), sat_weaken 𝓤 H 𝓜 σ (assoc' 𝓤 (new a.0) others F) a.1))

  -- a memory with nothing in it, where lifetimes are begun
  pub started : (n : ℕ) → ∥ ((σ : Memory) × (κs : Lfts n) × Sat σ (toks 𝓛 n κs (whole n) ∗ emp 𝓤)) ∥₁
  started n =
      let σ = start_mem [] [] in
      ∥∥₁_map (begun n σ (emp 𝓤) (sat_weaken 𝓤 H 𝓜 σ (fst∗ 𝓤 (emp 𝓤) (emp 𝓤)) (start_Satisfies 𝓤 H 𝓜 [] [] tt tt))) (λ k. (σ, k.0, k.1))

-- so every function of such parameters, whose contract asks for nothing, can be called
module _ {M : Type 1} {n : ℕ} (ps : List (Parameter n)) (Es : KnownAll ps) {result : Slot n} where
  pub can_be_called : (c : Contract M (function_of ps result)) → AsksNothing M (function_of ps result) c
      → ((𝓤 : Ura M) (𝓛 : Logic 𝓤) (content : Memory → SProp 𝓤) (run : Routine → Fun 𝓤) (κs : Lfts n) (a : Denots (types_at (slots_of ps) κs)) → (c 𝓤 𝓛 content run κs a).ghost)
      → CanBeCalled M (function_of ps result) c (contents_of ps) (MayPassAll ps)
  can_be_called c nothing any contents may 𝓤 𝓛 𝓜 𝓡 =
      ∥∥₁_elim (started 𝓛 𝓜 n) ∥∥₁_prop λ k.
      let κs = k.1 in
      let tokens : SProp 𝓤 = toks 𝓛 n κs (whole n) in
      ∥∥₁_map (all_passed 𝓛 𝓜 κs ps Es contents may k.0 (sep 𝓤 tokens (emp 𝓤)) k.2) λ r.
      let own : SProp 𝓤 = sem 𝓛 (owns (types_at (slots_of ps) κs) r.arguments r.values) in
      let ghost = any 𝓤 𝓛 𝓜.mem 𝓡.returns κs r.arguments in
      let asks : asked M (function_of ps result) c _ ≡ emp 𝓤 = nothing (record { memory = 𝓤; logic = 𝓛; content = 𝓜.mem; run = 𝓡.returns; lifetimes = κs; arguments = r.arguments; ghost = ghost }) in
      record {
        memory = r.memory;
        bound = (κs, whole n, tt, r.arguments, r.values);
        ghost = ghost;
        is_taken = r.are;
        enters = subst (λ (P : SProp 𝓤). Satisfies 𝓤 𝓛.H 𝓜 r.memory (sep 𝓤 (sep 𝓤 tokens own) P)) (sym asks)
            (sat_weaken 𝓤 𝓛.H 𝓜 r.memory (via 𝓤 (sep 𝓤 (sep 𝓤 own tokens) (emp 𝓤)) (assoc' 𝓤 own tokens (emp 𝓤)) (mono_l 𝓤 (emp 𝓤) (comm∗ 𝓤 own tokens))) r.hold);
      }

-- what is promised of such a function, from what is known of each parameter
pub record Given (n : ℕ) : Type 2 where
  pub parameter : Parameter n
  pub known : Known parameter

module _ {n : ℕ} where
  abbrev pub by_value : {R : RattleType} → Plain R → Given n
  by_value {R} P = record { parameter = value R; known = P }

  abbrev pub to_read : (j : ℕ) → Within n j → {R : RattleType} → Readable R → Given n
  to_read j ok {R} E = record { parameter = lent j ok R; known = E }

  abbrev pub to_write : (j : ℕ) → Within n j → {R : RattleType} → Element R → Given n
  to_write j ok {R} E = record { parameter = lent_mut j ok R; known = E }

  abbrev parameters_of : List (Given n) → List (Parameter n)
  parameters_of [] = []
  parameters_of (g ∷ gs) = g.parameter ∷ parameters_of gs

  known_of : (gs : List (Given n)) → KnownAll (parameters_of gs)
  known_of [] = tt
  known_of (g ∷ gs) = (g.known, known_of gs)

module _ {M : Type 1} (n : ℕ) (gs : List (Given n)) {result : Slot n} {c : Contract M (function_of (parameters_of gs) result)} {code : Code} {name : Callee} {O : Type 0} {seen : SeenAtExit M (function_of (parameters_of gs) result) O} {definition : Contents (parameters_of gs) → O} where
  pub by : AsksNothing M (function_of (parameters_of gs) result) c
      → ((𝓤 : Ura M) (𝓛 : Logic 𝓤) (content : Memory → SProp 𝓤) (run : Routine → Fun 𝓤) (κs : Lfts n) (a : Denots (types_at (slots_of (parameters_of gs)) κs)) → (c 𝓤 𝓛 content run κs a).ghost)
      → Stated M (function_of (parameters_of gs) result) c code name → SeenIs M (function_of (parameters_of gs) result) c (contents_of (parameters_of gs)) seen definition
      → Promised M (function_of (parameters_of gs) result) c code name (contents_of (parameters_of gs)) (MayPassAll (parameters_of gs)) seen definition
  by nothing any met says = promised nothing (can_be_called (parameters_of gs) (known_of gs) c nothing any) met says
