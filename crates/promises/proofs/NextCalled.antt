-- The pull reader's `next` can be called on a reader of any file at any progress. The reader is a struct that holds the lent file, and is
-- itself lent to write: the file is put into memory and lent, then the reader is.
use Prim.Native.Nat.{ℕ, zero}
use mathlib.Core.List.{List, [], ◌∷◌}
use mathlib.Core.Path.{refl, ap}
use mathlib.Core.Logic.{∥∥₁_prop, ∥∥₁_elim, ∥∥₁_map}
use seplogic.Ra.Ura.{Ura}
use base.Fraction as Share
use base.Fraction.{full_share}
use mir.Syntax.{named}
use mir.Val.{Val, vptr, vstruct, of_list}
use base.Logic.{SProp, ent, sep, emp, via, comm∗, mono∗, mono_l, mono_r, fst∗, snd∗, emp∗, ex_i}
use base.Fml.{Lft, Fml, feq, Incl-refl}
use types.Logic.{sem}
use types.SemTy.{Body}
use contract.Adequate.{sat_weaken, sat_fact}
use contract.Lifetimes.{Lfts}
use denote.Laws.{Is}
use denote.Lend.{lends_ref}
use denote.Memory.{part_of, mem}
use denote.RattleType.{RattleType, Valss, flat, owns}
use denote.Ref.{MutBor, MutRef}
use denote.Shadow.{shadow, shows_shadow, makes_shadow}
use denote.Builtin.{u8}
use denote.Signature.{named_lft}
use denote.Struct.Declared.{Declared, fields, row, shape}
use denote.Struct.Laws.{lawful}
use denote.Struct.Struct.{layout, within}
use Rattle.pull.specs.contracts as pull
use Rattle.pull.specs.contracts.Progress as Progress
use Rattle.pull.specs.contracts.Reader as Reader
use Rattle.pull.proofs.Reader.TheLaws as ReaderLaws
use Rattle.pull.specs.declared.Progress.{Progress}
use Rattle.promises.specs.Contract.{CanBeCalled}
use Rattle.promises.specs.Parameters.{Parameter, value, lent, MayPassAll}
use Rattle.promises.proofs.Called.{KnownAll, started, all_passed, put, under_name}

-- what a reader is made of: its file, lent for the second of two lifetimes, and its progress
abbrev parts : List (Parameter 2)
parts = lent 1 tt u8 ∷ value Progress.the_row ∷ []

-- one token is split for two lifetimes
shared_out : {M : Type 1} (𝓤 : Ura M) (own token left right : SProp 𝓤) → ent 𝓤 token (sep 𝓤 left right)
    → ent 𝓤 (sep 𝓤 own (sep 𝓤 (sep 𝓤 token (emp 𝓤)) (emp 𝓤))) (sep 𝓤 (sep 𝓤 (sep 𝓤 left (sep 𝓤 right (emp 𝓤))) (sep 𝓤 own (emp 𝓤))) (emp 𝓤))
shared_out 𝓤 own token left right split =
    let pad : (P : SProp 𝓤) → ent 𝓤 P (sep 𝓤 P (emp 𝓤)) = λ P. via 𝓤 (sep 𝓤 (emp 𝓤) P) (emp∗ 𝓤 P) (comm∗ 𝓤 (emp 𝓤) P) in
    via 𝓤 (sep 𝓤 own (sep 𝓤 left right))
    (mono_r 𝓤 own (via 𝓤 (sep 𝓤 token (emp 𝓤)) (fst∗ 𝓤 (sep 𝓤 token (emp 𝓤)) (emp 𝓤)) (via 𝓤 token (fst∗ 𝓤 token (emp 𝓤)) split)))
    (via 𝓤 (sep 𝓤 (sep 𝓤 left right) own) (comm∗ 𝓤 own (sep 𝓤 left right))
    (via 𝓤 (sep 𝓤 (sep 𝓤 left (sep 𝓤 right (emp 𝓤))) (sep 𝓤 own (emp 𝓤))) (mono∗ 𝓤 (mono_r 𝓤 left (pad right)) (pad own))
    (pad (sep 𝓤 (sep 𝓤 left (sep 𝓤 right (emp 𝓤))) (sep 𝓤 own (emp 𝓤))))))

module _ {M : Type 1} (known : KnownAll parts) where
  pub next_can_be_called : CanBeCalled M pull.Reader.next.ended (λ _. pull.Reader.next.clauses)
      (λ κs (reader, _). (reader.now.file.now, reader.now.progress))
      (λ (file, progress). MayPassAll {n = 1} (lent 0 tt u8 ∷ value Progress.the_row ∷ []) (file, (progress, tt)))
  unfolding part_of
  next_can_be_called contents may 𝓤 𝓛 𝓜 𝓡 =
      let A = 𝓛.A in
      ∥∥₁_elim (started 𝓛 𝓜 1) ∥∥₁_prop λ k.
      let κ : Lft = k.1.0 in
      let κs : Lfts 2 = (κ, (κ, tt)) in
      let tokens : SProp 𝓤 = sep 𝓤 (sep 𝓤 (A.lft κ full_share) (emp 𝓤)) (emp 𝓤) in
      ∥∥₁_elim (all_passed 𝓛 𝓜 κs parts known (contents.0, (contents.1, tt)) may k.0 tokens k.2) ∥∥₁_prop λ r.
      let T : Declared = Reader.the_type (named_lft 2 1 tt κs) in
      let R : RattleType = row T in
      let d : R.Denot = record { file = r.arguments.0; progress = r.arguments.1.0 } in
      let v : Val = vstruct (of_list (flat (fields T) r.values)) in
      let held : Fml = owns (fields T) (T.to d) r.values in
      ∥∥₁_elim (sat_fact 𝓤 𝓛.H 𝓜 r.memory (sep 𝓤 (sem 𝓛 held) tokens) (shadow held)
      (via 𝓤 (sep 𝓤 (sem 𝓛 held) tokens) (snd∗ 𝓤 (𝓜.mem r.memory) (sep 𝓤 (sem 𝓛 held) tokens))
      (via 𝓤 (sem 𝓛 held) (fst∗ 𝓤 (sem 𝓛 held) tokens) (shows_shadow 𝓛 held))) r.hold) ∥∥₁_prop λ s.
      let is : Is R d (v ∷ []) = (r.values, (refl, s)) in
      let typed = (lawful T (ReaderLaws.the_laws (named_lft 2 1 tt κs)) 𝓛).typed d (v ∷ []) is in
      let Kept : SProp 𝓤 = sem 𝓛 (R.own_val d (v ∷ [])) in
      ∥∥₁_elim (put 𝓛 𝓜 (layout (shape T)) R.own_val d v typed.0.0 typed.0.1 r.memory tokens
      (sat_weaken 𝓤 𝓛.H 𝓜 r.memory (mono_l 𝓤 tokens
      (via 𝓤 (sep 𝓤 (sem 𝓛 (feq (List Val) (v ∷ []) (v ∷ []))) (sem 𝓛 held))
      (via 𝓤 (sep 𝓤 (emp 𝓤) (sem 𝓛 held)) (emp∗ 𝓤 (sem 𝓛 held)) (mono_l 𝓤 (sem 𝓛 held) (makes_shadow 𝓛 (feq (List Val) (v ∷ []) (v ∷ [])) tt refl)))
      (ex_i 𝓤 (λ (vss : Valss (fields T)). sem 𝓛 (within (shape T) (T.to d) (v ∷ []) vss)) r.values))) r.hold)) ∥∥₁_prop λ m.
      let b = m.1 in
      ∥∥₁_map (under_name 𝓛 𝓜 m.0 (sem 𝓛 ((mem R).own_at d b zero)) tokens
      (λ γ. sem 𝓛 ((MutRef (named 0) κ R).own_val (record { ref_ptr = (b, zero); ghost_name = γ; now = d }) (vptr b zero ∷ []))) (λ γ. A.lent κ (Body (mem R) b zero γ))
      (lends_ref 𝓛 R (named 0) κ d b zero) m.2) λ g.
      let reader : MutBor R.Denot = record { ref_ptr = (b, zero); ghost_name = g.0; now = d } in
      let own : SProp 𝓤 = sem 𝓛 ((MutRef (named 0) κ R).own_val reader (vptr b zero ∷ [])) in
      let left : SProp 𝓤 = A.lft κ (Share.left full_share) in
      let right : SProp 𝓤 = A.lft κ (Share.right full_share) in
      record {
        memory = m.0;
        bound = (κs, (Share.left full_share, (Share.right full_share, tt)), (Incl-refl κ, tt), (reader, tt), (vptr b zero ∷ [], tt));
        ghost = tt;
        is_taken = ap (λ (c : List ℕ × (Progress × Unit {0})). (c.0, c.1.0)) r.are;
        enters = sat_weaken 𝓤 𝓛.H 𝓜 m.0 (shared_out 𝓤 own (A.lft κ full_share) left right (𝓛.lfts.lft_split κ full_share)) g.1;
      }
