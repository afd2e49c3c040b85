-- Parameters of the public functions, all of them plain data: by value, lent to read, or lent to
-- write. Their contents, what may be passed, what is seen of them at exit, and what is promised of
-- a function that has them (`Gives`). All of this is read off the parameters, and nothing of it is
-- chosen function by function.
use Rattle.std.specs.Prelude.{ℕ, ◌<◌, ◌^◌, List, [], ◌∷◌, length}
use Rattle.std.specs.Int.{w8, w64}
use mir.Val.{Val}
use prog.Model.{AllFit}
use prog.Routine.{Callee}
use prog.Wired.{Code}
use contract.Lifetimes.{Lfts, Within}
use denote.RattleType.{RattleType, Denots}
use denote.Shadow.{shadow}
use denote.Signature.{Slot, plain, shr_slice, mut_slice, type_at, types_at}
use denote.Slice.{Room}
use denote.Triple.Clauses.{Ended}
use Rattle.std.specs.Borrow.{u8, u64}
use denote.Exit.{yes}
use denote.Triple.End.{Outs, all}
use Rattle.index.specs.contracts.line.Line as LineRow
use Rattle.index.specs.declared.line.Line.{Line}
use Rattle.walk_numbers.specs.Numbers.{lines_of}
use Rattle.promises.specs.Contract.{Contract, Promised}

-- a parameter of a function of n lifetimes, with its Rattle type: by value, or a slice that is lent
-- to read or to write, for the lifetime numbered j
pub data Parameter (n : ℕ) : Type 2 where
  value : RattleType → Parameter n
  lent : (j : ℕ) → Within n j → RattleType → Parameter n
  lent_mut : (j : ℕ) → Within n j → RattleType → Parameter n

-- a value that the machine can hold, one that has machine values: of a number, that it is under its
-- type's bound, and of a struct or an enum, that its numbers are
abbrev pub Representable : (R : RattleType) → R.Denot → Type 0
Representable R x = (vs : List Val) × shadow (R.own_val x vs)

abbrev pub AllRepresentable : (R : RattleType) → List R.Denot → Type 0
AllRepresentable R [] = Unit {0}
AllRepresentable R (x ∷ xs) = Representable R x × AllRepresentable R xs

module _ {n : ℕ} where
  -- as Rattle writes it in a signature
  abbrev pub slot_of : Parameter n → Slot n
  slot_of (value R) = plain (λ _. R)
  slot_of (lent j ok R) = shr_slice j ok (λ _. R)
  slot_of (lent_mut j ok R) = mut_slice j ok (λ _. R)

  abbrev pub slots_of : List (Parameter n) → List (Slot n)
  slots_of [] = []
  slots_of (p ∷ ps) = slot_of p ∷ slots_of ps

  -- with a result, and a contract that may speak of all that is lent, as it is at exit
  abbrev pub function_of : List (Parameter n) → Slot n → Ended
  function_of ps result = record {
    signature = record { lifetimes = n; outlives = []; params = slots_of ps; result = result };
    kept = all yes (slots_of ps);
  }

  -- its content: of what is lent the values that lie there, and not where
  abbrev pub Content : Parameter n → Type 0
  Content (value R) = R.Denot
  Content (lent j ok R) = List R.Denot
  Content (lent_mut j ok R) = List R.Denot

  abbrev pub Contents : List (Parameter n) → Type 0
  Contents [] = Unit {0}
  Contents (p ∷ ps) = Content p × Contents ps

  abbrev pub content_of : (p : Parameter n) (κs : Lfts n) → (type_at (slot_of p) κs).Denot
      → Content p
  content_of (value R) κs x = x
  content_of (lent j ok R) κs x = x.now
  content_of (lent_mut j ok R) κs x = x.now

  abbrev pub contents_of : (ps : List (Parameter n)) (κs : Lfts n)
      → Denots (types_at (slots_of ps) κs) → Contents ps
  contents_of [] κs a = tt
  contents_of (p ∷ ps) κs a = (content_of p κs a.0, contents_of ps κs a.1)

  -- what may be passed: values that the machine can hold, and of what is lent no more than memory
  -- has room for, under 2^63 octets
  abbrev pub MayPass : (p : Parameter n) → Content p → Type 0
  MayPass (value R) x = Representable R x
  MayPass (lent j ok R) xs = Room R (length xs) × AllRepresentable R xs
  MayPass (lent_mut j ok R) xs = Room R (length xs) × AllRepresentable R xs

  abbrev pub MayPassAll : (ps : List (Parameter n)) → Contents ps → Type 0
  MayPassAll [] xs = Unit {0}
  MayPassAll (p ∷ ps) xs = MayPass p xs.0 × MayPassAll ps xs.1

  -- what is seen at exit: the answer, and with it the content of each slice that is lent to write
  abbrev pub Shown : Type 0 → List (Parameter n) → Type 0
  Shown A [] = A
  Shown A (value R ∷ ps) = Shown A ps
  Shown A (lent j ok R ∷ ps) = Shown A ps
  Shown A (lent_mut j ok R ∷ ps) = Shown (A × List R.Denot) ps

  abbrev pub shown : {A : Type 0} (ps : List (Parameter n)) (κs : Lfts n) → A
      → Outs κs (slots_of ps) (all yes (slots_of ps)) → Shown A ps
  shown [] κs a e = a
  shown (value R ∷ ps) κs a e = shown ps κs a e.1
  shown (lent j ok R ∷ ps) κs a e = shown ps κs a e.1
  shown (lent_mut j ok R ∷ ps) κs a e = shown ps κs (a, e.0.now) e.1

-- what is seen is a definition of the parameters' contents
abbrev pub Gives : (M : Type 1) (n : ℕ) (ps : List (Parameter n)) {R : RattleType}
    → Contract M (function_of ps (plain (λ _. R))) → Code → Callee
    → (Contents ps → Shown R.Denot ps) → Type 2
Gives M n ps {R} c code name definition =
    Promised M (function_of ps (plain (λ _. R))) c code name (contents_of ps) (MayPassAll ps)
    (λ κs answer exit. shown ps κs answer exit) definition

-- what may be lent, in plain words: octets, each under 256 and under 2^63 of them; numbers of 64
-- bits, under 2^60 of them; submessage lines of such numbers, under 2^56 of them
pub record MayBeLent : Type 0 where
  pub octets : (octets : List ℕ) → AllFit w8 octets → length octets < 2 ^ 63
      → MayPass {n = 1} (lent 0 tt u8) octets
  pub numbers : (numbers : List ℕ) → AllFit w64 numbers → length numbers < 2 ^ 60
      → MayPass {n = 1} (lent 0 tt u64) numbers
  pub lines : (lines : List Line) → AllFit w64 (lines_of lines) → length lines < 2 ^ 56
      → MayPass {n = 1} (lent 0 tt LineRow.the_row) lines
