-- The sections told are reads one after the other, so that they tile the messages that they close.
use Prim.Native.Nat.{ℕ, zero, suc, ◌+◌, ◌≤◌}
use native.Mathlib.Omega.{arith}
use mathlib.Core.Path.{◌≡◌, refl, ap, subst, ◌∙◌}
use mathlib.Core.Bool.{Bool, true, false}
use mathlib.Core.List.{List, [], ◌∷◌, ◌++◌, append_assoc}
use lib.Dec.{eqb}
use borrow.Author.Tests.{eqb-true, eqb-false, eq-eqb, ne_eqb}
use Rattle.octets.specs.Words.{pick, Not}
use Rattle.framing.specs.Framing.{read_at}
use Rattle.framing.specs.declared.read.Section.{Section}
use Rattle.framing.specs.declared.read.Cursor.{Cursor}
use Rattle.framing.specs.Read as read
use Rattle.framing.proofs.OneRead.{Reads, opens, closes, heads, reads_as}
use Rattle.index.specs.declared.line.Line.{Line}
use Rattle.index.specs.declared.bounds.Room.{Room}
use Rattle.index.specs.Walk.{Reached, at_start, Told, walked}
use Rattle.index.specs.Pins.{Every, count_of}
use Rattle.walk_laws.specs.ExactlyWhen.{total}
use Rattle.walk_laws.specs.Laws.{
  lengths,
  EndToEnd,
  ClosedMessagesAreTiled,
  ClosesOne,
  EachEndClosesAMessage,
  MessagesAreEnds,
  number_at,
  NoEndAtPlace0,
}
use Rattle.walk_laws.proofs.Passing.{Way, within, gone_further, shut, passing}
use Rattle.walk_laws.proofs.Induction.{each_stand, of_walk_lem}

-- sections that reads from a place and a rest on give
abbrev pub Run : List ℕ → ℕ → ℕ → List Section → Type 0
Run file at rest [] = Unit
Run file at rest (s ∷ more) = (c : Cursor) × (read_at file at rest ≡ read.Section s c) × Run file c.at.0 c.rest more

pub told_run : (room : Room) (file : List ℕ) → Run file 0 0 (walked room file).sections
told_run room file =
    of_walk_lem room file (λ t. Run file 0 0 t.sections) (λ how. tt)
    (each_stand room file (λ at rest r t. Run file at rest t.sections) (λ at rest r how same. tt) (λ at rest r s c lines why e f. tt)
    (λ at rest r s c lines closed reached later e f so. (c, e, so)) 0 0 (at_start file))

abbrev NotZero : Section → Type 0
NotZero s = Not (s.number ≡ 0)

module _ (file : List ℕ) where
  -- from inside a message to its section 8
  pub to_end : (others : List Section) (eighth : Section) (after : List Section) (at rest : ℕ)
      → Run file at rest (others ++ (eighth ∷ after)) → Every NotZero others → eighth.number ≡ 8
      → EndToEnd at (others ++ (eighth ∷ [])) × (lengths (others ++ (eighth ∷ [])) ≡ rest) × (4 ≤ rest)
  to_end [] eighth after at rest (c, e, run) inside last = go (reads_as file at rest e)
    where
      go : Reads file at rest (read.Section eighth c)
          → EndToEnd at (eighth ∷ []) × (lengths (eighth ∷ []) ≡ rest) × (4 ≤ rest)
      go (opens common own) = absurd (omega arith)
      go (closes common own) = ((own.here, tt), omega arith, omega arith)
      go (heads common own) = absurd (omega arith)
  to_end (s ∷ others) eighth after at rest (c, e, run) inside last =
      go (reads_as file at rest e) (to_end others eighth after c.at.0 c.rest run inside.1 last)
    where
      go : Reads file at rest (read.Section s c)
          → EndToEnd c.at.0 (others ++ (eighth ∷ [])) × (lengths (others ++ (eighth ∷ [])) ≡ c.rest) × (4 ≤ c.rest)
          → EndToEnd at (s ∷ (others ++ (eighth ∷ []))) × (lengths (s ∷ (others ++ (eighth ∷ []))) ≡ rest) × (4 ≤ rest)
      go (opens common own) (tile, sum, four) = absurd (inside.0 own.number)
      go (closes common own) (tile, sum, four) = absurd (omega arith)
      go (heads common own) (tile, sum, four) =
          let here = own.here in
          let next : c.at.0 ≡ at + s.length = omega arith in
          ((here, subst (λ (x : ℕ). EndToEnd x (others ++ (eighth ∷ []))) next tile), omega arith, omega arith)

  -- a run goes on behind what stands before
  behind : (before more : List Section) (at rest : ℕ) → Run file at rest (before ++ more)
      → (at' : ℕ) × (rest' : ℕ) × Run file at' rest' more
  behind [] more at rest run = (at, rest, run)
  behind (s ∷ before) more at rest (c, e, run) = behind before more c.at.0 c.rest run

  whole : (zeroth : Section) (others : List Section) (eighth : Section) (after : List Section) (at rest : ℕ)
      → Run file at rest (zeroth ∷ (others ++ (eighth ∷ after))) → zeroth.number ≡ 0 → Every NotZero others → eighth.number ≡ 8
      → EndToEnd zeroth.offset.0 (zeroth ∷ (others ++ (eighth ∷ [])))
      × (lengths (zeroth ∷ (others ++ (eighth ∷ []))) ≡ total file zeroth.offset.0)
  whole zeroth others eighth after at rest (c, e, run) first inside last =
      go (reads_as file at rest e) (to_end others eighth after c.at.0 c.rest run inside last)
    where
      go : Reads file at rest (read.Section zeroth c)
          → EndToEnd c.at.0 (others ++ (eighth ∷ [])) × (lengths (others ++ (eighth ∷ [])) ≡ c.rest) × (4 ≤ c.rest)
          → EndToEnd zeroth.offset.0 (zeroth ∷ (others ++ (eighth ∷ [])))
          × (lengths (zeroth ∷ (others ++ (eighth ∷ []))) ≡ total file zeroth.offset.0)
      go (opens common own) (tile, sum, four) =
          let next = common.ends in
          ((refl, subst (λ (x : ℕ). EndToEnd x (others ++ (eighth ∷ []))) next tile), omega (arith, own.total))
      go (closes common own) _ = absurd (omega arith)
      go (heads common own) _ = absurd (omega arith)

pub closed_messages_are_tiled : ClosedMessagesAreTiled
closed_messages_are_tiled room file zeroth others eighth after m =
    let run = subst (Run file 0 0) m.listed (told_run room file) in
    let there = behind file m.before (zeroth ∷ (others ++ (eighth ∷ after))) 0 0 run in
    whole file zeroth others eighth after there.0 there.1 there.2 m.starts m.inside m.ends

-- the last section 0 of a list, if there is one
data LastZero (l : List Section) : Type 0 where
  without : Every NotZero l → LastZero l
  since : (before : List Section) (zeroth : Section) (others : List Section) → l ≡ before ++ (zeroth ∷ others) → zeroth.number ≡ 0
      → Every NotZero others → LastZero l

last_zero : (l : List Section) → LastZero l
last_zero [] = without tt
last_zero (s ∷ l) = go (last_zero l)
  where
    by : (t : Bool) → eqb s.number 0 ≡ t → Every NotZero l → LastZero (s ∷ l)
    by true e all = since [] s l refl (eqb-true _ _ e) all
    by false e all = without (eqb-false _ _ e, all)

    go : LastZero l → LastZero (s ∷ l)
    go (without all) = by (eqb s.number 0) refl all
    go (since before zeroth others e z all) = since (s ∷ before) zeroth others (ap (λ (x : List Section). s ∷ x) e) z all

pub each_end_closes_a_message : EachEndClosesAMessage
each_end_closes_a_message room file before eighth after listed last = go (last_zero before)
  where
    go : LastZero before → ClosesOne (walked room file).sections eighth after
    go (without all) =
        let k = (to_end file before eighth after 0 0 (subst (Run file 0 0) listed (told_run room file)) all last).2 in absurd (omega arith)
    go (since b zeroth others e z all) =
        record {
          zeroth = zeroth;
          others = others;
          message =
              record {
                before = b;
                listed =
                    listed ∙ ap (λ (x : List Section). x ++ (eighth ∷ after)) e ∙ append_assoc b (zeroth ∷ others) (eighth ∷ after);
                starts = z;
                inside = all;
                ends = last;
              };
        }

pub messages_are_ends : MessagesAreEnds
messages_are_ends room file =
    of_walk_lem room file (λ t. t.messages ≡ count_of 8 t.sections) (λ how. refl)
    (each_stand room file (λ at rest r t. t.messages ≡ count_of 8 t.sections) (λ at rest r how same. refl)
    (λ at rest r s c lines why e f. refl)
    (λ at rest r s c lines closed reached later e f so. go r s lines closed reached (passing room r s f).way later so) 0 0 (at_start file))
  where
    go : (r : Reached) (s : Section) (lines : List Line) (closed : ℕ) (reached : Reached) → Way r s lines closed reached → (later : Told)
        → later.messages ≡ count_of 8 later.sections → closed + later.messages ≡ pick (eqb s.number 8) 1 0 + count_of 8 later.sections
    go r s _ _ _ (within below ajar) later so = rw (ne_eqb s.number 8 (λ z. omega arith), so)
    go r s _ _ _ (gone_further below ajar order end) later so = rw (ne_eqb s.number 8 (λ z. omega arith), so)
    go r s _ _ _ (shut eight clean order end) later so = rw (eq-eqb s.number 8 eight, so)

-- the first section told is a section 0
first_is_0 : (room : Room) (file : List ℕ) → number_at (walked room file).sections 0 ≡ 0
first_is_0 room file = go (walked room file).sections (told_run room file)
  where
    go : (l : List Section) → Run file 0 0 l → number_at l 0 ≡ 0
    go [] run = refl
    go (s ∷ l) (c, e, run) = by (reads_as file 0 0 e)
      where
        by : Reads file 0 0 (read.Section s c) → s.number ≡ 0
        by (opens common own) = own.number
        by (closes common own) = absurd (omega arith)
        by (heads common own) = absurd (omega arith)

pub no_end_at_place_0 : NoEndAtPlace0
no_end_at_place_0 room file zero eight = let first = first_is_0 room file in absurd (omega arith)
no_end_at_place_0 room file (suc k) eight = omega arith
