-- A property of what a walk tells, from every stand on: by its end, a refused section, and a passed one.
use Rattle.std.specs.Prelude.{Err}
use Prim.Native.Nat.{ℕ, zero, suc, ◌+◌, ◌-◌, ◌<◌}
use native.Mathlib.Omega.{arith}
use mathlib.Core.Path.{◌≡◌, refl, sym, ap, subst, ◌∙◌}
use mathlib.Core.List.{List, [], ◌∷◌, ◌++◌}
use lib.Dec.{ltb}
use lib.ListN.{length}
use Rattle.framing.specs.Framing.{read_at}
use Rattle.framing.specs.declared.read.Section.{Section}
use Rattle.framing.specs.declared.read.Cursor.{Cursor}
use Rattle.framing.specs.Read.{Read}
use Rattle.framing.specs.Read as read
use Rattle.framing.specs.Listing as list
use Rattle.framing.proofs.Tests.{by_test}
use Rattle.framing.proofs.OneRead.{reads_as, goes}
use Rattle.framing.proofs.Listing.{listing_is}
use Rattle.index.specs.Lines.{place}
use Rattle.index.specs.declared.line.Line.{Line}
use Rattle.index.specs.declared.refusal.Refusal.{Refusal}
use Rattle.index.specs.declared.bounds.Room.{Room}
use Rattle.index.specs.Walk.{Reached, at_start, Judgement, stops, passes, judgement, Told, ends, followed, walked_from, walked}
use Rattle.walk_laws.proofs.WholeWalk.{on, after, on_next}
use Rattle.index.specs.Outcome.{Outcome, refused_there}

-- what is told where a section is refused, and where it is passed
abbrev pub halted : Reached → Section → List Line → Refusal → Told
halted r s lines why =
    record { sections = []; lines = lines; messages = 0; outcome = Err (refused_there why (place r.sections) s.offset) }

abbrev pub gone : Section → List Line → ℕ → Told → Told
gone s lines closed later =
    record {
      sections = s ∷ later.sections;
      lines = lines ++ later.lines;
      messages = closed + later.messages;
      outcome = later.outcome;
    }

module _ (room : Room) (file : List ℕ) (Q : ℕ → ℕ → Reached → Told → Type 0)
    (over : (at rest : ℕ) (r : Reached) (how : Outcome) → ((other : Room) → on other file at rest r ≡ ends how) → Q at rest r (ends how))
    (halt : (at rest : ℕ) (r : Reached) (s : Section) (cursor : Cursor) (lines : List Line) (why : Refusal)
    → read_at file at rest ≡ read.Section s cursor → judgement room r s ≡ stops lines why → Q at rest r (halted r s lines why))
    (pass : (at rest : ℕ) (r : Reached) (s : Section) (cursor : Cursor) (lines : List Line) (closed : ℕ) (reached : Reached) (later : Told)
    → read_at file at rest ≡ read.Section s cursor → judgement room r s ≡ passes lines closed reached
    → Q cursor.at.0 cursor.rest reached later → Q at rest r (gone s lines closed later)) where
  by_reads : (fuel at rest : ℕ) (r : Reached) → length file - at < fuel → Q at rest r (on room file at rest r)
  by_reads zero at rest r few = absurd (omega arith)
  by_reads (suc fuel) at rest r few =
      subst (Q at rest r) (sym (on_next room file at rest r)) (go (read_at file at rest) refl (by_reads fuel))
    where
      judged : (s : Section) (cursor : Cursor) → read_at file at rest ≡ read.Section s cursor
          → ((reached : Reached) → Q cursor.at.0 cursor.rest reached (on room file cursor.at.0 cursor.rest reached))
          → (j : Judgement) → judgement room r s ≡ j
          → Q at rest r (followed r s j (λ reached. on room file cursor.at.0 cursor.rest reached))
      judged s cursor e later (stops lines why) f = halt at rest r s cursor lines why e f
      judged s cursor e later (passes lines closed reached) f =
          pass at rest r s cursor lines closed reached (on room file cursor.at.0 cursor.rest reached) e f (later reached)

      go : (x : Read) → read_at file at rest ≡ x
          → ((at rest : ℕ) (r : Reached) → length file - at < fuel → Q at rest r (on room file at rest r))
          → Q at rest r (after room file r x)
      go (read.Section s cursor) e later =
          let forward = goes (reads_as file at rest e) in
          judged s cursor e (λ reached. later cursor.at.0 cursor.rest reached (omega arith)) (judgement room r s) refl
      go read.Over e later = over at rest r _ (λ other. on_next other file at rest r ∙ ap (after other file r) e)
      go (read.Refused fault offset) e later = over at rest r _ (λ other. on_next other file at rest r ∙ ap (after other file r) e)

  pub each_stand : (at rest : ℕ) (r : Reached) → Q at rest r (on room file at rest r)
  each_stand at rest r = by_reads (suc (length file - at)) at rest r (omega arith)

-- and of a whole walk
pub of_walk_lem : (room : Room) (file : List ℕ) (Q : Told → Type 0) → ((how : Outcome) → Q (ends how)) → Q (on room file 0 0 (at_start file))
    → Q (walked room file)
unfolding walked on
of_walk_lem room file Q over started =
    by_test Q (ltb 1099511627776 (length file)) (λ e. over _) λ e.
    subst Q (sym (ap (λ (l : list.Listing). walked_from room (at_start file) l.sections l.ending) (listing_is file))) started
