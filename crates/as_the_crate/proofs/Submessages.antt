-- Over an iterator that yields a listing, the crate's streams of submessages tell what the walk tells down that listing.
use Rattle.std.specs.Prelude.{Option, Some, None}
use Prim.Native.Nat.{ℕ, zero, suc, ◌+◌, ◌*◌, ◌≤◌, ◌<◌}
use native.Mathlib.Omega.{arith}
use mathlib.Core.Path.{◌≡◌, refl, ap}
use mathlib.Core.Bool.{Bool, true, false}
use mathlib.Core.List.{List, [], ◌∷◌}
use lib.Dec.{eqb}
use lib.ListN.{length}
use borrow.Author.Tests.{eqb-true, ne_eqb, lt-leb}
use Rattle.order.specs.Order.{judged, completes, is_between}
use Rattle.order.specs.declared.Order.{Order}
use Rattle.order.specs.declared.Order.TheVariants as order
use Rattle.framing.specs.Listing.{Ending, over, unreadable}
use Rattle.framing.specs.declared.read.Offset.{Offset}
use Rattle.framing.specs.declared.read.Section.{Section}
use Rattle.framing.specs.declared.read.Fault.{Fault}
use Rattle.index.specs.Lines.{place, span, in_force, line_of}
use Rattle.index.specs.declared.line.Span.{Span}
use Rattle.index.specs.declared.line.Force.{Force}
use Rattle.index.specs.declared.listed.Listed.{Listed}
use Rattle.index.specs.declared.bounds.Room.{Room}
use Rattle.index.specs.Walk.{Reached, span_behind, fitted, closing, by_order, judgement, concluded, walked_from}
use Rattle.as_the_crate.specs.Std.{ParseError, Dropped, gives, none, errs, overflows, info}
use Rattle.as_the_crate.specs.Parser.{Advance, Keeping, Submessage, SubmessageStream, Locals, locals, fresh_locals, caching, ValidatorState}
use Rattle.as_the_crate.specs.Parser.{StartOfMessage, EndOfSect}
use Rattle.as_the_crate.specs.Parser.{ensure_next_is_sect0, ensure_next_is_sect_2_or_3_or_4, ensure_next_is_sect8, ensure_next_is_sect_num}
use Rattle.as_the_crate.specs.Parser.{next_in, match_num, fails, overflow, adds, collected}
use Rattle.as_the_crate.proofs.Words.{info_of, kept_local, failure_of, in_words}
use Rattle.as_the_crate.proofs.Decide.{decide}
use Rattle.as_the_crate.proofs.Stream.{Yields, is_over, is_refused, is_broken, yields}
use Rattle.order.specs.declared.Place.{Place}

-- the places in force
pub record Places : Type 0 where
  pub p0 : ℕ
  pub p1 : ℕ
  pub local : Option Place
  pub p3 : ℕ
  pub p4 : ℕ
  pub p5 : ℕ
  pub p6 : ℕ
  pub p7 : ℕ

abbrev pub places : ℕ → ℕ → Option Place → ℕ → ℕ → ℕ → ℕ → ℕ → Places
places p0 p1 local p3 p4 p5 p6 p7 =
    record { p0 = p0; p1 = p1; local = local; p3 = p3; p4 = p4; p5 = p5; p6 = p6; p7 = p7 }

-- a section comes in force at its place
abbrev with0 : Places → ℕ → Places
with0 k n = places n k.p1 k.local k.p3 k.p4 k.p5 k.p6 k.p7

abbrev with1 : Places → ℕ → Places
with1 k n = places k.p0 n k.local k.p3 k.p4 k.p5 k.p6 k.p7

abbrev with2 : Places → ℕ → Places
with2 k n = places k.p0 k.p1 (Some (place n)) k.p3 k.p4 k.p5 k.p6 k.p7

abbrev with3 : Places → ℕ → Places
with3 k n = places k.p0 k.p1 k.local n k.p4 k.p5 k.p6 k.p7

abbrev with4 : Places → ℕ → Places
with4 k n = places k.p0 k.p1 k.local k.p3 n k.p5 k.p6 k.p7

abbrev with5 : Places → ℕ → Places
with5 k n = places k.p0 k.p1 k.local k.p3 k.p4 n k.p6 k.p7

abbrev with6 : Places → ℕ → Places
with6 k n = places k.p0 k.p1 k.local k.p3 k.p4 k.p5 n k.p7

abbrev with7 : Places → ℕ → Places
with7 k n = places k.p0 k.p1 k.local k.p3 k.p4 k.p5 k.p6 n

-- what the crate's stream has where nothing of this submessage, or of this message, is kept yet
pub record Unkept (K : Type 0) : Type 0 where
  pub u0 : K
  pub u1 : K
  pub u3 : K
  pub others : Locals K

-- what was read last; after a section 2 a grid may have been read before
pub data Stand : Type 0 where
  between : Stand
  after0 : Stand
  after1 : Stand
  after2 : Bool → Stand
  after3 : Stand
  after4 : Stand
  after5 : Stand
  after6 : Stand
  after7 : Stand

-- of which file how many sections and lines are told, the last section, the message and the submessage in hand, where the message stands
pub record Count : Type 0 where
  pub file : List ℕ
  pub sections : ℕ
  pub lines : ℕ
  pub last : Listed
  pub message : ℕ
  pub submessage : ℕ
  pub span : Span

abbrev order_of : Stand → Order
order_of between = order.BetweenMessages
order_of after0 = order.AfterIndicator
order_of after1 = order.AfterIdentification
order_of (after2 grid) = order.AfterLocalUse
order_of after3 = order.AfterGrid
order_of after4 = order.AfterProduct
order_of after5 = order.AfterRepresentation
order_of after6 = order.AfterBitMap
order_of after7 = order.AfterData

abbrev state_of : Stand → ValidatorState
state_of between = StartOfMessage
state_of after0 = EndOfSect 0
state_of after1 = EndOfSect 1
state_of (after2 grid) = EndOfSect 2
state_of after3 = EndOfSect 3
state_of after4 = EndOfSect 4
state_of after5 = EndOfSect 5
state_of after6 = EndOfSect 6
state_of after7 = EndOfSect 7

abbrev has_sect3 : Stand → Bool
has_sect3 between = false
has_sect3 after0 = false
has_sect3 after1 = false
has_sect3 (after2 grid) = grid
has_sect3 after3 = true
has_sect3 after4 = true
has_sect3 after5 = true
has_sect3 after6 = true
has_sect3 after7 = true

-- in a message a section is told
abbrev Begun : Stand → ℕ → Type 0
Begun between sections = 0 ≤ sections
Begun after0 sections = 0 < sections
Begun after1 sections = 0 < sections
Begun (after2 grid) sections = 0 < sections
Begun after3 sections = 0 < sections
Begun after4 sections = 0 < sections
Begun after5 sections = 0 < sections
Begun after6 sections = 0 < sections
Begun after7 sections = 0 < sections

abbrev force_of : Places → Count → Force
force_of k c =
    record {
      message = c.message;
      submessage = c.submessage;
      span = c.span;
      local = k.local;
      places =
          place k.p0 ∷ place k.p1 ∷ place 0 ∷ place k.p3 ∷ place k.p4 ∷ place k.p5 ∷ place k.p6 ∷ place k.p7 ∷ [];
    }

abbrev reached_of : Stand → Places → Count → Reached
reached_of x k c =
    record {
      file = c.file;
      sections = c.sections;
      lines = c.lines;
      last = c.last;
      order = order_of x;
      force = force_of k c;
    }

-- a section, with its number written
abbrev numbered : ℕ → Section → Section
numbered n s = record { number = n; offset = s.offset; length = s.length }

-- the count after a section is passed, after one that first completes a submessage, and after a section 8
abbrev told : Count → Section → Count
told c s =
    record {
      file = c.file;
      sections = c.sections + 1;
      lines = c.lines;
      last = record { place = place c.sections; section = s };
      message = c.message;
      submessage = c.submessage;
      span = span_behind c.file c.span s;
    }

abbrev told_on : Count → Section → Count
told_on c s =
    record {
      file = c.file;
      sections = c.sections + 1;
      lines = c.lines + 1;
      last = record { place = place c.sections; section = s };
      message = c.message;
      submessage = c.submessage + 1;
      span = c.span;
    }

abbrev told_end : Count → Section → Count
told_end c s =
    record {
      file = c.file;
      sections = c.sections + 1;
      lines = c.lines + 1;
      last = record { place = place c.sections; section = s };
      message = c.message + 1;
      submessage = 0;
      span = span (record { 0 = 0 }) 0;
    }

-- by what is kept, and what a look at a place gives
module _ {K : Type 0} (κ : Keeping K) (look : ℕ → K) where
  -- of the sections from a place on, a look gives what is kept
  abbrev pub Seen : ℕ → List Section → Type 0
  Seen n [] = Unit
  Seen n (s ∷ ss) = (κ.keep n (info_of s) ≡ look n) × Seen (n + 1) ss

  -- what is kept of this message is what a look gives; the others are what they are
  abbrev sect0_of : Stand → Places → Unkept K → K
  sect0_of between k u = u.u0
  sect0_of after0 k u = look k.p0
  sect0_of after1 k u = look k.p0
  sect0_of (after2 grid) k u = look k.p0
  sect0_of after3 k u = look k.p0
  sect0_of after4 k u = look k.p0
  sect0_of after5 k u = look k.p0
  sect0_of after6 k u = look k.p0
  sect0_of after7 k u = look k.p0

  abbrev sect1_of : Stand → Places → Unkept K → K
  sect1_of between k u = u.u1
  sect1_of after0 k u = u.u1
  sect1_of after1 k u = look k.p1
  sect1_of (after2 grid) k u = look k.p1
  sect1_of after3 k u = look k.p1
  sect1_of after4 k u = look k.p1
  sect1_of after5 k u = look k.p1
  sect1_of after6 k u = look k.p1
  sect1_of after7 k u = look k.p1

  abbrev sect3_of : Stand → Places → Unkept K → K
  sect3_of between k u = u.u3
  sect3_of after0 k u = u.u3
  sect3_of after1 k u = u.u3
  sect3_of (after2 grid) k u = u.u3
  sect3_of after3 k u = look k.p3
  sect3_of after4 k u = look k.p3
  sect3_of after5 k u = look k.p3
  sect3_of after6 k u = look k.p3
  sect3_of after7 k u = look k.p3

  abbrev locals_of : Stand → Places → Unkept K → Locals K
  locals_of between k u = u.others
  locals_of after0 k u = u.others
  locals_of after1 k u = u.others
  locals_of (after2 grid) k u = u.others
  locals_of after3 k u = u.others
  locals_of after4 k u = locals (look k.p4) u.others.sect5 u.others.sect6 u.others.sect7
  locals_of after5 k u = locals (look k.p4) (look k.p5) u.others.sect6 u.others.sect7
  locals_of after6 k u = locals (look k.p4) (look k.p5) (look k.p6) u.others.sect7
  locals_of after7 k u = locals (look k.p4) (look k.p5) (look k.p6) (look k.p7)

  abbrev rust_of : {I : Type 0} → Stand → Places → Unkept K → Count → I → SubmessageStream I K
  rust_of x k u c i =
      caching
      (record {
        iter = record { iter = i; count = c.sections; peeked = None };
        pos = c.last.place.0;
        message_count = c.message;
        submessage_count = c.submessage;
        state = state_of x;
        has_sect3 = has_sect3 x;
      })
      (sect0_of x k u) (sect1_of x k u) (kept_local look k.local) (sect3_of x k u)

  -- the submessage in hand
  abbrev in_hand : Places → Count → K → Submessage K
  in_hand k c end =
      record {
        message = c.message;
        submessage = c.submessage;
        sect0 = look k.p0;
        sect1 = look k.p1;
        sect2 = kept_local look k.local;
        sect3 = look k.p3;
        sect4 = look k.p4;
        sect5 = look k.p5;
        sect6 = look k.p6;
        sect7 = look k.p7;
        sect8 = end;
      }

  -- between messages, and at the start of a submessage, nothing is kept of it
  abbrev pub nothing_kept : Unkept K
  nothing_kept = record { u0 = κ.default; u1 = κ.default; u3 = κ.default; others = fresh_locals κ }

  abbrev only_grid : Places → Unkept K
  only_grid k = record { u0 = κ.default; u1 = κ.default; u3 = look k.p3; others = fresh_locals κ }

  module _ {I : Type 0} (advance : Advance I) (room : Room) where
    abbrev Goal : ℕ → Stand → Places → Unkept K → Count → I → List Section → Ending → Type 0
    Goal n x k u c i ss e =
        collected κ advance n (rust_of x k u c i) (locals_of x k u) ≡ in_words κ look (walked_from room (reached_of x k c) ss e)

    -- from any state that the two share, with turns and room enough
    abbrev Claim : List Section → Ending → I → Type 0
    Claim ss e i =
        (x : Stand) (k : Places) (u : Unkept K) (n : ℕ) (c : Count) → Begun x c.sections
        → Seen c.sections (walked_from room (reached_of x k c) ss e).sections
        → 2 * length ss + 2 ≤ n → c.sections + length ss ≤ room.rows → c.lines + length ss ≤ room.lines → Goal n x k u c i ss e

    -- an overflow
    broken : (i : I) (fault : Fault) (offset : Offset) → advance i ≡ overflows → failure_of fault offset ≡ overflow → Claim [] (unreadable fault offset) i
    unfolding collected next_in ensure_next_is_sect0 ensure_next_is_sect_2_or_3_or_4 ensure_next_is_sect8 ensure_next_is_sect_num
        walked_from concluded is_between
    broken i fault offset h f x k u zero c begun seen turns rows lines = absurd (omega arith)
    broken i fault offset h f between k u (suc n) c begun seen turns rows lines = rw (h, f) refl
    broken i fault offset h f after0 k u (suc n) c begun seen turns rows lines = rw (h, f) refl
    broken i fault offset h f after1 k u (suc n) c begun seen turns rows lines = rw (h, f) refl
    broken i fault offset h f (after2 grid) k u (suc n) c begun seen turns rows lines = rw (h, f) refl
    broken i fault offset h f after3 k u (suc n) c begun seen turns rows lines = rw (h, f) refl
    broken i fault offset h f after4 k u (suc n) c begun seen turns rows lines = rw (h, f) refl
    broken i fault offset h f after5 k u (suc n) c begun seen turns rows lines = rw (h, f) refl
    broken i fault offset h f after6 k u (suc n) c begun seen turns rows lines = rw (h, f) refl
    broken i fault offset h f after7 k u (suc n) c begun seen turns rows lines = rw (h, f) refl

    -- the input is over
    ended : (i : I) → advance i ≡ none → Claim [] over i
    unfolding collected next_in ensure_next_is_sect0 ensure_next_is_sect_2_or_3_or_4 ensure_next_is_sect8 ensure_next_is_sect_num
        walked_from concluded is_between
    ended i h x k u zero c begun seen turns rows lines = absurd (omega arith)
    ended i h between k u (suc n) c begun seen turns rows lines = rw h refl
    ended i h after0 k u (suc n) c begun seen turns rows lines = rw h refl
    ended i h after1 k u (suc n) c begun seen turns rows lines = rw h refl
    ended i h (after2 grid) k u (suc n) c begun seen turns rows lines = rw h refl
    ended i h after3 k u (suc n) c begun seen turns rows lines = rw h refl
    ended i h after4 k u (suc n) c begun seen turns rows lines = rw h refl
    ended i h after5 k u (suc n) c begun seen turns rows lines = rw h refl
    ended i h after6 k u (suc n) c begun seen turns rows lines = rw h refl
    ended i h after7 k u (suc n) c begun seen turns rows lines = rw h refl

    -- a section can't be read
    unread : (i : I) (fault : Fault) (offset : Offset) (error : ParseError) (dropped : Dropped) → advance i ≡ errs error dropped
        → failure_of fault offset ≡ fails error dropped
        → Claim [] (unreadable fault offset) i
    unfolding collected next_in ensure_next_is_sect0 ensure_next_is_sect_2_or_3_or_4 ensure_next_is_sect8 ensure_next_is_sect_num
        walked_from concluded is_between
    unread i fault offset error dropped h f x k u zero c begun seen turns rows lines = absurd (omega arith)
    unread i fault offset error dropped h f between k u (suc n) c begun seen turns rows lines = rw (h, f) refl
    unread i fault offset error dropped h f after0 k u (suc n) c begun seen turns rows lines = rw (h, f) refl
    unread i fault offset error dropped h f after1 k u (suc n) c begun seen turns rows lines = rw (h, f) refl
    unread i fault offset error dropped h f (after2 grid) k u (suc n) c begun seen turns rows lines = rw (h, f) refl
    unread i fault offset error dropped h f after3 k u (suc n) c begun seen turns rows lines = rw (h, f) refl
    unread i fault offset error dropped h f after4 k u (suc n) c begun seen turns rows lines = rw (h, f) refl
    unread i fault offset error dropped h f after5 k u (suc n) c begun seen turns rows lines = rw (h, f) refl
    unread i fault offset error dropped h f after6 k u (suc n) c begun seen turns rows lines = rw (h, f) refl
    unread i fault offset error dropped h f after7 k u (suc n) c begun seen turns rows lines = rw (h, f) refl

    -- a section is passed, or refused by the order
    passed : (s : Section) (ss : List Section) (e : Ending) (i j : I) → advance i ≡ gives (info_of s, j) → Claim ss e j → Claim (s ∷ ss) e i
    unfolding collected next_in match_num ensure_next_is_sect0 ensure_next_is_sect_2_or_3_or_4 ensure_next_is_sect8 ensure_next_is_sect_num
        walked_from judgement by_order fitted closing judged completes span_behind in_force line_of
    passed s ss e i j h later x k u zero c begun seen turns rows lines = absurd (omega arith)
    passed s ss e i j h later x k u (suc zero) c begun seen turns rows lines = absurd (omega arith)
    passed s ss e i j h later between k u (suc (suc n)) c begun seen turns rows lines =
        rw h
        (decide (eqb s.number 0)
        (λ is.
        let q = rw (eqb-true s.number 0 is, lt-leb room.rows c.sections (omega arith)) at seen in
        rw (eqb-true s.number 0 is, lt-leb room.rows c.sections (omega arith), q.0)
        (ap (adds (info 0 s.offset.0 s.length ∷ []) [])
        (later after0 (with0 k c.sections) u (suc n) (told c (numbered 0 s)) (omega arith) q.1 (omega arith) (omega arith) (omega arith))))
        (λ other. rw other refl))
    passed s ss e i j h later after0 k u (suc (suc n)) c begun seen turns rows lines =
        rw h
        (decide (eqb s.number 1)
        (λ is.
        let q = rw (eqb-true s.number 1 is, lt-leb room.rows c.sections (omega arith)) at seen in
        rw (eqb-true s.number 1 is, lt-leb room.rows c.sections (omega arith), q.0)
        (ap (adds (info 1 s.offset.0 s.length ∷ []) [])
        (later after1 (with1 k c.sections) u (suc n) (told c (numbered 1 s)) (omega arith) q.1 (omega arith) (omega arith) (omega arith))))
        (λ other. rw other refl))
    passed s ss e i j h later after1 k u (suc (suc n)) c begun seen turns rows lines =
        rw h
        (decide (eqb s.number 2)
        (λ is.
        let q = rw (eqb-true s.number 2 is, lt-leb room.rows c.sections (omega arith)) at seen in
        rw (eqb-true s.number 2 is, lt-leb room.rows c.sections (omega arith), q.0)
        (ap (adds (info 2 s.offset.0 s.length ∷ []) [])
        (later (after2 false) (with2 k c.sections) u (suc n) (told c (numbered 2 s)) (omega arith) q.1 (omega arith) (omega arith) (omega arith))))
        λ not2. decide (eqb s.number 3)
        (λ is.
        let q = rw (eqb-true s.number 3 is, lt-leb room.rows c.sections (omega arith)) at seen in
        rw (eqb-true s.number 3 is, lt-leb room.rows c.sections (omega arith), q.0)
        (ap (adds (info 3 s.offset.0 s.length ∷ []) [])
        (later after3 (with3 k c.sections) u (suc n) (told c (numbered 3 s)) (omega arith) q.1 (omega arith) (omega arith) (omega arith))))
        λ not3. decide (eqb s.number 4)
        (λ is. rw (eqb-true s.number 4 is) refl)
        λ not4. rw (not2, not3, not4) refl)
    passed s ss e i j h later (after2 grid) k u (suc (suc n)) c begun seen turns rows lines =
        rw h
        (decide (eqb s.number 3)
        (λ is.
        let q = rw (eqb-true s.number 3 is, lt-leb room.rows c.sections (omega arith)) at seen in
        rw (eqb-true s.number 3 is, lt-leb room.rows c.sections (omega arith), q.0)
        (ap (adds (info 3 s.offset.0 s.length ∷ []) [])
        (later after3 (with3 k c.sections) u (suc n) (told c (numbered 3 s)) (omega arith) q.1 (omega arith) (omega arith) (omega arith))))
        (λ other. rw other refl))
    passed s ss e i j h later after3 k u (suc (suc n)) c begun seen turns rows lines =
        rw h
        (decide (eqb s.number 4)
        (λ is.
        let q = rw (eqb-true s.number 4 is, lt-leb room.rows c.sections (omega arith)) at seen in
        rw (eqb-true s.number 4 is, lt-leb room.rows c.sections (omega arith), q.0)
        (ap (adds (info 4 s.offset.0 s.length ∷ []) [])
        (later after4 (with4 k c.sections) u (suc n) (told c (numbered 4 s)) (omega arith) q.1 (omega arith) (omega arith) (omega arith))))
        (λ other. rw other refl))
    passed s ss e i j h later after4 k u (suc (suc n)) c begun seen turns rows lines =
        rw h
        (decide (eqb s.number 5)
        (λ is.
        let q = rw (eqb-true s.number 5 is, lt-leb room.rows c.sections (omega arith)) at seen in
        rw (eqb-true s.number 5 is, lt-leb room.rows c.sections (omega arith), q.0)
        (ap (adds (info 5 s.offset.0 s.length ∷ []) [])
        (later after5 (with5 k c.sections) u (suc n) (told c (numbered 5 s)) (omega arith) q.1 (omega arith) (omega arith) (omega arith))))
        (λ other. rw other refl))
    passed s ss e i j h later after5 k u (suc (suc n)) c begun seen turns rows lines =
        rw h
        (decide (eqb s.number 6)
        (λ is.
        let q = rw (eqb-true s.number 6 is, lt-leb room.rows c.sections (omega arith)) at seen in
        rw (eqb-true s.number 6 is, lt-leb room.rows c.sections (omega arith), q.0)
        (ap (adds (info 6 s.offset.0 s.length ∷ []) [])
        (later after6 (with6 k c.sections) u (suc n) (told c (numbered 6 s)) (omega arith) q.1 (omega arith) (omega arith) (omega arith))))
        (λ other. rw other refl))
    passed s ss e i j h later after6 k u (suc (suc n)) c begun seen turns rows lines =
        rw h
        (decide (eqb s.number 7)
        (λ is.
        let q = rw (eqb-true s.number 7 is, lt-leb room.rows c.sections (omega arith)) at seen in
        rw (eqb-true s.number 7 is, lt-leb room.rows c.sections (omega arith), q.0)
        (ap (adds (info 7 s.offset.0 s.length ∷ []) [])
        (later after7 (with7 k c.sections) u (suc n) (told c (numbered 7 s)) (omega arith) q.1 (omega arith) (omega arith) (omega arith))))
        (λ other. rw other refl))
    passed s ss e i j h later after7 k u (suc (suc n)) c begun seen turns rows lines =
        rw h
        (decide (eqb s.number 8)
        (λ is.
        let q = rw (eqb-true s.number 8 is, lt-leb room.rows c.sections (omega arith), lt-leb room.lines c.lines (omega arith)) at seen in
        rw (eqb-true s.number 8 is, lt-leb room.rows c.sections (omega arith), lt-leb room.lines c.lines (omega arith), ne_eqb c.sections 0 (omega arith), q.0)
        (ap (adds (info 8 s.offset.0 s.length ∷ []) (in_hand k c (look c.sections) ∷ []))
        (later between (places 0 0 None 0 0 0 0 0) nothing_kept (suc n) (told_end c (numbered 8 s)) (omega arith) q.1 (omega arith) (omega arith) (omega arith))))
        λ not8. decide (eqb s.number 2)
        (λ is.
        let q = rw (eqb-true s.number 2 is, lt-leb room.lines c.lines (omega arith), lt-leb room.rows c.sections (omega arith)) at seen in
        rw (eqb-true s.number 2 is, lt-leb room.lines c.lines (omega arith), lt-leb room.rows c.sections (omega arith), q.0)
        (ap (adds (info 2 s.offset.0 s.length ∷ []) (in_hand k c (κ.keep 0 (info 8 0 4)) ∷ []))
        (later (after2 true) (with2 k c.sections) (only_grid k) n (told_on c (numbered 2 s)) (omega arith) q.1 (omega arith) (omega arith) (omega arith))))
        λ not2. decide (eqb s.number 3)
        (λ is.
        let q = rw (eqb-true s.number 3 is, lt-leb room.lines c.lines (omega arith), lt-leb room.rows c.sections (omega arith)) at seen in
        rw (eqb-true s.number 3 is, lt-leb room.lines c.lines (omega arith), lt-leb room.rows c.sections (omega arith), q.0)
        (ap (adds (info 3 s.offset.0 s.length ∷ []) (in_hand k c (κ.keep 0 (info 8 0 4)) ∷ []))
        (later after3 (with3 k c.sections) nothing_kept n (told_on c (numbered 3 s)) (omega arith) q.1 (omega arith) (omega arith) (omega arith))))
        λ not3. decide (eqb s.number 4)
        (λ is.
        let q = rw (eqb-true s.number 4 is, lt-leb room.lines c.lines (omega arith), lt-leb room.rows c.sections (omega arith)) at seen in
        rw (eqb-true s.number 4 is, lt-leb room.lines c.lines (omega arith), lt-leb room.rows c.sections (omega arith), q.0)
        (ap (adds (info 4 s.offset.0 s.length ∷ []) (in_hand k c (κ.keep 0 (info 8 0 4)) ∷ []))
        (later after4 (with4 k c.sections) nothing_kept n (told_on c (numbered 4 s)) (omega arith) q.1 (omega arith) (omega arith) (omega arith))))
        λ not4. rw (not8, lt-leb room.lines c.lines (omega arith), not2, not3, not4) refl)

    -- the whole listing
    pub submessages : (ss : List Section) (e : Ending) (i : I) → Yields advance i ss e → Claim ss e i
    submessages [] over i (is_over h) = ended i h
    submessages [] (unreadable fault offset) i (is_refused h f) = unread i fault offset _ _ h f
    submessages [] (unreadable fault offset) i (is_broken h f) = broken i fault offset h f
    submessages (s ∷ ss) e i (yields h more) = passed s ss e i _ h (submessages ss e _ more)
