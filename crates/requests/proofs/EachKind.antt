-- The laws of each kind of request: that there is none where its end lies past the input's, where a
-- table or a destination is over its limit, or its reading is not known; itself where not; and that
-- its octets then stand.
use Rattle.std.specs.Prelude.{Option, Some, None}
use mathlib.Core.Path.{◌≡◌, refl}
use mathlib.Core.Bool.{Bool, true, false}
use mathlib.Core.List.{List}
use Prim.Native.Nat.{ℕ, ◌+◌, ◌*◌, ◌<◌, ◌≤◌}
use native.Mathlib.Omega.{arith}
use borrow.Author.Tests.{lt-ltb, le-ltb, ltb-false}
use lib.Dec.{ltb}
use lib.ListN.{length, get_or}
use Rattle.octets.specs.Words.{pick}
use Rattle.octets.specs.BigEndian.{be_at}
use Rattle.products.specs.declared.templates.TemplateReading.{TemplateReading}
use Rattle.requests.specs.Requests.{walk_request_at, pull_request_at, into_request_at}
use Rattle.requests.specs.Requests.{
  write_request_at,
  payload_request_at,
  signed_request_at,
  list_request_at,
}
use Rattle.requests.specs.Requests.{reading_of, read_by, offsets_request_at}
use Rattle.requests.specs.Requests.{payload_kind}
use Rattle.requests.specs.declared.Writing.{Writing}
use Rattle.requests.specs.declared.Request.{Request}
use Rattle.requests.specs.declared.Request.TheVariants.{Walk, Pull, Copy, Write}
use Rattle.requests.specs.declared.Request.TheVariants.{Fields, Signed, Inventory}
use Rattle.requests.specs.declared.Request.TheVariants.{Offsets, WhenWhere}
use Rattle.requests.specs.declared.Request.TheVariants as request
use Rattle.requests.specs.declared.kinds.PayloadKind.TheVariants as payload
use Rattle.requests.proofs.Stands.{Stands, Inside, Roomed}

-- what holds of both answers of a test, each where the test says so, holds of the one picked
pub pick_by : {A : Type 0} (P : A → Type 0) (t : Bool) {a b : A} → (t ≡ true → P a)
    → (t ≡ false → P b) → P (pick t a b)
pick_by P true f g = f refl
pick_by P false f g = g refl

-- `W`; `n`, `m` and `size` are what its numbers say
module _ (s : List ℕ) (at n m size : ℕ) (en : n ≡ be_at s (at + 1) 2) (em : m ≡ be_at s (at + 3) 2)
    (es : size ≡ be_at s (at + 5) 4) where
  pub walk_cut : length s < at + 9 + size → None ≡ walk_request_at s at
  unfolding walk_request_at
  walk_cut h = simp (← es, lt-ltb _ _ h)

  pub walk_numbers_over : at + 9 + size ≤ length s → 6144 < n → None ≡ walk_request_at s at
  unfolding walk_request_at
  walk_numbers_over h o = simp (← es, ← en, le-ltb _ _ h, lt-ltb _ _ o)

  pub walk_lines_over : at + 9 + size ≤ length s → n ≤ 6144 → 512 < m → None ≡ walk_request_at s at
  unfolding walk_request_at
  walk_lines_over h k o = simp (← es, ← en, ← em, le-ltb _ _ h, le-ltb _ _ k, lt-ltb _ _ o)

  pub walk_whole : at + 9 + size ≤ length s → n ≤ 6144 → m ≤ 512
      → Some (Walk n m (at + 9) (at + 9 + size)) ≡ walk_request_at s at
  unfolding walk_request_at
  walk_whole h k l = simp (← es, ← en, ← em, le-ltb _ _ h, le-ltb _ _ k, le-ltb _ _ l)

pub walk_stands : (s : List ℕ) (at : ℕ) → Stands s at (walk_request_at s at)
unfolding walk_request_at
walk_stands s at =
    pick_by (Stands s at) (ltb (length s) (at + 9 + be_at s (at + 5) 4)) (λ e. tt) (λ e.
    pick_by (Stands s at) (ltb 6144 (be_at s (at + 1) 2)) (λ e. tt) (λ f.
    pick_by (Stands s at) (ltb 512 (be_at s (at + 3) 2)) (λ e. tt) (λ g.
    record {
      octets = record { behind = omega arith; ordered = omega arith; within = ltb-false _ _ e };
      numbers = ltb-false _ _ f;
      lines = ltb-false _ _ g;
    })))

-- `P`
module _ (s : List ℕ) (at : ℕ) where
  pub pull_cut : length s < at + 5 + be_at s (at + 1) 4 → None ≡ pull_request_at s at
  unfolding pull_request_at
  pull_cut h = simp (lt-ltb _ _ h)

  pub pull_whole : (size : ℕ) → size ≡ be_at s (at + 1) 4 → at + 5 + size ≤ length s
      → Some (Pull (at + 5) (at + 5 + size)) ≡ pull_request_at s at
  unfolding pull_request_at
  pull_whole size e h = simp (← e, le-ltb _ _ h)

  pub pull_stands : Stands s at (pull_request_at s at)
  unfolding pull_request_at
  pull_stands =
      pick_by (Stands s at) (ltb (length s) (at + 5 + be_at s (at + 1) 4)) (λ e. tt) (λ e.
      record { behind = omega arith; ordered = omega arith; within = ltb-false _ _ e })

-- `C` and `I`; `d` and `size` are what its numbers say
module _ (kind : ℕ → ℕ → ℕ → Request) (s : List ℕ) (at d size : ℕ) (ed : d ≡ be_at s (at + 1) 4)
    (es : size ≡ be_at s (at + 5) 4) where
  pub into_cut : length s < at + 9 + size → None ≡ into_request_at kind s at
  unfolding into_request_at
  into_cut h = simp (← es, lt-ltb _ _ h)

  pub into_room_over : at + 9 + size ≤ length s → 262144 < d → None ≡ into_request_at kind s at
  unfolding into_request_at
  into_room_over h o = simp (← es, ← ed, le-ltb _ _ h, lt-ltb _ _ o)

  pub into_whole : at + 9 + size ≤ length s → d ≤ 262144
      → Some (kind d (at + 9) (at + 9 + size)) ≡ into_request_at kind s at
  unfolding into_request_at
  into_whole h k = simp (← es, ← ed, le-ltb _ _ h, le-ltb _ _ k)

-- so of any kind whose requests stand where their room and their octets do
into_stands : (kind : ℕ → ℕ → ℕ → Request) (s : List ℕ) (at : ℕ)
    → ((d from to : ℕ) → Roomed 262144 s at d from to → Stands s at (Some (kind d from to)))
    → Stands s at (into_request_at kind s at)
unfolding into_request_at
into_stands kind s at so =
    pick_by (Stands s at) (ltb (length s) (at + 9 + be_at s (at + 5) 4)) (λ e. tt) (λ e.
    pick_by (Stands s at) (ltb 262144 (be_at s (at + 1) 4)) (λ e. tt) (λ f.
    so _ _ _
    (record {
      octets = record { behind = omega arith; ordered = omega arith; within = ltb-false _ _ e };
      room = ltb-false _ _ f;
    })))

pub copy_stands : (s : List ℕ) (at : ℕ) → Stands s at (into_request_at Copy s at)
copy_stands s at = into_stands Copy s at (λ d from to h. h)

pub inventory_stands : (s : List ℕ) (at : ℕ) → Stands s at (into_request_at Inventory s at)
inventory_stands s at = into_stands Inventory s at (λ d from to h. h)

-- `M`; `k`, `size` and `d` are what its numbers say
module _ (s : List ℕ) (at k size d : ℕ) (ek : k ≡ be_at s (at + 4) 2)
    (es : size ≡ be_at s (at + 6 + k * 24) 4)
    (ed : d ≡ be_at s (at + 6 + k * 24 + 4 + size) 4) where
  pub write_cut : length s < at + 6 + k * 24 + 4 + size + 4 → None ≡ write_request_at s at
  unfolding write_request_at
  write_cut h = simp (← ek, ← es, lt-ltb _ _ h)

  pub write_room_over : at + 6 + k * 24 + 4 + size + 4 ≤ length s → 262144 < d
      → None ≡ write_request_at s at
  unfolding write_request_at
  write_room_over h o = simp (← ek, ← es, ← ed, le-ltb _ _ h, lt-ltb _ _ o)

  -- a message to be written, whose places follow from these numbers
  abbrev pub written : Writing
  written =
      record {
        discipline = get_or s (at + 1) 0;
        first = get_or s (at + 2) 0;
        second = get_or s (at + 3) 0;
        plan = at + 6;
        sections = k;
        store = at + 6 + k * 24 + 4;
        end = at + 6 + k * 24 + 4 + size;
        room = d;
        to = at + 6 + k * 24 + 4 + size + 4;
      }

  pub write_whole : at + 6 + k * 24 + 4 + size + 4 ≤ length s → d ≤ 262144
      → Some (Write written) ≡ write_request_at s at
  unfolding write_request_at
  write_whole h l = simp (← ek, ← es, ← ed, le-ltb _ _ h, le-ltb _ _ l)

pub write_stands : (s : List ℕ) (at : ℕ) → Stands s at (write_request_at s at)
unfolding write_request_at
write_stands s at =
    let rows_end = at + 6 + be_at s (at + 4) 2 * 24 in
    let end = rows_end + 4 + be_at s rows_end 4 in
    pick_by (Stands s at) (ltb (length s) (end + 4)) (λ e. tt) (λ e.
    pick_by (Stands s at) (ltb 262144 (be_at s end 4)) (λ e. tt) (λ f.
    let inside = ltb-false (length s) (end + 4) e in
    record {
      planned = record {
        rows = omega arith;
        ordered = omega arith;
        within = omega arith;
        room = ltb-false _ _ f;
      };
      later = omega arith;
      inside = inside;
    }))

-- `F` and `T`; `size` is what its length says
module _ (kind : ℕ → ℕ → ℕ → Option Request) (s : List ℕ) (at size : ℕ)
    (es : size ≡ be_at s (at + 2) 4) where
  pub payload_cut : length s < at + 6 + size → None ≡ payload_request_at kind s at
  unfolding payload_request_at
  payload_cut h = simp (← es, lt-ltb _ _ h)

  pub payload_whole : at + 6 + size ≤ length s
      → kind (get_or s (at + 1) 0) (at + 6) (at + 6 + size) ≡ payload_request_at kind s at
  unfolding payload_request_at
  payload_whole h = simp (← es, le-ltb _ _ h)

-- so of any kind whose requests stand where their octets do
payload_stands : (kind : ℕ → ℕ → ℕ → Option Request) (s : List ℕ) (at : ℕ)
    → ((number from to : ℕ) → Inside s at from to → Stands s at (kind number from to))
    → Stands s at (payload_request_at kind s at)
unfolding payload_request_at
payload_stands kind s at so =
    pick_by (Stands s at) (ltb (length s) (at + 6 + be_at s (at + 2) 4)) (λ e. tt) (λ e.
    so _ _ _ (record { behind = omega arith; ordered = omega arith; within = ltb-false _ _ e }))

pub fields_stands : (s : List ℕ) (at : ℕ)
    → Stands s at (payload_request_at (payload_kind payload.Fields) s at)
fields_stands s at = payload_stands (payload_kind payload.Fields) s at (λ number from to h. h)

-- what stands by every reading stands by the one of a number, or there is none
read_by_lem : (s : List ℕ) (at : ℕ) (request : TemplateReading → Request)
    (reading : Option TemplateReading)
    → ((by : TemplateReading) → Stands s at (Some (request by)))
    → Stands s at (read_by reading request)
read_by_lem s at request (Some reading) so = so reading
read_by_lem s at request None so = tt

pub when_where_stands : (s : List ℕ) (at : ℕ)
    → Stands s at (payload_request_at (payload_kind payload.WhenWhere) s at)
when_where_stands s at =
    payload_stands (payload_kind payload.WhenWhere) s at (λ number from to h.
    read_by_lem s at (λ by. WhenWhere by from to) (reading_of number) (λ by. h))

-- `S`
module _ (s : List ℕ) (at : ℕ) where
  pub signed_cut : length s < at + 2 + get_or s (at + 1) 0 → None ≡ signed_request_at s at
  unfolding signed_request_at
  signed_cut h = simp (lt-ltb _ _ h)

  pub signed_whole : at + 2 + get_or s (at + 1) 0 ≤ length s
      → Some (Signed (at + 2) (at + 2 + get_or s (at + 1) 0)) ≡ signed_request_at s at
  unfolding signed_request_at
  signed_whole h = simp (le-ltb _ _ h)

  pub signed_stands : Stands s at (signed_request_at s at)
  unfolding signed_request_at
  signed_stands =
      pick_by (Stands s at) (ltb (length s) (at + 2 + get_or s (at + 1) 0)) (λ e. tt) (λ e.
      record { behind = omega arith; ordered = omega arith; within = ltb-false _ _ e })

-- `R`; `m` and `size` are what its numbers say
module _ (s : List ℕ) (at m size : ℕ) (em : m ≡ be_at s (at + 1) 2)
    (es : size ≡ be_at s (at + 3) 4) where
  pub list_cut : length s < at + 7 + size → None ≡ list_request_at s at
  unfolding list_request_at
  list_cut h = simp (← es, lt-ltb _ _ h)

  pub list_room_over : at + 7 + size ≤ length s → 512 < m → None ≡ list_request_at s at
  unfolding list_request_at
  list_room_over h o = simp (← es, ← em, le-ltb _ _ h, lt-ltb _ _ o)

  pub list_whole : at + 7 + size ≤ length s → m ≤ 512
      → Some (request.List m (at + 7) (at + 7 + size)) ≡ list_request_at s at
  unfolding list_request_at
  list_whole h k = simp (← es, ← em, le-ltb _ _ h, le-ltb _ _ k)

pub list_stands : (s : List ℕ) (at : ℕ) → Stands s at (list_request_at s at)
unfolding list_request_at
list_stands s at =
    pick_by (Stands s at) (ltb (length s) (at + 7 + be_at s (at + 3) 4)) (λ e. tt) (λ e.
    pick_by (Stands s at) (ltb 512 (be_at s (at + 1) 2)) (λ e. tt) (λ f.
    record {
      octets = record { behind = omega arith; ordered = omega arith; within = ltb-false _ _ e };
      room = ltb-false _ _ f;
    }))

-- `O`
module _ (s : List ℕ) (at : ℕ) where
  pub offsets_cut : length s < at + 4 → None ≡ offsets_request_at s at
  unfolding offsets_request_at
  offsets_cut h = simp (lt-ltb _ _ h)

  pub offsets_read : (reading : Option TemplateReading) (template : ℕ)
      → reading ≡ reading_of (get_or s (at + 1) 0) → template ≡ be_at s (at + 2) 2
      → at + 4 ≤ length s
      → (read_by reading λ by. Offsets by template (at + 4)) ≡ offsets_request_at s at
  unfolding offsets_request_at
  offsets_read reading template k e h = simp (← k, ← e, le-ltb _ _ h)

  pub offsets_stands : Stands s at (offsets_request_at s at)
  unfolding offsets_request_at
  offsets_stands =
      pick_by (Stands s at) (ltb (length s) (at + 4)) (λ e. tt) (λ e.
      read_by_lem s at (λ by. Offsets by (be_at s (at + 2) 2) (at + 4)) (reading_of (get_or s (at + 1) 0))
      (λ by. record { later = omega arith; inside = ltb-false _ _ e }))
