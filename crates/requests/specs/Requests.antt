-- The requests of an input, in docs/REPLAY.md's words and order: one kind octet, then numbers, then
-- octets.
use Rattle.std.specs.Prelude.{ℕ, ◌+◌, ◌*◌, ◌≤◌, List, eqb, ltb, leb, length, get_or, Option, Some, None}
use Rattle.octets.specs.Words.{pick}
use Rattle.octets.specs.BigEndian.{be_at}
use Rattle.products.specs.declared.templates.TemplateReading.{TemplateReading}
use Rattle.products.specs.declared.templates.TemplateReading.TheVariants.{AsCrate, ByManual}
use Rattle.requests.specs.declared.Request.{Request}
use Rattle.requests.specs.declared.Writing.{Writing}
use Rattle.requests.specs.declared.Request.TheVariants.{Walk, Pull, Copy, Write}
use Rattle.requests.specs.declared.Request.TheVariants.{Fields, Signed, Inventory}
use Rattle.requests.specs.declared.Request.TheVariants.{Offsets, WhenWhere}
use Rattle.requests.specs.declared.Request.TheVariants as request
use Rattle.requests.specs.declared.kinds.IntoKind.{IntoKind}
use Rattle.requests.specs.declared.kinds.IntoKind.TheVariants as into
use Rattle.requests.specs.declared.kinds.PayloadKind.{PayloadKind}
use Rattle.requests.specs.declared.kinds.PayloadKind.TheVariants as payload

-- a request that runs to `to`, unless the end of the input cuts it
abbrev pub whole : List ℕ → ℕ → Option Request → Option Request
whole input to request = pick (ltb (length input) to) None request

-- a request, unless a number of it is over its limit
abbrev pub up_to : ℕ → ℕ → Option Request → Option Request
up_to most number request = pick (ltb most number) None request

-- `W`: n (2): numbers in the section table, at most 6,144; m (2): lines in the submessage table, at
-- most 512; length (4); the file
unfoldable pub walk_request_at : List ℕ → ℕ → Option Request
walk_request_at input at =
    let n = be_at input (at + 1) 2 in
    let m = be_at input (at + 3) 2 in
    let from = at + 9 in
    let to = from + be_at input (at + 5) 4 in
    whole input to (up_to 6144 n (up_to 512 m (Some (Walk n m from to))))

-- `P`: length (4); the file
unfoldable pub pull_request_at : List ℕ → ℕ → Option Request
pull_request_at input at =
    let from = at + 5 in
    let to = from + be_at input (at + 1) 4 in
    whole input to (Some (Pull from to))

-- `C` and `I`: d (4): length of the destination, or of the text buffer, at most 262,144; length
-- (4); the file
unfoldable pub into_request_at : (ℕ → ℕ → ℕ → Request) → List ℕ → ℕ → Option Request
into_request_at kind input at =
    let d = be_at input (at + 1) 4 in
    let from = at + 9 in
    let to = from + be_at input (at + 5) 4 in
    whole input to (up_to 262144 d (Some (kind d from to)))

-- the request of each
abbrev pub into_kind : IntoKind → ℕ → ℕ → ℕ → Request
into_kind into.Copy = Copy
into_kind into.Inventory = Inventory

-- `M`: discipline (1); reserved (1), reserved (1); k (2): sections of the plan; k times number (8),
-- offset (8), length (8); store length (4); the store; d (4): length of the destination, at most
-- 262,144
unfoldable pub write_request_at : List ℕ → ℕ → Option Request
write_request_at input at =
    let k = be_at input (at + 4) 2 in
    let plan = at + 6 in
    let rows_end = plan + k * 24 in
    let store = rows_end + 4 in
    let end = store + be_at input rows_end 4 in
    let d = be_at input end 4 in
    let to = end + 4 in
    whole input to
    (up_to 262144 d
    (Some
    (Write
    (record {
      discipline = get_or input (at + 1) 0;
      first = get_or input (at + 2) 0;
      second = get_or input (at + 3) 0;
      plan = plan;
      sections = k;
      store = store;
      end = end;
      room = d;
      to = to;
    }))))

-- a message to be written whose rows, and behind them whose store, stand inside the input, and
-- whose destination is no longer than its limit
pub record Planned (input : List ℕ) (w : Writing) : Type 0 where
  pub rows : w.plan + w.sections * 24 ≤ w.store
  pub ordered : w.store ≤ w.end
  pub within : w.end ≤ length input
  pub room : w.room ≤ 262144

-- `F` and `T`: section number, or reading (1); length (4); the payload
unfoldable pub payload_request_at : (ℕ → ℕ → ℕ → Option Request) → List ℕ → ℕ → Option Request
payload_request_at kind input at =
    let from = at + 6 in
    let to = from + be_at input (at + 2) 4 in
    whole input to (kind (get_or input (at + 1) 0) from to)

-- `S`: length (1); the octets
unfoldable pub signed_request_at : List ℕ → ℕ → Option Request
signed_request_at input at =
    let from = at + 2 in
    let to = from + get_or input (at + 1) 0 in
    whole input to (Some (Signed from to))

-- `R`: m (2): entries in the lent table, at most 512; length (4); the text
unfoldable pub list_request_at : List ℕ → ℕ → Option Request
list_request_at input at =
    let m = be_at input (at + 1) 2 in
    let from = at + 7 in
    let to = from + be_at input (at + 3) 4 in
    whole input to (up_to 512 m (Some (request.List m from to)))

-- the reading of a number: 0 as the crate, 1 by the Manual, and no other
unfoldable pub reading_of : ℕ → Option TemplateReading
reading_of number =
    pick (eqb number 0) (Some AsCrate) (pick (eqb number 1) (Some ByManual) None)

-- a request by a reading, if there is one
abbrev pub read_by : Option TemplateReading → (TemplateReading → Request) → Option Request
read_by (Some reading) request = Some (request reading)
read_by None request = None

-- `O`: reading (1); template number (2)
unfoldable pub offsets_request_at : List ℕ → ℕ → Option Request
offsets_request_at input at =
    let to = at + 4 in
    whole input to
    (read_by (reading_of (get_or input (at + 1) 0)) λ reading. Offsets reading (be_at input (at + 2) 2) to)

-- the request of each kind of payload: of a section's number, or by the reading of a number
abbrev pub payload_kind : PayloadKind → ℕ → ℕ → ℕ → Option Request
payload_kind payload.Fields number from to = Some (Fields number from to)
payload_kind payload.WhenWhere number from to =
    read_by (reading_of number) λ reading. WhenWhere reading from to

-- the request of a kind octet at `at`: 87 is `W`, 80 is `P`, 67 is `C`, 77 is `M`, 70 is `F`, 83 is
-- `S`, 73 is `I`, 82 is `R`, 79 is `O`, 84 is `T`, and there is none of another kind
abbrev pub of_kind : ℕ → List ℕ → ℕ → Option Request
of_kind kind input at =
    pick (eqb kind 87) (walk_request_at input at)
    (pick (eqb kind 80) (pull_request_at input at)
    (pick (eqb kind 67) (into_request_at Copy input at)
    (pick (eqb kind 77) (write_request_at input at)
    (pick (eqb kind 70) (payload_request_at (payload_kind payload.Fields) input at)
    (pick (eqb kind 83) (signed_request_at input at)
    (pick (eqb kind 73) (into_request_at Inventory input at)
    (pick (eqb kind 82) (list_request_at input at)
    (pick (eqb kind 79) (offsets_request_at input at)
    (pick (eqb kind 84) (payload_request_at (payload_kind payload.WhenWhere) input at) None)))))))))

-- the request at `at`; none where the input has no octet
unfoldable pub request_at : List ℕ → ℕ → Option Request
request_at input at = pick (leb (length input) at) None (of_kind (get_or input at 0) input at)

-- where the next request starts; where there was none the run ends, so at the input's end
unfoldable pub place_after : List ℕ → Option Request → ℕ
place_after input (Some (Walk n m from to)) = to
place_after input (Some (Pull from to)) = to
place_after input (Some (Copy d from to)) = to
place_after input (Some (Write w)) = w.to
place_after input (Some (Fields number from to)) = to
place_after input (Some (Signed from to)) = to
place_after input (Some (Inventory d from to)) = to
place_after input (Some (request.List m from to)) = to
place_after input (Some (Offsets reading template to)) = to
place_after input (Some (WhenWhere reading from to)) = to
place_after input None = length input
