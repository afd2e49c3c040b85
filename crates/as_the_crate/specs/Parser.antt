-- parser.rs of grib 0.20.2, function by function: the validator, and the two streams of submessages
-- over it. Grib2SubmessageStream keeps sections, Grib2SubmessageIndexStream their places; but for
-- that and the cacher their text is one, and stands here once, over what is kept.
--
-- `I` and `advance` are the Rust's `I: Iterator<Item = Result<SectionInfo, ParseError>>` and its
-- `next`. After None or an error nothing is read any more, so these tell no state. Counts of
-- sections, messages and submessages are not tested for overflow: no file has 2^64 of them.
use Rattle.std.specs.Prelude.{ℕ, zero, suc, ◌+◌, Bool, true, false, List, [], ◌∷◌, ◌++◌, eqb}
use Rattle.std.specs.Prelude.{Option, Some, None}
use Rattle.octets.specs.Words.{pick}
use Rattle.as_the_crate.specs.Std.{
  ParseError,
  UnexpectedEndOfData,
  InvalidSectionOrder,
  NoGridDefinition,
  Dropped,
  Result,
  gives,
  none,
  errs,
  overflows,
  never,
  err,
  try,
  SectionInfo,
  info,
}

abbrev pub Advance : Type 0 → Type 0
Advance I = I → Result (SectionInfo × I)

-- std Peekable<Enumerate<I>>: the iterator, its count, and an item that was looked at and not taken
pub record Peekable (I : Type 0) : Type 0 where
  pub iter : I
  pub count : ℕ
  pub peeked : Option (ℕ × SectionInfo)

-- its item: a section and its place; and what is behind it
pub record Item (I : Type 0) : Type 0 where
  pub pos : ℕ
  pub sect : SectionInfo
  pub rest : Peekable I

-- Peekable::next, by whether an item was looked at
abbrev pub next_peekable : {I : Type 0} → Advance I → I → ℕ → Option (ℕ × SectionInfo)
    → Result (Item I)
next_peekable advance iter count (Some item) =
    gives
    (record {
      pos = item.0;
      sect = item.1;
      rest = record { iter = iter; count = count; peeked = None };
    })
next_peekable advance iter count None =
    try (advance iter) λ read.
    gives
    (record {
      pos = count;
      sect = read.0;
      rest = record { iter = read.1; count = count + 1; peeked = None };
    })

-- std Peekable::next
abbrev pub Peekable-next : {I : Type 0} → Advance I → Peekable I → Result (Item I)
Peekable-next advance p = next_peekable advance p.iter p.count p.peeked

-- std Peekable::peek: the item stays in `rest`
abbrev pub Peekable-peek : {I : Type 0} → Advance I → Peekable I → Result (Item I)
Peekable-peek advance p =
    try (Peekable-next advance p) λ item.
    gives
    (record {
      pos = item.pos;
      sect = item.sect;
      rest =
          record {
            iter = item.rest.iter;
            count = item.rest.count;
            peeked = Some (item.pos, item.sect);
          };
    })

-- enum Grib2SubmessageValidatorState
pub data ValidatorState : Type 0 where
  StartOfMessage : ValidatorState
  StartOfSubmessage : ValidatorState
  EndOfSect : ℕ → ValidatorState
  EndOfStream : ValidatorState

-- struct Grib2SubmessageValidator
pub record Validator (I : Type 0) : Type 0 where
  pub iter : Peekable I
  pub pos : ℕ
  pub message_count : ℕ
  pub submessage_count : ℕ
  pub state : ValidatorState
  pub has_sect3 : Bool

-- Grib2SubmessageValidator::new
abbrev pub Validator-new : {I : Type 0} → I → Validator I
Validator-new iter =
    record {
      iter = record { iter = iter; count = 0; peeked = None };
      pos = 0;
      message_count = 0;
      submessage_count = 0;
      state = StartOfMessage;
      has_sect3 = false;
    }

-- its item, (pos, message_count, submessage_count, s), and the validator behind it
pub record Validated (I : Type 0) : Type 0 where
  pub pos : ℕ
  pub message_count : ℕ
  pub submessage_count : ℕ
  pub sect : SectionInfo
  pub validator : Validator I

-- Some(Ok((self.pos, self.message_count, self.submessage_count, s))), with self.pos, self.state and
-- self.has_sect3 set
abbrev pub validated : {I : Type 0} → Validator I → Item I → ValidatorState → Bool
    → Result (Validated I)
validated v item state has_sect3 =
    gives
    (record {
      pos = item.pos;
      message_count = v.message_count;
      submessage_count = v.submessage_count;
      sect = item.sect;
      validator =
          record {
            iter = item.rest;
            pos = item.pos;
            message_count = v.message_count;
            submessage_count = v.submessage_count;
            state = state;
            has_sect3 = has_sect3;
          };
    })

-- the section that the order refuses is in hand
abbrev pub out_of_order : {I A : Type 0} → Item I → ParseError → Result A
out_of_order item e = errs e (record { began = item.sect.offset; number = item.sect.num })

-- new_invalid_section_order_err, after self.pos = pos
abbrev pub new_invalid_section_order_err : {I A : Type 0} → Item I → Result A
new_invalid_section_order_err item = out_of_order item (InvalidSectionOrder item.pos)

-- new_no_grid_definition_err, after self.pos = pos
abbrev pub new_no_grid_definition_err : {I A : Type 0} → Item I → Result A
new_no_grid_definition_err item = out_of_order item (NoGridDefinition item.pos)

-- a `match` where None is new_unexpected_end_of_data_err, with self.pos of the section taken last
abbrev pub or_unexpected_end : {A B : Type 0} → ℕ → Result A → (A → Result B) → Result B
or_unexpected_end pos (gives a) more = more a
or_unexpected_end pos none more = err (UnexpectedEndOfData pos)
or_unexpected_end pos (errs e dropped) more = errs e dropped
or_unexpected_end pos overflows more = overflows
or_unexpected_end pos never more = never

-- ensure_next_is_sect0
unfoldable pub ensure_next_is_sect0 : {I : Type 0} → Advance I → Validator I
    → Result (Validated I)
ensure_next_is_sect0 advance v =
    try (Peekable-next advance v.iter) λ item.
    pick (eqb item.sect.num 0) (validated v item (EndOfSect 0) v.has_sect3)
    (new_invalid_section_order_err item)

-- ensure_next_is_sect_2_or_3_or_4
unfoldable pub ensure_next_is_sect_2_or_3_or_4 : {I : Type 0} → Advance I → Validator I
    → Result (Validated I)
ensure_next_is_sect_2_or_3_or_4 advance v =
    or_unexpected_end v.pos (Peekable-next advance v.iter) λ item.
    pick (eqb item.sect.num 2) (validated v item (EndOfSect 2) v.has_sect3)
    (pick (eqb item.sect.num 3) (validated v item (EndOfSect 3) true)
    (pick (eqb item.sect.num 4)
    (pick v.has_sect3 (validated v item (EndOfSect 4) v.has_sect3)
    (new_no_grid_definition_err item))
    (new_invalid_section_order_err item)))

-- ensure_next_is_sect8: any other section is only looked at, and a section 8 is made up
unfoldable pub ensure_next_is_sect8 : {I : Type 0} → Advance I → Validator I
    → Result (Validated I)
ensure_next_is_sect8 advance v =
    or_unexpected_end v.pos (Peekable-peek advance v.iter) λ peeked.
    pick (eqb peeked.sect.num 8)
    (try (Peekable-next advance peeked.rest) λ item.
    gives
    (record {
      pos = item.pos;
      message_count = v.message_count;
      submessage_count = v.submessage_count;
      sect = item.sect;
      validator =
          record {
            iter = item.rest;
            pos = item.pos;
            message_count = v.message_count + 1;
            submessage_count = 0;
            state = StartOfMessage;
            has_sect3 = false;
          };
    }))
    (gives
    (record {
      pos = 0;
      message_count = v.message_count;
      submessage_count = v.submessage_count;
      sect = info 8 0 4;
      validator =
          record {
            iter = peeked.rest;
            pos = v.pos;
            message_count = v.message_count;
            submessage_count = v.submessage_count + 1;
            state = StartOfSubmessage;
            has_sect3 = v.has_sect3;
          };
    }))

-- ensure_next_is_sect_num, where self.has_sect3 is as said
unfoldable pub ensure_next_is_sect_num : {I : Type 0} → Advance I → Validator I → Bool → ℕ
    → Result (Validated I)
ensure_next_is_sect_num advance v has_sect3 num =
    or_unexpected_end v.pos (Peekable-next advance v.iter) λ item.
    pick (eqb item.sect.num num) (validated v item (EndOfSect num) has_sect3)
    (new_invalid_section_order_err item)

-- Iterator::next of Grib2SubmessageValidator, its `match self.state`
unfoldable pub next_in : {I : Type 0} → ValidatorState → Advance I → Validator I
    → Result (Validated I)
next_in EndOfStream advance v = none
next_in StartOfMessage advance v = ensure_next_is_sect0 advance v
next_in StartOfSubmessage advance v = ensure_next_is_sect_2_or_3_or_4 advance v
next_in (EndOfSect num) advance v =
    pick (eqb num 0) (ensure_next_is_sect_num advance v v.has_sect3 1)
    (pick (eqb num 1) (ensure_next_is_sect_2_or_3_or_4 advance v)
    (pick (eqb num 2) (ensure_next_is_sect_num advance v true 3)
    (pick (eqb num 3) (ensure_next_is_sect_num advance v v.has_sect3 4)
    (pick (eqb num 4) (ensure_next_is_sect_num advance v v.has_sect3 5)
    (pick (eqb num 5) (ensure_next_is_sect_num advance v v.has_sect3 6)
    (pick (eqb num 6) (ensure_next_is_sect_num advance v v.has_sect3 7)
    (pick (eqb num 7) (ensure_next_is_sect8 advance v)
    never)))))))

-- Iterator::next of Grib2SubmessageValidator
abbrev pub Validator-next : {I : Type 0} → Advance I → Validator I → Result (Validated I)
Validator-next advance v = next_in v.state advance v

-- what a stream keeps of a section at a place, and `Default::default()` of that
pub record Keeping (K : Type 0) : Type 0 where
  pub keep : ℕ → SectionInfo → K
  pub default : K

-- Grib2SubmessageIndexStream keeps `pos`
abbrev pub positions : Keeping ℕ
positions = record { keep = λ pos s. pos; default = 0 }

-- Grib2SubmessageStream keeps `s`
abbrev pub infos : Keeping SectionInfo
infos = record { keep = λ pos s. s; default = info 0 0 0 }

-- what a stream gives: struct Submessage, and struct Grib2SubmessageIndex of context.rs
pub record Submessage (K : Type 0) : Type 0 where
  pub message : ℕ
  pub submessage : ℕ
  pub sect0 : K
  pub sect1 : K
  pub sect2 : Option K
  pub sect3 : K
  pub sect4 : K
  pub sect5 : K
  pub sect6 : K
  pub sect7 : K
  pub sect8 : K

-- struct Grib2SubmessageStream, struct Grib2SubmessageIndexStream: the sections 0 to 3 in force
pub record SubmessageStream (I K : Type 0) : Type 0 where
  pub iter : Validator I
  pub sect0 : K
  pub sect1 : K
  pub sect2 : Option K
  pub sect3 : K

abbrev pub caching : {I K : Type 0} → Validator I → K → K → Option K → K → SubmessageStream I K
caching iter sect0 sect1 sect2 sect3 =
    record { iter = iter; sect0 = sect0; sect1 = sect1; sect2 = sect2; sect3 = sect3 }

-- clear_message_cache
abbrev pub clear_message_cache : {I K : Type 0} → Keeping K → Validator I → SubmessageStream I K
clear_message_cache κ iter = caching iter κ.default κ.default None κ.default

-- Grib2SubmessageStream::new, Grib2SubmessageIndexStream::new
abbrev pub SubmessageStream-new : {I K : Type 0} → Keeping K → I → SubmessageStream I K
SubmessageStream-new κ iter = clear_message_cache κ (Validator-new iter)

-- the locals of their `next`
pub record Locals (K : Type 0) : Type 0 where
  pub sect4 : K
  pub sect5 : K
  pub sect6 : K
  pub sect7 : K

abbrev pub locals : {K : Type 0} → K → K → K → K → Locals K
locals sect4 sect5 sect6 sect7 =
    record { sect4 = sect4; sect5 = sect5; sect6 = sect6; sect7 = sect7 }

-- as it begins
abbrev pub fresh_locals : {K : Type 0} → Keeping K → Locals K
fresh_locals κ = locals κ.default κ.default κ.default κ.default

-- how a turn of its loop ends: with a section, which the cacher gets; or a submessage is returned,
-- with the section 8 for the cacher unless it was made up
pub data Turn (I K : Type 0) : Type 0 where
  loops : SectionInfo → SubmessageStream I K → Locals K → Turn I K
  returns : List SectionInfo → Submessage K → SubmessageStream I K → Turn I K
  unreachable : Turn I K

-- Iterator::next of Grib2SubmessageStream and of Grib2SubmessageIndexStream, its `match s.num`
unfoldable pub match_num : {I K : Type 0} → Keeping K → ℕ → SubmessageStream I K → Locals K
    → Validated I → Turn I K
match_num {I} {K} κ num s l p =
    let v = p.validator in
    let it = κ.keep p.pos p.sect in
    let same = caching v s.sect0 s.sect1 s.sect2 s.sect3 in
    pick (eqb num 0) (loops p.sect (caching v it s.sect1 s.sect2 s.sect3) l)
    (pick (eqb num 1) (loops p.sect (caching v s.sect0 it s.sect2 s.sect3) l)
    (pick (eqb num 2) (loops p.sect (caching v s.sect0 s.sect1 (Some it) s.sect3) l)
    (pick (eqb num 3) (loops p.sect (caching v s.sect0 s.sect1 s.sect2 it) l)
    (pick (eqb num 4) (loops p.sect same (locals it l.sect5 l.sect6 l.sect7))
    (pick (eqb num 5) (loops p.sect same (locals l.sect4 it l.sect6 l.sect7))
    (pick (eqb num 6) (loops p.sect same (locals l.sect4 l.sect5 it l.sect7))
    (pick (eqb num 7) (loops p.sect same (locals l.sect4 l.sect5 l.sect6 it))
    (pick (eqb num 8)
    (let ret : Submessage K =
    record {
      message = p.message_count;
      submessage = p.submessage_count;
      sect0 = s.sect0;
      sect1 = s.sect1;
      sect2 = s.sect2;
      sect3 = s.sect3;
      sect4 = l.sect4;
      sect5 = l.sect5;
      sect6 = l.sect6;
      sect7 = l.sect7;
      sect8 = it;
    } in
    pick (eqb p.pos 0) (returns [] ret same)
    (returns (p.sect ∷ []) ret (clear_message_cache κ v)))
    unreachable))))))))

-- how it ends when `next` is called until it answers None or an error
pub data Finish : Type 0 where
  clean : Finish
  fails : ParseError → Dropped → Finish
  overflow : Finish
  unended : Finish

-- the sections that the cacher got, the submessages, and the end
pub record Collected (K : Type 0) : Type 0 where
  pub sections : List SectionInfo
  pub submessages : List (Submessage K)
  pub end : Finish

abbrev pub finished : {K : Type 0} → Finish → Collected K
finished end = record { sections = []; submessages = []; end = end }

abbrev pub adds : {K : Type 0} → List SectionInfo → List (Submessage K) → Collected K → Collected K
adds sections submessages later =
    record {
      sections = sections ++ later.sections;
      submessages = submessages ++ later.submessages;
      end = later.end;
    }

-- what is collected after a turn
abbrev pub after_turn : {I K : Type 0} → Keeping K → Turn I K
    → (SubmessageStream I K → Locals K → Collected K) → Collected K
after_turn κ (loops sect s l) later = adds (sect ∷ []) [] (later s l)
after_turn κ (returns cached ret s) later = adds cached (ret ∷ []) (later s (fresh_locals κ))
after_turn κ unreachable later = finished unended

-- the same by what the validator answers
abbrev pub after_next : {I K : Type 0} → Keeping K → Result (Validated I) → SubmessageStream I K
    → Locals K → (SubmessageStream I K → Locals K → Collected K) → Collected K
after_next κ (gives p) s l later = after_turn κ (match_num κ p.sect.num s l p) later
after_next κ none s l later = finished clean
after_next κ (errs e dropped) s l later = finished (fails e dropped)
after_next κ overflows s l later = finished overflow
after_next κ never s l later = finished unended

-- all that `next` gives when it is called so, in at most so many turns of its loop
unfoldable pub collected : {I K : Type 0} → Keeping K → Advance I → ℕ → SubmessageStream I K
    → Locals K → Collected K
collected κ advance zero s l = finished unended
collected κ advance (suc turns) s l =
    after_next κ (Validator-next advance s.iter) s l (λ s' l'. collected κ advance turns s' l')
