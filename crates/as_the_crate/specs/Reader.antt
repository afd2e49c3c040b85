-- reader.rs of grib 0.20.2, function by function, with the checks of datatypes/sections.rs that it
-- makes. The file is a list of octets, the reader an in-memory cursor, which is a place in it: a
-- function that moves the cursor answers the new place last. Sums of a place in the file and a u32
-- are not tested for overflow.
use Rattle.std.specs.Prelude.{ℕ, zero, suc, ◌+◌, ◌-◌, not, List, ltb, eqb, length, get_or, Option}
use Rattle.std.specs.Prelude.{Some, None}
use Rattle.octets.specs.Words.{pick}
use Rattle.octets.specs.BigEndian.{be_at}
use Rattle.framing.specs.Search.{says}
use Rattle.as_the_crate.specs.Std.{
  ReadError,
  GRIBVersionMismatch,
  UnknownSectionNumber,
  EndSectionMismatch,
  SectionSizeTooSmall,
  Result,
  gives,
  none,
  never,
  err,
  begun,
  try,
  minus,
  plus,
  Cursor-read,
  Cursor-read_exact,
  Cursor-seek,
  SectionInfo,
  info,
}

-- struct Grib2SectionStream
pub record Grib2SectionStream : Type 0 where
  pub reader : ℕ
  pub whole_size : ℕ
  pub rest_size : ℕ

-- Grib2SectionStream::new, of a reader at the file's start
abbrev pub Grib2SectionStream-new : Grib2SectionStream
Grib2SectionStream-new = record { reader = 0; whole_size = 0; rest_size = 0 }

-- datatypes/sections.rs, Indicator::from_slice of the 16 octets at g: its total_length
unfoldable pub Indicator-from_slice : List ℕ → ℕ → Result ℕ
Indicator-from_slice file g =
    let edition_num = get_or file (g + 7) 0 in
    pick (not (eqb edition_num 2)) (err (GRIBVersionMismatch edition_num))
    (gives (be_at file (g + 8) 8))

-- datatypes/sections.rs, from_payload of Identification, GridDefinition, ProdDefinition and
-- ReprDefinition: of a slice of `size` octets, behind which the cursor stands at `at`
unfoldable pub from_payload : ℕ → ℕ → ℕ → Result ℕ
from_payload least size at = pick (ltb size least) (err (SectionSizeTooSmall size)) (gives at)

-- what read_sect0 answers: the offset of section 0 from where it began to look, its total_length,
-- and the place behind it
abbrev pub Sect0 : Type 0
Sect0 = ℕ × ℕ × ℕ

-- read_sect0, `for pos in 0..next_offset`: the first of `count` places of the buffer from `pos` on
-- that says "GRIB". buf[k] is the file's octet at + k: the loop does not look behind those read
unfoldable pub magic_among : ℕ → List ℕ → ℕ → ℕ → Option ℕ
magic_among zero file at pos = None
magic_among (suc count) file at pos =
    let later = magic_among count file at (pos + 1) in
    pick (says file (at + pos) 71 82 73 66) (Some pos) later

-- read_sect0, a turn of its `loop` behind the `for`: "GRIB" was met, and section 0 is begun there;
-- or it was not, and the loop goes on
unfoldable pub in_block : Option ℕ → List ℕ → ℕ → ℕ → ℕ → (ℕ → ℕ → Result Sect0) → Result Sect0
in_block (Some pos) file at offset size again =
    begun (at + pos)
    (try (Cursor-seek (at + size) (pos + 16) size) λ at'.
    try (Indicator-from_slice file (at + pos)) λ total-length.
    gives (offset + pos, total-length, at'))
in_block None file at offset size again =
    let next-offset = size - 16 + 1 in
    try (Cursor-seek (at + size) next-offset size) λ at'.
    again at' (offset + next-offset)

-- read_sect0, its `loop` over blocks of 4096 octets, in at most so many turns
unfoldable pub read_sect0_loop : ℕ → List ℕ → ℕ → ℕ → Result Sect0
read_sect0_loop zero file at offset = never
read_sect0_loop (suc turns) file at offset =
    let size = Cursor-read file at 4096 in
    let found =
    in_block (magic_among (size - 16 + 1) file at 0) file at offset size
    (λ at' offset'. read_sect0_loop turns file at' offset') in
    pick (ltb size 16) none found

-- SeekableGrib2Reader::read_sect0: each turn goes on by an octet at least
unfoldable pub read_sect0 : List ℕ → ℕ → Result Sect0
read_sect0 file at = read_sect0_loop (length file + 1) file at 0

-- macro check_size!
abbrev pub check_size : {A : Type 0} → ℕ → ℕ → Result A → Result A
check_size size expected-size more =
    pick (eqb size 0) none (pick (not (eqb size expected-size)) (err ReadError) more)

-- SeekableGrib2Reader::read_sect8
unfoldable pub read_sect8 : List ℕ → ℕ → Result ℕ
read_sect8 file at =
    let size = Cursor-read file at 4 in
    check_size size 4
    (pick (not (says file at 55 55 55 55)) (err EndSectionMismatch)
    (gives (at + size)))

-- type SectHeader
pub record SectHeader : Type 0 where
  pub size : ℕ
  pub num : ℕ

-- SeekableGrib2Reader::read_sect_header
unfoldable pub read_sect_header : List ℕ → ℕ → Result (SectHeader × ℕ)
read_sect_header file at =
    let size = Cursor-read file at 5 in
    check_size size 5
    (gives (record { size = be_at file at 4; num = get_or file (at + 4) 0 }, at + size))

-- SeekableGrib2Reader::read_slice_without_offset_check
unfoldable pub read_slice_without_offset_check : List ℕ → ℕ → ℕ → Result ℕ
read_slice_without_offset_check file at size = Cursor-read_exact file at size

-- SeekableGrib2Reader::read_sect6_payload
unfoldable pub read_sect6_payload : List ℕ → ℕ → ℕ → Result ℕ
read_sect6_payload file at body-size =
    try (Cursor-read_exact file at 1) λ at'.
    minus body-size 1 λ len-extra.
    pick (ltb 0 len-extra) (Cursor-read_exact file at' len-extra) (gives at')

-- SeekableGrib2Reader::skip_sect7_payload
unfoldable pub skip_sect7_payload : ℕ → ℕ → Result ℕ
skip_sect7_payload at body-size = Cursor-seek at body-size 0

-- from_payload(read_slice_without_offset_check(body_size)?)?, with a least payload
abbrev pub read_checked : List ℕ → ℕ → ℕ → ℕ → Result ℕ
read_checked file at least body-size =
    try (read_slice_without_offset_check file at body-size) λ at'. from_payload least body-size at'

-- read_sect_payload, its `match num`
unfoldable pub read_body : ℕ → List ℕ → ℕ → ℕ → Result ℕ
read_body num file at body-size =
    pick (eqb num 1) (read_checked file at 16 body-size)
    (pick (eqb num 2) (read_slice_without_offset_check file at body-size)
    (pick (eqb num 3) (read_checked file at 9 body-size)
    (pick (eqb num 4) (read_checked file at 4 body-size)
    (pick (eqb num 5) (read_checked file at 6 body-size)
    (pick (eqb num 6) (read_sect6_payload file at body-size)
    (pick (eqb num 7) (skip_sect7_payload at body-size)
    (err (UnknownSectionNumber num))))))))

-- SeekableGrib2Reader::read_sect_payload
unfoldable pub read_sect_payload : List ℕ → ℕ → SectHeader → Result ℕ
read_sect_payload file at header =
    minus header.size 5 λ body-size. read_body header.num file at body-size

-- Grib2SectionStream::reset_pos: what whole_size is then
abbrev pub reset_pos : Grib2SectionStream → ℕ
reset_pos s = s.reader

-- a section, and the stream behind it
abbrev pub NextSection : Type 0
NextSection = Result (SectionInfo × Grib2SectionStream)

-- Grib2SectionStream::next_sect0
unfoldable pub next_sect0 : List ℕ → Grib2SectionStream → NextSection
next_sect0 file s =
    let initial = pick (eqb s.whole_size 0) (reset_pos s) s.whole_size in
    try (read_sect0 file s.reader) λ found.
    plus initial found.0 λ offset.
    plus offset found.1 λ whole_size.
    minus found.1 16 λ rest_size.
    gives (
      info 0 offset 16,
      record { reader = found.2; whole_size = whole_size; rest_size = rest_size },
    )

-- Grib2SectionStream::next_sect8, begun where the cursor stands
unfoldable pub next_sect8 : List ℕ → Grib2SectionStream → NextSection
next_sect8 file s =
    begun s.reader
    (try (read_sect8 file s.reader) λ at.
    minus s.whole_size s.rest_size λ offset.
    minus s.rest_size 4 λ rest_size.
    gives (
      info 8 offset 4,
      record { reader = at; whole_size = s.whole_size; rest_size = rest_size },
    ))

-- Grib2SectionStream::next_sect, begun where the cursor stands
unfoldable pub next_sect : List ℕ → Grib2SectionStream → NextSection
next_sect file s =
    begun s.reader
    (try (read_sect_header file s.reader) λ read.
    minus s.whole_size s.rest_size λ offset.
    try (read_sect_payload file read.1 read.0) λ at.
    minus s.rest_size read.0.size λ rest_size.
    gives (
      info read.0.num offset read.0.size,
      record { reader = at; whole_size = s.whole_size; rest_size = rest_size },
    ))

-- Iterator::next of Grib2SectionStream
unfoldable pub Grib2SectionStream-next : List ℕ → Grib2SectionStream → NextSection
Grib2SectionStream-next file s =
    pick (eqb s.rest_size 0) (next_sect0 file s)
    (pick (eqb s.rest_size 4) (next_sect8 file s)
    (next_sect file s))
