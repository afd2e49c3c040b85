-- The crate's writer of messages, grib 0.20.2, function by function: src/encoder/message.rs,
-- src/encoder/message/impls.rs, and of src/encoder.rs what writes the data sections. A buffer is a
-- list of octets, and so is a payload: of impls.rs the impls for [u8], not those for the crate's
-- payload structs. usize has 64 bits; overflows are checked.
--
-- Not in the text given, and so as the oracle has it (tests/oracle/shim): `write_to_buffer`, which
-- the crate derives (a record's fields one after the other, numbers big-endian), and the sections
-- 5, 6 and 7, into which the crate packs values: here they are ready payloads, framed as 1 to 4
-- are. All else is the crate's text.
use Rattle.std.specs.Prelude.{ℕ, zero, suc, ◌+◌, ◌-◌, ◌/◌, ◌%◌, ◌^◌, List, [], ◌∷◌, ◌++◌, map, ltb, eqb, length, take, drop}
use Rattle.std.proofs.Math.Option.{Option, none, some}
use Rattle.octets.specs.Words.{pick}

-- a sum in usize, or that it overflows
pub data Usize : Type 0 where
  size : ℕ → Usize
  too_large : Usize

-- a number as a usize: under 2^64
abbrev pub usize : ℕ → Usize
usize n = pick (ltb n 18446744073709551616) (size n) too_large

-- a + b
infixl 60 ◌⊞◌
abbrev pub ◌⊞◌ : Usize → Usize → Usize
size a ⊞ size b = usize (a + b)
size a ⊞ too_large = too_large
too_large ⊞ b = too_large

-- Iterator::sum, on from what is summed already
abbrev pub sum_from : Usize → List Usize → Usize
sum_from sum [] = sum
sum_from sum (n ∷ more) = sum_from (sum ⊞ n) more

abbrev pub sum : List Usize → Usize
sum = sum_from (size 0)

-- Result<usize, &'static str> of a function that is lent a buffer, with the buffer as it is left:
-- Ok(octets), or Err("destination buffer is too small"), the one error of these files; or a panic,
-- at a sum that overflows or at a slice that reaches past its end
pub data WriteResult : Type 0 where
  Ok : ℕ → List ℕ → WriteResult
  TooSmall : List ℕ → WriteResult
  Overflows : WriteResult
  OutOfRange : WriteResult

-- a length that is wanted next
abbrev pub having : Usize → (ℕ → WriteResult) → WriteResult
having (size n) more = more n
having too_large more = Overflows

-- what a function left of a part of a buffer, with the `pos` octets before it
abbrev pub added : ℕ → List ℕ → WriteResult → WriteResult
added pos before (Ok octets part) =
    pick (ltb (pos + octets) 18446744073709551616) (Ok (pos + octets) (before ++ part)) Overflows
added pos before (TooSmall part) = TooSmall (before ++ part)
added pos before Overflows = Overflows
added pos before OutOfRange = OutOfRange

-- pos += write(&mut buf[pos..])?;
infixl 50 ◌then◌
abbrev pub ◌then◌ : WriteResult → (List ℕ → WriteResult) → WriteResult
Ok pos buf then write =
    pick (ltb (length buf) pos) OutOfRange (added pos (take pos buf) (write (drop pos buf)))
TooSmall buf then write = TooSmall buf
Overflows then write = Overflows
OutOfRange then write = OutOfRange

-- for m in self.iter() { pos += m.write(&mut buf[pos..])?; }
abbrev pub each : {A : Type 0} → (A → List ℕ → WriteResult) → List A → WriteResult → WriteResult
each write [] done = done
each write (m ∷ more) done = each write more (done then write m)

-- WriteToBuffer for [u8; N], and for a u8, which is one octet
unfoldable pub write_to_buffer : List ℕ → List ℕ → WriteResult
write_to_buffer octets buf =
    pick (ltb (length buf) (length octets)) (TooSmall buf)
    (Ok (length octets) (octets ++ drop (length octets) buf))

-- to_be_bytes of a u32, a u64: of so many octets
abbrev pub to_be_bytes : ℕ → ℕ → List ℕ
to_be_bytes zero n = []
to_be_bytes (suc width) n = n / 256 ^ width % 256 ∷ to_be_bytes width n

-- def/grib2.rs, struct SectionHeader: len a u32, sect_num a u8
pub record SectionHeader : Type 0 where
  pub len : ℕ
  pub sect_num : ℕ

unfoldable pub SectionHeader-write_to_buffer : SectionHeader → List ℕ → WriteResult
SectionHeader-write_to_buffer header buf =
    Ok 0 buf then write_to_buffer (to_be_bytes 4 header.len)
    then write_to_buffer (header.sect_num ∷ [])

-- def/grib2.rs, struct Section0: total_len a u64
pub record Section0 : Type 0 where
  pub identifier : List ℕ
  pub reserved : List ℕ
  pub discipline : ℕ
  pub edition_num : ℕ
  pub total_len : ℕ

unfoldable pub Section0-write_to_buffer : Section0 → List ℕ → WriteResult
Section0-write_to_buffer sect buf =
    Ok 0 buf then write_to_buffer sect.identifier then write_to_buffer sect.reserved
    then write_to_buffer (sect.discipline ∷ []) then write_to_buffer (sect.edition_num ∷ [])
    then write_to_buffer (to_be_bytes 8 sect.total_len)

-- message.rs, SECT0_LEN; reader.rs, SECT8_ES_SIZE
abbrev pub sect0_len : ℕ
sect0_len = 16

abbrev pub sect8_es_size : ℕ
sect8_es_size = 4

-- message.rs, fn write_section0
unfoldable pub write_section0 : ℕ → List ℕ → ℕ → List ℕ → WriteResult
write_section0 discipline reserved len buf =
    pick (ltb (length buf) sect0_len) (TooSmall buf)
    (Ok 0 buf then Section0-write_to_buffer (record {
      identifier = 0x47 ∷ 0x52 ∷ 0x49 ∷ 0x42 ∷ [];
      reserved = reserved;
      discipline = discipline;
      edition_num = 2;
      total_len = len;
    }))

-- message.rs, fn write_section8
unfoldable pub write_section8 : List ℕ → WriteResult
write_section8 buf =
    let signature : List ℕ = 0x37 ∷ 0x37 ∷ 0x37 ∷ 0x37 ∷ [] in
    pick (ltb (length buf) (length signature)) (TooSmall buf) (write_to_buffer signature buf)

-- message.rs, fn write_section_header
unfoldable pub write_section_header : ℕ → ℕ → List ℕ → WriteResult
write_section_header len sect_num buf =
    SectionHeader-write_to_buffer (record { len = len; sect_num = sect_num }) buf

-- impls.rs, add_impl_for_u8_slices!, $len_method
unfoldable pub section_len : List ℕ → Usize
section_len payload = size (length payload) ⊞ size 5

-- buf[pos..len].copy_from_slice(payload); Ok(len)
abbrev pub copy_from_slice : ℕ → List ℕ → WriteResult → WriteResult
copy_from_slice len payload (Ok pos buf) =
    pick (ltb len pos) OutOfRange
    (pick (ltb (length buf) len) OutOfRange
    (pick (eqb (len - pos) (length payload)) (Ok len (take pos buf ++ (payload ++ drop len buf)))
    OutOfRange))
copy_from_slice len payload (TooSmall buf) = TooSmall buf
copy_from_slice len payload Overflows = Overflows
copy_from_slice len payload OutOfRange = OutOfRange

-- impls.rs, add_impl_for_u8_slices!, $write_method. `len as u32` keeps the low 32 bits
unfoldable pub write_section : ℕ → List ℕ → List ℕ → WriteResult
write_section sect_num payload buf =
    having (section_len payload) λ len.
    pick (ltb (length buf) len) (TooSmall buf)
    (copy_from_slice len payload (Ok 0 buf then write_section_header (len % 4294967296) sect_num))

-- impls.rs, add_impl_for_u8_slices![..]
abbrev pub section1_len : List ℕ → Usize
section1_len = section_len

abbrev pub write_section1 : List ℕ → List ℕ → WriteResult
write_section1 = write_section 1

abbrev pub section2_len : List ℕ → Usize
section2_len = section_len

abbrev pub write_section2 : List ℕ → List ℕ → WriteResult
write_section2 = write_section 2

abbrev pub section3_len : List ℕ → Usize
section3_len = section_len

abbrev pub write_section3 : List ℕ → List ℕ → WriteResult
write_section3 = write_section 3

abbrev pub section4_len : List ℕ → Usize
section4_len = section_len

abbrev pub write_section4 : List ℕ → List ℕ → WriteResult
write_section4 = write_section 4

-- in place of the crate's packed sections
abbrev pub section5_len : List ℕ → Usize
section5_len = section_len

abbrev pub write_section5 : List ℕ → List ℕ → WriteResult
write_section5 = write_section 5

abbrev pub section6_len : List ℕ → Usize
section6_len = section_len

abbrev pub write_section6 : List ℕ → List ℕ → WriteResult
write_section6 = write_section 6

abbrev pub section7_len : List ℕ → Usize
section7_len = section_len

abbrev pub write_section7 : List ℕ → List ℕ → WriteResult
write_section7 = write_section 7

-- trait WriteGrib2PointValues: sections 5, 6 and 7 of a product
pub record PointValues : Type 0 where
  pub section5 : List ℕ
  pub section6 : List ℕ
  pub section7 : List ℕ

-- encoder.rs, GpvEncoder::data_sections_len
unfoldable pub data_sections_len : PointValues → Usize
data_sections_len encoded =
    section5_len encoded.section5 ⊞ section6_len encoded.section6
    ⊞ section7_len encoded.section7

-- encoder.rs, GpvEncoder::write_data_sections
unfoldable pub write_data_sections : PointValues → List ℕ → WriteResult
write_data_sections encoded buf =
    Ok 0 buf then write_section5 encoded.section5 then write_section6 encoded.section6
    then write_section7 encoded.section7

-- trait WriteGrib2MessageIterL3
pub record IterL3 : Type 0 where
  pub section4 : List ℕ
  pub data_sections : PointValues

unfoldable pub IterL3-num_octets : IterL3 → Usize
IterL3-num_octets m = section4_len m.section4 ⊞ data_sections_len m.data_sections

unfoldable pub IterL3-write : IterL3 → List ℕ → WriteResult
IterL3-write m buf =
    Ok 0 buf then write_section4 m.section4 then write_data_sections m.data_sections

-- trait WriteGrib2MessageIterL2
pub record IterL2 : Type 0 where
  pub section3 : List ℕ
  pub iter : List IterL3

unfoldable pub IterL2-num_octets : IterL2 → Usize
IterL2-num_octets m = section3_len m.section3 ⊞ sum (map IterL3-num_octets m.iter)

unfoldable pub IterL2-write : IterL2 → List ℕ → WriteResult
IterL2-write m buf =
    each IterL3-write m.iter (Ok 0 buf then write_section3 m.section3)

-- trait WriteGrib2MessageIterL1
pub record IterL1 : Type 0 where
  pub section2 : Option (List ℕ)
  pub iter : List IterL2

-- self.section2().map_or(0, |m| m.section2_len())
abbrev pub len_if_some : Option (List ℕ) → Usize
len_if_some none = size 0
len_if_some (some section2) = section2_len section2

-- if let Some(section2) = self.section2() { pos += section2.write_section2(&mut buf[pos..])?; }
abbrev pub write_if_some : Option (List ℕ) → WriteResult → WriteResult
write_if_some none done = done
write_if_some (some section2) done = done then write_section2 section2

unfoldable pub IterL1-num_octets : IterL1 → Usize
IterL1-num_octets m = len_if_some m.section2 ⊞ sum (map IterL2-num_octets m.iter)

unfoldable pub IterL1-write : IterL1 → List ℕ → WriteResult
IterL1-write m buf = each IterL2-write m.iter (write_if_some m.section2 (Ok 0 buf))

-- trait WriteGrib2Message; `reserved` is an array of two
pub record Grib2Message : Type 0 where
  pub discipline : ℕ
  pub reserved₁ : ℕ
  pub reserved₂ : ℕ
  pub section1 : List ℕ
  pub iter : List IterL1

unfoldable pub Grib2Message-num_octets : Grib2Message → Usize
Grib2Message-num_octets m =
    size sect0_len ⊞ section1_len m.section1 ⊞ sum (map IterL1-num_octets m.iter)
    ⊞ size sect8_es_size

unfoldable pub Grib2Message-write : Grib2Message → List ℕ → WriteResult
Grib2Message-write m buf =
    having (Grib2Message-num_octets m) λ total_len.
    pick (ltb (length buf) total_len) (TooSmall buf)
    (each IterL1-write m.iter
    (Ok 0 buf then write_section0 m.discipline (m.reserved₁ ∷ m.reserved₂ ∷ []) total_len
    then write_section1 m.section1)
    then write_section8)

-- impls.rs, impl WriteGrib2Message for &T: `reserved` is not handed on, and so is the trait's own
abbrev pub reference : Grib2Message → Grib2Message
reference m =
    record {
      discipline = m.discipline;
      reserved₁ = 0xff;
      reserved₂ = 0xff;
      section1 = m.section1;
      iter = m.iter;
    }
