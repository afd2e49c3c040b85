-- The writer's levels: each has as many octets as its sections have, and writes them framed one after the other.
use Prim.Native.Nat.{ℕ, ◌+◌, ◌≤◌, ◌<◌, ◌%◌}
use native.Mathlib.Omega.{arith}
use mathlib.Core.Path.{◌≡◌, refl, sym, ap, ◌∙◌}
use mathlib.Core.List.{List, [], ◌∷◌, ◌++◌, map, flat_map, append-nil, append_assoc}
use mathlib.Core.Option.{Option, none, some}
use lib.ListN.{length, length-append}
use borrow.Author.Tests.{lt-ltb, le-ltb}
use Rattle.writer.specs.Message.{digits}
use Rattle.writer.proofs.Stored.{length_digits}
use Rattle.as_the_encoder.specs.Encoder.{
  Usize,
  usize,
  ◌⊞◌,
  sum_from,
  sum,
  WriteResult,
  Ok,
  ◌then◌,
  each,
  SectionHeader-write_to_buffer,
  write_section_header,
  section_len,
  copy_from_slice,
  write_section,
  PointValues,
  data_sections_len,
  write_data_sections,
  IterL3,
  IterL3-num_octets,
  IterL3-write,
  IterL2,
  IterL2-num_octets,
  IterL2-write,
  IterL1,
  len_if_some,
  write_if_some,
  IterL1-num_octets,
  IterL1-write,
}
use Rattle.as_the_encoder.specs.Writes.{flattened_l3, flattened_l2, if_some, flattened_l1}
use Rattle.as_the_encoder.proofs.EncodingSteps.{usizes, add_usize, wrote, Frames, then_frames, each_frames, copy_frames, then_field, bytes_4}

-- a section framed: its length in four octets, its number, its payload
abbrev pub frame : ℕ × List ℕ → List ℕ
frame section = digits 4 (length section.1 + 5) ++ (section.0 ∷ section.1)

-- sections framed one after the other
abbrev pub framed : List (ℕ × List ℕ) → List ℕ
framed sections = flat_map frame sections

pub length_frame : (section : ℕ × List ℕ) → length (frame section) ≡ length section.1 + 5
length_frame section = simp (length-append, length_digits) (omega arith)

framed_append : (a b : List (ℕ × List ℕ)) → framed (a ++ b) ≡ framed a ++ framed b
unfolding flat_map
framed_append [] b = refl
framed_append (s ∷ more) b = ap {B = List ℕ} (λ rest. frame s ++ rest) (framed_append more b) ∙ sym (append_assoc (frame s) (framed more) (framed b))

-- the sections of a list of items, framed item by item
pub framed_each : {A : Type 0} (sections : A → List (ℕ × List ℕ)) (items : List A)
    → framed (flat_map sections items) ≡ flat_map (λ m. framed (sections m)) items
unfolding flat_map
framed_each sections [] = refl
framed_each sections (m ∷ more) =
    framed_append (sections m) (flat_map sections more) ∙ ap {B = List ℕ} (λ rest. framed (sections m) ++ rest) (framed_each sections more)

-- how many octets sections have
abbrev pub count : List (ℕ × List ℕ) → Usize
count sections = usize (length (framed sections))

count_append : (a b : List (ℕ × List ℕ)) → count a ⊞ count b ≡ count (a ++ b)
count_append a b =
    add_usize (length (framed a)) (length (framed b))
    ∙ ap usize (sym (ap length (framed_append a b) ∙ length-append (framed a) (framed b)))

count_both : {m n : Usize} (a b : List (ℕ × List ℕ)) → m ≡ count a → n ≡ count b → m ⊞ n ≡ count (a ++ b)
count_both a b first second = rw (first, second) (count_append a b)

-- the octets of each of a list are summed
count_each : {A : Type 0} (num-octets : A → Usize) (sections : A → List (ℕ × List ℕ)) → ((m : A) → num-octets m ≡ count (sections m))
    → (items : List A) (done : List (ℕ × List ℕ)) → sum_from (count done) (map num-octets items) ≡ count (done ++ flat_map sections items)
unfolding flat_map
count_each num-octets sections counts [] done = ap count (sym (append-nil done))
count_each num-octets sections counts (m ∷ more) done =
    ap (λ (all : Usize). sum_from all (map num-octets more)) (ap (λ (k : Usize). count done ⊞ k) (counts m) ∙ count_append done (sections m))
    ∙ count_each num-octets sections counts more (done ++ sections m)
    ∙ ap count (append_assoc done (sections m) (flat_map sections more))

-- one section
abbrev one : ℕ → List ℕ → List (ℕ × List ℕ)
one number payload = (number, payload) ∷ []

-- from nothing on
pub count_sum : {A : Type 0} (num-octets : A → Usize) (sections : A → List (ℕ × List ℕ)) → ((m : A) → num-octets m ≡ count (sections m))
    → (items : List A) → sum (map num-octets items) ≡ count (flat_map sections items)
unfolding flat_map
count_sum num-octets sections counts items = count_each num-octets sections counts items []

count_section : (number : ℕ) (payload : List ℕ) → section_len payload ≡ count (one number payload)
unfolding section_len flat_map
count_section number payload = ap usize (sym (ap length (append-nil (frame (number, payload))) ∙ length_frame (number, payload)))

-- a header, of whose length the low 32 bits are written
header_frames : (len sect_num : ℕ) → Frames (write_section_header (len % 4294967296) sect_num) (digits 4 len ++ (sect_num ∷ []))
unfolding write_section_header SectionHeader-write_to_buffer
header_frames len sect_num buf room small =
    let long = length-append (digits 4 len) (sect_num ∷ []) in
    rw (bytes_4 len)
    (then_field (digits 4 len) (sect_num ∷ []) buf (then_field [] (digits 4 len) buf refl (omega arith) (omega arith)) room small)

-- a section
pub section_frames : (sect_num : ℕ) (payload : List ℕ) → Frames (write_section sect_num payload) (frame (sect_num, payload))
unfolding write_section section_len
section_frames sect_num payload buf room small =
    let len = length payload + 5 in
    let header = digits 4 len ++ (sect_num ∷ []) in
    let five : length header ≡ 5 = simp (length-append, length_digits) in
    let long : length (frame (sect_num, payload)) ≡ len = length_frame (sect_num, payload) in
    let whole : header ++ payload ≡ frame (sect_num, payload) = append_assoc (digits 4 len) (sect_num ∷ []) payload in
    rw (lt-ltb len usizes (omega arith), le-ltb (length buf) len (omega arith))
    (ap (copy_from_slice len payload)
    (then_frames (write_section_header (len % 4294967296) sect_num) [] header buf refl (header_frames len sect_num) (omega arith) (omega arith))
    ∙ copy_frames len header payload buf (omega arith) (omega arith)
    ∙ ap (λ (all : List ℕ). wrote all buf) whole)

-- a buffer holds sections, framed one after the other
pub record Holds (buf : List ℕ) (sections : List (ℕ × List ℕ)) : Type 0 where
  pub room : length (framed sections) ≤ length buf
  pub small : length (framed sections) < usizes

-- and the first of them
holds_first : {buf : List ℕ} (a b : List (ℕ × List ℕ)) → Holds buf (a ++ b) → Holds buf a
holds_first a b holds =
    let sum = ap length (framed_append a b) ∙ length-append (framed a) (framed b) in
    let r = holds.room in
    let s = holds.small in
    record { room = omega arith; small = omega arith }

-- sections in a buffer
abbrev pub stands : List (ℕ × List ℕ) → List ℕ → WriteResult
stands sections buf = wrote (framed sections) buf

-- a function writes these sections
abbrev pub WritesSections : (List ℕ → WriteResult) → List (ℕ × List ℕ) → Type 0
WritesSections write sections = (buf : List ℕ) → Holds buf sections → write buf ≡ stands sections buf

-- nothing is written yet
stands_none : (buf : List ℕ) → Ok 0 buf ≡ stands [] buf
unfolding flat_map
stands_none buf = refl

-- one more function, behind some sections
then_sections : {r : WriteResult} (write : List ℕ → WriteResult) (done more : List (ℕ × List ℕ)) (buf : List ℕ) → r ≡ stands done buf
    → WritesSections write more → Holds buf (done ++ more) → (r then write) ≡ stands (done ++ more) buf
then_sections write done more buf standing writes holds =
    let joined = framed_append done more in
    then_frames write (framed done) (framed more) buf standing (λ b room small. writes b (record { room = room; small = small }))
    (rw joined at holds.room) (rw joined at holds.small)
    ∙ ap (λ (all : List ℕ). wrote all buf) (sym joined)

-- and one for each of a list
each_sections : {A : Type 0} (write : A → List ℕ → WriteResult) (sections : A → List (ℕ × List ℕ)) → ((m : A) → WritesSections (write m) (sections m))
    → (items : List A) (done : List (ℕ × List ℕ)) (buf : List ℕ) → Holds buf (done ++ flat_map sections items)
    → each write items (stands done buf) ≡ stands (done ++ flat_map sections items) buf
each_sections write sections writes items done buf holds =
    let joined : framed (done ++ flat_map sections items) ≡ framed done ++ flat_map (λ m. framed (sections m)) items =
    framed_append done (flat_map sections items) ∙ ap {B = List ℕ} (λ rest. framed done ++ rest) (framed_each sections items) in
    each_frames write (λ m. framed (sections m)) (λ m b room small. writes m b (record { room = room; small = small })) items (framed done) buf
    (rw joined at holds.room) (rw joined at holds.small)
    ∙ ap (λ (all : List ℕ). wrote all buf) (sym joined)

-- a section, as the one of its list
section_writes : (number : ℕ) (payload : List ℕ) → WritesSections (write_section number payload) (one number payload)
unfolding flat_map
section_writes number payload buf holds =
    let one = append-nil (frame (number, payload)) in
    section_frames number payload buf (rw one at holds.room) (rw one at holds.small) ∙ ap (λ (all : List ℕ). wrote all buf) (sym one)

-- sections 5, 6 and 7
abbrev data_of : PointValues → List (ℕ × List ℕ)
data_of values = (5, values.section5) ∷ (6, values.section6) ∷ (7, values.section7) ∷ []

data_counts : (values : PointValues) → data_sections_len values ≡ count (data_of values)
unfolding data_sections_len
data_counts values =
    let five = one 5 values.section5 in
    let six = one 6 values.section6 in
    let seven = one 7 values.section7 in
    count_both (five ++ six) seven (count_both five six (count_section 5 _) (count_section 6 _)) (count_section 7 _)

data_writes : (values : PointValues) → WritesSections (write_data_sections values) (data_of values)
unfolding write_data_sections
data_writes values buf holds =
    let five = one 5 values.section5 in
    let six = one 6 values.section6 in
    let seven = one 7 values.section7 in
    let first = then_sections _ [] five buf (stands_none buf) (section_writes 5 values.section5) (holds_first five (six ++ seven) holds) in
    let second = then_sections _ five six buf first (section_writes 6 values.section6) (holds_first (five ++ six) seven holds) in
    then_sections _ (five ++ six) seven buf second (section_writes 7 values.section7) holds

-- a product
counts_3 : (m : IterL3) → IterL3-num_octets m ≡ count (flattened_l3 m)
unfolding IterL3-num_octets flattened_l3
counts_3 m = count_both (one 4 m.section4) (data_of m.data_sections) (count_section 4 _) (data_counts m.data_sections)

writes_3 : (m : IterL3) → WritesSections (IterL3-write m) (flattened_l3 m)
unfolding IterL3-write flattened_l3
writes_3 m buf holds =
    let four = one 4 m.section4 in
    let values = data_of m.data_sections in
    let first = then_sections _ [] four buf (stands_none buf) (section_writes 4 m.section4) (holds_first four values holds) in
    then_sections _ four values buf first (data_writes m.data_sections) holds

-- a grid and its products
counts_2 : (m : IterL2) → IterL2-num_octets m ≡ count (flattened_l2 m)
unfolding IterL2-num_octets flattened_l2
counts_2 m =
    count_both (one 3 m.section3) (flat_map flattened_l3 m.iter) (count_section 3 _)
    (count_sum IterL3-num_octets flattened_l3 counts_3 m.iter)

writes_2 : (m : IterL2) → WritesSections (IterL2-write m) (flattened_l2 m)
unfolding IterL2-write flattened_l2
writes_2 m buf holds =
    let three = one 3 m.section3 in
    let more = flat_map flattened_l3 m.iter in
    let first = then_sections _ [] three buf (stands_none buf) (section_writes 3 m.section3) (holds_first three more holds) in
    ap (each IterL3-write m.iter) first ∙ each_sections IterL3-write flattened_l3 writes_3 m.iter three buf holds

-- a section 2, if there is one
counts_some : (section2 : Option (List ℕ)) → len_if_some section2 ≡ count (if_some section2)
unfolding flat_map
counts_some none = refl
counts_some (some payload) = count_section 2 payload

writes_some : (section2 : Option (List ℕ)) (buf : List ℕ) → Holds buf (if_some section2)
    → write_if_some section2 (Ok 0 buf) ≡ stands (if_some section2) buf
writes_some none buf holds = stands_none buf
writes_some (some payload) buf holds = then_sections _ [] (one 2 payload) buf (stands_none buf) (section_writes 2 payload) holds

-- a local use and its grids
pub counts_1 : (m : IterL1) → IterL1-num_octets m ≡ count (flattened_l1 m)
unfolding IterL1-num_octets flattened_l1
counts_1 m =
    count_both (if_some m.section2) (flat_map flattened_l2 m.iter) (counts_some m.section2)
    (count_sum IterL2-num_octets flattened_l2 counts_2 m.iter)

pub writes_1 : (m : IterL1) → WritesSections (IterL1-write m) (flattened_l1 m)
unfolding IterL1-write flattened_l1
writes_1 m buf holds =
    let first = writes_some m.section2 buf (holds_first (if_some m.section2) (flat_map flattened_l2 m.iter) holds) in
    ap (each IterL2-write m.iter) first ∙ each_sections IterL2-write flattened_l2 writes_2 m.iter (if_some m.section2) buf holds
