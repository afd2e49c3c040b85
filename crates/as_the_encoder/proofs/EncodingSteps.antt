-- The writer's steps: sums in usize, and a function that writes its octets at the front of what it is lent.
use Prim.Native.Nat.{ℕ, ◌+◌, ◌-◌, ◌≤◌, ◌<◌, ◌/◌, ◌%◌}
use native.Mathlib.Omega.{arith}
use mathlib.Core.Path.{◌≡◌, refl, sym, ap, ◌∙◌}
use mathlib.Core.Bool.{Bool, true, false}
use mathlib.Core.List.{List, [], ◌∷◌, ◌++◌, flat_map, append-nil, append_assoc}
use lib.Dec.{ltb}
use lib.ListN.{length, take, drop, length-append, length-drop}
use lib.Seq.{take_at, drop_at, drop-drop}
use borrow.Author.Tests.{ltb-false, lt-ltb, le-ltb, eq-eqb}
use Rattle.octets.specs.Words.{pick}
use Rattle.writer.specs.Message.{digits}
use Rattle.as_the_encoder.specs.Encoder.{size, too_large, usize, ◌⊞◌, WriteResult, Ok, ◌then◌, copy_from_slice, each, write_to_buffer, to_be_bytes}

-- the numbers of a usize
abbrev pub usizes : ℕ
usizes = 18446744073709551616

-- a sum of what may be too large is the sum, or too large
pub add_usize : (a b : ℕ) → usize a ⊞ usize b ≡ usize (a + b)
add_usize a b = go (ltb a usizes) (ltb b usizes) refl refl
  where
    go : (x y : Bool) → ltb a usizes ≡ x → ltb b usizes ≡ y → pick x (size a) too_large ⊞ pick y (size b) too_large ≡ usize (a + b)
    go true true p q = refl
    go true false p q = let over = ltb-false b usizes q in rw (le-ltb (a + b) usizes (omega arith))
    go false y p q = let over = ltb-false a usizes p in rw (le-ltb (a + b) usizes (omega arith))

-- where there is room enough, what comes next is answered
pub enough : {A : Type 0} (short next : A) (room wanted : ℕ) → wanted ≤ room → pick (ltb room wanted) short next ≡ next
enough short next room wanted holds = ap (λ (t : Bool). pick t short next) (le-ltb room wanted holds)

-- octets put at the front of a buffer
abbrev pub wrote : List ℕ → List ℕ → WriteResult
wrote octets buf = Ok (length octets) (octets ++ drop (length octets) buf)

-- a function writes these octets at the front of any buffer that holds them
abbrev pub Frames : (List ℕ → WriteResult) → List ℕ → Type 0
Frames write octets = (buf : List ℕ) → length octets ≤ length buf → length octets < usizes → write buf ≡ wrote octets buf

-- one more function, after some octets
pub then_frames : {r : WriteResult} (write : List ℕ → WriteResult) (done octets buf : List ℕ) → r ≡ wrote done buf → Frames write octets
    → length (done ++ octets) ≤ length buf → length (done ++ octets) < usizes → (r then write) ≡ wrote (done ++ octets) buf
then_frames write done octets buf standing frames room small =
    let n = length done in
    let k = length octets in
    let sum : length (done ++ octets) ≡ n + k = length-append done octets in
    let rest = drop n buf in
    let left : length rest ≡ length buf - n = length-drop n buf in
    let all : length (done ++ rest) ≡ length buf = length-append done rest ∙ (let l = left in omega arith) in
    let taken : take n (done ++ rest) ≡ done = take_at done rest n refl in
    let dropped : drop n (done ++ rest) ≡ rest = drop_at done rest n refl in
    let more : write rest ≡ wrote octets rest = frames rest (omega arith) (omega arith) in
    let past : drop k rest ≡ drop (n + k) buf = drop-drop k n buf in
    rw (standing, le-ltb (length (done ++ rest)) n (omega arith), taken, dropped, more, lt-ltb (n + k) usizes (omega arith), past, sum)
    (ap (Ok (n + k)) (sym (append_assoc done octets (drop (n + k) buf))))

-- and one for each of a list
pub each_frames : {A : Type 0} (write : A → List ℕ → WriteResult) (octets : A → List ℕ) → ((m : A) → Frames (write m) (octets m))
    → (items : List A) (done buf : List ℕ) → length (done ++ flat_map octets items) ≤ length buf
    → length (done ++ flat_map octets items) < usizes → each write items (wrote done buf) ≡ wrote (done ++ flat_map octets items) buf
unfolding flat_map
each_frames write octets frames [] done buf room small = rw (append-nil done)
each_frames write octets frames (m ∷ more) done buf room small =
    let split : (done ++ octets m) ++ flat_map octets more ≡ done ++ (octets m ++ flat_map octets more) =
    append_assoc done (octets m) (flat_map octets more) in
    let long : length (done ++ (octets m ++ flat_map octets more)) ≡ length (done ++ octets m) + length (flat_map octets more) =
    ap length (sym split) ∙ length-append (done ++ octets m) (flat_map octets more) in
    ap (each write more) (then_frames (write m) done (octets m) buf refl (frames m) (omega arith) (omega arith))
    ∙ each_frames write octets frames more (done ++ octets m) buf (rw split room) (rw split small)
    ∙ ap (λ (all : List ℕ). wrote all buf) split

-- a payload copy-from-slice behind some octets
pub copy_frames : (len : ℕ) (done payload buf : List ℕ) → len ≡ length done + length payload → len ≤ length buf
    → copy_from_slice len payload (wrote done buf) ≡ wrote (done ++ payload) buf
copy_frames len done payload buf sum room =
    let n = length done in
    let k = length payload in
    let rest = drop n buf in
    let left = length-drop n buf in
    let all : length (done ++ rest) ≡ length buf = length-append done rest ∙ (omega arith) in
    let taken : take n (done ++ rest) ≡ done = take_at done rest n refl in
    let past : drop len (done ++ rest) ≡ drop len buf =
    rw sum (sym (drop-drop k n (done ++ rest)) ∙ ap (drop k) (drop_at done rest n refl) ∙ drop-drop k n buf) in
    let long : length (done ++ payload) ≡ len = length-append done payload ∙ sym sum in
    rw (
      le-ltb len n (omega arith),
      le-ltb (length (done ++ rest)) len (omega arith),
      eq-eqb (len - n) k (omega arith),
      taken,
      past,
      long,
    )
    (ap (Ok len) (sym (append_assoc done payload (drop len buf))))

pub to_buffer_frames : (octets : List ℕ) → Frames (write_to_buffer octets) octets
unfolding write_to_buffer
to_buffer_frames octets buf room small = rw (le-ltb (length buf) (length octets) room)

-- one more field
pub then_field : {r : WriteResult} (done octets buf : List ℕ) → r ≡ wrote done buf → length (done ++ octets) ≤ length buf
    → length (done ++ octets) < usizes → (r then write_to_buffer octets) ≡ wrote (done ++ octets) buf
then_field done octets buf standing = then_frames (write_to_buffer octets) done octets buf standing (to_buffer_frames octets)

-- a number's octets from the most significant on are those from the least on
pub bytes_4 : (n : ℕ) → to_be_bytes 4 (n % 4294967296) ≡ digits 4 n
unfolding digits
bytes_4 n =
    let third : n % 4294967296 / 16777216 % 256 ≡ n / 256 / 256 / 256 % 256 = omega arith in
    let second : n % 4294967296 / 65536 % 256 ≡ n / 256 / 256 % 256 = omega arith in
    let first : n % 4294967296 / 256 % 256 ≡ n / 256 % 256 = omega arith in
    let last : n % 4294967296 / 1 % 256 ≡ n % 256 = omega arith in
    rw (third, second, first, last)

pub bytes_8 : (n : ℕ) → to_be_bytes 8 n ≡ digits 8 n
unfolding digits
bytes_8 n =
    let a : n / 72057594037927936 ≡ n / 256 / 256 / 256 / 256 / 256 / 256 / 256 = omega arith in
    let b : n / 281474976710656 ≡ n / 256 / 256 / 256 / 256 / 256 / 256 = omega arith in
    let c : n / 1099511627776 ≡ n / 256 / 256 / 256 / 256 / 256 = omega arith in
    let d : n / 4294967296 ≡ n / 256 / 256 / 256 / 256 = omega arith in
    let e : n / 16777216 ≡ n / 256 / 256 / 256 = omega arith in
    let f : n / 65536 ≡ n / 256 / 256 = omega arith in
    let g : n / 1 ≡ n = omega arith in
    rw (a, b, c, d, e, f, g)
