-- Two files that differ in values octets, and that no part of demand 3 can be had for less: each
-- claim that goes further has a file that refutes it (01, "Values octets and the public copy").
use Rattle.std.specs.Prelude.{ℕ, true, List, [], ◌∷◌, ◌++◌, ◌≡◌, get_or, replicate, Ok}
use Rattle.framing.specs.Listing.{listing}
use Rattle.index.specs.Bounds.{unlimited}
use Rattle.index.specs.Walk.{walked}
use Rattle.publish.specs.Values.{Terms, onward, within, licensed, in_message}
use Rattle.publish.specs.Copy.{public_copy}
use Rattle.blindness.specs.Looks.{changed}
use Rattle.blindness.specs.Agree.{Alike}
use Rattle.blindness.specs.Blindness.{One}

-- a message of 95 octets with sections 0 to 8: its edition, section 5's last template octet, the
-- bit-map indicator, the number of its data section, and one values octet in each of sections 2, 5,
-- 6 and 7
unfoldable pub sample_of : ℕ → ℕ → ℕ → ℕ → ℕ → List ℕ
sample_of edition template indicator number v =
    (71 ∷ 82 ∷ 73 ∷ 66 ∷ 0 ∷ 0 ∷ 0 ∷ edition ∷ 0 ∷ 0 ∷ 0 ∷ 0 ∷ 0 ∷ 0 ∷ 0 ∷ 95 ∷ [])
    ++ (0 ∷ 0 ∷ 0 ∷ 21 ∷ 1 ∷ replicate 16 0)
    ++ (0 ∷ 0 ∷ 0 ∷ 6 ∷ 2 ∷ v ∷ [])
    ++ (0 ∷ 0 ∷ 0 ∷ 14 ∷ 3 ∷ replicate 9 0)
    ++ (0 ∷ 0 ∷ 0 ∷ 9 ∷ 4 ∷ replicate 4 0)
    ++ (0 ∷ 0 ∷ 0 ∷ 12 ∷ 5 ∷ 0 ∷ 0 ∷ 0 ∷ 0 ∷ 0 ∷ template ∷ v ∷ [])
    ++ (0 ∷ 0 ∷ 0 ∷ 7 ∷ 6 ∷ indicator ∷ v ∷ [])
    ++ (0 ∷ 0 ∷ 0 ∷ 6 ∷ number ∷ v ∷ [])
    ++ (55 ∷ 55 ∷ 55 ∷ 55 ∷ [])

-- a sound one
abbrev pub sample : ℕ → List ℕ
sample v = sample_of 2 0 255 7 v

-- two such files are two, but alike; they walk clean, and have one public copy
pub record SamplesAlike : Type 0 where
  pub clean : (walked unlimited (sample 1)).outcome ≡ Ok tt
  pub alike : Alike licensed (sample 1) (sample 2)
  pub two_files : sample 1 ≡ sample 2 → ⊥
  pub copied : public_copy licensed (sample 1) ≡ sample 0

-- terms under which two files are alike that are not one
abbrev pub Leaks : Terms → List ℕ → List ℕ → Type 0
Leaks terms f g = Alike terms f g × (One terms f g → ⊥)

-- without one length: an empty file has no octet that differs from another's. Without the test:
-- each octet more that terms blank shows in the fields or in the walk. At a values octet of a
-- message a copy is not its file, and of a refused file it is not as good
pub record NothingLess : Type 0 where
  pub length_needed : listing [] ≡ listing (sample 1) → ⊥
  pub edition_leaks : Leaks (changed 0 (within 8 8) licensed) (sample_of 2 0 255 7 1)
      (sample_of 1 0 255 7 1)
  pub five_leaks : Leaks (changed 5 (onward 11) licensed) (sample_of 2 0 255 7 1)
      (sample_of 2 3 255 7 1)
  pub six_leaks : Leaks (changed 6 (onward 6) licensed) (sample_of 2 0 255 7 1)
      (sample_of 2 0 254 7 1)
  pub seven_leaks : Leaks (changed 7 (onward 5) licensed) (sample_of 2 0 255 7 1)
      (sample_of 2 0 255 6 1)
  pub value_in_message : in_message (sample 1) (walked unlimited (sample 1)).sections 42 ≡ true
  pub value_differs : get_or (public_copy licensed (sample 1)) 42 0 ≡ get_or (sample 1) 42 0 → ⊥
  pub clean_needed : walked unlimited (public_copy licensed (sample_of 1 0 255 7 1))
      ≡ walked unlimited (sample_of 1 0 255 7 1) → ⊥
