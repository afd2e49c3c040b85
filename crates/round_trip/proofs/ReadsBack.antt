-- What is written by an accepted plan reads back, and nothing past it is touched; a refusal touches nothing.
use Rattle.std.specs.Prelude.{Some, Result, Ok, Err}
use Prim.Native.Nat.{ℕ, ◌+◌, ◌≤◌, ◌<◌, ◌^◌}
use native.Mathlib.Omega.{arith}
use mathlib.Core.Path.{◌≡◌, refl, sym, ap, ◌∙◌}
use mathlib.Core.List.{List, ◌∷◌, ◌++◌}
use lib.ListN.{length, take, drop}
use lib.Seq.{take_at, drop_at}
use borrow.Author.Tests.{le-ltb}
use Rattle.sections.specs.Indicator.{indicator_of}
use Rattle.framing.specs.Listing.{over, listing}
use Rattle.index.specs.declared.bounds.Room.{Room}
use Rattle.index.specs.Walk.{walked}
use Rattle.writer.specs.Plan.{Part, parts_of, sections_size, total_of, judged_plan}
use Rattle.writer.specs.Message.{indicator_octets, body_octets, message_octets}
use Rattle.writer.specs.Write.{dest_of, write_of}
use Rattle.writer.proofs.Checks.{Accepted, accepted, all_sound}
use Rattle.writer.proofs.Lengths.{length_indicator, length_message}
use Rattle.round_trip.specs.ReadBack.{lines_in, message_sections, WalksClean, ReadsBack}
use Rattle.round_trip.proofs.Listed.{to_end_lem, total_there, message_listed}
use Rattle.round_trip.proofs.Payloads.{payloads, numbers_from}
use Rattle.round_trip.proofs.Walked.{clean_message}
use Rattle.writer.specs.declared.WriteRefusal.TheVariants.{TooManySections, NotOneMessage, OutsideStore, PayloadSize, NoRoom}
use Rattle.writer.specs.declared.WriteRefusal.{WriteRefusal}

-- what a section 0 says
fields : (discipline reserved₁ reserved₂ total : ℕ) → total < 256 ^ 8
    → indicator_of (indicator_octets discipline reserved₁ reserved₂ total) ≡ Some (record { discipline = discipline; total = total })
unfolding indicator_of indicator_octets
fields discipline reserved₁ reserved₂ total small =
    let sixteen = length_indicator discipline reserved₁ reserved₂ total in
    let sum = total_there discipline reserved₁ reserved₂ total small in
    rw (le-ltb (length (indicator_octets discipline reserved₁ reserved₂ total)) 16 (omega arith), sum)

module _ (discipline reserved₁ reserved₂ : ℕ) (parts : List Part) (store : List ℕ) (room total : ℕ)
    (a : Accepted parts (length store) room total) where
  abbrev file : List ℕ
  file = message_octets discipline reserved₁ reserved₂ parts store

  long : length file ≡ total
  long = length_message discipline reserved₁ reserved₂ parts store (all_sound a) ∙ sym a.whole

  small : total_of parts ≤ 1099511627776
  small = omega (arith, a.whole, a.not_over)

  decoded : indicator_of (take 16 file) ≡ Some (record { discipline = discipline; total = total })
  unfolding message_octets
  decoded =
      let sum = a.whole in
      let sixteen = length_indicator discipline reserved₁ reserved₂ (total_of parts) in
      let front : take 16 file ≡ indicator_octets discipline reserved₁ reserved₂ total =
      take_at (indicator_octets discipline reserved₁ reserved₂ (total_of parts)) (body_octets parts store) 16 sixteen ∙ rw sum in
      rw front (fields discipline reserved₁ reserved₂ total (omega (arith, a.not_over)))

  listed : listing file ≡ record { sections = message_sections parts; ending = over }
  listed = message_listed discipline reserved₁ reserved₂ parts store (all_sound a) small

  walks : (tables : Room) → 2 + length parts ≤ tables.rows → lines_in parts ≤ tables.lines
      → WalksClean (walked tables file) (message_sections parts) (lines_in parts)
  unfolding walked
  walks tables rows lines =
      let n = long in
      let most = a.not_over in
      rw (le-ltb 1099511627776 (length file) (omega arith), listed)
      (rw (to_end_lem 16 parts) at (clean_message tables file parts a.ordered rows lines))

  message_reads_back : ReadsBack discipline parts store file total
  message_reads_back =
      record {
        long = long;
        decoded = decoded;
        listed = listed;
        numbers = ap (λ (l : List ℕ). 0 ∷ l) (numbers_from 16 (16 + sections_size parts) parts);
        payloads = payloads discipline reserved₁ reserved₂ parts store (all_sound a);
        walks = walks;
      }

module _ (discipline reserved₁ reserved₂ : ℕ) (plan store dest : List ℕ) where
  module _ (total : ℕ) (e : (write_of discipline reserved₁ reserved₂ plan store dest).answer ≡ Ok total) where
    has : Accepted (parts_of plan) (length store) (length dest) total
    unfolding write_of
    has = accepted (parts_of plan) (length store) (length dest) total e

    holds : (write_of discipline reserved₁ reserved₂ plan store dest).dest
        ≡ message_octets discipline reserved₁ reserved₂ (parts_of plan) store ++ drop total dest
    unfolding write_of dest_of
    holds = rw e

    -- the octets written, so many as the answer says, read back
    pub reads_back :
        ReadsBack discipline (parts_of plan) store (take total (write_of discipline reserved₁ reserved₂ plan store dest).dest) total
    reads_back =
        let octets = message_octets discipline reserved₁ reserved₂ (parts_of plan) store in
        let back = message_reads_back discipline reserved₁ reserved₂ (parts_of plan) store (length dest) total has in
        let first : take total (octets ++ drop total dest) ≡ octets = take_at octets (drop total dest) total back.long in
        rw (holds, first) back

    -- those past them are as they were
    pub past_unchanged : drop total (write_of discipline reserved₁ reserved₂ plan store dest).dest ≡ drop total dest
    past_unchanged =
        let octets = message_octets discipline reserved₁ reserved₂ (parts_of plan) store in
        let back = message_reads_back discipline reserved₁ reserved₂ (parts_of plan) store (length dest) total has in
        rw holds (drop_at octets (drop total dest) total back.long)

  -- after a refusal all are
  pub refused_unchanged : ((total : ℕ) → (write_of discipline reserved₁ reserved₂ plan store dest).answer ≡ Ok total → ⊥)
      → (write_of discipline reserved₁ reserved₂ plan store dest).dest ≡ dest
  unfolding write_of dest_of
  refused_unchanged refused = go (judged_plan (parts_of plan) (length store) (length dest)) refused
    where
      go : (w : Result ℕ WriteRefusal) → ((total : ℕ) → w ≡ Ok total → ⊥)
          → dest_of w (message_octets discipline reserved₁ reserved₂ (parts_of plan) store) dest ≡ dest
      go (Ok total) none = absurd (none total refl)
      go (Err TooManySections) none = refl
      go (Err (NotOneMessage at)) none = refl
      go (Err (OutsideStore at)) none = refl
      go (Err (PayloadSize at)) none = refl
      go (Err NoRoom) none = refl
