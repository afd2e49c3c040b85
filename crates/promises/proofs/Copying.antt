-- Demand 2, the public copy: when it refuses, in document 01's numbers, and when it is written; and what then stands in the destination.
--
use Rattle.std.specs.Prelude.{Ok, Err}
use Prim.Native.Nat.{ℕ, ◌≤◌, ◌<◌}
use native.Mathlib.Omega.{arith}
use mathlib.Core.Path.{◌≡◌, refl, sym, ap, subst, ◌∙◌}
use mathlib.Core.List.{List}
use lib.ListN.{length, take, drop}
use lib.Seq.{take_at}
use borrow.Author.Tests.{lt-ltb, le-ltb}
use Rattle.octets.specs.Words.{Not, Iff}
use Rattle.index.specs.Numbers.{end_of, stored, unplaced}
use Rattle.index.specs.declared.numbers.End.{End}
use Rattle.index.specs.declared.numbers.StoreEnd.{StoreEnd}
use Rattle.index.specs.Bounds.{unlimited}
use Rattle.index.specs.Walk.{walked}
use Rattle.publish.specs.Values.{licensed}
use Rattle.publish.specs.Copy.{public_copy, by_outcome, copy_of}
use Rattle.publish.specs.End.{copy_end}
use Rattle.publish.proofs.Runs.{split}
use Rattle.walk_laws.specs.ExactlyWhen.{TooLong, NotTooLong, EndsClean, between}
use Rattle.walk_laws.proofs.WholeWalk.{from_1, is_clean, walk_refused_exactly_when, walk_clean_exactly_when}
use Rattle.blindness.proofs.Copies.{length_copy}
use Rattle.promises.specs.CopyGiven.{
  CopyGiven,
  copy_too_long,
  too_short,
  of_walk,
  refusing,
  CopyRefusedExactlyWhen,
  CopyWrittenExactlyWhen,
}
use Rattle.index.specs.Outcome.{Outcome}

-- a file that walks clean is not too long
clean_short : (file : List ℕ) → (walked unlimited file).outcome ≡ Ok tt → NotTooLong file
unfolding end_of
clean_short file clean = go ((walk_clean_exactly_when unlimited file).0 (ap end_of clean))
  where
    go : EndsClean unlimited file → NotTooLong file
    go (between short c none e) = short

module _ (file dest : List ℕ) where
  -- what a call answers, in numbers
  abbrev answers : StoreEnd
  answers = copy_end (copy_of licensed file dest).answer

  -- a file that is too long
  when_long : TooLong file → answers ≡ refusing 1 0 0 0
  unfolding copy_of copy_end unplaced
  when_long long = rw (lt-ltb 1099511627776 (length file) long)

  -- a destination that is too short
  when_short : NotTooLong file → length dest < length file → answers ≡ refusing 19 0 0 0
  unfolding copy_of copy_end unplaced
  when_short short less = rw (le-ltb 1099511627776 (length file) short, lt-ltb (length dest) (length file) less)

  -- else it goes by the walk
  by_walk : NotTooLong file → length file ≤ length dest
      → copy_of licensed file dest ≡ by_outcome (walked unlimited file).outcome licensed file dest
  unfolding copy_of
  by_walk short fits = rw (le-ltb 1099511627776 (length file) short, le-ltb (length dest) (length file) fits)

  -- the answer to a walk's outcome, in numbers
  abbrev answers_to : Outcome → StoreEnd
  answers_to o = copy_end (by_outcome o licensed file dest).answer

  -- the same in numbers
  when_walked : NotTooLong file → length file ≤ length dest → answers ≡ answers_to (walked unlimited file).outcome
  when_walked short fits = ap (λ c. copy_end c.answer) (by_walk short fits)

  -- a walk's refusal is the copy's
  refused_alike : (x : Outcome) (n p o d : ℕ) → Not (n ≡ 0) → Iff (answers_to x ≡ refusing n p o d) (end_of x ≡ (refusing n p o d).end)
  unfolding by_outcome copy_end stored end_of
  refused_alike (Ok tt) n p o d some = (
    (λ e. absurd (some (sym (ap (λ (s : StoreEnd). s.end.outcome) e)))),
    λ e. absurd (some (sym (ap (λ (s : End). s.outcome) e))),
  )
  refused_alike (Err stop) n p o d some = (
    (λ e. ap (λ (s : StoreEnd). s.end) e),
    λ e. ap (λ (s : End). record { end = s; written = 0 }) e,
  )

  -- a clean end writes the file's length, and no other does
  clean_alike : (x : Outcome) (octets : ℕ) → answers_to x ≡ stored octets → (x ≡ Ok tt) × (octets ≡ length file)
  unfolding by_outcome copy_end stored end_of
  clean_alike (Ok tt) octets e = (refl, sym (ap (λ (s : StoreEnd). s.written) e))
  clean_alike (Err stop) octets e =
      absurd (omega (arith, from_1 stop.why, ap (λ (s : StoreEnd). s.end.outcome) e))

  -- the numbers of an end that is given
  abbrev Numbers : StoreEnd → Type 0
  Numbers e = CopyGiven file dest e.end.outcome e.end.place e.end.offset e.end.detail

  -- 1, 19, then the walk's refusals, exactly when they are due
  refuses : (n p o d : ℕ) → Not (n ≡ 0) → Iff (answers ≡ refusing n p o d) (CopyGiven file dest n p o d)
  refuses n p o d some = (there, back n p o d some)
    where
      there : answers ≡ refusing n p o d → CopyGiven file dest n p o d
      there e =
          split 1099511627776 (length file) (λ long. subst Numbers (sym (when_long long) ∙ e) (copy_too_long long)) λ short.
          split (length dest) (length file) (λ less. subst Numbers (sym (when_short short less) ∙ e) (too_short short less)) λ fits.
          of_walk short fits
          ((walk_refused_exactly_when unlimited file n p o d some).0
          ((refused_alike (walked unlimited file).outcome n p o d some).0 (sym (when_walked short fits) ∙ e)))

      back : (n p o d : ℕ) → Not (n ≡ 0) → CopyGiven file dest n p o d → answers ≡ refusing n p o d
      back _ _ _ _ some (copy_too_long long) = when_long long
      back _ _ _ _ some (too_short short less) = when_short short less
      back n p o d some (of_walk short fits given) =
          when_walked short fits
          ∙ (refused_alike (walked unlimited file).outcome n p o d some).1 ((walk_refused_exactly_when unlimited file n p o d some).1 given)

  -- and all of the file exactly when none is
  whole : (octets : ℕ)
      → Iff (answers ≡ stored octets)
      (NotTooLong file × (length file ≤ length dest) × EndsClean unlimited file × (octets ≡ length file))
  unfolding by_outcome copy_end stored end_of
  whole octets = (there, back)
    where
      -- a number that is given for a whole copy too is 0
      zeroth : {n : ℕ} → answers ≡ refusing n 0 0 0 → answers ≡ stored octets → n ≡ 0
      zeroth e f = ap (λ (s : StoreEnd). s.end.outcome) (sym e ∙ f)

      there : answers ≡ stored octets
          → NotTooLong file × (length file ≤ length dest) × EndsClean unlimited file × (octets ≡ length file)
      there e =
          split 1099511627776 (length file) (λ long. absurd (omega (arith, zeroth (when_long long) e))) λ short.
          split (length dest) (length file) (λ less. absurd (omega (arith, zeroth (when_short short less) e))) λ fits.
          let ends = clean_alike (walked unlimited file).outcome octets (sym (when_walked short fits) ∙ e) in
          (short, fits, (walk_clean_exactly_when unlimited file).0 (ap end_of ends.0), ends.1)

      back : NotTooLong file × (length file ≤ length dest) × EndsClean unlimited file × (octets ≡ length file) → answers ≡ stored octets
      back (short, fits, ends, e) =
          when_walked short fits
          ∙ ap answers_to
          (is_clean (walked unlimited file).outcome (ap (λ (x : End). x.outcome) ((walk_clean_exactly_when unlimited file).1 ends)))
          ∙ ap stored (sym e)

  -- on a clean walk the public copy is what stands in front
  pub copied : (walked unlimited file).outcome ≡ Ok tt → length file ≤ length dest
      → take (length file) (copy_of licensed file dest).dest ≡ public_copy licensed file
  unfolding by_outcome
  copied clean fits =
      rw (by_walk (clean_short file clean) fits, clean)
      (take_at (public_copy licensed file) (drop (length file) dest) (length file) (length_copy licensed file))

pub copy_refused_exactly_when : CopyRefusedExactlyWhen
copy_refused_exactly_when file dest = refuses file dest

pub copy_written_exactly_when : CopyWrittenExactlyWhen
copy_written_exactly_when file dest = whole file dest
