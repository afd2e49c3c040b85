-- The pull reader's calls, in numbers: each section listed is handed out by the call of its place, then the refusal, then nothing.
use Rattle.std.specs.Prelude.{Ok, Err}
use Prim.Native.Nat.{ℕ, zero, suc, ◌+◌, ◌≤◌, ◌<◌}
use native.Mathlib.Omega.{arith}
use native.Mathlib.Nat.{zero-add}
use mathlib.Core.Path.{◌≡◌, refl, sym, ap, subst}
use mathlib.Core.List.{List, [], ◌∷◌}
use lib.ListN.{length, get_or}
use Rattle.octets.specs.Words.{Not}
use Rattle.framing.specs.declared.read.Section.{Section}
use Rattle.index.specs.Lines.{unlisted}
use Rattle.index.specs.Numbers.{end_of}
use Rattle.index.specs.Bounds.{unlimited}
use Rattle.index.specs.Walk.{walked}
use Rattle.pull.specs.Pull.{ends_with, hands_out, pulled}
use Rattle.pull.proofs.Sequence.{sequence}
use Rattle.walk_laws.proofs.WholeWalk.{from_1}
use Rattle.promises.specs.Handed.{Handed, passed, refused, ended, handed, HandsOut, a_section_next, the_refusal, after_refusal, after_clean_end, PullHandsOut}
use Rattle.index.specs.Outcome.{Outcome}

abbrev section_at : List Section → ℕ → Section
section_at sections call = get_or sections call unlisted.section

-- what a call hands out of a list of sections, counted from a place, and of the end behind it
data Hands (sections : List Section) (how : Outcome) (at call : ℕ) : Handed → Type 0 where
  section : {s : Section} → call < length sections → s ≡ section_at sections call
      → Hands sections how at call (passed (at + call) s.number s.offset.0 s.length)
  refusal : call ≡ length sections → Not ((end_of how).outcome ≡ 0) → Hands sections how at call (refused (end_of how))
  behind : length sections < call → Hands sections how at call ended
  clean : length sections ≤ call → (end_of how).outcome ≡ 0 → Hands sections how at call ended

hands : (at : ℕ) (sections : List Section) (how : Outcome) (call : ℕ) → Hands sections how at call (handed (hands_out at sections how call))
unfolding hands_out handed ends_with end_of
hands at [] (Err stop) zero = refusal refl (λ z. let some = from_1 stop.why in omega arith)
hands at [] (Err stop) (suc call) = behind (omega arith)
hands at [] (Ok tt) call = clean (omega arith) refl
hands at (s ∷ more) how zero =
    subst (λ (p : ℕ). Hands (s ∷ more) how at 0 (passed p s.number s.offset.0 s.length)) (let e : at + 0 ≡ at = omega arith in e)
    (section (omega arith) refl)
hands at (s ∷ more) how (suc call) = one_on (hands (at + 1) more how call)
  where
    one_on : {h : Handed} → Hands more how (at + 1) call h → Hands (s ∷ more) how at (suc call) h
    one_on (section {s = t} inside there) =
        subst (λ (p : ℕ). Hands (s ∷ more) how at (suc call) (passed p t.number t.offset.0 t.length))
        (let e : at + suc call ≡ at + 1 + call = omega arith in e)
        (section (omega arith) there)
    one_on (refusal e some) = refusal (omega arith) some
    one_on (behind more) = behind (omega arith)
    one_on (clean more none) = clean (omega arith) none

pub pull_hands_out : PullHandsOut
unfolding pulled
pull_hands_out file call =
    subst (HandsOut file call) (sym (ap handed (sequence file call)))
    (go call (hands 0 (walked unlimited file).sections (walked unlimited file).outcome call))
  where
    go : (call : ℕ) {h : Handed} → Hands (walked unlimited file).sections (walked unlimited file).outcome 0 call h → HandsOut file call h
    go call (section {s} inside there) =
        subst (λ (p : ℕ). HandsOut file call (passed p s.number s.offset.0 s.length)) (sym (zero-add call))
        (a_section_next inside there)
    go call (refusal e some) = subst (λ (k : ℕ). HandsOut file k (refused (end_of (walked unlimited file).outcome))) (sym e) (the_refusal some)
    go call (behind more) = after_refusal more
    go call (clean more none) = after_clean_end more none
