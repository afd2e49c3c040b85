-- Reading equals the crate's: the statements of specs/Equal.antt.
use Rattle.std.specs.Prelude.{Option, Some, None}
use Prim.Native.Nat.{ℕ, suc, ◌/◌, ◌≤◌}
use native.Mathlib.Omega.{arith}
use mathlib.Core.Path.{◌≡◌, refl, sym, ap, subst, ◌∙◌}
use mathlib.Core.List.{List, [], ◌∷◌, map}
use lib.Dec.{eqb}
use lib.ListN.{length}
use borrow.Author.Tests.{eqb-true, ne_eqb}
use Rattle.octets.specs.Words.{pick, Not}
use Rattle.framing.specs.declared.read.Section.{Section}
use Rattle.framing.proofs.Tests.{by_test}
use Rattle.index.specs.Bounds.{unlimited}
use Rattle.index.specs.declared.line.Line.{Line}
use Rattle.index.specs.Walk.{Told, walked}
use Rattle.index.specs.Pins.{Every, PinnedLine}
use Rattle.index.proofs.Pins.{lines_are_pinned}
use Rattle.standing.specs.Tables.{room_of, rows_of, stored_over}
use Rattle.walk.specs.Tables.{answer_of, walk_of}
use Rattle.walk_numbers.specs.Numbers.{lines_of, seven_of, walk_numbers}
use Rattle.pull.specs.Pull.{hands_out, pulled}
use Rattle.pull.proofs.Sequence.{sequence}
use Rattle.walk_laws.proofs.Counts.{every_map}
use Rattle.as_the_crate.specs.Std.{SectionInfo, info}
use Rattle.as_the_crate.specs.Parser.{positions, infos, Submessage, Collected}
use Rattle.as_the_crate.specs.Told.{end_in, told_in, told_by_the_rust}
use Rattle.as_the_crate.specs.Equal.{IsFile, RustOverflows, count_told, passed_at, passed_at_some, looked_up}
use Rattle.as_the_crate.specs.Open.{ninth_of, OpenLosesNothing}
use Rattle.as_the_crate.specs.Equal.{EqualsTheRust, WalkEqualsTheRust, WalkNumbersEqualsTheRust, PullEqualsTheRust, PublicRustIsTheSame}
use Rattle.as_the_crate.proofs.Words.{infos_of, kept_local, kept_end, submessages_of, in_words}
use Rattle.as_the_crate.proofs.Whole.{free, crate_free, held, unlimited_held, with_places_lem, with_sections, in_its_words}
use Rattle.as_the_crate.proofs.JustHeld.{crate_lines_are_pinned}
use Rattle.as_the_crate.proofs.Back.{as_many, by_end, told_back}
use Rattle.order.specs.declared.Place.{Place}

pub as_many_lines : (ls : List Line) → length (submessages_of positions (λ k. k) ls) ≡ length ls
as_many_lines [] = refl
as_many_lines (l ∷ ls) = ap suc (as_many_lines ls)

-- with room for any file
unlimited_equals : (file : List ℕ) → IsFile file → Not (RustOverflows file) → walked unlimited file ≡ told_by_the_rust (count_told file) file
unlimited_equals file is no_overflow =
    let words = in_its_words file is no_overflow in
    sym (told_back file is.most (λ h. no_overflow (ap (λ (c : Collected ℕ). c.end) words ∙ h))) ∙ ap (told_in (count_told file) file) (sym words)

pub equals_the_rust : EqualsTheRust
equals_the_rust file is no_overflow room (rows, lines) =
    let words = in_its_words file is no_overflow ∙ ap (in_words positions (λ k. k)) (unlimited_held file is.most) in
    let a = subst (λ (c : Collected ℕ). length c.sections ≤ room.rows) words rows in
    let b = subst (λ (c : Collected ℕ). length c.submessages ≤ room.lines) words lines in
    let same-a = as_many (free file).sections in
    let same-b = as_many_lines (free file).lines in
    held file room is.most (omega arith) (omega arith) ∙ sym (unlimited_held file is.most) ∙ unlimited_equals file is no_overflow

pub open_loses_nothing : OpenLosesNothing
open_loses_nothing = (
  λ pos. by_test (λ (e : Option Place). ninth_of e ≡ pos) (eqb pos 0) (λ e. sym (eqb-true pos 0 e)) (λ e. refl),
  λ room file. every_map (walked room file).lines
      (λ line pins. by_end pins (λ (e : Option Place). end_in (ninth_of e) ≡ e) refl (λ p other. rw (ne_eqb p.0 0 other)))
      (lines_are_pinned room file),
)

pub walk_equals_the_rust : WalkEqualsTheRust
unfolding walk_of
walk_equals_the_rust file is no_overflow rows lines a b =
    ap
    (λ (told : Told).
    record { answer = answer_of told; rows = stored_over (rows_of told.sections) rows; lines = stored_over told.lines lines })
    (equals_the_rust file is no_overflow (room_of (length rows) (length lines)) (omega arith, b))

pub walk_numbers_equals_the_rust : WalkNumbersEqualsTheRust
unfolding walk_numbers
walk_numbers_equals_the_rust file is no_overflow rows lines a b =
    ap
    (λ (told : Told).
    record {
      answer = seven_of (answer_of told);
      rows = stored_over (rows_of told.sections) rows;
      lines = stored_over (lines_of told.lines) lines;
    })
    (equals_the_rust file is no_overflow (room_of (length rows) (length lines / 15)) (omega arith, omega arith))

pub pull_equals_the_rust : PullEqualsTheRust
unfolding pulled
pull_equals_the_rust file is no_overflow call =
    let one = ap (λ (told : Told). hands_out 0 told.sections told.outcome call) (unlimited_equals file is no_overflow) in
    (one, sequence file call ∙ one)

local_looked_up : (passed : List SectionInfo) (l : Option Place) → kept_local (passed_at passed) l ≡ passed_at_some passed (kept_local (λ k. k) l)
local_looked_up passed (Some p) = refl
local_looked_up passed None = refl

-- no section 8 at place 0 is looked up
end_looked_up : (passed : List SectionInfo) {file : List ℕ} {ss : List Section} {l : Line} → PinnedLine file ss l
    → pick (eqb (kept_end positions (λ k. k) l.end) 0) (info 8 0 4) (passed_at passed (kept_end positions (λ k. k) l.end))
    ≡ kept_end infos (passed_at passed) l.end
end_looked_up passed pins =
    by_end pins
    (λ (e : Option Place).
    let pos = kept_end positions (λ k. k) e in
    pick (eqb pos 0) (info 8 0 4) (passed_at passed pos) ≡ kept_end infos (passed_at passed) e)
    refl (λ p other. rw (ne_eqb p.0 0 other))

looked_up_lem : (passed : List SectionInfo) (file : List ℕ) (ss : List Section) (ls : List Line) → Every (PinnedLine file ss) ls
    → submessages_of infos (passed_at passed) ls
    ≡ map (λ (s : Submessage ℕ). looked_up passed s) (submessages_of positions (λ k. k) ls)
looked_up_lem passed file ss [] pins = refl
looked_up_lem passed file ss (l ∷ ls) pins =
    rw (end_looked_up passed pins.0, local_looked_up passed l.local, looked_up_lem passed file ss ls pins.1)

pub public_rust_is_the_same : PublicRustIsTheSame
public_rust_is_the_same file is =
    let crate = crate_free file in
    let pins = crate_lines_are_pinned file is.most in
    with_sections file is
    ∙ rw (with_places_lem file is, looked_up_lem (infos_of crate.sections) file crate.sections crate.lines pins)
