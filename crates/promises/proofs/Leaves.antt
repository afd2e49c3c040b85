-- Demand 1: what a walk, a public copy and a write leave of the memory that they are lent.
use Rattle.std.specs.Prelude.{Result, Ok, Err}
use Prim.Native.Nat.{ℕ, ◌*◌, ◌/◌, ◌≤◌}
use native.Mathlib.Omega.{arith}
use mathlib.Core.Path.{◌≡◌, refl, sym, ◌∙◌}
use mathlib.Core.List.{List, [], ◌∷◌, ◌++◌}
use lib.Dec.{ltb}
use lib.ListN.{length, drop, length-append, length-drop}
use lib.Seq.{take_at, drop_at}
use borrow.Author.Tests.{ltb-false}
use Rattle.framing.specs.declared.read.Section.{Section}
use Rattle.framing.proofs.Tests.{by_test}
use Rattle.index.specs.declared.line.Line.{Line}
use Rattle.index.specs.Numbers.{stored}
use Rattle.index.specs.Bounds.{unlimited}
use Rattle.index.specs.Walk.{walked}
use Rattle.standing.specs.Tables.{room_of, rows_of, stored_over}
use Rattle.walk.specs.Tables.{walk_of}
use Rattle.walk_numbers.specs.Numbers.{line_numbers, lines_of, walk_numbers}
use Rattle.publish.specs.Values.{licensed}
use Rattle.publish.specs.Copy.{public_copy, Copied, by_outcome, copy_of}
use Rattle.publish.specs.End.{copy_end}
use Rattle.writer.specs.Plan.{parts_of, judged_plan}
use Rattle.writer.specs.Message.{message_octets}
use Rattle.writer.specs.Write.{dest_of, write_of}
use Rattle.writer.specs.End.{write_end}
use Rattle.writer.proofs.Checks.{accepted, all_sound}
use Rattle.writer.proofs.Lengths.{length_message}
use Rattle.walk_laws.proofs.Counts.{within_room}
use Rattle.blindness.proofs.Copies.{length_copy}
use Rattle.promises.specs.Lent.{Leaves, Holds, WalkStores, NumbersStore, CopyLeaves, WriteLeaves}
use Rattle.index.specs.Outcome.{Outcome}
use Rattle.writer.specs.declared.WriteRefusal.TheVariants.{TooManySections, NotOneMessage, OutsideStore, PayloadSize, NoRoom}
use Rattle.writer.specs.declared.WriteRefusal.{WriteRefusal}

-- so where so many are put in front of the others
pub in_front : {A : Type 0} (new before : List A) (n : ℕ) → length new ≡ n → n ≤ length before → Leaves n before (new ++ drop n before)
in_front new before n so_many room =
    let whole = length-append new (drop n before) in
    let rest = length-drop n before in
    (omega arith, drop_at new (drop n before) n so_many)

-- a row is three numbers
three_each : (sections : List Section) → length (rows_of sections) ≡ 3 * length sections
unfolding rows_of
three_each [] = refl
three_each (s ∷ more) = let later = three_each more in omega arith

-- and a line fifteen
fifteen_each : (lines : List Line) → length (lines_of lines) ≡ 15 * length lines
unfolding lines_of line_numbers
fifteen_each [] = refl
fifteen_each (l ∷ more) = let later = fifteen_each more in let sum = length-append (line_numbers l) (lines_of more) in omega arith

-- a table that is filled in front
pub held : {A : Type 0} (new before : List A) → length new ≤ length before → Holds new before (stored_over new before)
held new before fits = (take_at new (drop (length new) before) (length new) refl, in_front new before (length new) refl fits)

-- rows in as many numbers as there is room for
rows_fit : (sections : List Section) (numbers : ℕ) → length sections ≤ numbers / 3 → length (rows_of sections) ≤ numbers
rows_fit sections numbers fits = let three = three_each sections in omega arith

lines_fit : (lines : List Line) (numbers : ℕ) → length lines ≤ numbers / 15 → length (lines_of lines) ≤ numbers
lines_fit lines numbers fits = let fifteen = fifteen_each lines in omega arith

pub walk_stores : WalkStores
unfolding walk_of
walk_stores file rows lines =
    let room = room_of (length rows) (length lines) in
    let told = walked room file in
    let fits = within_room room file in
    (held (rows_of told.sections) rows (rows_fit told.sections (length rows) fits.0), held told.lines lines fits.1, refl)

pub numbers_store : NumbersStore
unfolding walk_numbers
numbers_store file rows lines =
    let room = room_of (length rows) (length lines / 15) in
    let told = walked room file in
    let fits = within_room room file in (
      held (rows_of told.sections) rows (rows_fit told.sections (length rows) fits.0),
      held (lines_of told.lines) lines (lines_fit told.lines (length lines) fits.1),
      refl,
    )

-- a copy stands in front where it fits, and a refusal writes nothing
pub copy_leaves : CopyLeaves
unfolding copy_of by_outcome copy_end stored
copy_leaves file dest =
    by_test Kept (ltb 1099511627776 (length file)) (λ _. (refl, refl)) λ _.
    by_test Kept (ltb (length dest) (length file)) (λ _. (refl, refl)) λ e.
    go (walked unlimited file).outcome (ltb-false (length dest) (length file) e)
  where
    Kept : Copied → Type 0
    Kept c = Leaves (copy_end c.answer).written dest c.dest

    go : (o : Outcome) → length file ≤ length dest → Kept (by_outcome o licensed file dest)
    go (Ok tt) fits = in_front (public_copy licensed file) dest (length file) (length_copy licensed file) fits
    go (Err stop) fits = (refl, refl)

-- so does a message
pub write_leaves : WriteLeaves
unfolding write_of dest_of write_end stored
write_leaves discipline reserved₁ reserved₂ plan store dest = go (judged_plan (parts_of plan) (length store) (length dest)) refl
  where
    octets : List ℕ
    octets = message_octets discipline reserved₁ reserved₂ (parts_of plan) store

    go : (w : Result ℕ WriteRefusal) → judged_plan (parts_of plan) (length store) (length dest) ≡ w
        → Leaves (write_end w).written dest (dest_of w octets dest)
    go (Ok total) e =
        let a = accepted (parts_of plan) (length store) (length dest) total e in
        let long = length_message discipline reserved₁ reserved₂ (parts_of plan) store (all_sound a) in
        in_front octets dest total (long ∙ sym a.whole) a.has_room
    go (Err TooManySections) e = (refl, refl)
    go (Err (NotOneMessage at)) e = (refl, refl)
    go (Err (OutsideStore at)) e = (refl, refl)
    go (Err (PayloadSize at)) e = (refl, refl)
    go (Err NoRoom) e = (refl, refl)
