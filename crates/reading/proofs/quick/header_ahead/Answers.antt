-- `header_ahead` meets its contract: where all tests pass, the section is read, and it is usual.
use Prim.Native.Nat.{ℕ, ◌+◌, ◌-◌}
use mathlib.Core.Path.{◌≡◌, sym, subst, ◌∙◌}
use lib.ListN.{length, get_or}
use Rattle.sections.specs.Kinds.{least_payload_of}
use Rattle.framing.specs.Framing.{section_at, payload_at}
use native.Mathlib.Omega.{arith}
use Rattle.reading.specs.Glance.{WholeAhead, Usual, Glanced}
use Rattle.reading.proofs.Whole.{header_reads, four}
use Rattle.reading.proofs.quick.header_ahead.Goals as goal

pub returns-then-cursor : goal.returns-then-cursor
unfolding Glanced
returns-then-cursor c = tt

pub returns-then-file-at : goal.returns-then-file-at
unfolding Glanced
returns-then-file-at c = tt

pub returns-then-left-lt-HEADER_SIZE : goal.returns-then-left-lt-HEADER_SIZE
unfolding Glanced
returns-then-left-lt-HEADER_SIZE c = tt

pub overflow_cast-number : goal.overflow_cast-number
unfolding Glanced
overflow_cast-number c =
    let args = c.args in
    record { fits = omega (arith, c.type_inv.file (args.cursor.at.0 + 4)) }

pub returns-then-cursor-octets : goal.returns-then-cursor-octets
unfolding Glanced
returns-then-cursor-octets c = tt

pub returns-then-not-is_usual : goal.returns-then-not-is_usual
unfolding Glanced
returns-then-not-is_usual c = tt

pub returns-then-not-is_whole : goal.returns-then-not-is_whole
unfolding Glanced
returns-then-not-is_whole c = tt

pub returns : goal.returns
unfolding Glanced WholeAhead Usual
returns c =
    let file = c.args.file.now in
    let at = c.args.cursor.at.0 in
    let rest = c.args.cursor.rest in
    let number = get_or file (at + 4) 0 in
    let len = c.be32-length.result in
    let is = c.be32-length.ensures ∙ four file at in
    let passes = c.is_whole.ensures c.if-not-is_whole.false in
    record {
      reads =
          header_reads file at rest c.if-cursor.false c.if-file-at.false c.if-left-lt-HEADER_SIZE.false (rw (sym is) passes.0)
          (subst (λ (n : ℕ). payload_at (least_payload_of number) at number n (length file - at) rest ≡ section_at number at len (rest - len)) is
          (passes.1 at rest c.if-cursor-octets.false));
      fitting = c.is_usual.ensures c.if-not-is_usual.false;
    }
