-- `put_part` meets its contract. The loop keeps that the octets so far are copied.
use Prim.Native.Nat.{ℕ, ◌+◌, ◌≤◌, ◌<◌}
use native.Mathlib.Omega.{arith}
use native.Mathlib.Numerals.{add-one}
use mathlib.Core.Path.{◌≡◌, refl, ap, ◌∙◌}
use mathlib.Core.List.{List}
use lib.ListN.{length, take, drop, get_or, set, length-set, length-drop}
use lib.Seq.{paste, paste-zero, paste-suc, get_or-drop}
use Rattle.writer.specs.Put.{written_at}
use Rattle.writer.proofs.Stored.{put_paste}
use Rattle.writer.proofs.put.put_part.Goals as goal
use Rattle.writer.proofs.put.put_part.Invariants.{Copied}

module _ {store : List ℕ} {from octets : ℕ} {dest : List ℕ} {at : ℕ} {d : List ℕ} {i : ℕ} (k : Copied store from dest at d i)
    (room : (from + octets ≤ length store) × (at + octets ≤ length dest)) where
  on : i < octets → Copied store from dest at (set d (at + i) (get_or store (from + i) 0)) (i + 1)
  on more =
      let inside = room.0 in
      let fits = room.1 in
      record {
        long = simp length-set k.long;
        same =
            rw (k.same, ← get_or-drop from store i 0, add-one)
            (paste-suc dest at (drop from store) i 0 (omega arith) (simp length-drop (omega arith)));
      }

  ended : i ≡ octets → d ≡ written_at dest at (take octets (drop from store))
  ended all =
      let inside = room.0 in
      k.same ∙ ap (paste dest at (drop from store)) all ∙ put_paste dest at (drop from store) octets (simp length-drop (omega arith))

pub loop-i-init : goal.loop-i-init
loop-i-init c = let a = c.args in record { long = refl; same = paste-zero a.dest.now a.at (drop a.from a.store.now) }

pub loop-i-preserved : goal.loop-i-preserved
loop-i-preserved c = on c.loop-i.invariant c.requires c.loop-i-test.true

pub shape_of-dest : goal.shape_of-dest
shape_of-dest c = c.loop-i.invariant.long

pub returns : goal.returns
returns c = ended c.loop-i.invariant c.requires (omega arith)
