-- Where requests stand: each inside the input, and each behind the last.
use Rattle.std.specs.Prelude.{Option, Some, None}
use mathlib.Core.Path.{◌≡◌, subst}
use mathlib.Core.List.{List}
use Prim.Native.Nat.{ℕ, ◌<◌}
use native.Mathlib.Omega.{arith}
use lib.Dec.{eqb, leb}
use lib.ListN.{length, get_or}
use Rattle.requests.specs.Requests.{request_at, place_after}
use Rattle.requests.specs.declared.Request.{Request}
use Rattle.requests.specs.declared.Request.TheVariants.{Walk, Pull, Copy, Write}
use Rattle.requests.specs.declared.Request.TheVariants.{Fields, Signed, Inventory}
use Rattle.requests.specs.declared.Request.TheVariants.{Offsets, WhenWhere}
use Rattle.requests.specs.declared.Request.TheVariants as request
use Rattle.requests.proofs.Stands.{Stands, Goes}
use Rattle.requests.proofs.EachKind.{pick_by, walk_stands, pull_stands, copy_stands}
use Rattle.requests.proofs.EachKind.{write_stands, fields_stands, signed_stands}
use Rattle.requests.proofs.EachKind.{inventory_stands, list_stands, offsets_stands}
use Rattle.requests.proofs.EachKind.{when_where_stands}

-- every kind
stands : (s : List ℕ) (at : ℕ) → Stands s at (request_at s at)
unfolding request_at
stands s at =
    pick_by (Stands s at) (leb (length s) at) (λ e. tt) (λ e.
    pick_by (Stands s at) (eqb (get_or s at 0) 87) (λ e. walk_stands s at) (λ e.
    pick_by (Stands s at) (eqb (get_or s at 0) 80) (λ e. pull_stands s at) (λ e.
    pick_by (Stands s at) (eqb (get_or s at 0) 67) (λ e. copy_stands s at) (λ e.
    pick_by (Stands s at) (eqb (get_or s at 0) 77) (λ e. write_stands s at) (λ e.
    pick_by (Stands s at) (eqb (get_or s at 0) 70) (λ e. fields_stands s at) (λ e.
    pick_by (Stands s at) (eqb (get_or s at 0) 83) (λ e. signed_stands s at) (λ e.
    pick_by (Stands s at) (eqb (get_or s at 0) 73) (λ e. inventory_stands s at) (λ e.
    pick_by (Stands s at) (eqb (get_or s at 0) 82) (λ e. list_stands s at) (λ e.
    pick_by (Stands s at) (eqb (get_or s at 0) 79) (λ e. offsets_stands s at) (λ e.
    pick_by (Stands s at) (eqb (get_or s at 0) 84) (λ e. when_where_stands s at) (λ e. tt)))))))))))

-- the request that was read
pub stands_at : (s : List ℕ) (at : ℕ) (r : Option Request) → request_at s at ≡ r → Stands s at r
stands_at s at r e = subst (Stands s at) e (stands s at)

goes_by : (s : List ℕ) (at : ℕ) (r : Option Request) → at < length s → Stands s at r
    → Goes s at (place_after s r)
unfolding place_after
goes_by s at (Some (Walk n m from to)) h w =
    record { later = omega arith; inside = w.octets.within }
goes_by s at (Some (Pull from to)) h w = record { later = omega arith; inside = w.within }
goes_by s at (Some (Copy d from to)) h w = record { later = omega arith; inside = w.octets.within }
goes_by s at (Some (Write r)) h w = record { later = w.later; inside = w.inside }
goes_by s at (Some (Fields number from to)) h w = record { later = omega arith; inside = w.within }
goes_by s at (Some (Signed from to)) h w = record { later = omega arith; inside = w.within }
goes_by s at (Some (Inventory d from to)) h w =
    record { later = omega arith; inside = w.octets.within }
goes_by s at (Some (request.List m from to)) h w =
    record { later = omega arith; inside = w.octets.within }
goes_by s at (Some (Offsets reading template to)) h w = w
goes_by s at (Some (WhenWhere reading from to)) h w =
    record { later = omega arith; inside = w.within }
goes_by s at None h w = record { later = h; inside = omega arith }

pub goes : (s : List ℕ) (at next : ℕ) → next ≡ place_after s (request_at s at) → at < length s → Goes s at next
goes s at next e h = rw e (goes_by s at (request_at s at) h (stands s at))
