-- `grib_in_four` meets its contract: in each arm the octet leaves one place, which is asked.
use Prim.Native.Nat.{◌+◌}
use native.Mathlib.Omega.{arith}
use mathlib.Core.Path.{refl}
use Rattle.framing.proofs.NextStart.{none_but, in_four}
use Rattle.framing.proofs.search.grib_in_four.Goals as goal

pub returns-in-66 : goal.returns-in-66
returns-in-66 c =
    let i = c.args.i in
    let is = c.in-66.is in
    in_four _ i i 0 _ (omega arith) (omega arith) refl (λ z s. omega arith, λ z s. omega arith, λ z s. omega arith, λ z s. omega arith)
    c.grib_at.ensures

pub returns-in-73 : goal.returns-in-73
returns-in-73 c =
    let i = c.args.i in
    let is = c.in-73.is in
    in_four _ i (i + 1) 1 _ (omega arith) (omega arith) refl (λ z s. omega arith, λ z s. omega arith, λ z s. omega arith, λ z s. omega arith)
    c.grib_at-in-73.ensures

pub returns-in-82 : goal.returns-in-82
returns-in-82 c =
    let i = c.args.i in
    let is = c.in-82.is in
    in_four _ i (i + 2) 2 _ (omega arith) (omega arith) refl (λ z s. omega arith, λ z s. omega arith, λ z s. omega arith, λ z s. omega arith)
    c.grib_at-in-82.ensures

pub returns-in-71 : goal.returns-in-71
returns-in-71 c =
    let i = c.args.i in
    let is = c.in-71.is in
    in_four _ i (i + 3) 3 _ (omega arith) (omega arith) refl (λ z s. omega arith, λ z s. omega arith, λ z s. omega arith, λ z s. omega arith)
    c.grib_at-in-71.ensures

pub returns-in_default : goal.returns-in_default
returns-in_default c =
    let i = c.args.i in
    λ k below from. none_but _ i 4 _ refl
    (λ z s. omega arith, λ z s. omega arith, λ z s. omega arith, λ z s. omega arith)
    k below from (λ z. omega arith)
