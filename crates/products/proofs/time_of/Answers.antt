-- `time_of` meets its contract: there are a unit and so many octets of time, or not.
use Rattle.std.specs.Prelude.{Some, None}
use Prim.Native.Nat.{ℕ, ◌+◌, ◌<◌, ◌≤◌}
use mathlib.Core.Path.{◌≡◌}
use mathlib.Core.List.{List}
use lib.ListN.{length, get_or}
use borrow.Author.Tests.{lt-ltb, le-ltb}
use Rattle.octets.specs.BigEndian.{be_at}
use Rattle.products.specs.Readings.{octets_in}
use Rattle.products.specs.Products.{time_of}
use Rattle.products.specs.declared.templates.TimeOctets.{TimeOctets}
use Rattle.products.specs.declared.templates.TimeOctets.TheVariants.{Two, Four}
use Rattle.products.proofs.time_of.Goals as goal

-- of a width that is one of the two
module _ (s : List ℕ) (width one : TimeOctets) (is : width ≡ one) where
  too_short : length s < 1 + octets_in one → None ≡ time_of width s
  unfolding time_of
  too_short short = rw (is, lt-ltb (length s) (1 + octets_in one) short)

  long_enough : (time : ℕ) → 1 + octets_in one ≤ length s → time ≡ be_at s 1 (octets_in one)
      → Some (record { unit = get_or s 0 0; time = time }) ≡ time_of width s
  unfolding time_of
  long_enough time long e = rw (is, le-ltb (length s) (1 + octets_in one) long, e)

pub returns-in-Two-len3-up : goal.returns-in-Two-len3-up
unfolding octets_in be_at
returns-in-Two-len3-up c = long_enough _ _ Two c.in-Two-len3-up.is-0 _ c.in-Two-len3-up.len_at_least c.be16.ensures

pub returns-in-Four-len5-up : goal.returns-in-Four-len5-up
unfolding octets_in be_at
returns-in-Four-len5-up c = long_enough _ _ Four c.in-Four-len5-up.is-0 _ c.in-Four-len5-up.len_at_least c.be32.ensures

pub returns-in_default : goal.returns-in_default
unfolding octets_in
returns-in_default c = too_short _ _ Two c.in_default.is-0 c.in_default.len_below

pub returns-in_default-2 : goal.returns-in_default-2
unfolding octets_in
returns-in_default-2 c = too_short _ _ Four c.in_default.is-0 c.in_default.len_below
