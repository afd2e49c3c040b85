-- `entry_numbers` meets its contract: each number is the entry's.
use Rattle.std.specs.Prelude.{Option, Some, None}
use Prim.Native.Nat.{ℕ}
use mathlib.Core.Path.{◌≡◌, refl}
use mathlib.Core.List.{List, [], ◌∷◌, ◌++◌}
use lib.ListN.{get_or}
use Rattle.lists.specs.Lists.{octet_numbers, time_numbers, entry_numbers}
use Rattle.lists.proofs.table.entry_numbers.Goals as goal
use Rattle.products.specs.declared.ForecastTime.{ForecastTime}

-- the numbers of a field, one by one
two : (o : Option ℕ)
    → octet_numbers o ≡ get_or (octet_numbers o) 0 0 ∷ get_or (octet_numbers o) 1 0 ∷ []
unfolding octet_numbers
two (Some n) = refl
two None = refl

three : (t : Option ForecastTime)
    → time_numbers t
    ≡ get_or (time_numbers t) 0 0 ∷ get_or (time_numbers t) 1 0 ∷ get_or (time_numbers t) 2 0 ∷ []
unfolding time_numbers
three (Some t) = refl
three None = refl

-- fields one behind the other
in_turn : (front : List ℕ) {a b c d : List ℕ} {k l m n p q r s t : ℕ}
    → a ≡ k ∷ l ∷ [] → b ≡ m ∷ n ∷ [] → c ≡ p ∷ q ∷ r ∷ [] → d ≡ s ∷ t ∷ []
    → front ++ (k ∷ l ∷ m ∷ n ∷ p ∷ q ∷ r ∷ s ∷ t ∷ []) ≡ front ++ (a ++ (b ++ (c ++ d)))
in_turn front i j u v = rw (i, j, u, v)

pub returns : goal.returns
unfolding entry_numbers
returns c =
    let e = c.args.entry in
    rw (
      c.octet_numbers-category.ensures,
      c.octet_numbers-number.ensures,
      c.time_numbers-time.ensures,
      c.octet_numbers-surface.ensures,
    )
    (in_turn (e.message ∷ e.submessage ∷ e.offset.0 ∷ e.discipline ∷ []) (two e.category)
    (two e.number) (three e.time) (two e.surface))
