-- What a payload says at an index of its template, as the code finds it: the template first, then what stands at the index.
use Rattle.std.specs.Prelude.{Option, Some}
use Prim.Native.Nat.{ℕ}
use mathlib.Core.Path.{◌≡◌, ◌∙◌}
use mathlib.Core.List.{List}
use lib.ListN.{drop}
use Rattle.products.specs.Products.{by_index}

pub at_index : {A : Type 0} (none : A) (f : List ℕ → A) (s template part : List ℕ) (index : Option ℕ) (at : ℕ) (answer : A)
    → index ≡ Some at → template ≡ drop 4 s → part ≡ drop at template → answer ≡ f part → answer ≡ by_index none f s index
at_index none f s template part index at answer i t p e = e ∙ rw (i, p, t)
