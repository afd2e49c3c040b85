-- How the reading of a list ends, in documents 01 and 02's numbers.
use Rattle.std.specs.Prelude.{Result, Ok, Err, ⊤}
use Rattle.index.specs.Numbers.{end_of}
use Rattle.index.specs.declared.numbers.End.{End}
use Rattle.lists.specs.declared.ListRefusal.TheVariants.{NotInForm, TableFull}
use Rattle.lists.specs.declared.ListRefusal.{ListRefusal}

-- 21 has the line's number as detail; no end has a place or an offset
unfoldable pub list_end : Result ⊤ ListRefusal → End
list_end (Ok tt) = end_of (Ok tt)
list_end (Err (NotInForm line)) = record { outcome = 21; place = 0; offset = 0; detail = line }
list_end (Err TableFull) = record { outcome = 14; place = 0; offset = 0; detail = 0 }
