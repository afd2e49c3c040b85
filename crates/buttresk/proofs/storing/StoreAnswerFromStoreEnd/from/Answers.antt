-- `from` of `StoreAnswer` meets its contract: each number is the end's.
use mathlib.Core.Path.{refl}
use Rattle.buttresk.specs.Stores.{five_of}
use Rattle.buttresk.proofs.storing.StoreAnswerFromStoreEnd.from.Goals as goal

pub returns : goal.returns
unfolding five_of
returns c = refl
