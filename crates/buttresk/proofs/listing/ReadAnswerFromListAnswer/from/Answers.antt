-- `from` of `ReadAnswer` meets its contract: the entries, and each number of the end.
use Rattle.buttresk.specs.Lists.{read_answer_of}
use Rattle.buttresk.proofs.listing.ReadAnswerFromListAnswer.from.Goals as goal

pub returns : goal.returns
unfolding read_answer_of
returns c = rw c.list_end-end.ensures
