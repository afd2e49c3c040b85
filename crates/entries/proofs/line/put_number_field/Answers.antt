-- `put_number_field` meets its contract: the colon stands right before the number.
use native.Mathlib.Omega.{arith}
use Rattle.entries.proofs.Put.{put_front}
use Rattle.entries.proofs.line.put_number_field.Goals as goal

pub returns-clause-text : goal.returns-clause-text
returns-clause-text c =
    let number = c.put_number-at.ensures in
    put_front c.requires.1 number.text (omega (arith, c.requires.0, number.short))
