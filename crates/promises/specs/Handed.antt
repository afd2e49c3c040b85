-- What a call of the pull reader hands out, in document 01's numbers ("Order", "Refusal numbers").
use Rattle.std.specs.Prelude.{ℕ, ◌≤◌, ◌<◌, ◌≡◌, List, length, get_or, Option, Some, None, Result}
use Rattle.std.specs.Prelude.{Ok, Err}
use Rattle.octets.specs.Words.{Not}
use Rattle.framing.specs.declared.read.Section.{Section}
use Rattle.index.specs.Lines.{unlisted}
use Rattle.index.specs.Bounds.{unlimited}
use Rattle.index.specs.Walk.{walked}
use Rattle.index.specs.Numbers.{end_of}
use Rattle.index.specs.declared.numbers.End.{End}
use Rattle.pull.specs.Calls.{pull_at, after_calls}
use Rattle.index.specs.declared.listed.Listed.{Listed}
use Rattle.index.specs.declared.refusal.Refused.{Refused}

-- a passed section's place, number, offset and length; a refusal's outcome, place, offset and
-- detail; or that it has ended
pub data Handed : Type 0 where
  passed : ℕ → ℕ → ℕ → ℕ → Handed
  refused : End → Handed
  ended : Handed

unfoldable pub handed : Option (Result Listed Refused) → Handed
handed (Some (Ok s)) =
    passed s.place.0 s.section.number s.section.offset.0 s.section.length
handed (Some (Err stop)) = refused (end_of (Err stop))
handed None = ended

-- the calls on a file, counted from 0: each section of its unlimited walk, with its place; then its
-- refusal, once; and nothing more
pub data HandsOut (file : List ℕ) : ℕ → Handed → Type 0 where
  a_section_next : {call : ℕ} {s : Section} → call < length (walked unlimited file).sections
      → s ≡ get_or (walked unlimited file).sections call unlisted.section
      → HandsOut file call (passed call s.number s.offset.0 s.length)
  the_refusal : Not ((end_of (walked unlimited file).outcome).outcome ≡ 0)
      → HandsOut file (length (walked unlimited file).sections)
      (refused (end_of (walked unlimited file).outcome))
  after_refusal : {call : ℕ} → length (walked unlimited file).sections < call
      → HandsOut file call ended
  after_clean_end : {call : ℕ} → length (walked unlimited file).sections ≤ call
      → (end_of (walked unlimited file).outcome).outcome ≡ 0
      → HandsOut file call ended

-- what the code's calls give, one after another, in numbers
abbrev pub PullHandsOut : Type 0
PullHandsOut =
    (file : List ℕ) (call : ℕ)
    → HandsOut file call (handed (pull_at file (after_calls call file)).answer)
