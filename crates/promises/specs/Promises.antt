-- Buttresk's three demands in their own words, and what is proved. docs/ARCHITECTURE.md leads here.
use Rattle.std.specs.Prelude.{ℕ, ◌≤◌, ◌≡◌, List, length, take}
use Rattle.products.specs as products
use Rattle.index.specs.Numbers.{end_of}
use Rattle.index.specs.Bounds.{unlimited}
use Rattle.index.specs.Walk.{walked}
use Rattle.index.specs.Pins as pins
use Rattle.walk_numbers.specs.Numbers.{walk_numbers}
use Rattle.pull.specs.Calls.{pull_at, after_calls}
use Rattle.publish.specs.Values.{licensed}
use Rattle.publish.specs.Copy.{copy_of}
use Rattle.walk_laws.specs.ExactlyWhen as exactly
use Rattle.walk_laws.specs.OneStep.{OneStepExactlyWhen}
use Rattle.walk_laws.specs.Samples as samples
use Rattle.walk_laws.specs.Witnesses as witnesses
use Rattle.walk_laws.specs.Missing.{HowMuchIsMissing}
use Rattle.walk_laws.specs.Starts.{WhereMessagesStart}
use Rattle.walk_laws.specs.Spans.{WhereMessagesStand}
use Rattle.walk_laws.specs.Laws as laws
use Rattle.as_the_crate.specs.Equal as rust
use Rattle.as_the_crate.specs.Open.{OpenLosesNothing}
use Rattle.as_the_crate.specs.Overflow.{OverflowsExactlyWhen}
use Rattle.as_the_encoder.specs.Writes.{WritesAsTheRust, EveryAcceptedPlanIsNested}
use Rattle.blindness.specs.Agree.{Alike}
use Rattle.blindness.specs.Blindness.{One, Public}
use Rattle.promises.specs.Public.{EachGivesItsDefinition, CodeIsThere}
use Rattle.promises.specs.Lent as lent
use Rattle.promises.specs.Handed.{PullHandsOut}
use Rattle.promises.specs.CopyGiven.{CopyRefusedExactlyWhen, CopyWrittenExactlyWhen}
use Rattle.promises.specs.PlanAnswered as plan
use Rattle.promises.specs.InventoryAnswered.{TextInventory}
use Rattle.promises.specs.CFace.{faces_of}

-- 1. Every file, plan and lent table, of any content, gets an answer, and the call ends. Bad input
-- is refused by 01's number, with its place; what was stored before stands, all else lent is
-- untouched.
pub record Demand1 : Type 2 where
  -- every public function asks for nothing, can be called with any contents, ends, and gives the
  -- definition that is written beside its name: of contents alone, wherever they lie
  pub each_gives : EachGivesItsDefinition
  pub code_is_there : CodeIsThere  -- the code of all of them, in one environment
  pub walk_stores : lent.WalkStores  -- what is told before the end is stored, all else is left
  pub numbers_store : lent.NumbersStore
  pub list_stores : lent.ListStores
  pub nothing_else : lent.NothingElseIsWritten

-- 2. Reading equals a definition written from the WMO Manual and document 01 on all files, and the
-- Rust on every file (to 2^40 octets) on which it doesn't overflow and whose lines the tables hold.
-- An accepted plan is written as defined and reads back.
pub record Demand2 : Type 0 where
  -- rows are the file's sections, none left out; a line has the last of each number before its 7
  pub rows_are_laid_out : pins.RowsAreLaidOut
  pub over_tells_all : pins.OverTellsAll
  pub just_read_stands_next : pins.JustReadStandsNext
  pub lines_are_pinned : pins.LinesArePinned
  pub a_line_for_each_7 : pins.ALineForEach7
  -- a walk, one read, one judgement, a bare list: each answer exactly when 01's rows say so
  pub walk_refuses : exactly.WalkRefusedExactlyWhen
  pub walk_ends_clean : exactly.WalkCleanExactlyWhen
  pub one_step : OneStepExactlyWhen
  pub missing : HowMuchIsMissing  -- 02, Ticket 2: 2 tells an octet at least; each that comes counts
  pub starts : WhereMessagesStart  -- 02, Ticket 11: with 0 in every file; 11 is given inside alone
  pub stands : WhereMessagesStand  -- 02, Ticket 7: where its section 0 says, to its section 8's end
  pub offsets : products.Rows.TableIsTheRanges  -- 02, Ticket 4: as 01's ranges say; no index above
  pub readings : products.Agreement.WhereReadingsDiffer  -- 02, Ticket 6: 44's time, 47's process
  pub one_call : products.OneCall.WhenAndWhere  -- 02, Ticket 12: each as before, and by itself
  pub starred : samples.StarredHold  -- document 01's samples, and walks that give each refusal
  pub others : samples.OthersHold
  pub each_refusal : witnesses.WitnessesHold
  pub tiled : laws.ClosedMessagesAreTiled  -- by their sections; each 8 closes one, and they count
  pub ends_close : laws.EachEndClosesAMessage
  pub messages_counted : laws.MessagesAreEnds
  pub no_end_at_0 : laws.NoEndAtPlace0  -- no section 8 has place 0
  pub place_is_count : laws.PlaceIsCount  -- a refusal's place counts the sections
  pub over_at_last : laws.InputOverAtLast
  -- lent tables of any size get the beginning of the unlimited walk, and all of it if they hold it
  pub never_full : laws.UnlimitedIsNeverFull
  pub begins : laws.BeginsTheUnlimited
  pub held : laws.HeldIsUnlimited
  pub pull_hands_out : PullHandsOut  -- the walk's sections, its refusal once, then "ended"
  pub copy_refuses : CopyRefusedExactlyWhen  -- by 1, 19 or the walk's refusals, as 01 says
  pub copy_written : CopyWrittenExactlyWhen
  pub inventory : TextInventory  -- 02, Ticket 1: what it says, each answer, that it reads back
  -- a plan is refused by 15 to 19, or taken, exactly when 01 says, and what is written reads back
  pub plan_refused : plan.PlanRefusedExactlyWhen
  pub plan_taken : plan.PlanTakenExactlyWhen
  pub one_message : plan.OneMessageIsInOrder
  pub reads_back : plan.WrittenReadsBack
  -- the Rust, transcribed (tested: `tests/oracle/transcription.py`): where it does not overflow and
  -- the tables hold its lines, walks and pull reader give what it tells (it counts nothing missing)
  pub walk_is_the_rust's : rust.WalkEqualsTheRust
  pub numbers_are_the_rust's : rust.WalkNumbersEqualsTheRust
  pub pull_is_the_rust's : rust.PullEqualsTheRust
  pub open_loses_nothing : OpenLosesNothing  -- its 0 for "goes on" is turned into that: one to one
  pub rust_overflows : OverflowsExactlyWhen  -- exactly where 01's additions refuse
  pub writes_as_the_rust : WritesAsTheRust  -- the same octets of every accepted plan,
  pub every_plan_nested : EveryAcceptedPlanIsNested  -- which is a message of the Rust's

-- 3. Two files of one length that differ only in values octets give equal lines, fields and end
-- answer; on a clean walk the same public copy, which walks to that answer and differs from its
-- file only in values octets and octets outside every message.
pub record Demand3 : Type 0 where
  -- one walk, fields by both readings, inventory, copy; so walk in numbers, C face, pull reader
  pub equal_files : (f g : List ℕ) → Alike licensed f g → One licensed f g
  pub equal_numbers : (f g : List ℕ) → Alike licensed f g → (rows lines : List ℕ)
      → walk_numbers f rows lines ≡ walk_numbers g rows lines
  pub equal_faces : (f g : List ℕ) → Alike licensed f g → (r : ℕ) → faces_of r f ≡ faces_of r g
  pub equal_pulls : (f g : List ℕ) → Alike licensed f g → (call : ℕ)
      → (pull_at f (after_calls call f)).answer ≡ (pull_at g (after_calls call g)).answer
  -- on a clean walk one copy in any two destinations that hold the file, and it is as good as it
  pub equal_copies : (f g : List ℕ) → Alike licensed f g
      → (end_of (walked unlimited f).outcome).outcome ≡ 0
      → (dest other : List ℕ) → length f ≤ length dest → length g ≤ length other
      → take (length f) (copy_of licensed f dest).dest
      ≡ take (length g) (copy_of licensed g other).dest
  pub copy_stands : (f : List ℕ) → (end_of (walked unlimited f).outcome).outcome ≡ 0
      → (dest : List ℕ) → length f ≤ length dest
      → Public licensed f (take (length f) (copy_of licensed f dest).dest)
