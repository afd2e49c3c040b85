-- Where a message starts (02, Ticket 11): a section 0 is read there and no other, so no file is
-- refused with 11 between messages, and the step need not ask. A bare list of numbers can start
-- with any, and keeps the refusal. The statements are proved in proofs/Starts.antt, under their
-- names in small letters.
use Rattle.std.specs.Prelude.{ℕ, ◌-◌, ◌≤◌, ◌≡◌, List, ◌∷◌}
use Rattle.octets.specs.Words.{Not}
use Rattle.framing.specs.declared.read.Section.{Section}
use Rattle.order.specs.Order.{order_of}
use Rattle.order.specs.declared.Order.TheVariants.{BetweenMessages}
use Rattle.index.specs.Numbers.{end_of}
use Rattle.index.specs.declared.bounds.Room.{Room}
use Rattle.index.specs.Walk.{walked}
use Rattle.walk_laws.specs.ExactlyWhen.{WellRead, Stand, Comes}
use Rattle.walk_laws.specs.Laws.{number_at}
use Rattle.walk_laws.specs.OneStep.{order_end, order_end_of}

-- wherever a walk comes to between messages, in any file and with any tables, the section that is
-- read is a section 0
abbrev pub MessagesStartWith0 : Type 0
MessagesStartWith0 =
    (room : Room) (file : List ℕ) (b : Stand) (s : Section) (rest' : ℕ)
    → Comes room file b → b.order ≡ BetweenMessages → WellRead file b.at b.rest s rest'
    → s.number ≡ 0

-- so 11 is given inside a message alone: a section is told before it, and that is no section 8
abbrev pub MisplacedIsInside : Type 0
MisplacedIsInside =
    (room : Room) (file : List ℕ) (p o d : ℕ)
    → end_of (walked room file).outcome ≡ record { outcome = 11; place = p; offset = o; detail = d }
    → (1 ≤ p) × Not (number_at (walked room file).sections (p - 1) ≡ 8)

-- a bare list that starts with another number than 0 is refused with 11, at place 0
abbrev pub BareListsKeepIt : Type 0
BareListsKeepIt =
    (number : ℕ) (more : List ℕ) → Not (number ≡ 0)
    → order_end_of (number ∷ more) (order_of (number ∷ more)) ≡ order_end 11 0 number

-- what the page cites
pub record WhereMessagesStart : Type 0 where
  pub with_0 : MessagesStartWith0
  pub misplaced_inside : MisplacedIsInside
  pub bare_lists : BareListsKeepIt
