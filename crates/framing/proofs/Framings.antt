-- A read with each field set says which read it is.
use mathlib.Core.Path.{◌≡◌, refl, subst}
use Rattle.framing.specs.Framing.{framed}
use Rattle.framing.specs.declared.read.How.{How}
use Rattle.framing.specs.declared.read.How.TheVariants as how
use Rattle.framing.specs.declared.read.Framed.{Framed}
use Rattle.framing.specs.Read.{Read}
use Rattle.framing.specs.Read.{Section, Over, Refused}

abbrev pub Is : Read → Framed → How → Type 0
Is v f how.Whole = Section f.section f.next ≡ v
Is v f how.Over = Over ≡ v
Is v f (how.Refused fault) = Refused fault f.section.offset ≡ v

is : (v : Read) → Is v (framed v) (framed v).how
unfolding framed
is (Section s next) = refl
is Over = refl
is (Refused fault offset) = refl

pub known : (v : Read) (f : Framed) (h : How) → f ≡ framed v → f.how ≡ h → Is v f h
known v f h e g = subst (Is v f) g (rw e (is v))
