-- `first_surface` meets its contract: by whether there are surfaces.
use Rattle.inventory.specs.Inventory.{first_surface}
use Rattle.inventory.proofs.memory.first_surface.Goals as goal

pub returns-in-Some : goal.returns-in-Some
unfolding first_surface
returns-in-Some c = rw c.in-Some.is

pub returns-in-None : goal.returns-in-None
unfolding first_surface
returns-in-None c = rw c.in-None.is
