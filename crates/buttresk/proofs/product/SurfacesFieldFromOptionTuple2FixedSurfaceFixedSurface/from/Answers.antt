-- `from` of `SurfacesField` meets its contract: there are both surfaces, or there is none.
use Rattle.buttresk.specs.Product.{surfaces_field}
use Rattle.buttresk.proofs.product.SurfacesFieldFromOptionTuple2FixedSurfaceFixedSurface.from.Goals as goal

pub returns-in-Some : goal.returns-in-Some
unfolding surfaces_field
returns-in-Some c = rw (c.from-in-Some.ensures, c.from.ensures, c.in-Some.is)

pub returns-in-None : goal.returns-in-None
unfolding surfaces_field
returns-in-None c = rw c.in-None.is
