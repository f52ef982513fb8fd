-- A sound act whose terms stay low fits.
use Rattle.std.proofs.Common.{List, ◌∷◌, arith}
use Rattle.st_core.specs.Core.{Name, Act}
use Rattle.st_core.specs.Core as c
use Rattle.st_core.specs.Memory.{Shape}
use Rattle.st_core.specs.Fits.{ActFits, IsSound, StaysLow}

pub fits_of : (shape : Shape) (loops : List Name) (a : Act) → IsSound shape loops a → StaysLow a → ActFits shape loops a
unfolding IsSound StaysLow ActFits
fits_of shape loops c.Skip s l = tt
fits_of shape loops (c.Then a b) s l = (fits_of shape loops a s.0 l.0, fits_of shape loops b s.1 l.1)
fits_of shape loops (c.Assign n k kind t) s l = (s.0, s.1, (s.2, omega (arith, l)))
fits_of shape loops (c.AssignElement n kind low high t u) s l = (s.0, s.1, (s.2, omega (arith, l.0)), (s.3, omega (arith, l.1)))
fits_of shape loops (c.Invoke kind n) s l = s
fits_of shape loops (c.If t a b) s l = ((s.0, omega (arith, l.0)), fits_of shape loops a s.1 l.1, fits_of shape loops b s.2 l.2)
fits_of shape loops (c.For n kind first last step a) s l = (s.0, s.1, fits_of shape (n ∷ loops) a s.2 l)
fits_of shape loops c.Exit s l = s
fits_of shape loops c.Return s l = tt
