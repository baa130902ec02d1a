-- What is kept after one of the surfaces was lent for writing.
use Rattle.std.specs.Prelude.{ℕ, Option}
use Rattle.std.specs.Borrow.{LendsIf, MutBor, Fml}
use Rattle.std.specs.FinMap.{insert}
use Rattle.gfx_surface.specs.Picture.{Picture}
use Rattle.gfx_surface_map.specs.Surfaces.{Surfaces}
use Rattle.gfx_surface_map.specs.Shown.{SurfaceMap, with_picture}
use Rattle.gfx_surface.specs.contracts.surface.Surface.{the_row as surface_row}
use Rattle.gfx_surface_map.specs.contracts.map.SurfaceMap.{the_row}
use Rattle.gfx_surface_map.specs.contracts.table.Table.{the_row as table_row}

-- the id's surface ends as the last picture behind r, and all else is as it was
abbrev pub LendsFrom : MutBor Surfaces → ℕ → Option (MutBor Picture) → Fml
LendsFrom s id r = LendsIf table_row surface_row s r (λ w. insert s.now id w) s.now

-- the same, and so are the output and the room
abbrev pub LendsSurface : MutBor SurfaceMap → ℕ → Option (MutBor Picture) → Fml
LendsSurface s id r = LendsIf the_row surface_row s r (λ w. record s.now { shown = with_picture s.now.shown id w }) s.now
