-- How a surface keeps its picture.
use Rattle.std.specs.Prelude.{◌≡◌, length}
use Rattle.gfx_surface.specs.declared.surface.Surface.TheInside.{Inside}
use Rattle.gfx_surface.specs.Cells.{places, shown}
use Rattle.gfx_surface.specs.Picture.{Picture, IsPicture}

-- the picture of the fields
abbrev pub picture_of : Inside → Picture
picture_of a = record { width = a.width; height = a.height; format = a.format; pixels = shown a.width a.height a.cells.items }

-- the fields show a picture, and each cell has its places
pub record IsSound (a : Inside) : Type 0 where
  pub shape : IsPicture (picture_of a)
  pub full : length a.cells.items ≡ places a.width a.height
