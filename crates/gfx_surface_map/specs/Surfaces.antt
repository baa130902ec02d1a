-- The surfaces of a client or of a server, by their ids ([MS-RDPEGFX], RDPGFX_CREATE_SURFACE_PDU and
-- RDPGFX_SOLIDFILL_PDU). The limits and the order of the checks are this project's own rules.
use Rattle.std.specs.Prelude.{◌≡◌, true, false, ℕ, ◌+◌, ◌*◌, Bool, IsTrue, All, ◌&&◌, not, nat_le, nat_lt, List, fold, Result, Ok}
use Rattle.std.specs.Coded.{Coded, coded_ℕ}
use Rattle.std.specs.List.{sum_by}
use Rattle.std.specs.Ordering.{nat_cmp}
use Rattle.std.specs.FinMap as finmap
use Rattle.std.specs.FinMap.{FinMap}
use Rattle.gfx_base.specs.declared.format.Format.{Format}
use Rattle.gfx_base.specs.declared.geometry.Rect.{Rect}
use Rattle.gfx_base.specs.declared.pixel.Pixel.{Pixel}
use Rattle.gfx_base.specs.declared.refusal.Refusal.{Refusal}
use Rattle.gfx_base.specs.declared.refusal.Refusal.TheVariants.{SurfaceExists, SurfaceSize, SurfaceBudget}
use Rattle.gfx_base.specs.Cells.{cells_along}
use Rattle.gfx_base.specs.Geometry.{lies_in}
use Rattle.gfx_base.specs.Results.{◌>>=◌, check}
use Rattle.gfx_surface.specs.declared.TheConstants.{MOST_SIDE}
use Rattle.gfx_surface.specs.Codes.{picture_code}
use Rattle.gfx_surface.specs.Picture.{Picture, blank, filled}
use Rattle.gfx_surface_map.specs.declared.TheConstants.{MOST_SURFACES, MOST_CELLS}

-- pictures by their ids
abbrev pub Surfaces : Type 0
Surfaces = FinMap nat_cmp Picture

-- how they are coded, as the value of a model has to be
abbrev pub surfaces_code : Coded Surfaces
surfaces_code = finmap.code coded_ℕ picture_code

-- how many cells a surface of these sides has
abbrev pub cells : ℕ → ℕ → ℕ
cells width height = cells_along width * cells_along height

-- how many cells a picture has
abbrev pub cells_of_picture : Picture → ℕ
cells_of_picture picture = cells picture.width picture.height

-- how many cells all surfaces have together
abbrev pub cells_of : Surfaces → ℕ
cells_of surfaces = sum_by cells_of_picture (finmap.values surfaces)

-- a surface may have a side of this length
abbrev pub is_side : ℕ → Bool
is_side side = nat_le 1 side && nat_le side MOST_SIDE

-- a surface may have these sides
abbrev pub is_size : ℕ → ℕ → Bool
is_size width height = is_side width && is_side height

-- one more surface of these sides is within both limits
abbrev pub fits_beside : Surfaces → ℕ → ℕ → Bool
fits_beside surfaces width height =
    nat_lt (finmap.len surfaces) MOST_SURFACES && nat_le (cells_of surfaces + cells width height) MOST_CELLS

-- the surfaces after one more is made, or the first reason against it
unfoldable pub created : Surfaces → ℕ → ℕ → ℕ → Format → Result Surfaces Refusal
created surfaces id width height format = do
  fresh ← check SurfaceExists (not (finmap.contains_key surfaces id))
  sides ← check SurfaceSize (is_size width height)
  room ← check SurfaceBudget (fits_beside surfaces width height)
  Ok (finmap.insert surfaces id (blank width height format))

-- nothing speaks against one more surface of these sides
pub record MayMake (surfaces : Surfaces) (id width height : ℕ) : Type 0 where
  pub fresh : finmap.contains_key surfaces id ≡ false
  pub sides : is_size width height ≡ true
  pub room : fits_beside surfaces width height ≡ true

-- each rectangle lies on the picture
abbrev pub AllLieIn : Picture → List Rect → Type 0
AllLieIn picture rects = All (λ rect. IsTrue (lies_in picture.width picture.height rect)) rects

-- a picture with these rectangles in this colour, one after another
abbrev pub painted : Picture → List Rect → Pixel → Picture
painted picture rects colour = fold (λ done rect. filled done rect colour) picture rects
