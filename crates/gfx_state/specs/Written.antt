-- Which rectangles of a surface a message writes, by the state before it. That a progressive message writes the
-- rectangles of its regions follows from [MS-RDPEGFX] 3.2.8; the rest is this project's own rule.
use Rattle.std.specs.Prelude.{ℕ, ◌+◌, min, Bool, true, false, ◌==◌, List, [], ◌∷◌, map, Option, Some, None, Result, Ok, Err, if◌then◌else◌}
use Rattle.std.specs.FinMap as finmap
use Rattle.std.specs.List.{flat_map}
use Rattle.std.specs.Option.{option_map}
use Rattle.gfx_base.specs.Geometry.{moved, sized}
use Rattle.gfx_base.specs.declared.geometry.Rect.{Rect}
use Rattle.gfx_base.specs.declared.refusal.Refusal.{Refusal}
use Rattle.gfx_bitmap_cache.specs.Slots.{Image}
use Rattle.gfx_bitmap_cache.specs.Slots.{shown as image_at}
use Rattle.gfx_pdu.specs.declared.pdu.Pdu.{Pdu}
use Rattle.gfx_pdu.specs.declared.pdu.Pdu.TheVariants.{WireToSurface1, WireToSurface2, SolidFill, SurfaceToSurface, CacheToSurface, CreateSurface, DeleteSurface, ResetGraphics, MapSurfaceToOutput}
use Rattle.gfx_prog_block.specs.declared.area.Area.{Area}
use Rattle.gfx_prog_block.specs.declared.block.Block.{Block}
use Rattle.gfx_prog_block.specs.declared.block.Block.TheVariants.{Region}
use Rattle.gfx_prog_block.specs.Reading.{blocks_of}
use Rattle.gfx_surface.specs.Picture.{Picture}
use Rattle.gfx_state.specs.State.{State}

-- the rectangle of a slot's bitmap, from the top left
abbrev pub image_rect : Result Image Refusal → Rect
image_rect (Ok image) = sized image.width image.height
image_rect (Err r) = sized 0 0

-- a rectangle of a region, by its corners
abbrev pub rect_of_area : Area → Rect
rect_of_area area = record { left = area.x; top = area.y; right = area.x + area.width; bottom = area.y + area.height }

-- the rectangles of a block: only a region has some
abbrev pub areas_in : Block → List Area
areas_in (Region region) = region.rects
areas_in block = []

-- the rectangles of blocks that are read
abbrev pub areas_of : Result (List Block) Refusal → List Area
areas_of (Ok all) = flat_map areas_in all
areas_of (Err r) = []

-- the rectangles of the regions of a message
abbrev pub areas_by : Pdu → List Area
areas_by (WireToSurface2 surface codec context format payload) = areas_of (blocks_of payload)
areas_by other = []

-- the surface that a message draws on, and where; regions may reach over its sides
abbrev pub drawn_by : State → Pdu → Option (ℕ × List Rect)
drawn_by state (WireToSurface1 surface codec format rect payload) = Some (surface, rect ∷ [])
drawn_by state (WireToSurface2 surface codec context format payload) = Some (surface, map rect_of_area (areas_of (blocks_of payload)))
drawn_by state (SolidFill surface colour rects) = Some (surface, rects)
drawn_by state (SurfaceToSurface source destination rect points) = Some (destination, map (moved rect) points)
drawn_by state (CacheToSurface slot surface points) = Some (surface, map (moved (image_rect (image_at state.cache slot))) points)
drawn_by state other = None

-- what of a rectangle lies in an area of these sides
abbrev pub clipped : ℕ → ℕ → Rect → Rect
clipped width height rect = record {
  left = min rect.left width;
  top = min rect.top height;
  right = min rect.right width;
  bottom = min rect.bottom height;
}

-- what of these rectangles lies on the surface, where there is one
unfoldable pub written_on : State → Option (ℕ × List Rect) → Option (ℕ × List Rect)
written_on state None = None
written_on state (Some (id, rects)) =
    option_map (λ picture. (id, map (clipped picture.width picture.height) rects)) (finmap.get state.shown.surfaces id)

-- the surface that a message writes, if it writes one, and which rectangles of it
abbrev pub written : State → Pdu → Option (ℕ × List Rect)
written state pdu = written_on state (drawn_by state pdu)

-- a surface's own of these rectangles
abbrev pub own_rects : ℕ → Option (ℕ × List Rect) → List Rect
own_rects id None = []
own_rects id (Some (surface, rects)) = if id == surface then rects else []

-- anything may show after a message: a surface was made, deleted or mapped, or the output got other sides
abbrev pub changes_all : Pdu → Bool
changes_all (CreateSurface id width height format) = true
changes_all (DeleteSurface id) = true
changes_all (ResetGraphics width height monitors) = true
changes_all (MapSurfaceToOutput id reserved x y) = true
changes_all other = false
