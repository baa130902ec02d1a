-- What each step needs of the steps before it: this project's own rule. The limits are those of the
-- surfaces and bitmaps that the steps make.
use Rattle.std.specs.Prelude.{ℕ, ◌+◌, ◌-◌, ◌*◌, Bool, true, false, Option, Some, None, ◌&&◌, not, nat_le, nat_lt, map, List, [], ◌∷◌, Result, Ok}
use Rattle.std.specs.List.{list_all, slice_get}
use Rattle.std.specs.Option.{ok_or}
use Rattle.std.specs.Ordering.{nat_cmp}
use Rattle.std.specs.FinMap as finmap
use Rattle.std.specs.FinMap.{FinMap}
use Rattle.gfx_base.specs.declared.geometry.Point.{Point}
use Rattle.gfx_base.specs.declared.geometry.Rect.{Rect}
use Rattle.gfx_base.specs.Geometry.{lies_in, width_of, height_of, moved, fit_all, sized}
use Rattle.gfx_base.specs.Results.{◌>>=◌, check}
use Rattle.gfx_surface_map.specs.declared.TheConstants.{MOST_SURFACES, MOST_CELLS}
use Rattle.gfx_surface_map.specs.Surfaces.{cells}
pub use Rattle.gfx_script.specs.declared.held.Sides.{Sides}
use Rattle.gfx_script.specs.declared.error.ScriptKind.{ScriptKind}
use Rattle.gfx_script.specs.declared.error.ScriptKind.TheVariants.{Name, SurfacePresent, CellBudget, SurfaceAbsent, Outside, Glyph}
use Rattle.gfx_script.specs.declared.TheConstants.{MOST_GLYPH_AREA}
use Rattle.gfx_script.specs.declared.picture.Picture.{Picture}
use Rattle.gfx_script.specs.declared.step.Kind.{Kind}
use Rattle.gfx_script.specs.declared.step.Step.{Step}
use Rattle.gfx_script.specs.declared.step.Step.TheVariants.{Surface, Delete, Reset, Map, Fill, Copy, Keep, Show, Forget, Paint, Improve, Frame}
use Rattle.gfx_script.specs.Stock.{Stock, no_bitmaps, bitmap_kept, bitmap_sides, bitmap_shown, bitmap_forgotten}
use Rattle.gfx_script.specs.Ways.{is_stream, way_of}

-- what the steps so far have left, as far as later ones are checked against it
pub record Held : Type 0 where
  -- the sides of the pictures, which no step changes
  pub pictures : List Sides
  -- the sides of the surfaces, by their ids
  pub sides : FinMap nat_cmp Sides
  -- how many cells the surfaces have together
  pub cells : ℕ
  -- the bitmaps that are kept
  pub stock : Stock

-- the sides of pictures
abbrev pub sides_of_all : List Picture → List Sides
sides_of_all pictures = map (λ picture. record { width = picture.width; height = picture.height }) pictures

-- before the first step, with pictures of these sides and these bitmaps
abbrev pub held_from : List Sides → Stock → Held
held_from pictures stock = record { pictures = pictures; sides = finmap.empty; cells = 0; stock = stock }

-- the same with no bitmap, under the small limits on bitmaps or the large ones
abbrev pub held_first : List Sides → Bool → Held
held_first pictures small = held_from pictures (no_bitmaps small)

-- one more surface of these sides is within both limits
abbrev pub may_add : Held → ℕ → ℕ → Bool
may_add held width height =
    nat_lt (finmap.len held.sides) MOST_SURFACES && nat_le (held.cells + cells width height) MOST_CELLS

-- one more surface
abbrev pub with_surface : Held → ℕ → ℕ → ℕ → Held
with_surface held id width height = record held {
  sides = finmap.insert held.sides id record { width = width; height = height };
  cells = held.cells + cells width height;
}

-- one surface less, which had these sides
abbrev pub without_surface : Held → ℕ → Sides → Held
without_surface held id sides = record held {
  sides = finmap.remove held.sides id;
  cells = held.cells - cells sides.width sides.height;
}

-- `surface`
unfoldable pub surface_made : Held → ℕ → ℕ → ℕ → Result Held ScriptKind
surface_made held id width height = do
  fresh ← check SurfacePresent (not (finmap.contains_key held.sides id))
  room ← check CellBudget (may_add held width height)
  Ok (with_surface held id width height)

-- `delete`
unfoldable pub surface_deleted : Held → ℕ → Result Held ScriptKind
surface_deleted held id = do
  sides ← ok_or (finmap.get held.sides id) SurfaceAbsent
  Ok (without_surface held id sides)

-- `map` and `improve`
unfoldable pub surface_mapped : Held → ℕ → Result Held ScriptKind
surface_mapped held id = do
  there ← check SurfaceAbsent (finmap.contains_key held.sides id)
  Ok held

-- `fill`
unfoldable pub rects_filled : Held → ℕ → List Rect → Result Held ScriptKind
rects_filled held id rects = do
  sides ← ok_or (finmap.get held.sides id) SurfaceAbsent
  inside ← check Outside (list_all (lies_in sides.width sides.height) rects)
  Ok held

-- `copy`
unfoldable pub rect_copied : Held → ℕ → ℕ → Rect → List Point → Result Held ScriptKind
rect_copied held from to rect points = do
  source ← ok_or (finmap.get held.sides from) SurfaceAbsent
  target ← ok_or (finmap.get held.sides to) SurfaceAbsent
  inside ← check Outside (lies_in source.width source.height rect)
  fits ← check Outside (fit_all target.width target.height rect points)
  Ok held

-- `keep`
unfoldable pub rect_kept : Held → ℕ → ℕ → Rect → Result Held ScriptKind
rect_kept held id key rect = do
  sides ← ok_or (finmap.get held.sides id) SurfaceAbsent
  inside ← check Outside (lies_in sides.width sides.height rect)
  stock ← bitmap_kept held.stock key (width_of rect) (height_of rect)
  Ok (record held { stock = stock })

-- `show`
unfoldable pub key_shown : Held → ℕ → ℕ → List Point → Result Held ScriptKind
key_shown held key to points = do
  bitmap ← bitmap_sides held.stock key
  target ← ok_or (finmap.get held.sides to) SurfaceAbsent
  fits ← check Outside (fit_all target.width target.height (sized bitmap.width bitmap.height) points)
  Ok (record held { stock = bitmap_shown held.stock key })

-- `forget`
unfoldable pub key_forgotten : Held → ℕ → Result Held ScriptKind
key_forgotten held key = do
  stock ← bitmap_forgotten held.stock key
  Ok (record held { stock = stock })

-- a picture of these sides may be kept as a glyph: the paint names a layer of ClearCodec, and the pixels are
-- few ([MS-RDPEGFX] 2.2.4.1)
abbrev pub takes_glyph : Option Kind → Sides → Bool
takes_glyph None drawn = false
takes_glyph (Some kind) drawn = is_stream (way_of false kind) && nat_le (drawn.width * drawn.height) MOST_GLYPH_AREA

-- the glyph of a paint, if it has one, is kept of such a picture
abbrev pub is_glyph : Option Kind → Sides → Option ℕ → Bool
is_glyph kind drawn None = true
is_glyph kind drawn (Some index) = takes_glyph kind drawn

-- `paint`
unfoldable pub picture_painted : Held → ℕ → ℕ → Point → Option Kind → Option ℕ → Result Held ScriptKind
picture_painted held id picture at kind glyph = do
  sides ← ok_or (finmap.get held.sides id) SurfaceAbsent
  drawn ← ok_or (slice_get held.pictures picture) Name
  inside ← check Outside (lies_in sides.width sides.height (moved (sized drawn.width drawn.height) at))
  small ← check Glyph (is_glyph kind drawn glyph)
  Ok held

-- what is held after a step, or what is wrong with it
unfoldable pub held_after : Held → Step → Result Held ScriptKind
held_after held (Surface id width height format) = surface_made held id width height
held_after held (Delete id) = surface_deleted held id
held_after held (Reset width height) = Ok held
held_after held (Map id x y) = surface_mapped held id
held_after held (Fill id colour rects) = rects_filled held id rects
held_after held (Copy from to rect points) = rect_copied held from to rect points
held_after held (Keep id key rect) = rect_kept held id key rect
held_after held (Show key to points) = key_shown held key to points
held_after held (Forget key) = key_forgotten held key
held_after held (Paint id picture at kind glyph) = picture_painted held id picture at kind glyph
held_after held (Improve id) = surface_mapped held id
held_after held Frame = Ok held

-- what is held after these steps, one after another
unfoldable pub held_through : Held → List Step → Result Held ScriptKind
held_through held [] = Ok held
held_through held (step ∷ steps) = do
  after ← held_after held step
  held_through after steps
