-- The pixel that a step writes at a place, step by step ([MS-RDPEGFX] 3.3.5 leaves to the server what it draws; the steps are
-- this project's own rule), and when it stays: this project's own promise.
use Rattle.std.specs.Prelude.{◌≡◌, ◌+◌, ◌-◌, ◌*◌, ◌/◌, ◌≤◌, ◌==◌, ℕ, Bool, true, false, if◌then◌else◌, List, [], ◌∷◌, ◌++◌, filter, length, map, Option, Some, None, option_map}
use Rattle.std.specs.FinMap.{get}
use Rattle.std.specs.List.{AllByRecursion, list_any, slice_get, slice_index_or}
use Rattle.gfx_base.specs.declared.format.Format.{Format}
use Rattle.gfx_base.specs.declared.geometry.Point.{Point}
use Rattle.gfx_base.specs.declared.geometry.Rect.{Rect}
use Rattle.gfx_base.specs.declared.pixel.Pixel.{Pixel}
use Rattle.gfx_base.specs.Cells.{cell, meets}
use Rattle.gfx_base.specs.Colour.{colour_of, opaque}
use Rattle.gfx_base.specs.Geometry.{holds, moved, sized}
use Rattle.gfx_dwt.specs.declared.layout.Transform.TheVariants.{Plain}
use Rattle.gfx_bitmap_cache.specs.Slots.{Entry}
use Rattle.gfx_quant.specs.declared.setting.Setting.{Setting}
use Rattle.gfx_script.specs.declared.picture.Picture.{Picture as Source}
use Rattle.gfx_script.specs.declared.step.Kind.{Kind}
use Rattle.gfx_script.specs.declared.step.Step.{Step}
use Rattle.gfx_script.specs.declared.step.Step.TheVariants.{Surface, Delete, Fill, Copy, Show, Paint, Improve}
use Rattle.gfx_script.specs.declared.way.Way.{Way}
use Rattle.gfx_script.specs.declared.way.Way.TheVariants.{Uncompressed, ByLayer, InPasses, Video}
use Rattle.gfx_script.specs.Kinds.{KindedStep}
use Rattle.gfx_script.specs.Patterns.{pixel_of}
use Rattle.gfx_script.specs.Scripted.{Script}
use Rattle.gfx_script.specs.Ways.{is_in_passes, way_of}
use Rattle.gfx_script.specs.Writes.{Area, area}
use Rattle.gfx_slot_plan.specs.Plan.{slot_of}
use Rattle.gfx_surface.specs.Picture.{Picture, no_pixel, pixel_at, shade, zero_colour}
use Rattle.gfx_planner.specs.Bitmaps.{bitmap_in}
use Rattle.gfx_planner.specs.Wanted.{Wanted}
use Rattle.gfx_planner.specs.Want.{wanted_after}
use Rattle.gfx_laws.specs.Decoded.{IsDecoded}
use Rattle.gfx_laws.specs.VideoShown.{corner}

-- ---- where a step writes

-- the bitmap of a key, where the key has one
abbrev pub bitmap_of : Wanted → ℕ → Option Entry
bitmap_of wanted key = bitmap_in wanted.slots (slot_of key wanted.plan.places)

-- where a picture lies, its top left corner at a point
abbrev pub laid_at : Source → Point → Rect
laid_at source at = moved (sized source.width source.height) at

-- where a bitmap lies, its top left corner at each of some points
abbrev pub laid_at_each : List Point → Entry → List Rect
laid_at_each points kept = map (moved (sized kept.image.width kept.image.height)) points

-- the rectangles that a step writes: a surface that is made is written whole, and an improvement writes none, since it shows
-- more of what was painted before
abbrev pub writes_in : Script → Wanted → Step → Option Area
writes_in script wanted (Surface id width height format) = Some (area id (sized width height ∷ []))
writes_in script wanted (Fill id colour rects) = Some (area id rects)
writes_in script wanted (Copy from to rect points) = Some (area to (map (moved rect) points))
writes_in script wanted (Show key to points) = option_map (λ kept. area to (laid_at_each points kept)) (bitmap_of wanted key)
writes_in script wanted (Paint id number at named glyph) = option_map (λ source. area id (laid_at source at ∷ [])) (slice_get script.pictures number)
writes_in script wanted step = None

-- one of them has the pixel at column x of row y of a surface
abbrev pub HasPixel : Option Area → ℕ → ℕ → ℕ → Type 0
HasPixel None id x y = ⊥
HasPixel (Some written) id x y = (written.surface ≡ id) × (list_any (λ rect. holds rect x y) written.rects ≡ true)

-- ---- what it writes there

-- the last of these points at which a rectangle, taken there, has the pixel
pub record IsLastAt (rect : Rect) (points : List Point) (x y : ℕ) (point : Point) : Type 0 where
  pub before : List Point
  pub after : List Point
  pub cut : points ≡ before ++ (point ∷ after)
  pub has : holds (moved rect point) x y ≡ true
  pub none : AllByRecursion (λ later. holds (moved rect later) x y ≡ false) after

-- a copy's pixel: that of the rectangle which it copies, as it was before, taken to a point
pub record IsCopied (source : Option Picture) (rect : Rect) (points : List Point) (format : Format) (x y : ℕ) (pixel : Pixel) : Type 0 where
  pub picture : Picture
  pub there : source ≡ Some picture
  pub point : Point
  pub last : IsLastAt rect points x y point
  pub is : pixel ≡ shade format (pixel_at picture (x - point.x + rect.left) (y - point.y + rect.top))

-- a shown bitmap's pixel: its own, from the corner that is taken to a point
pub record IsShown (bitmap : Option Entry) (points : List Point) (format : Format) (x y : ℕ) (pixel : Pixel) : Type 0 where
  pub kept : Entry
  pub there : bitmap ≡ Some kept
  pub point : Point
  pub last : IsLastAt (sized kept.image.width kept.image.height) points x y point
  pub is : pixel ≡ shade format (slice_index_or kept.image.pixels ((y - point.y) * kept.image.width + (x - point.x)) no_pixel)

-- a painted picture's pixel, by the way in which it goes: uncompressed its own; by ClearCodec its blue, green and red, opaque;
-- as video the direct decoding of its squares, counted from its own corner; and in passes that of the surface's cells, once
-- it was improved as often as the setting lists levels
abbrev pub IsPainted : Setting → Way → Source → Point → Format → ℕ → ℕ → ℕ → Pixel → Type 0
IsPainted setting Uncompressed source at format improved x y pixel = pixel ≡ shade format (pixel_of source (x - at.x) (y - at.y))
IsPainted setting (ByLayer layer) source at format improved x y pixel = pixel ≡ opaque (colour_of (pixel_of source (x - at.x) (y - at.y)))
IsPainted setting Video source at format improved x y pixel = IsDecoded (record setting { transform = Plain }) source corner (x - at.x) (y - at.y) pixel
IsPainted setting InPasses source at format improved x y pixel = length setting.levels ≤ improved → IsDecoded setting source at x y pixel

-- so of the picture of a number, which goes as a kind
pub record IsOfPicture (script : Script) (kind : Option Kind) (number : ℕ) (at : Point) (format : Format) (improved x y : ℕ) (pixel : Pixel) : Type 0 where
  pub source : Source
  pub drawn : slice_get script.pictures number ≡ Some source
  pub named : Kind
  pub goes : kind ≡ Some named
  pub is : IsPainted script.setting (way_of script.thin named) source at format improved x y pixel

-- what a step writes, as the surface's format keeps it, by what was wanted before it and how often its surface was improved
-- since. Other steps write nothing
abbrev pub IsWritten : Script → Wanted → Option Kind → Step → Format → ℕ → ℕ → ℕ → Pixel → Type 0
IsWritten script wanted kind (Surface id width height new) format improved x y pixel = pixel ≡ zero_colour new
IsWritten script wanted kind (Fill id colour rects) format improved x y pixel = pixel ≡ shade format colour
IsWritten script wanted kind (Copy from to rect points) format improved x y pixel = IsCopied (get wanted.shown.surfaces from) rect points format x y pixel
IsWritten script wanted kind (Show key to points) format improved x y pixel = IsShown (bitmap_of wanted key) points format x y pixel
IsWritten script wanted kind (Paint id number at named glyph) format improved x y pixel = IsOfPicture script kind number at format improved x y pixel
IsWritten script wanted kind step format improved x y pixel = ⊥

-- ---- when it stays

-- none of an area's rectangles on a surface is found by a test
abbrev pub IsBeside : (Rect → Bool) → ℕ → Option Area → Type 0
IsBeside test id None = Unit {0}
IsBeside test id (Some written) = written.surface ≡ id → AllByRecursion (λ rect. test rect ≡ false) written.rects

-- a step leaves what such rectangles would end: it writes none of them, and doesn't delete the surface
abbrev pub Spares : (Rect → Bool) → ℕ → Script → Wanted → Step → Type 0
Spares test id script wanted (Delete other) = other ≡ id → ⊥
Spares test id script wanted step = IsBeside test id (writes_in script wanted step)

-- so do these steps, one after another
abbrev pub AllSpare : (Rect → Bool) → ℕ → Script → Wanted → List KindedStep → Type 0
AllSpare test id script wanted [] = Unit {0}
AllSpare test id script wanted (one ∷ steps) = Spares test id script wanted one.step × AllSpare test id script (wanted_after script wanted one) steps

-- a picture goes in passes; one that goes in no way doesn't
abbrev pub goes_in_passes : Option Way → Bool
goes_in_passes None = false
goes_in_passes (Some way) = is_in_passes way

-- which later rectangle ends what a step wrote at a pixel: one that has the pixel, and where the step painted in passes one
-- that meets the pixel's cell
abbrev pub ends_it : Bool → ℕ → ℕ → Rect → Bool
ends_it in_passes x y rect = if in_passes then meets rect (cell (x / 64) (y / 64)) else holds rect x y

-- ---- improvements

-- a step improves a surface
abbrev pub improves : ℕ → Step → Bool
improves id (Improve other) = other == id
improves id step = false

-- how many of these steps do
abbrev pub improvements : ℕ → List KindedStep → ℕ
improvements id steps = length (filter (λ (one : KindedStep). improves id one.step) steps)
