-- What a client or a server shows: its surfaces, the size of its output, and which surfaces stand where
-- on it ([MS-RDPEGFX], RDPGFX_DELETE_SURFACE_PDU, RDPGFX_SURFACE_TO_SURFACE_PDU, RDPGFX_CACHE_TO_SURFACE_PDU,
-- RDPGFX_RESET_GRAPHICS_PDU and RDPGFX_MAP_SURFACE_TO_OUTPUT_PDU). The order of the checks, that a copy reads
-- its rectangle once, and that maps outlive a reset are this project's own rules.
use Rattle.std.specs.Prelude.{refl, ℕ, ◌*◌, ◌≤◌, Bool, ◌&&◌, nat_eq, nat_le, IfSome, List, [], fold, Result, Ok}
use Rattle.std.specs.Coded.{Coded, code_by, coded×, coded_ℕ, coded_list}
use Rattle.std.specs.Map.{remove_entry}
use Rattle.std.specs.Option.{ok_or}
use Rattle.std.specs.FinMap as finmap
use Rattle.indexmap.specs.IndexMap.{insert_entry}
use Rattle.gfx_base.specs.declared.format.Format.{Format}
use Rattle.gfx_base.specs.declared.geometry.Point.{Point}
use Rattle.gfx_base.specs.declared.geometry.Rect.{Rect}
use Rattle.gfx_base.specs.declared.pixel.Pixel.{Pixel}
use Rattle.gfx_base.specs.declared.refusal.Refusal.{Refusal}
use Rattle.gfx_base.specs.declared.refusal.Refusal.TheVariants.{NoSurface, RectOutside, OutputSize}
use Rattle.gfx_base.specs.Geometry.{lies_in, moved, fit_all}
use Rattle.gfx_base.specs.Results.{◌>>=◌, check}
use Rattle.gfx_surface.specs.Picture.{Picture, copied, overlaid}
use Rattle.gfx_surface_map.specs.declared.place.TheConstants.{MOST_OUTPUT_SIDE}
use Rattle.gfx_surface_map.specs.declared.place.Output.{Output}
use Rattle.gfx_surface_map.specs.declared.place.Place.{Place}
use Rattle.gfx_surface_map.specs.Surfaces.{Surfaces, surfaces_code, created}

pub record Shown : Type 0 where
  pub surfaces : Surfaces
  -- its sides are 0 before the first reset
  pub output : Output
  -- the ids of the mapped surfaces and their places, in order of first mapping
  pub maps : List (ℕ × Place)

-- what is shown, and for how many pixels there is room to copy them
pub record SurfaceMap : Type 0 where
  pub shown : Shown
  pub room : ℕ

-- nothing is shown yet
abbrev pub nothing_shown : Shown
nothing_shown = record { surfaces = finmap.empty; output = record { width = 0; height = 0 }; maps = [] }

-- the picture of an id's surface is this one
abbrev pub with_picture : Shown → ℕ → Picture → Shown
with_picture shown id picture = record shown { surfaces = finmap.insert shown.surfaces id picture }

-- no surface has more pixels than there is room for
abbrev pub AllHaveRoom : SurfaceMap → Type 0
AllHaveRoom kept =
    (id : ℕ) → IfSome (finmap.get kept.shown.surfaces id) (λ picture. picture.width * picture.height ≤ kept.room)

-- a surface is made
unfoldable pub surface_made : Shown → ℕ → ℕ → ℕ → Format → Result Shown Refusal
surface_made shown id width height format = do
  surfaces ← created shown.surfaces id width height format
  Ok (record shown { surfaces = surfaces })

-- a surface is deleted, and its map with it
unfoldable pub surface_deleted : Shown → ℕ → Result Shown Refusal
surface_deleted shown id = do
  there ← check NoSurface (finmap.contains_key shown.surfaces id)
  Ok (record shown { surfaces = finmap.remove shown.surfaces id; maps = remove_entry (nat_eq id) shown.maps })

-- a picture with a rectangle of a source at these points, one after another
abbrev pub copied_to : Picture → Rect → List Point → Picture → Picture
copied_to source rect points picture = fold (λ done point. copied source rect point done) picture points

-- a rectangle is copied to points, from its surface as it was
unfoldable pub surface_copied : Shown → ℕ → ℕ → Rect → List Point → Result Shown Refusal
surface_copied shown from to rect points = do
  source ← ok_or (finmap.get shown.surfaces from) NoSurface
  target ← ok_or (finmap.get shown.surfaces to) NoSurface
  inside ← check RectOutside (lies_in source.width source.height rect)
  fits ← check RectOutside (fit_all target.width target.height rect points)
  Ok (with_picture shown to (copied_to source rect points target))

-- a picture with the pixels of a rectangle at these points, one after another
abbrev pub stamped : Rect → List Pixel → List Point → Picture → Picture
stamped rect pixels points picture = fold (λ done point. overlaid done (moved rect point) pixels) picture points

-- the pixels of a rectangle are put at points of a surface
unfoldable pub pixels_put : Shown → ℕ → Rect → List Pixel → List Point → Result Shown Refusal
pixels_put shown id rect pixels points = do
  picture ← ok_or (finmap.get shown.surfaces id) NoSurface
  fits ← check RectOutside (fit_all picture.width picture.height rect points)
  Ok (with_picture shown id (stamped rect pixels points picture))

-- the output may have a side of this length
abbrev pub is_output_side : ℕ → Bool
is_output_side side = nat_le 1 side && nat_le side MOST_OUTPUT_SIDE

-- the output gets these sides
unfoldable pub output_reset : Shown → ℕ → ℕ → Result Shown Refusal
output_reset shown width height = do
  sides ← check OutputSize (is_output_side width && is_output_side height)
  Ok (record shown { output = record { width = width; height = height } })

-- a surface is mapped: one that is mapped already keeps its turn
unfoldable pub output_mapped : Shown → ℕ → Place → Result Shown Refusal
output_mapped shown id place = do
  there ← check NoSurface (finmap.contains_key shown.surfaces id)
  Ok (record shown { maps = insert_entry nat_eq shown.maps id place })

-- how these are coded, as the value of a model has to be
abbrev pub place_code : Coded Place
place_code = code_by (ℕ × ℕ) (coded× coded_ℕ coded_ℕ) (λ p. (p.x, p.y)) (λ t. record { x = t.0; y = t.1 }) (λ _. refl)

abbrev pub output_code : Coded Output
output_code = code_by (ℕ × ℕ) (coded× coded_ℕ coded_ℕ) (λ o. (o.width, o.height)) (λ t. record { width = t.0; height = t.1 }) (λ _. refl)

abbrev pub shown_code : Coded Shown
shown_code =
    code_by (Surfaces × (Output × List (ℕ × Place))) (coded× surfaces_code (coded× output_code (coded_list (coded× coded_ℕ place_code))))
    (λ s. (s.surfaces, (s.output, s.maps)))
    (λ t. record { surfaces = t.0; output = t.1.0; maps = t.1.1 }) (λ _. refl)

abbrev pub kept_code : Coded SurfaceMap
kept_code =
    code_by (Shown × ℕ) (coded× shown_code coded_ℕ) (λ k. (k.shown, k.room)) (λ t. record { shown = t.0; room = t.1 }) (λ _. refl)
