-- The messages of steps and frames fit their channel messages.
use Rattle.std.proofs.Common.{◌≡◌, ◌+◌, ℕ, ◌≤◌, ◌<◌, ◌^◌, List, [], ◌∷◌, length, arith}
use Rattle.std.specs.List.{AllByRecursion}
use Rattle.gfx_base.specs.Geometry.{IsRect, IsPoint}
use Rattle.gfx_base.specs.declared.geometry.Point.{Point}
use Rattle.gfx_base.specs.declared.geometry.Rect.{Rect}
use Rattle.gfx_base.specs.declared.pixel.Pixel.{Pixel}
use Rattle.gfx_pdu.specs.declared.pdu.Pdu.{Pdu}
use Rattle.gfx_pdu.specs.declared.pdu.Pdu.TheVariants.{WireToSurface1, SolidFill, SurfaceToSurface, SurfaceToCache, CacheToSurface, EvictCacheEntry, CreateSurface, DeleteSurface, StartFrame, EndFrame, ResetGraphics, MapSurfaceToOutput}
use Rattle.gfx_pdu.specs.declared.pdu.Monitor.{Monitor}
use Rattle.gfx_pdu.specs.Spelling.{size, CountsFit, NumbersFit, IsMonitor}
use Rattle.gfx_pdu.proofs.Sizes.{size_of_solid_fill, size_of_surface_to_surface, size_of_cache_to_surface, size_of_reset_graphics}
use Rattle.gfx_pdu.proofs.Laws.{length-spelling}
use Rattle.gfx_segment.specs.declared.profile.TheConstants.{MOST_PAYLOAD}
use Rattle.gfx_script.specs.declared.TheConstants.{MOST_RECTS}
use Rattle.gfx_state.specs.Sending.{IsCarried}

-- a message whose counts and numbers fit, and that is short
pub carried : (pdu : Pdu) → NumbersFit pdu → CountsFit pdu → size pdu ≤ MOST_PAYLOAD → IsCarried pdu
carried pdu numbers counts short = record {
  fits = record { numbers = numbers; spellable = record { counts = counts; short = omega arith } };
  short = omega (arith, length-spelling pdu);
}

create_size : (id width height format : ℕ) → size (CreateSurface id width height format) ≤ MOST_PAYLOAD
unfolding size
create_size id width height format = omega arith

start_size : (frame : ℕ) → size (StartFrame 0 frame) ≤ MOST_PAYLOAD
unfolding size
start_size frame = omega arith

end_size : (frame : ℕ) → size (EndFrame frame) ≤ MOST_PAYLOAD
unfolding size
end_size frame = omega arith

pub carried-create : (id width height format : ℕ) → id < 2 ^ 16 → width < 2 ^ 16 → height < 2 ^ 16 → IsCarried (CreateSurface id width height format)
carried-create id width height format i w h = carried (CreateSurface id width height format) (i, w, h) tt (create_size id width height format)

pub carried-fill : (surface : ℕ) (colour : Pixel) (rects : List Rect) → surface < 2 ^ 16 → AllByRecursion IsRect rects → length rects ≤ MOST_RECTS → IsCarried (SolidFill surface colour rects)
carried-fill surface colour rects s all few =
    carried (SolidFill surface colour rects) (s, all) (omega arith) (omega (arith, size_of_solid_fill surface colour rects))

delete_size : (id : ℕ) → size (DeleteSurface id) ≤ MOST_PAYLOAD
unfolding size
delete_size id = omega arith

pub carried-delete : (id : ℕ) → id < 2 ^ 16 → IsCarried (DeleteSurface id)
carried-delete id i = carried (DeleteSurface id) i tt (delete_size id)

map_size : (id x y : ℕ) → size (MapSurfaceToOutput id 0 x y) ≤ MOST_PAYLOAD
unfolding size
map_size id x y = omega arith

pub carried-map : (id x y : ℕ) → id < 2 ^ 16 → x < 2 ^ 32 → y < 2 ^ 32 → IsCarried (MapSurfaceToOutput id 0 x y)
carried-map id x y i h v = carried (MapSurfaceToOutput id 0 x y) (i, omega arith, h, v) tt (map_size id x y)

pub carried-reset : (width height : ℕ) (monitor : Monitor) → width < 2 ^ 32 → height < 2 ^ 32 → IsMonitor monitor → IsCarried (ResetGraphics width height (monitor ∷ []))
carried-reset width height monitor w h m =
    let few : length (monitor ∷ []) ≤ 16 = omega arith in
    carried (ResetGraphics width height (monitor ∷ [])) (w, h, (m, tt)) few (omega (arith, size_of_reset_graphics width height (monitor ∷ []) few))

pub carried-copy : (from to : ℕ) (rect : Rect) (points : List Point) → from < 2 ^ 16 → to < 2 ^ 16 → IsRect rect → AllByRecursion IsPoint points → length points ≤ MOST_RECTS → IsCarried (SurfaceToSurface from to rect points)
carried-copy from to rect points f t r all few =
    carried (SurfaceToSurface from to rect points) (f, t, r, all) (omega arith) (omega (arith, size_of_surface_to_surface from to rect points))

wire_size : (surface codec format : ℕ) (rect : Rect) (payload : List ℕ) → size (WireToSurface1 surface codec format rect payload) ≡ 25 + length payload
unfolding size
wire_size surface codec format rect payload = omega arith

pub carried-wire : (surface codec format : ℕ) (rect : Rect) (payload : List ℕ) → surface < 2 ^ 16 → codec < 2 ^ 16 → IsRect rect → length payload + 25 ≤ MOST_PAYLOAD → IsCarried (WireToSurface1 surface codec format rect payload)
carried-wire surface codec format rect payload s c r short =
    carried (WireToSurface1 surface codec format rect payload) (s, c, r) tt (omega (arith, short, wire_size surface codec format rect payload))

store_size : (surface key slot : ℕ) (rect : Rect) → size (SurfaceToCache surface key slot rect) ≤ MOST_PAYLOAD
unfolding size
store_size surface key slot rect = omega arith

pub carried-store : (surface key slot : ℕ) (rect : Rect) → surface < 2 ^ 16 → key < 2 ^ 64 → slot < 2 ^ 16 → IsRect rect → IsCarried (SurfaceToCache surface key slot rect)
carried-store surface key slot rect s k l r = carried (SurfaceToCache surface key slot rect) (s, k, l, r) tt (store_size surface key slot rect)

pub carried-show : (slot to : ℕ) (points : List Point) → slot < 2 ^ 16 → to < 2 ^ 16 → AllByRecursion IsPoint points → length points ≤ MOST_RECTS → IsCarried (CacheToSurface slot to points)
carried-show slot to points s t all few =
    carried (CacheToSurface slot to points) (s, t, all) (omega arith) (omega (arith, size_of_cache_to_surface slot to points))

evict_size : (slot : ℕ) → size (EvictCacheEntry slot) ≤ MOST_PAYLOAD
unfolding size
evict_size slot = omega arith

pub carried-evict : (slot : ℕ) → slot < 2 ^ 16 → IsCarried (EvictCacheEntry slot)
carried-evict slot s = carried (EvictCacheEntry slot) s tt (evict_size slot)

pub carried-start : (frame : ℕ) → frame < 2 ^ 32 → IsCarried (StartFrame 0 frame)
carried-start frame f = carried (StartFrame 0 frame) (omega arith, f) tt (start_size frame)

pub carried-end : (frame : ℕ) → frame < 2 ^ 32 → IsCarried (EndFrame frame)
carried-end frame f = carried (EndFrame frame) f tt (end_size frame)
