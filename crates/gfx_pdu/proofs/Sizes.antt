-- How many bytes messages have.
use Rattle.std.proofs.Common.{◌≡◌, ℕ, ◌+◌, ◌-◌, ◌*◌, ◌≤◌, List, length, refl, arith}
use Rattle.std.proofs.lemmas.List.{length-replicate}
use Rattle.gfx_base.specs.declared.geometry.Point.{Point}
use Rattle.gfx_base.specs.declared.geometry.Rect.{Rect}
use Rattle.gfx_base.specs.declared.pixel.Pixel.{Pixel}
use Rattle.gfx_layout.specs.Layout.{measured}
use Rattle.gfx_pdu.specs.declared.pdu.Monitor.{Monitor}
use Rattle.gfx_pdu.specs.declared.pdu.Pdu.{Pdu}
use Rattle.gfx_pdu.specs.declared.pdu.Pdu.TheVariants as pdus
use Rattle.gfx_pdu.specs.Layouts.{layout_of}
use Rattle.gfx_pdu.specs.Spelling.{id_of, parts_of, padding_of, size}

pub size_of_solid_fill : (surface : ℕ) (colour : Pixel) (rects : List Rect) → size (pdus.SolidFill surface colour rects) ≡ 8 + (8 + length rects * 8)
unfolding size
size_of_solid_fill surface colour rects = omega arith

pub size_of_surface_to_surface : (source destination : ℕ) (area : Rect) (points : List Point) → size (pdus.SurfaceToSurface source destination area points) ≡ 8 + (14 + length points * 4)
unfolding size
size_of_surface_to_surface source destination area points = omega arith

pub size_of_cache_to_surface : (slot surface : ℕ) (points : List Point) → size (pdus.CacheToSurface slot surface points) ≡ 8 + (6 + length points * 4)
unfolding size
size_of_cache_to_surface slot surface points = omega arith

pub size_of_reset_graphics : (width height : ℕ) (monitors : List Monitor) → length monitors ≤ 16 → size (pdus.ResetGraphics width height monitors) ≡ 340
unfolding size
size_of_reset_graphics width height monitors few = omega (arith, length-replicate {A = ℕ} ((16 - length monitors) * 20) 0)

-- whatever its padding is, as long as it is due
pub size-padded : (pdu : Pdu) (padding : List ℕ) → length padding ≡ padding_of pdu → size pdu ≡ 8 + measured (layout_of (id_of pdu)) (parts_of pdu padding)
unfolding size
size-padded (pdus.ResetGraphics width height monitors) padding e = omega (arith, length-replicate {A = ℕ} ((16 - length monitors) * 20) 0)
size-padded pdu padding e = refl

pub size-least : (pdu : Pdu) → 8 ≤ size pdu
unfolding size
size-least pdu = omega arith
