-- The messages that keep a bitmap in its slot, show it, and forget it ([MS-RDPEGFX] 2.2.2.6, 2.2.2.7 and 2.2.2.8). Which
-- slot a key has is this project's own rule (gfx_slot_plan/specs/Plan).
use Rattle.std.specs.Prelude.{ℕ, List, [], ◌∷◌, ◌++◌, map, Option, Some, None, Result, Ok, Err}
use Rattle.gfx_base.specs.declared.geometry.Point.{Point}
use Rattle.gfx_base.specs.declared.geometry.Rect.{Rect}
use Rattle.gfx_base.specs.declared.refusal.Refusal.{Refusal}
use Rattle.gfx_pdu.specs.declared.pdu.Pdu.{Pdu}
use Rattle.gfx_pdu.specs.declared.pdu.Pdu.TheVariants.{SurfaceToCache, CacheToSurface, EvictCacheEntry}
use Rattle.gfx_slot_plan.specs.declared.kept.Kept.{Kept}
use Rattle.gfx_slot_plan.specs.Plan.{Plan}
use Rattle.gfx_planner.specs.Made.{Made, made}

-- a rectangle of a surface is kept in the slot that is chosen for its key: before that, the slots of the bitmaps that go
-- for it are emptied. It can't be put where the choice refuses it
unfoldable pub keeping : Result (Plan × Kept) Refusal → ℕ → ℕ → Rect → Option Made
keeping (Err r) id key rect = None
keeping (Ok found) id key rect = made (map EvictCacheEntry found.1.dropped ++ (SurfaceToCache id key found.1.slot rect ∷ [])) found.0

-- the bitmap of a slot is put at points of a surface; where there is no slot, there is no message
unfoldable pub showing_slot : Option ℕ → ℕ → List Point → Option Pdu
showing_slot None to points = None
showing_slot (Some slot) to points = Some (CacheToSurface slot to points)

-- a slot is emptied; where there is none, there is no message
unfoldable pub emptying : Option ℕ → Option Pdu
emptying None = None
emptying (Some slot) = Some (EvictCacheEntry slot)
