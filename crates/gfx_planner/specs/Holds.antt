-- When a script's checks are right about the server's end: they go by sides, keys and counts alone, and these are those of
-- its surfaces and bitmaps. This project's own rule.
use Rattle.std.specs.Prelude.{◌≡◌, ◌≤◌, ◌<◌, ◌^◌, IfSome, ℕ, option_map}
use Rattle.std.specs.FinMap as finmap
use Rattle.std.specs.FinMap.{FinMap}
use Rattle.std.specs.List.{AllByRecursion}
use Rattle.std.specs.Ordering.{nat_cmp}
use Rattle.gfx_bitmap_cache.specs.Slots.{Cached}
use Rattle.gfx_clear_store.specs.Rings.{AreRings}
use Rattle.gfx_quant.specs.Setting.{IsSetting}
use Rattle.gfx_slot_plan.specs.Plan.{Plan}
use Rattle.gfx_surface.specs.declared.TheConstants.{MOST_SIDE}
use Rattle.gfx_surface.specs.Picture.{Picture}
use Rattle.gfx_surface_map.specs.declared.TheConstants.{MOST_CELLS}
use Rattle.gfx_surface_map.specs.Surfaces.{Surfaces, cells_of}
use Rattle.gfx_script.specs.declared.held.Sides.{Sides}
use Rattle.gfx_script.specs.Checks.{Held, sides_of_all}
use Rattle.gfx_script.specs.Pictures.{IsDrawn}
use Rattle.gfx_script.specs.Scripted.{Script}
use Rattle.gfx_script.specs.Stock.{Stock}
use Rattle.gfx_planner.specs.Slots.{PlanFitsCache, SidesFitSlots}
use Rattle.gfx_planner.specs.Tiles.{HoldsTiles}
use Rattle.gfx_planner.specs.Server.{Server}

-- a picture's sides
abbrev pub sides_of : Picture → Sides
sides_of picture = record { width = picture.width; height = picture.height }

-- the checks know the sides of these surfaces, and how many cells they have in all
pub record HoldsSurfaces (held : FinMap nat_cmp Sides) (cells : ℕ) (surfaces : Surfaces) : Type 0 where
  pub sides : (id : ℕ) → finmap.get held id ≡ option_map sides_of (finmap.get surfaces id)
  pub count : finmap.len held ≡ finmap.len surfaces
  pub total : cells ≡ cells_of surfaces
  -- both are within the limits on surfaces
  pub narrow : (id : ℕ) → IfSome (finmap.get held id) (λ sides. (sides.width ≤ MOST_SIDE) × (sides.height ≤ MOST_SIDE))
  pub few : cells ≤ MOST_CELLS

-- they know the choice of slots, which goes by the limits of the cache and agrees with it, and the sides of its bitmaps
pub record HoldsBitmaps (stock : Stock) (plan : Plan) (cache : Cached) : Type 0 where
  pub same : stock.plan ≡ plan
  pub limits : plan.small ≡ cache.small
  pub fits_cache : PlanFitsCache plan cache
  pub sides_fit : SidesFitSlots plan.places stock.sides cache.slots

-- they are right about the server's end: about its surfaces and its bitmaps; and it can go on from here in passes and by
-- ClearCodec
pub record Holds (script : Script) (held : Held) (server : Server) : Type 0 where
  -- they know the sides of the script's pictures, which are within the limits
  pub drawn : AllByRecursion IsDrawn script.pictures
  pub same : held.pictures ≡ sides_of_all script.pictures
  pub surfaces : HoldsSurfaces held.sides held.cells server.state.shown.surfaces
  pub bitmaps : HoldsBitmaps held.stock server.plan server.state.cache
  -- its live tiles may be raised, and the next message of passes has a number that fits its field
  pub setting : IsSetting script.setting
  pub tiles : HoldsTiles script.setting server.passes.live server.state.records server.state.shown.surfaces
  pub number : server.passes.next < 2 ^ 32
  -- and its rings are some that a store can hold
  pub rings : AreRings server.state.clear.rings
