-- What is held after a step that keeps a bitmap, and what is seen after one that shows it ([MS-RDPEGFX] 2.2.2.6 and
-- 2.2.2.7). Which slot a key gets, and which bitmaps go for it, is this project's own rule (gfx_slot_plan/specs/Plan).
use Rattle.std.specs.Prelude.{ℕ, List, Option, Some, None, Result, Ok}
use Rattle.std.specs.FinMap.{insert}
use Rattle.gfx_base.specs.declared.geometry.Point.{Point}
use Rattle.gfx_base.specs.declared.geometry.Rect.{Rect}
use Rattle.gfx_base.specs.declared.refusal.Refusal.{Refusal}
use Rattle.gfx_base.specs.Geometry.{sized}
use Rattle.gfx_bitmap_cache.specs.Slots.{Entry, entry}
use Rattle.gfx_slot_plan.specs.declared.kept.Kept.{Kept}
use Rattle.gfx_slot_plan.specs.Plan.{Plan}
use Rattle.gfx_state.specs.Step.{image_in}
use Rattle.gfx_surface.specs.Picture.{Picture}
use Rattle.gfx_surface_map.specs.Shown.{stamped}
use Rattle.gfx_planner.specs.Bitmaps.{emptied}
use Rattle.gfx_planner.specs.Wanted.{Wanted}
use Rattle.gfx_planner.specs.SurfaceEffects.{drawing}

-- a rectangle of a surface, as it stands, is kept as the bitmap of a key: in the slot that is chosen for it, once the
-- bitmaps that go for it are gone. Where there is no surface or no slot for it, nothing changes
unfoldable pub with_bitmap : Wanted → Option Picture → Result (Plan × Kept) Refusal → ℕ → Rect → Wanted
with_bitmap wanted (Some picture) (Ok found) key rect = record wanted {
  plan = found.0;
  slots = insert (emptied wanted.slots found.1.dropped) found.1.slot (entry key (image_in picture rect));
}
with_bitmap wanted picture found key rect = wanted

-- a bitmap is put at points of a surface, one after another; where there is none, nothing changes
unfoldable pub with_stamps : Wanted → Option Entry → ℕ → List Point → Wanted
with_stamps wanted None to points = wanted
with_stamps wanted (Some held) to points =
    drawing wanted to (stamped (sized held.image.width held.image.height) held.image.pixels points)
