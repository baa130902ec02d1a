-- What is seen after a step on surfaces: one is made, drawn on, copied from, mapped or deleted. [MS-RDPEGFX] 3.3.5 leaves
-- to the server what it draws; the steps are this project's own rule.
use Rattle.std.specs.Prelude.{ℕ, nat_eq, List, Option, Some, None}
use Rattle.std.specs.FinMap.{get, remove}
use Rattle.std.specs.Map.{remove_entry}
use Rattle.indexmap.specs.IndexMap.{insert_entry}
use Rattle.gfx_base.specs.declared.geometry.Point.{Point}
use Rattle.gfx_base.specs.declared.geometry.Rect.{Rect}
use Rattle.gfx_surface.specs.Picture.{Picture}
use Rattle.gfx_surface_map.specs.Shown.{Shown, with_picture, copied_to}
use Rattle.gfx_surface_map.specs.declared.place.Place.{Place}
use Rattle.gfx_planner.specs.Wanted.{Wanted}

-- a surface shows this picture ([MS-RDPEGFX] 2.2.2.9)
abbrev pub with_surface : Wanted → ℕ → Picture → Wanted
with_surface wanted id picture = record wanted { shown = with_picture wanted.shown id picture }

-- a surface shows what a drawing makes of its picture; where there is no picture, nothing changes
unfoldable pub drawn_on : Shown → ℕ → Option Picture → (Picture → Picture) → Shown
drawn_on shown id None draw = shown
drawn_on shown id (Some picture) draw = with_picture shown id (draw picture)

-- the same by what is wanted before the step: the surface of this id is drawn on
abbrev pub drawing : Wanted → ℕ → (Picture → Picture) → Wanted
drawing wanted id draw = record wanted { shown = drawn_on wanted.shown id (get wanted.shown.surfaces id) draw }

-- a surface is gone, and so is its place on the output ([MS-RDPEGFX] 2.2.2.10)
abbrev pub without_surface : Shown → ℕ → Shown
without_surface shown id =
    record shown { surfaces = remove shown.surfaces id; maps = remove_entry (nat_eq id) shown.maps }

-- a surface stands at a place of the output ([MS-RDPEGFX] 2.2.2.15): one that had a place already keeps its turn
abbrev pub with_map : Shown → ℕ → Place → Shown
with_map shown id place = record shown { maps = insert_entry nat_eq shown.maps id place }

-- a rectangle of one surface, as it was before the step, is copied to points of another ([MS-RDPEGFX] 2.2.2.5)
unfoldable pub with_copy : Wanted → Option Picture → ℕ → Rect → List Point → Wanted
with_copy wanted None to rect points = wanted
with_copy wanted (Some source) to rect points = drawing wanted to (copied_to source rect points)
