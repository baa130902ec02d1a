-- The sides that a rectangle has to reach so as to contain others: how the rule of superseding is tested
-- with one look at each later rectangle (this project's own).
use Rattle.std.specs.Prelude.{ℕ, ◌+◌, Bool, true, false, ◌&&◌, ◌||◌, ◌==◌, nat_le, min, max, List, [], ◌∷◌, fold, Option, Some, None}
use Rattle.std.specs.List.{list_any}
use Rattle.gfx_base.specs.declared.geometry.Point.{Point}
use Rattle.gfx_base.specs.declared.geometry.Rect.{Rect}
use Rattle.gfx_script.specs.Scripted.{Script}
use Rattle.gfx_script.specs.Writes.{Area}
use Rattle.gfx_window.specs.declared.covering.Hull.{Hull}
use Rattle.gfx_window.specs.declared.covering.Write.{Write}
use Rattle.gfx_window.specs.declared.window.Queued.{Queued}
use Rattle.gfx_window.specs.Superseded.{plain_area, stands_aside}

-- the sides of a rectangle, and of a picture at a place
abbrev pub as_hull : Rect → Hull
as_hull rect = record { left = rect.left; top = rect.top; right = rect.right; bottom = rect.bottom }

abbrev pub placed_hull : ℕ → ℕ → Point → Hull
placed_hull width height at = record { left = at.x; top = at.y; right = at.x + width; bottom = at.y + height }

-- the hull of what had a hull, and of one more
abbrev pub joined : Option Hull → Hull → Hull
joined None more = more
joined (Some hull) more = record {
  left = min hull.left more.left;
  top = min hull.top more.top;
  right = max hull.right more.right;
  bottom = max hull.bottom more.bottom;
}

-- the hull of rectangles
abbrev pub hull_of : List Rect → Option Hull
hull_of rects = fold (λ hull rect. Some (joined hull (as_hull rect))) None rects

-- a rectangle reaches all sides of a hull
abbrev pub reaches : Hull → Hull → Bool
reaches outer hull =
    nat_le outer.left hull.left && nat_le outer.top hull.top
    && (nat_le hull.right outer.right && nat_le hull.bottom outer.bottom)

abbrev pub reaches_all : Hull → Option Hull → Bool
reaches_all outer None = true
reaches_all outer (Some hull) = reaches outer hull

-- where a plain write writes, by its hull
abbrev pub write_of : Area → Write
write_of area = record { surface = area.surface; hull = hull_of area.rects }

-- a later write covers it
abbrev pub hull_covers : Write → Option Area → Bool
hull_covers write None = false
hull_covers write (Some later) =
    later.surface == write.surface && list_any (λ outer. reaches_all (as_hull outer) write.hull) later.rects

-- one of the items behind it does, and those between the two stand aside
unfoldable pub is_covered_by : Script → Write → List Queued → Bool
is_covered_by script write [] = false
is_covered_by script write (item ∷ items) =
    hull_covers write (plain_area script item) || (stands_aside script item && is_covered_by script write items)
