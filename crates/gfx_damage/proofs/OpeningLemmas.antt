-- A surface that is drawn on, or isn't there.
use Rattle.std.proofs.Common.{◌≡◌, ◌∙◌, ℕ, true, List, map, Option, Some, None, is_some, sym, ap}
use Rattle.std.specs.FinMap as finmap
use Rattle.std.specs.Option.{option_map}
use Rattle.gfx_base.specs.declared.geometry.Rect.{Rect}
use Rattle.gfx_state.specs.State.{State}
use Rattle.gfx_state.specs.Written.{clipped, written_on}
use Rattle.gfx_surface.specs.Picture.{Picture}
use Rattle.gfx_damage.specs.Drawing.{AreOf}
use Rattle.gfx_damage.specs.declared.adding.Sides.{Sides}

module _ (state : State) (id : ℕ) (rects : List Rect) where
  -- what of these rectangles lies on a surface that was found
  abbrev on_it : Option Picture → Option (ℕ × List Rect)
  on_it found = option_map (λ (picture : Picture). (id, map (clipped picture.width picture.height) rects)) found

  -- it isn't there
  pub absent : finmap.get state.shown.surfaces id ≡ None → None ≡ written_on state (Some (id, rects))
  unfolding written_on
  absent none = sym (ap on_it none)

  -- it is there, and its sides say what lies on it
  pub present : (sides : Sides) → AreOf sides (finmap.get state.shown.surfaces id)
      → Some (id, map (clipped sides.width sides.height) rects) ≡ written_on state (Some (id, rects))
  unfolding written_on
  present sides are = (λ i. Some (id, map (clipped (are.width i) (are.height i)) rects)) ∙ sym (ap on_it are.is_there)

  -- so something of it is written, be it nothing
  pub is_written : (sides : Sides) → AreOf sides (finmap.get state.shown.surfaces id) → is_some (written_on state (Some (id, rects))) ≡ true
  is_written sides are = ap is_some (sym (present sides are))
