-- What is painted in passes changes no pixel outside of where it writes.
use Rattle.std.proofs.Common.{◌≡◌, ◌∙◌, ℕ, ◌<◌, ◌≤◌, ◌^◌, true, false, List, [], ◌∷◌, Option, Some, None, option_map, refl, ap, subst, arith}
use Rattle.std.specs.FinMap.{get, insert}
use Rattle.std.specs.Prelude.{IfSome}
use Rattle.std.proofs.lemmas.Bool.Decides.{nat_tests}
use Rattle.gfx_base.specs.Geometry.{holds}
use Rattle.gfx_base.specs.declared.geometry.Point.{Point}
use Rattle.gfx_base.specs.declared.geometry.Rect.{Rect}
use Rattle.gfx_prog_live.specs.Live.{Live, improved_sends, painted_sends}
use Rattle.gfx_prog_live.specs.Showing.{after_showing}
use Rattle.gfx_prog_law.proofs.Seen.{passes-wrote, showing-shape}
use Rattle.gfx_prog_encode.specs.declared.send.TileSend.{TileSend}
use Rattle.gfx_surface.specs.declared.TheConstants.{MOST_SIDE}
use Rattle.gfx_surface.specs.Picture.{Picture}
use Rattle.gfx_surface_map.specs.Shown.{Shown}
use Rattle.gfx_script.specs.Checks.{Held}
use Rattle.gfx_script.specs.Scripted.{Script}
use Rattle.gfx_script.specs.Writes.{area, everywhere, place_of}
use Rattle.gfx_script.specs.declared.picture.Picture.{Picture as Source}
use Rattle.gfx_planner.specs.Wanted.{Wanted}
use Rattle.gfx_planner.specs.SurfaceEffects.{drawn_on}
use Rattle.gfx_planner.specs.TileEffects.{with_improved, with_tiles}
use Rattle.gfx_planner.specs.Server.{Server}
use Rattle.gfx_planner.specs.Agree.{Agree}
use Rattle.gfx_planner.specs.Holds.{Holds, sides_of}
use Rattle.gfx_planner.specs.Within.{ChangesWithin}
use Rattle.gfx_planner.proofs.Alike.{AlikeAt, never, within_drawn, within_insert, within_same}

-- ---- a picture

showing_alike : (x y : ℕ) (script : Script) (live : Live) (id : ℕ) (source : Source) (rect : Rect) (picture : Picture) → holds rect x y ≡ false
    → AlikeAt x y picture (after_showing id (painted_sends script live id source rect) picture)
showing_alike x y script live id source rect picture outside =
    let shape = showing-shape id (painted_sends script live id source rect) picture in
    record { width = shape.width; height = shape.height; pixel = λ column row. passes-wrote script live id source rect picture x y column row outside }

pub within_tiles : (script : Script) (wanted : Wanted) (o : Option Source) (id : ℕ) (at : Point)
    → ChangesWithin (option_map (λ source. area id (place_of source at ∷ [])) o) wanted.shown.surfaces (with_tiles script wanted o id at).shown.surfaces
unfolding with_tiles
within_tiles script wanted None id at = within_same _ _ _ refl
within_tiles script wanted (Some source) id at =
    within_drawn wanted.shown id (place_of source at ∷ []) (after_showing id (painted_sends script wanted.passes.live id source (place_of source at)))
    (λ x y picture beside. showing_alike x y script wanted.passes.live id source (place_of source at) picture beside.0)

-- ---- an improvement

-- a surface's pixels are all in the rectangle that has each place
holds_everywhere : (x y : ℕ) → x < 2 ^ 16 → y < 2 ^ 16 → holds everywhere x y ≡ true
holds_everywhere x y column row = grind (arith, nat_tests)

-- tiles that are sent anywhere on a surface that is there
within_everywhere : (shown : Shown) (id : ℕ) (sends : List TileSend) → ((picture : Picture) → get shown.surfaces id ≡ Some picture → (picture.width ≤ MOST_SIDE) × (picture.height ≤ MOST_SIDE))
    → ChangesWithin (Some (area id (everywhere ∷ []))) shown.surfaces (drawn_on shown id (get shown.surfaces id) (after_showing id sends)).surfaces
unfolding drawn_on
within_everywhere shown id sends narrow = by (get shown.surfaces id) refl
  where
    changed : (picture : Picture) → get shown.surfaces id ≡ Some picture → ChangesWithin (Some (area id (everywhere ∷ []))) shown.surfaces (insert shown.surfaces id (after_showing id sends picture))
    changed picture there = within_insert (Some (area id (everywhere ∷ []))) shown.surfaces id (after_showing id sends picture) (λ x y before was column row outside.
        let shape = showing-shape id sends picture in
        let sides = narrow picture there in
        never (holds everywhere x y) (holds_everywhere x y (omega (arith, column, shape.width, sides.0)) (omega (arith, row, shape.height, sides.1))) (outside refl).0)

    by : (o : Option Picture) → get shown.surfaces id ≡ o → ChangesWithin (Some (area id (everywhere ∷ []))) shown.surfaces (drawn_on shown id o (after_showing id sends)).surfaces
    by None none = within_same (Some (area id (everywhere ∷ []))) shown.surfaces shown.surfaces refl
    by (Some picture) there = changed picture there

-- the sides of what is wanted of a surface are within their limit
wanted_narrow : (script : Script) (held : Held) (server : Server) (wanted : Wanted) (id : ℕ) (picture : Picture) → Holds script held server → Agree server wanted → get wanted.shown.surfaces id ≡ Some picture
    → (picture.width ≤ MOST_SIDE) × (picture.height ≤ MOST_SIDE)
wanted_narrow script held server wanted id picture tied agree there =
    subst (λ o. IfSome o (λ s. (s.width ≤ MOST_SIDE) × (s.height ≤ MOST_SIDE)))
    (tied.surfaces.sides id ∙ ap (λ (s : Shown). option_map sides_of (get s.surfaces id)) agree.shown ∙ ap (option_map sides_of) there) (tied.surfaces.narrow id)

pub within_improved : (script : Script) (held : Held) (server : Server) (wanted : Wanted) (o : Option Picture) (id : ℕ) → Holds script held server → Agree server wanted
    → ChangesWithin (Some (area id (everywhere ∷ []))) wanted.shown.surfaces (with_improved wanted o id).shown.surfaces
unfolding with_improved
within_improved script held server wanted None id tied agree = within_same _ _ _ refl
within_improved script held server wanted (Some surface) id tied agree =
    within_everywhere wanted.shown id (improved_sends wanted.passes.live id surface.width surface.height)
    (λ picture there. wanted_narrow script held server wanted id picture tied agree there)
