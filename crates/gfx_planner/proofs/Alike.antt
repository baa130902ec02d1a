-- Pictures and surfaces of which nothing changes outside of where something is drawn.
use Rattle.std.proofs.Common.{◌≡◌, ◌≢◌, ◌⊎◌, ◌∙◌, ℕ, ◌<◌, Bool, true, false, cond, List, Option, Some, None, inl, inr, refl, sym, ap, subst, arith}
use Rattle.std.specs.Cmp.{nat_cmp_total}
use Rattle.std.specs.FinMap.{get, insert, remove, get-insert, get-remove}
use Rattle.std.specs.List.{AllByRecursion}
use Rattle.std.specs.Ordering.{nat_cmp, eq_by_cmp}
use Rattle.std.proofs.lemmas.Bool.{cases_eq}
use Rattle.std.proofs.lemmas.Bool.Decides.{nat_tests}
use Rattle.gfx_base.specs.Geometry.{holds}
use Rattle.gfx_base.specs.declared.geometry.Rect.{Rect}
use Rattle.gfx_base.specs.declared.pixel.Pixel.{Pixel}
use Rattle.gfx_script.specs.Writes.{Area, area}
use Rattle.gfx_surface.specs.Picture.{Picture, redrawn, pixel_at, no_pixel}
use Rattle.gfx_surface.proofs.PictureLemmas.{pixel_at-drawn}
use Rattle.gfx_surface_map.specs.Shown.{Shown}
use Rattle.gfx_surface_map.specs.Surfaces.{Surfaces}
use Rattle.gfx_planner.specs.SurfaceEffects.{drawn_on}
use Rattle.gfx_planner.specs.Within.{IsOutside, ChangesWithin}

-- pictures ------------------------------------------------------------------------------------------

-- a picture of the same sides with the same pixel at a place
pub record AlikeAt (x y : ℕ) (old new : Picture) : Type 0 where
  pub width : new.width ≡ old.width
  pub height : new.height ≡ old.height
  pub pixel : x < old.width → y < old.height → pixel_at new x y ≡ pixel_at old x y

pub alike_same : (x y : ℕ) (picture : Picture) → AlikeAt x y picture picture
alike_same x y picture = record { width = refl; height = refl; pixel = λ column row. refl }

pub alike_both : (x y : ℕ) (a b c : Picture) → AlikeAt x y a b → AlikeAt x y b c → AlikeAt x y a c
alike_both x y a b c first second = record {
  width = second.width ∙ first.width;
  height = second.height ∙ first.height;
  pixel = λ column row. second.pixel (subst (λ n. x < n) (sym first.width) column) (subst (λ n. y < n) (sym first.height) row) ∙ first.pixel column row;
}

-- what is drawn where a test holds leaves the other pixels
pub outside_drawn : (picture : Picture) (test : ℕ → ℕ → Bool) (shown : ℕ → ℕ → Pixel) (x y : ℕ) → x < picture.width → y < picture.height → test x y ≡ false
    → pixel_at (redrawn picture (λ a b. cond (test a b) (shown a b) (pixel_at picture a b))) x y ≡ pixel_at picture x y
outside_drawn picture test shown x y column row outside =
    pixel_at-drawn picture.width picture.height x y (λ a b. cond (test a b) (shown a b) (pixel_at picture a b)) no_pixel column row
    ∙ ap (λ t. cond t (shown x y) (pixel_at picture x y)) outside

-- no rectangle of these holds the pixel
abbrev pub AreBeside : List Rect → ℕ → ℕ → Type 0
AreBeside rects x y = AllByRecursion (λ rect. holds rect x y ≡ false) rects

-- surfaces ------------------------------------------------------------------------------------------

pub same_picture : (o : Option Picture) (a b : Picture) → o ≡ Some a → o ≡ Some b → b ≡ a
same_picture o a b first second = cc

pub within_same : (written : Option Area) (old new : Surfaces) → new ≡ old → ChangesWithin written old new
within_same written old new same = record {
  each = λ id x y before after was is column row outside. ap (λ p. pixel_at p x y) (same_picture (get old id) before after was (ap (λ z. get z id) (sym same) ∙ is));
}

-- a surface that is put in the place of another, or made
pub within_insert : (written : Option Area) (old : Surfaces) (id : ℕ) (new : Picture)
    → ((x y : ℕ) (before : Picture) → get old id ≡ Some before → x < new.width → y < new.height → IsOutside written id x y → pixel_at new x y ≡ pixel_at before x y) → ChangesWithin written old (insert old id new)
within_insert written old id new here = record { each = λ q x y before after was is column row outside. by q x y before after was is column row outside (cases_eq q id) }
  where
    by : (q x y : ℕ) (before after : Picture) → get old q ≡ Some before → get (insert old id new) q ≡ Some after → x < after.width → y < after.height → IsOutside written q x y
        → ((q ≡ id) ⊎ (q ≢ id)) → pixel_at after x y ≡ pixel_at before x y
    by q x y before after was is column row outside (inl at) =
        let yes : eq_by_cmp nat_cmp q id ≡ true = grind (arith, nat_tests) in
        let found : Some new ≡ Some after = sym (get-insert nat_cmp_total old id new q ∙ ap (λ b. cond b (Some new) (get old q)) yes) ∙ is in
        let same : new ≡ after = cc in
        ap (λ p. pixel_at p x y) (sym same)
        ∙ here x y before (ap (get old) (sym at) ∙ was) (subst (λ (p : Picture). x < p.width) (sym same) column) (subst (λ (p : Picture). y < p.height) (sym same) row)
        (subst (λ n. IsOutside written n x y) at outside)
    by q x y before after was is column row outside (inr apart) =
        let differ : eq_by_cmp nat_cmp q id ≡ false = grind (arith, nat_tests) in
        let found : get old q ≡ Some after = sym (get-insert nat_cmp_total old id new q ∙ ap (λ b. cond b (Some new) (get old q)) differ) ∙ is in
        ap (λ p. pixel_at p x y) (same_picture (get old q) before after was found)

pub within_remove : (written : Option Area) (old : Surfaces) (id : ℕ) → ChangesWithin written old (remove old id)
within_remove written old id = record { each = λ q x y before after was is column row outside. by (eq_by_cmp nat_cmp q id) x y before after (get old q) was (sym (get-remove nat_cmp_total old id q) ∙ is) }
  where
    by : (b : Bool) (x y : ℕ) (before after : Picture) (o : Option Picture) → o ≡ Some before → cond b None o ≡ Some after → pixel_at after x y ≡ pixel_at before x y
    by true x y before after o was is = absurd cc
    by false x y before after o was is = ap (λ p. pixel_at p x y) (same_picture o before after was is)

-- a surface that is drawn on, where it is there
pub within_drawn : (shown : Shown) (id : ℕ) (rects : List Rect) (draw : Picture → Picture)
    → ((x y : ℕ) (picture : Picture) → AreBeside rects x y → AlikeAt x y picture (draw picture))
    → ChangesWithin (Some (area id rects)) shown.surfaces (drawn_on shown id (get shown.surfaces id) draw).surfaces
unfolding drawn_on
within_drawn shown id rects draw alike = by (get shown.surfaces id) refl
  where
    unchanged : ChangesWithin (Some (area id rects)) shown.surfaces shown.surfaces
    unchanged = within_same (Some (area id rects)) shown.surfaces shown.surfaces refl

    changed : (picture : Picture) → get shown.surfaces id ≡ Some picture → ChangesWithin (Some (area id rects)) shown.surfaces (insert shown.surfaces id (draw picture))
    changed picture there = within_insert (Some (area id rects)) shown.surfaces id (draw picture) (λ x y before was column row outside.
        let drawn = alike x y picture (outside refl) in
        drawn.pixel (subst (λ n. x < n) drawn.width column) (subst (λ n. y < n) drawn.height row)
        ∙ ap (λ p. pixel_at p x y) (same_picture (get shown.surfaces id) before picture was there))

    by : (o : Option Picture) → get shown.surfaces id ≡ o → ChangesWithin (Some (area id rects)) shown.surfaces (drawn_on shown id o draw).surfaces
    by None none = unchanged
    by (Some picture) there = changed picture there

-- what can't be
pub never : {X : Type 0} (b : Bool) → b ≡ true → b ≡ false → X
never b is other = absurd cc
