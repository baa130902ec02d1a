-- What is wanted, alike but where a plain write may have been.
use Rattle.std.proofs.Common.{◌≡◌, ◌≢◌, ◌⊎◌, ◌∙◌, ℕ, ◌<◌, ◌≤◌, Bool, true, false, cond, List, [], ◌∷◌, length, Option, Some, None, option_map, inl, inr, refl, sym, ap, subst, arith}
use Rattle.std.specs.Prelude.{◌==◌}
use Rattle.std.specs.Cmp.{nat_cmp_total}
use Rattle.std.specs.FinMap.{get, get-insert, same_map, nat_cmp-IsAntisymmetric}
use Rattle.std.specs.List.{slice_get}
use Rattle.std.specs.Ordering.{nat_cmp, eq_by_cmp}
use Rattle.std.proofs.lemmas.Bool.{cases_eq, eqb-true}
use Rattle.std.proofs.lemmas.Bool.Decides.{nat_tests}
use Rattle.gfx_base.specs.declared.geometry.Point.{Point}
use Rattle.gfx_base.specs.declared.geometry.Rect.{Rect}
use Rattle.gfx_base.specs.declared.pixel.Pixel.{Pixel}
use Rattle.gfx_prog_live.specs.Live.{Passes}
use Rattle.gfx_script.specs.Kinds.{as_kind}
use Rattle.gfx_script.specs.Scripted.{Script}
use Rattle.gfx_script.specs.Writes.{Area, area, paints_plainly, place_of, writes_by, writes_plainly}
use Rattle.gfx_script.specs.declared.picture.Picture.{Picture as Source}
use Rattle.gfx_script.specs.declared.step.Kind.{Kind}
use Rattle.gfx_script.specs.declared.step.Kind.TheVariants.{Raw, Residual, Bands, Palette, Plain, Progressive, Video}
use Rattle.gfx_script.specs.declared.step.Step.{Step}
use Rattle.gfx_script.specs.declared.step.Step.TheVariants.{Surface, Delete, Reset, Map, Fill, Copy, Keep, Show, Forget, Paint, Improve, Frame}
use Rattle.gfx_surface.specs.Picture.{Picture, overlaid}
use Rattle.gfx_surface_map.specs.Shown.{Shown}
use Rattle.gfx_surface_map.specs.Surfaces.{painted}
use Rattle.gfx_planner.specs.Pixels.{opaque_in, pixels_in}
use Rattle.gfx_planner.specs.Passes.{ended_by, live_after, passes_as}
use Rattle.gfx_planner.specs.Wanted.{Wanted}
use Rattle.gfx_planner.specs.SurfaceEffects.{drawn_on, drawing}
use Rattle.gfx_planner.specs.PaintEffects.{with_painting, with_pixels}
use Rattle.gfx_planner.specs.Want.{wanted_as, wanted_after}
use Rattle.gfx_window.specs.Superseded.{covers}
use Rattle.gfx_window.proofs.HullLaws.{both}
use Rattle.gfx_schedule.proofs.LeavingPictures.{AreAlike, AreBeside, Draws, sides_back, painted-draws, overlaid-draws, drawn-self, drawn-alike, drawn-same, beside-covered, some-covers}
use Rattle.gfx_schedule.proofs.LeavingTiles.{passes-swap, passes-self, passes-covered}

-- a plain write draws on one surface, and ends live tiles there -------------------------------------------

-- what is wanted once this is drawn in an area
abbrev pub writing : Wanted → Area → (Picture → Picture) → Wanted
writing wanted plain draw = record (drawing wanted plain.surface draw) { passes = ended_by wanted.passes (Some plain) }

pub record IsDrawing (step : Wanted → Wanted) (plain : Area) : Type 0 where
  pub draw : Picture → Picture
  pub draws : Draws plain.rects draw
  pub is : (wanted : Wanted) → step wanted ≡ writing wanted plain draw

fill-draws : (step : Wanted → Wanted) (id : ℕ) (rects : List Rect) (draw : Picture → Picture) (plain : Area) → Draws rects draw
    → ((wanted : Wanted) → step wanted ≡ writing wanted (area id rects) draw) → Some (area id rects) ≡ Some plain → IsDrawing step plain
fill-draws step id rects draw plain draws is there =
    let same : area id rects ≡ plain = cc in
    subst (IsDrawing step) same record { draw = draw; draws = draws; is = is }

-- a picture that shows in these pixels
pixels-draws : (o : Option Source) (pixels : Source → List Pixel) (id : ℕ) (at : Point) (plain : Area) → option_map (λ source. area id (place_of source at ∷ [])) o ≡ Some plain
    → IsDrawing (λ wanted. record (with_pixels wanted o pixels id at) { passes = ended_by wanted.passes (option_map (λ source. area id (place_of source at ∷ [])) o) }) plain
unfolding with_pixels
pixels-draws None pixels id at plain there = absurd cc
pixels-draws (Some source) pixels id at plain there =
    fill-draws _ id (place_of source at ∷ []) (λ surface. overlaid surface (place_of source at) (pixels source)) plain
    (overlaid-draws (place_of source at) (pixels source)) (λ wanted. refl) there

pub plain-draws : (script : Script) (kind : Option Kind) (step : Step) (plain : Area) → writes_plainly script kind step ≡ Some plain
    → IsDrawing (λ wanted. wanted_after script wanted (as_kind kind step)) plain
unfolding writes_plainly paints_plainly wanted_as with_painting passes_as live_after writes_by
plain-draws script kind (Fill id colour rects) plain there =
    fill-draws _ id rects (λ picture. painted picture rects colour) plain (painted-draws rects colour) (λ wanted. refl) there
plain-draws script None (Paint id picture at named glyph) plain there = absurd cc
plain-draws script (Some Raw) (Paint id picture at named glyph) plain there = pixels-draws (slice_get script.pictures picture) pixels_in id at plain there
plain-draws script (Some Residual) (Paint id picture at named glyph) plain there = pixels-draws (slice_get script.pictures picture) opaque_in id at plain there
plain-draws script (Some Bands) (Paint id picture at named glyph) plain there = pixels-draws (slice_get script.pictures picture) opaque_in id at plain there
plain-draws script (Some Palette) (Paint id picture at named glyph) plain there = pixels-draws (slice_get script.pictures picture) opaque_in id at plain there
plain-draws script (Some Plain) (Paint id picture at named glyph) plain there = pixels-draws (slice_get script.pictures picture) opaque_in id at plain there
plain-draws script (Some Progressive) (Paint id picture at named glyph) plain there = absurd cc
plain-draws script (Some Video) (Paint id picture at named glyph) plain there = absurd cc
plain-draws script kind (Surface id width height format) plain there = absurd cc
plain-draws script kind (Delete id) plain there = absurd cc
plain-draws script kind (Reset width height) plain there = absurd cc
plain-draws script kind (Map id x y) plain there = absurd cc
plain-draws script kind (Copy from to rect points) plain there = absurd cc
plain-draws script kind (Keep id key rect) plain there = absurd cc
plain-draws script kind (Show key to points) plain there = absurd cc
plain-draws script kind (Forget key) plain there = absurd cc
plain-draws script kind (Improve id) plain there = absurd cc
plain-draws script kind Frame plain there = absurd cc

-- what stands after drawing ---------------------------------------------------------------------------

is_there : (q id : ℕ) → q ≡ id → eq_by_cmp nat_cmp q id ≡ true
is_there q id at = grind (arith, nat_tests)

is_apart : (q id : ℕ) → q ≢ id → eq_by_cmp nat_cmp q id ≡ false
is_apart q id apart = grind (arith, nat_tests)

drawn_on-get : (shown : Shown) (id : ℕ) (draw : Picture → Picture) (o : Option Picture) (q : ℕ) → get shown.surfaces id ≡ o
    → get (drawn_on shown id o draw).surfaces q ≡ cond (eq_by_cmp nat_cmp q id) (option_map draw (get shown.surfaces q)) (get shown.surfaces q)
unfolding drawn_on
drawn_on-get shown id draw None q none =
    elim (cases_eq q id) [
      | inl at ↦
          let absent : get shown.surfaces q ≡ None = ap (get shown.surfaces) at ∙ none in
          absent ∙ sym (λ i. cond (is_there q id at i) (option_map draw (absent i)) (absent i))
      | inr apart ↦ sym (ap (λ b. cond b (option_map draw (get shown.surfaces q)) (get shown.surfaces q)) (is_apart q id apart))
    ]
drawn_on-get shown id draw (Some picture) q there =
    elim (cases_eq q id) [
      | inl at ↦
          let here : get shown.surfaces q ≡ Some picture = ap (get shown.surfaces) at ∙ there in
          get-insert nat_cmp_total shown.surfaces id (draw picture) q
          ∙ ap (λ b. cond b (Some (draw picture)) (get shown.surfaces q)) (is_there q id at)
          ∙ ap (option_map draw) (sym here)
          ∙ sym (ap (λ b. cond b (option_map draw (get shown.surfaces q)) (get shown.surfaces q)) (is_there q id at))
      | inr apart ↦
          get-insert nat_cmp_total shown.surfaces id (draw picture) q
          ∙ ap (λ b. cond b (Some (draw picture)) (get shown.surfaces q)) (is_apart q id apart)
          ∙ sym (ap (λ b. cond b (option_map draw (get shown.surfaces q)) (get shown.surfaces q)) (is_apart q id apart))
    ]

writing-get : (wanted : Wanted) (plain : Area) (draw : Picture → Picture) (q : ℕ)
    → get (writing wanted plain draw).shown.surfaces q ≡ cond (eq_by_cmp nat_cmp q plain.surface) (option_map draw (get wanted.shown.surfaces q)) (get wanted.shown.surfaces q)
writing-get wanted plain draw q = drawn_on-get wanted.shown plain.surface draw (get wanted.shown.surfaces plain.surface) q refl

-- all but the surfaces and their live tiles is the same
pub record SameBeside (v w : Wanted) : Type 0 where
  pub output : v.shown.output ≡ w.shown.output
  pub maps : v.shown.maps ≡ w.shown.maps
  pub plan : v.plan ≡ w.plan
  pub slots : v.slots ≡ w.slots

beside-back : (v w : Wanted) → SameBeside v w → SameBeside w v
beside-back v w same = record { output = sym same.output; maps = sym same.maps; plan = sym same.plan; slots = sym same.slots }

beside-then : (u v w : Wanted) → SameBeside u v → SameBeside v w → SameBeside u w
beside-then u v w first second = record {
  output = first.output ∙ second.output;
  maps = first.maps ∙ second.maps;
  plan = first.plan ∙ second.plan;
  slots = first.slots ∙ second.slots;
}

drawn_on-beside : (wanted : Wanted) (id : ℕ) (o : Option Picture) (draw : Picture → Picture) (passes : Passes)
    → SameBeside wanted (record wanted { shown = drawn_on wanted.shown id o draw; passes = passes })
unfolding drawn_on
drawn_on-beside wanted id None draw passes = record { output = refl; maps = refl; plan = refl; slots = refl }
drawn_on-beside wanted id (Some picture) draw passes = record { output = refl; maps = refl; plan = refl; slots = refl }

writing-beside : (wanted : Wanted) (plain : Area) (draw : Picture → Picture) → SameBeside wanted (writing wanted plain draw)
writing-beside wanted plain draw =
    drawn_on-beside wanted plain.surface (get wanted.shown.surfaces plain.surface) draw (ended_by wanted.passes (Some plain))

writings-beside : (v w : Wanted) (plain : Area) (draw : Picture → Picture) → SameBeside v w → SameBeside (writing v plain draw) (writing w plain draw)
writings-beside v w plain draw same =
    beside-then (writing v plain draw) v (writing w plain draw) (beside-back v (writing v plain draw) (writing-beside v plain draw))
    (beside-then v w (writing w plain draw) same (writing-beside w plain draw))

same_wanted : (v w : Wanted) → SameBeside v w → v.passes ≡ w.passes → ((q : ℕ) → get v.shown.surfaces q ≡ get w.shown.surfaces q) → v ≡ w
same_wanted v w same passes each =
    let surfaces : v.shown.surfaces ≡ w.shown.surfaces = same_map nat_cmp_total nat_cmp-IsAntisymmetric v.shown.surfaces w.shown.surfaces each in
    λ i. record {
      shown = record { surfaces = surfaces i; output = same.output i; maps = same.maps i };
      plan = same.plan i;
      slots = same.slots i;
      passes = passes i;
    }

-- alike but in an area --------------------------------------------------------------------------------

-- pictures that may be missing, and then both are
pub AlikeIn : List Rect → Option Picture → Option Picture → Type 0
AlikeIn rects None None = Unit {0}
AlikeIn rects (Some a) (Some b) = AreAlike rects a b
AlikeIn rects None (Some b) = ⊥
AlikeIn rects (Some a) None = ⊥

pub record AlikeBut (plain : Area) (v w : Wanted) : Type 0 where
  pub same : SameBeside v w
  pub others : (q : ℕ) → q ≢ plain.surface → get v.shown.surfaces q ≡ get w.shown.surfaces q
  pub here : AlikeIn plain.rects (get v.shown.surfaces plain.surface) (get w.shown.surfaces plain.surface)
  -- and once the area's tiles end, the same tiles are live
  pub passes : ended_by v.passes (Some plain) ≡ ended_by w.passes (Some plain)

alike-back : (rects : List Rect) (a b : Picture) → AreAlike rects a b → AreAlike rects b a
alike-back rects a b alike = record {
  sides = sides_back a b alike.sides;
  pixel = λ x y column row off. sym (alike.pixel x y (subst (λ n. x < n) (sym alike.sides.width) column) (subst (λ n. y < n) (sym alike.sides.height) row) off);
}

alike-moved : (rects : List Rect) (o p q r : Option Picture) → o ≡ p → q ≡ r → AlikeIn rects o q → AlikeIn rects p r
alike-moved rects o p q r first second alike = subst (λ z. AlikeIn rects p z) second (subst (λ z. AlikeIn rects z q) first alike)

-- a picture and what is drawn on it
option-self : (rects : List Rect) (draw : Picture → Picture) (o : Option Picture) → Draws rects draw → AlikeIn rects (option_map draw o) o
unfolding AlikeIn
option-self rects draw None draws = tt
option-self rects draw (Some a) draws = alike-back rects a (draw a) (drawn-self rects draw a draws)

-- what is drawn on both
option-alike : (rects later : List Rect) (draw : Picture → Picture) (t : Bool) (o p : Option Picture) → Draws later draw → AlikeIn rects o p
    → AlikeIn rects (cond t (option_map draw o) o) (cond t (option_map draw p) p)
unfolding AlikeIn
option-alike rects later draw false o p draws alike = alike
option-alike rects later draw true None None draws alike = tt
option-alike rects later draw true (Some a) (Some b) draws alike = drawn-alike rects later draw a b draws alike
option-alike rects later draw true None (Some b) draws alike = absurd alike
option-alike rects later draw true (Some a) None draws alike = absurd alike

option-same : (rects later : List Rect) (draw : Picture → Picture) (o p : Option Picture) → Draws later draw → 1 ≤ length later
    → ((x y : ℕ) → AreBeside later x y → AreBeside rects x y) → AlikeIn rects o p → option_map draw o ≡ option_map draw p
unfolding AlikeIn
option-same rects later draw None None draws some covers alike = refl
option-same rects later draw (Some a) (Some b) draws some covers alike = ap (λ z. Some z) (drawn-same rects later draw a b draws some covers alike)
option-same rects later draw None (Some b) draws some covers alike = absurd alike
option-same rects later draw (Some a) None draws some covers alike = absurd alike

-- a plain write leaves what is alike but in its area
pub alike-self : (plain : Area) (step : Wanted → Wanted) (wanted : Wanted) → IsDrawing step plain → AlikeBut plain (step wanted) wanted
alike-self plain step wanted draws = subst (λ v. AlikeBut plain v wanted) (sym (draws.is wanted)) (record {
  same = beside-back wanted (writing wanted plain draws.draw) (writing-beside wanted plain draws.draw);
  others = λ q apart.
      writing-get wanted plain draws.draw q
      ∙ ap (λ b. cond b (option_map draws.draw (get wanted.shown.surfaces q)) (get wanted.shown.surfaces q)) (is_apart q plain.surface apart);
  here = subst (λ o. AlikeIn plain.rects o (get wanted.shown.surfaces plain.surface))
      (sym (writing-get wanted plain draws.draw plain.surface
      ∙ ap (λ b. cond b (option_map draws.draw (get wanted.shown.surfaces plain.surface)) (get wanted.shown.surfaces plain.surface)) (is_there plain.surface plain.surface refl)))
      (option-self plain.rects draws.draw (get wanted.shown.surfaces plain.surface) draws.draws);
  passes = passes-self wanted.passes plain;
})

writings-alike : (plain later : Area) (draw : Picture → Picture) (v w : Wanted) → Draws later.rects draw → AlikeBut plain v w
    → AlikeBut plain (writing v later draw) (writing w later draw)
writings-alike plain later draw v w draws alike = record {
  same = writings-beside v w later draw alike.same;
  others = λ q apart.
      writing-get v later draw q
      ∙ ap (λ o. cond (eq_by_cmp nat_cmp q later.surface) (option_map draw o) o) (alike.others q apart)
      ∙ sym (writing-get w later draw q);
  here = alike-moved plain.rects _ _ _ _ (sym (writing-get v later draw plain.surface)) (sym (writing-get w later draw plain.surface))
      (option-alike plain.rects later.rects draw (eq_by_cmp nat_cmp plain.surface later.surface) (get v.shown.surfaces plain.surface) (get w.shown.surfaces plain.surface) draws alike.here);
  passes = passes-swap v.passes later plain ∙ ap (λ p. ended_by p (Some later)) alike.passes ∙ sym (passes-swap w.passes later plain);
}

-- a later plain write keeps it
pub alike-later : (plain later : Area) (step : Wanted → Wanted) (v w : Wanted) → IsDrawing step later → AlikeBut plain v w → AlikeBut plain (step v) (step w)
alike-later plain later step v w draws alike =
    subst (λ a. AlikeBut plain a (step w)) (sym (draws.is v))
    (subst (λ b. AlikeBut plain (writing v later draws.draw) b) (sym (draws.is w))
    (writings-alike plain later draws.draw v w draws.draws alike))

writings-same : (plain later : Area) (draw : Picture → Picture) (v w : Wanted) → Draws later.rects draw → later.surface ≡ plain.surface
    → 1 ≤ length later.rects → ((x y : ℕ) → AreBeside later.rects x y → AreBeside plain.rects x y)
    → ended_by v.passes (Some later) ≡ ended_by w.passes (Some later) → AlikeBut plain v w → writing v later draw ≡ writing w later draw
writings-same plain later draw v w draws there some covered passes alike =
    same_wanted (writing v later draw) (writing w later draw) (writings-beside v w later draw alike.same) passes
    (λ q. writing-get v later draw q ∙ by q (cases_eq q plain.surface) ∙ sym (writing-get w later draw q))
  where
    by : (q : ℕ) → ((q ≡ plain.surface) ⊎ (q ≢ plain.surface))
        → cond (eq_by_cmp nat_cmp q later.surface) (option_map draw (get v.shown.surfaces q)) (get v.shown.surfaces q)
        ≡ cond (eq_by_cmp nat_cmp q later.surface) (option_map draw (get w.shown.surfaces q)) (get w.shown.surfaces q)
    by q (inl at) =
        let hit : eq_by_cmp nat_cmp q later.surface ≡ true = is_there q later.surface (at ∙ sym there) in
        ap (λ b. cond b (option_map draw (get v.shown.surfaces q)) (get v.shown.surfaces q)) hit
        ∙ subst (λ n. option_map draw (get v.shown.surfaces n) ≡ option_map draw (get w.shown.surfaces n)) (sym at)
        (option-same plain.rects later.rects draw (get v.shown.surfaces plain.surface) (get w.shown.surfaces plain.surface) draws some covered alike.here)
        ∙ sym (ap (λ b. cond b (option_map draw (get w.shown.surfaces q)) (get w.shown.surfaces q)) hit)
    by q (inr apart) = ap (λ o. cond (eq_by_cmp nat_cmp q later.surface) (option_map draw o) o) (alike.others q apart)

-- and one that covers the area makes them equal
pub alike-covered : (plain later : Area) (step : Wanted → Wanted) (v w : Wanted) → IsDrawing step later → covers plain (Some later) ≡ true → AlikeBut plain v w → step v ≡ step w
alike-covered plain later step v w draws covered alike =
    let h = both (later.surface == plain.surface) _ covered in
    let passes : ended_by v.passes (Some later) ≡ ended_by w.passes (Some later)
    = sym (passes-covered v.passes plain later covered) ∙ ap (λ p. ended_by p (Some later)) alike.passes ∙ passes-covered w.passes plain later covered in
    draws.is v
    ∙ writings-same plain later draws.draw v w draws.draws (eqb-true later.surface plain.surface h.0)
    (some-covers plain.rects later.rects h.1) (λ x y off. beside-covered plain.rects later.rects x y h.1 off) passes alike
    ∙ sym (draws.is w)
