-- Live tiles show what they are at their levels.
use Rattle.std.proofs.Common.{◌≡◌, ◌≢◌, ◌⊎◌, inl, inr, ◌∙◌, ◌+◌, ◌-◌, ◌*◌, ◌<◌, ◌≤◌, ◌^◌, ◌==◌, ◌&&◌, ◌||◌, not, ℕ, Bool, true, false, List, [], ◌∷◌, length, fold, Option, Some, None, Ok, refl, sym, ap, subst, arith, eq-eqb}
use Rattle.std.specs.FinMap.{empty, get, get-empty, insert}
use Rattle.std.specs.List.{AllByRecursion, list_any, slice_get}
use Rattle.std.proofs.lemmas.Bool.{cases_eq}
use Rattle.std.proofs.lemmas.Bool.Decides.{nat_tests}
use Rattle.gfx_base.specs.declared.format.Format.{Format}
use Rattle.gfx_base.specs.declared.format.Format.TheVariants.{Xrgb, Argb}
use Rattle.gfx_base.specs.declared.geometry.Point.{Point}
use Rattle.gfx_base.specs.declared.geometry.Rect.{Rect}
use Rattle.gfx_base.specs.declared.geometry.TheConstants.{CELL_SIDE}
use Rattle.gfx_base.specs.Cells.{cell, has_pixels, meets}
use Rattle.gfx_base.specs.Geometry.{IsRect, holds, lies_in}
use Rattle.gfx_prog_live.specs.Live.{Live, Passes, after_sends, improved_sends, painted_sends}
use Rattle.gfx_prog_live.specs.Showing.{after_showing}
use Rattle.gfx_prog_law.specs.Taken.{WasSent}
use Rattle.gfx_prog_law.proofs.Apart.{all-more}
use Rattle.gfx_prog_law.proofs.Improving.{improved-sent}
use Rattle.gfx_prog_law.proofs.Kept.{live-elsewhere, retained-live}
use Rattle.gfx_prog_law.proofs.Painting.{painted-sent}
use Rattle.gfx_prog_law.proofs.Seen.{LiveShows, live-shows-after}
use Rattle.gfx_prog_law.proofs.Squares.{InCell, rect-in-cell}
use Rattle.gfx_prog_decode.specs.declared.key.Key.{Key}
use Rattle.gfx_prog_decode.specs.Records.{Records, key_cmp}
use Rattle.gfx_prog_decode.specs.Scene.{scene}
use Rattle.gfx_prog_encode.specs.declared.send.TileSend.{TileSend}
use Rattle.gfx_quant.specs.declared.setting.Setting.{Setting}
use Rattle.gfx_quant.specs.Setting.{IsSetting}
use Rattle.gfx_script.specs.Checks.{Held, held_after, held_through}
use Rattle.gfx_script.specs.declared.held.Sides.{Sides}
use Rattle.gfx_script.specs.declared.picture.Picture.{Picture as Source}
use Rattle.gfx_script.specs.declared.step.Kind.{Kind}
use Rattle.gfx_script.specs.declared.step.Step.{Step}
use Rattle.gfx_script.specs.declared.step.Step.TheVariants.{Delete, Improve, Paint}
use Rattle.gfx_script.specs.Kinds.{HasKind, KindedStep}
use Rattle.gfx_script.specs.Pictures.{IsDrawn}
use Rattle.gfx_script.specs.Script.{IsStep}
use Rattle.gfx_script.specs.Scripted.{Script}
use Rattle.gfx_script.specs.Writes.{Area, place_of, writes_by}
use Rattle.gfx_surface.specs.Picture.{Picture, pixel_at, shade}
use Rattle.gfx_surface_map.specs.Shown.{Shown}
use Rattle.gfx_surface_map.specs.Surfaces.{Surfaces}
use Rattle.gfx_tile_make.specs.Levels.{shown_at}
use Rattle.gfx_tile_make.specs.Source.{SourceTile}
use Rattle.gfx_tile_make.proofs.Sources.{last-shown}
use Rattle.gfx_planner.specs.Bitmaps.{sides_kept}
use Rattle.gfx_planner.specs.TileSteps.{sends_tiles}
use Rattle.gfx_planner.specs.Passes.{ended_by, improved_passes, painted_passes, passes_as}
use Rattle.gfx_planner.specs.Tiles.{HoldsTiles}
use Rattle.gfx_planner.specs.Wanted.{Wanted, nothing_wanted}
use Rattle.gfx_planner.specs.SurfaceEffects.{drawn_on}
use Rattle.gfx_planner.specs.TileEffects.{with_improved, with_tiles}
use Rattle.gfx_planner.specs.PaintEffects.{with_painting}
use Rattle.gfx_planner.specs.Want.{passes_wanted, wanted_after, wanted_as}
use Rattle.gfx_planner.specs.Server.{Server, at_start}
use Rattle.gfx_planner.specs.Agree.{Agree}
use Rattle.gfx_planner.specs.Holds.{Holds}
use Rattle.gfx_planner.specs.Stream.{served}
use Rattle.gfx_planner.specs.Within.{ChangesWithin, IsOutside}
use Rattle.gfx_planner.specs.TilesShown.{LiveTilesAreShown}
use Rattle.gfx_script.specs.Ways.{goes_by}
use Rattle.gfx_planner.proofs.Ways.{live_in_passes, live_left, painted_in_passes}
use Rattle.gfx_planner.proofs.PaintSteps.{MayPaint, may_paint}
use Rattle.gfx_planner.proofs.Seen.{seen}
use Rattle.gfx_planner.proofs.Streams.{AreChecked, Stands, along, bare, first_held, goes, held_through-cons, stands_at_start}
use Rattle.gfx_planner.proofs.TilesAccepted.{surface_elsewhere, surface_here}
use Rattle.gfx_planner.proofs.Within.{areas_same, step_within}

-- in its rectangle each live tile shows what it is at its level
abbrev pub AllShow : Live → Surfaces → Type 0
AllShow live surfaces =
    (key : Key) (send : TileSend) (picture : Picture) → get live key ≡ Some send → get surfaces key.surface ≡ Some picture
    → (x y : ℕ) → x < picture.width → y < picture.height → holds send.rect x y ≡ true
    → pixel_at picture x y ≡ shown_at send.tile send.level (y - CELL_SIDE * send.cell.y) (x - CELL_SIDE * send.cell.x)

-- a format keeps a tile's pixel, which is opaque
pub tile-kept : (format : Format) (tile : SourceTile) (level y x : ℕ) → shade format (shown_at tile level y x) ≡ shown_at tile level y x
tile-kept Xrgb tile level y x = refl
tile-kept Argb tile level y x = refl

-- ---- tiles are sent

module _ (setting : Setting) (live : Live) (records : Records) (surfaces : Surfaces) (tiles : HoldsTiles setting live records surfaces) (shows : AllShow live surfaces) where
  -- the tiles of a surface
  live-shows : (id : ℕ) (picture : Picture) → get surfaces id ≡ Some picture → LiveShows id live picture
  live-shows id picture there key send same found x y column row hit =
      shows key send picture found (ap (get surfaces) same ∙ there) x y column row hit
      ∙ sym (tile-kept picture.format send.tile send.level (y - CELL_SIDE * send.cell.y) (x - CELL_SIDE * send.cell.x))

  sent-show : (id : ℕ) (sends : List TileSend) (picture : Picture) → get surfaces id ≡ Some picture → AllByRecursion (WasSent setting picture.width picture.height) sends
      → AllShow (after_sends id sends live) (insert surfaces id (after_showing id sends picture))
  sent-show id sends picture there was key send after found is = by (cases_eq key.surface id)
    where
      by : (key.surface ≡ id) ⊎ (key.surface ≢ id) → (x y : ℕ) → x < after.width → y < after.height → holds send.rect x y ≡ true
          → pixel_at after x y ≡ shown_at send.tile send.level (y - CELL_SIDE * send.cell.y) (x - CELL_SIDE * send.cell.x)
      by (inl at) x y =
          let one : Some (after_showing id sends picture) ≡ Some after = sym (surface_here surfaces id (after_showing id sends picture) key.surface at) ∙ is in
          let same : after_showing id sends picture ≡ after = cc in
          subst (λ (p : Picture). x < p.width → y < p.height → holds send.rect x y ≡ true → pixel_at p x y ≡ shown_at send.tile send.level (y - CELL_SIDE * send.cell.y) (x - CELL_SIDE * send.cell.x)) same
          (λ column row hit.
          live-shows-after setting id picture.width picture.height sends live (scene records picture) was (tiles.each id picture there) (live-shows id picture there) key send at found x y column row hit
          ∙ tile-kept (after_showing id sends picture).format send.tile send.level (y - CELL_SIDE * send.cell.y) (x - CELL_SIDE * send.cell.x))
      by (inr apart) x y =
          shows key send after (sym (live-elsewhere id key apart sends live) ∙ found) (sym (surface_elsewhere surfaces id (after_showing id sends picture) key.surface apart) ∙ is) x y

-- a surface that is drawn on
drawn-surfaces : (shown : Shown) (id : ℕ) (o : Option Picture) (draw : Picture → Picture) (picture : Picture) → o ≡ Some picture → (drawn_on shown id o draw).surfaces ≡ insert shown.surfaces id (draw picture)
unfolding drawn_on
drawn-surfaces shown id o draw picture there = ap (λ z. (drawn_on shown id z draw).surfaces) there

-- what is painted in passes
paint-shows : (script : Script) (wanted : Wanted) (records : Records) (id : ℕ) (at : Point) (o : Option Source) (source : Source) (surface : Picture) → o ≡ Some source
    → get wanted.shown.surfaces id ≡ Some surface → IsSetting script.setting → IsRect (place_of source at) → lies_in surface.width surface.height (place_of source at) ≡ true → has_pixels (place_of source at) ≡ true
    → HoldsTiles script.setting wanted.passes.live records wanted.shown.surfaces → AllShow wanted.passes.live wanted.shown.surfaces
    → AllShow (painted_passes script wanted.passes id o at).live (with_tiles script wanted o id at).shown.surfaces
unfolding painted_passes with_tiles
paint-shows script wanted records id at o source surface drawn there set rect inside some tiles shows =
    let sends : List TileSend = painted_sends script wanted.passes.live id source (place_of source at) in
    subst (λ o. AllShow (painted_passes script wanted.passes id o at).live (with_tiles script wanted o id at).shown.surfaces) (sym drawn)
    (subst (AllShow (after_sends id sends wanted.passes.live)) (sym (drawn-surfaces wanted.shown id (get wanted.shown.surfaces id) (after_showing id sends) surface there))
    (sent-show script.setting wanted.passes.live records wanted.shown.surfaces tiles shows id sends surface there
    (painted-sent script wanted.passes.live id surface.width surface.height source (place_of source at) records set rect inside some (tiles.each id surface there))))

-- and what is improved
improved-shows : (setting : Setting) (wanted : Wanted) (records : Records) (id : ℕ) → HoldsTiles setting wanted.passes.live records wanted.shown.surfaces → AllShow wanted.passes.live wanted.shown.surfaces
    → AllShow (improved_passes wanted.passes id (get wanted.shown.surfaces id)).live (with_improved wanted (get wanted.shown.surfaces id) id).shown.surfaces
unfolding improved_passes with_improved
improved-shows setting wanted records id tiles shows = by (get wanted.shown.surfaces id) refl
  where
    changed : (surface : Picture) (sends : List TileSend) → get wanted.shown.surfaces id ≡ Some surface → AllByRecursion (WasSent setting surface.width surface.height) sends
        → AllShow (after_sends id sends wanted.passes.live) (drawn_on wanted.shown id (get wanted.shown.surfaces id) (after_showing id sends)).surfaces
    changed surface sends there was =
        subst (AllShow (after_sends id sends wanted.passes.live)) (sym (drawn-surfaces wanted.shown id (get wanted.shown.surfaces id) (after_showing id sends) surface there))
        (sent-show setting wanted.passes.live records wanted.shown.surfaces tiles shows id sends surface there was)

    by : (o : Option Picture) → get wanted.shown.surfaces id ≡ o → AllShow (improved_passes wanted.passes id o).live (with_improved wanted o id).shown.surfaces
    by None none = shows
    by (Some surface) there =
        changed surface (improved_sends wanted.passes.live id surface.width surface.height) there
        (improved-sent setting wanted.passes.live id surface.width surface.height records (tiles.each id surface there))

-- ---- other steps

-- an area, if there is one, has nothing of a cell
abbrev Misses : Option Area → Key → Type 0
Misses None key = Unit {0}
Misses (Some written) key = written.surface ≡ key.surface → AllByRecursion (λ rect. meets rect (cell key.x key.y) ≡ false) written.rects

neither : (a b : Bool) → (a || b) ≡ false → (a ≡ false) × (b ≡ false)
neither true b e = absurd cc
neither false b e = (refl, e)

none-of : (test : Rect → Bool) (rects : List Rect) → list_any test rects ≡ false → AllByRecursion (λ rect. test rect ≡ false) rects
none-of test [] e = tt
none-of test (rect ∷ rects) e = let both = neither (test rect) (list_any test rects) e in (both.0, none-of test rects both.1)

not-second : (a b : Bool) → not (a && b) ≡ true → a ≡ true → b ≡ false
not-second true true e is = absurd cc
not-second true false e is = refl
not-second false b e is = absurd cc

-- what is live after a change was live, and the change misses its cell
ended-live : (passes : Passes) (written : Option Area) (key : Key) (send : TileSend) → get (ended_by passes written).live key ≡ Some send → (get passes.live key ≡ Some send) × Misses written key
unfolding ended_by
ended-live passes None key send found = (found, tt)
ended-live passes (Some written) key send found =
    let left = retained-live passes.live (λ k. not (k.surface == written.surface && list_any (λ rect. meets rect (cell k.x k.y)) written.rects)) key send found in (
      left.0,
      λ same.
          none-of (λ rect. meets rect (cell key.x key.y)) written.rects
          (not-second (key.surface == written.surface) (list_any (λ rect. meets rect (cell key.x key.y)) written.rects) left.1 (eq-eqb key.surface written.surface (sym same))),
    )

step-ends : (script : Script) (sides_of : ℕ → Option Sides) (surfaces : Surfaces) (passes : Passes) (kind : Option Kind) (step : Step) → sends_tiles script.thin kind step ≡ false
    → (key : Key) (send : TileSend) → get (passes_as script sides_of surfaces passes kind step).live key ≡ Some send → (get passes.live key ≡ Some send) × Misses (writes_by script sides_of step) key
unfolding passes_as writes_by
step-ends script sides_of surfaces passes kind (Delete id) apart key send found = ((retained-live passes.live (λ k. not (k.surface == id)) key send found).0, tt)
step-ends script sides_of surfaces passes kind (Improve id) apart key send found = absurd cc
step-ends script sides_of surfaces passes kind (Paint id picture at named glyph) apart key send found =
    let written : Option Area = writes_by script sides_of (Paint id picture at named glyph) in
    ended-live passes written key send
    (subst (λ (l : Live). get l key ≡ Some send) (live_left script passes (goes_by script.thin kind) id (slice_get script.pictures picture) at written apart).0 found)
step-ends script sides_of surfaces passes kind step apart key send found = ended-live passes (writes_by script sides_of step) key send found

-- a pixel of a tile lies outside of a rectangle that has nothing of its cell
beside-cell : (rect : Rect) (column row x y : ℕ) → InCell column row x y → meets rect (cell column row) ≡ false → holds rect x y ≡ false
beside-cell rect column row x y inside miss = by (holds rect x y) refl
  where
    met : CELL_SIDE * column ≤ x → x < CELL_SIDE * column + CELL_SIDE → CELL_SIDE * row ≤ y → y < CELL_SIDE * row + CELL_SIDE → holds rect x y ≡ true → meets rect (cell column row) ≡ true
    met left right top bottom hit = grind (arith, nat_tests)

    by : (b : Bool) → holds rect x y ≡ b → b ≡ false
    by false e = refl
    by true e = let met : meets rect (cell column row) ≡ true = met inside.left inside.right inside.top inside.bottom e in absurd cc

outside-of : (written : Option Area) (key : Key) (x y : ℕ) → InCell key.x key.y x y → Misses written key → IsOutside written key.surface x y
outside-of None key x y inside miss = tt
outside-of (Some written) key x y inside miss =
    λ same. all-more (λ rect. meets rect (cell key.x key.y) ≡ false) (λ rect. holds rect x y ≡ false) (λ rect far. beside-cell rect key.x key.y x y inside far) written.rects (miss same)

-- a pixel of a tile is one of its surface
in-surface : (width height : ℕ) (rect : Rect) (x y : ℕ) → lies_in width height rect ≡ true → holds rect x y ≡ true → (x < width) × (y < height)
in-surface width height rect x y inside hit =
    let right : rect.right ≤ width = grind (arith, nat_tests) in
    let bottom : rect.bottom ≤ height = grind (arith, nat_tests) in
    let column : x < rect.right = grind (arith, nat_tests) in
    let row : y < rect.bottom = grind (arith, nat_tests) in
    (omega (arith, right, column), omega (arith, bottom, row))

-- a change in an area leaves what the tiles show whose cells it misses
missed-show : (setting : Setting) (written : Option Area) (live left : Live) (records : Records) (old new : Surfaces) → HoldsTiles setting live records old → ChangesWithin written old new
    → ((key : Key) (send : TileSend) → get left key ≡ Some send → (get live key ≡ Some send) × Misses written key) → AllShow live old → AllShow left new
missed-show setting written live left records old new tiles within ends shows key send after found is x y column row hit = by (get old key.surface) refl
  where
    was : (get live key ≡ Some send) × Misses written key
    was = ends key send found

    by : (o : Option Picture) → get old key.surface ≡ o → pixel_at after x y ≡ shown_at send.tile send.level (y - CELL_SIDE * send.cell.y) (x - CELL_SIDE * send.cell.x)
    by None none = let gone : get live key ≡ None = tiles.others key none in let some : get live key ≡ Some send = was.0 in absurd cc
    by (Some before) there =
        let sent = (tiles.each key.surface before there).each key send refl was.0 in
        let there-too = in-surface before.width before.height send.rect x y sent.1.0.inside hit in
        let inside : InCell key.x key.y x y = subst (λ (k : Key). InCell k.x k.y x y) (sym sent.0) (rect-in-cell send x y sent.1.0.in_cell hit) in
        within.each key.surface x y before after there is column row (outside-of written key x y inside was.1)
        ∙ shows key send before was.0 there x y there-too.0 there-too.1 hit

-- ---- steps

-- the live tiles of what is wanted agree with the records of the server's end
pub tiles-wanted : (script : Script) (held : Held) (server : Server) (wanted : Wanted) → Holds script held server → Agree server wanted → HoldsTiles script.setting wanted.passes.live server.state.records wanted.shown.surfaces
tiles-wanted script held server wanted holds agree =
    subst (λ (s : Shown). HoldsTiles script.setting wanted.passes.live server.state.records s.surfaces) agree.shown
    (subst (λ (p : Passes). HoldsTiles script.setting p.live server.state.records server.state.shown.surfaces) agree.passes holds.tiles)

has-some : (picture : Source) (at : Point) → IsDrawn picture → has_pixels (place_of picture at) ≡ true
has-some picture at drawn = by drawn.width_from drawn.height_from
  where
    by : 1 ≤ picture.width → 1 ≤ picture.height → has_pixels (place_of picture at) ≡ true
    by across down = grind (arith, nat_tests)

in-passes-show : (script : Script) (server : Server) (held after : Held) (wanted : Wanted) (kind : Option Kind) (step : Step) → sends_tiles script.thin kind step ≡ true → Holds script held server → Agree server wanted
    → IsStep step → held_after held step ≡ Ok after → AllShow wanted.passes.live wanted.shown.surfaces
    → AllShow (passes_wanted script wanted kind step).live (wanted_as script wanted kind step).shown.surfaces
unfolding passes_as wanted_as held_after
in-passes-show script server held after wanted kind (Paint id number at named glyph) passes holds agree numbers checked shows =
    let may : MayPaint script server id number at glyph = (may_paint script server held after id number at named glyph (seen script held server holds) numbers.1 numbers.2 checked).0 in
    let source : Option Source = slice_get script.pictures number in
    let written : Option Area = writes_by script (sides_kept wanted.plan wanted.slots) (Paint id number at named glyph) in
    subst (λ (p : Passes). AllShow p.live (with_painting script wanted (goes_by script.thin kind) source id at).shown.surfaces) (sym (live_in_passes script wanted.passes (goes_by script.thin kind) id source at written passes))
    (subst (λ (w : Wanted). AllShow (painted_passes script wanted.passes id source at).live w.shown.surfaces) (sym (painted_in_passes script wanted (goes_by script.thin kind) source id at passes))
    (paint-shows script wanted server.state.records id at source may.picture may.surface may.drawn (ap (λ (s : Shown). get s.surfaces id) (sym agree.shown) ∙ may.there) holds.setting may.place may.inside
    (has-some may.picture at may.sides) (tiles-wanted script held server wanted holds agree) shows))
in-passes-show script server held after wanted kind (Improve id) passes holds agree numbers checked shows =
    improved-shows script.setting wanted server.state.records id (tiles-wanted script held server wanted holds agree) shows
in-passes-show script server held after wanted kind step passes holds agree numbers checked shows = absurd cc

step-shows : (script : Script) (server : Server) (held after : Held) (wanted : Wanted) (kind : Option Kind) (step : Step) → Holds script held server → Agree server wanted → IsStep step
    → held_after held step ≡ Ok after → AllShow wanted.passes.live wanted.shown.surfaces
    → AllShow (passes_wanted script wanted kind step).live (wanted_as script wanted kind step).shown.surfaces
step-shows script server held after wanted kind step holds agree numbers checked shows = by (sends_tiles script.thin kind step) refl
  where
    written : Option Area
    written = writes_by script (sides_kept wanted.plan wanted.slots) step

    by : (b : Bool) → sends_tiles script.thin kind step ≡ b → AllShow (passes_wanted script wanted kind step).live (wanted_as script wanted kind step).shown.surfaces
    by true passes = in-passes-show script server held after wanted kind step passes holds agree numbers checked shows
    by false apart =
        missed-show script.setting written wanted.passes.live (passes_wanted script wanted kind step).live server.state.records wanted.shown.surfaces (wanted_as script wanted kind step).shown.surfaces
        (tiles-wanted script held server wanted holds agree)
        (subst (λ w. ChangesWithin w wanted.shown.surfaces (wanted_as script wanted kind step).shown.surfaces) (sym (areas_same held script server wanted step holds agree))
        (step_within script held server wanted kind step holds agree))
        (step-ends script (sides_kept wanted.plan wanted.slots) wanted.shown.surfaces wanted.passes kind step apart) shows

-- what is wanted shows its tiles
abbrev pub WantedShows : Wanted → Type 0
WantedShows wanted = AllShow wanted.passes.live wanted.shown.surfaces

-- so step by step
steps-show : (script : Script) (server : Server) (held after : Held) (wanted : Wanted) (steps : List KindedStep) → server.frames + length steps < 2 ^ 32 → Stands script server held wanted
    → AllByRecursion IsStep (bare steps) → AllByRecursion HasKind steps → held_through held (bare steps) ≡ Ok after → WantedShows wanted → WantedShows (fold (wanted_after script) wanted steps)
steps-show script server held after wanted [] few stands numbers kinds checked shows = shows
steps-show script server held after wanted (one ∷ steps) few stands numbers kinds checked shows =
    let c = held_through-cons held after one.step (bare steps) checked in
    let first = goes script server held c.0 wanted one (omega arith) stands numbers.0 kinds.0 c.1 in
    steps-show script (served script server one) c.0 after (wanted_after script wanted one) steps (omega (arith, first.frames)) first.stands numbers.1 kinds.1 c.2
    (step-shows script server held c.0 wanted one.kind one.step stands.holds stands.agrees numbers.0 c.1 shows)

-- before the first step nothing is live
start-shows : (small : Bool) → WantedShows (nothing_wanted small)
start-shows small key send picture found is = let none : get (empty {X = TileSend} {R = key_cmp}) key ≡ None = get-empty key_cmp key in absurd cc

-- the promise
pub live-tiles-shown : LiveTilesAreShown
live-tiles-shown script front rest good fits =
    let a = along script front rest good fits in
    let checks : AreChecked script front a.held = a.front_checked in
    let stands = a.streams.stands in
    let shows = steps-show script (at_start script.small) (first_held script) a.held (nothing_wanted script.small) front checks.few (stands_at_start script good) checks.numbers checks.kinds checks.through
    (start-shows script.small) in
    let tiles = tiles-wanted script a.held _ _ stands.holds stands.agrees in
    record {
      each = λ key send picture x y is. shows key send picture is.live is.there x y is.column is.row is.inside;
      last = λ key send picture x y is last.
          shows key send picture is.live is.there x y is.column is.row is.inside
          ∙ ap (λ n. shown_at send.tile n (y - CELL_SIDE * send.cell.y) (x - CELL_SIDE * send.cell.x)) last
          ∙ last-shown send.tile ((tiles.each key.surface picture is.there).each key send refl is.live).1.0.may (y - CELL_SIDE * send.cell.y) (x - CELL_SIDE * send.cell.x);
    }
