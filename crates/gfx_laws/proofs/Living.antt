-- The life of a live tile.
use Rattle.std.proofs.Common.{◌≡◌, ◌∙◌, ◌+◌, ◌*◌, ◌<◌, ◌≤◌, ◌&&◌, ◌==◌, ◌+ℤ◌, not, ℕ, zero, suc, Bool, true, false, cond, if◌then◌else◌, List, ◌∷◌, length, Option, Some, None, refl, sym, ap, subst, arith, eq-eqb, eqb-true}
use Rattle.std.specs.FinMap.{get, get-retain_keys}
use Rattle.std.specs.List.{slice_get}
use Rattle.std.specs.Ordering.{eq_by_cmp}
use Rattle.std.proofs.lemmas.Bool.Decides.{nat_tests}
use Rattle.gfx_base.specs.declared.geometry.Cell.{Cell}
use Rattle.gfx_base.specs.declared.geometry.Point.{Point}
use Rattle.gfx_base.specs.declared.geometry.Rect.{Rect}
use Rattle.gfx_base.specs.declared.geometry.TheConstants.{CELL_SIDE}
use Rattle.gfx_base.specs.declared.pixel.Pixel.{Pixel}
use Rattle.gfx_base.specs.Cells.{cell, cells_met, cut_to_cell, has_pixels, meets}
use Rattle.gfx_base.specs.Geometry.{holds}
use Rattle.gfx_dwt.specs.Ranges.{at}
use Rattle.gfx_prog_decode.specs.declared.key.Key.{Key}
use Rattle.gfx_prog_decode.specs.Records.{key_cmp}
use Rattle.gfx_prog_decode.proofs.Keys.{key_same, tied}
use Rattle.gfx_prog_encode.specs.declared.send.TileSend.{TileSend}
use Rattle.gfx_prog_law.proofs.Apart.{Met, all-more, each-met}
use Rattle.gfx_prog_law.proofs.Ranges.{in-range-fits}
use Rattle.gfx_prog_law.proofs.Sends.{cut-some}
use Rattle.gfx_prog_live.specs.Cells.{cell_key}
use Rattle.gfx_prog_live.specs.Live.{Live, Passes, after_sends, painted_sends, send_of, without_surface}
use Rattle.gfx_prog_live.specs.Tiles.{cell_pixels, gone_on, is_in_range, stays_within}
use Rattle.gfx_quant.specs.declared.quant.Component.{Component}
use Rattle.gfx_quant.specs.declared.quant.Component.TheVariants.{Y, Cb, Cr}
use Rattle.gfx_quant.specs.Coefficient.{is_coefficient}
use Rattle.gfx_quant.specs.Setting.{all_below}
use Rattle.gfx_script.specs.declared.picture.Picture.{Picture as Source}
use Rattle.gfx_script.specs.declared.step.Kind.{Kind}
use Rattle.gfx_script.specs.declared.step.Step.{Step}
use Rattle.gfx_script.specs.declared.step.Step.TheVariants.{Delete, Improve, Paint}
use Rattle.gfx_script.specs.Kinds.{as_kind}
use Rattle.gfx_script.specs.Scripted.{Script}
use Rattle.gfx_script.specs.Ways.{goes_by}
use Rattle.gfx_script.specs.Writes.{Area, place_of, writes_by}
use Rattle.gfx_tile_make.specs.Levels.{Fits, record_at}
use Rattle.gfx_tile_make.specs.Source.{SourceTile, difference_of, planes_of, source_of}
use Rattle.gfx_tile_state.specs.Passes.{blank}
use Rattle.gfx_planner.specs.Bitmaps.{sides_kept}
use Rattle.gfx_planner.specs.Passes.{ended_by, painted_passes, passes_as}
use Rattle.gfx_planner.specs.TileSteps as steps
use Rattle.gfx_planner.specs.Wanted.{Wanted}
use Rattle.gfx_planner.specs.Want.{want_from, wanted_after}
use Rattle.gfx_planner.proofs.PaintSteps.{MayPaint}
use Rattle.gfx_planner.proofs.Ways.{live_in_passes, live_left}
use Rattle.gfx_laws.specs.Lives.{GoesOnByPaint, GoesOnWhereItMay, IsPaintedTile, LiveTilesGoOn, MayGoOn, Paints, TilesGoOn, is_written_in, whole_cell}
use Rattle.gfx_laws.specs.PassesShown.{GoesOn}
use Rattle.gfx_laws.specs.Written.{goes_in_passes, writes_in}
use Rattle.gfx_laws.proofs.Fronts.{Here, along, here}
use Rattle.gfx_laws.proofs.Lasting.{left-live, raises-here, touches}
use Rattle.gfx_laws.proofs.Nearest.{cell-nearest}
use Rattle.gfx_laws.proofs.Painted.{onto-kept, plain-kept, tile-is}
use Rattle.gfx_laws.proofs.Seeing.{same-goes}
use Rattle.gfx_laws.proofs.Tiling.{paint-some, painted-beside, painted-live, some-pixels}
use Rattle.gfx_laws.proofs.Where.{writes-same}

-- ---- what a tile goes on

both-true : (a b : Bool) → a ≡ true → b ≡ true → (a && b) ≡ true
both-true a b e f = rw (e, f) refl

-- what holds of each number below one is a test of all
below-each : (n : ℕ) (test : ℕ → Bool) → ((k : ℕ) → k < n → test k ≡ true) → all_below n test ≡ true
unfolding all_below
below-each zero test each = refl
below-each (suc n) test each = both-true (all_below n test) (test n) (below-each n test (λ k less. each k (omega (arith, less)))) (each n (omega arith))

fits-in-range : (tile : SourceTile) → Fits tile → is_in_range tile ≡ true
unfolding is_in_range
fits-in-range tile fits = both-true (levels-fit Y) _ (component-fits Y) (both-true (levels-fit Cb) _ (component-fits Cb) (both-true (levels-fit Cr) true (component-fits Cr) refl))
  where
    levels-fit : Component → Bool
    levels-fit component = all_below (suc (length tile.setting.levels)) (λ level. stays_within (record_at tile component level))

    record-fits : (component : Component) (level : ℕ) → level < suc (length tile.setting.levels) → stays_within (record_at tile component level) ≡ true
    record-fits component level less =
        below-each 4096 (λ k. is_coefficient (at (record_at tile component level).sums k) && is_coefficient (at (record_at tile component level).kept k +ℤ at (record_at tile component level).sums k))
        (λ k small. let within = fits component level (omega (arith, less)) k small in both-true _ _ within.0 within.1)

    component-fits : (component : Component) → levels-fit component ≡ true
    component-fits component = below-each (suc (length tile.setting.levels)) (λ level. stays_within (record_at tile component level)) (record-fits component)

all-three : (a b c : Bool) → (a && b && c) ≡ true → (a ≡ true) × ((b ≡ true) × (c ≡ true))
all-three true true true e = (refl, (refl, refl))
all-three true true false e = absurd cc
all-three true false c e = absurd cc
all-three false b c e = absurd cc

three-true : (a b c : Bool) → a ≡ true → b ≡ true → c ≡ true → (a && b && c) ≡ true
three-true a b c e f g = rw (e, f, g) refl

abbrev may-go-on : Script → TileSend → SourceTile → Bool
may-go-on script old tile = script.differences && (old.level == length old.tile.setting.levels) && is_in_range (difference_of tile old.tile)

goes-by : (script : Script) (old : TileSend) (tile : SourceTile) → tile.difference ≡ false → ((component : Component) → (planes_of tile component).kept ≡ blank) → (b : Bool) → may-go-on script old tile ≡ b
    → GoesOnWhereItMay script (Some old) (if b then difference_of tile old.tile else tile)
goes-by script old tile plain alone true e =
    let told = all-three script.differences (old.level == length old.tile.setting.levels) (is_in_range (difference_of tile old.tile)) e in
    let finished : old.level ≡ length old.tile.setting.levels = eqb-true old.level (length old.tile.setting.levels) told.1.0 in
    record {
      on = λ other is may.
          let same : old ≡ other = cc in
          (refl, subst (λ o. GoesOn o (difference_of tile old.tile)) same (record { finished = finished; kept = onto-kept tile old.tile }));
      alone = λ never. absurd (never old refl (told.0, (finished, in-range-fits (difference_of tile old.tile) told.1.1)));
    }
goes-by script old tile plain alone false e = record {
  on = λ other is may.
      let same : other ≡ old = cc in
      let its : MayGoOn script old tile = subst (λ o. MayGoOn script o tile) same may in
      let yes : may-go-on script old tile ≡ true = three-true script.differences (old.level == length old.tile.setting.levels) (is_in_range (difference_of tile old.tile)) its.0
      (eq-eqb old.level (length old.tile.setting.levels) its.1.0) (fits-in-range (difference_of tile old.tile) its.1.1) in
      absurd (let both : true ≡ false = sym yes ∙ e in cc);
  alone = λ never. (plain, alone);
}

goes-where : (script : Script) (before : Option TileSend) (pixels : List Pixel) → GoesOnWhereItMay script before (gone_on script.differences before (source_of script.setting pixels))
unfolding gone_on
goes-where script None pixels = record { on = λ old is may. absurd cc; alone = λ never. (refl, plain-kept script.setting pixels) }
goes-where script (Some old) pixels =
    goes-by script old (source_of script.setting pixels) refl (plain-kept script.setting pixels) (may-go-on script old (source_of script.setting pixels)) refl

-- ---- a paint in passes

same-bool : (a b : Bool) → (a ≡ true → b ≡ true) → (b ≡ true → a ≡ true) → a ≡ b
same-bool true b there back = sym (there refl)
same-bool false true there back = back refl
same-bool false false there back = refl

cut-part : (rect : Rect) (column row x y : ℕ) → holds (cut_to_cell rect (cell column row)) x y ≡ (holds rect x y && holds (whole_cell column row) x y)
cut-part rect column row x y = same-bool (holds (cut_to_cell rect (cell column row)) x y) (holds rect x y && holds (whole_cell column row) x y) there back
  where
    there : holds (cut_to_cell rect (cell column row)) x y ≡ true → (holds rect x y && holds (whole_cell column row) x y) ≡ true
    there hit = grind (arith, nat_tests)

    back : (holds rect x y && holds (whole_cell column row) x y) ≡ true → holds (cut_to_cell rect (cell column row)) x y ≡ true
    back hit = grind (arith, nat_tests)

met-of : (rect : Rect) (c : Cell) → meets rect c ≡ true → Met rect c
met-of rect c hit =
    let left : rect.left < CELL_SIDE * c.x + CELL_SIDE = grind (arith, nat_tests) in
    let right : CELL_SIDE * c.x < rect.right = grind (arith, nat_tests) in
    let top : rect.top < CELL_SIDE * c.y + CELL_SIDE = grind (arith, nat_tests) in
    let bottom : CELL_SIDE * c.y < rect.bottom = grind (arith, nat_tests) in
    record { left = left; right = right; top = top; bottom = bottom }

painted-tile : (script : Script) (live : Live) (id : ℕ) (source : Source) (at : Point) (column row : ℕ) → 1 ≤ source.width → 1 ≤ source.height
    → IsPaintedTile script (get live (cell_key id (cell column row))) source at column row (send_of script live id source (place_of source at) (cell column row))
unfolding send_of
painted-tile script live id source at column row wide high = record {
  level = refl;
  place = refl;
  part = cut-part (place_of source at) column row;
  pixels = cell_pixels source (place_of source at) (cell column row);
  nearest = cell-nearest source at column row wide high;
  is = tile-is script.setting (cell_pixels source (place_of source at) (cell column row)) script.differences (get live (cell_key id (cell column row)));
  goes_on = goes-where script (get live (cell_key id (cell column row))) (cell_pixels source (place_of source at) (cell column row));
}

-- a key of a cell that isn't met
unmet-key : (id : ℕ) (rect : Rect) (key : Key) (c : Cell) → has_pixels rect ≡ true → Met rect c → ((column row : ℕ) → key ≡ cell_key id (cell column row) → meets rect (cell column row) ≡ false) → eq_by_cmp key_cmp key (cell_key id c) ≡ false
unmet-key id rect key c some met unmet = by (eq_by_cmp key_cmp key (cell_key id c)) refl
  where
    by : (b : Bool) → eq_by_cmp key_cmp key (cell_key id c) ≡ b → b ≡ false
    by false e = refl
    by true e = absurd (let both : true ≡ false = sym (cut-some rect c met some) ∙ unmet c.x c.y (tied key (cell_key id c) e) in cc)

paints-by : (script : Script) (passes : Passes) (id : ℕ) (o : Option Source) (source : Source) (at : Point) → o ≡ Some source → (painted_passes script passes id o at).live ≡ after_sends id (painted_sends script passes.live id source (place_of source at)) passes.live
unfolding painted_passes
paints-by script passes id o source at is = ap (λ z. (painted_passes script passes id z at).live) is

module _ (script : Script) (wanted : Wanted) (kind : Option Kind) (id number : ℕ) (at : Point) (named : Option Kind) (glyph : Option ℕ) (h : Here script wanted (as_kind kind (Paint id number at named glyph))) where
  abbrev painting : Step
  painting = Paint id number at named glyph

  abbrev new : Wanted
  new = wanted_after script wanted (as_kind kind painting)

  in-passes : steps.goes_in_passes (goes_by script.thin kind) ≡ true → (source : Source) → slice_get script.pictures number ≡ Some source → Paints script id source at wanted new
  unfolding passes_as
  in-passes goes source drawn =
      let may : MayPaint script h.server id number at glyph = paint-some script wanted kind id number at named glyph h in
      let same : may.picture ≡ source = (let one : Some may.picture ≡ Some source = sym may.drawn ∙ drawn in cc) in
      let place : Rect = place_of source at in
      let some : has_pixels place ≡ true = subst (λ s. has_pixels (place_of s at) ≡ true) same (some-pixels may.picture at may.sides) in
      let wide : 1 ≤ source.width = subst (λ (s : Source). 1 ≤ s.width) same may.sides.width_from in
      let high : 1 ≤ source.height = subst (λ (s : Source). 1 ≤ s.height) same may.sides.height_from in
      let live : new.passes.live ≡ after_sends id (painted_sends script wanted.passes.live id source place) wanted.passes.live =
      ap (λ (p : Passes). p.live) (live_in_passes script wanted.passes (goes_by script.thin kind) id (slice_get script.pictures number) at (writes_by script (sides_kept wanted.plan wanted.slots) painting) goes)
      ∙ paints-by script wanted.passes id (slice_get script.pictures number) source at drawn in
      record {
        met = λ column row hit. record {
          send = send_of script wanted.passes.live id source place (cell column row);
          there = ap (λ l. get l (cell_key id (cell column row))) live ∙ painted-live script wanted.passes.live id source place (cell column row) (met-of place (cell column row) hit);
          is = painted-tile script wanted.passes.live id source at column row wide high;
        };
        others = λ key unmet.
            ap (λ l. get l key) live
            ∙ painted-beside script wanted.passes.live id source place key
            (all-more (Met place) (λ c. eq_by_cmp key_cmp key (cell_key id c) ≡ false) (λ c met. unmet-key id place key c some met unmet) (cells_met place) (each-met place some));
      }

-- ---- steps

same-touches : (o : Option Area) (key : Key) → touches o key ≡ is_written_in o key
same-touches None key = refl
same-touches (Some written) key = refl

ended-as : (passes : Passes) (o : Option Area) (key : Key) → get (ended_by passes o).live key ≡ (if is_written_in o key then None else get passes.live key)
ended-as passes o key = left-live passes o key ∙ ap (λ b. if b then None else get passes.live key) (same-touches o key)

ended-in : (script : Script) (wanted : Wanted) (step : Step) (o : Option Area) (key : Key) → writes_in script wanted step ≡ o
    → get (ended_by wanted.passes o).live key ≡ (if is_written_in (writes_in script wanted step) key then None else get wanted.passes.live key)
ended-in script wanted step o key same = ended-as wanted.passes o key ∙ ap (λ z. if is_written_in z key then None else get wanted.passes.live key) (sym same)

deleted-as : (live : Live) (id : ℕ) (key : Key) → get (without_surface live id) key ≡ (if key.surface == id then None else get live key)
deleted-as live id key =
    get-retain_keys live (λ k. not (k.surface == id)) key (λ q tie. ap (λ (k : Key). not (k.surface == id)) (sym (key_same key q tie))) ∙ turned (key.surface == id) (get live key)
  where
    turned : (b : Bool) (o : Option TileSend) → cond (not b) o None ≡ (if b then None else o)
    turned true o = refl
    turned false o = refl

step-goes : (script : Script) (wanted : Wanted) (kind : Option Kind) (step : Step) → Here script wanted (as_kind kind step) → TilesGoOn script kind step wanted (wanted_after script wanted (as_kind kind step))
unfolding passes_as writes_by
step-goes script wanted kind (Improve id) h = raises-here script wanted kind id h
step-goes script wanted kind (Delete id) h = deleted-as wanted.passes.live id
step-goes script wanted kind (Paint id number at named glyph) h = by (goes_in_passes (goes_by script.thin kind)) refl
  where
    by : (b : Bool) → goes_in_passes (goes_by script.thin kind) ≡ b
        → GoesOnByPaint b script (Paint id number at named glyph) id (slice_get script.pictures number) at wanted (wanted_after script wanted (as_kind kind (Paint id number at named glyph)))
    by true goes = in-passes script wanted kind id number at named glyph h (same-goes (goes_by script.thin kind) ∙ goes)
    by false apart = λ key.
        ap (λ (l : Live). get l key) (live_left script wanted.passes (goes_by script.thin kind) id (slice_get script.pictures number) at (writes_by script (sides_kept wanted.plan wanted.slots) (Paint id number at named glyph)) (same-goes (goes_by script.thin kind) ∙ apart)).0
        ∙ ended-in script wanted (Paint id number at named glyph) (writes_by script (sides_kept wanted.plan wanted.slots) (Paint id number at named glyph)) key (writes-same script wanted (Paint id number at named glyph))
step-goes script wanted kind step h = λ key. ended-in script wanted step (writes_by script (sides_kept wanted.plan wanted.slots) step) key (writes-same script wanted step)

-- the promise
pub tiles-go-on : LiveTilesGoOn
tiles-go-on start script front rest one go =
    step-goes script (want_from script start.wanted front) one.kind one.step (here script (want_from script start.wanted front) one rest (along start script front (one ∷ rest) go))
