-- Each pixel is as a step wrote it.
use Rattle.std.proofs.Common.{◌≡◌, ◌∙◌, ◌+◌, ◌-◌, ◌*◌, ◌/◌, ◌%◌, ◌<◌, ◌≤◌, ℕ, Bool, true, false, if◌then◌else◌, List, [], ◌∷◌, ◌++◌, filter, fold, length, Option, Some, None, refl, sym, ap, subst, arith, append_assoc}
use Rattle.std.specs.FinMap.{get}
use Rattle.std.specs.List.{slice_get}
use Rattle.std.proofs.lemmas.Bool.Decides.{nat_tests}
use Rattle.std.proofs.lemmas.List.Sums.{fold-append}
use Rattle.gfx_base.specs.declared.format.Format.{Format}
use Rattle.gfx_base.specs.declared.geometry.Point.{Point}
use Rattle.gfx_base.specs.declared.geometry.Rect.{Rect}
use Rattle.gfx_base.specs.declared.geometry.TheConstants.{CELL_SIDE}
use Rattle.gfx_base.specs.declared.pixel.Pixel.{Pixel}
use Rattle.gfx_base.specs.Cells.{cell, cells_met, cut_to_cell, has_pixels}
use Rattle.gfx_base.specs.Geometry.{IsRect, holds, lies_in}
use Rattle.gfx_prog_encode.specs.declared.send.TileSend.{TileSend}
use Rattle.gfx_prog_law.specs.Taken.{WasSent}
use Rattle.gfx_prog_law.proofs.Apart.{Met, all-unmap, at-cell}
use Rattle.gfx_prog_law.proofs.Painting.{painted-sent}
use Rattle.gfx_prog_law.proofs.Seen.{SameShape, painted-pixel, showing-shape}
use Rattle.gfx_prog_live.specs.Live.{Passes, after_sends, painted_sends, send_of}
use Rattle.gfx_prog_live.specs.Showing.{after_showing}
use Rattle.gfx_prog_live.specs.Tiles.{cell_pixels}
use Rattle.gfx_quant.specs.declared.setting.Setting.{Setting}
use Rattle.gfx_script.specs.declared.picture.Picture.{Picture as Source}
use Rattle.gfx_script.specs.declared.step.Kind.{Kind}
use Rattle.gfx_script.specs.declared.step.Step.{Step}
use Rattle.gfx_script.specs.declared.step.Step.TheVariants.{Surface, Delete, Reset, Map, Fill, Copy, Keep, Show, Forget, Paint, Improve, Frame}
use Rattle.gfx_script.specs.declared.way.Way.{Way}
use Rattle.gfx_script.specs.declared.way.Way.TheVariants.{Uncompressed, ByLayer, InPasses, Video}
use Rattle.gfx_script.specs.Kinds.{KindedStep, as_kind}
use Rattle.gfx_script.specs.Scripted.{Script}
use Rattle.gfx_script.specs.Ways.{goes_by, is_in_passes, way_of}
use Rattle.gfx_script.specs.Writes.{place_of, writes_by}
use Rattle.gfx_surface.specs.Picture.{Picture, pixel_at}
use Rattle.gfx_tile_make.specs.Levels.{MayBeSent, shown_at}
use Rattle.gfx_tile_make.specs.Source.{SourceTile}
use Rattle.gfx_tile_make.proofs.Sources.{last-shown}
use Rattle.gfx_planner.specs.Bitmaps.{sides_kept}
use Rattle.gfx_planner.specs.Passes.{painted_passes, passes_as}
use Rattle.gfx_planner.specs.TileEffects.{with_tiles}
use Rattle.gfx_planner.specs.TileSteps.{sends_tiles}
use Rattle.gfx_planner.specs.TileSteps as steps
use Rattle.gfx_planner.specs.Wanted.{Wanted}
use Rattle.gfx_planner.specs.Want.{want_from, wanted_after, wanted_as}
use Rattle.gfx_planner.proofs.LiveShown.{tile-kept}
use Rattle.gfx_planner.proofs.PaintSteps.{MayPaint}
use Rattle.gfx_planner.proofs.Ways.{live_in_passes, painted_in_passes}
use Rattle.gfx_laws.specs.Decoded.{IsDecoded}
use Rattle.gfx_laws.specs.Levels.{IsAtLevel, PaintsShowTheirLevel}
use Rattle.gfx_laws.specs.PassesShown.{AreNearest, IsTileOf}
use Rattle.gfx_laws.specs.Seen.{ArePictures, IsThere, MayGo, WantedPixelsAreAsWritten}
use Rattle.gfx_laws.specs.Written.{HasPixel, IsPainted, IsWritten, ends_it, goes_in_passes, improvements, improves}
use Rattle.gfx_laws.proofs.Fronts.{Along, Here, along, first_part, here, next}
use Rattle.gfx_laws.proofs.Lasting.{IsOfNone, leaves-from, none-left, none-next, surface-stays, tiles-here}
use Rattle.gfx_laws.proofs.Nearest.{cell-nearest, has-height, has-width}
use Rattle.gfx_laws.proofs.Painted.{tile-is}
use Rattle.gfx_laws.proofs.Pictures.{pictures-wanted}
use Rattle.gfx_laws.proofs.Placing.{Placed, drawn-there, in-sides, painted-rects, placed, tile-decoded, wanted-there}
use Rattle.gfx_laws.proofs.Shapes.{IsKept}
use Rattle.gfx_laws.proofs.Staying.{step-stays}
use Rattle.gfx_laws.proofs.Tiling.{Tiled, cell_at, counted, key_at, meets_at, paint-some, painted-live, some-pixels, tiled-next}
use Rattle.gfx_laws.proofs.Where.{AllSpareAt, SparesAt, all-spare-at, writes-same, writes_at}

-- ---- a pixel that no live tile paints

pub record Rests (wanted : Wanted) (id x y : ℕ) (format : Format) (pixel : Pixel) : Type 0 where
  pub picture : Picture
  pub there : get wanted.shown.surfaces id ≡ Some picture
  pub column : x < picture.width
  pub row : y < picture.height
  pub format_is : picture.format ≡ format
  pub is : pixel_at picture x y ≡ pixel
  pub none : IsOfNone wanted.passes.live id x y

rests-next : (script : Script) (wanted : Wanted) (one : KindedStep) (id x y : ℕ) (format : Format) (pixel : Pixel) → Here script wanted one → SparesAt (λ rect. holds rect x y) id script wanted one.step
    → Rests wanted id x y format pixel → Rests (wanted_after script wanted one) id x y format pixel
rests-next script wanted one id x y format pixel h spares rests =
    let kept : IsKept (wanted_after script wanted one).shown.surfaces id rests.picture = surface-stays (λ rect. holds rect x y) script wanted one id rests.picture h rests.there spares in
    let column : x < kept.picture.width = subst (λ m. x < m) (sym kept.shape.width) rests.column in
    let row : y < kept.picture.height = subst (λ m. y < m) (sym kept.shape.height) rests.row in
    record {
      picture = kept.picture;
      there = kept.there;
      column = column;
      row = row;
      format_is = kept.shape.format ∙ rests.format_is;
      is = step-stays script h.held h.server wanted one id x y h.stands.holds h.stands.agrees (record { picture = rests.picture; there = rests.there; column = rests.column; row = rests.row })
          (record { picture = kept.picture; there = kept.there; column = column; row = row }) (leaves-from script wanted one.step id x y rests.none spares) rests.picture kept.picture rests.there kept.there
          ∙ rests.is;
      none = none-next script wanted one id x y h rests.none spares;
    }

rests-all : (script : Script) (wanted : Wanted) (steps : List KindedStep) (id x y : ℕ) (format : Format) (pixel : Pixel) → Along script wanted steps → AllSpareAt (λ rect. holds rect x y) id script wanted steps
    → Rests wanted id x y format pixel → Rests (fold (wanted_after script) wanted steps) id x y format pixel
rests-all script wanted [] id x y format pixel a spare rests = rests
rests-all script wanted (one ∷ steps) id x y format pixel a spare rests =
    rests-all script (wanted_after script wanted one) steps id x y format pixel (next script wanted one steps a) spare.1
    (rests-next script wanted one id x y format pixel (here script wanted one steps a) spare.0 rests)

-- ---- a tile of a paint in passes

count-cons : (id : ℕ) (one : KindedStep) (steps : List KindedStep) (n : ℕ) → n + improvements id (one ∷ steps) ≡ counted (improves id one.step) n + improvements id steps
count-cons id one steps n = by (improves id one.step) refl
  where
    by : (b : Bool) → improves id one.step ≡ b → n + length (if b then one ∷ filter (λ (o : KindedStep). improves id o.step) steps else filter (λ (o : KindedStep). improves id o.step) steps)
        ≡ counted b n + length (filter (λ (o : KindedStep). improves id o.step) steps)
    by true e = omega arith
    by false e = refl

tiled-all : (script : Script) (wanted : Wanted) (steps : List KindedStep) (id x y : ℕ) (format : Format) (tile : SourceTile) (n : ℕ) → Along script wanted steps → AllSpareAt (meets_at x y) id script wanted steps
    → Tiled wanted id x y format tile n → Tiled (fold (wanted_after script) wanted steps) id x y format tile (n + improvements id steps)
tiled-all script wanted [] id x y format tile n a spare tiled = subst (Tiled wanted id x y format tile) (omega arith) tiled
tiled-all script wanted (one ∷ steps) id x y format tile n a spare tiled =
    subst (Tiled (fold (wanted_after script) wanted (one ∷ steps)) id x y format tile) (sym (count-cons id one steps n))
    (tiled-all script (wanted_after script wanted one) steps id x y format tile (counted (improves id one.step) n) (next script wanted one steps a) spare.1
    (tiled-next script wanted one id x y format tile n (here script wanted one steps a) spare.0 tiled))

-- right after the paint
met-at : (rect : Rect) (x y : ℕ) → holds rect x y ≡ true → Met rect (cell_at x y)
met-at rect x y hit =
    let left : rect.left ≤ x = grind (arith, nat_tests) in
    let right : x < rect.right = grind (arith, nat_tests) in
    let top : rect.top ≤ y = grind (arith, nat_tests) in
    let bottom : y < rect.bottom = grind (arith, nat_tests) in
    record { left = omega (arith, left); right = omega (arith, right); top = omega (arith, top); bottom = omega (arith, bottom) }

cut-has : (rect : Rect) (x y : ℕ) → holds rect x y ≡ true → holds (cut_to_cell rect (cell_at x y)) x y ≡ true
cut-has rect x y hit = by (x / 64) (y / 64) (omega arith) (omega arith) (omega arith) (omega arith)
  where
    by : (column row : ℕ) → CELL_SIDE * column ≤ x → x < CELL_SIDE * column + CELL_SIDE → CELL_SIDE * row ≤ y → y < CELL_SIDE * row + CELL_SIDE → holds (cut_to_cell rect (cell column row)) x y ≡ true
    by column row left right top bottom = grind (arith, nat_tests)

in-cell : (at : ℕ) → at - 64 * (at / 64) ≡ at % 64
in-cell at = omega arith

-- the tile of a cell of a picture
pub record FirstTile (script : Script) (new : Wanted) (id x y : ℕ) (source : Source) (at : Point) : Type 0 where
  pub format : Format
  pub pixels : List Pixel
  pub nearest : AreNearest source at (x / 64) (y / 64) pixels
  pub tile : SourceTile
  pub is : IsTileOf script.setting pixels tile
  pub may : MayBeSent tile
  pub tiled : Tiled new id x y format tile 0

module _ (script : Script) (wanted : Wanted) (kind : Option Kind) (id number : ℕ) (at : Point) (named : Option Kind) (glyph : Option ℕ) (x y : ℕ) (h : Here script wanted (as_kind kind (Paint id number at named glyph)))
    (goes : steps.goes_in_passes (goes_by script.thin kind) ≡ true) (source : Source) (surface : Picture) (drawn : slice_get script.pictures number ≡ Some source) (there : get wanted.shown.surfaces id ≡ Some surface)
    (inside : lies_in surface.width surface.height (place_of source at) ≡ true) (place : IsRect (place_of source at)) (some : has_pixels (place_of source at) ≡ true) (hit : holds (place_of source at) x y ≡ true) where
  abbrev new : Wanted
  new = wanted_after script wanted (as_kind kind (Paint id number at named glyph))

  abbrev sends : List TileSend
  sends = painted_sends script wanted.passes.live id source (place_of source at)

  abbrev send : TileSend
  send = send_of script wanted.passes.live id source (place_of source at) (cell_at x y)

  tiles-there : (o : Option Source) → o ≡ Some source → get (with_tiles script wanted o id at).shown.surfaces id ≡ Some (after_showing id sends surface)
  unfolding with_tiles
  tiles-there o drawn =
      ap (λ z. get (with_tiles script wanted z id at).shown.surfaces id) drawn
      ∙ drawn-there wanted.shown id id (get wanted.shown.surfaces id) surface (after_showing id sends) refl there

  new-there : get new.shown.surfaces id ≡ Some (after_showing id sends surface)
  unfolding wanted_as
  new-there =
      ap (λ (w : Wanted). get w.shown.surfaces id) (painted_in_passes script wanted (goes_by script.thin kind) (slice_get script.pictures number) id at goes)
      ∙ tiles-there (slice_get script.pictures number) drawn

  passes-there : (o : Option Source) → o ≡ Some source → (painted_passes script wanted.passes id o at).live ≡ after_sends id sends wanted.passes.live
  unfolding painted_passes
  passes-there o drawn = ap (λ z. (painted_passes script wanted.passes id z at).live) drawn

  new-live : get new.passes.live (key_at id x y) ≡ Some send
  unfolding passes_as
  new-live =
      ap (λ (p : Passes). get p.live (key_at id x y)) (live_in_passes script wanted.passes (goes_by script.thin kind) id (slice_get script.pictures number) at (writes_by script (sides_kept wanted.plan wanted.slots) (Paint id number at named glyph)) goes)
      ∙ ap (λ l. get l (key_at id x y)) (passes-there (slice_get script.pictures number) drawn)
      ∙ painted-live script wanted.passes.live id source (place_of source at) (cell_at x y) (met-at (place_of source at) x y hit)

  was-sent : WasSent script.setting surface.width surface.height send
  was-sent =
      at-cell (λ c. WasSent script.setting surface.width surface.height (send_of script wanted.passes.live id source (place_of source at) c)) (place_of source at) (cell_at x y)
      (all-unmap (send_of script wanted.passes.live id source (place_of source at)) (λ c. WasSent script.setting surface.width surface.height (send_of script wanted.passes.live id source (place_of source at) c))
      (WasSent script.setting surface.width surface.height) (λ c was. was) (cells_met (place_of source at))
      (painted-sent script wanted.passes.live id surface.width surface.height source (place_of source at) h.server.state.records h.stands.holds.setting place inside some
      ((tiles-here script wanted (as_kind kind (Paint id number at named glyph)) h).each id surface there)))
      (met-at (place_of source at) x y hit)

  first-tile : FirstTile script new id x y source at
  unfolding send_of
  first-tile =
      let shape : SameShape surface (after_showing id sends surface) = showing-shape id sends surface in
      let sides : (x < surface.width) × (y < surface.height) = in-sides surface.width surface.height (place_of source at) x y inside hit in
      record {
        format = surface.format;
        pixels = cell_pixels source (place_of source at) (cell_at x y);
        nearest = cell-nearest source at (x / 64) (y / 64) (has-width source at x y hit) (has-height source at x y hit);
        tile = send.tile;
        is = tile-is script.setting (cell_pixels source (place_of source at) (cell_at x y)) script.differences (get wanted.passes.live (key_at id x y));
        may = was-sent.may;
        tiled = record {
          picture = after_showing id sends surface;
          there = new-there;
          column = subst (λ m. x < m) (sym shape.width) sides.0;
          row = subst (λ m. y < m) (sym shape.height) sides.1;
          format_is = shape.format;
          send = send;
          live = new-live;
          tile_is = refl;
          inside = cut-has (place_of source at) x y hit;
          level = omega arith;
          is = painted-pixel script wanted.passes.live id source (place_of source at) surface x y sides.0 sides.1 hit
              ∙ tile-kept surface.format send.tile 0 (y - 64 * (y / 64)) (x - 64 * (x / 64))
              ∙ (λ i. shown_at send.tile 0 (in-cell y i) (in-cell x i));
        };
      }

-- ---- either

pub same-goes : (o : Option Way) → steps.goes_in_passes o ≡ goes_in_passes o
same-goes None = refl
same-goes (Some way) = refl

-- a step that writes a pixel, and doesn't paint in passes, sends no tiles
sends-none : (script : Script) (wanted : Wanted) (kind : Option Kind) (step : Step) (id x y : ℕ) → HasPixel (writes_at script wanted step) id x y → goes_in_passes (goes_by script.thin kind) ≡ false → sends_tiles script.thin kind step ≡ false
sends-none script wanted kind (Improve other) id x y has apart = absurd has
sends-none script wanted kind (Paint other number at named glyph) id x y has apart = same-goes (goes_by script.thin kind) ∙ apart
sends-none script wanted kind step id x y has apart = refl

-- a paint in passes, and what it writes
pub record FirstPainted (script : Script) (wanted : Wanted) (kind : Option Kind) (step : Step) (id x y : ℕ) : Type 0 where
  pub source : Source
  pub at : Point
  pub first : FirstTile script (wanted_after script wanted (as_kind kind step)) id x y source at
  pub is : (format : Format) (improved : ℕ) (pixel : Pixel) → (length script.setting.levels ≤ improved → IsDecoded script.setting source at x y pixel) → IsWritten script wanted kind step format improved x y pixel

only-passes : (way : Way) → is_in_passes way ≡ true → way ≡ InPasses
only-passes Uncompressed e = absurd cc
only-passes (ByLayer layer) e = absurd cc
only-passes InPasses e = refl
only-passes Video e = absurd cc

first-painted : (script : Script) (wanted : Wanted) (kind : Option Kind) (step : Step) (id x y : ℕ) → Here script wanted (as_kind kind step) → HasPixel (writes_at script wanted step) id x y
    → goes_in_passes (goes_by script.thin kind) ≡ true → FirstPainted script wanted kind step id x y
unfolding writes_by
first-painted script wanted None step id x y h has goes = absurd (let f : false ≡ true = goes in cc)
first-painted script wanted (Some kind) (Paint other number at named glyph) id x y h has goes =
    let may : MayPaint script h.server other number at glyph = paint-some script wanted (Some kind) other number at named glyph h in
    let rects = painted-rects (slice_get script.pictures number) may.picture at other id x y may.drawn has in
    let there : get wanted.shown.surfaces other ≡ Some may.surface = wanted-there script wanted (Paint other number at named glyph) (Some kind) h other may.surface may.there in
    let way : way_of script.thin kind ≡ InPasses = only-passes (way_of script.thin kind) goes in
    record {
      source = may.picture;
      at = at;
      first = subst (λ n. FirstTile script (wanted_after script wanted (as_kind (Some kind) (Paint other number at named glyph))) n x y may.picture at) rects.0
          (first-tile script wanted (Some kind) other number at named glyph x y h goes may.picture may.surface may.drawn there may.inside may.place (some-pixels may.picture at may.sides) rects.1);
      is = λ format improved pixel decodes. record {
        source = may.picture;
        drawn = may.drawn;
        named = kind;
        goes = refl;
        is = subst (λ w. IsPainted script.setting w may.picture at format improved x y pixel) (sym way) decodes;
      };
    }
first-painted script wanted (Some kind) (Surface other width height format) id x y h has goes = absurd (let f : Some kind ≡ None = h.kind in cc)
first-painted script wanted (Some kind) (Delete other) id x y h has goes = absurd has
first-painted script wanted (Some kind) (Reset width height) id x y h has goes = absurd has
first-painted script wanted (Some kind) (Map other p q) id x y h has goes = absurd has
first-painted script wanted (Some kind) (Fill other colour rects) id x y h has goes = absurd (let f : Some kind ≡ None = h.kind in cc)
first-painted script wanted (Some kind) (Copy from to rect points) id x y h has goes = absurd (let f : Some kind ≡ None = h.kind in cc)
first-painted script wanted (Some kind) (Keep other key rect) id x y h has goes = absurd has
first-painted script wanted (Some kind) (Show key to points) id x y h has goes = absurd (let f : Some kind ≡ None = h.kind in cc)
first-painted script wanted (Some kind) (Forget key) id x y h has goes = absurd has
first-painted script wanted (Some kind) (Improve other) id x y h has goes = absurd has
first-painted script wanted (Some kind) Frame id x y h has goes = absurd has

module _ (script : Script) (wanted : Wanted) (later : List KindedStep) (id x y : ℕ) (are : ArePictures wanted.shown.surfaces) where
  -- what doesn't go in passes
  plain-seen : (one : KindedStep) → Here script wanted one → Along script (wanted_after script wanted one) later → HasPixel (writes_at script wanted one.step) id x y → goes_in_passes (goes_by script.thin one.kind) ≡ false
      → AllSpareAt (λ rect. holds rect x y) id script (wanted_after script wanted one) later
      → IsThere (λ format pixel. IsWritten script wanted one.kind one.step format (improvements id later) x y pixel) (fold (wanted_after script) (wanted_after script wanted one) later).shown.surfaces id x y
  plain-seen one h a has apart spare =
      let p : Placed script wanted (wanted_as script wanted one.kind one.step) one.kind one.step id x y = placed script wanted one.kind one.step id x y h are has apart in
      let rests : Rests (fold (wanted_after script) (wanted_after script wanted one) later) id x y p.picture.format (pixel_at p.picture x y) =
      rests-all script (wanted_after script wanted one) later id x y p.picture.format (pixel_at p.picture x y) a spare record {
        picture = p.picture;
        there = p.there;
        column = p.column;
        row = p.row;
        format_is = refl;
        is = refl;
        none = none-left script wanted one.kind one.step id x y h has (sends-none script wanted one.kind one.step id x y has apart);
      } in
      record {
        picture = rests.picture;
        there = rests.there;
        column = rests.column;
        row = rests.row;
        is = subst (λ format. IsWritten script wanted one.kind one.step format (improvements id later) x y (pixel_at rests.picture x y)) (sym rests.format_is)
            (subst (IsWritten script wanted one.kind one.step p.picture.format (improvements id later) x y) (sym rests.is) (p.is (improvements id later)));
      }

  -- a tile, once it was raised so often
  tile-seen : (source : Source) (at : Point) (start : Wanted) → FirstTile script start id x y source at → Along script start later → AllSpareAt (meets_at x y) id script start later
      → IsThere (λ format pixel. length script.setting.levels ≤ improvements id later → IsDecoded script.setting source at x y pixel) (fold (wanted_after script) start later).shown.surfaces id x y
  tile-seen source at start f a spare =
      let tiled : Tiled (fold (wanted_after script) start later) id x y f.format f.tile (0 + improvements id later) = tiled-all script start later id x y f.format f.tile 0 a spare f.tiled in
      record {
        picture = tiled.picture;
        there = tiled.there;
        column = tiled.column;
        row = tiled.row;
        is = λ enough.
            let listed : length f.tile.setting.levels ≡ length script.setting.levels = ap (λ (s : Setting). length s.levels) f.is.coded in
            let last : tiled.send.level ≡ length f.tile.setting.levels = omega (arith, tiled.level, enough, listed) in
            record {
              pixels = f.pixels;
              nearest = f.nearest;
              is = tiled.is ∙ ap (λ n. shown_at f.tile n (y % 64) (x % 64)) last ∙ last-shown f.tile f.may (y % 64) (x % 64) ∙ tile-decoded script.setting f.pixels f.tile (y % 64) (x % 64) f.is;
            };
      }

  -- what goes in passes
  passes-seen : (kind : Option Kind) (step : Step) → Here script wanted (as_kind kind step) → Along script (wanted_after script wanted (as_kind kind step)) later → HasPixel (writes_at script wanted step) id x y
      → goes_in_passes (goes_by script.thin kind) ≡ true → AllSpareAt (meets_at x y) id script (wanted_after script wanted (as_kind kind step)) later
      → IsThere (λ format pixel. IsWritten script wanted kind step format (improvements id later) x y pixel) (fold (wanted_after script) (wanted_after script wanted (as_kind kind step)) later).shown.surfaces id x y
  passes-seen kind step h a has goes spare =
      let f : FirstPainted script wanted kind step id x y = first-painted script wanted kind step id x y h has goes in
      let seen = tile-seen f.source f.at (wanted_after script wanted (as_kind kind step)) f.first a spare in
      record {
        picture = seen.picture;
        there = seen.there;
        column = seen.column;
        row = seen.row;
        is = f.is seen.picture.format (improvements id later) (pixel_at seen.picture x y) seen.is;
      }

  either-seen : (one : KindedStep) → Here script wanted one → Along script (wanted_after script wanted one) later → HasPixel (writes_at script wanted one.step) id x y
      → (b : Bool) → goes_in_passes (goes_by script.thin one.kind) ≡ b → AllSpareAt (ends_it b x y) id script (wanted_after script wanted one) later
      → IsThere (λ format pixel. IsWritten script wanted one.kind one.step format (improvements id later) x y pixel) (fold (wanted_after script) (wanted_after script wanted one) later).shown.surfaces id x y
  either-seen one h a has true goes spare = passes-seen one.kind one.step h a has goes spare
  either-seen one h a has false apart spare = plain-seen one h a has apart spare

-- the promise
pub pixels-as-written : WantedPixelsAreAsWritten
pixels-as-written start script steps rest go front later one id x y cut has spare =
    let wanted : Wanted = want_from script start.wanted front in
    let all : steps ++ rest ≡ front ++ (one ∷ (later ++ rest)) = ap (λ s. s ++ rest) cut ∙ append_assoc front (one ∷ later) rest in
    let a : Along script wanted (one ∷ (later ++ rest)) = along start script front (one ∷ (later ++ rest)) (subst (MayGo start script) all go) in
    let behind : Along script (wanted_after script wanted one) later = first_part script (wanted_after script wanted one) later rest (next script wanted one (later ++ rest) a) in
    let are : ArePictures wanted.shown.surfaces = pictures-wanted start script front (one ∷ (later ++ rest)) (subst (MayGo start script) all go) in
    let has-at = subst (λ o. HasPixel o id x y) (writes-same script wanted one.step) has in
    let spare-at = all-spare-at (ends_it (goes_in_passes (goes_by script.thin one.kind)) x y) id script (wanted_after script wanted one) later spare in
    let seen = either-seen script wanted later id x y are one (here script wanted one (later ++ rest) a) behind has-at (goes_in_passes (goes_by script.thin one.kind)) refl spare-at in
    subst (λ (w : Wanted). IsThere (λ format pixel. IsWritten script wanted one.kind one.step format (improvements id later) x y pixel) w.shown.surfaces id x y)
    (sym (ap (want_from script start.wanted) cut ∙ fold-append (wanted_after script) start.wanted front (one ∷ later))) seen

-- until a tile's last level its surface shows it at the one that it has reached
pub passes-at-their-level : PaintsShowTheirLevel
passes-at-their-level start script steps rest front later one id x y go cut has goes spare =
    let wanted : Wanted = want_from script start.wanted front in
    let all : steps ++ rest ≡ front ++ (one ∷ (later ++ rest)) = ap (λ s. s ++ rest) cut ∙ append_assoc front (one ∷ later) rest in
    let a : Along script wanted (one ∷ (later ++ rest)) = along start script front (one ∷ (later ++ rest)) (subst (MayGo start script) all go) in
    let behind : Along script (wanted_after script wanted one) later = first_part script (wanted_after script wanted one) later rest (next script wanted one (later ++ rest) a) in
    let f : FirstPainted script wanted one.kind one.step id x y =
    first-painted script wanted one.kind one.step id x y (here script wanted one (later ++ rest) a) (subst (λ o. HasPixel o id x y) (writes-same script wanted one.step) has) goes in
    let tiled : Tiled (fold (wanted_after script) (wanted_after script wanted one) later) id x y f.first.format f.first.tile (0 + improvements id later) =
    tiled-all script (wanted_after script wanted one) later id x y f.first.format f.first.tile 0 behind (all-spare-at (meets_at x y) id script (wanted_after script wanted one) later spare) f.first.tiled in
    let listed : length f.first.tile.setting.levels ≡ length script.setting.levels = ap (λ (s : Setting). length s.levels) f.first.is.coded in
    subst (λ (w : Wanted). IsAtLevel script w (improvements id later) id x y) (sym (ap (want_from script start.wanted) cut ∙ fold-append (wanted_after script) start.wanted front (one ∷ later)))
    record {
      send = tiled.send;
      live = tiled.live;
      level = omega (arith, tiled.level, listed);
      shows = record {
        picture = tiled.picture;
        there = tiled.there;
        column = tiled.column;
        row = tiled.row;
        is = tiled.is ∙ ap (λ t. shown_at t tiled.send.level (y % 64) (x % 64)) (sym tiled.tile_is);
      };
    }
