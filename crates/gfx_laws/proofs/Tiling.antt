-- The tile that a paint in passes leaves, step by step: it shows its pixel at its level.
use Rattle.std.proofs.Common.{◌≡◌, ◌≢◌, ◌⊎◌, ◌∙◌, ◌+◌, ◌-◌, ◌*◌, ◌/◌, ◌%◌, ◌<◌, ◌≤◌, ◌&&◌, ◌==◌, not, ℕ, Bool, true, false, cond, if◌then◌else◌, nat_lt, min, List, [], ◌∷◌, length, Option, Some, None, option_map, inl, inr, refl, sym, ap, subst, arith, ltb-true, lt-ltb, eq-eqb, eqb-true}
use Rattle.std.specs.FinMap.{get, get-retain_keys}
use Rattle.std.specs.List.{AllByRecursion, cons_option, filter_map, list_any, slice_get}
use Rattle.std.specs.Option.{option_and_then}
use Rattle.std.specs.Ordering.{eq_by_cmp}
use Rattle.std.proofs.lemmas.Bool.{cases_eq, ne_eqb}
use Rattle.std.proofs.lemmas.Bool.Decides.{nat_tests}
use Rattle.gfx_base.specs.declared.format.Format.{Format}
use Rattle.gfx_base.specs.declared.geometry.Cell.{Cell}
use Rattle.gfx_base.specs.declared.geometry.Point.{Point}
use Rattle.gfx_base.specs.declared.geometry.Rect.{Rect}
use Rattle.gfx_base.specs.Cells.{cell, cells_met, has_pixels, meets}
use Rattle.gfx_base.specs.Geometry.{holds, sized}
use Rattle.gfx_prog_decode.specs.declared.key.Key.{Key}
use Rattle.gfx_prog_decode.specs.Records.{Records, key_cmp}
use Rattle.gfx_prog_decode.proofs.Keys.{key_same, tied}
use Rattle.gfx_prog_encode.specs.declared.send.TileSend.{TileSend}
use Rattle.gfx_prog_law.specs.Taken.{LiveIn, WasSent}
use Rattle.gfx_prog_law.proofs.Apart.{Met, all-more, at-cell, cells-apart, each-met, map-kept}
use Rattle.gfx_prog_law.proofs.Improving.{improved-apart, improved-sent}
use Rattle.gfx_prog_law.proofs.Kept.{live-elsewhere}
use Rattle.gfx_prog_law.proofs.Seen.{SameShape, Shows, showing-inside, showing-shape}
use Rattle.gfx_prog_law.proofs.Shown.{KeepsCell}
use Rattle.gfx_prog_law.proofs.Sends.{cut-some}
use Rattle.gfx_prog_law.proofs.Squares.{InCell, rect-in-cell}
use Rattle.gfx_prog_live.specs.Cells.{cell_key}
use Rattle.gfx_prog_live.specs.Live.{Live, Passes, after_sends, improved_sends, painted_sends, raised, send_of, without_surface}
use Rattle.gfx_prog_live.specs.Showing.{after_showing}
use Rattle.gfx_quant.specs.declared.setting.Setting.{Setting}
use Rattle.gfx_script.specs.Checks.{held_after}
use Rattle.gfx_script.specs.declared.picture.Picture.{Picture as Source}
use Rattle.gfx_script.specs.declared.step.Kind.{Kind}
use Rattle.gfx_script.specs.declared.step.Step.{Step}
use Rattle.gfx_script.specs.declared.step.Step.TheVariants.{Delete, Improve, Paint}
use Rattle.gfx_script.specs.Kinds.{KindedStep, as_kind}
use Rattle.gfx_script.specs.Pictures.{IsDrawn}
use Rattle.gfx_script.specs.Scripted.{Script}
use Rattle.gfx_script.specs.Ways.{goes_by}
use Rattle.gfx_script.specs.Writes.{Area, area, place_of, writes_by}
use Rattle.gfx_surface.specs.Picture.{Picture, pixel_at}
use Rattle.gfx_tile_make.specs.Levels.{shown_at, tile_at}
use Rattle.gfx_tile_make.specs.Source.{SourceTile}
use Rattle.gfx_planner.specs.Bitmaps.{sides_kept}
use Rattle.gfx_planner.specs.Passes.{ended_by, painted_passes, passes_as}
use Rattle.gfx_planner.specs.TileSteps.{sends_tiles}
use Rattle.gfx_planner.specs.Wanted.{Wanted}
use Rattle.gfx_planner.specs.SurfaceEffects.{drawing}
use Rattle.gfx_planner.specs.TileEffects.{with_improved}
use Rattle.gfx_planner.specs.Want.{wanted_after, wanted_as}
use Rattle.gfx_planner.proofs.LiveShown.{tile-kept}
use Rattle.gfx_planner.proofs.PaintSteps.{MayPaint, may_paint}
use Rattle.gfx_planner.proofs.Seen.{seen}
use Rattle.gfx_planner.proofs.Ways.{live_in_passes, live_left}
use Rattle.gfx_laws.specs.Raised.{Raises, at_next_level}
use Rattle.gfx_laws.specs.Stays.{Leaves}
use Rattle.gfx_laws.specs.Written.{IsBeside, improves}
use Rattle.gfx_laws.proofs.Fronts.{Here}
use Rattle.gfx_laws.proofs.Lasting.{left-live, met-by-pixel, outside-of, raises-here, surface-stays, tiles-here, touches}
use Rattle.gfx_laws.proofs.Placing.{drawn-there}
use Rattle.gfx_laws.proofs.Raising.{Found, Passes-by, each-found, untouched}
use Rattle.gfx_laws.proofs.Shapes.{IsKept}
use Rattle.gfx_laws.proofs.Staying.{step-stays}
use Rattle.gfx_laws.proofs.Where.{SparesAt}

-- the cell of a pixel, and its key
abbrev pub cell_at : ℕ → ℕ → Cell
cell_at x y = cell (x / 64) (y / 64)

abbrev pub key_at : ℕ → ℕ → ℕ → Key
key_at id x y = cell_key id (cell_at x y)

-- a rectangle meets it
abbrev pub meets_at : ℕ → ℕ → Rect → Bool
meets_at x y rect = meets rect (cell_at x y)

pub in-cell-at : (x y : ℕ) → InCell (x / 64) (y / 64) x y
in-cell-at x y = record { left = omega arith; right = omega arith; top = omega arith; bottom = omega arith }

-- the tile of a pixel's cell is live and at the level of so many improvements, and its surface shows it
pub record Tiled (wanted : Wanted) (id x y : ℕ) (format : Format) (tile : SourceTile) (n : ℕ) : Type 0 where
  pub picture : Picture
  pub there : get wanted.shown.surfaces id ≡ Some picture
  pub column : x < picture.width
  pub row : y < picture.height
  pub format_is : picture.format ≡ format
  pub send : TileSend
  pub live : get wanted.passes.live (key_at id x y) ≡ Some send
  pub tile_is : send.tile ≡ tile
  pub inside : holds send.rect x y ≡ true
  pub level : send.level ≡ min n (length tile.setting.levels)
  pub is : pixel_at picture x y ≡ shown_at tile send.level (y % 64) (x % 64)

-- ---- a rectangle that misses the cell

miss-pixel : (rect : Rect) (x y : ℕ) → meets_at x y rect ≡ false → holds rect x y ≡ false
miss-pixel rect x y miss = by (holds rect x y) refl
  where
    by : (b : Bool) → holds rect x y ≡ b → b ≡ false
    by false e = refl
    by true hit = absurd (let both : true ≡ false = sym (met-by-pixel rect (x / 64) (y / 64) x y (in-cell-at x y) hit) ∙ miss in cc)

miss-area : (o : Option Area) (id x y : ℕ) → IsBeside (meets_at x y) id o → IsBeside (λ rect. holds rect x y) id o
miss-area None id x y beside = tt
miss-area (Some written) id x y beside = λ same. all-more (λ rect. meets_at x y rect ≡ false) (λ rect. holds rect x y ≡ false) (λ rect miss. miss-pixel rect x y miss) written.rects (beside same)

none-touched : (rects : List Rect) (c : Cell) → AllByRecursion (λ rect. meets rect c ≡ false) rects → list_any (λ rect. meets rect c) rects ≡ false
none-touched [] c none = refl
none-touched (rect ∷ rects) c none = rw (none.0, none-touched rects c none.1) refl

miss-touches : (o : Option Area) (id x y : ℕ) → IsBeside (meets_at x y) id o → touches o (key_at id x y) ≡ false
miss-touches None id x y beside = refl
miss-touches (Some written) id x y beside = by (id == written.surface) refl
  where
    by : (b : Bool) → (id == written.surface) ≡ b → (b && list_any (λ rect. meets rect (cell_at x y)) written.rects) ≡ false
    by false e = refl
    by true e = none-touched written.rects (cell_at x y) (beside (sym (eqb-true id written.surface e)))

-- ---- what stays live

ended-stays : (passes : Passes) (o : Option Area) (id x y : ℕ) → IsBeside (meets_at x y) id o → get (ended_by passes o).live (key_at id x y) ≡ get passes.live (key_at id x y)
ended-stays passes o id x y beside =
    left-live passes o (key_at id x y) ∙ ap (λ b. if b then None else get passes.live (key_at id x y)) (miss-touches o id x y beside)

deleted-stays : (live : Live) (other : ℕ) (key : Key) → key.surface ≢ other → get (without_surface live other) key ≡ get live key
deleted-stays live other key apart =
    get-retain_keys live (λ k. not (k.surface == other)) key (λ q tie. ap (λ (k : Key). not (k.surface == other)) (sym (key_same key q tie)))
    ∙ ap (λ b. cond (not b) (get live key) None) (ne_eqb key.surface other apart)

-- a key of no cell that a rectangle meets
other-key : (id x y : ℕ) (rect : Rect) (c : Cell) → has_pixels rect ≡ true → Met rect c → meets_at x y rect ≡ false → eq_by_cmp key_cmp (key_at id x y) (cell_key id c) ≡ false
other-key id x y rect c some met miss = by (eq_by_cmp key_cmp (key_at id x y) (cell_key id c)) refl
  where
    by : (b : Bool) → eq_by_cmp key_cmp (key_at id x y) (cell_key id c) ≡ b → b ≡ false
    by false e = refl
    by true e =
        let same : key_at id x y ≡ cell_key id c = tied (key_at id x y) (cell_key id c) e in
        let there : cell_at x y ≡ c = λ i. cell (same i).x (same i).y in
        let hits : meets rect c ≡ true = cut-some rect c met some in
        absurd (let both : true ≡ false = sym hits ∙ ap (meets rect) (sym there) ∙ miss in cc)

-- ---- the tiles of a paint

module _ (script : Script) (live : Live) (id : ℕ) (source : Source) (rect : Rect) where
  abbrev sent : Cell → Option TileSend
  sent c = Some (send_of script live id source rect c)

  sent-own : (c : Cell) (send : TileSend) → sent c ≡ Some send → (send.cell.x ≡ c.x) × (send.cell.y ≡ c.y)
  unfolding send_of
  sent-own c send e = let same : send_of script live id source rect c ≡ send = cc in (ap (λ s. s.cell.x) (sym same), ap (λ s. s.cell.y) (sym same))

  all-sent : filter_map sent (cells_met rect) ≡ painted_sends script live id source rect
  all-sent = map-kept (send_of script live id source rect) (cells_met rect)

  -- that of each cell which the picture meets is live
  pub painted-live : (c : Cell) → Met rect c → get (after_sends id (painted_sends script live id source rect) live) (cell_key id c) ≡ Some (send_of script live id source rect c)
  painted-live c met =
      ap (λ sends. get (after_sends id sends live) (cell_key id c)) (sym all-sent)
      ∙ at-cell (λ c. get (after_sends id (filter_map sent (cells_met rect)) live) (cell_key id c) ≡ Found (sent c) (get live (cell_key id c))) rect c (each-found id sent sent-own (cells_met rect) live (cells-apart rect)) met

  -- and no other is
  pub painted-beside : (key : Key) → AllByRecursion (λ c. eq_by_cmp key_cmp key (cell_key id c) ≡ false) (cells_met rect)
      → get (after_sends id (painted_sends script live id source rect) live) key ≡ get live key
  painted-beside key beside =
      ap (λ sends. get (after_sends id sends live) key) (sym all-sent)
      ∙ untouched id sent sent-own key (cells_met rect) live (all-more (λ c. eq_by_cmp key_cmp key (cell_key id c) ≡ false) (Passes-by id sent sent-own key) (λ c apart. inr apart) (cells_met rect) beside)

painted-stays : (script : Script) (passes : Passes) (id other x y : ℕ) (o : Option Source) (at : Point) → ((source : Source) → o ≡ Some source → has_pixels (place_of source at) ≡ true)
    → IsBeside (meets_at x y) id (option_map (λ source. area other (place_of source at ∷ [])) o) → get (painted_passes script passes other o at).live (key_at id x y) ≡ get passes.live (key_at id x y)
unfolding painted_passes
painted-stays script passes id other x y None at some beside = refl
painted-stays script passes id other x y (Some source) at some beside = by (cases_eq other id)
  where
    place : Rect
    place = place_of source at

    by : ((other ≡ id) ⊎ (other ≢ id)) → get (after_sends other (painted_sends script passes.live other source place) passes.live) (key_at id x y) ≡ get passes.live (key_at id x y)
    by (inl same) =
        subst (λ n. get (after_sends other (painted_sends script passes.live other source place) passes.live) (key_at n x y) ≡ get passes.live (key_at n x y)) same
        (painted-beside script passes.live other source place (key_at other x y)
        (all-more (Met place) (λ c. eq_by_cmp key_cmp (key_at other x y) (cell_key other c) ≡ false) (λ c met. other-key other x y place c (some source refl) met (beside same).0) (cells_met place) (each-met place (some source refl))))
    by (inr apart) = live-elsewhere other (key_at id x y) (λ e. apart (sym e)) (painted_sends script passes.live other source place) passes.live

-- ---- a step that is no improvement

abbrev pub IsNoImprovement : Step → Type 0
IsNoImprovement (Improve id) = ⊥
IsNoImprovement step = Unit {0}

pub some-pixels : (source : Source) (at : Point) → IsDrawn source → has_pixels (place_of source at) ≡ true
some-pixels source at drawn = by drawn.width_from drawn.height_from
  where
    by : 1 ≤ source.width → 1 ≤ source.height → has_pixels (place_of source at) ≡ true
    by across down = grind (arith, nat_tests)

pub paint-some : (script : Script) (wanted : Wanted) (kind : Option Kind) (id number : ℕ) (at : Point) (named : Option Kind) (glyph : Option ℕ) (h : Here script wanted (as_kind kind (Paint id number at named glyph)))
    → MayPaint script h.server id number at glyph
unfolding held_after
paint-some script wanted kind id number at named glyph h = (may_paint script h.server h.held h.after id number at named glyph (seen script h.held h.server h.stands.holds) h.numbers.1 h.numbers.2 h.checked).0

live-as : (script : Script) (wanted : Wanted) (kind : Option Kind) (step : Step) (id x y : ℕ) (h : Here script wanted (as_kind kind step)) → IsNoImprovement step → SparesAt (meets_at x y) id script wanted step
    → (b : Bool) → sends_tiles script.thin kind step ≡ b → get (wanted_after script wanted (as_kind kind step)).passes.live (key_at id x y) ≡ get wanted.passes.live (key_at id x y)
unfolding passes_as writes_by
live-as script wanted kind (Improve other) id x y h still spares b sends = absurd still
live-as script wanted kind (Delete other) id x y h still spares b sends = deleted-stays wanted.passes.live other (key_at id x y) (λ same. spares (sym same))
live-as script wanted kind (Paint other number at named glyph) id x y h still spares true sends =
    let written = writes_by script (sides_kept wanted.plan wanted.slots) (Paint other number at named glyph) in
    let may : MayPaint script h.server other number at glyph = paint-some script wanted kind other number at named glyph h in
    ap (λ (p : Passes). get p.live (key_at id x y)) (live_in_passes script wanted.passes (goes_by script.thin kind) other (slice_get script.pictures number) at written sends)
    ∙ painted-stays script wanted.passes id other x y (slice_get script.pictures number) at
    (λ source is. let one : Some may.picture ≡ Some source = sym may.drawn ∙ is in let same : may.picture ≡ source = cc in subst (λ s. has_pixels (place_of s at) ≡ true) same (some-pixels may.picture at may.sides)) spares
live-as script wanted kind (Paint other number at named glyph) id x y h still spares false sends =
    let written = writes_by script (sides_kept wanted.plan wanted.slots) (Paint other number at named glyph) in
    ap (λ (l : Live). get l (key_at id x y)) (live_left script wanted.passes (goes_by script.thin kind) other (slice_get script.pictures number) at written sends).0
    ∙ ended-stays wanted.passes written id x y spares
live-as script wanted kind step id x y h still spares b sends = ended-stays wanted.passes (writes_by script (sides_kept wanted.plan wanted.slots) step) id x y spares

leaves-missed : (script : Script) (wanted : Wanted) (step : Step) (id x y : ℕ) → IsNoImprovement step → SparesAt (meets_at x y) id script wanted step → Leaves script wanted step id x y
unfolding writes_by
leaves-missed script wanted (Improve other) id x y still spares = absurd still
leaves-missed script wanted (Delete other) id x y still spares = tt
leaves-missed script wanted step id x y still spares =
    let written = writes_by script (sides_kept wanted.plan wanted.slots) step in
    outside-of written id x y (miss-area written id x y spares)

still-tiled : (script : Script) (wanted : Wanted) (one : KindedStep) (id x y : ℕ) (format : Format) (tile : SourceTile) (n : ℕ) → Here script wanted one → IsNoImprovement one.step → SparesAt (meets_at x y) id script wanted one.step
    → Tiled wanted id x y format tile n → Tiled (wanted_after script wanted one) id x y format tile n
still-tiled script wanted one id x y format tile n h still spares tiled =
    let kept : IsKept (wanted_after script wanted one).shown.surfaces id tiled.picture = surface-stays (meets_at x y) script wanted one id tiled.picture h tiled.there spares in
    let column : x < kept.picture.width = subst (λ m. x < m) (sym kept.shape.width) tiled.column in
    let row : y < kept.picture.height = subst (λ m. y < m) (sym kept.shape.height) tiled.row in
    record {
      picture = kept.picture;
      there = kept.there;
      column = column;
      row = row;
      format_is = kept.shape.format ∙ tiled.format_is;
      send = tiled.send;
      live = live-as script wanted one.kind one.step id x y h still spares (sends_tiles script.thin one.kind one.step) refl ∙ tiled.live;
      tile_is = tiled.tile_is;
      inside = tiled.inside;
      level = tiled.level;
      is = step-stays script h.held h.server wanted one id x y h.stands.holds h.stands.agrees (record { picture = tiled.picture; there = tiled.there; column = tiled.column; row = tiled.row })
          (record { picture = kept.picture; there = kept.there; column = column; row = row }) (leaves-missed script wanted one.step id x y still spares) tiled.picture kept.picture tiled.there kept.there
          ∙ tiled.is;
    }

-- ---- an improvement of another surface

beside-tiled : (script : Script) (wanted : Wanted) (kind : Option Kind) (other id x y : ℕ) (format : Format) (tile : SourceTile) (n : ℕ) → Here script wanted (as_kind kind (Improve other)) → other ≢ id
    → Tiled wanted id x y format tile n → Tiled (wanted_after script wanted (as_kind kind (Improve other))) id x y format tile n
beside-tiled script wanted kind other id x y format tile n h apart tiled =
    let r : Raises other wanted (wanted_after script wanted (as_kind kind (Improve other))) = raises-here script wanted kind other h in
    let differs : (id == other) ≡ false = ne_eqb id other (λ e. apart (sym e)) in
    record {
      picture = tiled.picture;
      there = r.others id differs ∙ tiled.there;
      column = tiled.column;
      row = tiled.row;
      format_is = tiled.format_is;
      send = tiled.send;
      live = r.live (key_at id x y) ∙ ap (λ b. if b then option_map at_next_level (get wanted.passes.live (key_at id x y)) else get wanted.passes.live (key_at id x y)) differs ∙ tiled.live;
      tile_is = tiled.tile_is;
      inside = tiled.inside;
      level = tiled.level;
      is = tiled.is;
    }

-- ---- an improvement of its surface

unkept-cons : (g : Cell → Option TileSend) (P : TileSend → Type 0) (c : Cell) (cells : List Cell) (o : Option TileSend) → g c ≡ o → AllByRecursion P (cons_option o (filter_map g cells))
    → (AllByRecursion P (filter_map g cells) → AllByRecursion (λ c. (send : TileSend) → g c ≡ Some send → P send) cells) → AllByRecursion (λ c. (send : TileSend) → g c ≡ Some send → P send) (c ∷ cells)
unkept-cons g P c cells None e all rest = ((λ send is. absurd (let none : None ≡ Some send = sym e ∙ is in cc)), rest all)
unkept-cons g P c cells (Some one) e all rest = ((λ send is. let both : Some one ≡ Some send = sym e ∙ is in let same : one ≡ send = cc in subst P same all.0), rest all.1)

-- what holds of all that is kept of cells holds of each
unkept : (g : Cell → Option TileSend) (P : TileSend → Type 0) (cells : List Cell) → AllByRecursion P (filter_map g cells) → AllByRecursion (λ c. (send : TileSend) → g c ≡ Some send → P send) cells
unkept g P [] all = tt
unkept g P (c ∷ cells) all = unkept-cons g P c cells (g c) refl all (λ more. unkept g P cells more)

raised-below : (send : TileSend) → nat_lt send.level (length send.tile.setting.levels) ≡ true → raised send ≡ Some (record send { level = send.level + 1 })
unfolding raised
raised-below send below = ap (λ b. if b then Some (record send { level = send.level + 1 }) else None) below

module _ (setting : Setting) (live : Live) (id : ℕ) (surface : Picture) (records : Records) (agree : LiveIn setting id surface.width surface.height live records) (x y : ℕ) (column : x < surface.width)
    (row : y < surface.height) (send : TileSend) (found : get live (key_at id x y) ≡ Some send) (inside : holds send.rect x y ≡ true) where
  abbrev sends : List TileSend
  sends = improved_sends live id surface.width surface.height

  own : (key_at id x y ≡ cell_key id send.cell) × (WasSent setting surface.width surface.height send × (get records (key_at id x y) ≡ Some (tile_at send.tile send.level)))
  own = agree.each (key_at id x y) send refl found

  met : Met (sized surface.width surface.height) (cell_at x y)
  met = record { left = omega arith; right = omega (arith, column); top = omega arith; bottom = omega (arith, row) }

  -- raised it shows at its next level
  improved-pixel : nat_lt send.level (length send.tile.setting.levels) ≡ true → pixel_at (after_showing id sends surface) x y ≡ shown_at send.tile (send.level + 1) (y % 64) (x % 64)
  improved-pixel below =
      let all : AllByRecursion (Shows x y surface (after_showing id sends surface)) sends =
      showing-inside id x y sends surface column row (improved-apart setting live id surface.width surface.height records agree)
      (all-more (WasSent setting surface.width surface.height) KeepsCell (λ s was. was.in_cell) sends (improved-sent setting live id surface.width surface.height records agree)) in
      let shows : Shows x y surface (after_showing id sends surface) (record send { level = send.level + 1 }) =
      at-cell (λ c. (one : TileSend) → option_and_then raised (get live (cell_key id c)) ≡ Some one → Shows x y surface (after_showing id sends surface) one) (sized surface.width surface.height) (cell_at x y)
      (unkept (λ c. option_and_then raised (get live (cell_key id c))) (Shows x y surface (after_showing id sends surface)) (cells_met (sized surface.width surface.height)) all) met
      (record send { level = send.level + 1 }) (ap (option_and_then raised) found ∙ raised-below send below) in
      let across : x / 64 ≡ send.cell.x = ap (λ (k : Key). k.x) own.0 in
      let down : y / 64 ≡ send.cell.y = ap (λ (k : Key). k.y) own.0 in
      let left : x - 64 * send.cell.x ≡ x % 64 = omega (arith, across) in
      let top : y - 64 * send.cell.y ≡ y % 64 = omega (arith, down) in
      shows inside ∙ tile-kept surface.format send.tile (send.level + 1) (y - 64 * send.cell.y) (x - 64 * send.cell.x) ∙ (λ i. shown_at send.tile (send.level + 1) (top i) (left i))

  -- a raised tile that paints the pixel is this one
  none-raised : nat_lt send.level (length send.tile.setting.levels) ≡ false → (key : Key) (one : TileSend) → key.surface ≡ id → get live key ≡ Some one → one.level < length one.tile.setting.levels → holds one.rect x y ≡ false
  none-raised last key one at is below = by (holds one.rect x y) refl
    where
      by : (b : Bool) → holds one.rect x y ≡ b → b ≡ false
      by false e = refl
      by true hit =
          let its = agree.each key one at is in
          let cell-is : InCell one.cell.x one.cell.y x y = rect-in-cell one x y its.1.0.in_cell hit in
          let across : one.cell.x ≡ x / 64 = omega (arith, cell-is.left, cell-is.right) in
          let down : one.cell.y ≡ y / 64 = omega (arith, cell-is.top, cell-is.bottom) in
          let same : key ≡ key_at id x y = its.0 ∙ (λ i. cell_key id (cell (across i) (down i))) in
          let both : Some one ≡ Some send = sym is ∙ ap (get live) same ∙ found in
          let equal : one ≡ send = cc in
          let less : nat_lt send.level (length send.tile.setting.levels) ≡ true = subst (λ (s : TileSend). nat_lt s.level (length s.tile.setting.levels) ≡ true) equal (lt-ltb one.level (length one.tile.setting.levels) below) in
          absurd (let f : true ≡ false = sym less ∙ last in cc)

with_improved-there : (wanted : Wanted) (o : Option Picture) (surface : Picture) (id : ℕ) → o ≡ Some surface
    → with_improved wanted o id ≡ drawing wanted id (after_showing id (improved_sends wanted.passes.live id surface.width surface.height))
unfolding with_improved
with_improved-there wanted o surface id there = ap (λ z. with_improved wanted z id) there

improved-there : (script : Script) (wanted : Wanted) (kind : Option Kind) (id : ℕ) (surface : Picture) → get wanted.shown.surfaces id ≡ Some surface
    → get (wanted_after script wanted (as_kind kind (Improve id))).shown.surfaces id ≡ Some (after_showing id (improved_sends wanted.passes.live id surface.width surface.height) surface)
unfolding wanted_as
improved-there script wanted kind id surface there =
    ap (λ (w : Wanted). get w.shown.surfaces id) (with_improved-there wanted (get wanted.shown.surfaces id) surface id there)
    ∙ drawn-there wanted.shown id id (get wanted.shown.surfaces id) surface (after_showing id (improved_sends wanted.passes.live id surface.width surface.height)) refl there

improved-tiled : (script : Script) (wanted : Wanted) (kind : Option Kind) (id x y : ℕ) (format : Format) (tile : SourceTile) (n : ℕ) → Here script wanted (as_kind kind (Improve id)) → Tiled wanted id x y format tile n
    → Tiled (wanted_after script wanted (as_kind kind (Improve id))) id x y format tile (n + 1)
improved-tiled script wanted kind id x y format tile n h tiled = by (nat_lt tiled.send.level (length tiled.send.tile.setting.levels)) refl
  where
    surface : Picture
    surface = tiled.picture

    sends : List TileSend
    sends = improved_sends wanted.passes.live id surface.width surface.height

    after : Picture
    after = after_showing id sends surface

    shape : SameShape surface after
    shape = showing-shape id sends surface

    agree : LiveIn script.setting id surface.width surface.height wanted.passes.live h.server.state.records
    agree = (tiles-here script wanted (as_kind kind (Improve id)) h).each id surface tiled.there

    r : Raises id wanted (wanted_after script wanted (as_kind kind (Improve id)))
    r = raises-here script wanted kind id h

    live-is : get (wanted_after script wanted (as_kind kind (Improve id))).passes.live (key_at id x y) ≡ Some (at_next_level tiled.send)
    live-is =
        r.live (key_at id x y) ∙ ap (λ b. if b then option_map at_next_level (get wanted.passes.live (key_at id x y)) else get wanted.passes.live (key_at id x y)) (eq-eqb id id refl)
        ∙ ap (option_map at_next_level) tiled.live

    count : length tiled.send.tile.setting.levels ≡ length tile.setting.levels
    count = ap (λ (t : SourceTile). length t.setting.levels) tiled.tile_is

    by : (b : Bool) → nat_lt tiled.send.level (length tiled.send.tile.setting.levels) ≡ b → Tiled (wanted_after script wanted (as_kind kind (Improve id))) id x y format tile (n + 1)
    by true below =
        let less : tiled.send.level < length tiled.send.tile.setting.levels = ltb-true tiled.send.level (length tiled.send.tile.setting.levels) below in
        record {
          picture = after;
          there = improved-there script wanted kind id surface tiled.there;
          column = subst (λ m. x < m) (sym shape.width) tiled.column;
          row = subst (λ m. y < m) (sym shape.height) tiled.row;
          format_is = shape.format ∙ tiled.format_is;
          send = record tiled.send { level = tiled.send.level + 1 };
          live = live-is ∙ ap (λ b. Some (if b then record tiled.send { level = tiled.send.level + 1 } else tiled.send)) below;
          tile_is = tiled.tile_is;
          inside = tiled.inside;
          level = omega (arith, tiled.level, less, count);
          is = improved-pixel script.setting wanted.passes.live id surface h.server.state.records agree x y tiled.column tiled.row tiled.send tiled.live tiled.inside below
              ∙ ap (λ t. shown_at t (tiled.send.level + 1) (y % 64) (x % 64)) tiled.tile_is;
        }
    by false last =
        let not-less : length tiled.send.tile.setting.levels ≤ tiled.send.level = grind (arith, nat_tests) in
        record {
          picture = after;
          there = improved-there script wanted kind id surface tiled.there;
          column = subst (λ m. x < m) (sym shape.width) tiled.column;
          row = subst (λ m. y < m) (sym shape.height) tiled.row;
          format_is = shape.format ∙ tiled.format_is;
          send = tiled.send;
          live = live-is ∙ ap (λ b. Some (if b then record tiled.send { level = tiled.send.level + 1 } else tiled.send)) last;
          tile_is = tiled.tile_is;
          inside = tiled.inside;
          level = omega (arith, tiled.level, not-less, count);
          is = r.pixels surface after x y tiled.there (improved-there script wanted kind id surface tiled.there) tiled.column tiled.row
              (none-raised script.setting wanted.passes.live id surface h.server.state.records agree x y tiled.column tiled.row tiled.send tiled.live tiled.inside last)
              ∙ tiled.is;
        }

-- ---- each step

abbrev pub counted : Bool → ℕ → ℕ
counted improved n = if improved then n + 1 else n

tiled-as : (script : Script) (wanted : Wanted) (kind : Option Kind) (step : Step) (id x y : ℕ) (format : Format) (tile : SourceTile) (n : ℕ) → Here script wanted (as_kind kind step) → SparesAt (meets_at x y) id script wanted step
    → Tiled wanted id x y format tile n → Tiled (wanted_after script wanted (as_kind kind step)) id x y format tile (counted (improves id step) n)
tiled-as script wanted kind (Improve other) id x y format tile n h spares tiled = elim (cases_eq other id) [
  | inl same ↦
      subst (λ b. Tiled (wanted_after script wanted (as_kind kind (Improve other))) id x y format tile (counted b n)) (sym (eq-eqb other id same))
      (subst (λ m. Tiled (wanted_after script wanted (as_kind kind (Improve m))) id x y format tile (n + 1)) (sym same)
      (improved-tiled script wanted kind id x y format tile n (subst (λ m. Here script wanted (as_kind kind (Improve m))) same h) tiled))
  | inr apart ↦
      subst (λ b. Tiled (wanted_after script wanted (as_kind kind (Improve other))) id x y format tile (counted b n)) (sym (ne_eqb other id apart))
      (beside-tiled script wanted kind other id x y format tile n h apart tiled)
]
tiled-as script wanted kind step id x y format tile n h spares tiled = still-tiled script wanted (as_kind kind step) id x y format tile n h tt spares tiled

pub tiled-next : (script : Script) (wanted : Wanted) (one : KindedStep) (id x y : ℕ) (format : Format) (tile : SourceTile) (n : ℕ) → Here script wanted one → SparesAt (meets_at x y) id script wanted one.step
    → Tiled wanted id x y format tile n → Tiled (wanted_after script wanted one) id x y format tile (counted (improves id one.step) n)
tiled-next script wanted one id x y format tile n h spares tiled = tiled-as script wanted one.kind one.step id x y format tile n h spares tiled
