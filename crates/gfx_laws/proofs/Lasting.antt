-- Which tiles are live after a step, and what it leaves of a pixel that it doesn't write.
use Rattle.std.proofs.Common.{◌≡◌, ◌≢◌, ◌⊎◌, ◌∙◌, ◌+◌, ◌*◌, ◌<◌, ◌≤◌, ◌&&◌, ◌||◌, ◌==◌, not, ℕ, Bool, true, false, cond, if◌then◌else◌, nat_lt, List, [], ◌∷◌, length, Option, Some, None, option_map, inl, inr, refl, sym, ap, subst, arith, eq-eqb}
use Rattle.std.specs.FinMap.{get, get-retain_keys}
use Rattle.std.specs.List.{AllByRecursion, list_any, slice_get}
use Rattle.std.proofs.lemmas.Bool.{cases_eq}
use Rattle.std.proofs.lemmas.Bool.Decides.{nat_tests}
use Rattle.gfx_base.specs.declared.geometry.Cell.{Cell}
use Rattle.gfx_base.specs.declared.geometry.Point.{Point}
use Rattle.gfx_base.specs.declared.geometry.Rect.{Rect}
use Rattle.gfx_base.specs.declared.geometry.TheConstants.{CELL_SIDE}
use Rattle.gfx_base.specs.Cells.{cell, cells_met, cut_to_cell, meets}
use Rattle.gfx_base.specs.Geometry.{holds}
use Rattle.gfx_prog_decode.specs.declared.key.Key.{Key}
use Rattle.gfx_prog_decode.specs.Records.{Records}
use Rattle.gfx_prog_decode.proofs.Keys.{key_same}
use Rattle.gfx_prog_encode.specs.declared.send.TileSend.{TileSend}
use Rattle.gfx_prog_law.proofs.Apart.{all-any, all-map}
use Rattle.gfx_prog_law.proofs.Kept.{found-by, live-elsewhere, retained-live}
use Rattle.gfx_prog_law.proofs.Squares.{InCell, rect-in-cell}
use Rattle.gfx_prog_live.specs.Cells.{cell_key}
use Rattle.gfx_prog_live.specs.Live.{Live, Passes, after_sends, painted_sends, send_of, with_live}
use Rattle.gfx_quant.specs.declared.setting.Setting.{Setting}
use Rattle.gfx_script.specs.declared.held.Sides.{Sides}
use Rattle.gfx_script.specs.declared.picture.Picture.{Picture as Source}
use Rattle.gfx_script.specs.declared.step.Kind.{Kind}
use Rattle.gfx_script.specs.declared.step.Step.{Step}
use Rattle.gfx_script.specs.declared.step.Step.TheVariants.{Surface, Delete, Improve, Paint}
use Rattle.gfx_script.specs.Kinds.{KindedStep, as_kind}
use Rattle.gfx_script.specs.Scripted.{Script}
use Rattle.gfx_script.specs.Ways.{goes_by}
use Rattle.gfx_script.specs.Writes.{Area, area, place_of, writes_by}
use Rattle.gfx_surface.specs.Picture.{Picture}
use Rattle.gfx_surface_map.specs.Surfaces.{Surfaces}
use Rattle.gfx_planner.specs.Bitmaps.{sides_kept}
use Rattle.gfx_planner.specs.Passes.{ended_by, painted_passes, passes_as}
use Rattle.gfx_planner.specs.Tiles.{HoldsTiles}
use Rattle.gfx_planner.specs.TileSteps.{sends_tiles}
use Rattle.gfx_planner.specs.Wanted.{Wanted}
use Rattle.gfx_planner.specs.Want.{wanted_after, wanted_as}
use Rattle.gfx_planner.specs.Within.{IsOutside}
use Rattle.gfx_planner.proofs.LiveShown.{tiles-wanted}
use Rattle.gfx_planner.proofs.Seen.{seen}
use Rattle.gfx_planner.proofs.SurfaceSteps.{surface_fine}
use Rattle.gfx_planner.proofs.TilesFollow.{Ends, ends-by}
use Rattle.gfx_planner.proofs.Ways.{live_in_passes, live_left}
use Rattle.gfx_laws.specs.Raised.{Raises, at_next_level}
use Rattle.gfx_laws.specs.Stays.{Leaves}
use Rattle.gfx_laws.specs.Written.{HasPixel, IsBeside}
use Rattle.gfx_laws.proofs.Fronts.{Here}
use Rattle.gfx_laws.proofs.Raising.{raises}
use Rattle.gfx_laws.proofs.Shapes.{IsKept, IsOther, step-keeps}
use Rattle.gfx_laws.proofs.Where.{SparesAt, writes_at}

-- the tiles that are live at the server's end agree with its records
pub tiles-here : (script : Script) (wanted : Wanted) (one : KindedStep) (h : Here script wanted one) → HoldsTiles script.setting wanted.passes.live h.server.state.records wanted.shown.surfaces
tiles-here script wanted one h = tiles-wanted script h.held h.server wanted h.stands.holds h.stands.agrees

-- an improvement raises
pub raises-here : (script : Script) (wanted : Wanted) (kind : Option Kind) (id : ℕ) → Here script wanted (as_kind kind (Improve id)) → Raises id wanted (wanted_after script wanted (as_kind kind (Improve id)))
unfolding wanted_as passes_as
raises-here script wanted kind id h = raises script.setting wanted h.server.state.records id _ refl (tiles-here script wanted (as_kind kind (Improve id)) h)

-- ---- a surface that is spared stays

other-surface : (test : Rect → Bool) (script : Script) (wanted : Wanted) (kind : Option Kind) (step : Step) (id : ℕ) (picture : Picture) → Here script wanted (as_kind kind step) → get wanted.shown.surfaces id ≡ Some picture
    → SparesAt test id script wanted step → IsOther id step
other-surface test script wanted kind (Surface other width height format) id picture h there spares = λ same.
    let fine = surface_fine script h.server kind h.held h.after other width height format (seen script h.held h.server h.stands.holds) h.numbers h.checked in
    let none : get wanted.shown.surfaces other ≡ None = ap (λ s. get s.surfaces other) (sym h.stands.agrees.shown) ∙ fine.keeps.0 in
    let some : get wanted.shown.surfaces other ≡ Some picture = ap (get wanted.shown.surfaces) (sym same) ∙ there in
    let both : None ≡ Some picture = sym none ∙ some in
    absurd cc
other-surface test script wanted kind (Delete other) id picture h there spares = λ same. spares (sym same)
other-surface test script wanted kind step id picture h there spares = tt

pub surface-stays : (test : Rect → Bool) (script : Script) (wanted : Wanted) (one : KindedStep) (id : ℕ) (picture : Picture) → Here script wanted one → get wanted.shown.surfaces id ≡ Some picture
    → SparesAt test id script wanted one.step → IsKept (wanted_after script wanted one).shown.surfaces id picture
surface-stays test script wanted one id picture h there spares =
    let kept = step-keeps script wanted one.kind one.step id (other-surface test script wanted one.kind one.step id picture h there spares) picture there in
    record { picture = kept.picture; there = kept.there; shape = kept.shape }

-- ---- tiles of other pixels

-- no live tile of a surface paints this pixel
abbrev pub IsOfNone : Live → ℕ → ℕ → ℕ → Type 0
IsOfNone live id x y = (key : Key) (send : TileSend) → key.surface ≡ id → get live key ≡ Some send → holds send.rect x y ≡ false

-- a rectangle that is cut has no more pixels
cut-misses : (rect : Rect) (c : Cell) (x y : ℕ) → holds rect x y ≡ false → holds (cut_to_cell rect c) x y ≡ false
cut-misses rect c x y miss = by (holds (cut_to_cell rect c) x y) refl
  where
    within : holds (cut_to_cell rect c) x y ≡ true → holds rect x y ≡ true
    within hit = grind (arith, nat_tests)

    by : (b : Bool) → holds (cut_to_cell rect c) x y ≡ b → b ≡ false
    by false e = refl
    by true e = sym (within e) ∙ miss

sends-miss : (id x y : ℕ) (sends : List TileSend) (live : Live) → AllByRecursion (λ (send : TileSend). holds send.rect x y ≡ false) sends → IsOfNone live id x y → IsOfNone (after_sends id sends live) id x y
sends-miss id x y [] live miss none = none
sends-miss id x y (send ∷ sends) live miss none =
    sends-miss id x y sends (with_live id live send) miss.1
    (λ key later same found.
    found-by live (cell_key id send.cell) send (λ (one : TileSend). holds one.rect x y ≡ false) key later found
    (λ at which. subst (λ (one : TileSend). holds one.rect x y ≡ false) which miss.0) (λ was untied. none key later same was))

painted-none : (script : Script) (passes : Passes) (id other x y : ℕ) (o : Option Source) (at : Point) → IsBeside (λ rect. holds rect x y) id (option_map (λ source. area other (place_of source at ∷ [])) o) → IsOfNone passes.live id x y
    → IsOfNone (painted_passes script passes other o at).live id x y
unfolding painted_passes send_of
painted-none script passes id other x y None at beside none = none
painted-none script passes id other x y (Some source) at beside none = by (cases_eq other id)
  where
    place : Rect
    place = place_of source at

    by : ((other ≡ id) ⊎ (other ≢ id)) → IsOfNone (after_sends other (painted_sends script passes.live other source place) passes.live) id x y
    by (inl same) =
        subst (λ n. IsOfNone (after_sends other (painted_sends script passes.live other source place) passes.live) n x y) same
        (sends-miss other x y (painted_sends script passes.live other source place) passes.live
        (all-map (send_of script passes.live other source place) (λ _. Unit {0}) (λ (send : TileSend). holds send.rect x y ≡ false) (λ c _. cut-misses place c x y (beside same).0) (cells_met place)
        (all-any (λ _. Unit {0}) (λ _. tt) (cells_met place)))
        (subst (λ n. IsOfNone passes.live n x y) (sym same) none))
    by (inr apart) = λ key send at found.
        none key send at (sym (live-elsewhere other key (λ e. apart (sym e ∙ at)) (painted_sends script passes.live other source place) passes.live) ∙ found)

-- what a step that sends no tiles leaves live was live
pub live-before : (script : Script) (sides_of : ℕ → Option Sides) (surfaces : Surfaces) (passes : Passes) (kind : Option Kind) (step : Step) → sends_tiles script.thin kind step ≡ false
    → Ends passes.live (passes_as script sides_of surfaces passes kind step).live
unfolding passes_as
live-before script sides_of surfaces passes kind (Delete id) apart = λ key send found. (retained-live passes.live (λ k. not (k.surface == id)) key send found).0
live-before script sides_of surfaces passes kind (Improve id) apart = absurd cc
live-before script sides_of surfaces passes kind (Paint id number at named glyph) apart =
    let written = writes_by script sides_of (Paint id number at named glyph) in
    subst (Ends passes.live) (sym (live_left script passes (goes_by script.thin kind) id (slice_get script.pictures number) at written apart).0) (ends-by passes written)
live-before script sides_of surfaces passes kind step apart = ends-by passes (writes_by script sides_of step)

-- an improvement raises tiles of the same rectangles
raised-none : (old new : Wanted) (id other x y : ℕ) → Raises other old new → IsOfNone old.passes.live id x y → IsOfNone new.passes.live id x y
raised-none old new id other x y raises none key send at found = by (key.surface == other) refl
  where
    same-rect : (before : TileSend) (b : Bool) → holds before.rect x y ≡ false → holds (if b then record before { level = before.level + 1 } else before).rect x y ≡ false
    same-rect before true miss = miss
    same-rect before false miss = miss

    from-next : (o : Option TileSend) → get old.passes.live key ≡ o → option_map at_next_level o ≡ Some send → holds send.rect x y ≡ false
    from-next None e is = absurd cc
    from-next (Some before) e is =
        let same : at_next_level before ≡ send = cc in
        subst (λ (s : TileSend). holds s.rect x y ≡ false) same (same-rect before (nat_lt before.level (length before.tile.setting.levels)) (none key before at e))

    by : (b : Bool) → (key.surface == other) ≡ b → holds send.rect x y ≡ false
    by true e = from-next (get old.passes.live key) refl (sym (raises.live key ∙ ap (λ b. if b then option_map at_next_level (get old.passes.live key) else get old.passes.live key) e) ∙ found)
    by false e = none key send at (sym (raises.live key ∙ ap (λ b. if b then option_map at_next_level (get old.passes.live key) else get old.passes.live key) e) ∙ found)

none-as : (script : Script) (wanted : Wanted) (kind : Option Kind) (step : Step) (id x y : ℕ) (h : Here script wanted (as_kind kind step)) → IsOfNone wanted.passes.live id x y
    → SparesAt (λ rect. holds rect x y) id script wanted step → (b : Bool) → sends_tiles script.thin kind step ≡ b → IsOfNone (wanted_after script wanted (as_kind kind step)).passes.live id x y
unfolding passes_as writes_by
none-as script wanted kind (Improve other) id x y h none spares b sends = raised-none wanted _ id other x y (raises-here script wanted kind other h) none
none-as script wanted kind (Paint other number at named glyph) id x y h none spares true sends =
    let written = writes_by script (sides_kept wanted.plan wanted.slots) (Paint other number at named glyph) in
    subst (λ (p : Passes). IsOfNone p.live id x y) (sym (live_in_passes script wanted.passes (goes_by script.thin kind) other (slice_get script.pictures number) at written sends))
    (painted-none script wanted.passes id other x y (slice_get script.pictures number) at spares none)
none-as script wanted kind step id x y h none spares true sends = absurd cc
none-as script wanted kind step id x y h none spares false sends =
    λ key send at found. none key send at (live-before script (sides_kept wanted.plan wanted.slots) wanted.shown.surfaces wanted.passes kind step sends key send found)

pub none-next : (script : Script) (wanted : Wanted) (one : KindedStep) (id x y : ℕ) → Here script wanted one → IsOfNone wanted.passes.live id x y → SparesAt (λ rect. holds rect x y) id script wanted one.step
    → IsOfNone (wanted_after script wanted one).passes.live id x y
none-next script wanted one id x y h none spares = none-as script wanted one.kind one.step id x y h none spares (sends_tiles script.thin one.kind one.step) refl

-- ---- what a spared pixel is left by

pub outside-of : (o : Option Area) (id x y : ℕ) → IsBeside (λ rect. holds rect x y) id o → IsOutside o id x y
outside-of None id x y beside = tt
outside-of (Some written) id x y beside = beside

pub leaves-from : (script : Script) (wanted : Wanted) (step : Step) (id x y : ℕ) → IsOfNone wanted.passes.live id x y → SparesAt (λ rect. holds rect x y) id script wanted step → Leaves script wanted step id x y
unfolding writes_by
leaves-from script wanted (Improve other) id x y none spares = λ same key send at found below. none key send at found
leaves-from script wanted (Delete other) id x y none spares = tt
leaves-from script wanted step id x y none spares = outside-of (writes_by script (sides_kept wanted.plan wanted.slots) step) id x y spares

-- ---- tiles that end, and such that stay

-- an area has a rectangle that meets a key's cell
abbrev pub touches : Option Area → Key → Bool
touches None key = false
touches (Some written) key = key.surface == written.surface && list_any (λ rect. meets rect (cell key.x key.y)) written.rects

pub left-live : (passes : Passes) (written : Option Area) (key : Key) → get (ended_by passes written).live key ≡ (if touches written key then None else get passes.live key)
unfolding ended_by
left-live passes None key = refl
left-live passes (Some written) key =
    get-retain_keys passes.live (λ k. not (k.surface == written.surface && list_any (λ rect. meets rect (cell k.x k.y)) written.rects)) key
    (λ q tie. ap (λ (k : Key). not (k.surface == written.surface && list_any (λ rect. meets rect (cell k.x k.y)) written.rects)) (sym (key_same key q tie)))
    ∙ turned (key.surface == written.surface && list_any (λ rect. meets rect (cell key.x key.y)) written.rects) (get passes.live key)
  where
    turned : (b : Bool) (o : Option TileSend) → cond (not b) o None ≡ (if b then None else o)
    turned true o = refl
    turned false o = refl

-- a rectangle with a pixel of a cell meets it
pub met-by-pixel : (rect : Rect) (column row x y : ℕ) → InCell column row x y → holds rect x y ≡ true → meets rect (cell column row) ≡ true
met-by-pixel rect column row x y inside hit = met inside.left inside.right inside.top inside.bottom
  where
    met : CELL_SIDE * column ≤ x → x < CELL_SIDE * column + CELL_SIDE → CELL_SIDE * row ≤ y → y < CELL_SIDE * row + CELL_SIDE → meets rect (cell column row) ≡ true
    met left right top bottom = grind (arith, nat_tests)

some-met : (rects : List Rect) (column row x y : ℕ) → InCell column row x y → list_any (λ rect. holds rect x y) rects ≡ true → list_any (λ rect. meets rect (cell column row)) rects ≡ true
some-met [] column row x y inside has = absurd (let f : false ≡ true = has in cc)
some-met (rect ∷ rects) column row x y inside has = by (holds rect x y) refl (λ more. some-met rects column row x y inside more)
  where
    skip : (b c : Bool) → c ≡ true → (b || c) ≡ true
    skip true c e = refl
    skip false c e = e

    by : (b : Bool) → holds rect x y ≡ b → (list_any (λ r. holds r x y) rects ≡ true → list_any (λ r. meets r (cell column row)) rects ≡ true)
        → (meets rect (cell column row) || list_any (λ r. meets r (cell column row)) rects) ≡ true
    by true hit rest = ap (λ b. b || list_any (λ r. meets r (cell column row)) rects) (met-by-pixel rect column row x y inside hit)
    by false miss rest = skip (meets rect (cell column row)) (list_any (λ r. meets r (cell column row)) rects) (rest (sym (ap (λ b. b || list_any (λ r. holds r x y) rects) miss) ∙ has))

-- a pixel of a live tile is of the tile's cell
pub in-own-cell : (setting : Setting) (live : Live) (records : Records) (surfaces : Surfaces) → HoldsTiles setting live records surfaces → (key : Key) (send : TileSend) (x y : ℕ) → get live key ≡ Some send
    → holds send.rect x y ≡ true → InCell key.x key.y x y
in-own-cell setting live records surfaces tiles key send x y found hit = by (get surfaces key.surface) refl
  where
    by : (o : Option Picture) → get surfaces key.surface ≡ o → InCell key.x key.y x y
    by None none = let gone : get live key ≡ None = tiles.others key none in absurd (let both : None ≡ Some send = sym gone ∙ found in cc)
    by (Some surface) there =
        let sent = (tiles.each key.surface surface there).each key send refl found in
        subst (λ (k : Key). InCell k.x k.y x y) (sym sent.0) (rect-in-cell send x y sent.1.0.in_cell hit)

-- a step that writes a pixel ends the tiles that paint it
ended-none : (setting : Setting) (passes : Passes) (records : Records) (surfaces : Surfaces) (o : Option Area) (id x y : ℕ) → HoldsTiles setting passes.live records surfaces → HasPixel o id x y → IsOfNone (ended_by passes o).live id x y
ended-none setting passes records surfaces None id x y tiles has key send at found = absurd has
ended-none setting passes records surfaces (Some written) id x y tiles has key send at found = by (holds send.rect x y) refl
  where
    was : get passes.live key ≡ Some send
    was = ends-by passes (Some written) key send found

    both-true : (a b : Bool) → a ≡ true → b ≡ true → (a && b) ≡ true
    both-true a b e f = rw (e, f) refl

    by : (b : Bool) → holds send.rect x y ≡ b → b ≡ false
    by false e = refl
    by true hit =
        let inside : InCell key.x key.y x y = in-own-cell setting passes.live records surfaces tiles key send x y was hit in
        let touched : touches (Some written) key ≡ true = both-true (key.surface == written.surface) (list_any (λ rect. meets rect (cell key.x key.y)) written.rects)
        (eq-eqb key.surface written.surface (at ∙ sym has.0)) (some-met written.rects key.x key.y x y inside has.1) in
        let none : get (ended_by passes (Some written)).live key ≡ None = left-live passes (Some written) key ∙ ap (λ b. if b then None else get passes.live key) touched in
        absurd (let both : None ≡ Some send = sym none ∙ found in cc)

none-deleted : (script : Script) (wanted : Wanted) (other id x y : ℕ) → HasPixel (writes_at script wanted (Delete other)) id x y → ⊥
unfolding writes_by
none-deleted script wanted other id x y has = has

pub none-left : (script : Script) (wanted : Wanted) (kind : Option Kind) (step : Step) (id x y : ℕ) → Here script wanted (as_kind kind step) → HasPixel (writes_at script wanted step) id x y → sends_tiles script.thin kind step ≡ false
    → IsOfNone (wanted_after script wanted (as_kind kind step)).passes.live id x y
unfolding passes_as
none-left script wanted kind (Delete other) id x y h has apart = absurd (none-deleted script wanted other id x y has)
none-left script wanted kind (Improve other) id x y h has apart = absurd has
none-left script wanted kind (Paint other number at named glyph) id x y h has apart =
    let written = writes_by script (sides_kept wanted.plan wanted.slots) (Paint other number at named glyph) in
    subst (λ (l : Live). IsOfNone l id x y) (sym (live_left script wanted.passes (goes_by script.thin kind) other (slice_get script.pictures number) at written apart).0)
    (ended-none script.setting wanted.passes h.server.state.records wanted.shown.surfaces written id x y (tiles-here script wanted (as_kind kind (Paint other number at named glyph)) h) has)
none-left script wanted kind step id x y h has apart =
    ended-none script.setting wanted.passes h.server.state.records wanted.shown.surfaces (writes_by script (sides_kept wanted.plan wanted.slots) step) id x y (tiles-here script wanted (as_kind kind step) h) has
