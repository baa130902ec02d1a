-- A part that draws the whole rectangle, with nothing over it.
use Rattle.std.proofs.Common.{◌≡◌, ℕ, ◌+◌, ◌*◌, ◌<◌, ◌==◌, false, subst, List, [], length, map, take, drop, Option, Some, None, Result, Ok, Err, refl, sym, ap, ◌∙◌, arith, length-drop, eq-eqb}
use Rattle.std.specs.Prelude.{IfSome}
use Rattle.std.specs.Borrow.{Bor}
use Rattle.std.proofs.lemmas.List.{take_all, drop_all, length-replicate}
use Rattle.gfx_base.specs.declared.answer.Cause.TheVariants.{Refused}
use Rattle.gfx_base.specs.declared.pixel.Pixel.{Pixel}
use Rattle.gfx_base.specs.declared.pixel.Rgb.{Rgb}
use Rattle.gfx_base.specs.declared.refusal.Refusal.{Refusal}
use Rattle.gfx_base.specs.declared.refusal.Refusal.TheVariants.{PayloadLength}
use Rattle.gfx_base.specs.declared.geometry.Rect.{Rect}
use Rattle.gfx_base.specs.Geometry.{width_of, height_of}
use Rattle.gfx_base.specs.Results.{and_then, check}
use Rattle.gfx_base.proofs.ResultLemmas.{and_then_at, and_then_refused}
use Rattle.gfx_clear_runs.specs.Outcome.{Paints}
use Rattle.gfx_clear_runs.specs.Reading.{Part, covered, pixels_of, runs_of, rlex_of}
use Rattle.gfx_surface.specs.Picture.{Picture, rect_of}
use Rattle.gfx_clear_store.specs.Rings.{Rings}
use Rattle.gfx_clear_bands.specs.Bands.{Drawing, bands}
use Rattle.gfx_clear_bands.specs.Bars.{colours}
use Rattle.gfx_clear_bands.proofs.Drawings.{within_none as bands_none}
use Rattle.gfx_clear.specs.declared.area.Area.{Area}
use Rattle.gfx_clear.specs.declared.area.TheConstants.{AREA, RAW, RLEX}
use Rattle.gfx_clear.specs.declared.whole.Whole.{Whole}
use Rattle.gfx_clear.specs.declared.whole.Whole.TheVariants.{Runs, Raw, Palette}
use Rattle.gfx_clear.specs.Parts.{Parts, residual, banded, covered_by}
use Rattle.gfx_clear.specs.Subcodecs.{subcodec, subcodecs, coded, area_at, raw_colours, rows_drawn}
use Rattle.gfx_clear.specs.Clear.{layered, undrawn}
use Rattle.gfx_base.specs.Colour.{colour_of}
use Rattle.gfx_clear.specs.Wholes.{whole_pixels, covers, IsWhole, CoversAll, PaintsAs}
use Rattle.gfx_clear.proofs.Areas.{due_fault, within_none, subcodecs_from}
use Rattle.gfx_clear.proofs.Behind.{layered_last, length-background}
use Rattle.gfx_clear.proofs.Layers.{residual_none, residual_some, length-covered, length-coded}
use Rattle.gfx_clear.proofs.Rows.{rows_cover}

-- there is a residual layer, and nothing over it
pub record HasRunsAlone (ps : Parts) : Type 0 where
  pub some : 0 < length ps.residual
  pub no_bands : length ps.bands ≡ 0
  pub no_subcodecs : length ps.subcodecs ≡ 0

-- no bands and no subcodecs draw nothing
nothing_over : (width height : ℕ) (first : Drawing) (some_bands some_subcodecs : List ℕ) → length some_bands ≡ 0 → length some_subcodecs ≡ 0
    → and_then (banded (bands width height first some_bands)) (λ second. subcodecs width height second some_subcodecs) ≡ Ok first
nothing_over width height first some_bands some_subcodecs e f =
    and_then_at (banded (bands width height first some_bands)) first _ (ap banded (bands_none (length some_bands) width height first some_bands e))
    ∙ within_none (length some_subcodecs) width height first some_subcodecs f

pub layered_alone : (width height : ℕ) (old : Drawing) (ps : Parts) → HasRunsAlone ps → layered width height old ps ≡ residual (width * height) old ps.residual
unfolding layered
layered_alone width height old ps alone = by (residual (width * height) old ps.residual) refl
  where
    by : (due : Result Drawing Refusal) → residual (width * height) old ps.residual ≡ due
        → and_then (residual (width * height) old ps.residual) (λ first. and_then (banded (bands width height first ps.bands)) (λ second. subcodecs width height second ps.subcodecs)) ≡ residual (width * height) old ps.residual
    by (Ok first) e = and_then_at (residual (width * height) old ps.residual) first _ e ∙ nothing_over width height first ps.bands ps.subcodecs alone.no_bands alone.no_subcodecs ∙ sym e
    by (Err refusal) e = and_then_refused (residual (width * height) old ps.residual) refusal _ e ∙ sym e

-- a residual layer alone is a whole part
pub runs_whole : (width height : ℕ) (bytes : Bor (List ℕ)) (ps : Parts) → ps.residual ≡ bytes.now → HasRunsAlone ps → IsWhole width height (Runs bytes) (λ old. layered width height old ps)
runs_whole width height bytes ps e alone = λ old colours drawn.
    layered_alone width height old ps alone ∙ residual_some (width * height) old ps.residual alone.some ∙ ap (λ z. covers (covered (width * height) (runs_of z)) old) e

-- so are subcodecs that are one
last_whole : (width height : ℕ) (whole : Whole) (ps : Parts) → length ps.residual ≡ 0 → length ps.bands ≡ 0 → IsWhole width height whole (λ old. subcodecs width height old ps.subcodecs)
    → IsWhole width height whole (λ old. layered width height old ps)
last_whole width height whole ps e f is = λ old colours drawn.
    layered_last width height old old old ps (residual_none (width * height) old ps.residual e) (bands_none (length ps.bands) width height old ps.bands f) ∙ is old colours drawn

pub any_last_whole : (width height : ℕ) (found : Option Whole) (ps : Parts) → length ps.residual ≡ 0 → length ps.bands ≡ 0 → IfSome found (λ whole. IsWhole width height whole (λ old. subcodecs width height old ps.subcodecs))
    → IfSome found (λ whole. IsWhole width height whole (λ old. layered width height old ps))
any_last_whole width height None ps e f is = tt
any_last_whole width height (Some whole) ps e f is = last_whole width height whole ps e f is

-- one subcodec over the whole
one_subcodec : (width height : ℕ) (bytes own : List ℕ) (area : Area) (old : Drawing) → area_at width height bytes ≡ Ok area → CoversAll area width height (length bytes) → own ≡ drop AREA bytes
    → subcodec width height old bytes ≡ and_then (coded area.codec (width * height) own) (λ pixels. Ok (rows_drawn width width 0 height pixels old, []))
unfolding subcodec
one_subcodec width height bytes own area old e all f =
    let long : length own ≡ area.size = omega (arith, ap length f, length-drop AREA bytes, all.alone) in
    let same : take area.size (drop AREA bytes) ≡ own = ap (take area.size) (sym f) ∙ take_all area.size own (omega arith) in
    let none : drop area.size (drop AREA bytes) ≡ [] = ap (drop area.size) (sym f) ∙ drop_all area.size own (omega arith) in
    let start : area.y * width + area.x ≡ 0 = (λ i. all.top i * width + all.left i) ∙ omega arith in
    and_then_at (area_at width height bytes) area _ e
    ∙ (λ i. and_then (coded area.codec (all.across i * all.down i) (same i)) (λ pixels. Ok (rows_drawn width (all.across i) (start i) (all.down i) pixels old, none i)))

subcodec_whole : (width height : ℕ) (bytes own : List ℕ) (area : Area) (old : Drawing) → 0 < length bytes → area_at width height bytes ≡ Ok area → CoversAll area width height (length bytes) → own ≡ drop AREA bytes
    → length old.colours ≡ width * height → length old.drawn ≡ width * height → subcodecs width height old bytes ≡ covers (coded area.codec (width * height) own) old
subcodec_whole width height bytes own area old some e all f colours drawn = by (coded area.codec (width * height) own) refl
  where
    one : (due : Result (List Rgb) Refusal) → coded area.codec (width * height) own ≡ due → subcodec width height old bytes ≡ and_then due (λ pixels. Ok (rows_drawn width width 0 height pixels old, []))
    one due is = one_subcodec width height bytes own area old e all f ∙ ap (λ z. and_then z (λ pixels. Ok (rows_drawn width width 0 height pixels old, []))) is

    by : (due : Result (List Rgb) Refusal) → coded area.codec (width * height) own ≡ due → subcodecs width height old bytes ≡ covers (coded area.codec (width * height) own) old
    by (Ok pixels) is =
        let whole = length-coded area.codec (width * height) own pixels is in
        subcodecs_from (length bytes) width height old (rows_drawn width width 0 height pixels old) bytes refl some (one (Ok pixels) is ∙ and_then_at {A = List Rgb} (Ok pixels) pixels _ refl)
        ∙ ap Ok (rows_cover width height pixels old whole colours drawn)
        ∙ sym (and_then_at (coded area.codec (width * height) own) pixels _ is)
    by (Err refusal) is =
        due_fault (Refused refusal) width height old bytes (subcodecs width height old bytes) some
        (one (Err refusal) is ∙ and_then_refused {A = List Rgb} (Err refusal) refusal _ refl) (record { most = length bytes; enough = omega arith; same = refl })
        ∙ sym (and_then_refused (coded area.codec (width * height) own) refusal _ is)

-- by three bytes for each pixel
pub raw_whole : (width height : ℕ) (bytes : List ℕ) (own : Bor (List ℕ)) (area : Area) → 0 < length bytes → area_at width height bytes ≡ Ok area → CoversAll area width height (length bytes) → own.now ≡ drop AREA bytes
    → area.codec ≡ RAW → IsWhole width height (Raw own) (λ old. subcodecs width height old bytes)
raw_whole width height bytes own area some e all f codec = λ old colours drawn.
    subcodec_whole width height bytes own.now area old some e all f colours drawn ∙ ap (λ z. covers (coded z (width * height) own.now) old) codec

-- by a palette
pub palette_whole : (width height : ℕ) (bytes : List ℕ) (own : Bor (List ℕ)) (area : Area) → 0 < length bytes → area_at width height bytes ≡ Ok area → CoversAll area width height (length bytes) → own.now ≡ drop AREA bytes
    → area.codec ≡ RLEX → IsWhole width height (Palette own) (λ old. subcodecs width height old bytes)
palette_whole width height bytes own area some e all f codec = λ old colours drawn.
    subcodec_whole width height bytes own.now area old some e all f colours drawn ∙ ap (λ z. covers (coded z (width * height) own.now) old) codec

-- runs that were painted are the part's pixels
pub paints_runs : (result : Result (Unit {0}) Refusal) (area : ℕ) (part : Part) (new : List Pixel) → Paints result area part new → PaintsAs result new (covered area part)
paints_runs (Ok x) area part new done = (pixels_of part.elements, done.0, done.1)
paints_runs (Err reason) area part new done = done

-- three bytes for each pixel
pub raw_painted : (count : ℕ) (bytes : List ℕ) → length bytes ≡ 3 * count → raw_colours count bytes ≡ Ok (colours count bytes)
unfolding raw_colours
raw_painted count bytes e = and_then_at (check PayloadLength (length bytes == 3 * count)) tt _ (ap (check PayloadLength) (eq-eqb (length bytes) (3 * count) e))

-- a part that draws all, and is refused
pub whole_refused : (pixels : Result (List Rgb) Refusal) (old : Drawing) (refusal : Refusal) → pixels ≡ Err refusal → covers pixels old ≡ Err refusal
whole_refused pixels old refusal e = and_then_refused pixels refusal _ e

-- or is drawn
pub whole_drawn : (pixels : Result (List Rgb) Refusal) (old : Drawing) (drawn : List Rgb) → pixels ≡ Ok drawn → covers pixels old ≡ Ok (covered_by drawn old)
whole_drawn pixels old drawn e = and_then_at pixels drawn _ e

-- a part has as many pixels as it has places
pub length-whole : (whole : Whole) (area : ℕ) (pixels : List Rgb) → whole_pixels whole area ≡ Ok pixels → length pixels ≡ area
length-whole (Runs bytes) area pixels e = length-covered area (runs_of bytes.now) pixels e
length-whole (Raw bytes) area pixels e = length-coded RAW area bytes.now pixels e
length-whole (Palette bytes) area pixels e = length-covered area (rlex_of bytes.now) pixels e

-- what draws all of a rectangle, over what stands there
pub whole_over : (picture : Picture) (rect : Rect) (width height : ℕ) (whole : Whole) (ps : Parts) (rings : Rings) → width ≡ width_of rect → height ≡ height_of rect → IsWhole width height whole (λ old. layered width height old ps)
    → layered (width_of rect) (height_of rect) (undrawn (map colour_of (rect_of picture rect)) rings) ps ≡ covers (whole_pixels whole (width_of rect * height_of rect)) (undrawn (map colour_of (rect_of picture rect)) rings)
whole_over picture rect width height whole ps rings wide high is =
    let long = length-background picture rect in
    let high_is : IsWhole width (height_of rect) whole (λ old. layered width (height_of rect) old ps) = subst (λ h. IsWhole width h whole (λ old. layered width h old ps)) high is in
    let all_is : IsWhole (width_of rect) (height_of rect) whole (λ old. layered (width_of rect) (height_of rect) old ps) = subst (λ w. IsWhole w (height_of rect) whole (λ old. layered w (height_of rect) old ps)) wide high_is in
    all_is (undrawn (map colour_of (rect_of picture rect)) rings) long (length-replicate (length (map colour_of (rect_of picture rect))) false ∙ long)
