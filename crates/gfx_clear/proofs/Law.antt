-- What is sent for a picture is decoded to it, and to the sender's state.
use Rattle.std.proofs.Common.{◌≡◌, ◌⊎◌, inl, inr, ℕ, ◌+◌, ◌*◌, ◌==◌, ◌^◌, ◌<◌, ◌≤◌, Bool, true, false, nat_eq, List, [], ◌∷◌, ◌++◌, length, take, drop, replicate, set, Option, Some, None, Ok, Err, refl, sym, ap, ◌∙◌, subst, arith, append-nil, length-append, eq-eqb, mul-le-mul}
use Rattle.std.specs.Prelude.{◌&&◌, unwrap_or, if◌then◌else◌}
use Rattle.std.specs.List.{flat_map}
use Rattle.std.proofs.lemmas.Bool.{le-leb, lt-ltb, le-ltb}
use Rattle.std.proofs.lemmas.List.{take_all, drop_all, length-replicate}
use Rattle.gfx_base.specs.declared.pixel.Rgb.{Rgb}
use Rattle.gfx_base.specs.declared.refusal.Refusal.TheVariants.{PayloadLength, GlyphSize}
use Rattle.gfx_base.specs.Results.{check}
use Rattle.gfx_base.proofs.ResultLemmas.{and_then_at}
use Rattle.gfx_clear_store.specs.Rings.{Rings, AreRings}
use Rattle.gfx_clear_runs.specs.Reading.{covered, runs_of, rlex_of}
use Rattle.gfx_clear_runs.specs.Writing.{Run, run_spelled, longest_runs, runs_written, rlex_written}
use Rattle.gfx_clear_runs.specs.Forms.{pixels_of_runs}
use Rattle.gfx_clear_runs.proofs.Writings.{pixels_longest, read_back}
use Rattle.gfx_clear_runs.proofs.Segmented.{rlex_read_back}
use Rattle.gfx_clear_bands.specs.Bars.{colours}
use Rattle.gfx_clear_bands.specs.Bands.{Drawing, drawing}
use Rattle.gfx_clear_bands.specs.Writing.{colour_bytes, elements, written, after}
use Rattle.gfx_clear_bands.proofs.Again.{colours_again}
use Rattle.gfx_clear_bands.proofs.Drawings.{within_none as bands_none}
use Rattle.gfx_clear_bands.proofs.ReadAgain.{reads_back}
use Rattle.gfx_glyph.specs.declared.glyphs.TheConstants.{PLACES, MOST_AREA}
use Rattle.gfx_glyph.specs.Glyphs.{Slot, glyph, slot_at, stands, shown, drawn}
use Rattle.gfx_base.specs.Colour.{same_pixels}
use Rattle.gfx_glyph.proofs.Same.{same_pixels-Decides}
use Rattle.gfx_clear.specs.declared.area.TheConstants.{RAW, RLEX}
use Rattle.gfx_clear.specs.declared.head.GlyphUse.{GlyphUse}
use Rattle.gfx_clear.specs.declared.head.GlyphUse.TheVariants.{Unused, Stores, Shows}
use Rattle.gfx_clear.specs.declared.layer.Layer.{Layer}
use Rattle.gfx_clear.specs.declared.layer.Layer.TheVariants.{Residual, Bands, Palette, Plain}
use Rattle.gfx_clear.specs.State.{ClearState}
use Rattle.gfx_clear.specs.Heads.{head, is_due, has_place, is_small}
use Rattle.gfx_clear.specs.Parts.{Parts, parts, covered_by}
use Rattle.gfx_clear.specs.Subcodecs.{coded, raw_colours}
use Rattle.gfx_clear.specs.Clear.{layered, drawn_in_layers, behind_head, glyphs_after, undrawn, clear, cleared}
use Rattle.gfx_clear.specs.Sending.{MaySend, Message, sent, sent_as, use_of, sequence_of, head_bytes, size_bytes, area_bytes, part_as, palette_part, part_bytes, rings_after}
use Rattle.gfx_clear.specs.Laws.{shows, SentIsDecoded, HeldIsShown}
use Rattle.gfx_clear.proofs.Layers.{residual_none, residual_drawn}
use Rattle.gfx_clear.proofs.Rows.{rows_cover}
use Rattle.gfx_clear.proofs.Areas.{within_none}
use Rattle.gfx_clear.proofs.Behind.{layered_last, in_layers_or_not, glyph_stored, index_drawn}
use Rattle.gfx_clear.proofs.Again.{plain_head, head_again, sizes_again, subcodec_again}
use Rattle.gfx_clear.proofs.Few.{length-colours, part_few}
use Rattle.gfx_clear.proofs.Sent.{stored_fits}

layers_done : (width height : ℕ) (old new : Drawing) (bytes : List ℕ) (ps : Parts) → parts bytes ≡ Ok ps → layered width height old ps ≡ Ok new → drawn_in_layers width height old bytes ≡ Ok new
unfolding drawn_in_layers
layers_done width height old new bytes ps e f = and_then_at (parts bytes) ps (layered width height old) e ∙ f

abbrev three : List ℕ → List ℕ → List ℕ → Parts
three first second third = record { residual = first; bands = second; subcodecs = third }

runs_some : (runs : List Run) (pixels : List Rgb) → pixels_of_runs runs ≡ pixels → 0 < length pixels → 0 < length (flat_map run_spelled runs)
runs_some [] pixels e some = let none = ap length e in absurd (omega arith)
runs_some (part ∷ runs) pixels e some = omega (arith, length-append (run_spelled part) (flat_map run_spelled runs))

-- runs
layers_runs : (width height : ℕ) (pixels : List Rgb) (old : Drawing) → 0 < length pixels → length pixels ≡ width * height → length pixels < 2 ^ 32
    → layered width height old (three (runs_written pixels) [] []) ≡ Ok (covered_by pixels old)
layers_runs width height pixels old some whole few =
    let bytes = runs_written pixels in
    let new = covered_by pixels old in
    let read : covered (width * height) (runs_of bytes) ≡ Ok pixels = ap (λ n. covered n (runs_of bytes)) (sym whole) ∙ read_back pixels few in
    layered_last width height old new new (three bytes [] [])
    (residual_drawn (width * height) old new bytes pixels (runs_some (longest_runs pixels) pixels (pixels_longest pixels) some) read refl) (bands_none 0 width height new [] refl)
    ∙ within_none 0 width height new [] refl

-- bands
layers_bands : (width height : ℕ) (pixels : List Rgb) (old : Drawing) → 1 ≤ width → width < 2 ^ 16 → height < 2 ^ 16 → length pixels ≡ width * height → length old.colours ≡ width * height
    → length old.drawn ≡ width * height → AreRings old.rings
    → layered width height old (three [] (written old.rings (elements width height pixels)) []) ≡ Ok (drawing pixels (replicate (length pixels) true) (after old.rings (elements width height pixels)))
layers_bands width height pixels old some wide high whole colours flags are =
    let bytes = written old.rings (elements width height pixels) in
    let new = drawing pixels (replicate (length pixels) true) (after old.rings (elements width height pixels)) in
    layered_last width height old old new (three [] bytes []) (residual_none (width * height) old [] refl) (reads_back width height pixels old some wide high whole colours flags are)
    ∙ within_none 0 width height new [] refl

-- a subcodec over the whole
layers_subcodec : (width height codec : ℕ) (bytes : List ℕ) (pixels : List Rgb) (old : Drawing) → width < 2 ^ 16 → height < 2 ^ 16 → length bytes < 2 ^ 32 → length pixels ≡ width * height
    → length old.colours ≡ width * height → length old.drawn ≡ width * height → coded codec (width * height) bytes ≡ Ok pixels
    → layered width height old (three [] [] (area_bytes width height (length bytes) codec ++ bytes)) ≡ Ok (covered_by pixels old)
layers_subcodec width height codec bytes pixels old wide high few whole colours flags e =
    let all = area_bytes width height (length bytes) codec ++ bytes in
    layered_last width height old old old (three [] [] all) (residual_none (width * height) old [] refl) (bands_none 0 width height old [] refl)
    ∙ subcodec_again width height codec bytes pixels old wide high few e ∙ ap Ok (rows_cover width height pixels old whole colours flags)

raw_again : (pixels : List Rgb) (count : ℕ) → length pixels ≡ count → coded RAW count (flat_map colour_bytes pixels) ≡ Ok pixels
unfolding raw_colours
raw_again pixels count e =
    let bytes = flat_map colour_bytes pixels in
    let long : length bytes ≡ 3 * count = length-colours pixels ∙ ap (λ n. 3 * n) e in
    and_then_at (check PayloadLength (length bytes == 3 * count)) tt _ (ap (check PayloadLength) (eq-eqb (length bytes) (3 * count) long))
    ∙ (λ i. Ok (colours (sym e i) (sym (append-nil bytes) i))) ∙ ap Ok (colours_again pixels [])

rlex_again : (pixels : List Rgb) (bytes : List ℕ) (count : ℕ) → length pixels ≡ count → length pixels < 2 ^ 32 → rlex_written pixels ≡ Some bytes → coded RLEX count bytes ≡ Ok pixels
rlex_again pixels bytes count e few is = ap (λ n. covered n (rlex_of bytes)) (sym e) ∙ rlex_read_back pixels bytes few is

-- what is put into each part is read from it
runs_placed : (bytes : List ℕ) → length bytes < 2 ^ 32 → parts (size_bytes (length bytes) 0 0 ++ bytes) ≡ Ok (three bytes [] [])
runs_placed bytes few =
    let none = drop_all (length bytes) bytes (omega arith) in
    sizes_again (length bytes) 0 0 bytes few (omega arith) (omega arith) (omega arith)
    ∙ (λ i. Ok (three (take_all (length bytes) bytes (let e : length bytes ≤ length bytes = omega arith in e) i) (take 0 (none i)) (drop 0 (none i))))

bands_placed : (bytes : List ℕ) → length bytes < 2 ^ 32 → parts (size_bytes 0 (length bytes) 0 ++ bytes) ≡ Ok (three [] bytes [])
bands_placed bytes few =
    sizes_again 0 (length bytes) 0 bytes (omega arith) few (omega arith) (omega arith)
    ∙ (λ i. Ok (three [] (take_all (length bytes) bytes (let e : length bytes ≤ length bytes = omega arith in e) i) (drop_all (length bytes) bytes (let e : length bytes ≤ length bytes = omega arith in e) i)))

subcodec_placed : (size : ℕ) (bytes : List ℕ) → size < 2 ^ 32 → size ≡ length bytes → parts (size_bytes 0 0 size ++ bytes) ≡ Ok (three [] [] bytes)
subcodec_placed size bytes few long = sizes_again 0 0 size bytes (omega arith) (omega arith) few (omega arith)

length-area : (width height size codec : ℕ) (more : List ℕ) → 13 + length more ≡ length (area_bytes width height size codec ++ more)
unfolding area_bytes
length-area width height size codec more = omega arith

-- what a picture needs to be drawn by any layer
record Fits (width height : ℕ) (pixels : List Rgb) (old : Drawing) : Type 0 where
  some : 0 < length pixels
  across : 1 ≤ width
  wide : width < 2 ^ 16
  high : height < 2 ^ 16
  whole : length pixels ≡ width * height
  few : length pixels < 8388609
  colours : length old.colours ≡ width * height
  flags : length old.drawn ≡ width * height
  are : AreRings old.rings

abbrev all_drawn : List Rgb → Rings → Drawing
all_drawn pixels rings = drawing pixels (replicate (length pixels) true) rings

raw_drawn : (width height : ℕ) (pixels : List Rgb) (old : Drawing) → Fits width height pixels old
    → drawn_in_layers width height old (part_bytes width height (part_as Plain old.rings width height pixels)) ≡ Ok (all_drawn pixels old.rings)
raw_drawn width height pixels old f =
    let bytes = flat_map colour_bytes pixels in
    let few = f.few in
    let long = length-colours pixels in
    layers_done width height old _ _ _ (subcodec_placed (13 + length bytes) (area_bytes width height (length bytes) RAW ++ bytes) (omega arith) (length-area width height (length bytes) RAW bytes))
    (layers_subcodec width height RAW bytes pixels old f.wide f.high (omega arith) f.whole f.colours f.flags (raw_again pixels (width * height) f.whole))

palette_drawn : (width height : ℕ) (pixels : List Rgb) (old : Drawing) (form : Option (List ℕ)) → Fits width height pixels old → rlex_written pixels ≡ form
    → length (palette_part pixels form).bytes ≤ 5 * length pixels + 18000
    → drawn_in_layers width height old (part_bytes width height (palette_part pixels form)) ≡ Ok (all_drawn pixels old.rings)
palette_drawn width height pixels old None f e low = raw_drawn width height pixels old f
palette_drawn width height pixels old (Some bytes) f e low =
    let few = f.few in
    layers_done width height old _ _ _ (subcodec_placed (13 + length bytes) (area_bytes width height (length bytes) RLEX ++ bytes) (omega arith) (length-area width height (length bytes) RLEX bytes))
    (layers_subcodec width height RLEX bytes pixels old f.wide f.high (omega arith) f.whole f.colours f.flags (rlex_again pixels bytes (width * height) f.whole (omega arith) e))

-- each layer draws the picture
layer_drawn : (layer : Layer) (width height : ℕ) (pixels : List Rgb) (old : Drawing) → Fits width height pixels old
    → drawn_in_layers width height old (part_bytes width height (part_as layer old.rings width height pixels)) ≡ Ok (all_drawn pixels (rings_after layer old.rings width height pixels))
layer_drawn Residual width height pixels old f =
    let few = f.few in
    let low = part_few Residual old.rings width height pixels f.high f.whole in
    layers_done width height old _ _ _ (runs_placed (runs_written pixels) (omega arith)) (layers_runs width height pixels old f.some f.whole (omega arith))
layer_drawn Bands width height pixels old f =
    let few = f.few in
    let low = part_few Bands old.rings width height pixels f.high f.whole in
    layers_done width height old _ _ _ (bands_placed (written old.rings (elements width height pixels)) (omega arith)) (layers_bands width height pixels old f.across f.wide f.high f.whole f.colours f.flags f.are)
layer_drawn Palette width height pixels old f = palette_drawn width height pixels old (rlex_written pixels) f refl (part_few Palette old.rings width height pixels f.high f.whole)
layer_drawn Plain width height pixels old f = raw_drawn width height pixels old f

-- a stream whose head and what stands behind it are read
clear_read : (old : ClearState) (width height : ℕ) (under : List Rgb) (form : GlyphUse) (more : List ℕ) (new : Drawing) (glyphs : List Slot) → has_place form ≡ true → is_small (width * height) form ≡ true
    → behind_head form width height old.glyphs (undrawn under old.rings) more ≡ Ok (new, glyphs)
    → clear old width height under (head_bytes form (sequence_of old) ++ more) ≡ Ok (cleared new glyphs (sequence_of old))
unfolding clear
clear_read old width height under form more new glyphs place small e =
    and_then_at (head old.expected (width * height) (head_bytes form (sequence_of old) ++ more)) (plain_head form (sequence_of old), more) _
    (head_again form old.expected (width * height) (sequence_of old) more (due old.expected) place small)
    ∙ and_then_at (behind_head form width height old.glyphs (undrawn under old.rings) more) (new, glyphs) _ e
  where
    due : (expected : Option ℕ) → is_due expected (unwrap_or expected 0) ≡ true
    due None = refl
    due (Some n) = eq-eqb n n refl

-- layers behind a head, and the glyphs after them
layers_read : (old : ClearState) (width height : ℕ) (pixels under : List Rgb) (layer : Layer) (form : GlyphUse) (glyphs : List Slot) → Fits width height pixels (undrawn under old.rings)
    → ((index : ℕ) × (form ≡ Stores index)) ⊎ (form ≡ Unused) → glyphs_after form width height pixels old.glyphs ≡ Ok glyphs
    → behind_head form width height old.glyphs (undrawn under old.rings) (part_bytes width height (part_as layer old.rings width height pixels))
    ≡ Ok (all_drawn pixels (rings_after layer old.rings width height pixels), glyphs)
layers_read old width height pixels under layer form glyphs fits which kept =
    let bytes = part_bytes width height (part_as layer old.rings width height pixels) in
    sym (in_layers_or_not form width height old.glyphs (undrawn under old.rings) bytes which)
    ∙ glyph_stored form width height width height old.glyphs glyphs (all_drawn pixels (rings_after layer old.rings width height pixels)) _ (layer_drawn layer width height pixels (undrawn under old.rings) fits) refl refl kept

and_true : (a b : Bool) → (a && b) ≡ true → (a ≡ true) × (b ≡ true)
and_true true b e = (refl, e)
and_true false b e = absurd cc

drawn_held : (width height : ℕ) (pixels : List Rgb) (slot : Slot) → stands width height pixels slot ≡ true → drawn width height slot ≡ Ok pixels
unfolding drawn
drawn_held width height pixels None e = absurd cc
drawn_held width height pixels (Some held) e =
    let first = and_true (nat_eq held.width width) (nat_eq held.height height && same_pixels held.pixels pixels) e in
    let second = and_true (nat_eq held.height height) (same_pixels held.pixels pixels) first.1 in
    (λ i. if first.0 i && second.0 i then Ok held.pixels else Err GlyphSize) ∙ ap Ok ((same_pixels-Decides held.pixels pixels).0 second.1)

-- what stands at an index is shown
shown_held : (index width height : ℕ) (pixels : List Rgb) (glyphs : List Slot) → index < PLACES → width * height ≤ MOST_AREA → stands width height pixels (slot_at glyphs index) ≡ true
    → shown index width height glyphs ≡ Ok pixels
unfolding shown
shown_held index width height pixels glyphs place small e = rw (lt-ltb index PLACES place, le-ltb MOST_AREA (width * height) small) (drawn_held width height pixels (slot_at glyphs index) e)

-- a message is decoded to a picture and its state
abbrev Decodes : ClearState → ℕ → ℕ → List Rgb → List Rgb → Message → Type 0
Decodes old width height under pixels m = clear old width height under m.bytes ≡ Ok (shows pixels m.state)

fits_undrawn : (old : ClearState) (width height : ℕ) (pixels under : List Rgb) (index : Option ℕ) → AreRings old.rings → MaySend width height pixels index → width < 2 ^ 16 → height < 2 ^ 16
    → length under ≡ width * height → Fits width height pixels (undrawn under old.rings)
fits_undrawn old width height pixels under index are may wide high long =
    let across = may.across in
    let down = may.down in
    let few = may.few in
    let whole = may.whole in
    record {
      some = pixels_some width height (length pixels) whole across down;
      across = across;
      wide = wide;
      high = high;
      whole = whole;
      few = omega arith;
      colours = long;
      flags = length-replicate (length under) false ∙ long;
      are = are;
    }
  where
    pixels_some : (w h n : ℕ) → n ≡ w * h → 1 ≤ w → 1 ≤ h → 0 < n
    pixels_some w h n e a b = let one : 1 * 1 ≤ w * h = mul-le-mul a b in omega arith

sent_form : (old : ClearState) (layer : Layer) (index : Option ℕ) (width height : ℕ) (pixels : List Rgb) (form : GlyphUse) → use_of index width height pixels old.glyphs ≡ form
    → sent_as form layer old.rings old.glyphs (sequence_of old) width height pixels ≡ sent old layer index width height pixels
unfolding sent
sent_form old layer index width height pixels form e = ap (λ z. sent_as z layer old.rings old.glyphs (sequence_of old) width height pixels) (sym e)

pub law : SentIsDecoded
law old layer None width height pixels under are may wide high long =
    subst (Decodes old width height under pixels) (sent_form old layer None width height pixels Unused refl)
    (clear_read old width height under Unused (part_bytes width height (part_as layer old.rings width height pixels)) (all_drawn pixels (rings_after layer old.rings width height pixels)) old.glyphs refl refl
    (layers_read old width height pixels under layer Unused old.glyphs (fits_undrawn old width height pixels under None are may wide high long) (inr refl) refl))
law old layer (Some index) width height pixels under are may wide high long = by (stands width height pixels (slot_at old.glyphs index)) refl
  where
    by : (held : Bool) → stands width height pixels (slot_at old.glyphs index) ≡ held → Decodes old width height under pixels (sent old layer (Some index) width height pixels)
    by true is =
        let place = may.place in
        subst (Decodes old width height under pixels) (sent_form old layer (Some index) width height pixels (Shows index) (ap (λ b. if b then Shows index else Stores index) is))
        (ap (clear old width height under) (sym (append-nil (head_bytes (Shows index) (sequence_of old))))
        ∙ clear_read old width height under (Shows index) [] (covered_by pixels (undrawn under old.rings)) old.glyphs (lt-ltb index PLACES place.0) (le-leb (width * height) MOST_AREA place.1)
        (index_drawn index width height old.glyphs (undrawn under old.rings) [] pixels refl (shown_held index width height pixels old.glyphs place.0 place.1 is)))
    by false is =
        let place = may.place in
        let kept = set old.glyphs index (Some (glyph width height pixels)) in
        subst (Decodes old width height under pixels) (sent_form old layer (Some index) width height pixels (Stores index) (ap (λ b. if b then Shows index else Stores index) is))
        (clear_read old width height under (Stores index) (part_bytes width height (part_as layer old.rings width height pixels)) (all_drawn pixels (rings_after layer old.rings width height pixels)) kept
        (lt-ltb index PLACES place.0) (le-leb (width * height) MOST_AREA place.1)
        (layers_read old width height pixels under layer (Stores index) kept (fits_undrawn old width height pixels under (Some index) are may wide high long) (inl (index, refl))
        (stored_fits index width height pixels old.glyphs place.0 place.1)))

stands_there : (width height : ℕ) (pixels : List Rgb) → stands width height pixels (Some (glyph width height pixels)) ≡ true
stands_there width height pixels = λ i. eq-eqb width width refl i && (eq-eqb height height refl i && (same_pixels-Decides pixels pixels).1 refl i)

pub held_pictures : HeldIsShown
held_pictures old layer index width height pixels there =
    let is : stands width height pixels (slot_at old.glyphs index) ≡ true = ap (stands width height pixels) there ∙ stands_there width height pixels in
    ap (λ m. m.bytes) (sym (sent_form old layer (Some index) width height pixels (Shows index) (ap (λ b. if b then Shows index else Stores index) is)))
