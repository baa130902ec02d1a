-- What stands behind a head, step by step.
use Rattle.std.proofs.lemmas.List.{length-map}
use Rattle.std.proofs.Common.{◌≡◌, ℕ, ◌*◌, ◌==◌, List, length, map, Result, Ok, Err, refl, sym, ap, ◌∙◌, ◌⊎◌, inl, inr, ◌<◌, ◌+◌, subst, arith, eq-eqb, ne_eqb}
use Rattle.gfx_base.specs.declared.answer.Cause.{Cause}
use Rattle.gfx_base.specs.declared.answer.Cause.TheVariants.{Refused, Memory}
use Rattle.gfx_base.specs.declared.geometry.Rect.{Rect}
use Rattle.gfx_base.specs.declared.pixel.Rgb.{Rgb}
use Rattle.gfx_base.specs.declared.refusal.Refusal.{Refusal}
use Rattle.gfx_base.specs.declared.refusal.Refusal.TheVariants.{ClearLengths}
use Rattle.gfx_base.specs.Outcome.{Applies}
use Rattle.gfx_base.specs.Geometry.{width_of, height_of}
use Rattle.gfx_base.specs.Results.{and_then, check}
use Rattle.gfx_base.proofs.ResultLemmas.{and_then_at, and_then_refused}
use Rattle.gfx_surface.specs.Picture.{Picture, overlaid, rect_of, pixel_at}
use Rattle.gfx_surface.proofs.PictureLemmas.{length-drawn}
use Rattle.gfx_clear_store.specs.Rings.{Rings}
use Rattle.gfx_clear_bands.specs.Bands.{Drawing, Draws as DrawsBands, bands}
use Rattle.gfx_glyph.specs.Glyphs.{Slot, shown}
use Rattle.gfx_clear.specs.declared.head.GlyphUse.{GlyphUse}
use Rattle.gfx_clear.specs.declared.head.GlyphUse.TheVariants.{Unused, Stores, Shows}
use Rattle.gfx_clear.specs.Parts.{Parts, parts, covered_by, residual, banded}
use Rattle.gfx_clear.specs.Subcodecs.{subcodecs}
use Rattle.gfx_clear.specs.Clear.{layered, drawn_in_layers, drawn_by_index, drawn_as, behind_head, with_glyphs, glyphs_after}
use Rattle.gfx_base.specs.Colour.{colour_of, opaque}
use Rattle.gfx_clear.specs.Inner.{Draws, with_drawn}
use Rattle.gfx_clear.proofs.DrawnOver.{all_drawn_over}
use Rattle.gfx_clear.proofs.Layers.{Refuses, refuses_first, refuses_next}

-- a fault in the residual layer
pub layered_residual : (fault : Cause Refusal) (width height : ℕ) (old : Drawing) (ps : Parts) → Refuses fault (residual (width * height) old ps.residual) → Refuses fault (layered width height old ps)
unfolding layered
layered_residual fault width height old ps g = refuses_first fault (residual (width * height) old ps.residual) _ g

refuses_banded : (fault : Cause Refusal) (new : Drawing) (width height : ℕ) (old : Drawing) (bytes : List ℕ) → DrawsBands {A = Unit {0}} (Err fault) new (bands width height old bytes)
    → Refuses fault (banded (bands width height old bytes))
refuses_banded Memory new width height old bytes d = tt
refuses_banded (Refused refusal) new width height old bytes d = ap banded d

-- in the bands
pub layered_bands : (fault : Cause Refusal) (width height : ℕ) (old first new : Drawing) (ps : Parts) → residual (width * height) old ps.residual ≡ Ok first
    → DrawsBands {A = Unit {0}} (Err fault) new (bands width height first ps.bands) → Refuses fault (layered width height old ps)
unfolding layered
layered_bands fault width height old first new ps e d =
    refuses_next fault (residual (width * height) old ps.residual) first _ e
    (refuses_first fault (banded (bands width height first ps.bands)) _ (refuses_banded fault new width height first ps.bands d))

-- and what the subcodecs leave
pub layered_last : (width height : ℕ) (old first second : Drawing) (ps : Parts) → residual (width * height) old ps.residual ≡ Ok first → bands width height first ps.bands ≡ Ok second
    → layered width height old ps ≡ subcodecs width height second ps.subcodecs
unfolding layered
layered_last width height old first second ps e f =
    and_then_at (residual (width * height) old ps.residual) first _ e ∙ and_then_at (banded (bands width height first ps.bands)) second _ (ap banded f)

-- bytes behind a hit
pub index_long : (index width height : ℕ) (glyphs : List Slot) (old : Drawing) (bytes : List ℕ) → 0 < length bytes → behind_head (Shows index) width height glyphs old bytes ≡ Err ClearLengths
unfolding behind_head drawn_by_index
index_long index width height glyphs old bytes some =
    and_then_refused (and_then (check ClearLengths (length bytes == 0)) _) ClearLengths _
    (and_then_refused (check ClearLengths (length bytes == 0)) ClearLengths _ (ap (check ClearLengths) (ne_eqb (length bytes) 0 (λ e. omega arith))))

index_short : (index width height : ℕ) (glyphs : List Slot) (old : Drawing) (bytes : List ℕ) → length bytes ≡ 0
    → drawn_by_index index width height glyphs old bytes ≡ and_then (shown index width height glyphs) (λ pixels. Ok (covered_by pixels old))
unfolding drawn_by_index
index_short index width height glyphs old bytes none = and_then_at (check ClearLengths (length bytes == 0)) tt _ (ap (check ClearLengths) (eq-eqb (length bytes) 0 none))

-- a hit that is refused
pub index_refused : (index width height : ℕ) (glyphs : List Slot) (old : Drawing) (bytes : List ℕ) (refusal : Refusal) → length bytes ≡ 0 → shown index width height glyphs ≡ Err refusal
    → behind_head (Shows index) width height glyphs old bytes ≡ Err refusal
unfolding behind_head
index_refused index width height glyphs old bytes refusal none e =
    and_then_refused (drawn_by_index index width height glyphs old bytes) refusal _ (index_short index width height glyphs old bytes none ∙ and_then_refused (shown index width height glyphs) refusal _ e)

-- and one that is drawn
pub index_drawn : (index width height : ℕ) (glyphs : List Slot) (old : Drawing) (bytes : List ℕ) (pixels : List Rgb) → length bytes ≡ 0 → shown index width height glyphs ≡ Ok pixels
    → behind_head (Shows index) width height glyphs old bytes ≡ Ok (covered_by pixels old, glyphs)
unfolding behind_head with_glyphs
index_drawn index width height glyphs old bytes pixels none e =
    and_then_at (drawn_by_index index width height glyphs old bytes) (covered_by pixels old) _ (index_short index width height glyphs old bytes none ∙ and_then_at (shown index width height glyphs) pixels _ e)
    ∙ and_then_at (glyphs_after (Shows index) width height pixels glyphs) glyphs _ refl

-- a rectangle of which all is drawn
pub with_all_drawn : (picture : Picture) (rect : Rect) (pixels : List Rgb) (old : Drawing) → length pixels ≡ length (rect_of picture rect)
    → overlaid picture rect (map opaque pixels) ≡ with_drawn picture rect (covered_by pixels old)
with_all_drawn picture rect pixels old e = ap (overlaid picture rect) (sym (all_drawn_over (rect_of picture rect) pixels e))

-- a rectangle has a pixel for each of its places
pub length-rect_of : (picture : Picture) (rect : Rect) → length (rect_of picture rect) ≡ width_of rect * height_of rect
length-rect_of picture rect = length-drawn (width_of rect) (height_of rect) (λ x y. pixel_at picture (x + rect.left) (y + rect.top))

-- a fault leaves glyphs and surface
pub draws_fault : (fault : Cause Refusal) (rect : Rect) (rings : Rings) (glyphs after : List Slot) (old new : Picture) (due : Result (Drawing × List Slot) Refusal)
    → Refuses fault due → after ≡ glyphs → new ≡ old → Draws (Err fault) rect rings glyphs after old new due
draws_fault Memory rect rings glyphs after old new due g same kept = (same, kept)
draws_fault (Refused refusal) rect rings glyphs after old new due g same kept = (g, same, kept)

-- layers, and the glyphs after them
abbrev pub in_layers : GlyphUse → ℕ → ℕ → List Slot → Drawing → List ℕ → Result (Drawing × List Slot) Refusal
in_layers glyph width height glyphs old bytes = and_then (drawn_in_layers width height old bytes) (with_glyphs glyph width height glyphs)

-- the parts are refused
pub parts_refused : (glyph : GlyphUse) (width height : ℕ) (glyphs : List Slot) (old : Drawing) (bytes : List ℕ) (refusal : Refusal) → parts bytes ≡ Err refusal
    → in_layers glyph width height glyphs old bytes ≡ Err refusal
unfolding drawn_in_layers
parts_refused glyph width height glyphs old bytes refusal e =
    and_then_refused (and_then (parts bytes) (layered width height old)) refusal (with_glyphs glyph width height glyphs) (and_then_refused (parts bytes) refusal (layered width height old) e)

-- or read, and drawn
pub parts_read : (glyph : GlyphUse) (width height : ℕ) (glyphs : List Slot) (old : Drawing) (bytes : List ℕ) (ps : Parts) → parts bytes ≡ Ok ps
    → and_then (layered width height old ps) (with_glyphs glyph width height glyphs) ≡ in_layers glyph width height glyphs old bytes
unfolding drawn_in_layers
parts_read glyph width height glyphs old bytes ps e = ap (λ z. and_then z (with_glyphs glyph width height glyphs)) (sym (and_then_at (parts bytes) ps (layered width height old) e))

refuses_glyphs : (fault : Cause Refusal) (glyphs after : List Slot) (due : Result (List Slot) Refusal) → Applies (Err fault) glyphs after due → Refuses fault due × (after ≡ glyphs)
refuses_glyphs Memory glyphs after due a = (tt, a)
refuses_glyphs (Refused refusal) glyphs after due a = a

-- a glyph that can't be stored
pub glyph_fault : (fault : Cause Refusal) (glyph : GlyphUse) (width height wide high : ℕ) (glyphs after : List Slot) (new : Drawing) (due : Result Drawing Refusal) → due ≡ Ok new → wide ≡ width → high ≡ height
    → Applies (Err fault) glyphs after (glyphs_after glyph wide high new.colours glyphs) → Refuses fault (and_then due (with_glyphs glyph width height glyphs)) × (after ≡ glyphs)
unfolding with_glyphs
glyph_fault fault glyph width height wide high glyphs after new due e w h a =
    let g = refuses_glyphs fault glyphs after (glyphs_after glyph width height new.colours glyphs) (subst (λ z. Applies (Err fault) glyphs after z) (λ i. glyphs_after glyph (w i) (h i) new.colours glyphs) a) in
    (refuses_next fault due new _ e (refuses_first fault (glyphs_after glyph width height new.colours glyphs) _ g.0), g.1)

-- and all that is drawn
pub glyph_stored : (glyph : GlyphUse) (width height wide high : ℕ) (glyphs after : List Slot) (new : Drawing) (due : Result Drawing Refusal) → due ≡ Ok new → wide ≡ width → high ≡ height
    → glyphs_after glyph wide high new.colours glyphs ≡ Ok after → and_then due (with_glyphs glyph width height glyphs) ≡ Ok (new, after)
unfolding with_glyphs
glyph_stored glyph width height wide high glyphs after new due e w h g =
    and_then_at due new _ e ∙ and_then_at (glyphs_after glyph width height new.colours glyphs) after _ ((λ i. glyphs_after glyph (sym w i) (sym h i) new.colours glyphs) ∙ g)

-- a stream that shows no glyph draws layers
pub in_layers_or_not : (glyph : GlyphUse) (width height : ℕ) (glyphs : List Slot) (old : Drawing) (bytes : List ℕ) → ((index : ℕ) × (glyph ≡ Stores index)) ⊎ (glyph ≡ Unused)
    → in_layers glyph width height glyphs old bytes ≡ behind_head glyph width height glyphs old bytes
unfolding behind_head
in_layers_or_not glyph width height glyphs old bytes (inl stores) = λ i. and_then (at (sym stores.1 i)) (with_glyphs glyph width height glyphs)
  where
    at : GlyphUse → Result Drawing Refusal
    at z = drawn_as z width height glyphs old bytes
in_layers_or_not glyph width height glyphs old bytes (inr unused) = λ i. and_then (drawn_as (sym unused i) width height glyphs old bytes) (with_glyphs glyph width height glyphs)

-- a background has a colour for each place
pub length-background : (picture : Picture) (rect : Rect) → length (map colour_of (rect_of picture rect)) ≡ width_of rect * height_of rect
length-background picture rect = length-map (rect_of picture rect) colour_of ∙ length-rect_of picture rect
