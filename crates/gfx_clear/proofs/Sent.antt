-- What is sent, from its steps.
use Rattle.std.proofs.Common.{◌≡◌, ℕ, ◌*◌, ◌<◌, ◌≤◌, List, ◌++◌, set, Option, Some, Ok, Err, refl, sym, ap, ◌∙◌, subst}
use Rattle.std.proofs.lemmas.Bool.{lt-ltb, le-ltb}
use Rattle.gfx_base.specs.declared.pixel.Rgb.{Rgb}
use Rattle.gfx_base.specs.declared.refusal.Refusal.{Refusal}
use Rattle.gfx_glyph.specs.Glyphs.{Slot, glyph, stored}
use Rattle.gfx_glyph.specs.declared.glyphs.TheConstants.{PLACES, MOST_AREA}
use Rattle.gfx_clear_store.specs.Rings.{Rings}
use Rattle.gfx_clear.specs.declared.head.GlyphUse.{GlyphUse}
use Rattle.gfx_clear.specs.declared.head.GlyphUse.TheVariants.{Stores}
use Rattle.gfx_clear.specs.declared.layer.Layer.{Layer}
use Rattle.gfx_clear.specs.State.{ClearState}
use Rattle.gfx_clear.specs.Sending.{message, sent, sent_as, use_of, sequence_of, head_bytes, part_as, part_bytes, rings_after}
use Rattle.gfx_clear.specs.Inner.{MayUse}

-- a glyph that may be stored is
pub stored_fits : (index width height : ℕ) (pixels : List Rgb) (slots : List Slot) → index < PLACES → width * height ≤ MOST_AREA
    → stored index width height pixels slots ≡ Ok (set slots index (Some (glyph width height pixels)))
unfolding stored
stored_fits index width height pixels slots place small = rw (lt-ltb index PLACES place, le-ltb MOST_AREA (width * height) small) refl

pub stored_never : (index width height : ℕ) (pixels : List Rgb) (slots : List Slot) (refusal : Refusal) → (index < PLACES) × (width * height ≤ MOST_AREA) → stored index width height pixels slots ≡ Err refusal → ⊥
stored_never index width height pixels slots refusal may e = let is = stored_fits index width height pixels slots may.0 may.1 in cc

-- what is sent, once its use of an index is known
pub sent_is : (old : ClearState) (layer : Layer) (index : Option ℕ) (width height : ℕ) (pixels : List Rgb) (form : GlyphUse) (rings : Rings) (sequence : ℕ) → form ≡ use_of index width height pixels old.glyphs
    → rings ≡ old.rings → sequence ≡ sequence_of old → sent_as form layer rings old.glyphs sequence width height pixels ≡ sent old layer index width height pixels
unfolding sent
sent_is old layer index width height pixels form rings sequence e f g = λ i. sent_as (e i) layer (f i) old.glyphs (g i) width height pixels

-- a picture that is stored at an index
pub stores_sent : (used : GlyphUse) (index : ℕ) (layer : Layer) (rings new : Rings) (glyphs after : List Slot) (sequence width height : ℕ) (pixels : List Rgb) (bytes : List ℕ) → used ≡ Stores index
    → MayUse (width * height) used → bytes ≡ head_bytes (Stores index) sequence ++ part_bytes width height (part_as layer rings width height pixels) → new ≡ rings_after layer rings width height pixels
    → stored index width height pixels glyphs ≡ Ok after → message bytes new after sequence ≡ sent_as used layer rings glyphs sequence width height pixels
stores_sent used index layer rings new glyphs after sequence width height pixels bytes is may written held kept =
    let fits = subst (MayUse (width * height)) is may in
    let due = stored_fits index width height pixels glyphs fits.0 fits.1 in
    let same : after ≡ set glyphs index (Some (glyph width height pixels)) = cc in
    (λ i. message (written i) (held i) (same i) sequence) ∙ ap (λ z. sent_as z layer rings glyphs sequence width height pixels) (sym is)
