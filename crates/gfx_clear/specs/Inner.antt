-- Inner: what the code's own functions hand on to each other. No clause of a public call cites it.
use Rattle.std.specs.Prelude.{◌≡◌, ℕ, ◌<◌, ◌≤◌, List, Result, Ok, Err}
use Rattle.gfx_base.specs.declared.answer.Cause.{Cause}
use Rattle.gfx_base.specs.declared.answer.Cause.TheVariants.{Refused, Memory}
use Rattle.gfx_base.specs.declared.geometry.Rect.{Rect}
use Rattle.gfx_base.specs.declared.refusal.Refusal.{Refusal}
use Rattle.gfx_clear_store.specs.Rings.{Rings}
use Rattle.gfx_clear_bands.specs.Bands.{Drawing}
use Rattle.gfx_glyph.specs.Glyphs.{Slot}
use Rattle.gfx_glyph.specs.declared.glyphs.TheConstants.{PLACES, MOST_AREA}
use Rattle.gfx_surface.specs.Picture.{Picture, overlaid, rect_of}
use Rattle.gfx_clear.specs.declared.head.GlyphUse.{GlyphUse}
use Rattle.gfx_clear.specs.declared.head.GlyphUse.TheVariants.{Unused, Stores, Shows}
use Rattle.gfx_clear.specs.declared.parts.Parts.{Parts as PartsRead}
use Rattle.gfx_clear.specs.Parts.{Parts}
use Rattle.gfx_clear.specs.Painting.{drawn_over}

abbrev pub parts_seen : PartsRead → Parts
parts_seen read = record { residual = read.residual.now; bands = read.bands.now; subcodecs = read.subcodecs.now }

-- a picture once something is drawn in a rectangle
abbrev pub with_drawn : Picture → Rect → Drawing → Picture
with_drawn picture rect new = overlaid picture rect (drawn_over (rect_of picture rect) new.colours new.drawn)

-- what drawing behind a head did to glyphs and surface, against what is due; the rings are told by an answer alone
abbrev pub Draws : Result (Unit {0}) (Cause Refusal) → Rect → Rings → List Slot → List Slot → Picture → Picture → Result (Drawing × List Slot) Refusal → Type 0
Draws (Ok x) rect rings old_glyphs glyphs old picture due =
    (new : Drawing) × (due ≡ Ok (new, glyphs)) × (rings ≡ new.rings) × (picture ≡ with_drawn old rect new)
Draws (Err Memory) rect rings old_glyphs glyphs old picture due = (glyphs ≡ old_glyphs) × (picture ≡ old)
Draws (Err (Refused refusal)) rect rings old_glyphs glyphs old picture due = (due ≡ Err refusal) × (glyphs ≡ old_glyphs) × (picture ≡ old)

-- a picture of so many pixels may be stored at an index
abbrev pub MayUse : ℕ → GlyphUse → Type 0
MayUse area (Stores index) = (index < PLACES) × (area ≤ MOST_AREA)
MayUse area (Shows index) = Unit {0}
MayUse area Unused = Unit {0}
