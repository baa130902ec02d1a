-- What a server sends is read back: this project's own law.
use Rattle.std.specs.Prelude.{◌≡◌, ℕ, ◌+◌, ◌*◌, ◌<◌, ◌^◌, true, List, ◌∷◌, length, replicate, Option, Some, Ok}
use Rattle.std.specs.Int.{w16, to_le_bytes}
use Rattle.gfx_base.specs.declared.pixel.Rgb.{Rgb}
use Rattle.gfx_clear_store.specs.Rings.{AreRings}
use Rattle.gfx_glyph.specs.Glyphs.{glyph, slot_at}
use Rattle.gfx_clear.specs.declared.head.TheConstants.{GLYPH_INDEX, GLYPH_HIT}
use Rattle.gfx_clear.specs.declared.layer.Layer.{Layer}
use Rattle.gfx_clear.specs.State.{ClearState}
use Rattle.gfx_clear.specs.Clear.{Cleared, clear}
use Rattle.gfx_clear.specs.Sending.{MaySend, sent, sequence_of}

-- all of a picture is drawn
abbrev pub shows : List Rgb → ClearState → Cleared
shows pixels new = record { state = new; colours = pixels; drawn = replicate (length pixels) true }

-- by any decoder whose state is the server's, over any pixels; and that comes to the server's state
abbrev pub SentIsDecoded : Type 0
SentIsDecoded =
    (old : ClearState) (layer : Layer) (index : Option ℕ) (width height : ℕ) (pixels under : List Rgb) → AreRings old.rings → MaySend width height pixels index
    → width < 2 ^ 16 → height < 2 ^ 16 → length under ≡ width * height
    → clear old width height under (sent old layer index width height pixels).bytes ≡ Ok (shows pixels (sent old layer index width height pixels).state)

-- a picture that stands at an index goes as a hit on it, in four bytes
abbrev pub HeldIsShown : Type 0
HeldIsShown =
    (old : ClearState) (layer : Layer) (index width height : ℕ) (pixels : List Rgb) → slot_at old.glyphs index ≡ Some (glyph width height pixels)
    → (sent old layer (Some index) width height pixels).bytes ≡ (GLYPH_INDEX + GLYPH_HIT) ∷ (sequence_of old ∷ to_le_bytes w16 index)
