-- What sending keeps of the rings, and how long it gets.
use Rattle.std.proofs.Common.{◌≡◌, ℕ, ◌+◌, ◌*◌, ◌<◌, ◌≤◌, ◌^◌, List, [], ◌∷◌, ◌++◌, length, Option, None, arith, length-append}
use Rattle.std.proofs.lemmas.List.{length-replicate}
use Rattle.gfx_base.specs.declared.pixel.Rgb.{Rgb}
use Rattle.gfx_clear_store.specs.Rings.{Rings, AreRings, IsRing, Slot, unwritten}
use Rattle.gfx_clear_store.specs.declared.store.TheConstants.{BARS, SHORTS}
use Rattle.gfx_clear_bands.specs.Writing.{Element, put, after, elements}
use Rattle.gfx_clear_bands.specs.Writing.Element.{Head, Column}
use Rattle.gfx_clear_bands.proofs.Again.{rings_again}
use Rattle.gfx_clear.specs.declared.head.GlyphUse.{GlyphUse}
use Rattle.gfx_clear.specs.declared.head.GlyphUse.TheVariants.{Unused, Stores, Shows}
use Rattle.gfx_clear.specs.declared.layer.Layer.{Layer}
use Rattle.gfx_clear.specs.declared.layer.Layer.TheVariants.{Residual, Bands, Palette, Plain}
use Rattle.gfx_clear.specs.State.{ClearState, fresh}
use Rattle.gfx_clear.specs.Sending.{MaySend, sent, sent_as, use_of, sequence_of, head_bytes, part_as, part_bytes, rings_after}
use Rattle.gfx_clear.proofs.Few.{part_few, placed_few}

ring_fresh : (count : ℕ) → 0 < count → IsRing count (unwritten count)
unfolding unwritten
ring_fresh count some = record { whole = length-replicate {A = Slot} count None; within = some }

-- rings to which nothing was written
pub rings_fresh : AreRings fresh.rings
rings_fresh = record { bars = ring_fresh BARS (omega arith); shorts = ring_fresh SHORTS (omega arith) }

put_keeps : (old : Rings) (e : Element) → AreRings old → AreRings (put old e).rings
unfolding put
put_keeps old (Head bytes) are = are
put_keeps old (Column background pixels) are = rings_again old background pixels are

-- elements, one after another
pub rings_written : (es : List Element) (old : Rings) → AreRings old → AreRings (after old es)
unfolding after
rings_written [] old are = are
rings_written (e ∷ es) old are = rings_written es (put old e).rings (put_keeps old e are)

layer_keeps : (layer : Layer) (old : Rings) (width height : ℕ) (pixels : List Rgb) → AreRings old → AreRings (rings_after layer old width height pixels)
layer_keeps Bands old width height pixels are = rings_written (elements width height pixels) old are
layer_keeps Residual old width height pixels are = are
layer_keeps Palette old width height pixels are = are
layer_keeps Plain old width height pixels are = are

-- after a picture is sent they are rings still
pub rings_sent : (old : ClearState) (layer : Layer) (index : Option ℕ) (width height : ℕ) (pixels : List Rgb) → AreRings old.rings → AreRings (sent old layer index width height pixels).state.rings
unfolding sent
rings_sent old layer index width height pixels are = by (use_of index width height pixels old.glyphs)
  where
    by : (form : GlyphUse) → AreRings (sent_as form layer old.rings old.glyphs (sequence_of old) width height pixels).state.rings
    by Unused = layer_keeps layer old.rings width height pixels are
    by (Stores place) = layer_keeps layer old.rings width height pixels are
    by (Shows place) = are

length-head_bytes : (form : GlyphUse) (sequence : ℕ) → length (head_bytes form sequence) ≤ 4
length-head_bytes Unused sequence = omega arith
length-head_bytes (Stores index) sequence = omega arith
length-head_bytes (Shows index) sequence = omega arith

with_head_few : (form : GlyphUse) (sequence : ℕ) (layer : Layer) (old : Rings) (width height : ℕ) (pixels : List Rgb) → height < 2 ^ 16 → length pixels ≡ width * height
    → length (head_bytes form sequence ++ part_bytes width height (part_as layer old width height pixels)) ≤ 5 * length pixels + 20000
with_head_few form sequence layer old width height pixels high whole =
    let p = part_as layer old width height pixels in
    let few = part_few layer old width height pixels high whole in
    let placed = placed_few p.place width height p.bytes in
    let head = length-head_bytes form sequence in
    omega (arith, length-append (head_bytes form sequence) (part_bytes width height p))

-- how many bytes are sent at most
pub sent_few : (old : ClearState) (layer : Layer) (index : Option ℕ) (width height : ℕ) (pixels : List Rgb) → MaySend width height pixels index → height < 2 ^ 16
    → length (sent old layer index width height pixels).bytes ≤ 5 * length pixels + 20000
unfolding sent
sent_few old layer index width height pixels may high = by (use_of index width height pixels old.glyphs)
  where
    by : (form : GlyphUse) → length (sent_as form layer old.rings old.glyphs (sequence_of old) width height pixels).bytes ≤ 5 * length pixels + 20000
    by Unused = with_head_few Unused (sequence_of old) layer old.rings width height pixels high may.whole
    by (Stores place) = with_head_few (Stores place) (sequence_of old) layer old.rings width height pixels high may.whole
    by (Shows place) = let head = length-head_bytes (Shows place) (sequence_of old) in omega arith
