-- A ClearCodec stream as a whole ([MS-RDPEGFX] 2.2.4.1, CLEARCODEC_BITMAP_STREAM). The order of the checks, and that
-- what isn't drawn is stored in a glyph as it stands, are this project's own rules.
use Rattle.std.specs.Prelude.{ℕ, ◌*◌, ◌==◌, Bool, false, List, length, replicate, Some, Result, Ok, if◌then◌else◌}
use Rattle.gfx_base.specs.declared.pixel.Rgb.{Rgb}
use Rattle.gfx_base.specs.declared.refusal.Refusal.{Refusal}
use Rattle.gfx_base.specs.declared.refusal.Refusal.TheVariants.{ClearLengths}
use Rattle.gfx_base.specs.Results.{◌>>=◌, check}
use Rattle.gfx_clear_store.specs.Rings.{Rings, from_start}
use Rattle.gfx_clear_bands.specs.Bands.{Drawing, drawing, bands}
use Rattle.gfx_glyph.specs.Glyphs.{Slot, shown, stored}
use Rattle.gfx_clear.specs.declared.head.GlyphUse.{GlyphUse}
use Rattle.gfx_clear.specs.declared.head.GlyphUse.TheVariants.{Unused, Stores, Shows}
use Rattle.gfx_clear.specs.State.{ClearState, state, next_sequence}
use Rattle.gfx_clear.specs.Heads.{head}
use Rattle.gfx_clear.specs.Parts.{Parts, parts, covered_by, residual, banded}
use Rattle.gfx_clear.specs.Subcodecs.{subcodecs}

-- the residual layer, then bands, then subcodecs
unfoldable pub layered : ℕ → ℕ → Drawing → Parts → Result Drawing Refusal
layered width height old ps = do
  first ← residual (width * height) old ps.residual
  second ← banded (bands width height first ps.bands)
  subcodecs width height second ps.subcodecs

-- the layers of the parts in these bytes
unfoldable pub drawn_in_layers : ℕ → ℕ → Drawing → List ℕ → Result Drawing Refusal
drawn_in_layers width height old bytes = do
  ps ← parts bytes
  layered width height old ps

-- a glyph, with no bytes behind its index
unfoldable pub drawn_by_index : ℕ → ℕ → ℕ → List Slot → Drawing → List ℕ → Result Drawing Refusal
drawn_by_index index width height glyphs old bytes = do
  ended ← check ClearLengths (length bytes == 0)
  pixels ← shown index width height glyphs
  Ok (covered_by pixels old)

-- what is drawn behind the head
abbrev pub drawn_as : GlyphUse → ℕ → ℕ → List Slot → Drawing → List ℕ → Result Drawing Refusal
drawn_as (Shows index) width height glyphs old bytes = drawn_by_index index width height glyphs old bytes
drawn_as (Stores index) width height glyphs old bytes = drawn_in_layers width height old bytes
drawn_as Unused width height glyphs old bytes = drawn_in_layers width height old bytes

-- the glyphs once these pixels are drawn
abbrev pub glyphs_after : GlyphUse → ℕ → ℕ → List Rgb → List Slot → Result (List Slot) Refusal
glyphs_after (Stores index) width height pixels glyphs = stored index width height pixels glyphs
glyphs_after (Shows index) width height pixels glyphs = Ok glyphs
glyphs_after Unused width height pixels glyphs = Ok glyphs

-- what is drawn, and the glyphs after it
unfoldable pub with_glyphs : GlyphUse → ℕ → ℕ → List Slot → Drawing → Result (Drawing × List Slot) Refusal
with_glyphs glyph width height glyphs new = do
  after ← glyphs_after glyph width height new.colours glyphs
  Ok (new, after)

-- what stands behind the head
unfoldable pub behind_head : GlyphUse → ℕ → ℕ → List Slot → Drawing → List ℕ → Result (Drawing × List Slot) Refusal
behind_head glyph width height glyphs old bytes = do
  new ← drawn_as glyph width height glyphs old bytes
  with_glyphs glyph width height glyphs new

-- a cache reset lets the rings be written from their start; what they hold stays
abbrev pub rings_before : Bool → Rings → Rings
rings_before reset old = if reset then from_start old else old

-- nothing of these pixels is drawn yet
abbrev pub undrawn : List Rgb → Rings → Drawing
undrawn pixels rings = drawing pixels (replicate (length pixels) false) rings

-- what a stream leaves: the state, and its rectangle's pixels with those of them that it drew
pub record Cleared : Type 0 where
  pub state : ClearState
  pub colours : List Rgb
  pub drawn : List Bool

abbrev pub cleared : Drawing → List Slot → ℕ → Cleared
cleared new glyphs sequence = record { state = state new.rings glyphs (Some (next_sequence sequence)); colours = new.colours; drawn = new.drawn }

-- a stream for a rectangle of these sides and pixels
unfoldable pub clear : ClearState → ℕ → ℕ → List Rgb → List ℕ → Result Cleared Refusal
clear old width height pixels bytes = do
  start ← head old.expected (width * height) bytes
  next ← behind_head start.0.glyph width height old.glyphs (undrawn pixels (rings_before start.0.reset old.rings)) start.1
  Ok (cleared next.0 next.1 start.0.sequence)
