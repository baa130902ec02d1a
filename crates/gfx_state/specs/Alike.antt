-- Which states differ in pixels alone: this project's own rule. Two ends agree on the keys and lengths of the bitmaps
-- that they kept from an earlier session ([MS-RDPEGFX] 3.2.5.13), so the pixels of these may differ, and so may all
-- that is painted with them.
use Rattle.std.specs.Prelude.{◌≡◌, true, List, [], map}
use Rattle.std.specs.Option.{option_map}
use Rattle.std.specs.FinMap as finmap
use Rattle.std.specs.FinMap.{FinMap}
use Rattle.std.specs.declared.cmp.Ordering.{Ordering}
use Rattle.gfx_bitmap_cache.specs.Slots.{Entry}
use Rattle.gfx_glyph.specs.declared.glyph.Glyph.{Glyph}
use Rattle.gfx_surface.specs.Picture.{Picture}
use Rattle.gfx_state.specs.State.{State}

-- a surface without its pixels: its sides and its format
abbrev pub outline : Picture → Picture
outline picture = record picture { pixels = [] }

-- a cached bitmap without its pixels: its key and its sides
abbrev pub entry_outline : Entry → Entry
entry_outline held = record { key = held.key; image = record held.image { pixels = [] } }

-- a glyph without its pixels: its sides
abbrev pub glyph_outline : Glyph → Glyph
glyph_outline glyph = record glyph { pixels = [] }

-- the keys of a map in their order, each with what this leaves of its value
abbrev pub outlines : {K X : Type 0} {R : K → K → Ordering} → (X → X) → FinMap R X → List (K × X)
outlines without m = map (λ e. (e.0, without e.1)) (finmap.entries m)

-- two states that are equal but for the pixels of surfaces, of cached bitmaps and of glyphs, and for the word small,
-- which the second has only where the first has it
pub record Alike (s t : State) : Type 0 where
  pub surfaces : outlines outline s.shown.surfaces ≡ outlines outline t.shown.surfaces
  pub output : s.shown.output ≡ t.shown.output
  pub maps : s.shown.maps ≡ t.shown.maps
  pub slots : outlines entry_outline s.cache.slots ≡ outlines entry_outline t.cache.slots
  pub rings : s.clear.rings ≡ t.clear.rings
  pub glyphs : map (option_map glyph_outline) s.clear.glyphs ≡ map (option_map glyph_outline) t.clear.glyphs
  pub expected : s.clear.expected ≡ t.clear.expected
  pub records : s.records ≡ t.records
  pub frame : s.frame ≡ t.frame
  pub decoded : s.decoded ≡ t.decoded
  pub only_small : t.cache.small ≡ true → s.cache.small ≡ true
