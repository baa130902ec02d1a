-- What a ClearCodec decoder keeps from message to message ([MS-RDPEGFX] 2.2.4.1): the rings of its bands, its
-- glyphs, and the sequence number that comes next.
use Rattle.std.specs.Prelude.{ℕ, ◌+◌, ◌%◌, List, Option, None}
use Rattle.gfx_clear_store.specs.Rings.{Rings, no_rings}
use Rattle.gfx_glyph.specs.Glyphs.{Slot, no_glyphs}
use Rattle.gfx_glyph.specs.declared.glyphs.TheConstants.{PLACES}

pub record ClearState : Type 0 where
  pub rings : Rings
  pub glyphs : List Slot
  pub expected : Option ℕ

abbrev pub state : Rings → List Slot → Option ℕ → ClearState
state rings glyphs expected = record { rings = rings; glyphs = glyphs; expected = expected }

-- nothing was ever written or stored, and any sequence number may come
abbrev pub fresh : ClearState
fresh = state no_rings (no_glyphs PLACES) None

-- any sequence number may come
abbrev pub without_sequence : ClearState → ClearState
without_sequence old = state old.rings old.glyphs None

-- the sequence number after this one
abbrev pub next_sequence : ℕ → ℕ
next_sequence sequence = (sequence + 1) % 256
