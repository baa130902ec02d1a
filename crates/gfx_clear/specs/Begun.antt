-- What a decoder checks before it takes any memory: this project's own rule.
use Rattle.std.specs.Prelude.{ℕ, ◌*◌, ◌==◌, Bool, false, ◌&&◌, is_ok, List, length, Result, Ok, Err}
use Rattle.gfx_base.specs.declared.refusal.Refusal.{Refusal}
use Rattle.gfx_glyph.specs.Glyphs.{Slot, shown}
use Rattle.gfx_clear.specs.declared.head.GlyphUse.{GlyphUse}
use Rattle.gfx_clear.specs.declared.head.GlyphUse.TheVariants.{Unused, Stores, Shows}
use Rattle.gfx_clear.specs.declared.head.Head.{Head}
use Rattle.gfx_clear.specs.Heads.{head}
use Rattle.gfx_clear.specs.Parts.{parts}
use Rattle.gfx_clear.specs.State.{ClearState}

-- behind a head: a glyph that can be shown, with no bytes behind its index, or the sizes of three parts
abbrev pub is_begun_as : GlyphUse → ℕ → ℕ → List Slot → List ℕ → Bool
is_begun_as (Shows index) width height glyphs bytes = (length bytes == 0) && is_ok (shown index width height glyphs)
is_begun_as (Stores index) width height glyphs bytes = is_ok (parts bytes)
is_begun_as Unused width height glyphs bytes = is_ok (parts bytes)

abbrev pub is_begun_behind : Result (Head × List ℕ) Refusal → ℕ → ℕ → List Slot → Bool
is_begun_behind (Ok start) width height glyphs = is_begun_as start.0.glyph width height glyphs start.1
is_begun_behind (Err refusal) width height glyphs = false

-- the head of a stream is accepted, and what stands right behind it
abbrev pub is_begun : ClearState → ℕ → ℕ → List ℕ → Bool
is_begun old width height bytes = is_begun_behind (head old.expected (width * height) bytes) width height old.glyphs
