-- How a look-up is spared most glyphs: this project's own rule. No answer depends on it.
use Rattle.std.specs.Prelude.{◌≡◌, ℕ, ◌*◌, ◌/◌, ◌%◌, ◌^◌, ◌≤◌, List, length, slice_index_or, Some}
use Rattle.gfx_base.specs.Colour.{hash_of}
use Rattle.gfx_base.specs.declared.pixel.Rgb.{Rgb}
use Rattle.gfx_glyph.specs.Glyphs.{Slot, slot_at}
use Rattle.gfx_glyph.specs.declared.glyph.Glyph.{Glyph}
use Rattle.gfx_glyph.specs.declared.print.TheConstants.{HOMES}

-- the print of pixels, which is another where the pixels mostly are
unfoldable pub print_of : List Rgb → ℕ
print_of pixels = hash_of pixels / 2 ^ 32

abbrev pub home_of : ℕ → ℕ
home_of print = print % HOMES

-- a glyph has its print, and its home begins no later than there
pub record IsEntered (slots : List Slot) (prints starts : List ℕ) (place : ℕ) (held : Glyph) : Type 0 where
  pub print : slice_index_or prints place 0 ≡ print_of held.pixels
  pub start : slice_index_or starts (home_of (print_of held.pixels)) 0 ≤ place
  pub area : length held.pixels ≡ held.width * held.height

-- all glyphs are entered
abbrev pub AreEntered : List Slot → List ℕ → List ℕ → Type 0
AreEntered slots prints starts = (place : ℕ) (held : Glyph) → slot_at slots place ≡ Some held → IsEntered slots prints starts place held
