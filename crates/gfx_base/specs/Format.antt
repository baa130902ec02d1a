-- The bytes of the pixel formats ([MS-RDPEGFX], RDPGFX_PIXELFORMAT).
use Rattle.std.specs.Prelude.{ℕ, ◌==◌, if◌then◌else◌, Option, Some, None}
use Rattle.gfx_base.specs.declared.format.Format.{Format}
use Rattle.gfx_base.specs.declared.format.Format.TheVariants.{Xrgb, Argb}
use Rattle.gfx_base.specs.declared.format.TheConstants.{XRGB_BYTE, ARGB_BYTE}

-- the byte of a format
abbrev pub byte_of : Format → ℕ
byte_of Xrgb = XRGB_BYTE
byte_of Argb = ARGB_BYTE

-- the format that a byte names
abbrev pub format_of : ℕ → Option Format
format_of byte = if byte == XRGB_BYTE then Some Xrgb else (if byte == ARGB_BYTE then Some Argb else None)
