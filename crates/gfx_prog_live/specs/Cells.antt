-- The key of a cell among the records of tiles ([MS-RDPEGFX] 2.2.4.2).
use Rattle.std.specs.Prelude.{ℕ}
use Rattle.gfx_base.specs.declared.geometry.Cell.{Cell}
use Rattle.gfx_prog_decode.specs.declared.key.Key.{Key}
use Rattle.gfx_prog_encode.specs.declared.TheConstants.{CONTEXT}

-- a cell of a surface: all progressive paints are of one encoding context
abbrev pub cell_key : ℕ → Cell → Key
cell_key id cell = record { surface = id; context = CONTEXT; x = cell.x; y = cell.y }
