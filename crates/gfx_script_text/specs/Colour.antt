-- Colours as scripts write them: this project's own rule.
use Rattle.std.specs.Prelude.{ℕ, List, slice_index, Result, Ok}
use Rattle.std.specs.Option.{ok_or}
use Rattle.std.specs.Result.{result_ok}
use Rattle.hex.specs.Hex.{decode_sized}
use Rattle.gfx_base.specs.declared.pixel.Pixel.{Pixel}
use Rattle.gfx_base.specs.Results.{◌>>=◌}
use Rattle.gfx_script.specs.declared.error.ScriptKind.{ScriptKind}
use Rattle.gfx_script.specs.declared.error.ScriptKind.TheVariants.{Pixels}

-- a colour as eight hexadecimal digits B, G, R, A
unfoldable pub colour_of : List ℕ → Result Pixel ScriptKind
colour_of digits = do
  bytes ← ok_or (result_ok (decode_sized digits 4)) Pixels
  Ok record { b = slice_index bytes 0; g = slice_index bytes 1; r = slice_index bytes 2; a = slice_index bytes 3 }
