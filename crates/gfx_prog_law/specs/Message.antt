-- How long the data of progressive paints are: this project's own promise.
use Rattle.std.specs.Prelude.{ℕ, ◌≤◌, List, length}
use Rattle.std.specs.List.{All}
use Rattle.gfx_quant.specs.declared.setting.Setting.{Setting}
use Rattle.gfx_quant.specs.Setting.{IsSetting}
use Rattle.gfx_prog_encode.specs.declared.TheConstants.{MOST_SENDS}
use Rattle.gfx_prog_encode.specs.declared.send.TileSend.{TileSend}
use Rattle.gfx_prog_encode.specs.Inside.{AreRaised}
use Rattle.gfx_prog_encode.specs.Messages.{improve_data, paint_data}
use Rattle.gfx_prog_law.specs.Accepted.{IsSend}

-- no message has more bytes
abbrev pub MOST_DATA : ℕ
MOST_DATA = 51000000

-- so it is with one that paints
abbrev pub PaintIsShort : Type 0
PaintIsShort =
    (setting : Setting) (sends : List TileSend) (index : ℕ) → IsSetting setting → All (IsSend setting) sends → length sends ≤ MOST_SENDS → length (paint_data setting sends index) ≤ MOST_DATA

-- and with one that improves
abbrev pub ImproveIsShort : Type 0
ImproveIsShort =
    (setting : Setting) (sends : List TileSend) (index : ℕ) → IsSetting setting → All (IsSend setting) sends → AreRaised sends → length sends ≤ MOST_SENDS
    → length (improve_data setting sends index) ≤ MOST_DATA
