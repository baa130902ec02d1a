-- What is found in an input: the server's file, the client's, each behind its length, and a script. This project's own
-- rule.
use Rattle.std.specs.Prelude.{ℕ, if◌then◌else◌, List}
use Rattle.gfx_base.specs.declared.refusal.Refusal.{Refusal}
use Rattle.gfx_base.specs.declared.refusal.Refusal.TheVariants.{KeptDiffers}
use Rattle.gfx_bitmap_cache.specs.Slots.{Entry}
use Rattle.gfx_import.specs.Agreed.{agree}
use Rattle.gfx_kept_input.specs.Front.{Front, Whole, Short, Bad, front}

-- the entries of both files, and the bytes behind them
pub record Split : Type 0 where
  pub server : List Entry
  pub client : List Entry
  pub script : List ℕ

abbrev pub split : List Entry → List Entry → List ℕ → Split
split server client script = record { server = server; client = client; script = script }

-- what is found in bytes, behind which more may come: too few of them yet, why they are refused, or both files and what
-- there is of the script
pub data Found : Type 0 where
  Few : Found
  Wrong : Refusal → Found
  Splits : Split → Found

-- the client's file stands behind the server's, and both agree
abbrev pub behind_server : List Entry → Front → Found
behind_server server Short = Few
behind_server server (Bad refusal) = Wrong refusal
behind_server server (Whole client script) =
    if agree server client then Splits (split server client script) else Wrong KeptDiffers

-- the server's file stands first
abbrev pub from_start : Front → Found
from_start Short = Few
from_start (Bad refusal) = Wrong refusal
from_start (Whole server after) = behind_server server (front after)

unfoldable pub found : List ℕ → Found
found bytes = from_start (front bytes)
