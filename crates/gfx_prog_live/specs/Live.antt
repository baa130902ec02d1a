-- The tiles that show on a server's surfaces and may still be raised: this project's own rule. A tile is live until
-- another change touches its cell.
use Prim.Native.Nat.{zero, suc}
use Rattle.std.specs.Prelude.{ℕ, ◌+◌, ◌%◌, ◌^◌, ◌==◌, ◌&&◌, not, nat_lt, List, [], ◌∷◌, length, map, take, drop, fold, Option, Some, None, if◌then◌else◌}
use Rattle.std.specs.FinMap as finmap
use Rattle.std.specs.FinMap.{FinMap}
use Rattle.std.specs.List.{filter_map, list_any}
use Rattle.std.specs.Option.{option_and_then}
use Rattle.gfx_base.specs.declared.geometry.Cell.{Cell}
use Rattle.gfx_base.specs.declared.geometry.Rect.{Rect}
use Rattle.gfx_base.specs.Cells.{cell, cells_met, cut_to_cell, meets}
use Rattle.gfx_base.specs.Geometry.{sized}
use Rattle.gfx_quant.specs.declared.setting.Setting.{Setting}
use Rattle.gfx_prog_decode.specs.Records.{key_cmp}
use Rattle.gfx_prog_encode.specs.declared.TheConstants.{MOST_SENDS}
use Rattle.gfx_prog_encode.specs.declared.send.TileSend.{TileSend}
use Rattle.gfx_prog_encode.specs.Messages.{improve_data, paint_data}
use Rattle.gfx_script.specs.declared.picture.Picture.{Picture}
use Rattle.gfx_script.specs.Scripted.{Script}
use Rattle.gfx_script.specs.Writes.{Area}
use Rattle.gfx_tile_make.specs.Source.{source_of}
use Rattle.gfx_prog_live.specs.Cells.{cell_key}
use Rattle.gfx_prog_live.specs.Tiles.{cell_pixels, gone_on}

-- the live tiles, each by its cell, as it was sent last
abbrev pub Live : Type 0
Live = FinMap key_cmp TileSend

-- and the numbers of the next progressive message and of the next message of RemoteFX video
pub record Passes : Type 0 where
  pub live : Live
  pub next : ℕ
  pub videos : ℕ

-- nothing was painted yet
abbrev pub at_start : Passes
at_start = record { live = finmap.empty; next = 0; videos = 0 }

-- ---- what is sent

-- the tile of a cell, in the part of a picture's rectangle that lies in it, at the first level
unfoldable pub send_of : Script → Live → ℕ → Picture → Rect → Cell → TileSend
send_of script live id picture rect cell = record {
  cell = cell;
  rect = cut_to_cell rect cell;
  tile = gone_on script.differences (finmap.get live (cell_key id cell)) (source_of script.setting (cell_pixels picture rect cell));
  level = 0;
}

-- what a paint sends: the tiles of the cells that it meets, row by row
abbrev pub painted_sends : Script → Live → ℕ → Picture → Rect → List TileSend
painted_sends script live id picture rect = map (send_of script live id picture rect) (cells_met rect)

-- a tile at the next level, unless it is at the last
unfoldable pub raised : TileSend → Option TileSend
raised send = if nat_lt send.level (length send.tile.setting.levels) then Some (record send { level = send.level + 1 }) else None

-- what an improvement of a surface of these sides sends: each live tile that isn't at the last level, raised, row by row
abbrev pub improved_sends : Live → ℕ → ℕ → ℕ → List TileSend
improved_sends live id width height =
    filter_map (λ cell. option_and_then raised (finmap.get live (cell_key id cell))) (cells_met (sized width height))

-- ---- what is live after it

-- a tile that was sent is live
abbrev pub with_live : ℕ → Live → TileSend → Live
with_live id live send = finmap.insert live (cell_key id send.cell) send

abbrev pub after_sends : ℕ → List TileSend → Live → Live
after_sends id sends live = fold (with_live id) live sends

-- a change in an area ends the tiles of the cells that it meets
abbrev pub ended_in : Live → Area → Live
ended_in live area = finmap.retain_keys live (λ key. not (key.surface == area.surface && list_any (λ rect. meets rect (cell key.x key.y)) area.rects))

-- those of a surface that is deleted end
abbrev pub without_surface : Live → ℕ → Live
without_surface live id = finmap.retain_keys live (λ key. not (key.surface == id))

-- ---- messages

-- items in groups of as many as a message takes
unfoldable pub groups_of : {X : Type 0} → ℕ → List X → List (List X)
groups_of zero xs = []
groups_of (suc most) [] = []
groups_of (suc most) (x ∷ xs) = take MOST_SENDS (x ∷ xs) ∷ groups_of most (drop MOST_SENDS (x ∷ xs))

abbrev pub in_groups : {X : Type 0} → List X → List (List X)
in_groups xs = groups_of (length xs) xs

-- messages are numbered by 32 bits
abbrev pub following : ℕ → ℕ
following number = (number + 1) % 2 ^ 32

-- the data of messages, one for each group
unfoldable pub numbered : {X : Type 0} → (List X → ℕ → List ℕ) → List (List X) → ℕ → List (List ℕ)
numbered write [] next = []
numbered write (group ∷ groups) next = write group next ∷ numbered write groups (following next)

abbrev pub paint_all : Setting → List TileSend → ℕ → List (List ℕ)
paint_all setting sends next = numbered (paint_data setting) (in_groups sends) next

abbrev pub improve_all : Setting → List TileSend → ℕ → List (List ℕ)
improve_all setting sends next = numbered (improve_data setting) (in_groups sends) next

-- the number of the message behind those of so many groups
abbrev pub number_after : {X : Type 0} → List X → ℕ → ℕ
number_after xs next = fold (λ number group. following number) next (in_groups xs)

-- after tiles were sent
abbrev pub passes_after : ℕ → List TileSend → Passes → Passes
passes_after id sends passes = record passes { live = after_sends id sends passes.live; next = number_after sends passes.next }
