-- What is seen of tiles that were sent: this project's own rule.
use Rattle.std.specs.Prelude.{ℕ, List, [], ◌∷◌, fold}
use Rattle.gfx_surface.specs.Picture.{Picture}
use Rattle.gfx_tile_make.specs.Levels.{tile_at}
use Rattle.gfx_prog_decode.specs.Progressive.{with_tile}
use Rattle.gfx_prog_decode.specs.Scene.{Scene}
use Rattle.gfx_prog_decode.specs.Showing.{shown_in}
use Rattle.gfx_prog_encode.specs.declared.send.TileSend.{TileSend}
use Rattle.gfx_prog_encode.specs.Messages.{area_of}
use Rattle.gfx_prog_live.specs.Cells.{cell_key}

-- a picture with what a tile's level shows, in the part of its cell that the tile paints
abbrev pub with_shown : ℕ → Picture → TileSend → Picture
with_shown id picture send = shown_in picture (cell_key id send.cell) (area_of send ∷ []) (tile_at send.tile send.level)

-- a picture after tiles that were sent, one after another
abbrev pub after_showing : ℕ → List TileSend → Picture → Picture
after_showing id sends picture = fold (with_shown id) picture sends

-- the same with the records that they leave
abbrev pub with_record : ℕ → Scene → TileSend → Scene
with_record id old send = with_tile old (cell_key id send.cell) (area_of send ∷ []) (tile_at send.tile send.level)

abbrev pub after_tiles : ℕ → List TileSend → Scene → Scene
after_tiles id sends old = fold (with_record id) old sends
