-- What a server's message paints.
use Rattle.std.specs.Prelude.{◌≡◌, ◌-◌, List, [], ◌∷◌}
use Rattle.gfx_base.specs.declared.geometry.Rect.{Rect}
use Rattle.gfx_base.specs.Geometry.{holds}
use Rattle.gfx_quant.specs.declared.quant.Component.{Component}
use Rattle.gfx_surface.specs.Picture.{Picture}
use Rattle.gfx_tile_state.specs.Passes.{blank}
use Rattle.gfx_tile_make.specs.Levels.{MayBeSent, direct_pixel}
use Rattle.gfx_tile_make.specs.Source.{planes_of}
use Rattle.gfx_rfx_video.specs.declared.video_tile.VideoTile.{VideoTile}
use Rattle.gfx_rfx_video.specs.Message.{head_of}
use Rattle.gfx_rfx_video.specs.Showing.{drawn_where, tile_in}

-- a tile that may be sent and goes on nothing
pub record IsPlain (t : VideoTile) : Type 0 where
  pub may : MayBeSent t.tile
  pub kept : (component : Component) → (planes_of t.tile component).kept ≡ blank

-- a picture with a tile at its place in the message's rectangle: Direct of its values, cut with that
unfoldable pub tile_painted : Rect → VideoTile → Picture → Picture
tile_painted rect t picture =
    drawn_where (holds (tile_in rect (head_of t))) (λ x y. direct_pixel t.tile (y - (tile_in rect (head_of t)).top) (x - (tile_in rect (head_of t)).left)) picture

-- all of them, one after the other
unfoldable pub all_painted : Rect → List VideoTile → Picture → Picture
all_painted rect [] picture = picture
all_painted rect (t ∷ tiles) picture = all_painted rect tiles (tile_painted rect t picture)
