use Rattle.gfx_rfx_video.proofs.Texts.{tiles-more}
use Rattle.gfx_rfx_video.proofs.message.tile_texts.Goals as goal

pub tiles-preserved : goal.tiles-preserved
tiles-preserved c =
    tiles-more c.args.mode c.args.tiles.now c.tiles.tile-index c.tile-item.result c.in_ok-codes.codes c.head_of.result c.tiles.out c.put_tile.new.out c.tiles-test.true c.tile-item.is
    c.in_ok-codes.ensures.value c.head_of.ensures c.in_ok-codes.ensures.short c.tiles.invariant.0 c.tiles.invariant.1 c.in_ok-put_tile.ensures
