use Rattle.gfx_prog_decode.proofs.Undoing.{keeps_found}
use Rattle.gfx_prog_decode.proofs.tile_log.TileLog.exchange.Goals as goal

pub returns-then-is_kept-clause-keeps : goal.returns-then-is_kept-clause-keeps
returns-then-is_kept-clause-keeps c =
    keeps_found c.args.key c.args.records.now c.args.self.now.tiles.items c.deref.result.now c.is_kept.result c.deref.ensures.value c.is_kept.ensures c.if-is_kept.true
