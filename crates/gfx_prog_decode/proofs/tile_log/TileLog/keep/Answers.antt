use Rattle.gfx_prog_decode.proofs.Undoing.{keeps_found, keeps_pushed}
use Rattle.gfx_prog_decode.proofs.tile_log.TileLog.keep.Goals as goal

pub returns-in_ok-push-clause-ok : goal.returns-in_ok-push-clause-ok
returns-in_ok-push-clause-ok c =
    keeps_pushed c.args.key c.in_ok-saved.saved c.args.records.now c.args.self.now.tiles.items c.push.new.self.items c.in_ok-push.ensures.items c.in_ok-saved.ensures

pub returns-else-not-is_kept-clause-ok : goal.returns-else-not-is_kept-clause-ok
returns-else-not-is_kept-clause-ok c =
    keeps_found c.args.key c.args.records.now c.args.self.now.tiles.items c.deref.result.now c.is_kept.result c.deref.ensures.value c.is_kept.ensures c.if-not-is_kept.false
