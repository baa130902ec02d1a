use Rattle.gfx_prog_decode.proofs.Undoing.{can_pop_more, can_pop_place, undone_pop}
use Rattle.gfx_prog_decode.proofs.tile_log.TileLog.put_back.Goals as goal

pub put_back-requires : goal.put_back-requires
put_back-requires c = can_pop_place c.tiles.self.tiles.items c.pop.new.self.items c.in-Some.saved c.tiles.records c.in-Some.ensures.items c.tiles.invariant.can

pub tiles-preserved : goal.tiles-preserved
tiles-preserved c = record {
  same = undone_pop c.tiles.self.tiles.items c.pop.new.self.items c.in-Some.saved c.tiles.records c.put_back.new.self _ c.in-Some.ensures.items c.put_back.ensures c.tiles.invariant.same;
  can = can_pop_more c.tiles.self.tiles.items c.pop.new.self.items c.in-Some.saved c.tiles.records c.put_back.new.self c.in-Some.ensures.items c.put_back.ensures c.tiles.invariant.can;
}
