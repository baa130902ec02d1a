use Rattle.gfx_surface_map.proofs.CopiedLemmas.{stamped_is_copied}
use Rattle.gfx_surface_map.proofs.copying.copy_by_room.Goals as goal

pub returns : goal.returns
returns c = stamped_is_copied c.args.table.now _ c.args.from c.args.to c.args.rect _ c.args.points.now c.read_rect.ensures c.put_rects.ensures
