use Rattle.std.proofs.Common.{arith}
use Rattle.std.proofs.lemmas.Result.{err_from_is_err_and}
use Rattle.gfx_prog_block.proofs.RegionLaws.{tiles-short}
use Rattle.gfx_prog_block.proofs.WritingLaws.{kept-behind}
use Rattle.gfx_prog_block.proofs.writing.put_region_body.Goals as goal

pub overflow_cast-head-5 : goal.overflow_cast-head-5
overflow_cast-head-5 c = omega (arith, tiles-short c.args.region.now c.requires.fits, c.requires.tiles)

pub returns-in_err-put_tiles : goal.returns-in_err-put_tiles
returns-in_err-put_tiles c =
    let p = err_from_is_err_and c.from_residual-in_err-put_tiles.result c.from_residual-in_err-put_tiles.ensures.1 in
    let new = c.put_tiles.new.out in
    rw p.1
    (kept-behind c.args.out.now _ c.put.new.out new c.in_ok-put.ensures.ok
    (kept-behind c.put.new.out _ c.put_items.new.out new c.in_ok-put_items.ensures.ok
    (kept-behind c.put_items.new.out _ c.put_items-2.new.out new c.in_ok-put_items-2.ensures.ok
    (kept-behind c.put_items-2.new.out _ c.put_items-3.new.out new c.in_ok-put_items-3.ensures.ok c.in_err-put_tiles.ensures))))
