use Rattle.std.proofs.Common.{◌<◌, ◌^◌, sym, subst}
use Rattle.std.proofs.lemmas.Result.{err_from_is_err_and}
use Rattle.std.specs.List.{sum_by}
use Rattle.gfx_prog_block.specs.Spelling.{tile_size}
use Rattle.gfx_prog_block.proofs.RegionLaws.{tiles-short}
use Rattle.gfx_prog_block.proofs.WritingLaws.{kept-behind}
use Rattle.gfx_prog_block.proofs.writing.put_region.Goals as goal

pub tiles_size-tiles-requires-clause-short : goal.tiles_size-tiles-requires-clause-short
tiles_size-tiles-requires-clause-short c =
    subst (λ t. sum_by tile_size t < 2 ^ 32) (sym c.as_slice.ensures) (tiles-short c.args.region.now c.requires)

pub returns-in_err-put_region_body : goal.returns-in_err-put_region_body
returns-in_err-put_region_body c =
    let p = err_from_is_err_and c.from_residual-in_err-put_region_body.result c.from_residual-in_err-put_region_body.ensures.1 in
    rw p.1 (kept-behind c.args.out.now _ c.put_frame.new.out c.put_region_body.new.out c.in_ok-put_frame.ensures c.in_err-put_region_body.ensures)
