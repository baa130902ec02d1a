use Rattle.gfx_tile_make.specs.Levels.{ComponentFits, ComponentLeaves}
use Rattle.gfx_tile_make.specs.Source.{difference_of}
use Rattle.gfx_tile_make.proofs.Sources.{all-three}
use Rattle.gfx_tile_make.proofs.source.SourceTile.fits_onto.Goals as goal

pub returns : goal.returns
returns c =
    all-three (ComponentFits (difference_of c.args.self.now c.args.kept.now)) (ComponentLeaves (difference_of c.args.self.now c.args.kept.now)) c.part_fits.result c.part_fits-2.result c.part_fits-3.result
    c.part_fits.ensures c.part_fits-2.ensures c.part_fits-3.ensures
