-- What a client reads of heads and flags is what the server meant.
use Rattle.std.proofs.Common.{◌≡◌, Bool, true, false, if◌then◌else◌, List, Ok, refl}
use Rattle.std.specs.List.{AllByRecursion}
use Rattle.gfx_dwt.specs.declared.layout.Transform.{Transform}
use Rattle.gfx_dwt.specs.declared.layout.Transform.TheVariants.{Plain, Reduced}
use Rattle.gfx_prog_block.specs.declared.block.Block.{Block}
use Rattle.gfx_prog_block.specs.declared.tile.TheConstants.{DIFFERENCE}
use Rattle.gfx_prog_block.specs.Fitting.{Fits}
use Rattle.gfx_prog_block.specs.Reading.{blocks_of}
use Rattle.gfx_prog_block.specs.Spelling.{spelling}
use Rattle.gfx_prog_block.proofs.BlockLaws.{blocks_of-spells, spelling-spells}
use Rattle.gfx_prog_encode.specs.Messages.{flags_by}
use Rattle.gfx_prog_decode.specs.Coding.{transform_by}
use Rattle.gfx_prog_decode.specs.Progressive.{is_difference}

pub transform-again : (t : Transform) → transform_by (flags_by t) ≡ t
transform-again Plain = refl
transform-again Reduced = refl

pub difference-again : (difference : Bool) → is_difference (if difference then DIFFERENCE else 0) ≡ difference
difference-again true = refl
difference-again false = refl

-- what is written is read
pub blocks-again : (all : List Block) → AllByRecursion Fits all → blocks_of (spelling all) ≡ Ok all
blocks-again all fits = blocks_of-spells (spelling all) all fits (spelling-spells all)
