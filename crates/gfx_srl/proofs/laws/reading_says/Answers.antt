use Rattle.gfx_srl.proofs.Reading.{says}
use Rattle.gfx_srl.proofs.laws.reading_says.Goals as goal

pub returns : goal.returns
returns c bits pairs reader h = says bits pairs reader h
