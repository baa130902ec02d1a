use Rattle.gfx_dvc.proofs.CutLemmas.{is_cut}
use Rattle.gfx_dvc.proofs.splitting.split.Goals as goal

pub returns-then-is_err-clause-law : goal.returns-then-is_err-clause-law
returns-then-is_err-clause-law c = is_cut c.args.message.now c.requires.some c.requires.fits

pub returns-else-is_err-clause-law : goal.returns-else-is_err-clause-law
returns-else-is_err-clause-law c = is_cut c.args.message.now c.requires.some c.requires.fits
