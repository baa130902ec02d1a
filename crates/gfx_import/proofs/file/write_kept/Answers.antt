use Rattle.gfx_import.proofs.FileLemmas.{file-read}
use Rattle.gfx_import.proofs.file.write_kept.Goals as goal

pub returns-then-is_err-clause-law : goal.returns-then-is_err-clause-law
returns-then-is_err-clause-law c = file-read c.args.kept.now c.put_file.ensures.kept

pub returns-clause-law : goal.returns-clause-law
returns-clause-law c = file-read c.args.kept.now c.put_file.ensures.kept
