use Rattle.gfx_import.proofs.FileLemmas.{file-read}
use Rattle.gfx_import.proofs.laws.a_kept_file_is_read_back.Goals as goal

pub returns : goal.returns
returns c = file-read
