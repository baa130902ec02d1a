use Rattle.gfxpipe.proofs.Importing.{every_import_line}
use Rattle.gfxpipe.proofs.laws.every_line_of_an_import_has_equal_digests.Goals as goal

pub returns : goal.returns
returns c = every_import_line
