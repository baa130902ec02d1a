use Rattle.std.proofs.Common.{Ok}
use Rattle.std.proofs.lemmas.List.Sums.{list_all-from_AllPass}
use Rattle.gfx_rlgr.specs.Rlgr.{in_range}
use Rattle.gfx_rlgr.proofs.RoundTrip.{written-decodes}
use Rattle.gfx_rlgr.proofs.Unique.{one-answer}
use Rattle.gfx_rlgr.proofs.laws.written_is_read.Goals as goal

pub returns-clause-says : goal.returns-clause-says
returns-clause-says c mode values bytes count all written = written-decodes mode values bytes count (list_all-from_AllPass in_range values all) written

pub returns-clause-only : goal.returns-clause-only
returns-clause-only c mode values bytes due count all written said =
    one-answer mode bytes due (Ok values) said (written-decodes mode values bytes count (list_all-from_AllPass in_range values all) written)
