use Rattle.std.proofs.Common.{ap, sym, subst}
use Rattle.gfx_import.specs.Entries.{IsKept}
use Rattle.gfx_import.proofs.KeptLemmas.{listed, kept-none}
use Rattle.gfx_import.proofs.kept.Kept.new.Goals as goal

pub invariant_of-result : goal.invariant_of-result
invariant_of-result c = subst IsKept (sym (ap listed c.new.ensures.empty)) kept-none
