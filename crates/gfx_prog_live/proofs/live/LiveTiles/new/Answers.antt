use Rattle.std.proofs.Common.{ap, subst, sym}
use Rattle.std.specs.FinMap.{from_entries}
use Rattle.gfx_prog_decode.specs.Records.{key_cmp}
use Rattle.gfx_prog_live.specs.Inside.{AreInPlace}
use Rattle.gfx_prog_live.proofs.InPlace.{none_in_place}
use Rattle.gfx_prog_live.proofs.live.LiveTiles.new.Goals as goal

pub invariant_of-result : goal.invariant_of-result
invariant_of-result c = subst AreInPlace (sym (ap (λ es. from_entries {R = key_cmp} es) c.new.ensures.empty)) none_in_place
