use Rattle.std.proofs.Common.{refl}
use Rattle.gfx_surface.proofs.lending.lend.Goals as goal

pub returns : goal.returns
returns g c = record {
  new = c.f.new.arg2;
  new_other = c.f.new.arg3;
  lent = record { shown = _; other = _; shows = refl; shows_other = refl; left = _; left_other = _; met = c.f.ensures; leaves = refl; leaves_other = refl };
  kept = c.keep.ensures;
  kept_other = c.keep-2.ensures;
}
