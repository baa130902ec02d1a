use Rattle.std.proofs.Common.{◌≡◌, ◌+◌, drop}
use Rattle.gfx_clear_runs.specs.Writing.{place_of}
use Rattle.gfx_clear_runs.proofs.write.place_of.Given as goal

abbrev pub invariant-loop-held : goal.invariant-loop-held
invariant-loop-held l = record {
  so_far : place_of l.palette.items l.colour ≡ l.place + place_of (drop l.held-index l.palette.items) l.colour;
  counted : l.place ≡ l.held-index;
}
