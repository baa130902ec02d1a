use Rattle.std.proofs.Common.{◌≡◌, drop}
use Rattle.gfx_clear_bands.specs.Writing.{without_front}
use Rattle.gfx_estimate.proofs.columns.front_of.Given as goal

abbrev pub invariant-front : goal.invariant-front
invariant-front l = without_front l.background (drop l.row l.pixels) ≡ without_front l.background l.pixels
