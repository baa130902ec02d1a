use Rattle.std.proofs.Common.{◌≡◌, length}
use Rattle.clear_tests.proofs.noise.noise.Given as goal

abbrev pub invariant-pixels : goal.invariant-pixels
invariant-pixels l = length l.pixels.items ≡ 8388608
