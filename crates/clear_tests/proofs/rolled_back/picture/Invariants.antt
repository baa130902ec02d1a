use Rattle.std.proofs.Common.{◌≡◌, length}
use Rattle.clear_tests.proofs.rolled_back.picture.Given as goal

abbrev pub invariant-columns : goal.invariant-columns
invariant-columns l = length l.pixels.items ≡ 16384
