use Rattle.std.proofs.Common.{◌≡◌, take}
use Rattle.std.specs.List.{All}
use Rattle.gfx_prog_encode.specs.Inside.{AreShortPasses, all_passes}
use Rattle.gfx_prog_encode.proofs.message.upgrade_codes.Given as goal

abbrev pub invariant-sends : goal.invariant-sends
invariant-sends l = (l.codes.items ≡ all_passes (take l.send-index l.sends)) × All AreShortPasses l.codes.items
