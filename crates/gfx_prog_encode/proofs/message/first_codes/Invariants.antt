use Rattle.std.proofs.Common.{◌≡◌, take}
use Rattle.std.specs.List.{All}
use Rattle.gfx_prog_encode.specs.Inside.{AreShort, all_coded}
use Rattle.gfx_prog_encode.proofs.message.first_codes.Given as goal

abbrev pub invariant-sends : goal.invariant-sends
invariant-sends l = (l.codes.items ≡ all_coded (take l.send-index l.sends)) × All AreShort l.codes.items
