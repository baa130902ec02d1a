use Rattle.std.proofs.Common.{◌≡◌, take}
use Rattle.gfx_prog_decode.specs.Inside.{areas_shown}
use Rattle.gfx_prog_decode.proofs.showing.show_areas.Given as goal

-- the areas so far are drawn
abbrev pub invariant-areas : goal.invariant-areas
invariant-areas l = l.surface ≡ areas_shown l.initial.surface l.cell (take l.area-index l.areas) l.canvas
