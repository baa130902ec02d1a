use Rattle.std.proofs.Common.{take}
use Rattle.gfx_rfx_video.proofs.Parts.{DrawnBy}
use Rattle.gfx_rfx_video.proofs.showing.show_areas.Given as goal

-- the areas so far are drawn
abbrev pub invariant-areas : goal.invariant-areas
invariant-areas l = DrawnBy l.corner l.at l.part l.canvas (take l.area-index l.areas) l.initial.surface l.surface
