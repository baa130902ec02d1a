use Rattle.gfx_prog_live.proofs.Visiting.{Visiting}
use Rattle.gfx_prog_live.proofs.live.LiveTiles.take_improved.Given as goal

-- the places so far are done
abbrev pub invariant-places : goal.invariant-places
invariant-places l = Visiting l.id l.listed l.cells l.initial.self l.self l.sends.items l.place-iterator.rest.items
