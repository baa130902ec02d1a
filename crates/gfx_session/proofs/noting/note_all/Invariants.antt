use Rattle.std.proofs.Common.{◌≡◌, ◌++◌, length, drop}
use Rattle.gfx_session.specs.Noting.{paired}
use Rattle.gfx_session.proofs.noting.note_all.Given as goal

abbrev pub invariant-frames : goal.invariant-frames
invariant-frames l =
    (l.acks ++ paired (drop l.one-index l.taken) l.drawn.items ≡ l.fn.acks ++ paired l.taken l.fn.drawn.items)
    × (drop (length (drop l.one-index l.taken)) l.drawn.items ≡ drop (length l.taken) l.fn.drawn.items)
