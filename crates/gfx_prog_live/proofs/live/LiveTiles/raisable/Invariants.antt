use Rattle.std.proofs.Common.{◌≡◌, []}
use Rattle.std.specs.Prelude.{fold}
use Rattle.gfx_prog_live.proofs.Raising.{noting}
use Rattle.gfx_prog_live.proofs.live.LiveTiles.raisable.Given as goal

-- with those of the tiles that are left, the surfaces so far are those of all
abbrev pub invariant-tiles : goal.invariant-tiles
invariant-tiles l = fold (noting l.listed) l.ids.items l.key-iterator ≡ fold (noting l.listed) [] l.initial.key-iterator
