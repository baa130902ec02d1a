use Rattle.gfx_tile_make.proofs.Sources.{difference-may}
use Rattle.gfx_tile_make.proofs.source.SourceTile.go_on.Goals as goal

pub invariant_of-self : goal.invariant_of-self
invariant_of-self c =
    rw (c.go_on.ensures, c.go_on-2.ensures, c.go_on-3.ensures)
    (difference-may _ _ c.self.invariant c.kept.invariant (rw (← c.self.view_is, ← c.kept.view_is) at c.requires))
