use Rattle.gfx_surface.specs.Rows.{WritesRows}
use Rattle.gfx_surface.proofs.rows.fill_rows.Given as goal

-- the rows above y are done
abbrev pub invariant-rows : goal.invariant-rows
invariant-rows l = WritesRows l.sides.width (record l.fn.rect { bottom = l.y }) (λ _ _. l.colour) l.initial.pixels l.pixels
