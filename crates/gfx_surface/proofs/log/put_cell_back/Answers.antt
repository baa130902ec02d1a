use Rattle.std.proofs.Common.{◌∙◌, sym, ap}
use Rattle.gfx_surface.specs.Kept.{lies_on}
use Rattle.gfx_surface.proofs.KeptLemmas.{beyond}
use Rattle.gfx_surface.proofs.log.put_cell_back.Goals as goal

pub returns-else-lies_on : goal.returns-else-lies_on
returns-else-lies_on c =
    let out = ap (λ size. lies_on size.0 size.1 c.args.kept.now.cell) (sym c.size.ensures.size) ∙ sym c.lies_on.ensures ∙ c.if-lies_on.false in
    beyond c.args.surface.now c.args.kept.now.cell c.args.kept.now.pixels.items c.size.ensures.shape out
