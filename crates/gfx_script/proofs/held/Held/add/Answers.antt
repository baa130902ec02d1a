use Rattle.std.proofs.Common.{◌++◌, ◌∙◌, ap, replicate}
use Rattle.gfx_script.specs.Drafts.{sides_of}
use Rattle.gfx_script.specs.Forgetting.{blank}
use Rattle.gfx_base.proofs.MapLemmas.{updated_map}
use Rattle.gfx_script.specs.Checks.{with_surface}
use Rattle.gfx_script.proofs.Surfaces.{surface_added}
use Rattle.gfx_script.proofs.held.Held.add.Goals as goal

pub returns-clause-ok : goal.returns-clause-ok
returns-clause-ok c =
    surface_added (replicate c.self.inside.forgotten (sides_of blank) ++ c.self.inside.pictures.items) c.self.inside.stock _ _ c.self.inside.cells c.count_cells.result c.args.id c.args.width c.args.height
    (updated_map c.self.inside.sides.entries c.insert.new.self.entries c.args.id record { width = c.args.width; height = c.args.height } c.in_ok-insert.ensures.updates.0) c.count_cells.ensures.cells
    ∙ ap (λ h. with_surface h c.args.id c.args.width c.args.height) c.self.view_is
