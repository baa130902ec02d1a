use Rattle.std.proofs.Common.{◌++◌, ◌∙◌, ap, replicate}
use Rattle.gfx_script.specs.Drafts.{sides_of}
use Rattle.gfx_script.specs.Forgetting.{blank}
use Rattle.gfx_script.specs.Checks.{without_surface}
use Rattle.gfx_base.proofs.MapLemmas.{removed_map}
use Rattle.gfx_script.proofs.Surfaces.{surface_removed}
use Rattle.gfx_script.proofs.held.Held.remove.Goals as goal

pub returns : goal.returns
returns c =
    surface_removed (replicate c.self.inside.forgotten (sides_of blank) ++ c.self.inside.pictures.items) c.self.inside.stock _ _ c.self.inside.cells _ c.count_cells.result c.args.id c.args.sides
    (removed_map c.self.inside.sides.entries c.shift_remove.new.self.entries c.args.id c.shift_remove.ensures.updates.0) c.saturating_sub-self-inside.ensures c.count_cells.ensures.cells
    ∙ ap (λ h. without_surface h c.args.id c.args.sides) c.self.view_is
