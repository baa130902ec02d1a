use Rattle.std.proofs.Common.{◌∙◌, ap, length}
use Rattle.std.proofs.lemmas.List.{with_items_is}
use Rattle.gfx_surface_map.proofs.CopiedLemmas.{copied_back}
use Rattle.gfx_surface_map.proofs.map.SurfaceMap.copy_all.Goals as goal

pub returns : goal.returns
returns c =
    copied_back c.args.self.now c.self.inside.table _ c.self.inside.output _ _ _ c.args.from c.args.to c.args.rect c.args.points.now c.self.view_is
    (ap length (with_items_is c.self.inside.scratch c.copy_by_scratch.new.scratch (c.copy_by_scratch.auto.scratch ∙ c.deref_mut.ensures.len))
    ∙ c.copy_by_scratch.auto.scratch ∙ ap length c.deref_mut.ensures.value) c.copy_by_scratch.ensures
