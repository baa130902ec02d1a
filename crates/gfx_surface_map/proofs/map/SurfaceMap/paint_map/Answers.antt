use Rattle.std.proofs.Common.{◌∙◌, ap, sym}
use Rattle.std.specs.Option.{option_map}
use Rattle.gfx_surface_map.specs.Shown.{SurfaceMap}
use Rattle.gfx_surface_map.proofs.ComposedLemmas.{map_painted}
use Rattle.gfx_surface_map.proofs.map.SurfaceMap.paint_map.Goals as goal

pub returns : goal.returns
returns c =
    map_painted _ c.self.inside.table _ c.self.inside.maps.entries c.args.i c.args.left c.args.y (c.unwrap.result.0.now, c.unwrap.result.1.now) _ _ _
    (ap (λ (k : SurfaceMap). k.shown.surfaces) c.self.view_is) (ap (λ (k : SurfaceMap). k.shown.maps) c.self.view_is)
    (sym c.get_index.ensures.entry ∙ ap (option_map _) c.unwrap.ensures) c.get.ensures c.paint_part.ensures
