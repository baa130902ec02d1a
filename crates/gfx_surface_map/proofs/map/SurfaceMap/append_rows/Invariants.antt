use Rattle.std.proofs.Common.{◌-◌}
use Rattle.gfx_base.specs.Geometry.{width_of}
use Rattle.gfx_surface_map.specs.Composed.{rect_bytes, rows_bytes}
use Rattle.gfx_surface_map.proofs.BytesLemmas.{Put}
use Rattle.gfx_surface_map.proofs.map.SurfaceMap.append_rows.Given as goal

abbrev pub invariant-rows : goal.invariant-rows
invariant-rows l = Put l.fn.out l.out (rect_bytes l.self.shown l.rect) (rows_bytes l.self.shown l.rect.left (width_of l.rect) l.y (l.rect.bottom - l.y))
