use Rattle.std.proofs.Common.{◌≡◌, ◌≤◌, ◌+◌, ◌*◌, length}
use Rattle.std.specs.List.{sum_by}
use Rattle.indexmap.specs.IndexMap.{values}
use Rattle.gfx_surface_map.specs.declared.TheConstants.{MOST_SURFACES}
use Rattle.gfx_surface_map.specs.Surfaces.{cells_of_picture}
use Rattle.gfx_surface_map.proofs.scan.total_cells.Given as goal

-- the total so far and what is left are all
abbrev pub invariant-surfaces : goal.invariant-surfaces
invariant-surfaces l = record {
  all : l.total + sum_by cells_of_picture l.surface-iterator ≡ sum_by cells_of_picture (values l.surfaces);
  small : l.total + 1024 * 1024 * length l.surface-iterator ≤ 1024 * 1024 * MOST_SURFACES;
}
