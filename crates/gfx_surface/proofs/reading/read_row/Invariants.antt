use Rattle.std.proofs.Common.{◌≡◌, ℕ, ◌+◌, ◌-◌, ◌<◌, ◌≤◌, length, get_or}
use Rattle.gfx_base.specs.declared.pixel.Pixel.{Pixel}
use Rattle.gfx_surface.specs.Cells.{kept_at}
use Rattle.gfx_surface.proofs.reading.read_row.Given as goal

-- the first pixels are read
abbrev pub invariant-runs : goal.invariant-runs
invariant-runs l =
    (l.done ≤ length l.out)
    × ((k : ℕ) (d : Pixel) → k < l.done → get_or l.out k d ≡ kept_at l.grid.width l.cells (l.x + k) l.y)

abbrev pub decreases-runs : goal.decreases-runs
decreases-runs l = length l.out - l.done
