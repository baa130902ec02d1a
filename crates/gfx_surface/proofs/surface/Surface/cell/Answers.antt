use Rattle.std.proofs.Common.{◌≡◌, ◌+◌, ◌-◌, ℕ, sym, subst, List, take, drop, arith}
use Rattle.gfx_base.specs.declared.pixel.Pixel.{Pixel}
use Rattle.gfx_surface.specs.Views.{LiesOn, IsCellOf}
use Rattle.gfx_surface.proofs.ViewLemmas.{cell_shown}
use Rattle.gfx_surface.proofs.surface.Surface.cell.Goals as goal

pub returns : goal.returns
returns c =
    let on = subst (λ p. LiesOn p c.args.cell) (sym c.self.view_is) c.requires in
    subst (λ picture. IsCellOf picture c.args.cell (take (c.cell_start-start.result + 4096 - c.cell_start-start.result) (drop c.cell_start-start.result c.deref.result.now))) c.self.view_is
    (cell_shown c.self.inside.width c.self.inside.height c.cell_start-start.result c.self.inside.format c.args.cell c.self.inside.cells.items _
    (cut c.cell_start-start.result c.self.inside.cells.items c.deref.result.now c.deref.ensures.value) c.cell_start-start.ensures c.self.invariant.full on.column on.row)
  where
    cut : (start : ℕ) (items seen : List Pixel) → seen ≡ items → take (start + 4096 - start) (drop start seen) ≡ take 4096 (drop start items)
    cut start items seen same =
        let size : start + 4096 - start ≡ 4096 = omega arith in
        λ i. take (size i) (drop start (same i))
