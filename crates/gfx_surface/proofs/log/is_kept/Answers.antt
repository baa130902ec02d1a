use Rattle.std.proofs.Common.{◌<◌, length, sym, ◌∙◌, arith}
use Rattle.std.proofs.lemmas.List.{get_or-map}
use Rattle.gfx_base.specs.Cells.{cell}
use Rattle.gfx_surface.proofs.KeptLemmas.{kept_at_place}
use Rattle.gfx_surface.proofs.log.is_kept.Goals as goal

pub returns-then-place-cells-clause-kept : goal.returns-then-place-cells-clause-kept
returns-then-place-cells-clause-kept c same =
    let below : c.args.place < length c.args.cells.now = omega (arith, c.if-place-cells.true) in
    kept_at_place c.args.cell c.args.cells.now c.args.place c.index-cells-place.result below (c.is_same.ensures.same same)

pub returns-then-place-cells-clause-here : goal.returns-then-place-cells-clause-here
returns-then-place-cells-clause-here c below is =
    c.is_same.ensures.found (sym (get_or-map (λ kept. kept.cell) c.args.cells.now c.args.place c.index-cells-place.result (cell 0 0) below) ∙ is)
