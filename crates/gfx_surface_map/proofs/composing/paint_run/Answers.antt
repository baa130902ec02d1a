use Rattle.std.proofs.Common.{◌≡◌, ◌∙◌, ◌-◌, ap, sym, arith, drop, length, length-drop}
use Rattle.gfx_surface.specs.Picture.{row_of}
use Rattle.gfx_surface.proofs.PictureLemmas.{length-row_of}
use Rattle.gfx_surface_map.proofs.ComposedLemmas.{run_painted}
use Rattle.gfx_surface_map.proofs.composing.paint_run.Goals as goal

pub returns-then-start-out : goal.returns-then-start-out
returns-then-start-out c =
    let row = row_of c.args.surface.now c.args.row in
    let before = c.saturating_sub-before.result in
    let wide : length (drop before row) ≡ c.from-then-start-out.result =
    length-drop before row
    ∙ ap (λ n. n - before) (length-row_of c.args.surface.now c.args.row c.size-width.ensures.shape c.requires ∙ ap (λ s. s.0) (sym c.size-width.ensures.size))
    ∙ sym c.from-then-start-out.ensures
    in
    let painted =
    run_painted (drop before row) _ _ c.saturating_sub-start.result c.min-count.result _ _ wide c.if-start-out.true c.min-count.ensures (omega arith) c.read_opaque.ensures
    in
    rw (← c.saturating_sub-before.ensures, ← c.saturating_sub-start.ensures) painted
