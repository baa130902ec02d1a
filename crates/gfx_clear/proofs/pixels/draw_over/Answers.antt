use Rattle.std.proofs.Common.{◌+◌, map, sym, subst, ◌∙◌, arith}
use Rattle.std.proofs.lemmas.List.{length-map}
use Rattle.gfx_clear_bands.specs.Canvas.{is_drawn}
use Rattle.gfx_base.specs.Colour.{colour_of}
use Rattle.gfx_clear.proofs.DrawnOver.{Over, over_all}
use Rattle.gfx_clear.proofs.Canvases.{canvas_drawn, canvas_kept}
use Rattle.gfx_clear.proofs.pixels.draw_over.Goals.{then-canvas-i, else-canvas-i}
use Rattle.gfx_clear.proofs.pixels.draw_over.Goals as goal

pub pixels-preserved : goal.pixels-preserved
pixels-preserved c =
    elim c.if-canvas-i.branch [
      | then-canvas-i w ↦ subst (Over c.args.pixels.now (map colour_of c.args.canvas.now) (map is_drawn c.args.canvas.now) (c.pixels.i + 1)) (sym w.pixels-is)
          (canvas_drawn c.args.pixels.now c.pixels.pixels c.args.canvas.now c.pixels.i _ c.pixels-test.true c.pixels.auto.pixels c.requires w.if-canvas-i.true c.pixels.invariant)
      | else-canvas-i w ↦ subst (Over c.args.pixels.now (map colour_of c.args.canvas.now) (map is_drawn c.args.canvas.now) (c.pixels.i + 1)) (sym w.pixels-is)
          (canvas_kept c.args.pixels.now c.pixels.pixels c.args.canvas.now c.pixels.i _ c.pixels-test.true c.pixels.auto.pixels c.requires w.if-canvas-i.false c.pixels.invariant)
    ]

pub returns : goal.returns
returns c =
    over_all c.args.pixels.now c.pixels.pixels (map colour_of c.args.canvas.now) (map is_drawn c.args.canvas.now) c.pixels.i c.pixels.auto.pixels (omega arith)
    (length-map c.args.canvas.now colour_of ∙ c.requires) (length-map c.args.canvas.now is_drawn ∙ c.requires) c.pixels.invariant
