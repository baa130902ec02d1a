use Rattle.std.proofs.Common.{◌≡◌, Ok, sym, subst}
use Rattle.gfx_base.specs.Outcome.{Gives}
use Rattle.gfx_clear_bands.specs.Canvas.{on_canvas}
use Rattle.gfx_clear.specs.Inner.{parts_seen}
use Rattle.gfx_clear.specs.Parts.{residual}
use Rattle.gfx_clear.proofs.Layers.{Refuses}
use Rattle.gfx_clear.proofs.Behind.{layered_residual, layered_bands, layered_last}
use Rattle.gfx_clear.proofs.drawing.draw_layers.Goals as goal

pub returns-in-Err-clause-layers : goal.returns-in-Err-clause-layers
returns-in-Err-clause-layers c =
    let old = on_canvas c.args.canvas.now c.args.store.now.held in
    layered_residual c.in-Err.fault c.args.width c.args.height old (parts_seen c.args.parts.now)
    (subst (λ n. Refuses c.in-Err.fault (residual n old c.args.parts.now.residual.now)) c.requires.canvas (c.in-Err.ensures c.args.store.now.held))

pub returns-in-Err-paint_bands-clause-layers : goal.returns-in-Err-paint_bands-clause-layers
returns-in-Err-paint_bands-clause-layers c =
    let held = c.args.store.now.held in
    let old = on_canvas c.args.canvas.now held in
    let first = on_canvas c.draw_residual.new.canvas held in
    layered_bands c.in-Err-paint_bands.fault c.args.width c.args.height old first
    (on_canvas c.paint_bands.new.canvas c.paint_bands.new.store.held) (parts_seen c.args.parts.now)
    (subst (λ n. residual n old c.args.parts.now.residual.now ≡ Ok first) c.requires.canvas (c.in-Ok.ensures held)) c.in-Err-paint_bands.ensures.bands

pub returns-clause-layers : goal.returns-clause-layers
returns-clause-layers c =
    let held = c.args.store.now.held in
    let old = on_canvas c.args.canvas.now held in
    let first = on_canvas c.draw_residual.new.canvas held in
    let second = on_canvas c.paint_bands.new.canvas c.paint_bands.new.store.held in
    subst (Gives (λ x. on_canvas c.draw_subcodecs.new.canvas c.paint_bands.new.store.held) c.draw_subcodecs.result)
    (sym (layered_last c.args.width c.args.height old first second (parts_seen c.args.parts.now)
    (subst (λ n. residual n old c.args.parts.now.residual.now ≡ Ok first) c.requires.canvas (c.in-Ok.ensures held)) c.in-Ok-paint_bands.ensures.bands))
    (c.draw_subcodecs.ensures c.paint_bands.new.store.held)
