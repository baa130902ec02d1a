use Rattle.std.proofs.Common.{◌+◌, ◌-◌, length, get_or, subst, arith, ◌∙◌, length-take, length-drop}
use borrow.Rule.Slice.PartMut.{put_mid}
use Rattle.gfx_surface.specs.Picture.{no_pixel}
use Rattle.gfx_surface.specs.Rows.{WritesRun}
use Rattle.gfx_surface.proofs.Places.{run_put}
use Rattle.gfx_surface.proofs.copies.copy_run.Goals as goal

pub returns : goal.returns
returns c =
    let at = c.args.at in
    let to = at + length c.args.from.now in
    subst (λ run. WritesRun at to (λ k. get_or run (k - at) no_pixel) c.args.pixels.now (put_mid at (to - at) c.args.pixels.now c.copy_pixels.new.pixels))
    c.copy_pixels.ensures (run_put at to c.args.pixels.now c.copy_pixels.new.pixels (omega arith) c.requires (c.copy_pixels.auto.pixels ∙ simp (length-take, length-drop) (omega arith)))
