use Rattle.std.proofs.Common.{sym, ◌∙◌}
use Rattle.gfx_window.specs.Superseded.{plain_area}
use Rattle.gfx_window.proofs.HullLaws.{left-out-by}
use Rattle.gfx_window.proofs.sparing.is_left_out.Goals as goal

pub returns-in-Some : goal.returns-in-Some
returns-in-Some c =
    c.is_covered.ensures
    ∙ left-out-by c.args.script.now (plain_area c.args.script.now c.args.item) c.in-Some.write c.args.newest.now (sym c.plain_write.ensures ∙ c.in-Some.is)
