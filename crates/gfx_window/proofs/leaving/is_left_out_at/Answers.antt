use Rattle.std.proofs.Common.{sym, ◌∙◌}
use Rattle.gfx_window.proofs.HullLaws.{superseded-by}
use Rattle.gfx_window.proofs.LeavingLaws.{got}
use Rattle.gfx_window.proofs.leaving.is_left_out_at.Goals as goal

pub returns-in-Some : goal.returns-in-Some
returns-in-Some c =
    c.is_covered_behind.ensures
    ∙ superseded-by c.args.script.now c.args.items.now c.args.place _ c.in-Some.write (got c.args.items.now c.args.place _ c.requires.place) (sym c.plain_write.ensures ∙ c.in-Some.is)
