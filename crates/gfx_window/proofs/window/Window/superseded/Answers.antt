use Rattle.std.proofs.Common.{◌+◌, drop, sym, ap, ◌∙◌}
use Rattle.gfx_window.specs.Hulls.{is_covered_by}
use Rattle.gfx_window.specs.Window.{Window}
use Rattle.gfx_window.proofs.HullLaws.{superseded-by}
use Rattle.gfx_window.proofs.window.Window.superseded.Goals as goal

pub returns-in-Some : goal.returns-in-Some
returns-in-Some c =
    let behind = c.split_at.ensures.back ∙ ap (λ t. drop (c.args.place + 1) t) c.deref.ensures.value ∙ ap (λ (w : Window). drop (c.args.place + 1) w.pending) c.self.view_is in
    c.is_covered.ensures ∙ ap (λ t. is_covered_by c.args.script.now c.in-Some.write t) behind
    ∙ superseded-by c.args.script.now c.args.self.now.pending c.args.place c.item-item.result c.in-Some.write c.item-item.ensures (sym c.plain_write.ensures ∙ c.in-Some.is)
