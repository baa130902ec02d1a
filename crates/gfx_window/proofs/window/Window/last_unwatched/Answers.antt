use Rattle.std.proofs.Common.{◌≡◌, ◌-◌, ◌∙◌, sym, ap, get_or, length, arith}
use Rattle.std.specs.List.{last_or}
use Rattle.gfx_window.specs.Window.{Window}
use Rattle.gfx_window.proofs.LastFrame.{ids, last-there}
use Rattle.gfx_window.proofs.window.Window.last_unwatched.Goals as goal

pub returns-in-Some : goal.returns-in-Some
returns-in-Some c =
    let before = c.args.self.now.unwatched in
    let items = c.self.inside.flying.items in
    let last = c.in-Some.last.now in
    let same : items ≡ c.args.self.now.flying = ap (λ (w : Window). w.flying) c.self.view_is in
    let count : c.self.inside.flying.len ≡ length items = omega (arith, c.self.inside.flying.ok.0) in
    sym (last-there before items last c.in-Some.ensures.item.3.0 (c.in-Some.ensures.lookup ∙ ap (λ n. get_or items (n - 1) last) count))
    ∙ ap (λ z. last_or before (ids z)) same
