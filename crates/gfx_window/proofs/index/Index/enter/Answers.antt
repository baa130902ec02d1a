use Rattle.std.proofs.Common.{◌≡◌, length, rules, ap, ◌∙◌, arith}
use Rattle.gfx_window.specs.Index.{home_of}
use Rattle.gfx_window.proofs.ListsLaws.{entered}
use Rattle.gfx_window.proofs.index.Index.enter.Goals as goal

pub returns : goal.returns
returns c =
    let lists = c.args.self.now.lists.items in
    let count : c.len.result ≡ length lists = search rules in
    entered lists c.args.hull c.home_of-home.result c.args.place c.index_mut.result.now c.push.new.self (omega (arith, c.home_of-home.ensures.within, count))
    (c.home_of-home.ensures.home ∙ ap (λ n. home_of n c.args.hull) count) c.index_mut.ensures.value c.in_ok-push.ensures.items
