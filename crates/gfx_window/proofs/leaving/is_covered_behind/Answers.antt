use Rattle.std.proofs.Common.{◌∙◌}
use Rattle.gfx_window.proofs.FoundLaws.{found-is}
use Rattle.gfx_window.proofs.leaving.is_covered_behind.Goals as goal

pub returns-then-is_worth_a_search : goal.returns-then-is_worth_a_search
returns-then-is_worth_a_search c =
    let worth = c.if-is_worth_a_search.true in
    c.finds.ensures
    ∙ found-is c.args.script.now c.args.items.now (record { from = c.args.from; limit = c.args.limit; write = c.args.write; hull = c.in-Some.hull }) c.args.index.now.lists.items
    c.in-Some.is (c.is_worth_a_search.ensures.across worth) (c.is_worth_a_search.ensures.down worth) (c.is_worth_a_search.ensures.within worth) c.requires.stands
