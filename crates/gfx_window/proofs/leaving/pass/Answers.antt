use Rattle.std.proofs.Common.{sym, ◌∙◌}
use Rattle.gfx_window.proofs.LeavingLaws.{got, goes_unwritten, stops}
use Rattle.gfx_window.proofs.leaving.pass.Goals as goal

pub returns-then-not-stands_aside : goal.returns-then-not-stands_aside
returns-then-not-stands_aside c =
    stops c.args.script.now c.args.items.now c.args.place _ (got c.args.items.now c.args.place _ c.requires.place) c.args.index.now.lists.items (sym c.stands_aside.ensures ∙ c.if-not-stands_aside.true)

pub returns-in-None : goal.returns-in-None
returns-in-None c =
    goes_unwritten c.args.script.now c.args.items.now c.args.place _ (got c.args.items.now c.args.place _ c.requires.place) c.args.index.now.lists.items c.args.limit
    (sym c.stands_aside.ensures ∙ c.if-not-stands_aside.false) (sym c.written.ensures ∙ c.in-None.is) c.requires.stands
