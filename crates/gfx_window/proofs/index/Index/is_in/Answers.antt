use Rattle.std.proofs.Common.{ap, ◌∙◌}
use Rattle.std.specs.List.{list_any}
use Rattle.gfx_window.specs.Index.{hits}
use Rattle.gfx_window.proofs.ListsLaws.{those-read}
use Rattle.gfx_window.proofs.index.Index.is_in.Goals as goal

pub returns : goal.returns
returns c =
    c.any_hits.ensures ∙ ap (λ places. list_any (hits c.args.script.now c.args.items.now c.args.sought) places)
    (c.deref.ensures.value ∙ those-read c.args.self.now.lists.items c.args.home _ c.requires c.index.ensures)
