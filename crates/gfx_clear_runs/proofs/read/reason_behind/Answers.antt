-- One element after another is passed by.
use Rattle.std.proofs.Common.{ap, sym, ◌∙◌, length}
use Rattle.gfx_clear_runs.specs.Elements.{element}
use Rattle.gfx_clear_runs.specs.Inner.{reason_of}
use Rattle.gfx_clear_runs.specs.Views.{reading}
use Rattle.gfx_clear_runs.proofs.Parts.{part_none, part_refused}
use Rattle.gfx_clear_runs.proofs.Appending.{reason_step, takes, is_none, is_some}
use Rattle.gfx_clear_runs.proofs.read.reason_behind.Goals as goal

pub returns-in-Err : goal.returns-in-Err
returns-in-Err c =
    sym (c.behind.invariant ∙ ap reason_of (part_refused (reading c.args.coding.now) c.behind.rest.now c.in-Err.reason c.in-Err.ensures.value (is_some (length c.behind.rest.now) c.is_empty.result c.is_empty.ensures c.behind-test.true)))

pub behind-preserved : goal.behind-preserved
behind-preserved c =
    let s = c.in-Ok.stretch in
    c.behind.invariant ∙ reason_step _ _ _
    (takes (reading c.args.coding.now) c.behind.rest.now c.split_at.result.1.now (element s.colour s.count s.more.now s.size)
    c.in-Ok.ensures.value (is_some (length c.behind.rest.now) c.is_empty.result c.is_empty.ensures c.behind-test.true) c.in-Ok.ensures.within.0 c.split_at.ensures.back)

pub returns : goal.returns
returns c = sym (c.behind.invariant ∙ ap reason_of (part_none (reading c.args.coding.now) c.behind.rest.now (is_none (length c.behind.rest.now) c.is_empty.result c.is_empty.ensures c.behind-test.false)))
