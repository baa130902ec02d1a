use Rattle.std.proofs.Common.{sym, ◌∙◌}
use Rattle.toml.specs.View.{view}
use Rattle.gfx_script_text.specs.Places.{are_whole}
use Rattle.gfx_script_text.proofs.Runs.{all-next, all-stop, all-end}
use Rattle.gfx_script_text.proofs.places.all_are_whole.Goals as goal

pub returns-then-not-are_whole : goal.returns-then-not-are_whole
returns-then-not-are_whole c =
    all-stop are_whole view c.args.values.now c.values.value-index c.value-item.result _ c.values-test.true c.value-item.is
    (sym c.are_whole.ensures ∙ c.if-not-are_whole.true) c.values.invariant

pub values-preserved : goal.values-preserved
values-preserved c =
    all-next are_whole view c.args.values.now c.values.value-index c.value-item.result _ c.values-test.true c.value-item.is
    (sym c.are_whole.ensures ∙ c.if-not-are_whole.false) c.values.invariant

pub returns : goal.returns
returns c = all-end are_whole view c.args.values.now c.values.value-index _ c.values-test.false c.values.invariant
