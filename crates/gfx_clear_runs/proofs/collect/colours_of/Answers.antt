-- Run after run.
use Rattle.std.proofs.Common.{arith, length, ◌<◌, ◌∙◌, sym, subst, length-drop, ap}
use Rattle.gfx_clear_runs.specs.declared.palette.TheConstants.{PALETTE_MOST}
use Rattle.gfx_clear_runs.proofs.Appending.{is_none, is_some}
use Rattle.gfx_clear_runs.proofs.Putting.{some_front}
use Rattle.gfx_clear_runs.proofs.Collecting.{full_front, with_next, with_all}
use Rattle.gfx_clear_runs.proofs.collect.colours_of.Goals as goal

pub returns-then-not-take_colour : goal.returns-then-not-take_colour
returns-then-not-take_colour c =
    let some : 0 < length c.runs.rest.now = is_some (length c.runs.rest.now) c.is_empty.result c.is_empty.ensures c.runs-test.true in
    subst (λ z. PALETTE_MOST < length z) c.runs.invariant
    (full_front PALETTE_MOST c.runs.colours.items _ c.runs.rest.now some (c.take_colour.ensures.full c.if-not-take_colour.true))

pub runs-smaller : goal.runs-smaller
runs-smaller c =
    let some : 0 < length c.runs.rest.now = is_some (length c.runs.rest.now) c.is_empty.result c.is_empty.ensures c.runs-test.true in
    let more : 0 < c.front_run-count.result = some_front c.front_run-count.result _ c.runs.rest.now some c.front_run-count.ensures.ended in
    omega (arith, some, more, ap length c.split_at.ensures.back, length-drop c.front_run-count.result c.runs.rest.now)

pub runs-preserved : goal.runs-preserved
runs-preserved c =
    let some : 0 < length c.runs.rest.now = is_some (length c.runs.rest.now) c.is_empty.result c.is_empty.ensures c.runs-test.true in
    with_next c.front_run-count.result c.runs.colours.items _ c.runs.rest.now c.take_colour.new.colours.items c.split_at.result.1.now
    (some_front c.front_run-count.result _ c.runs.rest.now some c.front_run-count.ensures.ended)
    c.front_run-count.ensures.same (c.take_colour.ensures.taken c.if-not-take_colour.false) c.split_at.ensures.back
    ∙ c.runs.invariant

pub returns : goal.returns
returns c =
    sym (with_all c.runs.colours.items c.runs.rest.now (is_none (length c.runs.rest.now) c.is_empty.result c.is_empty.ensures c.runs-test.false)) ∙ c.runs.invariant
