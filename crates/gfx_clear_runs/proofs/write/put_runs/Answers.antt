-- Run after run.
use Rattle.std.proofs.Common.{arith, length, ◌<◌, length-drop, ap}
use Rattle.gfx_clear_runs.specs.Views.{spelling}
use Rattle.gfx_clear_runs.proofs.Appending.{is_none, is_some}
use Rattle.gfx_clear_runs.proofs.Putting.{due_more, due_all, some_front}
use Rattle.gfx_clear_runs.proofs.write.put_runs.Goals as goal

pub put-requires : goal.put-requires
put-requires c =
    some_front c.front_run-count.result _ c.runs.rest.now (is_some (length c.runs.rest.now) c.is_empty.result c.is_empty.ensures c.runs-test.true) c.front_run-count.ensures.ended

pub runs-smaller : goal.runs-smaller
runs-smaller c =
    let some : 0 < length c.runs.rest.now = is_some (length c.runs.rest.now) c.is_empty.result c.is_empty.ensures c.runs-test.true in
    let more : 0 < c.front_run-count.result = some_front c.front_run-count.result _ c.runs.rest.now some c.front_run-count.ensures.ended in
    omega (arith, some, more, ap length c.split_at.ensures.back, length-drop c.front_run-count.result c.runs.rest.now)

pub runs-preserved : goal.runs-preserved
runs-preserved c =
    let some : 0 < length c.runs.rest.now = is_some (length c.runs.rest.now) c.is_empty.result c.is_empty.ensures c.runs-test.true in
    due_more (spelling c.args.coding.now) c.args.pixels.now c.args.out.now c.runs.rest.now c.runs.out c.front_run-count.result _ c.split_at.result.1.now c.put.new.out
    c.runs.invariant (some_front c.front_run-count.result _ c.runs.rest.now some c.front_run-count.ensures.ended)
    c.front_run-count.ensures.same c.front_run-count.ensures.ended c.split_at.ensures.back c.in_ok-put.ensures.ok

pub returns-clause-ok : goal.returns-clause-ok
returns-clause-ok c =
    due_all (spelling c.args.coding.now) c.args.pixels.now c.args.out.now c.runs.rest.now c.runs.out c.runs.invariant
    (is_none (length c.runs.rest.now) c.is_empty.result c.is_empty.ensures c.runs-test.false)
