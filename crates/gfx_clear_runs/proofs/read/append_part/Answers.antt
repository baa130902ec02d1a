-- Each element is appended, or ends the part.
use Rattle.std.proofs.Common.{arith, length, Ok, Err}
use Rattle.gfx_base.specs.declared.answer.Cause.TheVariants.{Refused, Memory}
use Rattle.gfx_base.specs.declared.refusal.Refusal.TheVariants.{RunTotal}
use Rattle.std.proofs.lemmas.Result.{err_from_is_err_and}
use Rattle.gfx_clear_runs.specs.Elements.{element}
use Rattle.gfx_clear_runs.specs.Views.{reading}
use Rattle.gfx_clear_runs.proofs.Parts.{part_none, part_refused}
use Rattle.gfx_clear_runs.proofs.Appending.{onward_more, ends_refused, ends_over, ends_memory, ends_short, ends_whole, takes, is_none, is_some}
use Rattle.gfx_clear_runs.proofs.read.append_part.Goals as goal

pub returns-in-Err : goal.returns-in-Err
returns-in-Err c =
    c.elements.invariant.on (Err (Refused c.in-Err.reason)) c.elements.out
    (ends_refused c.elements.left _ c.in-Err.reason c.elements.out
    (part_refused (reading c.args.coding.now) c.elements.rest.now c.in-Err.reason c.in-Err.ensures.value (is_some (length c.elements.rest.now) c.is_empty.result c.is_empty.ensures c.elements-test.true)))

pub returns-then-gained-from : goal.returns-then-gained-from
returns-then-gained-from c =
    let s = c.in-Ok.stretch in
    c.elements.invariant.on (Err (Refused c.reason_behind.result)) c.elements.out
    (ends_over c.elements.left _ (element s.colour s.count s.more.now s.size) _ c.elements.out c.reason_behind.result
    (takes (reading c.args.coding.now) c.elements.rest.now c.split_at.result.1.now _ c.in-Ok.ensures.value (is_some (length c.elements.rest.now) c.is_empty.result c.is_empty.ensures c.elements-test.true) c.in-Ok.ensures.within.0 c.split_at.ensures.back)
    (omega arith) c.reason_behind.ensures)

pub returns-in_err-append : goal.returns-in_err-append
returns-in_err-append c =
    let s = c.in-Ok.stretch in
    let p = err_from_is_err_and c.from_residual.result c.from_residual.ensures.1 in
    rw (p.1, p.2)
    (c.elements.invariant.on (Err Memory) c.append.new.out
    (ends_memory c.elements.left _ (element s.colour s.count s.more.now s.size) _ c.elements.out c.append.new.out
    (takes (reading c.args.coding.now) c.elements.rest.now c.split_at.result.1.now _ c.in-Ok.ensures.value (is_some (length c.elements.rest.now) c.is_empty.result c.is_empty.ensures c.elements-test.true) c.in-Ok.ensures.within.0 c.split_at.ensures.back)
    c.in_err-append.ensures.err))

pub elements-preserved : goal.elements-preserved
elements-preserved c =
    let s = c.in-Ok.stretch in
    onward_more _ _ _ c.elements.left _ c.elements.out (element s.colour s.count s.more.now s.size) _ _ c.append.new.out c.elements.invariant
    (takes (reading c.args.coding.now) c.elements.rest.now c.split_at.result.1.now _ c.in-Ok.ensures.value (is_some (length c.elements.rest.now) c.is_empty.result c.is_empty.ensures c.elements-test.true) c.in-Ok.ensures.within.0 c.split_at.ensures.back)
    (omega arith) c.in_ok-append.ensures.ok

pub returns-then-left-gt0 : goal.returns-then-left-gt0
returns-then-left-gt0 c =
    c.elements.invariant.on (Err (Refused RunTotal)) c.elements.out
    (ends_short c.elements.left _ c.elements.out (part_none (reading c.args.coding.now) c.elements.rest.now (is_none (length c.elements.rest.now) c.is_empty.result c.is_empty.ensures c.elements-test.false)) (omega arith))

pub returns : goal.returns
returns c =
    c.elements.invariant.on (Ok tt) c.elements.out
    (ends_whole c.elements.left _ c.elements.out (part_none (reading c.args.coding.now) c.elements.rest.now (is_none (length c.elements.rest.now) c.is_empty.result c.is_empty.ensures c.elements-test.false)) (omega arith))
