-- Each element is painted, or ends the part.
use Rattle.std.proofs.Common.{◌+◌, ◌-◌, arith, length, take, Ok, Err, sym, ap, ◌∙◌}
use Rattle.std.proofs.lemmas.List.{take_all}
use Rattle.gfx_base.specs.declared.refusal.Refusal.TheVariants.{RunTotal}
use Rattle.gfx_clear_runs.specs.Elements.{element}
use Rattle.gfx_clear_runs.specs.Views.{reading}
use Rattle.gfx_clear_runs.proofs.Parts.{part_none, part_refused}
use Rattle.gfx_clear_runs.proofs.Appending.{takes, is_none, is_some}
use Rattle.gfx_clear_runs.proofs.Painting.{paving_more, paving_refused, paving_over, paving_short, paving_whole}
use Rattle.gfx_clear_runs.proofs.paint.paint_part.Goals as goal

pub returns-in-Err : goal.returns-in-Err
returns-in-Err c =
    c.elements.invariant.on.on (Err c.in-Err.reason) c.elements.out
    (paving_refused (length c.elements.out - c.elements.at) _ c.in-Err.reason
    (part_refused (reading c.args.coding.now) c.elements.rest.now c.in-Err.reason c.in-Err.ensures.value (is_some (length c.elements.rest.now) c.is_empty.result c.is_empty.ensures c.elements-test.true)))

pub returns-then-gained-out : goal.returns-then-gained-out
returns-then-gained-out c =
    let s = c.in-Ok.stretch in
    c.elements.invariant.on.on (Err c.reason_behind.result) c.elements.out
    (paving_over (length c.elements.out - c.elements.at) _ (element s.colour s.count s.more.now s.size) _ c.reason_behind.result
    (takes (reading c.args.coding.now) c.elements.rest.now c.split_at.result.1.now _ c.in-Ok.ensures.value (is_some (length c.elements.rest.now) c.is_empty.result c.is_empty.ensures c.elements-test.true) c.in-Ok.ensures.within.0 c.split_at.ensures.back)
    (omega arith) c.reason_behind.ensures)

pub elements-preserved : goal.elements-preserved
elements-preserved c =
    let s = c.in-Ok.stretch in
    record {
      within = omega (arith, c.elements.invariant.within, c.paint.auto.out);
      on = paving_more _ _ (length c.elements.out - c.elements.at) _ (take c.elements.at c.elements.out) (element s.colour s.count s.more.now s.size) _ _ _ c.elements.invariant.on
          (takes (reading c.args.coding.now) c.elements.rest.now c.split_at.result.1.now _ c.in-Ok.ensures.value (is_some (length c.elements.rest.now) c.is_empty.result c.is_empty.ensures c.elements-test.true) c.in-Ok.ensures.within.0 c.split_at.ensures.back)
          (omega (arith, c.elements.invariant.within, c.paint.auto.out, c.area-gained.ensures))
          (ap (λ n. take (c.elements.at + n) c.paint.new.out) c.area-gained.ensures ∙ c.paint.ensures);
    }

pub returns-then-at-out : goal.returns-then-at-out
returns-then-at-out c =
    c.elements.invariant.on.on (Err RunTotal) c.elements.out
    (paving_short (length c.elements.out - c.elements.at) _ (part_none (reading c.args.coding.now) c.elements.rest.now (is_none (length c.elements.rest.now) c.is_empty.result c.is_empty.ensures c.elements-test.false)) (omega arith))

pub returns : goal.returns
returns c =
    c.elements.invariant.on.on (Ok tt) c.elements.out
    (paving_whole (length c.elements.out - c.elements.at) _ (take c.elements.at c.elements.out) c.elements.out
    (part_none (reading c.args.coding.now) c.elements.rest.now (is_none (length c.elements.rest.now) c.is_empty.result c.is_empty.ensures c.elements-test.false))
    (omega arith) (sym (take_all c.elements.at c.elements.out (omega arith))))
