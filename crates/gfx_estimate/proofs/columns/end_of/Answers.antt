use Rattle.std.proofs.Common.{◌≡◌, refl, sym, ap, ◌∙◌, arith, take}
use Rattle.gfx_clear_bands.specs.Writing.{black, without_end}
use Rattle.gfx_clear_bands.proofs.Shorts.{end_here, end_step, end_none, not_same, is_same}
use Rattle.gfx_estimate.proofs.columns.end_of.Goals as goal

pub returns-then-ne-clause-end : goal.returns-then-ne-clause-end
returns-then-ne-clause-end c =
    sym (end_here c.args.background _ c.args.pixels.now c.end.end black c.end-test.true c.end.invariant.within refl (not_same c.ne.result _ c.ne.ensures c.if-ne.true))
    ∙ c.end.invariant.same

pub end-preserved : goal.end-preserved
end-preserved c = record {
  within = omega (arith, c.end.invariant.within);
  same = end_step c.args.background _ c.args.pixels.now c.end.end black c.end-test.true c.end.invariant.within refl (is_same c.ne.result _ c.ne.ensures c.if-ne.false)
      ∙ c.end.invariant.same;
}

pub returns-clause-end : goal.returns-clause-end
returns-clause-end c =
    let none : c.end.end ≡ 0 = omega (arith, c.end-test.false) in
    ap (λ z. take z c.args.pixels.now) none
    ∙ sym (ap (λ z. without_end c.args.background (take z c.args.pixels.now)) none ∙ end_none c.args.background)
    ∙ c.end.invariant.same
