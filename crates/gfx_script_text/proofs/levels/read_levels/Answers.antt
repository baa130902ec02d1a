use Rattle.std.proofs.Common.{◌∙◌, ◌+◌, length, length-append, sym, ap, ◌∷◌, []}
use Rattle.std.proofs.lemmas.Result.{err_from_is_err_and}
use Rattle.toml.specs.View.{view}
use Rattle.gfx_script_text.proofs.LevelRuns.{levels-next, levels-stop, levels-end}
use Rattle.gfx_script_text.proofs.levels.read_levels.Goals as goal

pub returns-in_err-level : goal.returns-in_err-level
returns-in_err-level c =
    let p = err_from_is_err_and c.from_residual.result c.from_residual.ensures.1 in
    rw (p.1, p.2)
    (sym (levels-stop c.args.bases view c.args.values.now c.values.value-index c.value-item.result c.values.before c.values.levels c.in_err-level.field-0.0 _ c.values-test.true
    c.value-item.is (sym c.in_err-level.ensures) c.values.invariant.so_far))

pub values-preserved : goal.values-preserved
values-preserved c = record {
  count = ap length c.push.ensures ∙ length-append c.values.levels (c.in_ok-level.level ∷ []) ∙ ap (λ n. n + 1) c.values.invariant.count;
  so_far =
      let h = c.push.ensures in
      rw h
      (levels-next c.args.bases view c.args.values.now c.values.value-index c.value-item.result c.values.before c.values.levels c.in_ok-level.level _ c.values-test.true
      c.value-item.is (sym c.in_ok-level.ensures) c.values.invariant.so_far);
}

pub returns : goal.returns
returns c =
    sym (levels-end c.args.bases view c.args.values.now c.values.value-index c.values.before c.values.levels _ c.values-test.false c.values.invariant.so_far)
