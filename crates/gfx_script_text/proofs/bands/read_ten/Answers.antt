use Rattle.std.proofs.Common.{◌∙◌, ◌<◌, ◌≤◌, Ok, length, take, sym, ap, arith}
use Rattle.std.proofs.lemmas.List.{length-set, take_more_set, take_all}
use Rattle.std.proofs.lemmas.Result.{err_from_is_err_and}
use Rattle.toml.specs.View.{view}
use Rattle.gfx_script_text.specs.Progressive.{number_in}
use Rattle.gfx_script_text.proofs.Runs.{each-next, each-stop, each-end}
use Rattle.gfx_script_text.proofs.bands.read_ten.Goals as goal

pub returns-in_err-values : goal.returns-in_err-values
returns-in_err-values c =
    let p = err_from_is_err_and c.from_residual.result c.from_residual.ensures.1 in
    rw (p.1, p.2)
    (sym (each-stop (number_in c.args.least c.args.most) view c.args.items.now c.values.index c.index-items-index.result (take c.values.index c.values.values) c.in_err-values.field-0.0 _
    (omega (arith, c.requires)) c.index-items-index.is (sym c.in_err-values.ensures) c.values.invariant.so_far))

pub values-preserved : goal.values-preserved
values-preserved c =
    let room : c.values.index < length c.values.values = omega (arith, c.values.invariant.size) in
    record {
      size = length-set c.values.values c.values.index c.in_ok-values.field-0 ∙ c.values.invariant.size;
      so_far =
          rw (take_more_set c.values.values c.values.index c.in_ok-values.field-0 room)
          (each-next (number_in c.args.least c.args.most) view c.args.items.now c.values.index c.index-items-index.result (take c.values.index c.values.values) c.in_ok-values.field-0 _
          (omega (arith, c.requires)) c.index-items-index.is (sym c.in_ok-values.ensures) c.values.invariant.so_far);
    }

pub returns : goal.returns
returns c =
    let all : length c.values.values ≤ c.values.index = omega (arith, c.values.invariant.size) in
    let items : length c.args.items.now ≤ c.values.index = omega (arith, c.requires) in
    ap Ok (sym (take_all c.values.index c.values.values all))
    ∙ sym (each-end (number_in c.args.least c.args.most) view c.args.items.now c.values.index (take c.values.index c.values.values) _ items c.values.invariant.so_far)
