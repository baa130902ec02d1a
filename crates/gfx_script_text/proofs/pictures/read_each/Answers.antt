use Rattle.std.proofs.Common.{◌∙◌, [], ◌∷◌, ◌+◌, ap}
use Rattle.std.proofs.lemmas.List.{length-append}
use Rattle.std.proofs.lemmas.Result.{err_from_is_err_and}
use Rattle.toml.specs.View.{view}
use Rattle.gfx_script_text.specs.Pictures.{Named, Gallery}
use Rattle.gfx_script_text.proofs.Faults.{passed_on}
use Rattle.gfx_script_text.proofs.Gathered.{gathered-next, gathered-stop, gathered-end}
use Rattle.gfx_script_text.proofs.PictureRanges.{picture_of-read}
use Rattle.gfx_script_text.proofs.pictures.read_each.Goals as goal

pub returns-in_err-name : goal.returns-in_err-name
returns-in_err-name c =
    let p = err_from_is_err_and c.from_residual.result c.from_residual.ensures.1 in
    rw (p.1, p.2)
    (passed_on {X = Named} {Z = Gallery} (λ x. x) (λ x. x) _ _ c.in_err-name.field-0.0
    (λ kind is. gathered-stop view c.args.values.now c.values.value-index record { names = c.values.names; pictures = c.values.pictures.items } _ c.values.invariant.so_far c.value-item.result
    kind c.values-test.true c.value-item.is is) c.in_err-name.ensures)

pub add-requires-clause-fresh : goal.add-requires-clause-fresh
add-requires-clause-fresh c = ((picture_of-read c.values.names (view c.value-item.result)).each _ c.in_ok-name.ensures).fresh

pub values-preserved : goal.values-preserved
values-preserved c =
    rw (c.in_ok-add.ensures, c.in_ok-push.ensures.items)
    record {
      many = length-append c.values.names (c.in_ok-name.name.now ∷ []) ∙ ap (λ n. n + 1) c.values.invariant.many;
      so_far =
          gathered-next view c.args.values.now c.values.value-index record { names = c.values.names; pictures = c.values.pictures.items } _ c.values.invariant.so_far c.value-item.result _
          c.values-test.true c.value-item.is c.in_ok-name.ensures;
    }

pub returns : goal.returns
returns c =
    gathered-end view c.args.values.now c.values.value-index record { names = c.values.names; pictures = c.values.pictures.items } _ c.values.invariant.so_far c.values-test.false
