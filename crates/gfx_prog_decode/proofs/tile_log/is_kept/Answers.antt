use Rattle.std.proofs.Common.{◌<◌, ◌∙◌, length, sym, arith}
use Rattle.std.proofs.lemmas.List.Folds.{list_any_at}
use Rattle.gfx_prog_decode.specs.Undo.{is_saved_of}
use Rattle.gfx_prog_decode.proofs.tile_log.is_kept.Goals as goal

pub returns-then-place-log : goal.returns-then-place-log
returns-then-place-log c same =
    let below : c.args.place < length c.args.log.now = omega (arith, c.if-place-log.true) in
    list_any_at (is_saved_of c.args.key) c.args.log.now c.args.place c.index-log-place.result below (sym c.is_same.ensures ∙ same)
