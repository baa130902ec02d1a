use Rattle.std.proofs.lemmas.Result.{err_from_is_err_and}
use Rattle.gfx_fragments.specs.Found.{fragmented}
use Rattle.gfxpipe.proofs.Working.{worked_off, broke_off}
use Rattle.gfxpipe.proofs.fragments.fragment.Goals as goal

pub returns-in_err-ended : goal.returns-in_err-ended
returns-in_err-ended g c =
    let p = err_from_is_err_and c.from_residual.result c.from_residual.ensures.1 in
    rw (p.1, p.2) (broke_off fragmented c.in_err-ended.field-0.0 c.args.limit _ _ c.in_err-ended.ensures)

pub returns : goal.returns
returns g c = rw c.ending_as.ensures (worked_off fragmented c.in_ok-ended.ended c.args.limit _ _ c.in_ok-ended.ensures)
