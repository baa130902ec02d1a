use Rattle.std.proofs.lemmas.Result.{err_from_is_err_and}
use Rattle.gfx_fragments.specs.Found.{fragmented}
use Rattle.gfx_fragments.specs.Turns.{IsCutting, HasCut, RefusesCut}
use Rattle.gfx_fragments.proofs.TurnLemmas.{goes_on, more_follows}
use Rattle.gfx_fragments.proofs.fragmenting.cut_all.Goals as goal

pub messages-init : goal.messages-init
messages-init g c = λ bytes before held start. start

pub returns-in_err-taken : goal.returns-in_err-taken
returns-in_err-taken g c = λ bytes before held start.
    let p = err_from_is_err_and c.from_residual.result c.from_residual.ensures.1 in
    rw (p.1, p.2) (c.in_err-taken.ensures.turns bytes before held (c.messages.invariant bytes before held start))

pub returns-in-Some : goal.returns-in-Some
returns-in-Some g c = λ bytes before held start.
    rw c.in-Some.is at (c.in_ok-taken.ensures.turns bytes before held (c.messages.invariant bytes before held start))

pub messages-preserved : goal.messages-preserved
messages-preserved g c = λ bytes before held start.
    goes_on IsCutting HasCut RefusesCut (fragmented bytes).text c.in_ok-taken.field-0 c.cut_next.new.taker bytes _ c.in_default.not-Some
    (c.in_ok-taken.ensures.turns bytes before held (c.messages.invariant bytes before held start))

pub messages-smaller : goal.messages-smaller
messages-smaller g c = c.in_ok-taken.ensures.fewer (more_follows c.in_ok-taken.field-0 c.in_default.not-Some)
