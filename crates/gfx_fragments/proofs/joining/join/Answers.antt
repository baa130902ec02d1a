use Rattle.std.proofs.lemmas.Result.{err_from_is_err_and}
use Rattle.gfx_fragments.specs.Found.{joined}
use Rattle.gfx_fragments.specs.Turns.{HasJoined, RefusesJoin}
use Rattle.gfx_fragments.proofs.CuttingTurns.{taken_refused}
use Rattle.gfx_fragments.proofs.JoiningTurns.{joined_nothing, joined_whole}
use Rattle.gfx_fragments.proofs.EndLemmas.{broke_off, finished}
use Rattle.gfx_fragments.proofs.FoundLemmas.{joins_found}
use Rattle.gfx_fragments.proofs.joining.join.Goals as goal

pub read_input-requires-clause-start : goal.read_input-requires-clause-start
read_input-requires-clause-start g c = joined_nothing _ c.new-taker.ensures.pending c.new-taker.ensures.joiner c.new-taker.ensures.number c.new-taker.ensures.refusal

pub read_input-requires-clause-silent : goal.read_input-requires-clause-silent
read_input-requires-clause-silent g c = joins_found.silent

pub returns-in_err-read : goal.returns-in_err-read
returns-in_err-read g c =
    let p = err_from_is_err_and c.from_residual.result c.from_residual.ensures.1 in
    rw (p.1, p.2) (broke_off HasJoined RefusesJoin joined joins_found c.in_err-read.field-0.0 c.args.limit _ _ c.read_input.new.taker c.in_err-read.ensures)

pub returns : goal.returns
returns g c =
    rw c.ended_by.ensures (finished HasJoined RefusesJoin joined joins_found c.in_ok-read.read c.read_input.new.taker.number c.refusal_of-refusal.result c.args.limit _ _ c.read_input.new.taker
    (λ bytes h. joined_whole c.read_input.new.taker c.refusal_of-refusal.result bytes c.refusal_of-refusal.ensures.last h)
    (λ bytes h. taken_refused joined c.read_input.new.taker.number c.read_input.new.taker.refusal c.refusal_of-refusal.result bytes c.refusal_of-refusal.ensures.kept h)
    c.in_ok-read.ensures)
