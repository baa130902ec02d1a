use Rattle.std.proofs.Common.{arith}
use Rattle.gfx_generator.specs.Rounds.{round, round_text}
use Rattle.gfx_generator.proofs.Severals.{Left_all, Left_next, Left_none}
use Rattle.gfx_generator.proofs.rounds.put_rounds.Goals as goal

pub rounds-init : goal.rounds-init
rounds-init c = Left_all round_text round _ _ _ _ (omega arith)

pub rounds-preserved : goal.rounds-preserved
rounds-preserved c =
    let line = rw (c.as_slice.ensures, c.round_text.ensures, c.draw_round-round.ensures.value) at c.in_ok-append.ensures.ok in
    Left_next round_text round _ _ _ _ _ _ _ _ (omega arith) c.draw_round-round.ensures.state line c.rounds.invariant

pub returns-clause-text : goal.returns-clause-text
returns-clause-text c = (Left_none round_text round _ _ _ _ _ _ (omega arith) c.rounds.invariant).0

pub returns-clause-state : goal.returns-clause-state
returns-clause-state c = (Left_none round_text round _ _ _ _ _ _ (omega arith) c.rounds.invariant).1
