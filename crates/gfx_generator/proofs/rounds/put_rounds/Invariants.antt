use Rattle.std.proofs.Common.{◌-◌}
use Rattle.gfx_generator.specs.Rounds.{round, round_text}
use Rattle.gfx_generator.proofs.Severals.{Left}
use Rattle.gfx_generator.proofs.rounds.put_rounds.Given as goal

abbrev pub invariant-rounds : goal.invariant-rounds
invariant-rounds l = Left round_text round (l.count - l.counter) l.count l.generator l.fn.generator l.text l.fn.text
