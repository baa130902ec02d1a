use Rattle.std.proofs.Common.{Ok, Err, refl}
use Rattle.gfx_base.specs.declared.answer.Cause.TheVariants as cause
use Rattle.gfx_client.proofs.ClientLemmas.{closing}
use Rattle.gfx_client.specs.Client.{closed_by}
use Rattle.gfx_client.proofs.Bringing.{brings_said, brings_refused, brings_none}
use Rattle.gfx_client.proofs.Playing.{stands_on, stands_advanced}
use Rattle.gfx_client.proofs.client.Client.step.Goals as goal

pub returns-in-Ok-clause-stands : goal.returns-in-Ok-clause-stands
returns-in-Ok-clause-stands c = λ origin bytes s. stands_on c.args.self.now c.advance.new.self bytes (stands_advanced (Ok c.in-Ok.stepped) c.args.self.now c.advance.new.self c.in-Ok.ensures.advances) s

pub returns-in-Err-Refused-clause-steps : goal.returns-in-Err-Refused-clause-steps
returns-in-Err-Refused-clause-steps c =
    let ends = rw c.in-Err-Refused.field-0-is at c.in-Err-Refused.ensures.advances in
    closing c.args.self.now c.advance.new.self c.in-Err-Refused.refusal _ c.in_default.is ends.0 c.saturating_add-number.ensures

pub returns-in-Err-Refused-clause-stands : goal.returns-in-Err-Refused-clause-stands
returns-in-Err-Refused-clause-stands c =
    let ends = rw c.in-Err-Refused.field-0-is at c.in-Err-Refused.ensures.advances in
    λ origin bytes s. stands_on c.args.self.now _ bytes ends.0.run s

pub returns-in-Err-Memory-clause-stands : goal.returns-in-Err-Memory-clause-stands
returns-in-Err-Memory-clause-stands c =
    let moves = rw c.in-Err-Memory.field-0-is at c.in-Err-Memory.ensures.advances in
    λ origin bytes s. stands_on c.args.self.now _ bytes (stands_advanced (Err cause.Memory) c.args.self.now c.advance.new.self moves) s

pub returns-in-Ok-clause-brings : goal.returns-in-Ok-clause-brings
returns-in-Ok-clause-brings c = λ origin bytes all b. brings_said (closed_by c.args.self.now) c.args.self.now c.advance.new.self c.in-Ok.stepped bytes all c.in_default.is c.in-Ok.ensures.advances b

pub returns-in-Err-Refused-clause-brings : goal.returns-in-Err-Refused-clause-brings
returns-in-Err-Refused-clause-brings c =
    let ends = rw c.in-Err-Refused.field-0-is at c.in-Err-Refused.ensures.advances in
    λ origin bytes all b. brings_refused (closed_by c.args.self.now) c.args.self.now c.advance.new.self _ _ _ bytes all c.in_default.is ends.0 b

pub returns-in-Err-Memory-clause-brings : goal.returns-in-Err-Memory-clause-brings
returns-in-Err-Memory-clause-brings c =
    let moves = rw c.in-Err-Memory.field-0-is at c.in-Err-Memory.ensures.advances in
    λ origin bytes all b. brings_none (closed_by c.args.self.now) c.args.self.now c.advance.new.self _ bytes all c.in_default.is moves.0 refl b

pub returns-in-Err-Memory-clause-memory : goal.returns-in-Err-Memory-clause-memory
returns-in-Err-Memory-clause-memory c = λ not_closed. rw c.in-Err-Memory.field-0-is at c.in-Err-Memory.ensures.memory
