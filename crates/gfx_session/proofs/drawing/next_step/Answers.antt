use Rattle.std.proofs.Common.{Option, Ok, subst}
use Rattle.gfx_client.specs.Standing.{Brings}
use Rattle.gfx_client.specs.declared.fault.ClientFault.{ClientFault}
use Rattle.gfx_session.proofs.DrawnSteps.{memory_alone}
use Rattle.gfx_session.proofs.drawing.next_step.Goals as goal

pub only_memory-requires : goal.only_memory-requires
only_memory-requires c = memory_alone c.in-Err.fault c.args.client.now c.step.new.self c.requires.open c.requires.good c.in-Err.ensures.steps

pub returns-in-Ok-clause-brings : goal.returns-in-Ok-clause-brings
returns-in-Ok-clause-brings c = λ origin bytes all b. subst (λ (z : Option ClientFault). Brings origin z (Ok c.in-Ok.stepped) c.step.new.self bytes all) c.requires.open (c.in-Ok.ensures.brings origin bytes all b)
