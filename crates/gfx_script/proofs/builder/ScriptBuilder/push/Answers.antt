use Rattle.gfx_script.specs.Building.{Building}
use Rattle.gfx_script.proofs.Builds.{step_called}
use Rattle.gfx_script.proofs.builder.ScriptBuilder.push.Goals as goal

pub invariant_of-self : goal.invariant_of-self
invariant_of-self c =
    let before : Building = record { head = c.self.inside.head; draft = c.self.inside.draft; turns = c.self.inside.turns.items } in
    step_called before c.args.step c.push.result c.push.new.self c.self.invariant c.push.ensures.exact c.push.ensures.unchanged
