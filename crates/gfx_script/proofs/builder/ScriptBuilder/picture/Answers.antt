use Rattle.gfx_script.specs.Building.{Building}
use Rattle.gfx_script.proofs.Builds.{picture_called}
use Rattle.gfx_script.proofs.builder.ScriptBuilder.picture.Goals as goal

pub invariant_of-self : goal.invariant_of-self
invariant_of-self c =
    let before : Building = record { head = c.self.inside.head; draft = c.self.inside.draft; turns = c.self.inside.turns.items } in
    picture_called before c.args.picture c.picture.result c.picture.new.self c.self.invariant c.picture.ensures.exact c.picture.ensures.unchanged
