use Rattle.gfx_script.specs.Building.{Building}
use Rattle.gfx_script.proofs.Builds.{paint_called}
use Rattle.gfx_script.proofs.builder.ScriptBuilder.paint.Goals as goal

pub invariant_of-self : goal.invariant_of-self
invariant_of-self c =
    let before : Building = record { head = c.self.inside.head; draft = c.self.inside.draft; turns = c.self.inside.turns.items } in
    paint_called before c.args.picture c.args.id c.args.at c.args.kind c.args.glyph c.paint.result c.paint.new.self c.self.invariant c.paint.ensures.exact c.paint.ensures.unchanged
