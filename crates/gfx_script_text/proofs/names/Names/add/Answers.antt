use Rattle.gfx_script_text.proofs.NameLists.{name_added}
use Rattle.gfx_script_text.proofs.names.Names.add.Goals as goal

pub returns : goal.returns
returns c = name_added (λ k. k.now) c.args.name c.self.inside.names.keys c.insert.new.self.keys c.args.self.now c.in_ok-insert.ensures.keys c.self.view_is c.requires.fresh
