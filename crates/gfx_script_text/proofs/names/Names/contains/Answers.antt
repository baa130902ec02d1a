use Rattle.std.proofs.Common.{◌∙◌, ap}
use Rattle.gfx_script_text.specs.Pictures.{is_named}
use Rattle.gfx_script_text.proofs.NameLists.{named_seen}
use Rattle.gfx_script_text.proofs.names.Names.contains.Goals as goal

pub returns : goal.returns
returns c =
    c.contains.ensures ∙ named_seen (λ k. k.now) c.args.name.now c.self.inside.names.keys
    ∙ ap (λ names. is_named names c.args.name.now) c.self.view_is
