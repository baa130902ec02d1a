use Rattle.std.proofs.Common.{◌∙◌, ap}
use Rattle.gfx_script_text.specs.Pictures.{number_of}
use Rattle.gfx_script_text.proofs.NameLists.{place_found, place_none}
use Rattle.gfx_script_text.proofs.names.Names.number_of.Goals as goal

pub returns-in-Some : goal.returns-in-Some
returns-in-Some c =
    place_found (λ k. k.now) c.args.name.now c.self.inside.names.keys c.in-Some.at c.in-Some.ensures.index
    ∙ ap (λ names. number_of names c.args.name.now) c.self.view_is

pub returns-in-None : goal.returns-in-None
returns-in-None c =
    c.len.ensures.len ∙ place_none (λ k. k.now) c.args.name.now c.self.inside.names.keys c.in-None.ensures.index
    ∙ ap (λ names. number_of names c.args.name.now) c.self.view_is
