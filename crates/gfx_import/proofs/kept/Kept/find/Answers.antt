use Rattle.std.proofs.Common.{◌∙◌, ap}
use Rattle.gfx_import.specs.Entries.{image_at}
use Rattle.gfx_import.proofs.KeptLemmas.{image-found, found-small}
use Rattle.gfx_import.proofs.kept.Kept.find.Goals as goal

pub returns-clause-found : goal.returns-clause-found
returns-clause-found c =
    image-found c.get.result c.self.inside.bitmaps.entries c.args.key c.get.ensures.value
    ∙ ap (λ z. image_at z c.args.key) c.self.view_is

pub returns-clause-few : goal.returns-clause-few
returns-clause-few c = found-small c.get.result c.self.inside.bitmaps.entries c.args.key c.self.invariant.each c.get.ensures.value
