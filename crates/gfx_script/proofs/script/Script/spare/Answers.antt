use Rattle.std.proofs.Common.{◌≡◌, ◌+◌, ◌++◌, replicate, ap, sym, ◌∙◌, arith, List}
use Rattle.gfx_script.specs.Forgetting.{blank}
use Rattle.gfx_script.specs.Sparing.{spared_from}
use Rattle.gfx_script.specs.declared.picture.Picture.{Picture}
use Rattle.gfx_script.proofs.SparedPictures.{spared_behind}
use Rattle.gfx_script.proofs.script.Script.spare.Goals as goal

pub returns : goal.returns
returns c =
    let first : c.self.inside.forgotten_pictures ≡ 0 + c.self.inside.forgotten_pictures = omega arith in
    let same : replicate c.self.inside.forgotten_pictures blank ++ c.spare.new.pictures.items ≡ spared_from 0 c.args.marks.now (replicate c.self.inside.forgotten_pictures blank ++ c.self.inside.pictures.items) =
    ap (λ (others : List Picture). replicate c.self.inside.forgotten_pictures blank ++ others) (c.spare.ensures ∙ ap (λ n. spared_from n c.args.marks.now c.self.inside.pictures.items) first)
    ∙ sym (spared_behind c.args.marks.now 0 c.self.inside.forgotten_pictures c.self.inside.pictures.items) in
    rw (← c.self.view_is) (ap (λ (pictures : List Picture). record (Rattle.gfx_script.specs.contracts.script.Script.the_view c.self.inside) { pictures = pictures }) same)
