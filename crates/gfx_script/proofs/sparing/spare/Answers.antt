use Rattle.std.proofs.Common.{ap, sym, ◌∙◌, arith}
use Rattle.gfx_script.specs.Sparing.{forgotten_at}
use Rattle.gfx_script.proofs.SparedPictures.{all_spared, one_kept, one_spared}
use Rattle.gfx_script.proofs.sparing.spare.Goals.{then-not-keeps, else-not-keeps}
use Rattle.gfx_script.proofs.sparing.spare.Goals as goal

pub pictures-preserved : goal.pictures-preserved
pictures-preserved c = elim c.if-not-keeps.branch [
  | then-not-keeps w ↦
      rw w.pictures-is (w.forget_at.ensures ∙ ap (λ pictures. forgotten_at pictures c.pictures.place) c.pictures.invariant
      ∙ one_spared c.pictures.place c.args.first c.args.marks.now c.args.pictures.now.items (sym c.keeps.ensures ∙ w.if-not-keeps.true))
  | else-not-keeps w ↦
      rw w.pictures-is (c.pictures.invariant ∙ one_kept c.pictures.place c.args.first c.args.marks.now c.args.pictures.now.items (sym c.keeps.ensures ∙ w.if-not-keeps.false))
]

pub returns : goal.returns
returns c = c.pictures.invariant ∙ all_spared c.args.first c.args.marks.now c.args.pictures.now.items c.pictures.place (omega (arith, c.pictures-test.false, c.pictures.auto.place-end, c.len-place-end.ensures))
