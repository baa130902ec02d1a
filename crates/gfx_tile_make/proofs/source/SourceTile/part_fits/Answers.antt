use Rattle.std.proofs.Common.{◌∙◌, ap, length, subst, sym}
use Rattle.std.specs.Prelude.{MatchBool}
use Rattle.gfx_tile_make.specs.Levels.{ComponentFits, ComponentLeaves}
use Rattle.gfx_tile_make.specs.Source.{Planes, SourceTile, difference_of, planes_of}
use Rattle.gfx_tile_make.proofs.Settings.{within-all}
use Rattle.gfx_tile_make.proofs.Sources.{component-fits}
use Rattle.gfx_tile_make.proofs.source.SourceTile.part_fits.Goals as goal

pub levels_fit-requires-clause-high : goal.levels_fit-requires-clause-high
levels_fit-requires-clause-high c = λ i listed.
    rw (c.base_of.ensures, c.as_slice.ensures.value) (within-all c.self.inside.setting c.args.component i c.self.invariant.accepted)

pub returns : goal.returns
returns c =
    let component = c.args.component in
    let inside : SourceTile = record { setting = c.self.inside.setting; y = c.self.inside.y; cb = c.self.inside.cb; cr = c.self.inside.cr; difference = c.self.inside.difference } in
    let own = c.own.ensures.value ∙ ap (λ (p : Planes). p.own) (c.part.ensures ∙ ap (λ s. planes_of s component) (sym c.self.view_is)) in
    let other = c.own-2.ensures.value ∙ ap (λ (p : Planes). p.own) c.part-2.ensures in
    subst (λ s. MatchBool c.levels_fit.result (ComponentFits (difference_of s c.args.kept.now) component) (ComponentLeaves (difference_of s c.args.kept.now) component)) c.self.view_is
    (component-fits inside c.args.kept.now component c.levels_fit.result (ap length (sym own) ∙ c.own.ensures.whole) (ap length (sym other) ∙ c.own-2.ensures.whole)
    (rw (c.base_of.ensures, c.as_slice.ensures.value, own, other) at c.levels_fit.ensures))
