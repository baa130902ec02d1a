use Rattle.std.proofs.Common.{◌∙◌, ap, sym, subst, arith}
use Rattle.std.specs.Prelude.{MatchBool}
use Rattle.gfx_tile_state.specs.Passes.{FitsOnto, LeavesKept, kept_in}
use Rattle.gfx_tile_state.proofs.Parts.{fits-blank}
use Rattle.gfx_tile_state.proofs.kept.Kept.fits_onto.Goals as goal

pub returns-then-self : goal.returns-then-self
returns-then-self c =
    fits-blank c.args.self.now c.args.plane.now (sym c.self.view_is ∙ ap (λ b. kept_in b c.self.inside.plane.items) c.if-self.true)
    (λ k h. c.requires k (omega arith))

pub returns : goal.returns
returns c =
    subst (λ l. MatchBool c.fits_onto.result (FitsOnto l c.args.plane.now) (LeavesKept l c.args.plane.now))
    (c.deref.ensures.value ∙ ap (λ b. kept_in b c.self.inside.plane.items) (sym c.if-self.false) ∙ c.self.view_is) c.fits_onto.ensures
