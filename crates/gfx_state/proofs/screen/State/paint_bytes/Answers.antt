use Rattle.std.proofs.Common.{sym, subst}
use Rattle.std.specs.Prelude.{IsSomeAnd, IsTrue}
use Rattle.std.specs.FinMap.{get}
use Rattle.gfx_base.specs.Geometry.{lies_in}
use Rattle.gfx_surface.specs.Picture.{raw_pixels}
use Rattle.gfx_state.specs.State.{State}
use Rattle.gfx_state.proofs.StreamLemmas.{room_overlaid}
use Rattle.gfx_state.proofs.screen.State.paint_bytes.Goals as goal

pub invariant_of-self : goal.invariant_of-self
invariant_of-self c =
    room_overlaid c.self.inside.surfaces c.put_bytes.new.self c.args.id c.args.rect (raw_pixels c.args.format c.args.payload.now) (λ picture. IsTrue (lies_in picture.width picture.height c.args.rect))
    (subst (λ (s : State). IsSomeAnd (get s.shown.surfaces c.args.id) (λ picture. IsTrue (lies_in picture.width picture.height c.args.rect))) (sym c.self.view_is) c.requires)
    c.put_bytes.ensures c.self.invariant
