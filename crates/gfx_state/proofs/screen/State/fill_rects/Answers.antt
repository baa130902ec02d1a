use Rattle.std.proofs.Common.{◌≡◌, Some, sym, ap}
use Rattle.std.specs.FinMap.{get}
use Rattle.gfx_surface_map.specs.Shown.{SurfaceMap}
use Rattle.gfx_surface_map.proofs.PaintedLemmas.{painted-width, painted-height}
use Rattle.gfx_surface_map.proofs.RoomLemmas.{room_drawn}
use Rattle.gfx_state.proofs.screen.State.fill_rects.Goals as goal

pub invariant_of-self : goal.invariant_of-self
invariant_of-self c =
    let picture = c.in-Some.surface.now in
    let found : get c.self.inside.surfaces.shown.surfaces c.args.id ≡ Some picture = sym c.in-Some.ensures in
    let drawn = rw found at c.fill.ensures in
    room_drawn c.self.inside.surfaces c.fill.new.self c.args.id picture _ found
    (painted-width picture c.args.rects.now c.args.colour) (painted-height picture c.args.rects.now c.args.colour)
    (ap (λ (k : SurfaceMap). k.shown.surfaces) drawn) (ap (λ (k : SurfaceMap). k.room) drawn) c.self.invariant
