use Rattle.std.proofs.Common.{◌≡◌, None}
use Rattle.gfx_client.specs.Client.{cursor_of, closed_by, offers_of}
use Rattle.gfx_state.specs.Cursor.{settled}
use Rattle.gfx_state.proofs.Weights.{weight}
use Rattle.gfx_session.specs.Drawing.{Draws}
use Rattle.gfx_session.proofs.drawing.draw_all.Given as goal

abbrev pub invariant-steps : goal.invariant-steps
invariant-steps l =
    (settled (cursor_of l.client) ≡ settled (cursor_of l.fn.client)) × (closed_by l.client ≡ None)
    × (Draws l.digests l.fn.client l.client l.fn.up l.up l.fn.drawn.items l.drawn.items × (offers_of l.client ≡ offers_of l.fn.client))

abbrev pub decreases-steps : goal.decreases-steps
decreases-steps l = weight (cursor_of l.client)
