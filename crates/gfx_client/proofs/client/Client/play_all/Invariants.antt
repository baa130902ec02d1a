use Rattle.std.proofs.Common.{◌≡◌, None}
use Rattle.gfx_state.specs.Cursor.{settled}
use Rattle.gfx_state.proofs.Weights.{weight}
use Rattle.gfx_client.specs.Client.{cursor_of, closed_by, is_living, offers_of}
use Rattle.gfx_client.proofs.Noting.{due_damage}
use Rattle.gfx_client.proofs.client.Client.play_all.Given as goal

abbrev pub invariant-steps : goal.invariant-steps
invariant-steps l =
    (settled (cursor_of l.self) ≡ settled (cursor_of l.fn.self)) × (closed_by l.self ≡ None) × (offers_of l.self ≡ offers_of l.fn.self)
    × (due_damage l.self ≡ due_damage l.fn.self) × (is_living l.self ≡ is_living l.fn.self)

abbrev pub decreases-steps : goal.decreases-steps
decreases-steps l = weight (cursor_of l.self)
