use Rattle.gfx_surface_map.specs.Composed.{pixel_bytes}
use Rattle.gfx_surface_map.proofs.BytesLemmas.{put_none, put_more, bytes_cut}
use Rattle.gfx_surface_map.proofs.pixel_bytes.append_pixels.Goals as goal

pub pieces-init : goal.pieces-init
pieces-init c = put_none _ _

pub pieces-preserved : goal.pieces-preserved
pieces-preserved c =
    put_more _ _ _ _ _ _ _ c.in_ok-append_piece.ensures.ok (bytes_cut pixel_bytes _ _ _ _ c.split_at.ensures.front c.split_at.ensures.back) c.pieces.invariant
