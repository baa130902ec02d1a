use Rattle.gfx_video_paint.proofs.Cover.{paints-cover}
use Rattle.gfx_video_paint.proofs.laws.video_paints_cover.Goals as goal

pub returns : goal.returns
returns c = paints-cover
