use Rattle.gfx_video_paint.proofs.Groups.{payloads-show}
use Rattle.gfx_video_paint.proofs.laws.video_payloads_show.Goals as goal

pub returns : goal.returns
returns c = payloads-show
