use Rattle.gfx_video_paint.proofs.Groups.{payloads-short}
use Rattle.gfx_video_paint.proofs.laws.video_payloads_are_short.Goals as goal

pub returns : goal.returns
returns c = payloads-short
