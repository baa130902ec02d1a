use Rattle.gfx_rfx_video.proofs.Painted.{sent-painted}
use Rattle.gfx_rfx_video.proofs.laws.video_messages_show_direct.Goals as goal

pub returns : goal.returns
returns c = sent-painted
