use Rattle.gfx_rfx_video.proofs.ReadBack.{sent-read}
use Rattle.gfx_rfx_video.proofs.laws.video_messages_are_read.Goals as goal

pub returns : goal.returns
returns c = sent-read
