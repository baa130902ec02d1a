use Rattle.gfx_laws.proofs.VideoPainted.{video-shows}
use Rattle.gfx_laws.proofs.seen.video_paints_show_their_source.Goals as goal

pub returns : goal.returns
returns c = video-shows
