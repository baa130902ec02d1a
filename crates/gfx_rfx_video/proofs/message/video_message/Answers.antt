use Rattle.gfx_rfx_video.proofs.Lengthy.{length-data, short-data}
use Rattle.gfx_rfx_video.proofs.message.video_message.Goals as goal

pub returns-clause-short : goal.returns-clause-short
returns-clause-short c =
    short-data c.write_message.result _ _ c.write_message.ensures.data c.write_message.ensures.tiles
    (length-data c.args.setting.now c.args.mode c.args.width c.args.height c.as_slice.result.now c.args.index (rw c.as_slice.ensures c.requires.few))
