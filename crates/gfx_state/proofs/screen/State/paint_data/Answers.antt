use Rattle.std.proofs.Common.{Some, ap, sym, ◌∙◌}
use Rattle.gfx_state.proofs.StreamLemmas.{stream_wants, video_wants}
use Rattle.gfx_state.proofs.screen.State.paint_data.Goals as goal

pub returns-in-ClearCodec-clause-memory : goal.returns-in-ClearCodec-clause-memory
returns-in-ClearCodec-clause-memory c =
    stream_wants c.paint_stream.result c.args.codec (sym c.from_id.ensures ∙ c.in-Some-from_id.is ∙ ap Some c.in-ClearCodec.is)

pub returns-in-Video-clause-memory : goal.returns-in-Video-clause-memory
returns-in-Video-clause-memory c =
    video_wants c.paint_video.result c.args.codec (sym c.from_id.ensures ∙ c.in-Some-from_id.is ∙ ap Some c.in-Video.is)
