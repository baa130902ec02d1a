use Rattle.gfxpipe.proofs.Shown.{encode_then_render}
use Rattle.gfxpipe.proofs.laws.render_shows_what_encode_wrote.Goals as goal

pub returns : goal.returns
returns c = encode_then_render
