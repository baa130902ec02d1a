use Rattle.std.proofs.Common.{arith}
use Rattle.gfx_session.proofs.server_end.serving.superseded.Goals as goal

pub returns : goal.returns
returns c = c.requires.left_out.each c.args.place (omega arith) c.requires.place
