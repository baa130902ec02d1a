use Rattle.gfx_session.proofs.LiveLemmas.{behind_within}
use Rattle.gfx_session.proofs.live_end.LiveEnd.frames_behind.Goals as goal

pub frames_behind-requires : goal.frames_behind-requires
frames_behind-requires c = record { within = λ fresh. behind_within c.args.self.now c.requires fresh }
