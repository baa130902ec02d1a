use Rattle.std.proofs.Common.{refl, sym, subst}
use Rattle.gfx_session.specs.Live.{IsLive}
use Rattle.gfx_session.proofs.LiveForgetting.{ended_whole}
use Rattle.gfx_session.proofs.LiveLemmas.{as_before, ended_is, frame_feeds, frame_refused}
use Rattle.gfx_session.proofs.live_end.LiveEnd.end_frame.Goals as goal

pub returns-in-Ok-clause-feeds : goal.returns-in-Ok-clause-feeds
returns-in-Ok-clause-feeds c = (refl, frame_feeds c.args.self.now c.end_frame.new.self c.end_frame.new.draft c.in-Ok.ensures.ended c.end_frame.ensures.alone)

pub returns-in-Ok-clause-stands : goal.returns-in-Ok-clause-stands
returns-in-Ok-clause-stands c = ended_whole c.args.self.now c.end_frame.new.self c.end_frame.new.draft c.requires c.in-Ok.ensures.ended c.end_frame.ensures.alone

pub returns-in-Ok-clause-is : goal.returns-in-Ok-clause-is
returns-in-Ok-clause-is c = ended_is c.args.self.now c.end_frame.new.self c.end_frame.new.draft c.requires c.in-Ok.ensures.ended c.end_frame.ensures.alone

pub returns-in-Err-clause-feeds : goal.returns-in-Err-clause-feeds
returns-in-Err-clause-feeds c =
    rw c.into.ensures (frame_refused c.args.self.now (record { end = c.end_frame.new.self; draft = c.end_frame.new.draft }) c.in-Err.flaw (λ _. (c.end_frame.new.self.script, c.end_frame.new.draft)) c.in-Err.ensures.ended
    (as_before c.args.self.now c.end_frame.new.self c.end_frame.new.draft c.in-Err.ensures.unchanged c.in-Err.ensures.draft_unchanged))

pub returns-in-Err-clause-is : goal.returns-in-Err-clause-is
returns-in-Err-clause-is c = subst IsLive (sym (as_before c.args.self.now c.end_frame.new.self c.end_frame.new.draft c.in-Err.ensures.unchanged c.in-Err.ensures.draft_unchanged)) c.requires
