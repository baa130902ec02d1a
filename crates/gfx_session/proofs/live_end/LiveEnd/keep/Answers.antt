use Rattle.std.proofs.Common.{refl, sym, subst}
use Rattle.gfx_session.specs.Live.{IsLive}
use Rattle.gfx_script.proofs.Drafting.{step_goes_on}
use Rattle.gfx_script.proofs.OwnPictures.{own_pushed}
use Rattle.gfx_session.proofs.LiveLemmas.{as_before, drafted_live, step_feeds, step_refused}
use Rattle.gfx_session.proofs.live_end.LiveEnd.keep.Goals as goal

pub returns-in-Ok-clause-feeds : goal.returns-in-Ok-clause-feeds
returns-in-Ok-clause-feeds c = (refl, step_feeds c.args.self.now c.push.new.self c.args.step c.in-Ok.ensures.exact)

pub returns-in-Ok-clause-is : goal.returns-in-Ok-clause-is
returns-in-Ok-clause-is c = drafted_live c.args.self.now c.push.new.self c.requires.live (λ from count goes. step_goes_on from count c.args.self.now.draft c.args.step c.push.new.self goes c.in-Ok.ensures.exact)
    (own_pushed _ c.args.self.now.draft c.push.new.self c.args.step c.in-Ok.ensures.exact c.requires.bare c.requires.live.own)

pub returns-in-Err-clause-feeds : goal.returns-in-Err-clause-feeds
returns-in-Err-clause-feeds c =
    rw c.into.ensures (step_refused c.args.self.now (record c.args.self.now { draft = c.push.new.self }) c.args.step c.in-Err.flaw (λ _. c.push.new.self) c.in-Err.ensures.exact
    (as_before c.args.self.now c.args.self.now.end c.push.new.self refl c.in-Err.ensures.unchanged))

pub returns-in-Err-clause-is : goal.returns-in-Err-clause-is
returns-in-Err-clause-is c = subst IsLive (sym (as_before c.args.self.now c.args.self.now.end c.push.new.self refl c.in-Err.ensures.unchanged)) c.requires.live
