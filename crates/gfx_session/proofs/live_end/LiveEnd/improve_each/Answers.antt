use Rattle.std.proofs.Common.{refl, sym, subst, ◌∙◌}
use Rattle.gfx_session.specs.Live.{IsLive, frame_fed}
use Rattle.gfx_session.proofs.LiveImproving.{failed_as_before, feeds_taken_back, improved_live, improved_stands, improvements_feed, improvements_refused, taken_back}
use Rattle.gfx_session.proofs.LiveLemmas.{as_before}
use Rattle.gfx_session.proofs.live_end.LiveEnd.improve_each.Goals as goal

pub returns-in-Err-clause-feeds : goal.returns-in-Err-clause-feeds
returns-in-Err-clause-feeds c =
    rw c.into.ensures (improvements_refused (λ (x : Unit {0}). c.improve_all.new.self) c.in-Err.flaw c.args.self.now (record c.args.self.now { draft = c.improve_all.new.self }) c.args.ids.now c.in-Err.ensures.exact
    (as_before c.args.self.now c.args.self.now.end c.improve_all.new.self refl c.in-Err.ensures.unchanged))

pub returns-in-Err-clause-is : goal.returns-in-Err-clause-is
returns-in-Err-clause-is c = subst IsLive (sym (as_before c.args.self.now c.args.self.now.end c.improve_all.new.self refl c.in-Err.ensures.unchanged)) c.requires.live

pub end_frame-requires : goal.end_frame-requires
end_frame-requires c = improved_live c.args.self.now c.improve_all.new.self c.args.ids.now c.requires.live c.in_default.ensures.exact

pub returns-in-Ok-clause-feeds : goal.returns-in-Ok-clause-feeds
returns-in-Ok-clause-feeds c = (refl, improvements_feed c.args.self.now c.improve_all.new.self c.args.ids.now c.in_default.ensures.exact ∙ c.in-Ok.ensures.feeds.1)

pub returns-in-Ok-clause-stands : goal.returns-in-Ok-clause-stands
returns-in-Ok-clause-stands c = improved_stands c.args.self.now c.improve_all.new.self c.args.ids.now c.end_frame.new.self.end c.requires.bare c.in_default.ensures.exact c.in-Ok.ensures.stands

pub returns-in-Err-end_frame-clause-feeds : goal.returns-in-Err-end_frame-clause-feeds
returns-in-Err-end_frame-clause-feeds c =
    let failed = failed_as_before c.in-Err-end_frame.fault _ (record c.args.self.now { draft = c.improve_all.new.self }) c.end_frame.new.self c.in-Err-end_frame.ensures.feeds in
    feeds_taken_back c.in-Err-end_frame.fault c.args.self.now (record c.args.self.now { draft = c.improve_all.new.self }) c.end_frame.new.self (record { end = c.end_frame.new.self.end; draft = c.take_steps_back.new.self })
    (frame_fed (record c.args.self.now { draft = c.improve_all.new.self })) _ c.in-Err-end_frame.ensures.feeds
    (improvements_feed c.args.self.now c.improve_all.new.self c.args.ids.now c.in_default.ensures.exact)
    (taken_back c.args.self.now c.improve_all.new.self c.args.ids.now c.end_frame.new.self (record { end = c.end_frame.new.self.end; draft = c.take_steps_back.new.self }) c.in_default.ensures.exact c.requires.bare failed refl c.take_steps_back.ensures)

pub returns-in-Err-end_frame-clause-is : goal.returns-in-Err-end_frame-clause-is
returns-in-Err-end_frame-clause-is c =
    let failed = failed_as_before c.in-Err-end_frame.fault _ (record c.args.self.now { draft = c.improve_all.new.self }) c.end_frame.new.self c.in-Err-end_frame.ensures.feeds in
    subst IsLive
    (sym (taken_back c.args.self.now c.improve_all.new.self c.args.ids.now c.end_frame.new.self (record { end = c.end_frame.new.self.end; draft = c.take_steps_back.new.self }) c.in_default.ensures.exact c.requires.bare failed refl c.take_steps_back.ensures))
    c.requires.live
