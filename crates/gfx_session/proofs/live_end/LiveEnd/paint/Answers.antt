use Rattle.std.proofs.Common.{Err, refl, sym, subst, ◌∙◌}
use Rattle.gfx_script.proofs.Drafting.{paint_goes_on}
use Rattle.gfx_script.proofs.OwnPictures.{own_painted}
use Rattle.gfx_session.specs.Live.{IsLive, fault_of_flaw}
use Rattle.gfx_session.proofs.LiveLemmas.{as_before, drafted_live, feeds_as, paint_feeds, paint_refused, pictures_behind}
use Rattle.gfx_session.proofs.live_end.LiveEnd.paint.Goals as goal

pub returns-in-Ok-clause-is : goal.returns-in-Ok-clause-is
returns-in-Ok-clause-is c =
    drafted_live c.args.self.now c.paint.new.self c.requires (λ from count goes. paint_goes_on from count c.args.self.now.draft c.args.picture c.args.id c.args.at c.args.kind c.args.glyph c.paint.new.self goes c.in-Ok.ensures.exact)
    (own_painted _ c.args.self.now.draft c.paint.new.self c.args.picture c.args.id c.args.at c.args.kind c.args.glyph c.in-Ok.ensures.exact (pictures_behind c.args.self.now c.requires) c.requires.own)

pub returns-in-Err-clause-is : goal.returns-in-Err-clause-is
returns-in-Err-clause-is c = subst IsLive (sym (as_before c.args.self.now c.args.self.now.end c.paint.new.self refl c.in-Err.ensures.unchanged)) c.requires

pub returns-in-Ok-clause-feeds : goal.returns-in-Ok-clause-feeds
returns-in-Ok-clause-feeds c =
    (sym c.has_last_place_alone.ensures ∙ c.if-has_last_place_alone.false, paint_feeds c.args.self.now c.paint.new.self c.args.picture c.args.id c.args.at c.args.kind c.args.glyph c.in-Ok.ensures.exact)

pub returns-in-Err-clause-feeds : goal.returns-in-Err-clause-feeds
returns-in-Err-clause-feeds c =
    rw c.into.ensures
    (feeds_as (Err (fault_of_flaw c.in-Err.flaw)) _ _ _ c.args.self.now (record c.args.self.now { draft = c.paint.new.self }) (sym c.has_last_place_alone.ensures ∙ c.if-has_last_place_alone.false) refl
    (paint_refused c.args.self.now (record c.args.self.now { draft = c.paint.new.self }) c.args.picture c.args.id c.args.at c.args.kind c.args.glyph c.in-Err.flaw (λ _. c.paint.new.self) c.in-Err.ensures.exact
    (as_before c.args.self.now c.args.self.now.end c.paint.new.self refl c.in-Err.ensures.unchanged)))
