use Rattle.std.proofs.Common.{length, ap, sym, ◌∙◌, arith}
use Rattle.gfx_script.specs.Scripted.{Script}
use Rattle.gfx_session.proofs.LiveForgetting.{forgotten_live_as, spared_live}
use Rattle.gfx_session.proofs.LiveLemmas.{behind_within, pictures_behind}
use Rattle.gfx_session.proofs.live_end.LiveEnd.forget.Goals as goal

pub forget_pictures-requires : goal.forget_pictures-requires
forget_pictures-requires c =
    omega (arith, c.picture_count-count.ensures, ap (λ (s : Script). length s.pictures) c.script.ensures, pictures_behind c.args.self.now c.requires.live)

pub returns-then-has_sent_all-clause-is : goal.returns-then-has_sent_all-clause-is
returns-then-has_sent_all-clause-is c =
    forgotten_live_as c.args.self.now c.picture_count-count.result c.forget_script.new.self c.forget_pictures.new.self c.requires.live (sym c.has_sent_all.ensures ∙ c.if-has_sent_all.true)
    (c.picture_count-count.ensures ∙ ap (λ (s : Script). length s.pictures) c.script.ensures) c.forget_script.ensures c.forget_pictures.ensures

pub spare_waiting-requires-clause-waiting : goal.spare_waiting-requires-clause-waiting
spare_waiting-requires-clause-waiting c = (behind_within c.args.self.now c.requires.live c.requires.fresh).0

pub returns-else-has_sent_all-clause-is : goal.returns-else-has_sent_all-clause-is
returns-else-has_sent_all-clause-is c = spared_live c.args.waited c.args.self.now c.spare_waiting.new.self c.requires.live c.spare_waiting.ensures
