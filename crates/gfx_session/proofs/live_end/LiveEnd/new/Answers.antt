use Rattle.std.proofs.Common.{[], ap, refl, subst, ◌∙◌}
use Rattle.gfx_schedule.specs.ServerEnd.{server_at_start}
use Rattle.gfx_script.specs.Checks.{held_first, sides_of_all}
use Rattle.gfx_script.specs.Drafts.{nothing_drafted}
use Rattle.gfx_script.specs.Heads.{script_from}
use Rattle.gfx_script.specs.Scripted.{Script}
use Rattle.gfx_script.specs.Starting.{stock_with}
use Rattle.gfx_session.specs.Kept.{IsServerEndFrom}
use Rattle.gfx_session.proofs.LiveForgetting.{begun_whole}
use Rattle.gfx_session.proofs.LiveLemmas.{begun_live, begun_stands}
use Rattle.gfx_session.proofs.live_end.LiveEnd.new.Goals as goal

pub returns-clause-stands : goal.returns-clause-stands
returns-clause-stands c =
    begun_whole c.in_ok-end.end (script_from c.args.head []) (server_at_start (script_from c.args.head []) [])
    (begun_stands c.in_ok-end.end c.script.result (script_from c.args.head []) server_at_start c.script.ensures.script refl c.in_ok-end.ensures.stands)
    (c.in_ok-end.ensures.is.1 ∙ c.script.ensures.script) refl

pub returns-clause-is : goal.returns-clause-is
returns-clause-is c =
    begun_live (record { end = c.in_ok-end.end; draft = c.in_ok-draft.draft }) c.script.result c.args.head [] c.script.ensures.script c.in_ok-end.ensures.is.1
    (subst (λ (s : Script). IsServerEndFrom (held_first (sides_of_all s.pictures) s.small) c.in_ok-end.end) c.script.ensures.script c.in_ok-end.ensures.is.0)
    (c.in_ok-draft.ensures ∙ ap (λ b. nothing_drafted (stock_with [] b)) c.small.ensures)
