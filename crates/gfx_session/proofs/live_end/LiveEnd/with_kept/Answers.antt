use Rattle.std.proofs.Common.{List, [], ap, refl, subst, ◌∙◌}
use Rattle.gfx_caps.specs.Offers.{small_of}
use Rattle.gfx_import.specs.Imported.{imported}
use Rattle.gfx_schedule.specs.ServerEnd.{server_end_from}
use Rattle.gfx_schedule.specs.Starts.{from_kept}
use Rattle.gfx_script.specs.Drafts.{nothing_drafted}
use Rattle.gfx_script.specs.Heads.{script_from}
use Rattle.gfx_script.specs.Script.{held_at_start}
use Rattle.gfx_script.specs.Scripted.{Script}
use Rattle.gfx_script.specs.Starting.{stock_with, starts_of}
use Rattle.gfx_script.specs.declared.start.StartBitmap.{StartBitmap}
use Rattle.gfx_session.specs.Kept.{IsServerEndFrom}
use Rattle.gfx_session.specs.Live.{script_kept}
use Rattle.gfx_session.proofs.LiveForgetting.{begun_whole}
use Rattle.gfx_session.proofs.LiveLemmas.{begun_live, begun_stands}
use Rattle.gfx_session.proofs.live_end.LiveEnd.with_kept.Goals as goal

pub returns-clause-stands : goal.returns-clause-stands
returns-clause-stands c =
    let items = c.in_ok-start.ensures.all ∙ ap (λ b. starts_of (imported c.args.server.now c.args.client.now b)) c.small-small.ensures in
    let script : Script = script_kept c.args.head c.args.server.now c.args.client.now in
    let is = c.script_with-script.ensures.script ∙ ap (script_from c.args.head) items in
    begun_whole c.in_ok-end.end script (server_end_from (from_kept script c.args.server.now c.args.client.now) script [])
    (begun_stands c.in_ok-end.end c.script_with-script.result script (λ script kinded. server_end_from (from_kept script c.args.server.now c.args.client.now) script kinded) is refl c.in_ok-end.ensures.stands)
    (c.in_ok-end.ensures.is.1 ∙ is) refl

pub returns-clause-is : goal.returns-clause-is
returns-clause-is c =
    let items = c.in_ok-start.ensures.all ∙ ap (λ b. starts_of (imported c.args.server.now c.args.client.now b)) c.small-small.ensures in
    let start : List StartBitmap = starts_of (imported c.args.server.now c.args.client.now (small_of c.args.head.offers)) in
    let is = c.script_with-script.ensures.script ∙ ap (script_from c.args.head) items in
    begun_live (record { end = c.in_ok-end.end; draft = c.in_ok-draft.draft }) c.script_with-script.result c.args.head start is c.in_ok-end.ensures.is.1
    (subst (λ (s : Script). IsServerEndFrom (held_at_start s) c.in_ok-end.end) is c.in_ok-end.ensures.is.0)
    (c.in_ok-draft.ensures ∙ ap (λ l. nothing_drafted (stock_with l c.small-small.result)) (c.deref.ensures.value ∙ items) ∙ ap (λ b. nothing_drafted (stock_with start b)) c.small-small.ensures)
