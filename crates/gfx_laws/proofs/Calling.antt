-- A server's end and a client that a caller joins stand for a world of the schedule.
use Rattle.std.proofs.Common.{◌≡◌, ℕ, zero, suc, ◌+◌, Bool, true, false, cond, List, [], ◌∷◌, ◌++◌, length, take, drop, Ok, refl, sym, ap, ◌∙◌, subst}
use Rattle.std.proofs.lemmas.List.{append-nil, append_assoc, append_cancel_left}
use Rattle.std.proofs.lemmas.List.Sums.{fold-append}
use Rattle.gfx_chooser.proofs.Asking.{kinded_fit}
use Rattle.gfx_chooser.specs.Kinded as chosen
use Rattle.gfx_client.specs.Client.{cursor_of}
use Rattle.gfx_client.specs.Replies.{replies}
use Rattle.gfx_client.specs.Standing.{HasBroughtFrom, IsDrained, StandsFrom}
use Rattle.gfx_client.specs.declared.client.Client.{Client}
use Rattle.gfx_client.proofs.Bringing.{brought_drained}
use Rattle.gfx_planner.proofs.BitmapStarts.{holds_at_start}
use Rattle.gfx_schedule.specs.Hearing.{Heard, hears, listening}
use Rattle.gfx_schedule.specs.ServerEnd.{serving}
use Rattle.gfx_schedule.specs.Starts.{Start}
use Rattle.gfx_schedule.specs.World.{World, begin_from, client_takes, drained, happens, is_ended, round, server_heard, server_turns, world_from}
use Rattle.gfx_schedule.proofs.Turns.{may_begin}
use Rattle.gfx_schedule.proofs.Unseen.{hears_keeps}
use Rattle.gfx_script.specs.Kinds.{KindedStep}
use Rattle.gfx_script.specs.Scripted.{Script}
use Rattle.gfx_script.specs.declared.turn.Turn.{Turn}
use Rattle.gfx_script.specs.declared.turn.Turn.TheVariants.{Server, Client as ToClient, Answer}
use Rattle.gfx_session.specs.Kept.{GoesBy, Stands}
use Rattle.gfx_session.specs.Taking.{TakesOpen}
use Rattle.gfx_session.proofs.ChosenKinds.{left_by, one_more}
use Rattle.gfx_session.proofs.HeardPlan.{stands_again}
use Rattle.gfx_state.specs.History.{Effect, history, history_from}
use Rattle.gfx_state.specs.Run.{begun_from, run_from}
use Rattle.gfx_state.specs.State.{State}
use Rattle.gfx_state.proofs.Coming.{coming_needs}
use Rattle.gfx_state.proofs.Effects.{history-append}
use Rattle.gfx_laws.specs.Callers.{AcceptedMayBegin, ChosenKindsFit, ComesLater, DrainingIsTurns, Joins, JoinedBegin, JoinedDraw, JoinedHear, JoinedServe, KeptHoldsAtStart}

pub accepted_may_begin : AcceptedMayBegin
accepted_may_begin = may_begin

pub chosen_kinds_fit : ChosenKindsFit
chosen_kinds_fit = kinded_fit

pub kept_holds_at_start : KeptHoldsAtStart
kept_holds_at_start = holds_at_start

-- rounds ---------------------------------------------------------------------------------------------------------------

-- more turns behind more turns
later : (start : Start) (script : Script) (kinded : List KindedStep) (turns some : List Turn) (w : World) → ComesLater start script kinded (turns ++ some) w → ComesLater start script kinded turns w
later start script kinded turns some w comes = record {
  more = some ++ comes.more;
  is = comes.is ∙ ap (world_from start script kinded) (append_assoc turns some comes.more);
}

-- a round is three turns
unfoldable round_turns : Script → World → List Turn
round_turns script w =
    let sent = happens script w Server in
    let drawn = happens script sent (ToClient (length sent.down)) in
    Server ∷ ToClient (length sent.down) ∷ Answer (length drawn.up) ∷ []

round_is : (start : Start) (script : Script) (kinded : List KindedStep) (turns : List Turn)
    → round script (world_from start script kinded turns) ≡ world_from start script kinded (turns ++ round_turns script (world_from start script kinded turns))
unfolding round round_turns
round_is start script kinded turns = sym (fold-append (happens script) (begin_from start script kinded) turns (round_turns script (world_from start script kinded turns)))

-- whether it is ended already, or behind one more round
either : (start : Start) (script : Script) (kinded : List KindedStep) (turns : List Turn) (b : Bool) (behind : World)
    → ComesLater start script kinded turns behind → ComesLater start script kinded turns (cond b (world_from start script kinded turns) behind)
either start script kinded turns true behind comes = record { more = []; is = ap (world_from start script kinded) (sym (append-nil turns)) }
either start script kinded turns false behind comes = comes

pub draining_is_turns : DrainingIsTurns
draining_is_turns start script kinded turns zero = record { more = []; is = ap (world_from start script kinded) (sym (append-nil turns)) }
draining_is_turns start script kinded turns (suc most) =
    let w : World = world_from start script kinded turns in
    let three : List Turn = round_turns script w in
    either start script kinded turns (is_ended w) (drained script most (round script w))
    (
    later start script kinded turns three (drained script most (round script w))
    (
    subst (λ z. ComesLater start script kinded (turns ++ three) (drained script most z)) (sym (round_is start script kinded turns))
    (draining_is_turns start script kinded (turns ++ three) most)
    )
    )

-- joined ends ------------------------------------------------------------------------------------------------------------

pub joined_begin : JoinedBegin
joined_begin start end client choosers stands from drained = record { server = stands; draws = from; drained = drained; to_client = refl; to_server = refl; goes_by = refl }

pub joined_serve : JoinedServe
unfolding happens server_turns
joined_serve start old new client choosers left down now up kinded turns turned may joins serves_so =
    let w : World = world_from start old.script kinded turns in
    let does = serves_so.3 w.server joins.server joins.goes_by in
    let next : world_from start old.script kinded (turns ++ Server ∷ []) ≡ server_turns old.script w = one_more start old.script kinded turns Server in
    let there : Stands new (world_from start old.script kinded (turns ++ Server ∷ [])).server = subst (λ (z : World). Stands new z.server) (sym next) does.0 in
    let goes : GoesBy old.script left (world_from start old.script kinded (turns ++ Server ∷ [])).server =
    left_by start old.script kinded turns (turns ++ Server ∷ []) old.last new.last choosers left may.fits serves_so.2 joins.server.last there.last joins.goes_by in
    let made : Joins new client now up left (server_turns old.script w) = record {
      server = does.0;
      draws = joins.draws;
      drained = joins.drained;
      to_client = does.1 ∙ ap (λ z. z ++ serving old.script w.server) joins.to_client;
      to_server = joins.to_server;
      goes_by = subst (λ (z : World). GoesBy new.script left z.server) next
          (subst (λ (z : Script). GoesBy z left (world_from start old.script kinded (turns ++ Server ∷ [])).server) (sym serves_so.1) goes);
    } in
    subst (λ (z : Script). Joins new client now up left (world_from start z kinded (turns ++ Server ∷ []))) (sym serves_so.1) (subst (Joins new client now up left) (sym next) made)

-- what a client drew of more bytes is their history
drew_history : (origin : State) (client : Client) (bytes piece : List ℕ) (more : List Effect) → HasBroughtFrom origin client (bytes ++ piece) (history_from origin bytes ++ more) → IsDrained client
    → more ≡ history (run_from origin bytes) piece
drew_history origin client bytes piece more brings drained =
    append_cancel_left (history_from origin bytes) more (history (run_from origin bytes) piece)
    (sym (append-nil (history_from origin bytes ++ more)) ∙ ap (λ z. (history_from origin bytes ++ more) ++ z) (sym (coming_needs (cursor_of client) drained.needs))
    ∙ sym brings.is ∙ history-append (begun_from origin) bytes piece)

pub joined_draw : JoinedDraw
unfolding happens client_takes
joined_draw start end old new choosers down up kinded turns most more joins stands brings drained =
    let w : World = world_from start end.script kinded turns in
    let piece : take most down ≡ take most w.down = ap (take most) joins.to_client in
    let next : world_from start end.script kinded (turns ++ ToClient most ∷ []) ≡ client_takes w (take most w.down) (drop most w.down) = one_more start end.script kinded turns (ToClient most) in
    let drew : more ≡ history (run_from w.start w.taken) (take most w.down) =
    drew_history w.start new w.taken (take most down) more (brings w.start w.taken (brought_drained w.start old w.taken joins.drained)) drained ∙ ap (history (run_from w.start w.taken)) piece in
    let made : Joins end new (drop most down) (up ++ replies more) choosers (client_takes w (take most w.down) (drop most w.down)) = record {
      server = joins.server;
      draws = subst (λ z. StandsFrom w.start new (w.taken ++ z)) piece (stands w.start w.taken joins.draws);
      drained = drained;
      to_client = ap (drop most) joins.to_client;
      to_server = λ i. joins.to_server i ++ replies (drew i);
      goes_by = joins.goes_by;
    } in
    subst (Joins end new (drop most down) (up ++ replies more) choosers) (sym next) made

pub joined_hear : JoinedHear
unfolding happens server_heard
joined_hear start old new client choosers down now up kinded turns most count joins takes =
    let w : World = world_from start old.script kinded turns in
    let piece : List ℕ = take most w.up in
    let heard : Heard = hears old.script (listening w.server) piece in
    let next : world_from start old.script kinded (turns ++ Answer most ∷ []) ≡ server_heard w heard (drop most w.up) = one_more start old.script kinded turns (Answer most) in
    let plans = takes.0 in
    let does = (subst (λ z. TakesOpen (Ok count) old new down now (take most z)) joins.to_server takes.1) w.server joins.server.listens in
    let keeps = hears_keeps old.script (listening w.server) piece in
    let goes : GoesBy old.script choosers heard.end =
    keeps.0 ∙ joins.goes_by ∙ ap (λ n. chosen.kinded old.script (n + 1) choosers (drop n old.script.steps)) (sym keeps.1) in
    let made : Joins new client now (drop most up) choosers (server_heard w heard (drop most w.up)) = record {
      server = stands_again old.script old new w.server piece joins.server plans does.0.0;
      draws = joins.draws;
      drained = joins.drained;
      to_client = does.0.1 ∙ ap (λ z. z ++ heard.out) joins.to_client;
      to_server = ap (drop most) joins.to_server;
      goes_by = subst (λ (z : Script). GoesBy z choosers heard.end) (sym plans.script) goes;
    } in
    subst (λ (z : Script). Joins new client now (drop most up) choosers (world_from start z kinded (turns ++ Answer most ∷ []))) (sym plans.script)
    (subst (Joins new client now (drop most up) choosers) (sym next) made)
