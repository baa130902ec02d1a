-- A session that is fed is one of the whole script so far, even where a turn of its server's end sends what waits with no
-- frame left. In the longer script that turn would queue a frame that wasn't there; but of the turns that queued what waits
-- one can be left out, since all that it did was to queue.
use Rattle.std.proofs.Common.{◌≡◌, ℕ, Bool, true, false, IsTrue, ◌&&◌, ◌||◌, not, List, [], ◌∷◌, ◌++◌, fold, take, drop, refl, sym, ap, ◌∙◌, subst}
use Rattle.std.proofs.lemmas.List.{take-append-drop}
use Rattle.std.proofs.lemmas.List.Sums.{fold-append}
use Rattle.gfx_script.specs.Kinds.{KindedStep}
use Rattle.gfx_script.specs.Script.{is_frame, is_framed}
use Rattle.gfx_script.specs.Scripted.{Script}
use Rattle.gfx_script.specs.declared.picture.Picture.{Picture}
use Rattle.gfx_script.specs.declared.turn.Turn.{Turn}
use Rattle.gfx_script.specs.declared.turn.Turn.TheVariants.{Server, Client, Answer}
use Rattle.gfx_planner.proofs.Streams.{bare}
use Rattle.gfx_window.specs.Window.{has_room}
use Rattle.gfx_schedule.specs.Feeding.{grown, world_with_more, has_frame, Event, Grows, Takes, Feeding, goes_on, fed_at_start, start_of, IsGood, StaysGood, FindsFrame, FindFrames, FeedingIsScripting}
use Rattle.gfx_schedule.specs.Hearing.{listening}
use Rattle.gfx_schedule.specs.ServerEnd.{ScheduledEnd, queued, can_send, is_none, sends, bytes_sent}
use Rattle.gfx_schedule.specs.Starts.{Start}
use Rattle.gfx_schedule.specs.World.{World, begin_from, server_turns, client_takes, server_heard, happens, world_from}
use Rattle.gfx_schedule.proofs.FeedingTurns.{sees_all, begin_inside, turns_more, has_more, queued_more}
use Rattle.gfx_schedule.proofs.Queueing.{queue_in, client_queued, answer_queued, serve_queues, serve_clears, nothing_queued}
use Rattle.gfx_schedule.proofs.Unheard.{hears_pending}
use Rattle.gfx_schedule.proofs.Unseen.{hears_keeps, left_behind}

-- turns that find whole frames ------------------------------------------------------------------------------------------

-- a world is that of the script after turns each of which finds a frame
record IsAt (start : Start) (script : Script) (kinded : List KindedStep) (w : World) : Type 0 where
  turns : List Turn
  finds : FindFrames script (begin_from start script kinded) turns
  is : w ≡ world_from start script kinded turns

finds_on : (script : Script) (w : World) (turns : List Turn) (turn : Turn) → FindFrames script w turns → FindsFrame (fold (happens script) w turns) turn → FindFrames script w (turns ++ turn ∷ [])
finds_on script w [] turn finds last = (last, tt)
finds_on script w (first ∷ turns) turn finds last = (finds.0, finds_on script (happens script w first) turns turn finds.1 last)

-- so is the world after one more
at_turn : (start : Start) (script : Script) (kinded : List KindedStep) (w : World) (turn : Turn) → IsAt start script kinded w → FindsFrame w turn → IsAt start script kinded (happens script w turn)
at_turn start script kinded w turn at finds = record {
  turns = at.turns ++ turn ∷ [];
  finds = finds_on script (begin_from start script kinded) at.turns turn at.finds (subst (λ z. FindsFrame z turn) at.is finds);
  is = ap (λ z. happens script z turn) at.is ∙ sym (fold-append (happens script) (begin_from start script kinded) at.turns (turn ∷ []));
}

-- and in a longer script the same world with more steps left
at_more : (start : Start) (fed : Feeding) (w : World) (pictures : List Picture) (more : List KindedStep) → IsGood start fed → IsAt start fed.script fed.kinded w
    → IsAt start (grown fed.script pictures more) (fed.kinded ++ more) (world_with_more w more)
at_more start fed w pictures more good at =
    let sees = sees_all (start_of start fed.script).held fed.script pictures good.accepted refl in
    let t = turns_more fed.script pictures more sees (begin_from start fed.script fed.kinded) at.turns (begin_inside start fed.script fed.kinded good.fits) at.finds in
    record { turns = at.turns; finds = t.1; is = ap (λ z. world_with_more z more) at.is ∙ sym t.0 }

-- what is left is nothing, or has a frame --------------------------------------------------------------------------------

framed_has : (one : KindedStep) (steps : List KindedStep) → IsTrue (is_framed (bare (one ∷ steps))) → has_frame (one ∷ steps) ≡ true
framed_has one [] framed = or_first (is_frame one.step) framed
  where
    or_first : (b : Bool) → IsTrue b → (b || false) ≡ true
    or_first true is = refl
    or_first false is = absurd cc
framed_has one (next ∷ steps) framed = or_second (is_frame one.step) (has_frame (next ∷ steps)) (framed_has next steps framed)
  where
    or_second : (a b : Bool) → b ≡ true → (a || b) ≡ true
    or_second true b e = refl
    or_second false b e = e

framed_behind : (one : KindedStep) (steps : List KindedStep) → IsTrue (is_framed (bare (one ∷ steps))) → IsTrue (is_framed (bare steps))
framed_behind one [] framed = refl
framed_behind one (next ∷ steps) framed = framed

framed_none : (steps : List KindedStep) → IsTrue (is_framed (bare steps)) → has_frame steps ≡ false → steps ≡ []
framed_none [] framed none = refl
framed_none (one ∷ steps) framed none = let has = framed_has one steps framed in let wrong : true ≡ false = sym has ∙ none in absurd cc

framed_rest : (gone steps : List KindedStep) → IsTrue (is_framed (bare (gone ++ steps))) → IsTrue (is_framed (bare steps))
framed_rest [] steps framed = framed
framed_rest (one ∷ gone) steps framed = framed_rest gone steps (framed_behind one (gone ++ steps) framed)

none_left : (start : Start) (fed : Feeding) → IsGood start fed → IsAt start fed.script fed.kinded fed.world → has_frame fed.world.server.left ≡ false → fed.world.server.left ≡ []
none_left start fed good at none =
    let left : fed.world.server.left ≡ drop (world_from start fed.script fed.kinded at.turns).server.last fed.kinded = ap (λ z. z.server.left) at.is ∙ left_behind start fed.script fed.kinded at.turns in
    let n : ℕ = (world_from start fed.script fed.kinded at.turns).server.last in
    let whole : IsTrue (is_framed (bare (take n fed.kinded ++ drop n fed.kinded))) =
    subst (λ z. IsTrue (is_framed (bare z))) (sym (take-append-drop n fed.kinded)) (subst (λ z. IsTrue (is_framed z)) (sym good.fits.same) good.accepted.framed) in
    left ∙ framed_none (drop n fed.kinded) (framed_rest (take n fed.kinded) (drop n fed.kinded) whole) (ap has_frame (sym left) ∙ none)

-- what a session that is fed keeps ---------------------------------------------------------------------------------------

-- a world as it was before the last script frame was queued, which still waits
record IsBefore (start : Start) (script : Script) (kinded : List KindedStep) (w : World) : Type 0 where
  before : World
  at : IsAt start script kinded before
  has : has_frame before.server.left ≡ true
  is : w ≡ queue_in before

-- a world of a fed session: where something waits, it was one before that was queued
record IsFedWorld (start : Start) (script : Script) (kinded : List KindedStep) (w : World) : Type 0 where
  at : IsAt start script kinded w
  waits : is_none w.server.window.pending ≡ false → IsBefore start script kinded w

-- nothing waits
no_wait : (start : Start) (script : Script) (kinded : List KindedStep) (w : World) → w.server.window.pending ≡ [] → is_none w.server.window.pending ≡ false → IsBefore start script kinded w
no_wait start script kinded w none some = let wrong : true ≡ false = sym (ap is_none none) ∙ some in absurd cc

-- a turn of the server's end where a frame is left
serve_with : (start : Start) (script : Script) (kinded : List KindedStep) (w : World) (can : Bool) → can_send (queued w.server) ≡ can → has_frame w.server.left ≡ true
    → IsFedWorld start script kinded w → IsFedWorld start script kinded (server_turns script w)
unfolding happens
serve_with start script kinded w true can has fed = record {
  at = at_turn start script kinded w Server fed.at has;
  waits = no_wait start script kinded (server_turns script w) (serve_clears script w can);
}
serve_with start script kinded w false can has fed = record {
  at = at_turn start script kinded w Server fed.at has;
  waits = λ some. record { before = w; at = fed.at; has = has; is = serve_queues script w can };
}

must_wait : (confirmed none room : Bool) → (confirmed && (not none && room)) ≡ true → none ≡ false
must_wait true false room e = refl
must_wait true true room e = absurd cc
must_wait false none room e = absurd cc

-- and where none is left
serve_none : (start : Start) (script : Script) (kinded : List KindedStep) (w : World) (can : Bool) → can_send (queued w.server) ≡ can → w.server.left ≡ []
    → IsFedWorld start script kinded w → IsFedWorld start script kinded (server_turns script w)
unfolding happens server_turns
serve_none start script kinded w true can none fed =
    let stays = nothing_queued w.server none in
    let some : is_none w.server.window.pending ≡ false = must_wait w.server.confirmed (is_none w.server.window.pending) (has_room w.server.window) (ap can_send (sym stays) ∙ can) in
    let b = fed.waits some in
    let same : server_turns script w ≡ server_turns script b.before =
    (λ i. record w { server = sends script (stays i); down = w.down ++ bytes_sent script (stays i) })
    ∙ ap (λ (z : World). record z { server = sends script z.server; down = z.down ++ bytes_sent script z.server }) b.is in
    record {
      at = subst (IsAt start script kinded) (sym same) (at_turn start script kinded b.before Server b.at b.has);
      waits = no_wait start script kinded (server_turns script w) (serve_clears script w can);
    }
serve_none start script kinded w false can none fed =
    let same : server_turns script w ≡ w = serve_queues script w can ∙ ap (λ (z : ScheduledEnd). record w { server = z }) (nothing_queued w.server none) in
    subst (IsFedWorld start script kinded) (sym same) fed

IsFed : Start → Feeding → Type 0
IsFed start fed = IsFedWorld start fed.script fed.kinded fed.world

serve_by : (start : Start) (fed : Feeding) (has : Bool) → has_frame fed.world.server.left ≡ has → IsGood start fed → IsFedWorld start fed.script fed.kinded fed.world
    → IsFedWorld start fed.script fed.kinded (server_turns fed.script fed.world)
serve_by start fed true has good so = serve_with start fed.script fed.kinded fed.world (can_send (queued fed.world.server)) refl has so
serve_by start fed false has good so = serve_none start fed.script fed.kinded fed.world (can_send (queued fed.world.server)) refl (none_left start fed good so.at has) so

fed_takes : (start : Start) (fed : Feeding) (turn : Turn) → IsGood start fed → IsFed start fed → IsFed start (goes_on fed (Takes turn))
unfolding IsFed goes_on happens client_takes server_heard
fed_takes start fed Server good so = serve_by start fed (has_frame fed.world.server.left) refl good so
fed_takes start fed (Client most) good so =
    let w : World = fed.world in
    record {
      at = at_turn start fed.script fed.kinded w (Client most) so.at tt;
      waits = λ some.
          let b = so.waits some in
          record {
            before = happens fed.script b.before (Client most);
            at = at_turn start fed.script fed.kinded b.before (Client most) b.at tt;
            has = b.has;
            is = ap (λ z. happens fed.script z (Client most)) b.is ∙ client_queued b.before (take most b.before.down) (drop most b.before.down);
          };
    }
fed_takes start fed (Answer most) good so =
    let w : World = fed.world in
    let pending = hears_pending fed.script (listening w.server) (take most w.up) in
    record {
      at = at_turn start fed.script fed.kinded w (Answer most) so.at tt;
      waits = λ some.
          let b = so.waits (ap is_none (sym pending) ∙ some) in
          record {
            before = happens fed.script b.before (Answer most);
            at = at_turn start fed.script fed.kinded b.before (Answer most) b.at tt;
            has = ap has_frame (hears_keeps fed.script (listening b.before.server) (take most b.before.up)).0 ∙ b.has;
            is = ap (λ z. happens fed.script z (Answer most)) b.is ∙ answer_queued fed.script b.before (take most b.before.up) (drop most b.before.up);
          };
    }

fed_grows : (start : Start) (fed : Feeding) (pictures : List Picture) (more : List KindedStep) → IsGood start fed → IsFed start fed → IsFed start (goes_on fed (Grows pictures more))
unfolding IsFed goes_on
fed_grows start fed pictures more good so = record {
  at = at_more start fed fed.world pictures more good so.at;
  waits = λ some.
      let b = so.waits some in
      record {
        before = world_with_more b.before more;
        at = at_more start fed b.before pictures more good b.at;
        has = has_more b.before.server.left more b.has;
        is = ap (λ z. world_with_more z more) b.is ∙ ap (λ (z : ScheduledEnd). record b.before { server = z }) (sym (queued_more fed.script pictures more (sees_all (start_of start fed.script).held fed.script pictures good.accepted refl) b.before.server b.has));
      };
}

-- so it is after all events
fed_goes_on : (start : Start) (fed : Feeding) (event : Event) → IsGood start fed → IsFed start fed → IsFed start (goes_on fed event)
fed_goes_on start fed (Grows pictures more) good so = fed_grows start fed pictures more good so
fed_goes_on start fed (Takes turn) good so = fed_takes start fed turn good so

fed_after : (start : Start) (fed : Feeding) (events : List Event) → StaysGood start fed events → IsFed start fed → IsFed start (fold goes_on fed events)
fed_after start fed [] good so = so
fed_after start fed (event ∷ events) good so = fed_after start (goes_on fed event) events good.1 (fed_goes_on start fed event good.0 so)

fed_first : (start : Start) (head : Script) → IsFed start (fed_at_start start head)
unfolding IsFed
fed_first start head = record { at = record { turns = []; finds = tt; is = refl }; waits = λ some. absurd cc }

pub feeding_is_scripting : FeedingIsScripting
unfolding IsFed
feeding_is_scripting start head events feed =
    let at = (fed_after start (fed_at_start start head) events feed.good (fed_first start head)).at in
    record { turns = at.turns; is = at.is }
