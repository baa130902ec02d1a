-- The turns of a session, against those of the schedule.
use Rattle.std.proofs.Common.{◌≡◌, ℕ, zero, suc, add-one, ◌+◌, ◌==◌, Bool, true, false, ◌&&◌, not, if◌then◌else◌, List, [], ◌∷◌, ◌++◌, length, map, take, drop, None, Ok, refl, sym, ap, ◌∙◌, subst, arith, ◌≤◌, length-append}
use Rattle.std.proofs.lemmas.Bool.{eqb-true}
use Rattle.std.proofs.lemmas.List.{append-nil, map-append, append_cancel_left, length-map, length-drop, take-append-drop}
use Rattle.std.proofs.Math.Seq.{drop-append_seam}
use Rattle.gfx_chooser.specs.Choosing.{Chooser}
use Rattle.gfx_chooser.specs.Kinded.{Asks}
use Rattle.gfx_chooser.proofs.Asking.{asks_none, asks_on}
use Rattle.gfx_client.specs.Client.{cursor_of, closed_by, offers_of}
use Rattle.gfx_client.specs.Replies.{replies}
use Rattle.gfx_client.specs.Standing.{StandsFrom, HasBroughtFrom, IsDrained}
use Rattle.gfx_client.specs.declared.client.Client.{Client}
use Rattle.gfx_client.proofs.Bringing.{brought_drained}
use Rattle.gfx_schedule.proofs.Turns.{every_schedule_alike}
use Rattle.gfx_schedule.proofs.Unseen.{left_behind, last_within_all}
use Rattle.gfx_schedule.specs.Hearing.{listening, hears}
use Rattle.gfx_schedule.specs.Schedule.{KeepsAlikeFrom, RoundsEnd, rounds_for}
use Rattle.gfx_schedule.specs.Starts.{MayBegin, Start}
use Rattle.gfx_schedule.specs.ServerEnd.{ScheduledEnd, server_end_from, is_none, serving, has_served, can_serve, queued}
use Rattle.gfx_schedule.specs.World.{World, acknowledgements, greeting, begin_from, happens, server_turns, client_takes, server_heard, world_from, is_ended, answer, round, drained}
use Rattle.gfx_schedule.specs.declared.turned.Turned.{Turned}
use Rattle.gfx_schedule.specs.declared.turned.Turned.TheVariants.{Moved, Waiting, Ended}
use Rattle.gfx_script.specs.Checks.{Held}
use Rattle.gfx_script.specs.Kinds.{KindedStep, Fits, own}
use Rattle.gfx_script.proofs.OwnKinds.{own_steps_fit}
use Rattle.gfx_script.specs.Scripted.{Script}
use Rattle.gfx_script.specs.declared.turn.Turn.{Turn}
use Rattle.gfx_script.specs.declared.turn.Turn.TheVariants.{Server, Client as ToClient, Answer}
use Rattle.gfx_state.specs.Cursor.{settled}
use Rattle.gfx_state.specs.History.{Effect, history, history_from, end_states, ended}
use Rattle.gfx_state.specs.Run.{Run, begun_from, run_from}
use Rattle.gfx_state.specs.State.{State}
use Rattle.gfx_state.proofs.Coming.{coming_needs}
use Rattle.gfx_state.proofs.Effects.{history-append}
use Rattle.gfx_window.specs.Window.{has_room}
use Rattle.gfx_window.specs.declared.window.Sent.{Sent}
use Rattle.gfx_session.specs.Beginning.{IsBegun}
use Rattle.gfx_session.specs.Kept.{noted, InStep, IsServerEnd, PlansAsBefore}
use Rattle.gfx_session.specs.Kept as kept
use Rattle.gfx_session.specs.Drawing.{TakesBytes, Draws}
use Rattle.gfx_session.specs.Noting.{ListensOpen, WillHear, paired, taken_of}
use Rattle.gfx_session.specs.Serving.{Serves}
use Rattle.gfx_session.specs.Session.{Stands, StandsBy, IsSession, AsksBetween, Turns, Drains, script_of, digests_of, acked_of}
use Rattle.gfx_session.specs.Turning.{Does, DoesBy, GoesRound, has_moved}
use Rattle.gfx_session.specs.declared.digests.Digests.{Digests}
use Rattle.gfx_session.specs.declared.server_end.ServerEnd.{ServerEnd}
use Rattle.gfx_session.specs.declared.server_end.listening.ShownFrame.{ShownFrame}
use Rattle.gfx_session.specs.declared.session.Session.{Session}
use Rattle.gfx_session.proofs.ChosenKinds.{IsUnderWayBy, by_choosers, one_more, stands_by, by_any}
use Rattle.gfx_session.proofs.HeardPlan.{stands_again}

-- the server's end has a turn ---------------------------------------------------------------------------------

both_true : (a b : Bool) → (a && b) ≡ true → (a ≡ true) × (b ≡ true)
both_true true true e = (refl, refl)
both_true true false e = absurd cc
both_true false b e = absurd cc

none_of : {X : Type 0} (items : List X) → is_none items ≡ true → items ≡ []
none_of [] e = refl
none_of (x ∷ xs) e = let zero : length (x ∷ xs) ≡ 0 = eqb-true (length (x ∷ xs)) 0 e in absurd (omega (arith, zero))

nothing_goes : (confirmed room : Bool) → not (true && not (confirmed && (not true && room))) ≡ false
nothing_goes true room = refl
nothing_goes false room = refl

-- one that has served all has nothing to do
served_rests : (at : ScheduledEnd) → has_served at ≡ true → can_serve at ≡ false
unfolding queued
served_rests at all =
    let parts = both_true (is_none at.left) _ all in
    let more = both_true (is_none at.window.pending) (is_none at.window.flying) parts.1 in
    let left : at.left ≡ [] = none_of at.left parts.0 in
    let pending : at.window.pending ≡ [] = none_of at.window.pending more.0 in
    ap can_serve (λ i. record at { left = left i; window = record at.window { pending = pending i } })
    ∙ nothing_goes at.confirmed (has_room at.window)

moved_is : (served can : Bool) → (served ≡ true → can ≡ false) → has_moved (if served then Ended else (if can then Moved else Waiting)) ≡ can
moved_is true can none = sym (none refl)
moved_is false true none = refl
moved_is false false none = refl

pub served : (old mid : Session) (cs ds : List Chooser) (before out : List ℕ) (turned : Turned) (moved : Bool) → before ≡ [] → Serves (Ok turned) old.server mid.server cs ds before out → mid.down ≡ old.down ++ out → moved ≡ has_moved turned
    → DoesBy (Ok moved) old (record old { server = mid.server; down = mid.down; spent = false }) cs ds Server
unfolding happens server_turns
served old mid cs ds before out turned moved none serves down_is moved_are = (
  serves.2,
  (
    refl,
    serves.1,
    λ origin kinded turns may s goes.
        let w : World = world_from origin (script_of old) kinded turns in
        let does = serves.3 w.server s.server goes in (
          record {
            fresh = refl;
            server = does.0;
            offers = s.offers ∙ ap (λ (z : Script). z.offers) (sym serves.1);
            client = s.client;
            brought = s.brought;
            drained = s.drained;
            down = down_is ∙ (λ i. s.down i ++ (does.1 ∙ ap (λ z. z ++ serving old.server.script w.server) none) i);
            up = s.up;
            drawn = s.drawn ∙ ap (λ (d : Digests). map (noted d) w.drawn) (sym serves.4);
            acks = s.acks ∙ ap (λ (d : Digests). map (acked_of d) w.acks) (sym serves.4);
          },
          moved_are ∙ ap has_moved does.2 ∙ moved_is (has_served w.server) (can_serve w.server) (served_rests w.server),
        ),
    serves.4,
  ),
)

-- the client takes bytes ----------------------------------------------------------------------------------------

drop-taken : {X : Type 0} (most : ℕ) (items : List X) → drop (length (take most items)) items ≡ drop most items
drop-taken most items = ap (drop (length (take most items))) (sym (take-append-drop most items)) ∙ drop-append_seam (take most items) (drop most items)

-- what a client drew of more bytes is their history
drew_history : (origin : State) (client : Client) (bytes piece : List ℕ) (more : List Effect) → HasBroughtFrom origin client (bytes ++ piece) (history_from origin bytes ++ more) → IsDrained client
    → more ≡ history (run_from origin bytes) piece
drew_history origin client bytes piece more b d =
    append_cancel_left (history_from origin bytes) more (history (run_from origin bytes) piece)
    (sym (append-nil (history_from origin bytes ++ more)) ∙ ap (λ z. (history_from origin bytes ++ more) ++ z) (sym (coming_needs (cursor_of client) d.needs))
    ∙ sym b.is ∙ history-append (begun_from origin) bytes piece)

pub client_takes_on : (old mid : Session) (taken : Client) (most : ℕ) (w : World) → TakesBytes old.client taken (take most old.down) → offers_of mid.client ≡ offers_of taken → settled (cursor_of mid.client) ≡ settled (cursor_of taken) → IsDrained mid.client
    → Draws (digests_of old) taken mid.client old.up mid.up old.drawn.items mid.drawn.items → mid.down ≡ drop (length (take most old.down)) old.down → Stands old w
    → Stands (record old { client = mid.client; down = mid.down; up = mid.up; drawn = mid.drawn; spent = false }) (client_takes w (take most w.down) (drop most w.down))
unfolding client_takes
client_takes_on old mid taken most w t offered run drained draws down_is s =
    let piece : List ℕ = take most old.down in
    let same : piece ≡ take most w.down = ap (take most) s.down in
    let d = draws w.start (w.taken ++ piece) (history_from w.start w.taken) (t.brought w.start w.taken (history_from w.start w.taken) s.client s.brought) in
    let more : d.more ≡ history (run_from w.start w.taken) (take most w.down) = drew_history w.start mid.client w.taken piece d.more d.brought drained ∙ ap (history (run_from w.start w.taken)) same in
    record {
      fresh = refl;
      server = s.server;
      offers = offered ∙ t.offers ∙ s.offers;
      client = record { run = run ∙ (t.stands w.start w.taken s.client).run ∙ ap (λ z. run_from w.start (w.taken ++ z)) same };
      brought = brought_drained w.start mid.client (w.taken ++ take most w.down) drained;
      drained = drained;
      down = down_is ∙ drop-taken most old.down ∙ ap (drop most) s.down;
      up = d.replied ∙ (λ i. s.up i ++ replies (more i));
      drawn = d.shown ∙ (λ i. s.drawn i ++ map (noted (digests_of old)) (end_states (more i))) ∙ sym (map-append (noted (digests_of old)) w.drawn (ended (run_from w.start w.taken) (take most w.down)));
      acks = s.acks;
    }

pub drawn_on : (old mid : Session) (taken : Client) (most : ℕ) (moved : Bool) → TakesBytes old.client taken (take most old.down) → offers_of mid.client ≡ offers_of taken → settled (cursor_of mid.client) ≡ settled (cursor_of taken) → IsDrained mid.client
    → Draws (digests_of old) taken mid.client old.up mid.up old.drawn.items mid.drawn.items → mid.down ≡ drop (length (take most old.down)) old.down → moved ≡ not (length old.down == 0)
    → Does (Ok moved) old (record old { client = mid.client; down = mid.down; up = mid.up; drawn = mid.drawn; spent = false }) (ToClient most)
unfolding happens
drawn_on old mid taken most moved t offered run drained draws down_is moved_are = (
  (
    refl,
    refl,
    λ origin kinded turns may s known.
        (client_takes_on old mid taken most (world_from origin (script_of old) kinded turns) t offered run drained draws down_is s, moved_are ∙ ap (λ z. not (is_none z)) s.down),
    refl,
  ),
  refl,
)

-- the same of a piece that is the front of what is in flight
pub drew : (old mid : Session) (taken : Client) (most : ℕ) (piece : List ℕ) (moved : Bool) (asked : Digests) → asked ≡ digests_of old → piece ≡ take most old.down → TakesBytes old.client taken piece → offers_of mid.client ≡ offers_of taken → settled (cursor_of mid.client) ≡ settled (cursor_of taken) → IsDrained mid.client
    → Draws asked taken mid.client old.up mid.up old.drawn.items mid.drawn.items → mid.down ≡ drop (length piece) old.down → moved ≡ not (length old.down == 0)
    → Does (Ok moved) old (record old { client = mid.client; down = mid.down; up = mid.up; drawn = mid.drawn; spent = false }) (ToClient most)
drew old mid taken most piece moved asked as_asked is t offered run drained draws down_is moved_are =
    drawn_on old mid taken most moved (subst (TakesBytes old.client taken) is t) offered run drained (subst (λ (d : Digests). Draws d taken mid.client old.up mid.up old.drawn.items mid.drawn.items) as_asked draws)
    (down_is ∙ ap (λ z. drop (length z) old.down) is) moved_are

-- it isn't closed, and refuses none of them
pub will_take : (old : Session) → IsSession old → old.spent ≡ false → closed_by old.client ≡ None
will_take old is fresh = (is.under_way fresh).stands.drained.not_closed

-- the law, of one more turn
keeps_next : (origin : Start) (script : Script) (kinded : List KindedStep) (turns : List Turn) (turn : Turn) → MayBegin origin script kinded → KeepsAlikeFrom origin script kinded (happens script (world_from origin script kinded turns) turn)
keeps_next origin script kinded turns turn may = subst (KeepsAlikeFrom origin script kinded) (one_more origin script kinded turns turn) (every_schedule_alike origin script kinded (turns ++ turn ∷ []) may)

pub will_draw : (old : Session) (taken : Client) (most : ℕ) (piece : List ℕ) → IsSession old → old.spent ≡ false → piece ≡ take most old.down → TakesBytes old.client taken piece → (settled (cursor_of taken)).refusal ≡ None
unfolding happens client_takes
will_draw old taken most piece is fresh same t =
    let u = is.under_way fresh in
    let w : World = world_from u.origin (script_of old) u.kinded u.turns in
    let goes = (keeps_next u.origin (script_of old) u.kinded u.turns (ToClient most) u.begins).client_goes_on in
    ap (λ (z : Run). z.refusal) ((t.stands w.start w.taken u.stands.client).run ∙ ap (λ z. run_from w.start (w.taken ++ z)) (same ∙ ap (take most) u.stands.down)) ∙ goes

-- the server's end takes bytes --------------------------------------------------------------------------------

pub will_hear : (old : Session) (most : ℕ) (piece : List ℕ) → IsSession old → old.spent ≡ false → piece ≡ take most old.up → WillHear old.server piece
unfolding happens server_heard
will_hear old most piece is fresh same =
    let script : Script = script_of old in
    let u = is.under_way fresh in
    let w : World = world_from u.origin script u.kinded u.turns in
    record {
      at = w.server;
      stands = u.stands.server;
      goes_on = (every_schedule_alike u.origin script u.kinded u.turns u.begins).server_goes_on;
      will = subst (λ z. (hears script (listening w.server) z).end.stopped ≡ None) (sym (same ∙ ap (take most) u.stands.up)) (keeps_next u.origin script u.kinded u.turns (Answer most) u.begins).server_goes_on;
    }

-- the frames that are noted, with what was drawn
paired_are : (digests : Digests) (frames : List Sent) (servers clients : List State) → paired (taken_of frames (map (noted digests) servers)) (map (noted digests) clients) ≡ map (acked_of digests) (acknowledgements frames servers clients)
paired_are digests [] servers clients = refl
paired_are digests (frame ∷ frames) [] clients = refl
paired_are digests (frame ∷ frames) (server ∷ servers) [] = refl
paired_are digests (frame ∷ frames) (server ∷ servers) (client ∷ clients) =
    ap (λ z. acked_of digests (record { frame = frame.frame; step = frame.step; server = server; client = client }) ∷ z) (paired_are digests frames servers clients)

length-taken_of : (digests : Digests) (frames : List Sent) (servers : List State) → length servers ≡ length frames → length (taken_of frames (map (noted digests) servers)) ≡ length frames
length-taken_of digests [] servers same = refl
length-taken_of digests (frame ∷ frames) [] same = absurd (omega (arith, same))
length-taken_of digests (frame ∷ frames) (server ∷ servers) same =
    let rest : length servers ≡ length frames = omega (arith, same) in
    ap suc (length-taken_of digests frames servers rest)

map-dropped : (digests : Digests) (count : ℕ) (states : List State) → drop count (map (noted digests) states) ≡ map (noted digests) (drop count states)
map-dropped digests zero states = refl
map-dropped digests (suc count) [] = refl
map-dropped digests (suc count) (state ∷ states) = map-dropped digests count states

pub server_heard_on : (old mid : Session) (out : List ℕ) (notes : List ShownFrame) (most : ℕ) (w : World) → ListensOpen (Ok tt) old.server mid.server [] out [] notes (take most old.up) → mid.up ≡ drop (length (take most old.up)) old.up
    → mid.down ≡ old.down ++ out → mid.acks ≡ old.acks ++ paired notes old.drawn.items → mid.drawn.items ≡ drop (length notes) old.drawn.items → PlansAsBefore old.server mid.server → Stands old w
    → Stands (record old { server = mid.server; down = mid.down; up = mid.up; drawn = mid.drawn; acks = mid.acks; spent = false }) (server_heard w (hears (script_of old) (listening w.server) (take most w.up)) (drop most w.up))
unfolding server_heard
server_heard_on old mid out notes most w listens up_is down_is acks_are drawn_are plans s =
    let does = subst (λ z. ListensOpen (Ok tt) old.server mid.server [] out [] notes (take most z)) s.up listens w.server s.server.listens in
    let now : Digests = mid.server.digests in
    let same : digests_of old ≡ now = sym plans.digests in
    let drawn_now : old.drawn.items ≡ map (noted now) w.drawn = s.drawn ∙ ap (λ (d : Digests). map (noted d) w.drawn) same in
    let acks_now : old.acks ≡ map (acked_of now) w.acks = s.acks ∙ ap (λ (d : Digests). map (acked_of d) w.acks) same in
    let count : length notes ≡ length (hears (script_of old) (listening w.server) (take most w.up)).taken = ap length does.2.0 ∙ length-taken_of now _ _ does.2.1 in
    record {
      fresh = refl;
      server = stands_again (script_of old) old.server mid.server w.server (take most w.up) s.server plans does.0.0;
      offers = s.offers ∙ ap (λ (z : Script). z.offers) (sym plans.script);
      client = s.client;
      brought = s.brought;
      drained = s.drained;
      down = down_is ∙ (λ i. s.down i ++ does.0.1 i);
      up = up_is ∙ drop-taken most old.up ∙ ap (drop most) s.up;
      drawn = drawn_are ∙ (λ i. drop (count i) (drawn_now i)) ∙ map-dropped now _ w.drawn;
      acks = acks_are ∙ (λ i. acks_now i ++ paired (does.2.0 i) (drawn_now i)) ∙ ap (λ z. map (acked_of now) w.acks ++ z) (paired_are now _ _ w.drawn) ∙ sym (map-append (acked_of now) w.acks _);
    }

pub heard_on : (old mid : Session) (out : List ℕ) (notes : List ShownFrame) (most : ℕ) (moved : Bool) → WillHear old.server (take most old.up) → ListensOpen (Ok tt) old.server mid.server [] out [] notes (take most old.up) → PlansAsBefore old.server mid.server
    → mid.up ≡ drop (length (take most old.up)) old.up → mid.down ≡ old.down ++ out → mid.acks ≡ old.acks ++ paired notes old.drawn.items → mid.drawn.items ≡ drop (length notes) old.drawn.items → moved ≡ not (length old.up == 0)
    → Does (Ok moved) old (record old { server = mid.server; down = mid.down; up = mid.up; drawn = mid.drawn; acks = mid.acks; spent = false }) (Answer most)
unfolding happens
heard_on old mid out notes most moved will listens plans up_is down_is acks_are drawn_are moved_are = (
  (
    refl,
    plans.script,
    λ origin kinded turns may s known.
        (server_heard_on old mid out notes most (world_from origin (script_of old) kinded turns) listens up_is down_is acks_are drawn_are plans s, moved_are ∙ ap (λ z. not (is_none z)) s.up),
    plans.digests,
  ),
  plans.last,
)

-- the same of a piece that is the front of what is in flight
pub heard : (old mid : Session) (before out piece : List ℕ) (had notes : List ShownFrame) (most : ℕ) (moved : Bool) → before ≡ [] → had ≡ [] → piece ≡ take most old.up → WillHear old.server piece → ListensOpen (Ok tt) old.server mid.server before out had notes piece
    → PlansAsBefore old.server mid.server → mid.up ≡ drop (length piece) old.up → mid.down ≡ old.down ++ out → mid.acks ≡ old.acks ++ paired notes old.drawn.items → mid.drawn.items ≡ drop (length notes) old.drawn.items → moved ≡ not (length old.up == 0)
    → Does (Ok moved) old (record old { server = mid.server; down = mid.down; up = mid.up; drawn = mid.drawn; acks = mid.acks; spent = false }) (Answer most)
heard old mid before out piece had notes most moved none nothing is will listens plans up_is down_is acks_are drawn_are moved_are =
    let here = subst (λ z. ListensOpen (Ok tt) old.server mid.server z out had notes piece) none listens in
    let there = subst (λ z. ListensOpen (Ok tt) old.server mid.server [] out z notes piece) nothing here in
    heard_on old mid out notes most moved (subst (WillHear old.server) is will) (subst (ListensOpen (Ok tt) old.server mid.server [] out [] notes) is there) plans (up_is ∙ ap (λ z. drop (length z) old.up) is) down_is acks_are drawn_are
    moved_are

-- whether it is ended --------------------------------------------------------------------------------------------

pub within : {held : Held} (end : ServerEnd) → InStep held end → end.last ≤ length end.script.steps
within end is =
    omega (arith, is.last, is.plan.last, ap length is.plan.cut, ap length is.begins.fits.same, length-map is.kinded (λ (one : KindedStep). one.step), length-append is.gone (is.waiting ++ is.at.left), length-append is.waiting is.at.left)

pub server_within : (session : Session) → IsSession session → session.spent ≡ false → session.server.last ≤ length session.server.script.steps
server_within session is fresh = within session.server (is.server.1.in_step (is.under_way fresh).stands.server.fresh)

-- what is told of a turn -----------------------------------------------------------------------------------------

pub turns_told : (old new : Session) (cs ds : List Chooser) (turn : Turn) (ended moved : Bool) (turned : Turned) → old.spent ≡ false → ((w : World) → Stands old w → ended ≡ is_ended w) → DoesBy (Ok moved) old new cs ds turn
    → turned ≡ (if ended then Ended else (if moved then Moved else Waiting)) → Turns (Ok turned) old new cs ds turn
unfolding answer
turns_told old new cs ds turn ended moved turned fresh ends does told = (
  fresh,
  does.1.1,
  does.0,
  λ origin kinded turns may s.
      let did = does.1.2 origin kinded turns may s.stands s.goes_by in (
        stands_by old new cs ds moved turn origin kinded turns does may s,
        told ∙ (λ i. if ends (world_from origin (script_of old) kinded turns) s.stands i then Ended else (if did.1 i then Moved else Waiting)),
      ),
  does.1.3,
)

-- rounds -----------------------------------------------------------------------------------------------------------

-- what a turn does, said of a script
does_at : (old new : Session) (cs ds : List Chooser) (moved : Bool) (turn : Turn) (origin : Start) (script : Script) (kinded : List KindedStep) (turns : List Turn) → script_of old ≡ script → DoesBy (Ok moved) old new cs ds turn → MayBegin origin script kinded
    → StandsBy old cs script (world_from origin script kinded turns) → StandsBy new ds script (world_from origin script kinded (turns ++ turn ∷ []))
does_at old new cs ds moved turn origin script kinded turns same does =
    subst (λ (z : Script). MayBegin origin z kinded → StandsBy old cs z (world_from origin z kinded turns) → StandsBy new ds z (world_from origin z kinded (turns ++ turn ∷ []))) same
    (stands_by old new cs ds moved turn origin kinded turns does)

pub round_on : (a b c d : Session) (cs ds : List Chooser) (one two three : Bool) (down up : ℕ) → DoesBy (Ok one) a b cs ds Server → down ≡ length b.down → Does (Ok two) b c (ToClient down) → up ≡ length c.up → Does (Ok three) c d (Answer up)
    → GoesRound (Ok tt) a d cs ds
unfolding round
round_on a b c d cs ds one two three down up first down_is second up_is third = (
  third.0.0,
  third.0.1 ∙ second.0.1 ∙ first.1.1,
  subst (λ n. Asks (script_of a) a.server.last n cs ds) (sym (third.1 ∙ second.1)) first.0,
  λ origin kinded turns may s.
      let script : Script = script_of a in
      let drawing : World → World = λ sent. happens script sent (ToClient (length sent.down)) in
      let hearing : World → World = λ drawn. happens script drawn (Answer (length drawn.up)) in
      let t1 : List Turn = turns ++ Server ∷ [] in
      let t2 : List Turn = t1 ++ ToClient down ∷ [] in
      let t3 : List Turn = t2 ++ Answer up ∷ [] in
      let s1 : StandsBy b ds script (world_from origin script kinded t1) = stands_by a b cs ds one Server origin kinded turns first may s in
      let s2 : StandsBy c ds script (world_from origin script kinded t2) = does_at b c ds ds two (ToClient down) origin script kinded t1 first.1.1 (by_any b c ds two (ToClient down) second) may s1 in
      let s3 : StandsBy d ds script (world_from origin script kinded t3) = does_at c d ds ds three (Answer up) origin script kinded t2 (second.0.1 ∙ first.1.1) (by_any c d ds three (Answer up) third) may s2 in
      let w1 : world_from origin script kinded t1 ≡ happens script (world_from origin script kinded turns) Server = one_more origin script kinded turns Server in
      let w2 : world_from origin script kinded t2 ≡ drawing (world_from origin script kinded t1) =
      one_more origin script kinded t1 (ToClient down) ∙ ap (λ n. happens script (world_from origin script kinded t1) (ToClient n)) (down_is ∙ ap length s1.stands.down) in
      let w3 : world_from origin script kinded t3 ≡ hearing (world_from origin script kinded t2) =
      one_more origin script kinded t2 (Answer up) ∙ ap (λ n. happens script (world_from origin script kinded t2) (Answer n)) (up_is ∙ ap length s2.stands.up) in
      (t3, (sym (w3 ∙ ap hearing w2 ∙ ap (λ z. hearing (drawing z)) w1), s3)),
  third.0.3 ∙ second.0.3 ∙ first.1.3,
)

-- the session has come so far that as many rounds are left
abbrev pub Draining : Session → Session → List Chooser → List Chooser → ℕ → Type 0
Draining start now choosers left count =
    (origin : Start) (kinded : List KindedStep) (turns : List Turn) → MayBegin origin (script_of start) kinded → StandsBy start choosers (script_of start) (world_from origin (script_of start) kinded turns)
    → (more : List Turn) × (StandsBy now left (script_of start) (world_from origin (script_of start) kinded more) × (drained (script_of start) (rounds_for (script_of start)) (world_from origin (script_of start) kinded turns) ≡ drained (script_of start) count (world_from origin (script_of start) kinded more)))

-- and is a session of the same script, with the same digests
pub record HasDrained (start now : Session) (choosers left : List Chooser) (count : ℕ) : Type 0 where
  pub is : IsSession now
  pub fresh : now.spent ≡ false
  pub same : script_of now ≡ script_of start
  pub digests : digests_of now ≡ digests_of start
  pub asks : AsksBetween start now choosers left
  pub goes : Draining start now choosers left count

-- at the start all are
pub drains_none : (start : Session) (cs : List Chooser) (count : ℕ) → IsSession start → start.spent ≡ false → count ≡ rounds_for (script_of start) → HasDrained start start cs cs count
drains_none start cs count is fresh all = record {
  is = is;
  fresh = fresh;
  same = refl;
  digests = refl;
  asks = asks_none (script_of start) start.server.last cs;
  goes = λ origin kinded turns may s. (turns, (s, ap (λ n. drained (script_of start) n (world_from origin (script_of start) kinded turns)) (sym all)));
}

goes_next : (start now next : Session) (cs ds es : List Chooser) (count less : ℕ) → count ≡ less + 1 → script_of now ≡ script_of start → Draining start now cs ds count → ((w : World) → Stands now w → false ≡ is_ended w) → GoesRound (Ok tt) now next ds es
    → Draining start next cs es less
goes_next start now next cs ds es count less fewer same before ends goes = λ origin kinded turns may s.
    let b = before origin kinded turns may s in
    let script : Script = script_of start in
    let w : World = world_from origin script kinded b.0 in
    let did = subst (λ (z : Script). MayBegin origin z kinded → StandsBy now ds z (world_from origin z kinded b.0)
    → (more : List Turn) × ((round z (world_from origin z kinded b.0) ≡ world_from origin z kinded more) × StandsBy next es z (world_from origin z kinded more))) same
    (goes.3 origin kinded b.0) may b.1.0 in (
      did.0,
      (
        did.1.1,
        b.1.1 ∙ ap (λ n. drained script n w) (fewer ∙ add-one less)
            ∙ ap (λ z. if z then w else drained script less (round script w)) (sym (ends w b.1.0.stands))
            ∙ ap (drained script less) did.1.0,
      ),
    )

pub drains_next : (start now next : Session) (cs ds es : List Chooser) (count less : ℕ) → count ≡ less + 1 → HasDrained start now cs ds count → ((w : World) → Stands now w → false ≡ is_ended w) → GoesRound (Ok tt) now next ds es → IsSession next
    → HasDrained start next cs es less
drains_next start now next cs ds es count less fewer before ends goes is = record {
  is = is;
  fresh = goes.0;
  same = goes.1 ∙ before.same;
  digests = goes.4 ∙ before.digests;
  asks = asks_on (script_of start) start.server.last now.server.last next.server.last cs ds es before.asks (subst (λ (z : Script). Asks z now.server.last next.server.last ds es) before.same goes.2);
  goes = goes_next start now next cs ds es count less fewer before.same before.goes ends goes;
}

drained_ended : (script : Script) (left : ℕ) (w : World) → is_ended w ≡ true → drained script left w ≡ w
drained_ended script zero w ended = refl
drained_ended script (suc left) w ended = ap (λ z. if z then w else drained script left (round script w)) ended

-- where a session is ended all steps were queued
all_queued : (session : Session) (origin : Start) (script : Script) (kinded : List KindedStep) (turns : List Turn) → Fits kinded script.steps → Stands session (world_from origin script kinded turns) → is_ended (world_from origin script kinded turns) ≡ true
    → session.server.last ≡ length script.steps
all_queued session origin script kinded turns fits s ended =
    let w : World = world_from origin script kinded turns in
    let served = both_true (is_none w.server.left) _ (both_true (has_served w.server) _ ended).0 in
    let none : drop w.server.last kinded ≡ [] = sym (left_behind origin script kinded turns) ∙ none_of w.server.left served.0 in
    let count : length kinded ≡ length script.steps = sym (length-map kinded (λ (one : KindedStep). one.step)) ∙ ap length fits.same in
    omega (arith, s.server.last, ap length none, length-drop w.server.last kinded, last_within_all origin script kinded turns, count)

-- no more rounds are due
pub drains : (start now : Session) (cs ds : List Chooser) (count : ℕ) → RoundsEnd → IsSession start → start.spent ≡ false → HasDrained start now cs ds count → ((w : World) → Stands now w → drained (script_of start) count w ≡ w) → Drains (Ok tt) start now cs ds
drains start now cs ds count law is fresh before rests = (
  fresh,
  before.same,
  before.asks,
  queued_all (by_choosers start cs (is.under_way fresh)),
  λ origin kinded turns may s. (stands_there origin kinded turns may s, law origin script kinded turns may),
  before.digests,
)
  where
    script : Script
    script = script_of start

    ends_there : (origin : Start) (kinded : List KindedStep) (turns : List Turn) (may : MayBegin origin script kinded) (s : StandsBy start cs script (world_from origin script kinded turns))
        → drained script (rounds_for script) (world_from origin script kinded turns) ≡ world_from origin script kinded (before.goes origin kinded turns may s).0
    ends_there origin kinded turns may s = let b = before.goes origin kinded turns may s in b.1.1 ∙ rests (world_from origin script kinded b.0) b.1.0.stands

    stands_there : (origin : Start) (kinded : List KindedStep) (turns : List Turn) (may : MayBegin origin script kinded) (s : StandsBy start cs script (world_from origin script kinded turns)) → Stands now (drained script (rounds_for script) (world_from origin script kinded turns))
    stands_there origin kinded turns may s = subst (Stands now) (sym (ends_there origin kinded turns may s)) (before.goes origin kinded turns may s).1.0.stands

    queued_all : IsUnderWayBy start cs → now.server.last ≡ length script.steps
    queued_all u =
        let b = before.goes u.origin u.kinded u.turns u.begins u.stands in
        all_queued now u.origin script u.kinded b.0 u.begins.fits b.1.0.stands (ap is_ended (sym (ends_there u.origin u.kinded u.turns u.begins u.stands)) ∙ law u.origin script u.kinded u.turns u.begins)

pub drains_ended : (start now : Session) (cs ds : List Chooser) (count : ℕ) → RoundsEnd → IsSession start → start.spent ≡ false → HasDrained start now cs ds count → ((w : World) → Stands now w → true ≡ is_ended w) → Drains (Ok tt) start now cs ds
drains_ended start now cs ds count law is fresh before ends = drains start now cs ds count law is fresh before (λ w s. drained_ended (script_of start) count w (sym (ends w s)))

pub drains_last : (start now : Session) (cs ds : List Chooser) → RoundsEnd → IsSession start → start.spent ≡ false → HasDrained start now cs ds 0 → Drains (Ok tt) start now cs ds
drains_last start now cs ds law is fresh before = drains start now cs ds 0 law is fresh before (λ w s. refl)

-- the start ----------------------------------------------------------------------------------------------------------

-- of a session that was begun so
pub starts : (session : Session) (end : ServerEnd) (client : Client) (up : List ℕ) (origin : Start) (script : Script) (kinded : List KindedStep) → IsBegun session end client up → end.script ≡ script → kept.Stands end (server_end_from origin script kinded)
    → offers_of client ≡ script.offers → StandsFrom origin.client client [] → IsDrained client → up ≡ greeting origin.confirmed script → Stands session (begin_from origin script kinded)
starts session end client up origin script kinded b same server offers stands drained first = record {
  fresh = b.fresh;
  server = subst (λ (z : ServerEnd). kept.Stands z (server_end_from origin script kinded)) (sym b.server) server;
  offers = ap offers_of b.client ∙ offers ∙ ap (λ (z : Script). z.offers) (sym same) ∙ ap (λ (z : ServerEnd). z.script.offers) (sym b.server);
  client = subst (λ (z : Client). StandsFrom origin.client z []) (sym b.client) stands;
  brought = brought_drained origin.client session.client [] (subst IsDrained (sym b.client) drained);
  drained = subst IsDrained (sym b.client) drained;
  down = b.down;
  up = b.up ∙ first;
  drawn = b.drawn;
  acks = b.acks;
}

pub is_started : (session : Session) (end : ServerEnd) (client : Client) (up : List ℕ) (origin : Start) (script : Script) (asked : Digests) → IsBegun session end client up → IsServerEnd end → end.script ≡ script → end.digests ≡ asked
    → ((kinded : List KindedStep) → Fits kinded script.steps → MayBegin origin script kinded) → ((kinded : List KindedStep) → Fits kinded script.steps → Stands session (begin_from origin script kinded)) → IsSession session × (script_of session ≡ script) × (digests_of session ≡ asked)
is_started session end client up origin script asked b server same digests begins stands =
    let all : List KindedStep = map own script.steps in
    let fits : Fits all script.steps = own_steps_fit script.steps in
    let is : script_of session ≡ script = ap (λ (z : ServerEnd). z.script) b.server ∙ same in (
      record {
        server = subst IsServerEnd (sym b.server) server;
        under_way = λ fresh. record {
          origin = origin;
          kinded = all;
          begins = subst (λ (z : Script). MayBegin origin z all) (sym is) (begins all fits);
          turns = [];
          stands = subst (λ (z : Script). Stands session (begin_from origin z all)) (sym is) (stands all fits);
        };
      },
      is,
      ap (λ (z : ServerEnd). z.digests) b.server ∙ digests,
    )

-- nothing is queued
pub last_started : (session : Session) (end : ServerEnd) (client : Client) (up : List ℕ) (origin : Start) (script : Script) → IsBegun session end client up → ((kinded : List KindedStep) → Fits kinded script.steps → kept.Stands end (server_end_from origin script kinded))
    → session.server.last ≡ 0
last_started session end client up origin script b stands = ap (λ (z : ServerEnd). z.last) b.server ∙ (stands (map own script.steps) (own_steps_fit script.steps)).last
