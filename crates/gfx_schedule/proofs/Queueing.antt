-- What a turn of the server's end does that can't send: it only queues. To the other turns it makes no difference when that
-- is done, and where nothing is left to queue, it is the client that is waited for.
use Rattle.std.proofs.Common.{◌≡◌, ℕ, ◌+◌, ◌==◌, Bool, true, false, ◌&&◌, not, cond, List, [], ◌∷◌, ◌++◌, length, refl, sym, ap, ◌∙◌, arith}
use Rattle.std.proofs.lemmas.Bool.{ne_eqb}
use Rattle.std.proofs.lemmas.List.{append-nil}
use Rattle.gfx_script.specs.Kinds.{KindedStep}
use Rattle.gfx_script.specs.Scripted.{Script}
use Rattle.gfx_state.specs.Sending.{sent}
use Rattle.gfx_planner.specs.Joined.{frame_of, after_frame}
use Rattle.gfx_window.specs.Window.{has_room, with_pending}
use Rattle.gfx_window.specs.declared.window.Queued.{Queued}
use Rattle.gfx_schedule.specs.Feeding.{WaitingWaitsForTheClient}
use Rattle.gfx_schedule.specs.Hearing.{Heard, listening, hears}
use Rattle.gfx_schedule.specs.ServerEnd.{ScheduledEnd, first_frame, behind_frame, numbered, queued, can_send, due, is_none, with_sent, sends, bytes_sent}
use Rattle.gfx_schedule.specs.World.{World, server_turns, client_takes, server_heard}
use Rattle.gfx_schedule.proofs.Unheard.{heard_waits, hears_waits, hears_pending}
use Rattle.gfx_schedule.proofs.Unseen.{heard_leaving, hears_same, hears_keeps}

-- a world whose server's end has queued the next script frame as well
abbrev pub queue_in : World → World
queue_in w = record w { server = queued w.server }

-- other turns ------------------------------------------------------------------------------------------------------------

abbrev heard_queued : Heard → Heard
heard_queued heard = record heard { end = queued heard.end }

-- listening doesn't look at what was queued
hears_queued : (script : Script) (end : ScheduledEnd) (bytes : List ℕ) → hears script (listening (queued end)) bytes ≡ heard_queued (hears script (listening end) bytes)
unfolding queued
hears_queued script end bytes =
    let items : List Queued = end.window.pending ++ numbered (end.last + 1) (first_frame end.left) in
    let left : List KindedStep = behind_frame end.left in
    let last : ℕ = end.last + length (first_frame end.left) in
    let heard : Heard = hears script (listening end) bytes in
    let keeps = hears_keeps script (listening end) bytes in
    let pending = hears_pending script (listening end) bytes in
    hears_same script left last (heard_waits items (listening end)) bytes
    ∙ ap (heard_leaving left last) (hears_waits script items (listening end) bytes)
    ∙ (λ i. heard_leaving (behind_frame (sym keeps.0 i)) (sym keeps.1 i + length (first_frame (sym keeps.0 i)))
    (heard_waits (sym pending i ++ numbered (sym keeps.1 i + 1) (first_frame (sym keeps.0 i))) heard))

pub client_queued : (w : World) (bytes rest : List ℕ) → client_takes (queue_in w) bytes rest ≡ queue_in (client_takes w bytes rest)
unfolding client_takes
client_queued w bytes rest = refl

pub answer_queued : (script : Script) (w : World) (bytes rest : List ℕ) → server_heard (queue_in w) (hears script (listening (queued w.server)) bytes) rest ≡ queue_in (server_heard w (hears script (listening w.server) bytes) rest)
unfolding server_heard
answer_queued script w bytes rest = ap (λ z. server_heard (queue_in w) z rest) (hears_queued script w.server bytes)

-- a turn of the server's end ---------------------------------------------------------------------------------------------

-- one that can't send only queues
pub serve_queues : (script : Script) (w : World) → can_send (queued w.server) ≡ false → server_turns script w ≡ queue_in w
unfolding server_turns sends bytes_sent
serve_queues script w cannot =
    let end : ScheduledEnd = queued w.server in
    let down : w.down ++ cond (can_send end) (sent (frame_of script end.server (due script end))) [] ≡ w.down =
    ap (λ b. w.down ++ cond b (sent (frame_of script end.server (due script end))) []) cannot ∙ append-nil w.down in
    λ i. record w { server = cond (cannot i) (with_sent end (after_frame script end.server (due script end))) end; down = down i }

-- and one that can leaves nothing that waits
pub serve_clears : (script : Script) (w : World) → can_send (queued w.server) ≡ true → (server_turns script w).server.window.pending ≡ []
unfolding server_turns sends with_sent
serve_clears script w can =
    let end : ScheduledEnd = queued w.server in
    ap (λ b. (cond b (with_sent end (after_frame script end.server (due script end))) end).window.pending) can

-- with nothing left nothing is queued
pub nothing_queued : (end : ScheduledEnd) → end.left ≡ [] → queued end ≡ end
unfolding queued
nothing_queued end none =
    let last : end.last + length (first_frame []) ≡ end.last = omega arith in
    (λ i. record end {
      left = behind_frame (none i);
      last = end.last + length (first_frame (none i));
      window = with_pending end.window (end.window.pending ++ numbered (end.last + 1) (first_frame (none i)));
    })
    ∙ (λ i. record end { left = sym none i; last = last i; window = with_pending end.window (append-nil end.window.pending i) })

-- waiting ----------------------------------------------------------------------------------------------------------------

none_first : (left sends : Bool) → not (left && not sends) ≡ false → (left ≡ true) × (sends ≡ false)
none_first true false e = (refl, refl)
none_first true true e = absurd cc
none_first false sends e = absurd cc

is_nothing : (steps : List KindedStep) → is_none steps ≡ true → steps ≡ []
is_nothing [] e = refl
is_nothing (one ∷ steps) e = let some : (length (one ∷ steps) == 0) ≡ false = ne_eqb (length (one ∷ steps)) 0 (λ e. omega arith) in let wrong : true ≡ false = sym e ∙ some in absurd cc

blocked : (confirmed none room : Bool) → none ≡ false → (confirmed && (not none && room)) ≡ false → (confirmed && room) ≡ false
blocked confirmed true room is e = absurd cc
blocked confirmed false room is e = e

pub waiting_waits_for_the_client : WaitingWaitsForTheClient
waiting_waits_for_the_client end cannot some =
    let both = none_first (is_none end.left) (can_send (queued end)) cannot in
    blocked end.confirmed (is_none end.window.pending) (has_room end.window) some (ap can_send (sym (nothing_queued end (is_nothing end.left both.0))) ∙ both.1)
