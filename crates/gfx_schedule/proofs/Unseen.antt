-- What kinds the steps go as that aren't queued yet isn't seen by anything else.
use Rattle.std.proofs.Common.{◌≡◌, ℕ, ◌+◌, ◌≤◌, Bool, true, false, ◌&&◌, not, cond, List, [], ◌∷◌, ◌++◌, length, fold, map, take, drop, is_some, Option, Some, None, Result, Ok, Err, refl, sym, ap, ◌∙◌, arith, length-append}
use Rattle.std.proofs.lemmas.List.{drop-drop, drop-map, drop-take, length-drop, take-take}
use Rattle.std.proofs.Math.Seq.{take-append_seam, drop-append_seam}
use Rattle.gfx_base.specs.declared.refusal.Refusal.{Refusal}
use Rattle.gfx_base.specs.declared.refusal.Refusal.TheVariants.{CapsVersion}
use Rattle.gfx_caps.specs.Choice.{binds_small, choice}
use Rattle.gfx_caps.specs.Reading.{client_of}
use Rattle.gfx_caps.specs.declared.choice.Chosen.{Chosen}
use Rattle.gfx_caps.specs.declared.message.ClientPdu.{ClientPdu}
use Rattle.gfx_caps.specs.declared.message.ClientPdu.TheVariants.{Advertise, Ack, ImportOffer, QoeAck}
use Rattle.gfx_script.specs.Kinds.{KindedStep}
use Rattle.gfx_script.specs.Script.{is_frame}
use Rattle.gfx_script.specs.Scripted.{Script}
use Rattle.gfx_script.specs.declared.turn.Turn.{Turn}
use Rattle.gfx_script.specs.declared.turn.Turn.TheVariants.{Server, Client, Answer}
use Rattle.gfx_segment.specs.Framing.{Front, Whole, Short, Bad, front}
use Rattle.gfx_state.specs.Sending.{sent}
use Rattle.gfx_planner.specs.Joined.{after_frame}
use Rattle.gfx_planner.proofs.Streams.{bare}
use Rattle.gfx_window.specs.Window.{Window, with_pending, acknowledged}
use Rattle.gfx_window.specs.declared.window.AckUnknown.{AckUnknown}
use Rattle.gfx_schedule.specs.Hearing.{Heard, listening, stop, confirm, confirms, acknowledges, declines, told, judge, hear, hears}
use Rattle.gfx_schedule.specs.ServerEnd.{ScheduledEnd, Refused, first_frame, behind_frame, numbered, queued, can_send, due, with_sent, sends, bytes_sent, serves}
use Rattle.gfx_schedule.specs.Starts.{Start}
use Rattle.gfx_schedule.specs.World.{World, begin_from, server_turns, client_takes, server_heard, happens, world_from}
use Rattle.gfx_schedule.proofs.Items.{frame_parts}

-- the same world, with other steps left
abbrev pub with_left : List KindedStep → World → World
with_left left w = record w { server = record w.server { left = left } }

-- the same server's end, with other steps left and another number of the last step that was queued
abbrev pub leaving : List KindedStep → ℕ → ScheduledEnd → ScheduledEnd
leaving left last end = record end { left = left; last = last }

abbrev pub heard_leaving : List KindedStep → ℕ → Heard → Heard
heard_leaving left last heard = record heard { end = leaving left last heard.end }

-- listening looks at neither --------------------------------------------------------------------------------------

either_heard : (left : List KindedStep) (last : ℕ) (b : Bool) (x y : Heard) → cond b (heard_leaving left last x) (heard_leaving left last y) ≡ heard_leaving left last (cond b x y)
either_heard left last true x y = refl
either_heard left last false x y = refl

confirms_same : (script : Script) (left : List KindedStep) (last : ℕ) (heard : Heard) (chosen : Result Chosen Refusal) → confirms script (heard_leaving left last heard) chosen ≡ heard_leaving left last (confirms script heard chosen)
unfolding confirms
confirms_same script left last heard (Err r) = refl
confirms_same script left last heard (Ok chosen) =
    either_heard left last (binds_small chosen.flags && not script.small) (stop heard (Refused CapsVersion)) (record heard { end = record heard.end { confirmed = true }; out = heard.out ++ sent (confirm chosen ∷ []) })

acknowledges_same : (left : List KindedStep) (last : ℕ) (heard : Heard) (frame : ℕ) (found : Result (Option ℕ × Window) AckUnknown) → acknowledges (heard_leaving left last heard) frame found ≡ heard_leaving left last (acknowledges heard frame found)
unfolding acknowledges
acknowledges_same left last heard frame (Err unknown) = refl
acknowledges_same left last heard frame (Ok (None, window)) = refl
acknowledges_same left last heard frame (Ok (Some step, window)) = refl

declines_same : (left : List KindedStep) (last : ℕ) (heard : Heard) (confirmed : Bool) → declines (heard_leaving left last heard) confirmed ≡ heard_leaving left last (declines heard confirmed)
unfolding declines
declines_same left last heard true = refl
declines_same left last heard false = refl

told_same : (script : Script) (left : List KindedStep) (last : ℕ) (heard : Heard) (word : Result ClientPdu Refusal) → told script (heard_leaving left last heard) word ≡ heard_leaving left last (told script heard word)
unfolding told
told_same script left last heard (Err r) = refl
told_same script left last heard (Ok (Advertise sets)) = confirms_same script left last heard (choice sets)
told_same script left last heard (Ok (Ack depth frame total)) = acknowledges_same left last heard frame (acknowledged heard.end.window heard.end.window.flying depth frame)
told_same script left last heard (Ok (ImportOffer entries)) = declines_same left last heard heard.end.confirmed
told_same script left last heard (Ok (QoeAck frame timestamp decoding rendering)) = refl

judge_same : (script : Script) (left : List KindedStep) (last : ℕ) (heard : Heard) (bytes : List ℕ) (found : Front) → judge script (heard_leaving left last heard) bytes found ≡ heard_leaving left last (judge script heard bytes found)
unfolding judge
judge_same script left last heard bytes (Whole message after) = told_same script left last (record heard { end = record heard.end { heard = after } }) (client_of message)
judge_same script left last heard bytes Short = refl
judge_same script left last heard bytes Bad = refl

hear_same : (script : Script) (left : List KindedStep) (last : ℕ) (heard : Heard) (byte : ℕ) → hear script (heard_leaving left last heard) byte ≡ heard_leaving left last (hear script heard byte)
unfolding hear
hear_same script left last heard byte =
    let bytes : List ℕ = heard.end.heard ++ byte ∷ [] in
    ap (cond (is_some heard.end.stopped) (heard_leaving left last heard)) (judge_same script left last heard bytes (front bytes))
    ∙ either_heard left last (is_some heard.end.stopped) heard (judge script heard bytes (front bytes))

pub hears_same : (script : Script) (left : List KindedStep) (last : ℕ) (heard : Heard) (bytes : List ℕ) → hears script (heard_leaving left last heard) bytes ≡ heard_leaving left last (hears script heard bytes)
unfolding hears
hears_same script left last heard [] = refl
hears_same script left last heard (byte ∷ bytes) = ap (λ z. fold (hear script) z bytes) (hear_same script left last heard byte) ∙ hears_same script left last (hear script heard byte) bytes

-- and so it changes neither
pub hears_keeps : (script : Script) (heard : Heard) (bytes : List ℕ) → ((hears script heard bytes).end.left ≡ heard.end.left) × ((hears script heard bytes).end.last ≡ heard.end.last)
hears_keeps script heard bytes =
    let same = hears_same script heard.end.left heard.end.last heard bytes in
    (ap (λ z. z.end.left) same, ap (λ z. z.end.last) same)

-- a script frame ------------------------------------------------------------------------------------------------

front_is : (steps : List KindedStep) → take (length (first_frame steps)) steps ≡ first_frame steps
front_is steps = ap (take (length (first_frame steps))) (sym (frame_parts steps)) ∙ take-append_seam (first_frame steps) (behind_frame steps)

behind_is : (steps : List KindedStep) → drop (length (first_frame steps)) steps ≡ behind_frame steps
behind_is steps = ap (drop (length (first_frame steps))) (sym (frame_parts steps)) ∙ drop-append_seam (first_frame steps) (behind_frame steps)

as_long : (b : Bool) (one other : KindedStep) (xs ys : List KindedStep) → length xs ≡ length ys → length (one ∷ cond b [] xs) ≡ length (other ∷ cond b [] ys)
as_long true one other xs ys e = refl
as_long false one other xs ys e = omega (arith, e)

-- steps that differ in kinds alone make a first frame of as many steps
first_as_long : (some others : List KindedStep) → bare some ≡ bare others → length (first_frame some) ≡ length (first_frame others)
first_as_long [] [] same = refl
first_as_long [] (y ∷ others) same = absurd cc
first_as_long (x ∷ some) [] same = absurd cc
first_as_long (x ∷ some) (y ∷ others) same =
    let step : x.step ≡ y.step = cc in
    let rest : bare some ≡ bare others = cc in
    ap (λ z. length (x ∷ cond (is_frame z) [] (first_frame some))) step ∙ as_long (is_frame y.step) x y (first_frame some) (first_frame others) (first_as_long some others rest)

-- and where they don't differ in that many, the first frame is the same
same_frame : (some others : List KindedStep) → bare some ≡ bare others → take (length (first_frame others)) some ≡ take (length (first_frame others)) others
    → (first_frame some ≡ first_frame others) × (behind_frame some ≡ drop (length (first_frame others)) some)
same_frame some others same agree =
    let long = first_as_long some others same in
    (sym (front_is some) ∙ ap (λ n. take n some) long ∙ agree ∙ front_is others, sym (behind_is some) ∙ ap (λ n. drop n some) long)

-- queueing and sending ------------------------------------------------------------------------------------------

-- so many steps are queued next
abbrev pub next_count : ScheduledEnd → ℕ
next_count end = length (first_frame end.left)

pub queued_same : (end : ScheduledEnd) (left behind : List KindedStep) → first_frame left ≡ first_frame end.left → behind_frame left ≡ behind → queued (leaving left end.last end) ≡ leaving behind (end.last + next_count end) (queued end)
unfolding queued
queued_same end left behind first rest =
    λ i. record end {
      left = rest i;
      last = end.last + length (first i);
      window = with_pending end.window (end.window.pending ++ numbered (end.last + 1) (first i));
    }

either_end : (left : List KindedStep) (last : ℕ) (b : Bool) (x y : ScheduledEnd) → cond b (leaving left last x) (leaving left last y) ≡ leaving left last (cond b x y)
either_end left last true x y = refl
either_end left last false x y = refl

-- sending doesn't look at the steps that are left
pub sends_same : (script : Script) (end : ScheduledEnd) (left : List KindedStep) → sends script (leaving left end.last end) ≡ leaving left end.last (sends script end)
unfolding sends with_sent
sends_same script end left = either_end left end.last (can_send end) (with_sent end (after_frame script end.server (due script end))) end

pub bytes_same : (script : Script) (end : ScheduledEnd) (left : List KindedStep) → bytes_sent script (leaving left end.last end) ≡ bytes_sent script end
unfolding bytes_sent
bytes_same script end left = refl

-- what a turn of the server's end leaves
record Serves (script : Script) (end : ScheduledEnd) : Type 0 where
  left : (serves script end).left ≡ behind_frame end.left
  last : (serves script end).last ≡ end.last + next_count end

serves_leaves : (script : Script) (end : ScheduledEnd) → Serves script end
unfolding queued
serves_leaves script end =
    let same = sends_same script (queued end) (queued end).left in
    record { left = ap (λ z. z.left) same; last = ap (λ z. z.last) same }

-- what stands behind what was queued ----------------------------------------------------------------------------

record Behind (kinded : List KindedStep) (w : World) : Type 0 where
  left : w.server.left ≡ drop w.server.last kinded
  within : w.server.last ≤ length kinded

server_behind : (script : Script) (kinded : List KindedStep) (w : World) → Behind kinded w → Behind kinded (server_turns script w)
unfolding server_turns
server_behind script kinded w behind =
    let s = serves_leaves script w.server in
    let count : ℕ = next_count w.server in
    let few : count ≤ length w.server.left = omega (arith, ap length (frame_parts w.server.left), length-append (first_frame w.server.left) (behind_frame w.server.left)) in
    record {
      left = s.left ∙ sym (behind_is w.server.left) ∙ ap (drop count) behind.left ∙ drop-drop count w.server.last kinded ∙ ap (λ n. drop n kinded) (sym s.last);
      within = omega (arith, s.last, few, ap length behind.left, length-drop w.server.last kinded, behind.within);
    }

client_behind : (kinded : List KindedStep) (w : World) (bytes rest : List ℕ) → Behind kinded w → Behind kinded (client_takes w bytes rest)
unfolding client_takes
client_behind kinded w bytes rest behind = record { left = behind.left; within = behind.within }

heard_behind : (script : Script) (kinded : List KindedStep) (w : World) (bytes rest : List ℕ) → Behind kinded w → Behind kinded (server_heard w (hears script (listening w.server) bytes) rest)
unfolding server_heard
heard_behind script kinded w bytes rest behind =
    let same = hears_keeps script (listening w.server) bytes in
    record { left = same.0 ∙ behind.left ∙ ap (λ n. drop n kinded) (sym same.1); within = omega (arith, same.1, behind.within) }

turn_behind : (script : Script) (kinded : List KindedStep) (w : World) (turn : Turn) → Behind kinded w → Behind kinded (happens script w turn)
unfolding happens
turn_behind script kinded w Server behind = server_behind script kinded w behind
turn_behind script kinded w (Client most) behind = client_behind kinded w (take most w.down) (drop most w.down) behind
turn_behind script kinded w (Answer most) behind = heard_behind script kinded w (take most w.up) (drop most w.up) behind

all_behind : (script : Script) (kinded : List KindedStep) (w : World) (turns : List Turn) → Behind kinded w → Behind kinded (fold (happens script) w turns)
all_behind script kinded w [] behind = behind
all_behind script kinded w (turn ∷ turns) behind = all_behind script kinded (happens script w turn) turns (turn_behind script kinded w turn behind)

start_behind : (start : Start) (script : Script) (kinded : List KindedStep) → Behind kinded (begin_from start script kinded)
start_behind start script kinded = record { left = refl; within = omega arith }

-- what is left is what stands behind what was queued
pub left_behind : (start : Start) (script : Script) (kinded : List KindedStep) (turns : List Turn) → (world_from start script kinded turns).server.left ≡ drop (world_from start script kinded turns).server.last kinded
left_behind start script kinded turns = (all_behind script kinded (begin_from start script kinded) turns (start_behind start script kinded)).left

-- no more were queued than there are
pub last_within_all : (start : Start) (script : Script) (kinded : List KindedStep) (turns : List Turn) → (world_from start script kinded turns).server.last ≤ length kinded
last_within_all start script kinded turns = (all_behind script kinded (begin_from start script kinded) turns (start_behind start script kinded)).within

-- what was queued stays queued ----------------------------------------------------------------------------------

turn_rises : (script : Script) (w : World) (turn : Turn) → w.server.last ≤ (happens script w turn).server.last
unfolding happens server_turns client_takes server_heard
turn_rises script w Server = omega (arith, (serves_leaves script w.server).last)
turn_rises script w (Client most) = omega arith
turn_rises script w (Answer most) = omega (arith, (hears_keeps script (listening w.server) (take most w.up)).1)

pub last_rises : (script : Script) (w : World) (turns : List Turn) → w.server.last ≤ (fold (happens script) w turns).server.last
last_rises script w [] = omega arith
last_rises script w (turn ∷ turns) = omega (arith, turn_rises script w turn, last_rises script (happens script w turn) turns)

-- nothing else sees what is left --------------------------------------------------------------------------------

bare_behind : (n : ℕ) (steps : List KindedStep) → bare (drop n steps) ≡ drop n (bare steps)
bare_behind n steps = sym (drop-map (λ (one : KindedStep). one.step) n steps)

-- other steps behind what was queued, in a world of these steps
abbrev others_left : List KindedStep → World → World
others_left other w = with_left (drop w.server.last other) w

server_unseen : (script : Script) (kinded other : List KindedStep) (w : World) → bare other ≡ bare kinded → Behind kinded w
    → take (server_turns script w).server.last other ≡ take (server_turns script w).server.last kinded → server_turns script (others_left other w) ≡ others_left other (server_turns script w)
unfolding server_turns queued
server_unseen script kinded other w same behind agree =
    let end : ScheduledEnd = w.server in
    let s = serves_leaves script end in
    let count : ℕ = next_count end in
    let left : List KindedStep = drop end.last other in
    let steps : bare left ≡ bare end.left =
    bare_behind end.last other ∙ ap (drop end.last) same ∙ sym (bare_behind end.last kinded) ∙ ap bare (sym behind.left) in
    let next : take count left ≡ take count end.left =
    sym (drop-take end.last count other) ∙ ap (λ n. drop end.last (take n other)) (sym s.last) ∙ ap (drop end.last) agree ∙ ap (λ n. drop end.last (take n kinded)) s.last ∙ drop-take end.last count kinded ∙ ap (take count) (sym behind.left) in
    let f = same_frame left end.left steps next in
    let queued_is : queued (leaving left end.last end) ≡ leaving (drop count left) (end.last + count) (queued end) = queued_same end left (drop count left) f.0 f.1 in
    let rest : drop count left ≡ drop (serves script end).last other = drop-drop count end.last other ∙ ap (λ n. drop n other) (sym s.last) in
    let server : serves script (leaving left end.last end) ≡ leaving (drop (serves script end).last other) (serves script end).last (serves script end) =
    ap (sends script) queued_is ∙ sends_same script (queued end) (drop count left) ∙ (λ i. leaving (rest i) (sym s.last i) (serves script end)) in
    let bytes : bytes_sent script (queued (leaving left end.last end)) ≡ bytes_sent script (queued end) = ap (bytes_sent script) queued_is ∙ bytes_same script (queued end) (drop count left) in
    λ i. record w { server = server i; down = w.down ++ bytes i }

client_unseen : (other : List KindedStep) (w : World) (bytes rest : List ℕ) → client_takes (others_left other w) bytes rest ≡ others_left other (client_takes w bytes rest)
unfolding client_takes
client_unseen other w bytes rest = refl

heard_unseen : (script : Script) (other : List KindedStep) (w : World) (bytes rest : List ℕ)
    → server_heard (others_left other w) (hears script (listening (others_left other w).server) bytes) rest ≡ others_left other (server_heard w (hears script (listening w.server) bytes) rest)
unfolding server_heard
heard_unseen script other w bytes rest =
    let heard : Heard = hears script (listening w.server) bytes in
    let left : List KindedStep = drop w.server.last other in
    let last = (hears_keeps script (listening w.server) bytes).1 in
    let is : hears script (listening (others_left other w).server) bytes ≡ heard_leaving (drop heard.end.last other) heard.end.last heard =
    hears_same script left w.server.last (listening w.server) bytes ∙ (λ i. heard_leaving (drop (sym last i) other) (sym last i) heard) in
    ap (λ z. server_heard w z rest) is

turn_unseen : (script : Script) (kinded other : List KindedStep) (w : World) (turn : Turn) → bare other ≡ bare kinded → Behind kinded w
    → take (happens script w turn).server.last other ≡ take (happens script w turn).server.last kinded → happens script (others_left other w) turn ≡ others_left other (happens script w turn)
unfolding happens
turn_unseen script kinded other w Server same behind agree = server_unseen script kinded other w same behind agree
turn_unseen script kinded other w (Client most) same behind agree = client_unseen other w (take most w.down) (drop most w.down)
turn_unseen script kinded other w (Answer most) same behind agree = heard_unseen script other w (take most w.up) (drop most w.up)

all_unseen : (script : Script) (kinded other : List KindedStep) (w : World) (turns : List Turn) → bare other ≡ bare kinded → Behind kinded w
    → take (fold (happens script) w turns).server.last other ≡ take (fold (happens script) w turns).server.last kinded → fold (happens script) (others_left other w) turns ≡ others_left other (fold (happens script) w turns)
all_unseen script kinded other w [] same behind agree = refl
all_unseen script kinded other w (turn ∷ turns) same behind agree =
    let next : World = happens script w turn in
    let last : ℕ = (fold (happens script) next turns).server.last in
    let rises = last_rises script next turns in
    let now : take next.server.last other ≡ take next.server.last kinded =
    sym (take-take next.server.last last other rises) ∙ ap (take next.server.last) agree ∙ take-take next.server.last last kinded rises in
    ap (λ z. fold (happens script) z turns) (turn_unseen script kinded other w turn same behind now) ∙ all_unseen script kinded other next turns same (turn_behind script kinded w turn behind) agree

-- steps that are the same, and go as the same kinds as far as they were queued, make the same session
pub unseen : (start : Start) (script : Script) (kinded other : List KindedStep) (turns : List Turn)
    → map (λ (one : KindedStep). one.step) other ≡ map (λ (one : KindedStep). one.step) kinded
    → take (world_from start script kinded turns).server.last other ≡ take (world_from start script kinded turns).server.last kinded
    → world_from start script other turns ≡ with_left (drop (world_from start script kinded turns).server.last other) (world_from start script kinded turns)
unseen start script kinded other turns same agree = all_unseen script kinded other (begin_from start script kinded) turns same (start_behind start script kinded) agree
