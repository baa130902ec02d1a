-- What a turn does is the same in a longer script, as long as the server's end finds whole script frames left.
use Rattle.std.proofs.Common.{◌≡◌, ℕ, zero, suc, ◌+◌, ◌-◌, ◌≤◌, ◌<◌, ◌==◌, Bool, true, false, ◌||◌, cond, List, [], ◌∷◌, ◌++◌, length, fold, take, drop, Option, Some, None, Ok, refl, sym, ap, ◌∙◌, subst, arith, length-append}
use Rattle.std.specs.List.{AllByRecursion, slice_get}
use Rattle.std.specs.Option.{ok_or, IfSome}
use Rattle.std.proofs.lemmas.Bool.{eqb-false}
use Rattle.std.proofs.lemmas.List.{length-map}
use Rattle.std.proofs.lemmas.List.Folds.{list_any-append}
use Rattle.std.proofs.lemmas.Option.{slice_get_within}
use Rattle.gfx_base.proofs.ResultLemmas.{and_then_ok}
use Rattle.gfx_script.specs.Checks.{Held, held_after, held_through, sides_of_all, picture_painted}
use Rattle.gfx_script.specs.declared.error.ScriptKind.{ScriptKind}
use Rattle.gfx_script.specs.declared.held.Sides.{Sides}
use Rattle.gfx_script.specs.Kinds.{KindedStep, Fits}
use Rattle.gfx_script.specs.Script.{IsAcceptedFrom, is_frame}
use Rattle.gfx_script.specs.Scripted.{Script}
use Rattle.gfx_script.specs.declared.picture.Picture.{Picture}
use Rattle.gfx_script.specs.declared.step.Step.{Step}
use Rattle.gfx_script.specs.declared.step.Step.TheVariants.{Paint}
use Rattle.gfx_script.specs.declared.turn.Turn.{Turn}
use Rattle.gfx_script.specs.declared.turn.Turn.TheVariants.{Server, Client, Answer}
use Rattle.gfx_planner.specs.Joined.{after_frame}
use Rattle.gfx_planner.proofs.Lists.{all_both}
use Rattle.gfx_planner.proofs.Streams.{bare}
use Rattle.gfx_window.specs.declared.window.Queued.{Queued}
use Rattle.gfx_schedule.specs.Feeding.{grown, with_more, world_with_more, has_frame, FindsFrame, FindFrames, LaterStepsAreNotSeen}
use Rattle.gfx_schedule.specs.Forgetting.{Sees}
use Rattle.gfx_schedule.specs.Hearing.{Heard, listening, hears}
use Rattle.gfx_schedule.specs.ServerEnd.{ScheduledEnd, first_frame, behind_frame, numbered, queued, can_send, due, with_sent, sends, bytes_sent, serves, serving}
use Rattle.gfx_schedule.specs.Sparing.{PaintsWithin}
use Rattle.gfx_schedule.specs.Starts.{Start}
use Rattle.gfx_schedule.specs.World.{World, begin_from, server_turns, client_takes, server_heard, happens}
use Rattle.gfx_schedule.proofs.FeedingScripts.{AgreesAt, sends_alike, bytes_alike}
use Rattle.gfx_schedule.proofs.Items.{frame_parts}
use Rattle.gfx_script.proofs.MoreSteps.{get_before, held_through-first, pictures_stay}
use Rattle.gfx_schedule.proofs.Unheard.{hears_by, hears_pending}
use Rattle.gfx_schedule.proofs.Unseen.{leaving, heard_leaving, hears_same, hears_keeps, queued_same, sends_same, bytes_same}

-- the first frame of more steps ----------------------------------------------------------------------------------

record SameFrame (steps more : List KindedStep) : Type 0 where
  first : first_frame (steps ++ more) ≡ first_frame steps
  behind : behind_frame (steps ++ more) ≡ behind_frame steps ++ more

frame_by : (b : Bool) (x : KindedStep) (steps more : List KindedStep) → (b || has_frame steps) ≡ true → (has_frame steps ≡ true → SameFrame steps more)
    → (x ∷ cond b [] (first_frame (steps ++ more)) ≡ x ∷ cond b [] (first_frame steps)) × (cond b (steps ++ more) (behind_frame (steps ++ more)) ≡ cond b steps (behind_frame steps) ++ more)
frame_by true x steps more has rest = (refl, refl)
frame_by false x steps more has rest = let r = rest has in (ap (λ z. x ∷ z) r.first, r.behind)

same_frame : (steps more : List KindedStep) → has_frame steps ≡ true → SameFrame steps more
same_frame [] more has = absurd cc
same_frame (x ∷ steps) more has =
    let b = frame_by (is_frame x.step) x steps more has (same_frame steps more) in
    record { first = b.0; behind = b.1 }

or_first : (a b : Bool) → a ≡ true → (a || b) ≡ true
or_first a b e = rw e refl

pub has_more : (steps more : List KindedStep) → has_frame steps ≡ true → has_frame (steps ++ more) ≡ true
has_more steps more has = list_any-append (λ (one : KindedStep). is_frame one.step) steps more ∙ or_first (has_frame steps) (has_frame more) has

-- the numbers of what waits ------------------------------------------------------------------------------------------

-- what waits has numbers of steps that were queued, and what is left are all others
pub record Inside (count : ℕ) (end : ScheduledEnd) : Type 0 where
  pub pending : AllByRecursion (λ (item : Queued). item.step ≤ end.last) end.window.pending
  pub total : end.last + length end.left ≡ count

numbers_within : (at most : ℕ) (steps : List KindedStep) → at + length steps ≤ most + 1 → AllByRecursion (λ (item : Queued). item.step ≤ most) (numbered at steps)
numbers_within at most [] le = tt
numbers_within at most (one ∷ steps) le = (omega arith, numbers_within (at + 1) most steps (omega arith))

items_within : (few most : ℕ) (items : List Queued) → few ≤ most → AllByRecursion (λ (item : Queued). item.step ≤ few) items → AllByRecursion (λ (item : Queued). item.step ≤ most) items
items_within few most [] le all = tt
items_within few most (item ∷ items) le all = (omega (arith, all.0), items_within few most items le all.1)

queued_inside : (count : ℕ) (end : ScheduledEnd) → Inside count end → Inside count (queued end)
unfolding queued
queued_inside count end inside =
    let first : List KindedStep = first_frame end.left in
    record {
      pending =
          all_both (λ (item : Queued). item.step ≤ end.last + length first) end.window.pending (numbered (end.last + 1) first)
          (items_within end.last (end.last + length first) end.window.pending (omega arith) inside.pending)
          (numbers_within (end.last + 1) (end.last + length first) first (omega arith));
      total = omega (arith, inside.total, ap length (frame_parts end.left), length-append first (behind_frame end.left));
    }

either_inside : (count : ℕ) (b : Bool) (x y : ScheduledEnd) → Inside count x → Inside count y → Inside count (cond b x y)
either_inside count true x y first second = first
either_inside count false x y first second = second

sends_inside : (count : ℕ) (script : Script) (end : ScheduledEnd) → Inside count end → Inside count (sends script end)
unfolding sends with_sent
sends_inside count script end inside =
    either_inside count (can_send end) (with_sent end (after_frame script end.server (due script end))) end (record { pending = tt; total = inside.total }) inside

hears_inside : (count : ℕ) (script : Script) (end : ScheduledEnd) (bytes : List ℕ) → Inside count end → Inside count (hears script (listening end) bytes).end
hears_inside count script end bytes inside =
    let heard : Heard = hears script (listening end) bytes in
    let keeps = hears_keeps script (listening end) bytes in
    let pending = hears_pending script (listening end) bytes in
    record {
      pending = subst (λ n. AllByRecursion (λ (item : Queued). item.step ≤ n) heard.end.window.pending) (sym keeps.1)
          (subst (AllByRecursion (λ (item : Queued). item.step ≤ end.last)) (sym pending) inside.pending);
      total = (λ i. keeps.1 i + length (keeps.0 i)) ∙ inside.total;
    }

turn_inside : (count : ℕ) (script : Script) (w : World) (turn : Turn) → Inside count w.server → Inside count (happens script w turn).server
unfolding happens server_turns client_takes server_heard
turn_inside count script w Server inside = sends_inside count script (queued w.server) (queued_inside count w.server inside)
turn_inside count script w (Client most) inside = inside
turn_inside count script w (Answer most) inside = hears_inside count script w.server (take most w.up) inside

-- a longer script ----------------------------------------------------------------------------------------------------

pub step_by : (steps more : List Step) (number : ℕ) (b : Bool) → (number == 0) ≡ b → number ≤ length steps → cond b None (slice_get (steps ++ more) (number - 1)) ≡ cond b None (slice_get steps (number - 1))
step_by steps more number true is le = refl
step_by steps more number false is le = let some = eqb-false number 0 is in get_before steps more (number - 1) (omega (arith, some))

pub got : (P : Step → Type 0) (all : List Step) (n : ℕ) → AllByRecursion P all → IfSome (slice_get all n) P
got P [] n each = tt
got P (step ∷ all) zero each = each.0
got P (step ∷ all) (suc n) each = got P all n each.1

got_at : (P : Step → Type 0) (all : List Step) (b : Bool) (n : ℕ) → AllByRecursion P all → IfSome (cond b None (slice_get all n)) P
got_at P all true n each = tt
got_at P all false n each = got P all n each

agree_before : (script : Script) (pictures : List Picture) (more : List Step) (most : ℕ) (items : List Queued) → AllByRecursion (Sees script.pictures pictures) script.steps
    → most ≤ length script.steps → AllByRecursion (λ (item : Queued). item.step ≤ most) items → AllByRecursion (AgreesAt script pictures (script.steps ++ more)) items
agree_before script pictures more most [] sees le all = tt
agree_before script pictures more most (item ∷ items) sees le all = (
  (
    step_by script.steps more item.step (item.step == 0) refl (omega (arith, all.0)),
    got_at (Sees script.pictures pictures) script.steps (item.step == 0) (item.step - 1) sees,
  ),
  agree_before script pictures more most items sees le all.1,
)

ok_or_there : {X : Type 0} (sides : List X) (n : ℕ) (o : Option X) (kind : ScriptKind) (x : X) → slice_get sides n ≡ o → ok_or o kind ≡ Ok x → n < length sides
ok_or_there sides n None kind x is ok = absurd cc
ok_or_there sides n (Some y) kind x is ok = slice_get_within sides n y is

-- so does each that passes the checks
names : (held after : Held) (step : Step) → held_after held step ≡ Ok after → PaintsWithin (length held.pictures) step
unfolding held_after picture_painted
names held after (Paint id picture at kind glyph) ok =
    let first = and_then_ok _ _ after ok in
    let second = and_then_ok _ _ after first.2 in
    ok_or_there held.pictures picture (slice_get held.pictures picture) _ second.0 refl second.1
names held after step ok = tt

pub all_name : (held after : Held) (steps : List Step) → held_through held steps ≡ Ok after → AllByRecursion (PaintsWithin (length held.pictures)) steps
all_name held after [] ok = tt
all_name held after (step ∷ steps) ok =
    let c = held_through-first held after step steps ok in
    (names held c.0 step c.1, subst (λ sides. AllByRecursion (PaintsWithin (length sides)) steps) (pictures_stay held c.0 step c.1) (all_name c.0 after steps c.2))

sees_before : (pictures more : List Picture) (sides : List Sides) (step : Step) → length sides ≤ length pictures → PaintsWithin (length sides) step → Sees pictures (pictures ++ more) step
sees_before pictures more sides (Paint id picture at named glyph) le name = get_before pictures more picture (omega (arith, name))
sees_before pictures more sides step le name = tt

pub all_see : (pictures more : List Picture) (sides : List Sides) (steps : List Step) → length sides ≤ length pictures → AllByRecursion (PaintsWithin (length sides)) steps → AllByRecursion (Sees pictures (pictures ++ more)) steps
all_see pictures more sides [] le names = tt
all_see pictures more sides (step ∷ steps) le names = (sees_before pictures more sides step le names.0, all_see pictures more sides steps le names.1)

-- each step of an accepted script sees the same picture when more come
pub sees_all : (held : Held) (script : Script) (more : List Picture) → IsAcceptedFrom held script → held.pictures ≡ sides_of_all script.pictures → AllByRecursion (Sees script.pictures (script.pictures ++ more)) script.steps
sees_all held script more good same =
    all_see script.pictures more held.pictures script.steps
    (omega (arith, ap length same, length-map script.pictures (λ (picture : Picture). let sides : Sides = record { width = picture.width; height = picture.height } in sides)))
    (all_name held good.held script.steps good.checked)

-- one turn -------------------------------------------------------------------------------------------------------------

module _ (script : Script) (pictures : List Picture) (more : List KindedStep) (sees : AllByRecursion (Sees script.pictures (script.pictures ++ pictures)) script.steps) where
  abbrev later : Script
  later = grown script pictures more

  agrees_here : (end : ScheduledEnd) → Inside (length script.steps) end → AllByRecursion (AgreesAt script (script.pictures ++ pictures) (script.steps ++ bare more)) end.window.pending
  agrees_here end inside = agree_before script (script.pictures ++ pictures) (bare more) end.last end.window.pending sees (omega (arith, inside.total)) inside.pending

  pub queued_more : (end : ScheduledEnd) → has_frame end.left ≡ true → queued (with_more end more) ≡ with_more (queued end) more
  unfolding queued
  queued_more end has =
      let same = same_frame end.left more has in
      queued_same end (end.left ++ more) (behind_frame end.left ++ more) same.first same.behind

  server_more : (w : World) → Inside (length script.steps) w.server → has_frame w.server.left ≡ true → server_turns later (world_with_more w more) ≡ world_with_more (server_turns script w) more
  unfolding server_turns
  server_more w inside has =
      let end : ScheduledEnd = w.server in
      let ready : ScheduledEnd = queued end in
      let queue = queued_more end has in
      let here = queued_inside (length script.steps) end inside in
      let keeps : (sends script ready).left ≡ ready.left = ap (λ z. z.left) (sends_same script ready ready.left) in
      let last : (sends script ready).last ≡ ready.last = ap (λ z. z.last) (sends_same script ready ready.left) in
      let server : serves later (with_more end more) ≡ with_more (serves script end) more =
      ap (sends later) queue ∙ sends_same later ready (ready.left ++ more) ∙ ap (leaving (ready.left ++ more) ready.last) (sends_alike script (script.pictures ++ pictures) (script.steps ++ bare more) ready (agrees_here ready here))
      ∙ (λ i. leaving (sym keeps i ++ more) (sym last i) (sends script ready)) in
      let bytes : serving later (with_more end more) ≡ serving script end = ap (bytes_sent later) queue ∙ bytes_same later ready (ready.left ++ more) ∙ bytes_alike script (script.pictures ++ pictures) (script.steps ++ bare more) ready (agrees_here ready here) in
      λ i. record w { server = server i; down = w.down ++ bytes i }

  heard_more : (w : World) (bytes rest : List ℕ)
      → server_heard (world_with_more w more) (hears later (listening (with_more w.server more)) bytes) rest ≡ world_with_more (server_heard w (hears script (listening w.server) bytes) rest) more
  unfolding server_heard
  heard_more w bytes rest =
      let heard : Heard = hears script (listening w.server) bytes in
      let keeps = hears_keeps script (listening w.server) bytes in
      let is : hears later (listening (with_more w.server more)) bytes ≡ heard_leaving (heard.end.left ++ more) heard.end.last heard =
      hears_by script (script.pictures ++ pictures) (script.steps ++ bare more) (listening (with_more w.server more)) bytes
      ∙ hears_same script (w.server.left ++ more) w.server.last (listening w.server) bytes
      ∙ (λ i. heard_leaving (sym keeps.0 i ++ more) (sym keeps.1 i) heard) in
      ap (λ z. server_heard (world_with_more w more) z rest) is

  client_more : (w : World) (bytes rest : List ℕ) → client_takes (world_with_more w more) bytes rest ≡ world_with_more (client_takes w bytes rest) more
  unfolding client_takes
  client_more w bytes rest = refl

  turn_more : (w : World) (turn : Turn) → Inside (length script.steps) w.server → FindsFrame w turn → happens later (world_with_more w more) turn ≡ world_with_more (happens script w turn) more
  unfolding happens
  turn_more w Server inside finds = server_more w inside finds
  turn_more w (Client most) inside finds = client_more w (take most w.down) (drop most w.down)
  turn_more w (Answer most) inside finds = heard_more w (take most w.up) (drop most w.up)

  finds_more : (w : World) (turn : Turn) → FindsFrame w turn → FindsFrame (world_with_more w more) turn
  finds_more w Server finds = has_more w.server.left more finds
  finds_more w (Client most) finds = tt
  finds_more w (Answer most) finds = tt

  -- all turns, and each finds a frame in the longer script too
  pub turns_more : (w : World) (turns : List Turn) → Inside (length script.steps) w.server → FindFrames script w turns
      → (fold (happens later) (world_with_more w more) turns ≡ world_with_more (fold (happens script) w turns) more) × FindFrames later (world_with_more w more) turns
  turns_more w [] inside finds = (refl, tt)
  turns_more w (turn ∷ turns) inside finds =
      let first = turn_more w turn inside finds.0 in
      let rest = turns_more (happens script w turn) turns (turn_inside (length script.steps) script w turn inside) finds.1 in
      (ap (λ z. fold (happens later) z turns) first ∙ rest.0, (finds_more w turn finds.0, subst (λ z. FindFrames later z turns) (sym first) rest.1))

pub begin_inside : (start : Start) (script : Script) (kinded : List KindedStep) → Fits kinded script.steps → Inside (length script.steps) (begin_from start script kinded).server
begin_inside start script kinded fits = record {
  pending = tt;
  total = omega (arith, ap length fits.same, length-map kinded (λ (one : KindedStep). one.step));
}

pub later_steps_are_not_seen : LaterStepsAreNotSeen
later_steps_are_not_seen start script kinded pictures more turns good fits same finds =
    (turns_more script pictures more (sees_all start.held script pictures good same) (begin_from start script kinded) turns (begin_inside start script kinded fits) finds).0
