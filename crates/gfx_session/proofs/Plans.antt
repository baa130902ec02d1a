-- A server's end that is in step with its script: what may go as a frame, the start, and choosers that are brought.
use Rattle.std.proofs.Common.{◌≡◌, ◌+◌, ◌≤◌, ◌<◌, Bool, true, false, ◌&&◌, not, List, [], ◌∷◌, ◌++◌, length, drop, map, Some, IsSome, Ok, refl, sym, ap, ◌∙◌, subst, append_assoc, arith, length-append}
use Rattle.std.specs.List.{AllByRecursion}
use Rattle.std.specs.Option.{option_map}
use Rattle.std.proofs.Math.Seq.{drop-append_seam}
use Rattle.std.proofs.lemmas.Bool.{ne_eqb}
use Rattle.std.proofs.lemmas.List.{map-append, length-map}
use Rattle.gfx_chooser.specs.Choosing.{Chooser}
use Rattle.gfx_chooser.specs.Kinded.{kinded as chosen}
use Rattle.gfx_chooser.proofs.Asking.{bare_kinded, kinds_kinded}
use Rattle.gfx_planner.specs.Want.{want_from}
use Rattle.gfx_planner.specs.Planned.{Planned, ready}
use Rattle.gfx_planner.specs.Joined.{after_frame}
use Rattle.gfx_planner.specs.JoinedShown.{JoinsFrame}
use Rattle.gfx_planner.proofs.Lists.{all_both, all_front, all_behind}
use Rattle.gfx_planner.proofs.Streams.{bare}
use Rattle.gfx_schedule.specs.Leaving.{step_of}
use Rattle.gfx_schedule.specs.Plan.{InPlanFrom}
use Rattle.gfx_schedule.specs.Starts.{MayBegin, MayStart, Start}
use Rattle.gfx_schedule.specs.ServerEnd.{ScheduledEnd, server_end_from, numbered, is_none, due, may_send}
use Rattle.gfx_schedule.proofs.Items.{length-numbered, step_at-middle}
use Rattle.gfx_schedule.proofs.Planning.{Ahead, ahead, joins}
use Rattle.gfx_script.specs.Checks.{Held, held_through}
use Rattle.gfx_script.specs.Kinds.{KindedStep, HasKind, Fits, as_kind, own}
use Rattle.gfx_script.specs.Script.{IsAcceptedFrom, step_at}
use Rattle.gfx_script.specs.Scripted.{Script}
use Rattle.gfx_session.specs.Frames.{due_of, MayFrame}
use Rattle.gfx_script.proofs.OwnKinds.{own_steps_fit}
use Rattle.gfx_segment.proofs.FrontLemmas.{front-nil}
use Rattle.gfx_session.specs.Beginning.{IsOpened}
use Rattle.gfx_session.specs.Kept.{GoesBy, InStep, IsServerEndFrom, Stands}
use Rattle.gfx_session.specs.declared.digests.Digests.{Digests}
use Rattle.gfx_session.specs.declared.server_end.ServerEnd.{ServerEnd}
use Rattle.gfx_window.specs.Window.{Window, has_room, no_frames}

-- tests -----------------------------------------------------------------------------------------------

pub both_true : (a b : Bool) → (a && b) ≡ true → (a ≡ true) × (b ≡ true)
both_true true true e = (refl, refl)
both_true true false e = absurd cc
both_true false b e = absurd cc

pub none_false : (a : Bool) → (a && false) ≡ false
none_false true = refl
none_false false = refl

pub not_true : (a : Bool) → not a ≡ true → a ≡ false
not_true true e = absurd cc
not_true false e = refl

pub some_is : {X : Type 0} (x : X) (xs : List X) → is_none (x ∷ xs) ≡ false
some_is x xs = ne_eqb (length (x ∷ xs)) 0 (λ e. omega arith)

pub none_is : {X : Type 0} (xs : List X) → is_none xs ≡ true → xs ≡ []
none_is [] e = refl
none_is (x ∷ xs) e = absurd (let some = some_is x xs in cc)

some_wait : {X : Type 0} (xs : List X) → is_none xs ≡ false → 0 < length xs
some_wait [] e = absurd cc
some_wait (x ∷ xs) e = omega arith

-- the plan ----------------------------------------------------------------------------------------------

last_within : (origin : Start) (script : Script) (kinded : List KindedStep) (at : ScheduledEnd) (gone waiting : List KindedStep) → Fits kinded script.steps → InPlanFrom origin script kinded at gone waiting → at.last ≤ length script.steps
last_within origin script kinded at gone waiting fits plan =
    let all : length script.steps ≡ length gone + (length waiting + length at.left) =
    ap length (sym fits.same) ∙ length-map kinded (λ (z : KindedStep). z.step) ∙ ap length plan.cut ∙ length-append gone (waiting ++ at.left) ∙ ap (λ n. length gone + n) (length-append waiting at.left) in
    omega (arith, plan.last, all)

pub within : {held : Held} (end : ServerEnd) → InStep held end → end.last ≤ length end.script.steps
within end is = subst (λ n. n ≤ length end.script.steps) (sym is.last) (last_within is.origin end.script is.kinded is.at is.gone is.waiting is.begins.fits is.plan)

-- each item that waits is a step of the script
are_steps : (script : Script) (gone waiting left : List KindedStep) → bare (gone ++ (waiting ++ left)) ≡ script.steps → AllByRecursion (λ item. IsSome (step_of script item)) (numbered (length gone + 1) waiting)
are_steps script gone [] left same = tt
are_steps script gone (one ∷ more) left same =
    let cut : script.steps ≡ bare gone ++ one.step ∷ bare (more ++ left) = sym same ∙ map-append (λ (z : KindedStep). z.step) gone (one ∷ (more ++ left)) in
    let count : length gone ≡ length (bare gone) = sym (length-map gone (λ (z : KindedStep). z.step)) in
    let there : step_at script.steps (length gone + 1) ≡ Some one.step =
    ap (λ z. step_at z (length gone + 1)) cut ∙ ap (λ n. step_at (bare gone ++ one.step ∷ bare (more ++ left)) (n + 1)) count ∙ step_at-middle (bare gone) one.step (bare (more ++ left)) in
    let first : step_of script (record { step = length gone + 1; kind = one.kind }) ≡ Some one = ap (option_map (as_kind one.kind)) there in
    let longer : length (gone ++ one ∷ []) + 1 ≡ length gone + 1 + 1 = omega (arith, length-append gone (one ∷ [])) in
    let whole : bare ((gone ++ one ∷ []) ++ (more ++ left)) ≡ script.steps = ap bare (append_assoc gone (one ∷ []) (more ++ left)) ∙ same in (
      subst IsSome (sym first) refl,
      subst (λ n. AllByRecursion (λ item. IsSome (step_of script item)) (numbered n more)) longer (are_steps script (gone ++ one ∷ []) more left whole),
    )

-- what waits may go as a frame
pub record May (origin : Start) (script : Script) (kinded : List KindedStep) (at : ScheduledEnd) (gone waiting : List KindedStep) (plan : InPlanFrom origin script kinded at gone waiting) : Type 0 where
  pub may : MayFrame script at.server at.window
  pub ahead : Ahead origin script kinded at gone waiting plan.held
  pub joins : JoinsFrame script at.server (due script at) ahead.after (want_from script origin.wanted (gone ++ waiting))
  pub some : 0 < length waiting

may_at : (origin : Start) (script : Script) (kinded : List KindedStep) (at : ScheduledEnd) (gone waiting : List KindedStep) (plan : InPlanFrom origin script kinded at gone waiting) → IsAcceptedFrom origin.held script → Fits kinded script.steps → is_none at.window.pending ≡ false
    → May origin script kinded at gone waiting plan
may_at origin script kinded at gone waiting plan good fits wait =
    let a = ahead origin script kinded at gone waiting good fits plan in
    let some : 0 < length waiting = omega (arith, some_wait at.window.pending wait, ap length plan.pending, length-numbered (length gone + 1) waiting) in
    record {
      may = record {
        few = omega (arith, plan.frames, a.few, good.few, some);
        between = plan.frame;
        there = subst (AllByRecursion (λ item. IsSome (step_of script item))) (sym plan.pending) (are_steps script gone waiting at.left (ap bare (sym plan.cut) ∙ fits.same));
        may = record { numbers = a.numbers; kinds = a.kinds; held = plan.held; holds = plan.holds; after = a.after; checked = a.checked };
      };
      ahead = a;
      joins = joins origin script kinded at gone waiting good fits plan a;
      some = some;
    }

-- where a frame can go
waits : (end : ServerEnd) → may_send end.confirmed end.window ≡ true → is_none end.window.pending ≡ false
waits end can =
    let tests = both_true end.confirmed (not (is_none end.window.pending) && has_room end.window) can in
    not_true (is_none end.window.pending) (both_true (not (is_none end.window.pending)) (has_room end.window) tests.1).0

pub goes_at : {held : Held} (end : ServerEnd) → (is : InStep held end) → may_send end.confirmed end.window ≡ true → May is.origin end.script is.kinded is.at is.gone is.waiting is.plan
goes_at end is can = may_at is.origin end.script is.kinded is.at is.gone is.waiting is.plan is.begins.accepted is.begins.fits (ap (λ (w : Window). is_none w.pending) (sym is.window) ∙ waits end can)

pub may_frame : {held : Held} (end : ServerEnd) → InStep held end → may_send end.confirmed end.window ≡ true → MayFrame end.script end.planner.server end.window
may_frame end is can =
    subst (λ (p : Planned). MayFrame end.script p.server end.window) (sym is.planned)
    (subst (MayFrame end.script is.at.server) (sym is.window) (goes_at end is can).may)

-- its frame takes the next id
pub next_id : {held : Held} (end : ServerEnd) → InStep held end → may_send end.confirmed end.window ≡ true → (after_frame end.script end.planner.server (due_of end.script end.window)).frames ≡ end.planner.server.frames + 1
next_id end is can =
    subst (λ (p : Planned). (after_frame end.script p.server (due_of end.script end.window)).frames ≡ p.server.frames + 1) (sym is.planned)
    (subst (λ (w : Window). (after_frame end.script is.at.server (due_of end.script w)).frames ≡ is.at.server.frames + 1) (sym is.window) (goes_at end is can).joins.frames)

-- the start -------------------------------------------------------------------------------------------------

through_none : (held : Held) → held_through held [] ≡ Ok held
unfolding held_through
through_none held = refl

pub starts : (origin : Start) (script : Script) (kinded : List KindedStep) → MayStart script origin → InPlanFrom origin script kinded (server_end_from origin script kinded) [] []
starts origin script kinded may =
    record { cut = refl; last = refl; pending = refl; held = origin.held; checked = through_none origin.held; holds = may.holds; agrees = may.agrees; frame = may.closed; frames = omega (arith, may.frames) }

-- a server's end that was opened stands for the schedule's at this start
pub opened_stands : (end : ServerEnd) (script : Script) (planned : Planned) (known : Bool) (asked : Digests) (origin : Start) (kinded : List KindedStep) → IsOpened end script planned known asked → planned ≡ ready origin.server → known ≡ origin.confirmed → Fits kinded script.steps
    → Stands end (server_end_from origin script kinded)
opened_stands end script planned known asked origin kinded o planner_is known_is fits = record {
  fresh = o.fresh;
  left = fits.same ∙ ap (λ (s : Script). s.steps) (sym o.script);
  last = o.last;
  planned = o.planner ∙ planner_is;
  listens = record {
    window = o.window;
    ends = o.ends;
    even = refl;
    confirmed = o.confirmed ∙ known_is;
    closed = o.unclosed;
    heard = λ none. o.splitter;
    short = λ none. front-nil;
  };
}

-- and is in step
pub opened_is : (end : ServerEnd) (script : Script) (planned : Planned) (known : Bool) (asked : Digests) (origin : Start) → IsOpened end script planned known asked → planned ≡ ready origin.server → ((kinded : List KindedStep) → Fits kinded script.steps → MayBegin origin script kinded)
    → IsServerEndFrom origin.held end
opened_is end script planned known asked origin o planner_is begins =
    let kinded : List KindedStep = map own script.steps in
    let may : MayBegin origin script kinded = begins kinded (own_steps_fit script.steps) in
    let is : MayBegin origin end.script kinded = subst (λ (s : Script). MayBegin origin s kinded) (sym o.script) may in
    record {
      good = is.accepted;
      in_step = λ fresh. record {
        origin = origin;
        checks = refl;
        kinded = kinded;
        begins = is;
        at = server_end_from origin end.script kinded;
        gone = [];
        waiting = [];
        plan = starts origin end.script kinded is.may;
        last = o.last;
        window = o.window ∙ ap (λ (s : Script). no_frames s.window) (sym o.script);
        planned = o.planner ∙ planner_is;
      };
    }

-- choosers are brought -----------------------------------------------------------------------------------------

-- the steps that are left
left_steps : (origin : Start) (script : Script) (kinded : List KindedStep) (at : ScheduledEnd) (gone waiting : List KindedStep) → Fits kinded script.steps → InPlanFrom origin script kinded at gone waiting → bare at.left ≡ drop at.last script.steps
left_steps origin script kinded at gone waiting fits plan =
    let step = λ (one : KindedStep). one.step in
    let cut : script.steps ≡ bare (gone ++ waiting) ++ bare at.left = sym fits.same ∙ ap bare (plan.cut ∙ sym (append_assoc gone waiting at.left)) ∙ map-append step (gone ++ waiting) at.left in
    let count : at.last ≡ length (bare (gone ++ waiting)) = plan.last ∙ sym (length-append gone waiting) ∙ sym (length-map (gone ++ waiting) step) in
    sym (drop-append_seam (bare (gone ++ waiting)) (bare at.left)) ∙ (λ i. drop (sym count i) (sym cut i))

-- other kinds behind the same steps
same_behind : (front one other : List KindedStep) → bare one ≡ bare other → bare (front ++ one) ≡ bare (front ++ other)
same_behind [] one other e = e
same_behind (x ∷ front) one other e = ap (λ steps. x.step ∷ steps) (same_behind front one other e)

-- a session may begin as well whose steps go as other kinds
pub moved : {origin : Start} {script : Script} {kinded other : List KindedStep} → MayBegin origin script kinded → Fits other script.steps → MayBegin origin script other
moved m fits = record { accepted = m.accepted; fits = fits; may = m.may; alike = m.alike }

-- of a server's end that is in step what is left may go as any choosers choose
pub record InStepBy (held : Held) (end : ServerEnd) (choosers : List Chooser) : Type 0 where
  pub in_step : InStep held end
  pub goes_by : GoesBy end.script choosers in_step.at

pub brings : {held : Held} (end : ServerEnd) (choosers : List Chooser) → InStep held end → InStepBy held end choosers
brings end choosers is =
    let steps = drop is.at.last end.script.steps in
    let left : List KindedStep = chosen end.script (is.at.last + 1) choosers steps in
    let same : bare left ≡ bare is.at.left = bare_kinded end.script (is.at.last + 1) choosers steps ∙ sym (left_steps is.origin end.script is.kinded is.at is.gone is.waiting is.begins.fits is.plan) in
    let kinds : AllByRecursion HasKind (is.gone ++ (is.waiting ++ is.at.left)) = subst (AllByRecursion HasKind) is.plan.cut is.begins.fits.kinds in
    let waiting_kinds = all_front HasKind is.waiting is.at.left (all_behind HasKind is.gone (is.waiting ++ is.at.left) kinds) in
    record {
      in_step = record {
        origin = is.origin;
        checks = is.checks;
        kinded = is.gone ++ (is.waiting ++ left);
        begins = moved is.begins record {
          same = same_behind is.gone (is.waiting ++ left) (is.waiting ++ is.at.left) (same_behind is.waiting left is.at.left same) ∙ ap bare (sym is.plan.cut) ∙ is.begins.fits.same;
          kinds = all_both HasKind is.gone (is.waiting ++ left) (all_front HasKind is.gone (is.waiting ++ is.at.left) kinds)
              (all_both HasKind is.waiting left waiting_kinds (kinds_kinded end.script (is.at.last + 1) choosers steps));
        };
        at = record is.at { left = left };
        gone = is.gone;
        waiting = is.waiting;
        plan = record {
          cut = refl;
          last = is.plan.last;
          pending = is.plan.pending;
          held = is.plan.held;
          checked = is.plan.checked;
          holds = is.plan.holds;
          agrees = is.plan.agrees;
          frame = is.plan.frame;
          frames = is.plan.frames;
        };
        last = is.last;
        window = is.window;
        planned = is.planned;
      };
      goes_by = refl;
    }
