-- A live end: what was pushed stays checked behind the script, and a server's end whose script grows is one still.
use Rattle.std.proofs.Common.{◌≡◌, ℕ, ◌+◌, ◌-◌, ◌≤◌, Bool, IsTrue, true, false, cond, List, [], ◌++◌, length, drop, map, Option, Result, Ok, Err, refl, sym, ap, ◌∙◌, subst, length-append, arith}
use Rattle.std.specs.List.{AllByRecursion}
use Rattle.std.proofs.lemmas.List.{drop-append-le, length-map, map-append}
use Rattle.gfx_base.specs.Outcome.{Gives}
use Rattle.gfx_base.specs.declared.answer.Cause.{Cause}
use Rattle.gfx_base.specs.declared.answer.Cause.TheVariants as cause
use Rattle.gfx_base.specs.declared.answer.NoMemory.{NoMemory}
use Rattle.gfx_base.specs.declared.geometry.Point.{Point}
use Rattle.gfx_base.proofs.ResultLemmas.{and_then_at, and_then_ok, and_then_refused}
use Rattle.gfx_chooser.specs.Choosing.{Chooser}
use Rattle.gfx_schedule.specs.Feeding.{grown, start_of, with_more}
use Rattle.gfx_schedule.specs.Growing.{MayGrow}
use Rattle.gfx_schedule.specs.Plan.{InPlanFrom}
use Rattle.gfx_schedule.specs.ServerEnd.{ScheduledEnd}
use Rattle.gfx_schedule.specs.Starts.{MayBegin}
use Rattle.gfx_schedule.proofs.Growing.{growth_stays_in_step}
use Rattle.gfx_schedule.proofs.Items.{length-numbered}
use Rattle.gfx_window.specs.Window.{Window}
use Rattle.gfx_script.specs.declared.TheConstants.{MOST_STEPS}
use Rattle.gfx_script.specs.declared.error.ScriptKind.{ScriptKind}
use Rattle.gfx_script.specs.declared.error.ScriptKind.TheVariants.{Name}
use Rattle.gfx_script.specs.declared.held.Sides.{Sides}
use Rattle.gfx_script.specs.declared.head.HeadParts.{HeadParts}
use Rattle.gfx_script.specs.declared.picture.Picture.{Picture}
use Rattle.gfx_script.specs.declared.step.Kind.{Kind}
use Rattle.gfx_script.specs.declared.step.Step.{Step}
use Rattle.gfx_script.specs.declared.step.Step.TheVariants.{Frame}
use Rattle.gfx_caps.specs.Offers.{small_of}
use Rattle.gfx_script.specs.Checks.{Held, held_from, held_through, sides_of_all}
use Rattle.gfx_script.specs.Drafts.{Draft, GoesOn, frame_ended, grown_by, moved_out, nothing_drafted, painted, pushed, sides_of}
use Rattle.gfx_script.specs.Forgetting.{PaintsFrom}
use Rattle.gfx_script.specs.Heads.{script_from}
use Rattle.gfx_script.specs.Kinds.{KindedStep, Fits, own}
use Rattle.gfx_script.specs.Script.{IsAcceptedFrom, IsStep, is_frame, is_framed, is_paint}
use Rattle.gfx_script.specs.declared.start.StartBitmap.{StartBitmap}
use Rattle.gfx_script.specs.Scripted.{Script}
use Rattle.gfx_script.specs.Starting.{stock_with}
use Rattle.gfx_script.proofs.Drafting.{frame_pushed, grown_accepted, moved_goes_on, nothing_goes_on, step_goes_on}
use Rattle.gfx_script.proofs.MoreSteps.{held_through-none, more_sides, pictures_stay_through, sides_both}
use Rattle.gfx_script.proofs.OwnPictures.{pictures_before}
use Rattle.gfx_script.proofs.OwnKinds.{own_steps_fit}
use Rattle.gfx_session.specs.Kept.{InStep, IsServerEndFrom, Stands}
use Rattle.gfx_session.specs.Live.{Feeds, IsLive, fault_of_flaw, fed, frame_fed, paint_fed, step_fed}
use Rattle.gfx_session.specs.Noting.{Listens}
use Rattle.gfx_session.specs.Serving.{Serves}
use Rattle.gfx_session.specs.declared.live_end.LiveEnd.{LiveEnd}
use Rattle.gfx_session.specs.declared.live_end.LiveFault.{LiveFault}
use Rattle.gfx_schedule.specs.declared.turned.Turned.{Turned}
use Rattle.gfx_session.specs.declared.server_end.ServerEnd.{ServerEnd}
use Rattle.gfx_session.specs.declared.server_end.ServerFault.{ServerFault}
use Rattle.gfx_session.specs.declared.server_end.ServerFault.TheVariants.{Refused, Ack, Memory, Closed}
use Rattle.gfx_session.specs.declared.server_end.listening.ShownFrame.{ShownFrame}
use Rattle.gfx_session.proofs.Plans.{within}

-- the checks of the same steps leave the same ---------------------------------------------------------------------------

-- from what is equal, however they were passed
pub same_held : (held other : Held) (script : Script) (a : IsAcceptedFrom held script) (b : IsAcceptedFrom other script) → other ≡ held → b.held ≡ a.held
same_held held other script a b same =
    let here : ◌≡◌ {A = Result Held ScriptKind} (Ok a.held) (Ok b.held) = sym a.checked ∙ ap (λ h. held_through h script.steps) (sym same) ∙ b.checked in
    cc

-- of a script that is the same
held_again : (held : Held) (script other : Script) (a : IsAcceptedFrom held script) (b : IsAcceptedFrom held other) → other ≡ script → b.held ≡ a.held
held_again held script other a b same =
    let here : ◌≡◌ {A = Result Held ScriptKind} (Ok a.held) (Ok b.held) = sym a.checked ∙ ap (λ (s : Script). held_through held s.steps) (sym same) ∙ b.checked in
    cc

-- what stays live --------------------------------------------------------------------------------------------------------

-- where neither the script nor what was pushed has changed
pub still_live : (old new : LiveEnd) → IsLive old → ((held : Held) → IsServerEndFrom held old.end → IsServerEndFrom held new.end) → new.end.script ≡ old.end.script → new.draft ≡ old.draft → IsLive new
still_live old new is keeps script draft =
    let end : IsServerEndFrom is.held new.end = keeps is.held is.end in
    let same : end.good.held ≡ is.end.good.held = held_again is.held old.end.script new.end.script is.end.good end.good script in
    let count : length old.end.script.pictures ≡ length new.end.script.pictures = ap (λ (s : Script). length s.pictures) (sym script) in
    record {
      held = is.held;
      sides = is.sides ∙ ap (λ (s : Script). sides_of_all s.pictures) (sym script);
      end = end;
      draft =
          subst (GoesOn end.good.held (length new.end.script.steps)) (sym draft)
          (subst (λ n. GoesOn end.good.held n old.draft) (ap (λ (s : Script). length s.steps) (sym script))
          (subst (λ h. GoesOn h (length old.end.script.steps) old.draft) (sym same) is.draft));
      own =
          subst (λ (d : Draft). AllByRecursion (PaintsFrom (length new.end.script.pictures)) d.steps) (sym draft)
          (subst (λ n. AllByRecursion (PaintsFrom n) old.draft.steps) count is.own);
    }

-- where what is pushed goes on from the same
pub drafted_live : (live : LiveEnd) (draft : Draft) → IsLive live → ((from : Held) (count : ℕ) → GoesOn from count live.draft → GoesOn from count draft) → AllByRecursion (PaintsFrom (length live.end.script.pictures)) draft.steps
    → IsLive (record live { draft = draft })
drafted_live live draft is goes own = record { held = is.held; sides = is.sides; end = is.end; draft = goes is.end.good.held (length live.end.script.steps) is.draft; own = own }

-- there are as many pictures as the script has at least
pub pictures_behind : (live : LiveEnd) → IsLive live → length live.end.script.pictures ≤ length live.draft.held.pictures
pictures_behind live is =
    let sides : List Sides = is.end.good.held.pictures in
    let same : sides ≡ sides_of_all live.end.script.pictures = pictures_stay_through is.held is.end.good.held live.end.script.steps is.end.good.checked ∙ is.sides in
    omega (arith, ap length same, length-map live.end.script.pictures sides_of, pictures_before is.end.good.held (length live.end.script.steps) live.draft is.draft)

-- a frame ends -------------------------------------------------------------------------------------------------------------

-- what the schedule asks of steps that a script grows by
may_grow : (held : Held) (script : Script) (draft : Draft) (more : List KindedStep) → Fits more draft.steps → GoesOn held (length script.steps) draft → length (script.pictures ++ draft.pictures) ≤ MOST_STEPS → IsTrue (is_framed draft.steps)
    → MayGrow held script draft.pictures more
may_grow held script draft more fits goes few framed = record {
  few_pictures = few;
  drawn = goes.drawn;
  few = subst (λ z. length (script.steps ++ z) ≤ MOST_STEPS) (sym fits.same) (subst (λ n. n ≤ MOST_STEPS) (sym (length-append script.steps draft.steps)) goes.few);
  numbers = subst (AllByRecursion IsStep) (sym fits.same) goes.numbers;
  kinds = fits.kinds;
  after = draft.held;
  checked = subst (λ z. held_through (more_sides held (sides_of_all draft.pictures)) z ≡ Ok draft.held) (sym fits.same) goes.checked;
  framed = subst (λ z. IsTrue (is_framed z)) (sym fits.same) framed;
}

-- a server's end whose script is this one
abbrev pub with_script : ServerEnd → Script → ServerEnd
with_script end script = record end { script = script }

-- it stays in step with its script when that grows
grown_in_step : {held : Held} (end : ServerEnd) (draft : Draft) (good : IsAcceptedFrom held end.script) → InStep held end → held.pictures ≡ sides_of_all end.script.pictures → GoesOn good.held (length end.script.steps) draft
    → length (end.script.pictures ++ draft.pictures) ≤ MOST_STEPS → IsTrue (is_framed draft.steps)
    → InStep (more_sides held (sides_of_all draft.pictures)) (with_script end (grown_by end.script draft))
grown_in_step {held} end draft good s sides goes few framed =
    let more : List KindedStep = map own draft.steps in
    let fits : Fits more draft.steps = own_steps_fit draft.steps in
    let same : s.begins.accepted.held ≡ good.held = same_held held s.origin.held end.script good s.begins.accepted s.checks in
    let may : MayGrow s.begins.accepted.held end.script draft.pictures more =
    may_grow s.begins.accepted.held end.script draft more fits (subst (λ h. GoesOn h (length end.script.steps) draft) (sym same) goes) few framed in
    let began = growth_stays_in_step s.origin end.script s.kinded s.at s.gone s.waiting (record { begins = s.begins; plan = s.plan }) draft.pictures more may in
    let long : Script = grown_by end.script draft in
    let script : grown end.script draft.pictures more ≡ long = ap (λ z. record long { steps = end.script.steps ++ z }) fits.same in
    record {
      origin = start_of s.origin long;
      checks = λ i. record (s.checks i) { pictures = (sides_both end.script.pictures draft.pictures ∙ ap (λ l. l ++ sides_of_all draft.pictures) (sym sides)) i };
      kinded = s.kinded ++ more;
      begins = subst (λ (z : Script). MayBegin (start_of s.origin long) z (s.kinded ++ more)) script began.begins;
      at = with_more s.at more;
      gone = s.gone;
      waiting = s.waiting;
      plan = subst (λ (z : Script). InPlanFrom (start_of s.origin long) z (s.kinded ++ more) (with_more s.at more) s.gone s.waiting) script began.plan;
      last = s.last;
      window = s.window;
      planned = s.planned;
    }

-- a live end whose draft ends with a frame, and which its script takes
taken_live : (live : LiveEnd) (draft : Draft) → IsLive live → ((from : Held) (count : ℕ) → GoesOn from count live.draft → GoesOn from count draft) → IsTrue (is_framed draft.steps)
    → IsLive (record live { end = with_script live.end (grown_by live.end.script draft); draft = moved_out draft })
taken_live live draft is goes framed =
    let on : GoesOn is.end.good.held (length live.end.script.steps) draft = goes is.end.good.held (length live.end.script.steps) is.draft in
    let accepted = grown_accepted is.held live.end.script draft is.end.good is.sides on framed in
    record {
      held = more_sides is.held (sides_of_all draft.pictures);
      sides = ap (λ l. l ++ sides_of_all draft.pictures) is.sides ∙ sym (sides_both live.end.script.pictures draft.pictures);
      end = record {
        good = accepted.0;
        in_step = λ fresh. grown_in_step live.end draft is.end.good (is.end.in_step fresh) is.sides on accepted.0.few_pictures framed;
      };
      draft =
          subst (λ h. GoesOn h (length (live.end.script.steps ++ draft.steps)) (moved_out draft)) (sym accepted.1)
          (subst (λ n. GoesOn draft.held n (moved_out draft)) (sym (length-append live.end.script.steps draft.steps))
          (moved_goes_on is.end.good.held (length live.end.script.steps) draft on));
      own = tt;
    }

-- the script and the draft that are left when a frame ends
pub ended_live : (live : LiveEnd) (script : Script) (draft : Draft) → IsLive live → frame_ended live.end.script live.draft ≡ Ok (script, draft) → IsLive (record live { end = with_script live.end script; draft = draft })
unfolding frame_ended
ended_live live script draft is ended =
    let found = and_then_ok (pushed live.draft Frame) _ (script, draft) ended in
    let same : (grown_by live.end.script found.0, moved_out found.0) ≡ (script, draft) = let h = found.2 in cc in
    subst (λ (p : Script × Draft). IsLive (record live { end = with_script live.end p.0; draft = p.1 })) same
    (taken_live live found.0 is (λ from count goes. step_goes_on from count live.draft Frame found.0 goes found.1) (frame_pushed live.draft found.0 found.1))

-- for what it stands -------------------------------------------------------------------------------------------------------

pub stands_more : (end : ServerEnd) (script : Script) (at : ScheduledEnd) (more : List KindedStep) → end.last ≤ length end.script.steps → Stands end at
    → script.steps ≡ end.script.steps ++ map (λ (one : KindedStep). one.step) more → Stands (with_script end script) (with_more at more)
stands_more end script at more few st gained =
    let step = λ (one : KindedStep). one.step in
    record {
      fresh = st.fresh;
      listens = record {
        window = st.listens.window;
        ends = st.listens.ends;
        even = st.listens.even;
        confirmed = st.listens.confirmed;
        closed = st.listens.closed;
        heard = st.listens.heard;
        short = st.listens.short;
      };
      planned = st.planned;
      last = st.last;
      left =
          map-append step at.left more
          ∙ ap (λ z. z ++ map step more) st.left
          ∙ sym (drop-append-le at.last end.script.steps (map step more) (subst (λ n. n ≤ length end.script.steps) st.last few))
          ∙ ap (drop at.last) (sym gained);
    }

-- a live end that has begun ----------------------------------------------------------------------------------------------

pub begun_live : (live : LiveEnd) (script : Script) (head : HeadParts) (start : List StartBitmap) → script ≡ script_from head start → live.end.script ≡ script
    → IsServerEndFrom (held_from [] (stock_with start (small_of head.offers))) live.end
    → live.draft ≡ nothing_drafted (stock_with start (small_of head.offers)) → IsLive live
begun_live live script head start is same here draft =
    let held : Held = held_from [] (stock_with start (small_of head.offers)) in
    let all : live.end.script ≡ script_from head start = same ∙ is in
    let none : ◌≡◌ {A = Result Held ScriptKind} (Ok held) (Ok here.good.held) = sym (held_through-none held) ∙ ap (λ (s : Script). held_through held s.steps) (sym all) ∙ here.good.checked in
    let left : here.good.held ≡ held = cc in
    record {
      held = held;
      sides = ap (λ (s : Script). sides_of_all s.pictures) (sym all);
      end = here;
      draft =
          subst (λ h. GoesOn h (length live.end.script.steps) live.draft) (sym left)
          (subst (λ n. GoesOn held n live.draft) (ap (λ (s : Script). length s.steps) (sym all))
          (subst (GoesOn held 0) (sym draft) (nothing_goes_on (stock_with start (small_of head.offers)))));
      own = subst (λ (d : Draft). AllByRecursion (PaintsFrom (length live.end.script.pictures)) d.steps) (sym draft) tt;
    }

-- the schedule's end that a live end stands for before anything was pushed, whatever the script starts with
pub begun_stands : (end : ServerEnd) (script from : Script) (at : Script → List KindedStep → ScheduledEnd) → script ≡ from → from.steps ≡ [] → ((kinded : List KindedStep) → Fits kinded script.steps → Stands end (at script kinded))
    → Stands end (at from [])
begun_stands end script from at is none stands =
    let fits : Fits [] script.steps = record { same = sym (ap (λ (s : Script). s.steps) is ∙ none); kinds = tt } in
    subst (λ (s : Script). Stands end (at s [])) is (stands [] fits)

-- what is answered ---------------------------------------------------------------------------------------------------------

-- of what isn't full, with what is due otherwise written
pub feeds_as : (result : Result (Unit {0}) LiveFault) (full : Bool) (due other : Result LiveEnd ScriptKind) (old new : LiveEnd) → full ≡ false → other ≡ due → Feeds result false due old new → Feeds result full other old new
feeds_as result full due other old new none is feeds = subst (λ b. Feeds result b other old new) (sym none) (subst (λ d. Feeds result false d old new) (sym is) feeds)

pub fed_frame : (live : LiveEnd) (step : Step) → is_paint step ≡ false → is_frame step ≡ true → fed live step ≡ frame_fed live
fed_frame live step none is = ap (λ b. cond b (Err Name) (cond (is_frame step) (frame_fed live) (step_fed live step))) none ∙ ap (λ b. cond b (frame_fed live) (step_fed live step)) is

pub fed_other : (live : LiveEnd) (step : Step) → is_paint step ≡ false → is_frame step ≡ false → fed live step ≡ step_fed live step
fed_other live step none is = ap (λ b. cond b (Err Name) (cond (is_frame step) (frame_fed live) (step_fed live step))) none ∙ ap (λ b. cond b (frame_fed live) (step_fed live step)) is

pub fed_paint : (live : LiveEnd) (step : Step) → is_paint step ≡ true → fed live step ≡ Err Name
fed_paint live step is = ap (λ b. cond b (Err Name) (cond (is_frame step) (frame_fed live) (step_fed live step))) is

-- a flaw, where nothing has changed
refused : {X : Type 0} (view : Unit {0} → X) (flaw : Cause ScriptKind) (first : Result X ScriptKind) (due : Result LiveEnd ScriptKind) (old new : LiveEnd)
    → ((kind : ScriptKind) → first ≡ Err kind → due ≡ Err kind) → Gives view (Err flaw) first → new ≡ old → Feeds (Err (fault_of_flaw flaw)) false due old new
refused view (cause.Refused kind) first due old new through gives same = (refl, through kind gives, same)
refused view cause.Memory first due old new through gives same = same

-- nothing has changed
pub as_before : (live : LiveEnd) (end : ServerEnd) (draft : Draft) → end ≡ live.end → draft ≡ live.draft → ◌≡◌ {A = LiveEnd} (record { end = end; draft = draft }) live
as_before live end draft e d = λ i. record { end = e i; draft = d i }

-- a frame
pub frame_feeds : (live : LiveEnd) (end : ServerEnd) (draft : Draft) → frame_ended live.end.script live.draft ≡ Ok (end.script, draft) → end ≡ with_script live.end end.script → frame_fed live ≡ Ok (record { end = end; draft = draft })
unfolding frame_fed
frame_feeds live end draft is alone = and_then_at (frame_ended live.end.script live.draft) (end.script, draft) _ is ∙ ap (λ (e : ServerEnd). Ok (record live { end = e; draft = draft })) (sym alone)

pub frame_refused : (live new : LiveEnd) (flaw : Cause ScriptKind) (view : Unit {0} → Script × Draft) → Gives view (Err flaw) (frame_ended live.end.script live.draft) → new ≡ live → Feeds (Err (fault_of_flaw flaw)) false (frame_fed live) live new
unfolding frame_fed
frame_refused live new flaw view gives same = refused view flaw (frame_ended live.end.script live.draft) (frame_fed live) live new (λ kind is. and_then_refused (frame_ended live.end.script live.draft) kind _ is) gives same

pub ended_is : (live : LiveEnd) (end : ServerEnd) (draft : Draft) → IsLive live → frame_ended live.end.script live.draft ≡ Ok (end.script, draft) → end ≡ with_script live.end end.script → IsLive (record { end = end; draft = draft })
ended_is live end draft is ended alone = subst (λ (e : ServerEnd). IsLive (record live { end = e; draft = draft })) (sym alone) (ended_live live end.script draft is ended)

-- another step
pub step_feeds : (live : LiveEnd) (draft : Draft) (step : Step) → pushed live.draft step ≡ Ok draft → step_fed live step ≡ Ok (record live { draft = draft })
unfolding step_fed
step_feeds live draft step is = and_then_at (pushed live.draft step) draft _ is

pub step_refused : (live new : LiveEnd) (step : Step) (flaw : Cause ScriptKind) (view : Unit {0} → Draft) → Gives view (Err flaw) (pushed live.draft step) → new ≡ live → Feeds (Err (fault_of_flaw flaw)) false (step_fed live step) live new
unfolding step_fed
step_refused live new step flaw view gives same = refused view flaw (pushed live.draft step) (step_fed live step) live new (λ kind is. and_then_refused (pushed live.draft step) kind _ is) gives same

-- a paint
pub paint_feeds : (live : LiveEnd) (draft : Draft) (picture : Picture) (id : ℕ) (at : Point) (kind : Option Kind) (glyph : Option ℕ) → painted live.draft picture id at kind glyph ≡ Ok draft → paint_fed live picture id at kind glyph ≡ Ok (record live { draft = draft })
unfolding paint_fed
paint_feeds live draft picture id at kind glyph is = and_then_at (painted live.draft picture id at kind glyph) draft _ is

pub paint_refused : (live new : LiveEnd) (picture : Picture) (id : ℕ) (at : Point) (kind : Option Kind) (glyph : Option ℕ) (flaw : Cause ScriptKind) (view : Unit {0} → Draft)
    → Gives view (Err flaw) (painted live.draft picture id at kind glyph) → new ≡ live → Feeds (Err (fault_of_flaw flaw)) false (paint_fed live picture id at kind glyph) live new
unfolding paint_fed
paint_refused live new picture id at kind glyph flaw view gives same =
    refused view flaw (painted live.draft picture id at kind glyph) (paint_fed live picture id at kind glyph) live new (λ of is. and_then_refused (painted live.draft picture id at kind glyph) of _ is) gives same

-- what waits and what is left --------------------------------------------------------------------------------------------

waiting_within : {held : Held} (end : ServerEnd) → InStep held end → (length end.window.pending ≤ end.last) × (end.last ≤ length end.script.steps)
waiting_within end is =
    let wait : length end.window.pending ≡ length is.waiting = ap (λ (w : Window). length w.pending) is.window ∙ ap length is.plan.pending ∙ length-numbered (length is.gone + 1) is.waiting in
    (omega (arith, wait, is.last, is.plan.last), within end is)

pub behind_within : (live : LiveEnd) → IsLive live → live.end.spent ≡ false → (length live.end.window.pending ≤ live.end.last) × (live.end.last ≤ length live.end.script.steps)
behind_within live is fresh = waiting_within live.end (is.end.in_step fresh)

-- all of it is no more than a script has
pub behind_few : (live : LiveEnd) (count more : ℕ) → IsLive live → live.end.spent ≡ false → count ≡ cond live.end.spent 0 (length live.end.window.pending + (length live.end.script.steps - live.end.last)) → more ≡ length live.draft.steps → count + more ≤ MOST_STEPS
behind_few live count more is fresh counted last =
    let all : count ≡ length live.end.window.pending + (length live.end.script.steps - live.end.last) = counted ∙ ap (λ b. cond b 0 (length live.end.window.pending + (length live.end.script.steps - live.end.last))) fresh in
    let w = behind_within live is fresh in
    omega (arith, all, last, w.0, w.1, is.draft.few)

-- calls of the server's end ------------------------------------------------------------------------------------------------

pub serves_script : (result : Result Turned NoMemory) (old new : ServerEnd) (choosers left : List Chooser) (before now : List ℕ) → Serves result old new choosers left before now → new.script ≡ old.script
serves_script (Ok turned) old new choosers left before now s = s.1
serves_script (Err e) old new choosers left before now s = s.1

pub listens_script : (closed : Bool) (result : Result (Unit {0}) ServerFault) (old new : ServerEnd) (before now : List ℕ) (had has : List ShownFrame) (piece : List ℕ) → Listens closed result old new before now had has piece → new.script ≡ old.script
listens_script true result old new before now had has piece l = ap (λ (e : ServerEnd). e.script) l.1
listens_script false (Ok done) old new before now had has piece l = l.0.script
listens_script false (Err Memory) old new before now had has piece l = l.0.0.script
listens_script false (Err (Refused r)) old new before now had has piece l = l.0.script
listens_script false (Err (Ack u)) old new before now had has piece l = l.0.script
listens_script false (Err Closed) old new before now had has piece l = l.0.script
