-- A live end that has forgotten what was sent, or pixels that need not be, is a live end still, and stands for what it stood for.
use Rattle.std.proofs.Common.{◌≡◌, ℕ, zero, suc, ◌+◌, ◌-◌, ◌≤◌, ◌<◌, Bool, true, false, cond, ◌&&◌, List, [], ◌∷◌, ◌++◌, length, drop, take, map, replicate, Ok, Err, inl, inr, refl, sym, ap, ◌∙◌, subst, length-append, arith}
use Rattle.std.specs.List.{AllByRecursion}
use Rattle.std.proofs.Math.Seq.{take-append_seam}
use Rattle.std.proofs.lemmas.List.{drop_all, length-drop, length-map, length-replicate, map-append, take-append-drop}
use Rattle.gfx_base.proofs.ResultLemmas.{and_then_ok}
use Rattle.gfx_base.specs.declared.answer.NoMemory.{NoMemory}
use Rattle.gfx_chooser.specs.Choosing.{Chooser}
use Rattle.gfx_chooser.specs.Kinded.{Asks}
use Rattle.gfx_planner.specs.Planned.{PutsFront}
use Rattle.gfx_schedule.specs.Feeding.{grown, with_more}
use Rattle.gfx_schedule.specs.Plan.{InPlanFrom}
use Rattle.gfx_schedule.specs.ServerEnd.{ScheduledEnd, is_none, numbered, serves, serving}
use Rattle.gfx_schedule.specs.Sparing.{IsOf, PaintsWithin, Spares}
use Rattle.gfx_schedule.specs.declared.turned.Turned.{Turned}
use Rattle.gfx_schedule.proofs.Items.{length-numbered}
use Rattle.gfx_schedule.proofs.ForgottenPlans.{forgetting_is_planned, forgotten_accepted, forgotten_held, sides_are}
use Rattle.gfx_schedule.proofs.FeedingTurns.{all_name}
use Rattle.gfx_schedule.proofs.ForgottenScripts.{stays_behind}
use Rattle.gfx_schedule.proofs.SparedScripts.{all_is_forgotten, later, spared_grows, spared_serves_alike, spared_stays_so, spares_itself, sparing_is_planned, waiting_is_spared}
use Rattle.gfx_planner.proofs.Streams.{bare}
use Rattle.gfx_script.specs.Checks.{Held, sides_of_all}
use Rattle.gfx_script.specs.Drafts.{Draft, GoesOn, frame_ended, grown_by, moved_out, pushed, sides_of}
use Rattle.gfx_script.specs.Forgetting.{PaintsFrom, blank, draft_forgotten, forgotten, sides_forgotten}
use Rattle.gfx_script.specs.Kinds.{KindedStep}
use Rattle.gfx_script.specs.Script.{IsAcceptedFrom}
use Rattle.gfx_script.specs.Scripted.{Script}
use Rattle.gfx_script.specs.Sparing.{Marks, spared}
use Rattle.gfx_script.specs.declared.picture.Picture.{Picture}
use Rattle.gfx_script.specs.declared.step.Step.{Step}
use Rattle.gfx_script.specs.declared.step.Step.TheVariants.{Frame}
use Rattle.gfx_script.proofs.ForgottenDrafts.{forgotten_goes_on}
use Rattle.gfx_script.proofs.MoreSteps.{all_both, pictures_stay_through}
use Rattle.gfx_script.proofs.OwnPictures.{pushed_behind}
use Rattle.gfx_script.proofs.SparedLemmas.{spared_accepted, spared_count, spared_held, spared_sides}
use Rattle.gfx_session.specs.Kept.{InStep, Stands}
use Rattle.gfx_session.specs.Live.{IsLive, has_sent_all}
use Rattle.gfx_session.specs.LiveServing.{Forgets, LeavesScript, ServesLive, WhereWhole, sent_forgotten}
use Rattle.gfx_session.specs.Serving.{Serves, turn_answer}
use Rattle.gfx_session.specs.Whole.{HasSpared, MaySpare, SparesWaiting, StandsWhole, StandsWithMore, marked_for}
use Rattle.gfx_session.specs.declared.live_end.LiveEnd.{LiveEnd}
use Rattle.gfx_session.specs.declared.server_end.ServerEnd.{ServerEnd}
use Rattle.gfx_session.proofs.LiveLemmas.{same_held, stands_more, with_script}
use Rattle.gfx_session.proofs.Plans.{both_true, none_is, within}
use Rattle.gfx_window.specs.Window.{Window}
use Rattle.gfx_window.specs.declared.window.Queued.{Queued}

-- all was sent -----------------------------------------------------------------------------------------------------------

sent_all : (end : ServerEnd) → has_sent_all end ≡ true → (end.window.pending ≡ []) × (drop end.last end.script.steps ≡ [])
sent_all end sent =
    let both = both_true (is_none end.window.pending) (is_none (drop end.last end.script.steps)) sent in
    (none_is end.window.pending both.0, none_is (drop end.last end.script.steps) both.1)

-- no item stands behind this place
none_behind : {X : Type 0} (n : ℕ) (xs : List X) → drop n xs ≡ [] → length xs ≤ n
none_behind n xs none = omega (arith, length-drop n xs, ap length none)

no_item : {X : Type 0} (xs : List X) → length xs ≡ 0 → xs ≡ []
no_item [] none = refl
no_item (x ∷ xs) none = absurd (omega (arith, none))

-- it is still so when it is forgotten
sent_still : (end : ServerEnd) → has_sent_all end ≡ true → has_sent_all (with_script end (forgotten end.script)) ≡ true
sent_still end sent =
    let found = sent_all end sent in
    let few : length (replicate (length end.script.steps) Frame) ≤ end.last =
    omega (arith, length-replicate (length end.script.steps) Frame, none_behind end.last end.script.steps found.1) in
    λ i. is_none (found.0 i) && is_none (drop_all end.last (replicate (length end.script.steps) Frame) few i)

-- a live end still ---------------------------------------------------------------------------------------------------------

forgotten_in_step : {held : Held} (end : ServerEnd) (good : IsAcceptedFrom held end.script) → InStep held end → has_sent_all end ≡ true
    → InStep (sides_forgotten (length end.script.pictures) good.held) (with_script end (forgotten end.script))
forgotten_in_step {held} end good s sent =
    let found = sent_all end sent in
    let pending : length s.waiting ≡ 0 =
    sym (length-numbered (length s.gone + 1) s.waiting) ∙ sym (ap length s.plan.pending) ∙ sym (ap (λ (w : Window). length w.pending) s.window) ∙ ap length found.0 in
    let plan : InPlanFrom s.origin end.script s.kinded s.at s.gone [] = subst (InPlanFrom s.origin end.script s.kinded s.at s.gone) (no_item s.waiting pending) s.plan in
    let all : length end.script.steps ≡ length s.gone + (length s.waiting + length s.at.left) =
    ap length (sym s.begins.fits.same) ∙ length-map s.kinded (λ (z : KindedStep). z.step) ∙ ap length s.plan.cut ∙ length-append s.gone (s.waiting ++ s.at.left)
    ∙ ap (λ n. length s.gone + n) (length-append s.waiting s.at.left) in
    let left : s.at.left ≡ [] = no_item s.at.left (omega (arith, all, s.plan.last, s.last, none_behind end.last end.script.steps found.1)) in
    let began = forgetting_is_planned s.origin end.script s.kinded s.at s.gone s.begins plan left in
    record {
      origin = began.origin;
      checks = began.checks ∙ ap (sides_forgotten (length end.script.pictures)) (same_held held s.origin.held end.script good s.begins.accepted s.checks);
      kinded = began.kinded;
      begins = began.begins;
      at = s.at;
      gone = began.gone;
      waiting = [];
      plan = began.plan;
      last = s.last;
      window = s.window;
      planned = s.planned;
    }

pub forgotten_live : (live : LiveEnd) → IsLive live → has_sent_all live.end ≡ true → IsLive (sent_forgotten live)
forgotten_live live is sent =
    let script : Script = live.end.script in
    let count : ℕ = length script.pictures in
    let good = is.end.good in
    let same : good.held.pictures ≡ sides_of_all script.pictures = pictures_stay_through is.held good.held script.steps good.checked ∙ is.sides in
    let many : count ≡ length good.held.pictures = omega (arith, ap length same, length-map script.pictures sides_of) in
    record {
      held = sides_forgotten count good.held;
      sides = sides_are good.held script same;
      end = record { good = forgotten_accepted is.held script good; in_step = λ fresh. forgotten_in_step live.end good (is.end.in_step fresh) sent };
      draft =
          subst (λ h. GoesOn h (length (replicate (length script.steps) Frame)) (draft_forgotten count live.draft)) (sym (forgotten_held is.held script good))
          (subst (λ n. GoesOn (sides_forgotten count good.held) n (draft_forgotten count live.draft)) (sym (length-replicate (length script.steps) Frame))
          (forgotten_goes_on good.held (length script.steps) count live.draft is.draft many is.own));
      own = subst (λ n. AllByRecursion (PaintsFrom n) live.draft.steps) (sym (length-replicate count blank)) is.own;
    }

-- the same, however it was forgotten
pub forgotten_live_as : (live : LiveEnd) (count : ℕ) (end : ServerEnd) (draft : Draft) → IsLive live → has_sent_all live.end ≡ true → count ≡ length live.end.script.pictures
    → end ≡ with_script live.end (forgotten live.end.script) → draft ≡ draft_forgotten count live.draft → IsLive (record { end = end; draft = draft })
forgotten_live_as live count end draft is sent counted ended drafted =
    let same : draft ≡ draft_forgotten (length live.end.script.pictures) live.draft = drafted ∙ ap (λ n. draft_forgotten n live.draft) counted in
    subst IsLive (λ i. record { end = sym ended i; draft = sym same i }) (forgotten_live live is sent)

-- for what it stands -------------------------------------------------------------------------------------------------------

whole_forgotten : (end : ServerEnd) (whole : Script) (at : ScheduledEnd) → StandsWhole end whole at → end.last ≤ length end.script.steps → has_sent_all end ≡ true
    → StandsWhole (with_script end (forgotten end.script)) whole at
whole_forgotten end whole at w few sent =
    let st = w.stands in
    let found = sent_all end sent in
    let none = none_behind end.last end.script.steps found.1 in
    let count : length (replicate (length end.script.steps) Frame) ≤ at.last = omega (arith, length-replicate (length end.script.steps) Frame, none, st.last) in
    let pending : at.window.pending ≡ [] = ap (λ (window : Window). window.pending) (sym st.listens.window) ∙ found.0 in
    record {
      stands = record {
        fresh = st.fresh;
        listens = record {
          window = st.listens.window;
          ends = st.listens.ends;
          even = st.listens.even;
          confirmed = st.listens.confirmed;
          closed = st.listens.closed;
          heard = st.listens.heard;
          short = st.listens.short;
        };
        planned = st.planned;
        last = st.last;
        left = st.left ∙ ap (λ n. drop n end.script.steps) (sym st.last) ∙ found.1 ∙ sym (drop_all at.last (replicate (length end.script.steps) Frame) count);
      };
      over = at.last;
      spares = all_is_forgotten w.over whole end.script at w.spares pending (omega (arith, w.spares.step_count, none, st.last));
      behind = record { items = subst (AllByRecursion (λ item. at.last < item.step)) (sym pending) tt; last = omega arith };
    }

whole_serves : (old mid : ServerEnd) (whole : Script) (at : ScheduledEnd) → StandsWhole old whole at → Stands mid (serves old.script at) → mid.script ≡ old.script → StandsWhole mid whole (serves whole at)
whole_serves old mid whole at w st same = record {
  stands = subst (Stands mid) (spared_serves_alike w.over whole old.script at w.spares w.behind).serves st;
  over = w.over;
  spares = subst (λ (s : Script). Spares w.over whole s (serves whole at)) (sym same) ((spared_stays_so w.over whole old.script).serves at w.spares);
  behind = (stays_behind w.over).serves whole at w.behind;
}

-- pixels of what waits are forgotten -----------------------------------------------------------------------------------------

-- the first of some steps that are frames
pub frames_before : (n most : ℕ) (steps : List Step) → n ≤ most → take most steps ≡ replicate most Frame → AllByRecursion (λ step. step ≡ Frame) (take n steps)
frames_before n most [] le same = nothing n
  where
    nothing : (n : ℕ) → AllByRecursion (λ (step : Step). step ≡ Frame) (take n [])
    nothing zero = tt
    nothing (suc n) = tt
frames_before zero most (step ∷ steps) le same = tt
frames_before (suc n) zero (step ∷ steps) le same = absurd (omega (arith, le))
frames_before (suc n) (suc most) (step ∷ steps) le same =
    let first : step ≡ Frame = cc in
    let rest : take most steps ≡ replicate most Frame = cc in
    (first, frames_before n most steps (omega (arith, le)) rest)

frames_of : (gone : List KindedStep) → AllByRecursion (λ step. step ≡ Frame) (bare gone) → AllByRecursion (λ (one : KindedStep). one.step ≡ Frame) gone
frames_of [] frames = tt
frames_of (one ∷ gone) frames = (frames.0, frames_of gone frames.1)

pending_is : {held : Held} (end : ServerEnd) (s : InStep held end) → length end.window.pending ≡ length s.waiting
pending_is end s = ap (λ (w : Window). length w.pending) s.window ∙ ap length s.plan.pending ∙ length-numbered (length s.gone + 1) s.waiting

gone_frames : {held : Held} (end : ServerEnd) (s : InStep held end) → MaySpare end → AllByRecursion (λ (one : KindedStep). one.step ≡ Frame) s.gone
gone_frames end s may =
    let count : end.last - length end.window.pending ≡ length (bare s.gone) = omega (arith, s.last, s.plan.last, pending_is end s, length-map s.gone (λ (one : KindedStep). one.step)) in
    let steps : end.script.steps ≡ bare s.gone ++ bare (s.waiting ++ s.at.left) = sym s.begins.fits.same ∙ ap bare s.plan.cut ∙ map-append (λ (one : KindedStep). one.step) s.gone (s.waiting ++ s.at.left) in
    let first : take (end.last - length end.window.pending) end.script.steps ≡ bare s.gone =
    (λ i. take (count i) (steps i)) ∙ take-append_seam (bare s.gone) (bare (s.waiting ++ s.at.left)) in
    frames_of s.gone (subst (AllByRecursion (λ (step : Step). step ≡ Frame)) first may.gone)

spared_in_step : {held : Held} (end : ServerEnd) (marks : Marks) → InStep held end → MaySpare end → InStep held (with_script end (spared marks end.script))
spared_in_step end marks s may =
    let stays = sparing_is_planned s.origin end.script s.kinded s.at s.gone s.waiting marks (record { begins = s.begins; plan = s.plan }) (gone_frames end s may) in
    record {
      origin = s.origin;
      checks = s.checks;
      kinded = s.kinded;
      begins = stays.begins;
      at = s.at;
      gone = s.gone;
      waiting = s.waiting;
      plan = stays.plan;
      last = s.last;
      window = s.window;
      planned = s.planned;
    }

spared_as_live : (live : LiveEnd) (marks : Marks) → IsLive live → MaySpare live.end → IsLive (record live { end = with_script live.end (spared marks live.end.script) })
spared_as_live live marks is may =
    let script : Script = live.end.script in
    let good = is.end.good in
    record {
      held = is.held;
      sides = is.sides ∙ sym (spared_sides 0 marks script.pictures);
      end = record { good = spared_accepted is.held script marks good; in_step = λ fresh. spared_in_step live.end marks (is.end.in_step fresh) may };
      draft = subst (λ h. GoesOn h (length script.steps) live.draft) (sym (spared_held is.held script marks good)) is.draft;
      own = subst (λ n. AllByRecursion (PaintsFrom n) live.draft.steps) (sym (spared_count 0 marks script.pictures)) is.own;
    }

-- what a server's end does that forgets pixels
pub has_spared : (waited : ℕ) (end : ServerEnd) (script : Script) (marks then : Marks) → MaySpare end → then ≡ marked_for end.script end.window waited marks → script ≡ spared then end.script
    → SparesWaiting waited end (record end { script = script })
has_spared waited end script marks then may marked is =
    inr (record { may = may; marks = marks; spared = λ i. record end { script = (is ∙ ap (λ m. spared m end.script) marked) i } })

-- whatever was spared, if anything
pub spared_live : (waited : ℕ) (live : LiveEnd) (end : ServerEnd) → IsLive live → SparesWaiting waited live.end end → IsLive (record live { end = end })
spared_live waited live end is (inl same) = subst (λ (e : ServerEnd). IsLive (record live { end = e })) (sym same) is
spared_live waited live end is (inr has) =
    subst (λ (e : ServerEnd). IsLive (record live { end = e })) (sym has.spared) (spared_as_live live (marked_for live.end.script live.end.window waited has.marks) is has.may)

whole_spared : (waited : ℕ) (end new : ServerEnd) (whole : Script) (at : ScheduledEnd) → StandsWhole end whole at → HasSpared waited end new → StandsWhole new whole at
whole_spared waited end new whole at w has =
    let st = w.stands in
    let items : List Queued = end.window.pending in
    let pending : at.window.pending ≡ take waited items ++ drop waited items = ap (λ (window : Window). window.pending) (sym st.listens.window) ∙ sym (take-append-drop waited items) in
    subst (λ (e : ServerEnd). StandsWhole e whole at) (sym has.spared)
    record {
      stands = record {
        fresh = st.fresh;
        listens = record {
          window = st.listens.window;
          ends = st.listens.ends;
          even = st.listens.even;
          confirmed = st.listens.confirmed;
          closed = st.listens.closed;
          heard = st.listens.heard;
          short = st.listens.short;
        };
        planned = st.planned;
        last = st.last;
        left = st.left;
      };
      over = w.over;
      spares =
          waiting_is_spared w.over whole end.script at (take waited items) (drop waited items) has.marks w.spares w.behind pending
          (omega (arith, w.spares.step_count, none_behind end.last end.script.steps has.may.left, st.last));
      behind = w.behind;
    }

whole_waits : (waited : ℕ) (end new : ServerEnd) (whole : Script) (at : ScheduledEnd) → StandsWhole end whole at → SparesWaiting waited end new → StandsWhole new whole at
whole_waits waited end new whole at w (inl same) = subst (λ (e : ServerEnd). StandsWhole e whole at) (sym same) w
whole_waits waited end new whole at w (inr has) = whole_spared waited end new whole at w has

-- nothing else of the server's end has changed
record AsWaiting (end new : ServerEnd) : Type 0 where
  last : new.last ≡ end.last
  digests : new.digests ≡ end.digests
  sent : has_sent_all new ≡ has_sent_all end
  script : LeavesScript false end.script new.script

as_waiting : (waited : ℕ) (end new : ServerEnd) → SparesWaiting waited end new → AsWaiting end new
as_waiting waited end new (inl same) = record {
  last = ap (λ (e : ServerEnd). e.last) same;
  digests = ap (λ (e : ServerEnd). e.digests) same;
  sent = ap has_sent_all same;
  script = inl (ap (λ (e : ServerEnd). e.script) same);
}
as_waiting waited end new (inr has) = record {
  last = ap (λ (e : ServerEnd). e.last) has.spared;
  digests = ap (λ (e : ServerEnd). e.digests) has.spared;
  sent = ap has_sent_all has.spared;
  script = inr (marked_for end.script end.window waited has.marks, ap (λ (e : ServerEnd). e.script) has.spared);
}

-- a turn -------------------------------------------------------------------------------------------------------------------

module _ (turned : Turned) (old : LiveEnd) (mid : ServerEnd) (choosers left : List Chooser) (before now : List ℕ) (is : IsLive (record old { end = mid })) (s : Serves (Ok turned) old.end mid choosers left before now) where
  few_sent : mid.spent ≡ false → mid.last ≤ length mid.script.steps
  few_sent fresh = within mid (is.end.in_step fresh)

  -- whatever it stands for has taken a turn then
  whole_turn : WhereWhole old.end choosers (λ whole at. StandsWhole mid whole (serves whole at) × (now ≡ before ++ serving whole at) × (turned ≡ turn_answer at))
  whole_turn whole at w goes =
      let turn = s.3 at w.stands goes in
      let alike = spared_serves_alike w.over whole old.end.script at w.spares w.behind in
      (whole_serves old.end mid whole at w turn.0 s.1, turn.1 ∙ ap (λ z. before ++ z) alike.serving, turn.2)

  forgot : (b : Bool) (waited : ℕ) (end : ServerEnd) (draft : Draft) → has_sent_all mid ≡ b → Forgets b waited (record old { end = mid }) (record { end = end; draft = draft })
      → ServesLive (Ok turned) old (record { end = end; draft = draft }) choosers left before now
  forgot true waited end draft sent forgets =
      let still = sent_still mid sent in
      subst (λ (live : LiveEnd). ServesLive (Ok turned) old live choosers left before now) (sym forgets) (
        s.0,
        s.2,
        (λ whole at w goes.
            let turn = whole_turn whole at w goes in
            (whole_forgotten mid whole (serves whole at) turn.0 (few_sent turn.0.stands.fresh) sent, turn.1, turn.2)),
        s.4,
        (
          subst (λ b. LeavesScript b old.end.script (forgotten mid.script)) (sym still) (ap forgotten s.1),
          ap (λ (script : Script). draft_forgotten (length script.pictures) old.draft) s.1
              ∙ (λ i. cond (sym still i) (draft_forgotten (length old.end.script.pictures) old.draft) old.draft),
        ),
      )
  forgot false waited end draft sent forgets =
      let waits = as_waiting waited mid end forgets.1 in
      let none : has_sent_all end ≡ false = waits.sent ∙ sent in (
        s.0,
        subst (λ n. Asks old.end.script old.end.last n choosers left) (sym waits.last) s.2,
        (λ whole at w goes.
            let turn = whole_turn whole at w goes in
            (whole_waits waited mid end whole (serves whole at) turn.0 forgets.1, turn.1, turn.2)),
        waits.digests ∙ s.4,
        (
          subst (λ b. LeavesScript b old.end.script end.script) (sym none) (subst (λ (script : Script). LeavesScript false script end.script) s.1 waits.script),
          forgets.0 ∙ (λ i. cond (sym none i) (draft_forgotten (length old.end.script.pictures) old.draft) old.draft),
        ),
      )

  pub serves_live : (waited : ℕ) (end : ServerEnd) (draft : Draft) → Forgets (has_sent_all mid) waited (record old { end = mid }) (record { end = end; draft = draft })
      → ServesLive (Ok turned) old (record { end = end; draft = draft }) choosers left before now
  serves_live waited end draft forgets = forgot (has_sent_all mid) waited end draft refl forgets

pub serves_live_not : (lack : NoMemory) (old : LiveEnd) (mid : ServerEnd) (choosers left : List Chooser) (before now : List ℕ) → Serves (Err lack) old.end mid choosers left before now
    → ServesLive (Err lack) old (record old { end = mid }) choosers left before now
serves_live_not lack old mid choosers left before now s = (
  s.0,
  s.1,
  s.2,
  (λ whole at w goes. subst (PutsFront before now) (spared_serves_alike w.over whole old.end.script at w.spares w.behind).serving (s.3 at w.stands goes)),
  s.4,
  s.5,
  refl,
)

-- from the beginning on ----------------------------------------------------------------------------------------------------

pub begun_whole : (end : ServerEnd) (from : Script) (at : ScheduledEnd) → Stands end at → end.script ≡ from → at.window.pending ≡ [] → StandsWhole end from at
begun_whole end from at st same none = record {
  stands = st;
  over = 0;
  spares = subst (λ (s : Script). Spares 0 from s at) (sym same) (spares_itself from at none);
  behind = record { items = subst (AllByRecursion (λ item. 0 < item.step)) (sym none) tt; last = omega arith };
}

-- a frame is pushed --------------------------------------------------------------------------------------------------------

items_of : (at most : ℕ) (waiting : List KindedStep) → at + length waiting ≤ most + 1 → AllByRecursion (λ (item : Queued). item.step ≤ most) (numbered at waiting)
items_of at most [] le = tt
items_of at most (one ∷ waiting) le = (omega (arith, le), items_of (at + 1) most waiting (omega (arith, le)))

-- what waits are steps of the whole script, and each paints a picture of it
whole_of : (live : LiveEnd) (whole : Script) (at : ScheduledEnd) (is : IsLive live) (w : StandsWhole live.end whole at) (s : InStep is.held live.end) → live.end.last ≤ length live.end.script.steps → IsOf w.over whole at
whole_of live whole at is w s few =
    let script : Script = live.end.script in
    let count : length is.held.pictures ≡ length whole.pictures = ap length is.sides ∙ length-map script.pictures sides_of ∙ w.spares.picture_count in
    let pending : at.window.pending ≡ numbered (length s.gone + 1) s.waiting = ap (λ (window : Window). window.pending) (sym w.stands.listens.window ∙ s.window) ∙ s.plan.pending in
    let named : AllByRecursion (PaintsWithin (length whole.pictures)) script.steps =
    subst (λ n. AllByRecursion (PaintsWithin n) script.steps) count (all_name is.held is.end.good.held script.steps is.end.good.checked) in
    record {
      items =
          subst (AllByRecursion (λ (item : Queued). item.step ≤ length whole.steps)) (sym pending)
          (items_of (length s.gone + 1) (length whole.steps) s.waiting (omega (arith, s.last, s.plan.last, few, w.spares.step_count)));
      last = omega (arith, w.stands.last, few, w.spares.step_count);
      paints = subst (AllByRecursion (PaintsWithin (length whole.pictures))) w.spares.steps (later (PaintsWithin (length whole.pictures)) 0 w.over script.steps (omega arith) named);
    }

pub ended_whole : (live : LiveEnd) (end : ServerEnd) (draft : Draft) → IsLive live → frame_ended live.end.script live.draft ≡ Ok (end.script, draft) → end ≡ with_script live.end end.script
    → StandsWithMore live.draft.pictures (live.draft.steps ++ Frame ∷ []) live.end end
unfolding frame_ended
ended_whole live end draft is ended alone whole at more w are =
    let script : Script = live.end.script in
    let pictures : List Picture = live.draft.pictures in
    let found = and_then_ok (pushed live.draft Frame) _ (end.script, draft) ended in
    let same : (grown_by script found.0, moved_out found.0) ≡ (end.script, draft) = let h = found.2 in cc in
    let taken = pushed_behind live.draft found.0 Frame found.1 in
    let long : end.script ≡ grown script pictures more =
    sym (ap (λ (p : Script × Draft). p.0) same)
    ∙ (λ i. record script { pictures = script.pictures ++ taken.1 i; steps = script.steps ++ (taken.0 ∙ sym are) i }) in
    let few = within live.end (is.end.in_step w.stands.fresh) in
    let s = is.end.in_step w.stands.fresh in
    let of : IsOf w.over whole at = whole_of live whole at is w s few in
    let own : AllByRecursion (PaintsFrom (length whole.pictures)) (map (λ (one : KindedStep). one.step) more) =
    subst (λ n. AllByRecursion (PaintsFrom n) (map (λ (one : KindedStep). one.step) more)) w.spares.picture_count
    (subst (AllByRecursion (PaintsFrom (length script.pictures))) (sym are) (all_both (PaintsFrom (length script.pictures)) live.draft.steps (Frame ∷ []) is.own (tt, tt))) in
    record {
      stands = subst (λ (e : ServerEnd). Stands e (with_more at more)) (sym alone) (stands_more live.end end.script at more few w.stands (ap (λ (s : Script). s.steps) long));
      over = w.over;
      spares = subst (λ (s : Script). Spares w.over (grown whole pictures more) s (with_more at more)) (sym long) (spared_grows w.over whole script at pictures more w.spares w.behind of own);
      behind = (stays_behind w.over).grows at more w.behind;
    }
