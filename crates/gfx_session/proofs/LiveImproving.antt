-- A live end that improves what it shows while nothing else is to do.
use Rattle.std.proofs.Common.{◌≡◌, ℕ, Bool, true, false, ◌&&◌, not, List, [], ◌∷◌, ◌++◌, length, map, Result, Ok, Err, refl, sym, ap, ◌∙◌, subst}
use Rattle.gfx_base.specs.Outcome.{Gives}
use Rattle.gfx_base.specs.declared.answer.Cause.{Cause}
use Rattle.gfx_base.specs.declared.answer.Cause.TheVariants as cause
use Rattle.gfx_base.proofs.ResultLemmas.{and_then_at, and_then_ok, and_then_refused}
use Rattle.gfx_planner.specs.Planned.{Planned}
use Rattle.gfx_planner.proofs.PassesSending.{live_by}
use Rattle.gfx_prog_live.specs.Inside.{AreBy}
use Rattle.gfx_prog_live.specs.Raising.{AreRaisable}
use Rattle.gfx_schedule.specs.ServerEnd.{is_none}
use Rattle.gfx_script.specs.Checks.{Held}
use Rattle.gfx_script.specs.Building.{each_in_turn}
use Rattle.gfx_script.specs.Drafts.{Draft, pushed, without_steps}
use Rattle.gfx_script.specs.declared.error.ScriptKind.{ScriptKind}
use Rattle.gfx_script.specs.declared.step.Step.TheVariants.{Frame, Improve}
use Rattle.gfx_script.proofs.Improving.{improvement_taken_back}
use Rattle.gfx_script.proofs.OwnPictures.{improved_behind}
use Rattle.gfx_session.specs.Idle.{Improves, improvements_fed, is_idle}
use Rattle.gfx_session.specs.Kept.{InStep}
use Rattle.gfx_session.specs.Live.{Feeds, IsLive, fault_of_flaw, frame_fed, has_sent_all, wants_frame}
use Rattle.gfx_session.specs.Whole.{StandsWithMore}
use Rattle.gfx_session.specs.declared.live_end.LiveEnd.{LiveEnd}
use Rattle.gfx_session.specs.declared.live_end.LiveFault.{LiveFault}
use Rattle.gfx_session.specs.declared.live_end.LiveFault.TheVariants.{Full, Memory, Wrong}
use Rattle.gfx_session.specs.declared.server_end.ServerEnd.{ServerEnd}
use Rattle.gfx_session.proofs.LiveLemmas.{as_before, drafted_live}
use Rattle.gfx_session.proofs.Plans.{both_true, not_true}
use Rattle.gfx_window.specs.Window.{has_room}

-- improvements that were pushed, behind which a frame ends ------------------------------------------------------------------

-- a live end with the improvements is one still
pub improved_live : (live : LiveEnd) (draft : Draft) (ids : List ℕ) → IsLive live → each_in_turn pushed live.draft (map Improve ids) ≡ Ok draft → IsLive (record live { draft = draft })
improved_live live draft ids is ok =
    let found = improved_behind live.draft draft ids ok in
    drafted_live live draft is found.goes (found.own (length live.end.script.pictures) is.own)

-- what the frame gave is what is due of all
pub improvements_feed : (live : LiveEnd) (draft : Draft) (ids : List ℕ) → each_in_turn pushed live.draft (map Improve ids) ≡ Ok draft → improvements_fed live ids ≡ frame_fed (record live { draft = draft })
unfolding improvements_fed
improvements_feed live draft ids ok = and_then_at (each_in_turn pushed live.draft (map Improve ids)) draft (λ d. frame_fed (record live { draft = d })) ok

-- one that is refused refuses all
pub improvements_refused : (view : Unit {0} → Draft) (flaw : Cause ScriptKind) (live new : LiveEnd) (ids : List ℕ) → Gives view (Err flaw) (each_in_turn pushed live.draft (map Improve ids)) → new ≡ live
    → Feeds (Err (fault_of_flaw flaw)) false (improvements_fed live ids) live new
unfolding improvements_fed
improvements_refused view (cause.Refused kind) live new ids gives same =
    (refl, and_then_refused (each_in_turn pushed live.draft (map Improve ids)) kind (λ d. frame_fed (record live { draft = d })) gives, same)
improvements_refused view cause.Memory live new ids gives same = same

-- a frame that isn't ended has changed nothing
pub failed_as_before : (fault : LiveFault) (due : Result LiveEnd ScriptKind) (old new : LiveEnd) → Feeds (Err fault) false due old new → new ≡ old
failed_as_before Full due old new feeds = absurd (let none = feeds.0 in cc)
failed_as_before (Wrong kind) due old new feeds = feeds.2
failed_as_before Memory due old new feeds = feeds

-- and leaves improvements to be taken back
pub feeds_taken_back : (fault : LiveFault) (live mid left new : LiveEnd) (due other : Result LiveEnd ScriptKind) → Feeds (Err fault) false due mid left → other ≡ due → new ≡ live → Feeds (Err fault) false other live new
feeds_taken_back Full live mid left new due other feeds is same = absurd (let none = feeds.0 in cc)
feeds_taken_back (Wrong kind) live mid left new due other feeds is same = (refl, is ∙ feeds.1, same)
feeds_taken_back Memory live mid left new due other feeds is same = same

all_taken_back : (draft next : Draft) (ids : List ℕ) → each_in_turn pushed draft (map Improve ids) ≡ Ok next → without_steps next ≡ without_steps draft
unfolding each_in_turn
all_taken_back draft next [] is = let same : draft ≡ next = cc in ap without_steps (sym same)
all_taken_back draft next (id ∷ ids) is =
    let one = and_then_ok (pushed draft (Improve id)) (λ after. each_in_turn pushed after (map Improve ids)) next is in
    all_taken_back one.0 next ids one.2 ∙ improvement_taken_back draft one.0 id one.1

-- so that all is as it was
pub taken_back : (live : LiveEnd) (draft : Draft) (ids : List ℕ) (mid new : LiveEnd) → each_in_turn pushed live.draft (map Improve ids) ≡ Ok draft → live.draft.steps ≡ [] → mid ≡ record live { draft = draft } → new.end ≡ mid.end
    → new.draft ≡ without_steps mid.draft → new ≡ live
taken_back live draft ids mid new ok none same end back =
    let drafted : new.draft ≡ live.draft =
    back ∙ ap (λ (l : LiveEnd). without_steps l.draft) same ∙ all_taken_back live.draft draft ids ok ∙ ap (λ l. record live.draft { steps = l }) (sym none) in
    as_before live new.end new.draft (end ∙ ap (λ (l : LiveEnd). l.end) same) drafted

-- the steps stand where they were pushed
pub improved_stands : (live : LiveEnd) (draft : Draft) (ids : List ℕ) (new : ServerEnd) → live.draft.steps ≡ [] → each_in_turn pushed live.draft (map Improve ids) ≡ Ok draft
    → StandsWithMore draft.pictures (draft.steps ++ Frame ∷ []) live.end new → StandsWithMore live.draft.pictures (map Improve ids ++ Frame ∷ []) live.end new
improved_stands live draft ids new none ok stands =
    let found = improved_behind live.draft draft ids ok in
    let steps : draft.steps ≡ map Improve ids = found.steps ∙ ap (λ l. l ++ map Improve ids) none in
    subst (λ p. StandsWithMore p (map Improve ids ++ Frame ∷ []) live.end new) found.pictures
    (subst (λ l. StandsWithMore draft.pictures (l ++ Frame ∷ []) live.end new) steps stands)

-- idle ---------------------------------------------------------------------------------------------------------------------

-- an idle live end isn't spent
not_both : (a b : Bool) → (a && b) ≡ true → b ≡ true
not_both true true both = refl
not_both true false both = absurd cc
not_both false b both = absurd cc

pub idle_fresh : (live : LiveEnd) → is_idle live ≡ true → live.end.spent ≡ false
idle_fresh live idle =
    not_true live.end.spent (both_true (not live.end.spent) (live.end.confirmed && (has_room live.end.window && has_sent_all live.end)) (not_both (is_none live.draft.steps) (wants_frame live) idle)).0

-- its live tiles are of the setting of the script
pub tiles_by : {held : Held} (end : ServerEnd) → InStep held end → AreBy end.script.setting end.planner.server.passes.live
tiles_by end s = subst (λ (p : Planned). AreBy end.script.setting p.server.passes.live) (sym s.planned) (live_by _ _ _ _ s.plan.holds.tiles)

-- the surfaces are improved
pub improves : (live new : LiveEnd) (ids slice : List ℕ) → AreRaisable live.end.planner.server.passes.live ids → is_none ids ≡ false → slice ≡ ids → improvements_fed live slice ≡ Ok new
    → StandsWithMore live.draft.pictures (map Improve slice ++ Frame ∷ []) live.end new.end → Improves live new
improves live new ids slice raisable some same fed stands = record {
  ids = ids;
  raisable = raisable;
  some = some;
  fed = ap (improvements_fed live) (sym same) ∙ fed;
  stands = subst (λ l. StandsWithMore live.draft.pictures (map Improve l ++ Frame ∷ []) live.end new.end) same stands;
}
