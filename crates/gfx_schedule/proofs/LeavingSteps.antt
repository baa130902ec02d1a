-- The steps that are kept come to what all steps come to.
use Rattle.std.proofs.Common.{◌≡◌, ◌∙◌, ◌&&◌, ◌||◌, ℕ, Bool, true, false, cond, List, [], ◌∷◌, map, fold, Option, Some, None, option_map, Result, Ok, inl, inr, refl, sym, ap, subst}
use Rattle.std.specs.List.{cons_option}
use Rattle.std.specs.Option.{option_and_then, is_some}
use Rattle.std.proofs.lemmas.Bool.{cases_Bool}
use Rattle.gfx_base.proofs.ResultLemmas.{and_then_ok, and_then_at}
use Rattle.gfx_base.specs.declared.geometry.Point.{Point}
use Rattle.gfx_base.specs.declared.geometry.Rect.{Rect}
use Rattle.gfx_script.specs.Checks.{Held, held_after, held_through, rects_filled, picture_painted}
use Rattle.gfx_script.specs.Kinds.{KindedStep, as_kind}
use Rattle.gfx_script.specs.Script.{is_frame, step_at}
use Rattle.gfx_script.specs.Scripted.{Script}
use Rattle.gfx_script.specs.Writes.{Area, writes_by, writes_plainly}
use Rattle.gfx_script.specs.declared.error.ScriptKind.{ScriptKind}
use Rattle.gfx_script.specs.declared.step.Kind.{Kind}
use Rattle.gfx_script.specs.declared.step.Step.{Step}
use Rattle.gfx_script.specs.declared.step.Step.TheVariants.{Surface, Delete, Reset, Map, Fill, Copy, Keep, Show, Forget, Paint, Improve, Frame}
use Rattle.gfx_planner.specs.Passes.{ended_by, passes_as}
use Rattle.gfx_planner.specs.Wanted.{Wanted}
use Rattle.gfx_planner.specs.Want.{wanted_as, wanted_after}
use Rattle.gfx_window.specs.Superseded.{plain_area, shows, covers, is_covered, is_left_out}
use Rattle.gfx_window.specs.declared.window.Queued.{Queued}
use Rattle.gfx_window.proofs.HullLaws.{both}
use Rattle.gfx_schedule.specs.Leaving.{step_of, steps_of, kept, LeavingIsAllowed, LeavingIsNotSeen}
use Rattle.gfx_schedule.proofs.LeavingPictures.{either_rest}
use Rattle.gfx_schedule.proofs.LeavingStates.{AlikeBut, plain-draws, alike-self, alike-later, alike-covered}

-- what is wanted --------------------------------------------------------------------------------------

-- after the steps of items
abbrev wanted_then : Script → Wanted → List Queued → Wanted
wanted_then script wanted items = fold (wanted_after script) wanted (steps_of script items)

-- an item that is a step
then-some : (script : Script) (wanted : Wanted) (item : Queued) (items : List Queued) (step : Step) → step_at script.steps item.step ≡ Some step
    → wanted_then script wanted (item ∷ items) ≡ wanted_then script (wanted_after script wanted (as_kind item.kind step)) items
then-some script wanted item items step there =
    ap (λ o. fold (wanted_after script) wanted (cons_option (option_map (as_kind item.kind) o) (steps_of script items))) there

-- a frame changes nothing
frame_stays : (script : Script) (wanted : Wanted) (kind : Option Kind) (step : Step) → is_frame step ≡ true → wanted_after script wanted (as_kind kind step) ≡ wanted
unfolding wanted_as passes_as writes_by ended_by
frame_stays script wanted kind Frame is = refl
frame_stays script wanted kind (Surface id width height format) is = absurd cc
frame_stays script wanted kind (Delete id) is = absurd cc
frame_stays script wanted kind (Reset width height) is = absurd cc
frame_stays script wanted kind (Map id x y) is = absurd cc
frame_stays script wanted kind (Fill id colour rects) is = absurd cc
frame_stays script wanted kind (Copy from to rect points) is = absurd cc
frame_stays script wanted kind (Keep id key rect) is = absurd cc
frame_stays script wanted kind (Show key to points) is = absurd cc
frame_stays script wanted kind (Forget key) is = absurd cc
frame_stays script wanted kind (Paint id picture at named glyph) is = absurd cc
frame_stays script wanted kind (Improve id) is = absurd cc

-- what is wanted after these items is the same after two states that are alike but in an area
abbrev Hides : Script → Area → List Queued → Type 0
Hides script area items = (v w : Wanted) → is_covered script area items ≡ true → AlikeBut area v w → wanted_then script v items ≡ wanted_then script w items

hides-step : (script : Script) (area : Area) (kind : Option Kind) (step : Step) (items : List Queued) (plain : Option Area) (v w : Wanted) → writes_plainly script kind step ≡ plain
    → Hides script area items → (covers area plain || ((is_some plain || is_frame step) && is_covered script area items)) ≡ true → AlikeBut area v w
    → wanted_then script (wanted_after script v (as_kind kind step)) items ≡ wanted_then script (wanted_after script w (as_kind kind step)) items
hides-step script area kind step items None v w plain again covered alike =
    let h = both (is_frame step) (is_covered script area items) covered in
    ap (λ u. wanted_then script u items) (frame_stays script v kind step h.0)
    ∙ again v w h.1 alike
    ∙ sym (ap (λ u. wanted_then script u items) (frame_stays script w kind step h.0))
hides-step script area kind step items (Some later) v w plain again covered alike =
    let draws = plain-draws script kind step later plain in
    elim (cases_Bool (covers area (Some later))) [
      | inl here ↦ ap (λ u. wanted_then script u items) (alike-covered area later (λ u. wanted_after script u (as_kind kind step)) v w draws here alike)
      | inr not_here ↦
          again (wanted_after script v (as_kind kind step)) (wanted_after script w (as_kind kind step)) (either_rest (covers area (Some later)) (is_covered script area items) covered not_here)
          (alike-later area later (λ u. wanted_after script u (as_kind kind step)) v w draws alike)
    ]

hides-item : (script : Script) (area : Area) (item : Queued) (items : List Queued) (o : Option Step) (v w : Wanted) → step_at script.steps item.step ≡ o
    → Hides script area items
    → (covers area (option_and_then (writes_plainly script item.kind) o) || ((is_some (option_and_then (writes_plainly script item.kind) o) || shows o) && is_covered script area items)) ≡ true
    → AlikeBut area v w → wanted_then script v (item ∷ items) ≡ wanted_then script w (item ∷ items)
hides-item script area item items None v w there again covered alike = absurd cc
hides-item script area item items (Some step) v w there again covered alike =
    then-some script v item items step there
    ∙ hides-step script area item.kind step items (writes_plainly script item.kind step) v w refl again covered alike
    ∙ sym (then-some script w item items step there)

hides : (script : Script) (area : Area) (items : List Queued) → Hides script area items
unfolding is_covered
hides script area [] v w covered alike = absurd cc
hides script area (item ∷ items) v w covered alike =
    hides-item script area item items (step_at script.steps item.step) v w refl (hides script area items) covered alike

-- an item that is left out isn't seen
left-step : (script : Script) (kind : Option Kind) (step : Step) (behind : List Queued) (plain : Option Area) (wanted : Wanted) → writes_plainly script kind step ≡ plain
    → is_left_out script plain behind ≡ true → wanted_then script (wanted_after script wanted (as_kind kind step)) behind ≡ wanted_then script wanted behind
left-step script kind step behind None wanted plain left = absurd cc
left-step script kind step behind (Some area) wanted plain left =
    hides script area behind (wanted_after script wanted (as_kind kind step)) wanted left
    (alike-self area (λ u. wanted_after script u (as_kind kind step)) wanted (plain-draws script kind step area plain))

left-item : (script : Script) (item : Queued) (behind : List Queued) (o : Option Step) (wanted : Wanted) → step_at script.steps item.step ≡ o
    → is_left_out script (option_and_then (writes_plainly script item.kind) o) behind ≡ true → wanted_then script wanted (item ∷ behind) ≡ wanted_then script wanted behind
left-item script item behind None wanted there left = absurd cc
left-item script item behind (Some step) wanted there left =
    then-some script wanted item behind step there ∙ left-step script item.kind step behind (writes_plainly script item.kind step) wanted refl left

-- one step in front of steps that come to the same
cons-same : (script : Script) (o : Option KindedStep) (xs ys : List KindedStep) (wanted : Wanted)
    → ((w : Wanted) → fold (wanted_after script) w xs ≡ fold (wanted_after script) w ys) → fold (wanted_after script) wanted (cons_option o xs) ≡ fold (wanted_after script) wanted (cons_option o ys)
cons-same script None xs ys wanted same = same wanted
cons-same script (Some one) xs ys wanted same = same (wanted_after script wanted one)

kept-same : (script : Script) (item : Queued) (behind items : List Queued) (b : Bool) (wanted : Wanted) → is_left_out script (plain_area script item) behind ≡ b
    → ((w : Wanted) → wanted_then script w items ≡ wanted_then script w behind) → wanted_then script wanted (cond b items (item ∷ items)) ≡ wanted_then script wanted (item ∷ behind)
kept-same script item behind items true wanted left again =
    again wanted ∙ sym (left-item script item behind (step_at script.steps item.step) wanted refl left)
kept-same script item behind items false wanted left again = cons-same script (step_of script item) (steps_of script items) (steps_of script behind) wanted again

pub not_seen : LeavingIsNotSeen
unfolding kept
not_seen script wanted [] = refl
not_seen script wanted (item ∷ behind) =
    kept-same script item behind (kept script behind) (is_left_out script (plain_area script item) behind) wanted refl (λ w. not_seen script w behind)

-- what the checks hold ------------------------------------------------------------------------------

-- what is held after the steps of items
abbrev held_then : Held → List KindedStep → Result Held ScriptKind
held_then held steps = held_through held (map (λ one. one.step) steps)

same_held : (held after : Held) → ◌≡◌ {A = Result Held ScriptKind} (Ok held) (Ok after) → after ≡ held
same_held held after e = cc

-- a plain write changes nothing of what is held
fill_holds : (held after : Held) (id : ℕ) (rects : List Rect) → rects_filled held id rects ≡ Ok after → after ≡ held
unfolding rects_filled
fill_holds held after id rects e =
    let sides = and_then_ok _ _ after e in
    let inside = and_then_ok _ _ after sides.2 in
    same_held held after inside.2

paint_holds : (held after : Held) (id picture : ℕ) (at : Point) (named : Option Kind) (glyph : Option ℕ) → picture_painted held id picture at named glyph ≡ Ok after → after ≡ held
unfolding picture_painted
paint_holds held after id picture at named glyph e =
    let sides = and_then_ok _ _ after e in
    let drawn = and_then_ok _ _ after sides.2 in
    let inside = and_then_ok _ _ after drawn.2 in
    let small = and_then_ok _ _ after inside.2 in
    same_held held after small.2

plain_holds : (script : Script) (kind : Option Kind) (step : Step) (plain : Area) (held after : Held) → writes_plainly script kind step ≡ Some plain → held_after held step ≡ Ok after → after ≡ held
unfolding writes_plainly held_after
plain_holds script kind (Fill id colour rects) plain held after there e = fill_holds held after id rects e
plain_holds script None (Paint id picture at named glyph) plain held after there e = absurd cc
plain_holds script (Some one) (Paint id picture at named glyph) plain held after there e = paint_holds held after id picture at named glyph e
plain_holds script kind (Surface id width height format) plain held after there e = absurd cc
plain_holds script kind (Delete id) plain held after there e = absurd cc
plain_holds script kind (Reset width height) plain held after there e = absurd cc
plain_holds script kind (Map id x y) plain held after there e = absurd cc
plain_holds script kind (Copy from to rect points) plain held after there e = absurd cc
plain_holds script kind (Keep id key rect) plain held after there e = absurd cc
plain_holds script kind (Show key to points) plain held after there e = absurd cc
plain_holds script kind (Forget key) plain held after there e = absurd cc
plain_holds script kind (Improve id) plain held after there e = absurd cc
plain_holds script kind Frame plain held after there e = absurd cc

-- one step, and those behind it
through-cons : (held after : Held) (one : KindedStep) (steps : List KindedStep) → held_then held (one ∷ steps) ≡ Ok after
    → (mid : Held) × (held_after held one.step ≡ Ok mid) × (held_then mid steps ≡ Ok after)
unfolding held_through
through-cons held after one steps e = and_then_ok (held_after held one.step) _ after e

through-step : (held mid : Held) (one : KindedStep) (steps : List KindedStep) → held_after held one.step ≡ Ok mid → held_then held (one ∷ steps) ≡ held_then mid steps
unfolding held_through
through-step held mid one steps e = and_then_at (held_after held one.step) mid _ e

left-holds : (script : Script) (item : Queued) (behind : List Queued) (o : Option Step) (held after : Held)
    → is_left_out script (option_and_then (writes_plainly script item.kind) o) behind ≡ true
    → held_then held (cons_option (option_map (as_kind item.kind) o) (steps_of script behind)) ≡ Ok after → held_then held (steps_of script behind) ≡ Ok after
left-holds script item behind None held after left e = absurd cc
left-holds script item behind (Some step) held after left e = by (writes_plainly script item.kind step) refl left
  where
    by : (plain : Option Area) → writes_plainly script item.kind step ≡ plain → is_left_out script plain behind ≡ true → held_then held (steps_of script behind) ≡ Ok after
    by None plain left = absurd cc
    by (Some area) plain left =
        let h = through-cons held after (as_kind item.kind step) (steps_of script behind) e in
        subst (λ z. held_then z (steps_of script behind) ≡ Ok after) (plain_holds script item.kind step area held h.0 plain h.1) h.2

cons-holds : (o : Option KindedStep) (xs ys : List KindedStep) (held after : Held) → ((z : Held) → held_then z xs ≡ Ok after → held_then z ys ≡ Ok after)
    → held_then held (cons_option o xs) ≡ Ok after → held_then held (cons_option o ys) ≡ Ok after
cons-holds None xs ys held after again e = again held e
cons-holds (Some one) xs ys held after again e =
    let h = through-cons held after one xs e in through-step held h.0 one ys h.1 ∙ again h.0 h.2

kept-holds : (script : Script) (item : Queued) (behind items : List Queued) (b : Bool) (held after : Held) → is_left_out script (plain_area script item) behind ≡ b
    → ((z : Held) → held_then z (steps_of script behind) ≡ Ok after → held_then z (steps_of script items) ≡ Ok after)
    → held_then held (steps_of script (item ∷ behind)) ≡ Ok after → held_then held (steps_of script (cond b items (item ∷ items))) ≡ Ok after
kept-holds script item behind items true held after left again e = again held (left-holds script item behind (step_at script.steps item.step) held after left e)
kept-holds script item behind items false held after left again e =
    cons-holds (step_of script item) (steps_of script behind) (steps_of script items) held after again e

pub is_allowed : LeavingIsAllowed
unfolding kept
is_allowed script held after [] e = e
is_allowed script held after (item ∷ behind) e =
    kept-holds script item behind (kept script behind) (is_left_out script (plain_area script item) behind) held after refl (λ z. is_allowed script z after behind) e
