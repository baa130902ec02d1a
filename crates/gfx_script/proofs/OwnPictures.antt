-- What is pushed behind a script paints pictures of its own, whatever is pushed.
use Rattle.std.proofs.Common.{◌≡◌, ℕ, false, ◌≤◌, List, [], ◌∷◌, ◌++◌, length, map, nat_lt, Option, Ok, sym, ap, ◌∙◌, subst, append-nil, append_assoc, length-append, arith}
use Rattle.std.specs.List.{AllByRecursion}
use Rattle.gfx_base.specs.Results.{check}
use Rattle.gfx_base.proofs.ResultLemmas.{and_then_ok}
use Rattle.gfx_base.specs.declared.geometry.Point.{Point}
use Rattle.gfx_script.specs.Building.{each_in_turn}
use Rattle.gfx_script.specs.Checks.{Held, held_after, sides_of_all}
use Rattle.gfx_script.specs.Drafts.{Draft, GoesOn, behind_picture, behind_step, has_room_for_picture, painted, pushed, steps_so_far, with_picture}
use Rattle.gfx_script.specs.Forgetting.{PaintsFrom}
use Rattle.gfx_script.specs.Pictures.{is_drawn}
use Rattle.gfx_script.specs.Script.{is_paint, is_step}
use Rattle.gfx_script.specs.declared.TheConstants.{MOST_STEPS}
use Rattle.gfx_script.specs.declared.error.ScriptKind.TheVariants.{Range}
use Rattle.gfx_script.specs.declared.picture.Picture.{Picture}
use Rattle.gfx_script.specs.declared.step.Kind.{Kind}
use Rattle.gfx_script.specs.declared.step.Step.{Step}
use Rattle.gfx_script.specs.declared.step.Step.TheVariants.{Surface, Delete, Reset, Map, Fill, Copy, Keep, Show, Forget, Paint, Improve, Frame}
use Rattle.gfx_script.proofs.Drafting.{step_goes_on}
use Rattle.gfx_script.proofs.MoreSteps.{all_both, pictures_stay_through}

-- a step that is pushed stands behind the others
pub pushed_behind : (draft next : Draft) (step : Step) → pushed draft step ≡ Ok next → (next.steps ≡ draft.steps ++ step ∷ []) × (next.pictures ≡ draft.pictures)
unfolding pushed
pushed_behind draft next step is =
    let room = and_then_ok (check Range (nat_lt (steps_so_far draft) MOST_STEPS)) _ next is in
    let numbers = and_then_ok (check Range (is_step step)) _ next room.2 in
    let held = and_then_ok (held_after draft.held step) _ next numbers.2 in
    let same : behind_step draft step held.0 ≡ next = let h = held.2 in cc in
    (ap (λ (d : Draft). d.steps) (sym same), ap (λ (d : Draft). d.pictures) (sym same))

-- so all paint pictures of their own where it does
pub own_pushed : (first : ℕ) (draft next : Draft) (step : Step) → pushed draft step ≡ Ok next → PaintsFrom first step → AllByRecursion (PaintsFrom first) draft.steps → AllByRecursion (PaintsFrom first) next.steps
own_pushed first draft next step is one own =
    subst (AllByRecursion (PaintsFrom first)) (sym (pushed_behind draft next step is).0) (all_both (PaintsFrom first) draft.steps (step ∷ []) own (one, tt))

-- a picture that is pushed with its paint has the number of those before it
pub own_painted : (first : ℕ) (draft next : Draft) (picture : Picture) (id : ℕ) (at : Point) (kind : Option Kind) (glyph : Option ℕ) → painted draft picture id at kind glyph ≡ Ok next
    → first ≤ length draft.held.pictures → AllByRecursion (PaintsFrom first) draft.steps → AllByRecursion (PaintsFrom first) next.steps
unfolding painted with_picture
own_painted first draft next picture id at kind glyph is few own =
    let added = and_then_ok (with_picture draft picture) _ next is in
    let room = and_then_ok (check Range (has_room_for_picture draft)) _ added.0 added.1 in
    let drawn = and_then_ok (check Range (is_drawn picture)) _ added.0 room.2 in
    let same : (length draft.held.pictures, behind_picture draft picture) ≡ added.0 = let h = drawn.2 in cc in
    own_pushed first added.0.1 next (Paint id added.0.0 at kind glyph) added.2 (subst (λ n. first ≤ n) (ap (λ (p : ℕ × Draft). p.0) same) few)
    (subst (λ (d : Draft). AllByRecursion (PaintsFrom first) d.steps) (ap (λ (p : ℕ × Draft). p.1) same) own)

-- there are as many as the script has at least
pub pictures_before : (from : Held) (count : ℕ) (draft : Draft) → GoesOn from count draft → length from.pictures ≤ length draft.held.pictures
pictures_before from count draft goes =
    omega (
      arith,
      ap length (pictures_stay_through (record from { pictures = from.pictures ++ sides_of_all draft.pictures }) draft.held draft.steps goes.checked),
      length-append from.pictures (sides_of_all draft.pictures),
    )

-- improvements behind the others
pub record Improved (draft next : Draft) (ids : List ℕ) : Type 0 where
  pub steps : next.steps ≡ draft.steps ++ map Improve ids
  pub pictures : next.pictures ≡ draft.pictures
  pub goes : (from : Held) (count : ℕ) → GoesOn from count draft → GoesOn from count next
  pub own : (first : ℕ) → AllByRecursion (PaintsFrom first) draft.steps → AllByRecursion (PaintsFrom first) next.steps

pub improved_behind : (draft next : Draft) (ids : List ℕ) → each_in_turn pushed draft (map Improve ids) ≡ Ok next → Improved draft next ids
unfolding each_in_turn
improved_behind draft next [] is =
    let same : draft ≡ next = cc in
    record {
      steps = ap (λ (d : Draft). d.steps) (sym same) ∙ sym (append-nil draft.steps);
      pictures = ap (λ (d : Draft). d.pictures) (sym same);
      goes = λ from count goes. subst (GoesOn from count) same goes;
      own = λ first own. subst (λ (d : Draft). AllByRecursion (PaintsFrom first) d.steps) same own;
    }
improved_behind draft next (id ∷ ids) is =
    let one = and_then_ok (pushed draft (Improve id)) (λ after. each_in_turn pushed after (map Improve ids)) next is in
    let first = pushed_behind draft one.0 (Improve id) one.1 in
    let others = improved_behind one.0 next ids one.2 in
    record {
      steps = others.steps ∙ ap (λ l. l ++ map Improve ids) first.0 ∙ append_assoc draft.steps (Improve id ∷ []) (map Improve ids);
      pictures = others.pictures ∙ first.1;
      goes = λ from count goes. others.goes from count (step_goes_on from count draft (Improve id) one.0 goes one.1);
      own = λ first own. others.own first (own_pushed first draft one.0 (Improve id) one.1 tt own);
    }

-- a step that paints nothing paints none of others
pub paints_none : (first : ℕ) (step : Step) → is_paint step ≡ false → PaintsFrom first step
paints_none first (Paint id picture at kind glyph) none = absurd cc
paints_none first (Surface id width height format) none = tt
paints_none first (Delete id) none = tt
paints_none first (Reset width height) none = tt
paints_none first (Map id x y) none = tt
paints_none first (Fill id colour rects) none = tt
paints_none first (Copy from to rect points) none = tt
paints_none first (Keep id key rect) none = tt
paints_none first (Show key to points) none = tt
paints_none first (Forget key) none = tt
paints_none first (Improve id) none = tt
paints_none first Frame none = tt
