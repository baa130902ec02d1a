-- A draft goes on from where it stands: each call keeps that, and so does a script that takes what the draft has, which stays accepted.
use Rattle.std.proofs.Common.{◌≡◌, ℕ, ◌+◌, ◌≤◌, ◌<◌, ◌-◌, IsTrue, List, [], ◌∷◌, ◌++◌, length, take, take_all, Option, Ok, refl, sym, ap, ◌∙◌, subst, append_assoc, append-nil, length-append, nat_lt, arith}
use Rattle.std.proofs.lemmas.Bool.{ltb-true}
use Rattle.std.proofs.lemmas.List.{length-map, take-append-le}
use Rattle.gfx_base.specs.declared.geometry.Point.{Point}
use Rattle.gfx_base.specs.Results.{check}
use Rattle.gfx_base.proofs.ResultLemmas.{and_then_ok, check_ok}
use Rattle.gfx_script.specs.declared.TheConstants.{MOST_STEPS}
use Rattle.gfx_script.specs.declared.error.ScriptKind.TheVariants.{Range}
use Rattle.gfx_script.specs.declared.held.Sides.{Sides}
use Rattle.gfx_script.specs.declared.picture.Picture.{Picture}
use Rattle.gfx_script.specs.declared.step.Kind.{Kind}
use Rattle.gfx_script.specs.declared.step.Step.{Step}
use Rattle.gfx_script.specs.declared.step.Step.TheVariants.{Frame, Paint}
use Rattle.gfx_script.specs.Checks.{Held, held_after, held_from, held_through, sides_of_all}
use Rattle.gfx_script.specs.Drafts.{Draft, GoesOn, behind_picture, behind_step, grown_by, has_room_for_picture, moved_out, nothing_drafted, painted, pushed, sides_of, steps_so_far, with_picture, without_picture, without_step}
use Rattle.gfx_script.specs.Pictures.{IsDrawn, is_drawn}
use Rattle.gfx_script.specs.Script.{IsAcceptedFrom, IsStep, is_framed, is_step}
use Rattle.gfx_script.specs.Scripted.{Script}
use Rattle.gfx_script.specs.Stock.{Stock}
use Rattle.gfx_script.proofs.MoreSteps.{all_both, framed_both, held_through-none, more_sides, pictures_stay, pictures_stay_through, sides_both, through_both, through_last, through_more}
use Rattle.gfx_script.proofs.Ranged.{picture_tested, step_tested}

-- nothing goes on from where a script begins
pub nothing_goes_on : (stock : Stock) → GoesOn (held_from [] stock) 0 (nothing_drafted stock)
nothing_goes_on stock = record {
  drawn = tt;
  numbers = tt;
  checked = held_through-none (held_from [] stock);
  few = omega arith;
  few_pictures = omega arith;
  place = refl;
}

-- the pictures that are held are those that were, and the draft's
pub sides_drafted : (from : Held) (count : ℕ) (draft : Draft) → GoesOn from count draft → draft.held.pictures ≡ from.pictures ++ sides_of_all draft.pictures
sides_drafted from count draft goes = pictures_stay_through (more_sides from (sides_of_all draft.pictures)) draft.held draft.steps goes.checked

-- ---- one picture

behind_picture_goes_on : (from : Held) (count : ℕ) (draft : Draft) (picture : Picture) → GoesOn from count draft → length draft.held.pictures < MOST_STEPS → IsDrawn picture
    → GoesOn from count (behind_picture draft picture)
behind_picture_goes_on from count draft picture goes room drawn = record {
  drawn = all_both IsDrawn draft.pictures (picture ∷ []) goes.drawn (drawn, tt);
  numbers = goes.numbers;
  checked =
      ap (λ sides. held_through (record from { pictures = sides }) draft.steps)
      (ap (λ l. from.pictures ++ l) (sides_both draft.pictures (picture ∷ [])) ∙ sym (append_assoc from.pictures (sides_of_all draft.pictures) (sides_of picture ∷ [])))
      ∙ through_more (more_sides from (sides_of_all draft.pictures)) draft.held (sides_of picture ∷ []) draft.steps goes.checked;
  few = goes.few;
  few_pictures = let long : length (draft.held.pictures ++ sides_of picture ∷ []) ≡ length draft.held.pictures + 1 = length-append draft.held.pictures (sides_of picture ∷ []) in omega (arith, room);
  place = goes.place;
}

-- a picture that is added
pub picture_goes_on : (from : Held) (count : ℕ) (draft : Draft) (picture : Picture) (next : ℕ × Draft) → GoesOn from count draft → with_picture draft picture ≡ Ok next → GoesOn from count next.1
unfolding with_picture
picture_goes_on from count draft picture next goes is =
    let room = and_then_ok (check Range (has_room_for_picture draft)) _ next is in
    let drawn = and_then_ok (check Range (is_drawn picture)) _ next room.2 in
    let same : (length draft.held.pictures, behind_picture draft picture) ≡ next = let h = drawn.2 in cc in
    subst (λ n. GoesOn from count n.1) same
    (behind_picture_goes_on from count draft picture goes
    (ltb-true (length draft.held.pictures) MOST_STEPS (check_ok Range (has_room_for_picture draft) room.1))
    ((picture_tested picture).0 (check_ok Range (is_drawn picture) drawn.1)))

-- the last of a list is taken back
front : {X : Type 0} (xs : List X) (x : X) → take (length (xs ++ x ∷ []) - 1) (xs ++ x ∷ []) ≡ xs
front xs x =
    let same : length (xs ++ x ∷ []) - 1 ≡ length xs = omega (arith, length-append xs (x ∷ [])) in
    ap (λ n. take n (xs ++ x ∷ [])) same ∙ take-append-le (length xs) xs (x ∷ []) (omega arith) ∙ take_all (length xs) xs (omega arith)

-- a picture that is taken back leaves all as it was
pub taken_back : (draft : Draft) (picture : Picture) (next : ℕ × Draft) → with_picture draft picture ≡ Ok next → without_picture next.1 ≡ draft
unfolding with_picture
taken_back draft picture next is =
    let room = and_then_ok (check Range (has_room_for_picture draft)) _ next is in
    let drawn = and_then_ok (check Range (is_drawn picture)) _ next room.2 in
    let same : (length draft.held.pictures, behind_picture draft picture) ≡ next = let h = drawn.2 in cc in
    subst (λ n. without_picture n.1 ≡ draft) same
    (λ i. record draft { held = record draft.held { pictures = front draft.held.pictures (sides_of picture) i }; pictures = front draft.pictures picture i })

-- ---- one step

behind_step_goes_on : (from : Held) (count : ℕ) (draft : Draft) (step : Step) (after : Held) → GoesOn from count draft → steps_so_far draft < MOST_STEPS → IsStep step → held_after draft.held step ≡ Ok after
    → GoesOn from count (behind_step draft step after)
behind_step_goes_on from count draft step after goes room numbers is = record {
  drawn = goes.drawn;
  numbers = all_both IsStep draft.steps (step ∷ []) goes.numbers (numbers, tt);
  checked = through_last (more_sides from (sides_of_all draft.pictures)) draft.held after draft.steps step goes.checked is;
  few = let long : length (draft.steps ++ step ∷ []) ≡ length draft.steps + 1 = length-append draft.steps (step ∷ []) in omega (arith, room, goes.place);
  few_pictures = subst (λ pictures. length pictures ≤ MOST_STEPS) (sym (pictures_stay draft.held after step is)) goes.few_pictures;
  place = goes.place;
}

-- a step that is pushed
pub step_goes_on : (from : Held) (count : ℕ) (draft : Draft) (step : Step) (next : Draft) → GoesOn from count draft → pushed draft step ≡ Ok next → GoesOn from count next
unfolding pushed
step_goes_on from count draft step next goes is =
    let room = and_then_ok (check Range (nat_lt (steps_so_far draft) MOST_STEPS)) _ next is in
    let numbers = and_then_ok (check Range (is_step step)) _ next room.2 in
    let held = and_then_ok (held_after draft.held step) _ next numbers.2 in
    let same : behind_step draft step held.0 ≡ next = let h = held.2 in cc in
    subst (GoesOn from count) same
    (behind_step_goes_on from count draft step held.0 goes
    (ltb-true (steps_so_far draft) MOST_STEPS (check_ok Range (nat_lt (steps_so_far draft) MOST_STEPS) room.1))
    ((step_tested step).0 (check_ok Range (is_step step) numbers.1)) held.1)

-- what is kept of it stays within its limits
pub push_fits : (before : ℕ) (old new : List Step) (step : Step) (held after : Held) → before + length old < MOST_STEPS → new ≡ old ++ step ∷ [] → length held.pictures ≤ MOST_STEPS → held_after held step ≡ Ok after
    → (before + length new ≤ MOST_STEPS) × (length after.pictures ≤ MOST_STEPS)
push_fits before old new step held after room more few is =
    let long : length new ≡ length old + 1 = ap length more ∙ length-append old (step ∷ []) in
    (omega (arith, room, long), subst (λ pictures. length pictures ≤ MOST_STEPS) (sym (pictures_stay held after step is)) few)

-- a picture with its paint
pub paint_goes_on : (from : Held) (count : ℕ) (draft : Draft) (picture : Picture) (id : ℕ) (at : Point) (kind : Option Kind) (glyph : Option ℕ) (next : Draft)
    → GoesOn from count draft → painted draft picture id at kind glyph ≡ Ok next → GoesOn from count next
unfolding painted
paint_goes_on from count draft picture id at kind glyph next goes is =
    let added = and_then_ok (with_picture draft picture) _ next is in
    step_goes_on from count added.0.1 (Paint id added.0.0 at kind glyph) next (picture_goes_on from count draft picture added.0 goes added.1) added.2

-- ---- a frame

-- steps with a frame behind them
framed_by_frame : (steps : List Step) → IsTrue (is_framed (steps ++ Frame ∷ []))
framed_by_frame [] = refl
framed_by_frame (step ∷ []) = refl
framed_by_frame (step ∷ next ∷ steps) = framed_by_frame (next ∷ steps)

-- a frame that is pushed leaves all but the steps as it was
with_frame : (draft next : Draft) → pushed draft Frame ≡ Ok next → behind_step draft Frame draft.held ≡ next
unfolding pushed held_after
with_frame draft next is =
    let room = and_then_ok (check Range (nat_lt (steps_so_far draft) MOST_STEPS)) _ next is in
    let numbers = and_then_ok (check Range (is_step Frame)) _ next room.2 in
    let held = and_then_ok (held_after draft.held Frame) _ next numbers.2 in
    let same : draft.held ≡ held.0 = let h = held.1 in cc in
    let rest : behind_step draft Frame held.0 ≡ next = let h = held.2 in cc in
    ap (behind_step draft Frame) same ∙ rest

-- and the draft ends with it
pub frame_pushed : (draft next : Draft) → pushed draft Frame ≡ Ok next → IsTrue (is_framed next.steps)
frame_pushed draft next is = subst (λ (d : Draft). IsTrue (is_framed d.steps)) (with_frame draft next is) (framed_by_frame draft.steps)

-- a frame that is taken back leaves all as it was
pub frame_taken_back : (draft next : Draft) → pushed draft Frame ≡ Ok next → without_step next ≡ draft
frame_taken_back draft next is = ap without_step (sym (with_frame draft next is)) ∙ ap (λ steps. record draft { steps = steps }) (front draft.steps Frame)

-- ---- a script that grows

-- what the script has taken is behind it
pub moved_goes_on : (from : Held) (count : ℕ) (draft : Draft) → GoesOn from count draft → GoesOn draft.held (count + length draft.steps) (moved_out draft)
moved_goes_on from count draft goes = record {
  drawn = tt;
  numbers = tt;
  checked = ap (λ pictures. held_through (record draft.held { pictures = pictures }) []) (append-nil draft.held.pictures) ∙ held_through-none draft.held;
  few = let none : count + length draft.steps + 0 ≡ count + length draft.steps = omega arith in omega (arith, goes.few);
  few_pictures = goes.few_pictures;
  place = ap (λ n. n + length draft.steps) goes.place;
}

-- a script that was accepted is so with a draft that goes on from it, whose last step is a frame, and leaves what the draft holds
pub grown_accepted : (start : Held) (script : Script) (draft : Draft) (good : IsAcceptedFrom start script) → start.pictures ≡ sides_of_all script.pictures → GoesOn good.held (length script.steps) draft
    → IsTrue (is_framed draft.steps) → (now : IsAcceptedFrom (more_sides start (sides_of_all draft.pictures)) (grown_by script draft)) × (now.held ≡ draft.held)
grown_accepted start script draft good same goes framed = (
  record {
    window_from = good.window_from;
    window_most = good.window_most;
    some_offers = good.some_offers;
    few_offers = good.few_offers;
    offers = good.offers;
    setting = good.setting;
    small = good.small;
    thin = good.thin;
    few_pictures = subst (λ n. n ≤ MOST_STEPS) counted goes.few_pictures;
    pictures = all_both IsDrawn script.pictures draft.pictures good.pictures goes.drawn;
    few = subst (λ n. n ≤ MOST_STEPS) (sym (length-append script.steps draft.steps)) goes.few;
    numbers = all_both IsStep script.steps draft.steps good.numbers goes.numbers;
    held = draft.held;
    checked = through_both (more_sides start sides) (more_sides good.held sides) script.steps draft.steps (through_more start good.held sides script.steps good.checked) ∙ goes.checked;
    framed = framed_both script.steps draft.steps good.framed framed;
    few_turns = good.few_turns;
    turns = good.turns;
  },
  refl,
)
  where
    sides : List Sides
    sides = sides_of_all draft.pictures

    counted : length draft.held.pictures ≡ length (script.pictures ++ draft.pictures)
    counted =
        ap length (sides_drafted good.held (length script.steps) draft goes ∙ ap (λ l. l ++ sides_of_all draft.pictures) (pictures_stay_through start good.held script.steps good.checked ∙ same) ∙ sym (sides_both script.pictures draft.pictures))
        ∙ length-map (script.pictures ++ draft.pictures) sides_of
