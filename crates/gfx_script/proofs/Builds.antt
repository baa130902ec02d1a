-- A script under way stays one with each call, and is accepted where its last step is a frame. Of an accepted script that starts with
-- nothing each call passes, and they give it.
use Rattle.std.proofs.Common.{◌≡◌, ℕ, ◌+◌, ◌≤◌, ◌<◌, Bool, true, List, [], ◌∷◌, ◌++◌, length, Option, Result, Ok, Err, OnErr, refl, sym, ap, ◌∙◌, subst, append_assoc, append-nil, length-append, nat_lt, arith}
use Rattle.std.specs.List.{AllByRecursion}
use Rattle.std.proofs.lemmas.Bool.{lt-ltb}
use Rattle.std.proofs.lemmas.List.{length-map}
use Rattle.gfx_base.specs.declared.geometry.Point.{Point}
use Rattle.gfx_base.specs.declared.answer.Cause.{Cause}
use Rattle.gfx_base.specs.declared.answer.Cause.TheVariants.{Memory, Refused}
use Rattle.gfx_base.specs.Outcome.{Gives}
use Rattle.gfx_base.specs.Results.{check}
use Rattle.gfx_base.proofs.ResultLemmas.{and_then_at}
use Rattle.gfx_caps.specs.Offers.{small_of, thin_of}
use Rattle.gfx_script.specs.declared.TheConstants.{MOST_STEPS, MOST_TURNS}
use Rattle.gfx_script.specs.declared.error.ScriptKind.{ScriptKind}
use Rattle.gfx_script.specs.declared.error.ScriptKind.TheVariants.{Range, Unframed}
use Rattle.gfx_script.specs.declared.head.HeadParts.{HeadParts}
use Rattle.gfx_script.specs.declared.picture.Picture.{Picture}
use Rattle.gfx_script.specs.declared.start.StartBitmap.{StartBitmap}
use Rattle.gfx_script.specs.declared.step.Kind.{Kind}
use Rattle.gfx_script.specs.declared.step.Step.{Step}
use Rattle.gfx_script.specs.declared.turn.Turn.{Turn}
use Rattle.gfx_script.specs.Building.{AcceptedScriptsAreBuilt, Building, IsUnderWay, built, built_by_calls, each_in_turn, nothing_built, picture_built, picture_only, script_so_far, step_built, turn_built}
use Rattle.gfx_script.specs.Checks.{Held, held_after, held_first, held_from, held_through, sides_of_all}
use Rattle.gfx_script.specs.Drafts.{Draft, GoesOn, behind_picture, behind_step, has_room_for_picture, nothing_drafted, painted, pushed, sides_of, steps_so_far, with_picture}
use Rattle.gfx_script.specs.Heads.{IsHead, head_of, head_parts, script_from}
use Rattle.gfx_script.specs.Pictures.{IsDrawn, is_drawn}
use Rattle.gfx_script.specs.Script.{IsAccepted, IsAcceptedAtStart, IsAcceptedFrom, IsStep, IsTurn, held_at_start, is_framed, is_step, is_turn}
use Rattle.gfx_script.specs.Scripted.{Script}
use Rattle.gfx_script.specs.Starting.{IsStart}
use Rattle.gfx_script.specs.Stock.{no_bitmaps}
use Rattle.gfx_script.proofs.Drafting.{nothing_goes_on, paint_goes_on, picture_goes_on, sides_drafted, step_goes_on}
use Rattle.gfx_script.proofs.HeadLemmas.{head_passes}
use Rattle.gfx_script.proofs.MoreSteps.{all_both, held_through-first, held_through-none, more_sides}
use Rattle.gfx_script.proofs.Ranged.{picture_tested, step_tested, turn_tested}

-- ---- each call

pub nothing_under_way : (head : HeadParts) → IsHead head → IsUnderWay (nothing_built head)
nothing_under_way head is = record { head = is; goes = nothing_goes_on (no_bitmaps (small_of head.offers)); few_turns = omega arith; turns = tt }

-- with another draft that goes on
pub drafted_under_way : (building : Building) (draft : Draft) → IsUnderWay building → GoesOn (held_from [] (no_bitmaps (small_of building.head.offers))) 0 draft → IsUnderWay (record building { draft = draft })
drafted_under_way building draft is goes = record { head = is.head; goes = goes; few_turns = is.few_turns; turns = is.turns }

-- with what a call on its draft left, whatever it answered
pub picture_called : (building : Building) (picture : Picture) (result : Result ℕ (Cause ScriptKind)) (new : Draft) → IsUnderWay building → Gives (λ number. (number, new)) result (with_picture building.draft picture)
    → OnErr result (new ≡ building.draft) → IsUnderWay (record building { draft = new })
picture_called building picture (Ok number) new is due same =
    drafted_under_way building new is (picture_goes_on (held_from [] (no_bitmaps (small_of building.head.offers))) 0 building.draft picture (number, new) is.goes due)
picture_called building picture (Err Memory) new is due same = subst (λ draft. IsUnderWay (record building { draft = draft })) (sym same) is
picture_called building picture (Err (Refused kind)) new is due same = subst (λ draft. IsUnderWay (record building { draft = draft })) (sym same) is

pub step_called : (building : Building) (step : Step) (result : Result (Unit {0}) (Cause ScriptKind)) (new : Draft) → IsUnderWay building → Gives (λ _. new) result (pushed building.draft step)
    → OnErr result (new ≡ building.draft) → IsUnderWay (record building { draft = new })
step_called building step (Ok done) new is due same = drafted_under_way building new is (step_goes_on (held_from [] (no_bitmaps (small_of building.head.offers))) 0 building.draft step new is.goes due)
step_called building step (Err Memory) new is due same = subst (λ draft. IsUnderWay (record building { draft = draft })) (sym same) is
step_called building step (Err (Refused kind)) new is due same = subst (λ draft. IsUnderWay (record building { draft = draft })) (sym same) is

pub paint_called : (building : Building) (picture : Picture) (id : ℕ) (at : Point) (kind : Option Kind) (glyph : Option ℕ) (result : Result (Unit {0}) (Cause ScriptKind)) (new : Draft) → IsUnderWay building
    → Gives (λ _. new) result (painted building.draft picture id at kind glyph) → OnErr result (new ≡ building.draft) → IsUnderWay (record building { draft = new })
paint_called building picture id at kind glyph (Ok done) new is due same =
    drafted_under_way building new is (paint_goes_on (held_from [] (no_bitmaps (small_of building.head.offers))) 0 building.draft picture id at kind glyph new is.goes due)
paint_called building picture id at kind glyph (Err Memory) new is due same = subst (λ draft. IsUnderWay (record building { draft = draft })) (sym same) is
paint_called building picture id at kind glyph (Err (Refused wrong)) new is due same = subst (λ draft. IsUnderWay (record building { draft = draft })) (sym same) is

-- with a draft that has nothing
pub new_under_way : (head : HeadParts) (draft : Draft) (turns : List Turn) (small : Bool) → IsHead head → draft ≡ nothing_drafted (no_bitmaps small) → small ≡ small_of head.offers → turns ≡ []
    → IsUnderWay record { head = head; draft = draft; turns = turns }
new_under_way head draft turns small is nothing binds none =
    subst (λ list. IsUnderWay record { head = head; draft = draft; turns = list }) (sym none)
    (subst (λ d. IsUnderWay record { head = head; draft = d; turns = [] }) (sym (nothing ∙ ap (λ s. nothing_drafted (no_bitmaps s)) binds)) (nothing_under_way head is))

-- with one turn more
pub turned_under_way : (building : Building) (turn : Turn) → IsUnderWay building → length building.turns < MOST_TURNS → is_turn turn ≡ true → IsUnderWay (record building { turns = building.turns ++ turn ∷ [] })
turned_under_way building turn is room good = record {
  head = is.head;
  goes = is.goes;
  few_turns = let long : length (building.turns ++ turn ∷ []) ≡ length building.turns + 1 = length-append building.turns (turn ∷ []) in omega (arith, room);
  turns = all_both IsTurn building.turns (turn ∷ []) is.turns ((turn_tested turn).0 good, tt);
}

-- ---- the end

-- the script of a head that shows nothing
pub head_accepted : (head : HeadParts) (start : List StartBitmap) → IsHead head → IsStart start (small_of head.offers) → IsAcceptedAtStart (script_from head start)
head_accepted head start is starts = record {
  start = starts;
  accepted = record {
    window_from = is.window_from;
    window_most = is.window_most;
    some_offers = is.some_offers;
    few_offers = is.few_offers;
    offers = is.offers;
    setting = is.setting;
    small = refl;
    thin = refl;
    few_pictures = omega arith;
    pictures = tt;
    few = omega arith;
    numbers = tt;
    held = held_at_start (script_from head start);
    checked = held_through-none (held_at_start (script_from head start));
    framed = refl;
    few_turns = omega arith;
    turns = tt;
  };
}

-- its parts are those of that script
pub head_seen : (head : HeadParts) (pictures : List Picture) (small thin : Bool) (start : List StartBitmap) (steps : List Step) (turns : List Turn) → pictures ≡ [] → small ≡ small_of head.offers → thin ≡ thin_of head.offers
    → steps ≡ [] → turns ≡ []
    → script_from head start ≡ record {
      window = head.window;
      offers = head.offers;
      setting = head.setting;
      differences = head.differences;
      pictures = pictures;
      small = small;
      thin = thin;
      entropy = head.entropy;
      start = start;
      steps = steps;
      turns = turns;
    }
head_seen head pictures small thin start steps turns drawn binds is_thin stepped turned =
    λ i. record (script_from head start) { pictures = sym drawn i; small = sym binds i; thin = sym is_thin i; steps = sym stepped i; turns = sym turned i }

-- the parts of what was pushed are those of its script
pub parts_seen : (building : Building) (head : HeadParts) (pictures : List Picture) (small thin : Bool) (start : List StartBitmap) (steps : List Step) → head ≡ building.head → pictures ≡ building.draft.pictures
    → small ≡ small_of building.head.offers → thin ≡ thin_of building.head.offers → start ≡ [] → steps ≡ building.draft.steps
    → script_so_far building ≡ record {
      window = head.window;
      offers = head.offers;
      setting = head.setting;
      differences = head.differences;
      pictures = pictures;
      small = small;
      thin = thin;
      entropy = head.entropy;
      start = start;
      steps = steps;
      turns = building.turns;
    }
parts_seen building head pictures small thin start steps same drawn binds is_thin none stepped =
    λ i. record {
      window = (sym same i).window;
      offers = (sym same i).offers;
      setting = (sym same i).setting;
      differences = (sym same i).differences;
      pictures = sym drawn i;
      small = sym binds i;
      thin = sym is_thin i;
      entropy = (sym same i).entropy;
      start = sym none i;
      steps = sym stepped i;
      turns = building.turns;
    }

-- the script of what was pushed, behind a frame
pub built_accepted : (building : Building) → IsUnderWay building → is_framed building.draft.steps ≡ true → IsAccepted (script_so_far building)
built_accepted building is framed = record {
  window_from = is.head.window_from;
  window_most = is.head.window_most;
  some_offers = is.head.some_offers;
  few_offers = is.head.few_offers;
  offers = is.head.offers;
  setting = is.head.setting;
  small = refl;
  thin = refl;
  few_pictures = few;
  pictures = is.goes.drawn;
  few = omega (arith, is.goes.few);
  numbers = is.goes.numbers;
  held = building.draft.held;
  checked = is.goes.checked;
  framed = framed;
  few_turns = is.few_turns;
  turns = is.turns;
}
  where
    few : length building.draft.pictures ≤ MOST_STEPS
    few =
        subst (λ n. n ≤ MOST_STEPS)
        (ap length (sides_drafted (held_from [] (no_bitmaps (small_of building.head.offers))) 0 building.draft is.goes) ∙ length-map building.draft.pictures sides_of) is.goes.few_pictures

-- ---- every script

-- a script under way with another draft
abbrev with_draft : Building → Draft → Building
with_draft building draft = record building { draft = draft }

with_picture_passes : (draft : Draft) (picture : Picture) → IsDrawn picture → length draft.held.pictures < MOST_STEPS → with_picture draft picture ≡ Ok (length draft.held.pictures, behind_picture draft picture)
unfolding with_picture
with_picture_passes draft picture drawn room =
    and_then_at (check Range (has_room_for_picture draft)) tt _ (ap (check Range) (lt-ltb (length draft.held.pictures) MOST_STEPS room))
    ∙ and_then_at (check Range (is_drawn picture)) tt _ (ap (check Range) ((picture_tested picture).1 drawn))

picture_passes : (building : Building) (picture : Picture) → IsDrawn picture → length building.draft.held.pictures < MOST_STEPS
    → picture_only building picture ≡ Ok (with_draft building (behind_picture building.draft picture))
unfolding picture_only picture_built
picture_passes building picture drawn room =
    let added = with_picture_passes building.draft picture drawn room in
    and_then_at (picture_built building picture) (length building.draft.held.pictures, with_draft building (behind_picture building.draft picture)) _
    (and_then_at (with_picture building.draft picture) (length building.draft.held.pictures, behind_picture building.draft picture) _ added)

-- a draft with more pictures
abbrev behind_pictures : Draft → List Picture → Draft
behind_pictures draft pictures = record draft { held = more_sides draft.held (sides_of_all pictures); pictures = draft.pictures ++ pictures }

pictures_pass : (building : Building) (pictures : List Picture) → AllByRecursion IsDrawn pictures → length building.draft.held.pictures + length pictures ≤ MOST_STEPS
    → each_in_turn picture_only building pictures ≡ Ok (with_draft building (behind_pictures building.draft pictures))
unfolding each_in_turn
pictures_pass building [] drawn few =
    λ i. Ok (with_draft building (record building.draft {
      held = record building.draft.held { pictures = sym (append-nil building.draft.held.pictures) i };
      pictures = sym (append-nil building.draft.pictures) i;
    }))
pictures_pass building (picture ∷ pictures) drawn few =
    let draft : Draft = behind_picture building.draft picture in
    let long : length (building.draft.held.pictures ++ sides_of picture ∷ []) ≡ length building.draft.held.pictures + 1 = length-append building.draft.held.pictures (sides_of picture ∷ []) in
    let whole : length (picture ∷ pictures) ≡ length pictures + 1 = omega arith in
    and_then_at (picture_only building picture) (with_draft building draft) (λ next. each_in_turn picture_only next pictures) (picture_passes building picture drawn.0 (omega (arith, few, whole)))
    ∙ pictures_pass (with_draft building draft) pictures drawn.1 (omega (arith, few, whole, long))
    ∙ (λ i. Ok (with_draft building (record building.draft {
      held = record building.draft.held { pictures = append_assoc building.draft.held.pictures (sides_of picture ∷ []) (sides_of_all pictures) i };
      pictures = append_assoc building.draft.pictures (picture ∷ []) pictures i;
    })))

pushed_passes : (draft : Draft) (step : Step) (after : Held) → IsStep step → steps_so_far draft < MOST_STEPS → held_after draft.held step ≡ Ok after → pushed draft step ≡ Ok (behind_step draft step after)
unfolding pushed
pushed_passes draft step after numbers room is =
    and_then_at (check Range (nat_lt (steps_so_far draft) MOST_STEPS)) tt _ (ap (check Range) (lt-ltb (steps_so_far draft) MOST_STEPS room))
    ∙ and_then_at (check Range (is_step step)) tt _ (ap (check Range) ((step_tested step).1 numbers))
    ∙ and_then_at (held_after draft.held step) after (λ held. Ok (behind_step draft step held)) is

step_passes : (building : Building) (step : Step) (after : Held) → IsStep step → steps_so_far building.draft < MOST_STEPS → held_after building.draft.held step ≡ Ok after
    → step_built building step ≡ Ok (with_draft building (behind_step building.draft step after))
unfolding step_built
step_passes building step after numbers room is =
    and_then_at (pushed building.draft step) (behind_step building.draft step after) (λ draft. Ok (with_draft building draft)) (pushed_passes building.draft step after numbers room is)

-- a draft with more steps
abbrev behind_steps : Draft → List Step → Held → Draft
behind_steps draft steps after = record draft { held = after; steps = draft.steps ++ steps }

steps_pass : (building : Building) (steps : List Step) (after : Held) → AllByRecursion IsStep steps → steps_so_far building.draft + length steps ≤ MOST_STEPS → held_through building.draft.held steps ≡ Ok after
    → each_in_turn step_built building steps ≡ Ok (with_draft building (behind_steps building.draft steps after))
unfolding each_in_turn
steps_pass building [] after numbers few is =
    let same : building.draft.held ≡ after = let h = sym (held_through-none building.draft.held) ∙ is in cc in
    λ i. Ok (with_draft building (record building.draft { held = same i; steps = sym (append-nil building.draft.steps) i }))
steps_pass building (step ∷ steps) after numbers few is =
    let c = held_through-first building.draft.held after step steps is in
    let draft : Draft = behind_step building.draft step c.0 in
    let long : length (building.draft.steps ++ step ∷ []) ≡ length building.draft.steps + 1 = length-append building.draft.steps (step ∷ []) in
    let whole : length (step ∷ steps) ≡ length steps + 1 = omega arith in
    and_then_at (step_built building step) (with_draft building draft) (λ next. each_in_turn step_built next steps) (step_passes building step c.0 numbers.0 (omega (arith, few, whole)) c.1)
    ∙ steps_pass (with_draft building draft) steps after numbers.1 (omega (arith, few, whole, long)) c.2
    ∙ (λ i. Ok (with_draft building (record building.draft { held = after; steps = append_assoc building.draft.steps (step ∷ []) steps i })))

turn_passes : (building : Building) (turn : Turn) → IsTurn turn → length building.turns < MOST_TURNS → turn_built building turn ≡ Ok (record building { turns = building.turns ++ turn ∷ [] })
unfolding turn_built
turn_passes building turn number room =
    and_then_at (check Range (nat_lt (length building.turns) MOST_TURNS)) tt _ (ap (check Range) (lt-ltb (length building.turns) MOST_TURNS room))
    ∙ and_then_at (check Range (is_turn turn)) tt _ (ap (check Range) ((turn_tested turn).1 number))

turns_pass : (building : Building) (turns : List Turn) → AllByRecursion IsTurn turns → length building.turns + length turns ≤ MOST_TURNS
    → each_in_turn turn_built building turns ≡ Ok (record building { turns = building.turns ++ turns })
unfolding each_in_turn
turns_pass building [] numbers few = λ i. Ok (record building { turns = sym (append-nil building.turns) i })
turns_pass building (turn ∷ turns) numbers few =
    let next : Building = record building { turns = building.turns ++ turn ∷ [] } in
    let long : length (building.turns ++ turn ∷ []) ≡ length building.turns + 1 = length-append building.turns (turn ∷ []) in
    let whole : length (turn ∷ turns) ≡ length turns + 1 = omega arith in
    and_then_at (turn_built building turn) next (λ n. each_in_turn turn_built n turns) (turn_passes building turn numbers.0 (omega (arith, few, whole)))
    ∙ turns_pass next turns numbers.1 (omega (arith, few, whole, long))
    ∙ (λ i. Ok (record building { turns = append_assoc building.turns (turn ∷ []) turns i }))

-- the head of an accepted script
accepted_head : (start : Held) (script : Script) → IsAcceptedFrom start script → IsHead (head_parts script)
accepted_head start script good = record {
  window_from = good.window_from;
  window_most = good.window_most;
  some_offers = good.some_offers;
  few_offers = good.few_offers;
  offers = good.offers;
  setting = good.setting;
}

-- what the calls for a script leave, one kind of them after another
abbrev drawn_of : Script → Building
drawn_of script = let nothing : Building = nothing_built (head_parts script) in with_draft nothing (behind_pictures nothing.draft script.pictures)

abbrev stepped_of : Script → Held → Building
stepped_of script after = with_draft (drawn_of script) (behind_steps (drawn_of script).draft script.steps after)

abbrev turned_of : Script → Held → Building
turned_of script after = record (stepped_of script after) { turns = [] ++ script.turns }

-- they give the script
same_script : (script : Script) (after : Held) → script.start ≡ [] → small_of script.offers ≡ script.small → thin_of script.offers ≡ script.thin → script_so_far (turned_of script after) ≡ script
same_script script after none small thin = λ i. record script { small = small i; thin = thin i; start = sym none i }

pub accepted_built : AcceptedScriptsAreBuilt
unfolding built_by_calls built
accepted_built script none good =
    let checked : held_through (drawn_of script).draft.held script.steps ≡ Ok good.held = ap (λ small. held_through (held_first (sides_of_all script.pictures) small) script.steps) (sym good.small) ∙ good.checked in
    and_then_at (head_of (head_parts script)) (head_parts script) _ (head_passes (head_parts script) (accepted_head _ script good))
    ∙ and_then_at (each_in_turn picture_only (nothing_built (head_parts script)) script.pictures) (drawn_of script) _ (pictures_pass (nothing_built (head_parts script)) script.pictures good.pictures (omega (arith, good.few_pictures)))
    ∙ and_then_at (each_in_turn step_built (drawn_of script) script.steps) (stepped_of script good.held) _ (steps_pass (drawn_of script) script.steps good.held good.numbers (omega (arith, good.few)) checked)
    ∙ and_then_at (each_in_turn turn_built (stepped_of script good.held) script.turns) (turned_of script good.held) built (turns_pass (stepped_of script good.held) script.turns good.turns (omega (arith, good.few_turns)))
    ∙ and_then_at (check Unframed (is_framed script.steps)) tt _ (ap (check Unframed) good.framed)
    ∙ ap (λ z. Ok z) (same_script script good.held none (sym good.small) (sym good.thin))
