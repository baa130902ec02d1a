-- Improvements that are pushed one after another, and taken back.
use Rattle.std.proofs.Common.{◌≡◌, ◌<◌, ◌≤◌, ◌+◌, ℕ, suc, List, [], ◌∷◌, drop, get_or, length, map, arith, nat_lt, Result, Ok, Err, refl, sym, ap, ◌∙◌}
use Rattle.std.proofs.Math.Seq.{drop-cons}
use Rattle.std.proofs.lemmas.List.{drop_all}
use Rattle.gfx_base.specs.Outcome.{Gives}
use Rattle.gfx_base.specs.Results.{check}
use Rattle.gfx_base.specs.declared.answer.Cause.{Cause}
use Rattle.gfx_base.specs.declared.answer.Cause.TheVariants.{Refused, Memory}
use Rattle.gfx_base.proofs.ResultLemmas.{and_then_at, and_then_ok, and_then_refused}
use Rattle.std.specs.FinMap.{contains_key}
use Rattle.gfx_script.specs.Building.{each_in_turn}
use Rattle.gfx_script.specs.Checks.{Held, held_after, surface_mapped}
use Rattle.gfx_script.specs.Drafts.{Draft, behind_step, pushed, steps_so_far, without_steps}
use Rattle.gfx_script.specs.Script.{is_step}
use Rattle.gfx_script.specs.declared.TheConstants.{MOST_STEPS}
use Rattle.gfx_script.specs.declared.error.ScriptKind.{ScriptKind}
use Rattle.gfx_script.specs.declared.error.ScriptKind.TheVariants.{Range, SurfaceAbsent}
use Rattle.gfx_script.specs.declared.step.Step.{Step}
use Rattle.gfx_script.specs.declared.step.Step.TheVariants.{Improve}

-- an improvement leaves what is held
held_stays : (held after : Held) (id : ℕ) → held_after held (Improve id) ≡ Ok after → held ≡ after
unfolding held_after surface_mapped
held_stays held after id is = let found = and_then_ok (check SurfaceAbsent (contains_key held.sides id)) _ after is in let same : ◌≡◌ {A = Result Held ScriptKind} (Ok held) (Ok after) = found.2 in cc

-- so that what is left without it is what was there
pub improvement_taken_back : (draft next : Draft) (id : ℕ) → pushed draft (Improve id) ≡ Ok next → without_steps next ≡ without_steps draft
unfolding pushed
improvement_taken_back draft next id is =
    let room = and_then_ok (check Range (nat_lt (steps_so_far draft) MOST_STEPS)) _ next is in
    let numbers = and_then_ok (check Range (is_step (Improve id))) _ next room.2 in
    let held = and_then_ok (held_after draft.held (Improve id)) _ next numbers.2 in
    let same : behind_step draft (Improve id) held.0 ≡ next = let h = held.2 in cc in
    ap without_steps (sym same) ∙ ap (λ h. record draft { held = h; steps = [] }) (sym (held_stays draft.held held.0 id held.1))

-- the first of several, and the others behind it
pub each_first : (draft next : Draft) (step : Step) (steps : List Step) → pushed draft step ≡ Ok next → each_in_turn pushed draft (step ∷ steps) ≡ each_in_turn pushed next steps
unfolding each_in_turn
each_first draft next step steps is = and_then_at (pushed draft step) next (λ after. each_in_turn pushed after steps) is

pub each_refused : (draft : Draft) (step : Step) (steps : List Step) (kind : ScriptKind) → pushed draft step ≡ Err kind → each_in_turn pushed draft (step ∷ steps) ≡ Err kind
unfolding each_in_turn
each_refused draft step steps kind is = and_then_refused (pushed draft step) kind (λ after. each_in_turn pushed after steps) is

pub each_none : (draft : Draft) → each_in_turn pushed draft [] ≡ Ok draft
unfolding each_in_turn
each_none draft = refl

-- the ids from a place on begin with the one there
pub id_and_others : (ids : List ℕ) (at : ℕ) → at < length ids → drop at ids ≡ get_or ids at 0 ∷ drop (at + 1) ids
id_and_others ids at within = let next : suc at ≡ at + 1 = omega arith in drop-cons ids at 0 within ∙ ap (λ n. get_or ids at 0 ∷ drop n ids) next

-- one more is pushed
pub one_improved : (draft next : Draft) (ids : List ℕ) (at : ℕ) (all : Result Draft ScriptKind) → at < length ids → pushed draft (Improve (get_or ids at 0)) ≡ Ok next
    → each_in_turn pushed draft (map Improve (drop at ids)) ≡ all → each_in_turn pushed next (map Improve (drop (at + 1) ids)) ≡ all
one_improved draft next ids at all within is so_far =
    sym (each_first draft next (Improve (get_or ids at 0)) (map Improve (drop (at + 1) ids)) is)
    ∙ ap (λ l. each_in_turn pushed draft (map Improve l)) (sym (id_and_others ids at within)) ∙ so_far

-- one is refused
pub one_refused : {X Y : Type 0} (first : X → Draft) (whole : Y → Draft) (flaw : Cause ScriptKind) (draft : Draft) (ids : List ℕ) (at : ℕ) (all : Result Draft ScriptKind) → at < length ids
    → Gives first (Err flaw) (pushed draft (Improve (get_or ids at 0))) → each_in_turn pushed draft (map Improve (drop at ids)) ≡ all → Gives whole (Err flaw) all
one_refused first whole (Refused kind) draft ids at all within refused so_far =
    sym so_far ∙ ap (λ l. each_in_turn pushed draft (map Improve l)) (id_and_others ids at within)
    ∙ each_refused draft (Improve (get_or ids at 0)) (map Improve (drop (at + 1) ids)) kind refused
one_refused first whole Memory draft ids at all within refused so_far = tt

-- no more are left
pub none_left : (draft : Draft) (ids : List ℕ) (at : ℕ) (all : Result Draft ScriptKind) → length ids ≤ at → each_in_turn pushed draft (map Improve (drop at ids)) ≡ all → all ≡ Ok draft
none_left draft ids at all within so_far =
    sym so_far ∙ ap (λ l. each_in_turn pushed draft (map Improve l)) (drop_all at ids within) ∙ each_none draft
