-- Steps as items with their numbers, and the frames of a script.
use Rattle.std.proofs.Common.{◌≡◌, ℕ, ◌+◌, ◌-◌, ◌==◌, Bool, true, false, cond, List, [], ◌∷◌, ◌++◌, length, Option, Some, None, refl, sym, ap, ◌∙◌, append_assoc, arith, length-append}
use Rattle.std.specs.List.{slice_get, filter_map}
use Rattle.std.specs.Option.{option_map}
use Rattle.std.proofs.lemmas.Bool.{ne_eqb}
use Rattle.std.proofs.lemmas.List.{map-append, length-map}
use Rattle.gfx_script.specs.Kinds.{KindedStep, as_kind}
use Rattle.gfx_script.specs.Script.{is_frame, step_at}
use Rattle.gfx_script.specs.Scripted.{Script}
use Rattle.gfx_script.specs.declared.step.Step.{Step}
use Rattle.gfx_planner.proofs.Streams.{bare}
use Rattle.gfx_schedule.specs.Leaving.{step_of, steps_of}
use Rattle.gfx_schedule.specs.ServerEnd.{first_frame, behind_frame, numbered}

-- the frames of a script ------------------------------------------------------------------------------

parted : (b : Bool) (first behind more : List KindedStep) → first ++ behind ≡ more → cond b [] first ++ cond b more behind ≡ more
parted true first behind more e = refl
parted false first behind more e = e

pub frame_parts : (steps : List KindedStep) → first_frame steps ++ behind_frame steps ≡ steps
frame_parts [] = refl
frame_parts (one ∷ more) = ap (λ z. one ∷ z) (parted (is_frame one.step) (first_frame more) (behind_frame more) more (frame_parts more))

-- numbers ---------------------------------------------------------------------------------------------

pub numbered-append : (at : ℕ) (xs ys : List KindedStep) → numbered at (xs ++ ys) ≡ numbered at xs ++ numbered (at + length xs) ys
numbered-append at [] ys = ap (λ n. numbered n ys) (omega arith)
numbered-append at (x ∷ xs) ys =
    let here : at + 1 + length xs ≡ at + length (x ∷ xs) = omega arith in
    ap (λ z. record { step = at; kind = x.kind } ∷ z) (numbered-append (at + 1) xs ys ∙ ap (λ n. numbered (at + 1) xs ++ numbered n ys) here)

pub length-numbered : (at : ℕ) (xs : List KindedStep) → length (numbered at xs) ≡ length xs
length-numbered at [] = refl
length-numbered at (x ∷ xs) = omega (arith, length-numbered (at + 1) xs)

pub slice_get-middle : {X : Type 0} (xs : List X) (y : X) (ys : List X) → slice_get (xs ++ y ∷ ys) (length xs) ≡ Some y
slice_get-middle [] y ys = refl
slice_get-middle (x ∷ xs) y ys = slice_get-middle xs y ys

-- the step of a number that is one more than those before it
pub step_at-middle : (xs : List Step) (y : Step) (ys : List Step) → step_at (xs ++ y ∷ ys) (length xs + 1) ≡ Some y
step_at-middle xs y ys =
    let some : (length xs + 1 == 0) ≡ false = ne_eqb (length xs + 1) 0 (λ e. omega arith) in
    let place : length xs + 1 - 1 ≡ length xs = omega arith in
    ap (λ b. cond b None (slice_get (xs ++ y ∷ ys) (length xs + 1 - 1))) some ∙ ap (slice_get (xs ++ y ∷ ys)) place ∙ slice_get-middle xs y ys

filter_map-some : {X Y : Type 0} (h : X → Option Y) (x : X) (y : Y) (xs : List X) → h x ≡ Some y → filter_map h (x ∷ xs) ≡ y ∷ filter_map h xs
filter_map-some h x y xs e = rw e refl

-- the steps of items that are numbered on from those before them are these steps
pub steps_of-numbered : (script : Script) (gone waiting left : List KindedStep) → bare (gone ++ (waiting ++ left)) ≡ script.steps → steps_of script (numbered (length gone + 1) waiting) ≡ waiting
steps_of-numbered script gone [] left same = refl
steps_of-numbered script gone (one ∷ more) left same =
    let cut : script.steps ≡ bare gone ++ one.step ∷ bare (more ++ left) = sym same ∙ map-append (λ (z : KindedStep). z.step) gone (one ∷ (more ++ left)) in
    let count : length gone ≡ length (bare gone) = sym (length-map gone (λ (z : KindedStep). z.step)) in
    let there : step_at script.steps (length gone + 1) ≡ Some one.step = ap (λ z. step_at z (length gone + 1)) cut ∙ ap (λ n. step_at (bare gone ++ one.step ∷ bare (more ++ left)) (n + 1)) count ∙ step_at-middle (bare gone) one.step (bare (more ++ left)) in
    let first : step_of script (record { step = length gone + 1; kind = one.kind }) ≡ Some one = ap (option_map (as_kind one.kind)) there in
    let longer : length (gone ++ one ∷ []) + 1 ≡ length gone + 1 + 1 = omega (arith, length-append gone (one ∷ [])) in
    let whole : bare ((gone ++ one ∷ []) ++ (more ++ left)) ≡ script.steps = ap bare (append_assoc gone (one ∷ []) (more ++ left)) ∙ same in
    filter_map-some (step_of script) (record { step = length gone + 1; kind = one.kind }) one (numbered (length gone + 1 + 1) more) first
    ∙ ap (λ n. one ∷ steps_of script (numbered n more)) (sym longer) ∙ ap (λ z. one ∷ z) (steps_of-numbered script (gone ++ one ∷ []) more left whole)
