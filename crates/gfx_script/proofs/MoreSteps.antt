-- The checks of steps go on where pictures or steps are added: what was accepted stays so with more pictures, and steps behind steps
-- are checked from what those left.
use Rattle.std.proofs.Common.{◌≡◌, ℕ, zero, suc, ◌<◌, IsTrue, List, [], ◌∷◌, ◌++◌, length, Option, Some, None, Result, Ok, Err, refl, sym, ap, ◌∙◌, subst, arith}
use Rattle.std.specs.List.{AllByRecursion, slice_get}
use Rattle.std.specs.Option.{ok_or}
use Rattle.std.proofs.lemmas.Option.{slice_get_within}
use Rattle.gfx_base.specs.Results.{and_then}
use Rattle.gfx_base.proofs.ResultLemmas.{and_then_at, and_then_ok}
use Rattle.gfx_script.specs.Checks.{Held, held_after, held_through, sides_of_all, surface_made, surface_deleted, surface_mapped, rects_filled, rect_copied, rect_kept, key_shown, key_forgotten, picture_painted}
use Rattle.gfx_script.specs.declared.error.ScriptKind.{ScriptKind}
use Rattle.gfx_script.specs.declared.held.Sides.{Sides}
use Rattle.gfx_script.specs.declared.picture.Picture.{Picture}
use Rattle.gfx_script.specs.declared.step.Step.{Step}
use Rattle.gfx_script.specs.declared.step.Step.TheVariants.{Surface, Delete, Reset, Map, Fill, Copy, Keep, Show, Forget, Paint, Improve, Frame}
use Rattle.gfx_script.specs.Script.{is_framed}

-- ---- lists

-- what holds of each of two lists holds of both
pub all_both : {X : Type 0} (P : X → Type 0) (xs ys : List X) → AllByRecursion P xs → AllByRecursion P ys → AllByRecursion P (xs ++ ys)
all_both P [] ys first second = second
all_both P (x ∷ xs) ys first second = (first.0, all_both P xs ys first.1 second)

-- what stands at a place stays there when more comes behind it
pub get_before : {X : Type 0} (xs more : List X) (n : ℕ) → n < length xs → slice_get (xs ++ more) n ≡ slice_get xs n
get_before [] more n lt = absurd (omega (arith, lt))
get_before (x ∷ xs) more zero lt = refl
get_before (x ∷ xs) more (suc n) lt = get_before xs more n (omega (arith, lt))

-- the sides of pictures behind pictures
pub sides_both : (xs ys : List Picture) → sides_of_all (xs ++ ys) ≡ sides_of_all xs ++ sides_of_all ys
sides_both [] ys = refl
sides_both (x ∷ xs) ys = ap (λ z. record { width = x.width; height = x.height } ∷ z) (sides_both xs ys)

-- framed steps behind framed steps
pub framed_both : (xs ys : List Step) → IsTrue (is_framed xs) → IsTrue (is_framed ys) → IsTrue (is_framed (xs ++ ys))
framed_both [] ys first second = second
framed_both (x ∷ []) [] first second = first
framed_both (x ∷ []) (y ∷ ys) first second = second
framed_both (x ∷ next ∷ xs) ys first second = framed_both (next ∷ xs) ys first second

-- ---- steps behind steps

pub held_through-first : (held after : Held) (step : Step) (steps : List Step) → held_through held (step ∷ steps) ≡ Ok after
    → (next : Held) × (held_after held step ≡ Ok next) × (held_through next steps ≡ Ok after)
unfolding held_through
held_through-first held after step steps checked = and_then_ok (held_after held step) (λ next. held_through next steps) after checked

pub held_through-none : (held : Held) → held_through held [] ≡ Ok held
unfolding held_through
held_through-none held = refl

pub held_through-one : (held after : Held) (step : Step) → held_after held step ≡ Ok after → held_through held (step ∷ []) ≡ Ok after
unfolding held_through
held_through-one held after step is = and_then_at (held_after held step) after (λ next. held_through next []) is

pub through_both : (held middle : Held) (xs ys : List Step) → held_through held xs ≡ Ok middle → held_through held (xs ++ ys) ≡ held_through middle ys
unfolding held_through
through_both held middle [] ys ok = let same : held ≡ middle = cc in ap (λ z. held_through z ys) same
through_both held middle (x ∷ xs) ys ok =
    let c = held_through-first held middle x xs ok in
    and_then_at (held_after held x) c.0 (λ next. held_through next (xs ++ ys)) c.1 ∙ through_both c.0 middle xs ys c.2

-- one step behind others
pub through_last : (held middle after : Held) (xs : List Step) (step : Step) → held_through held xs ≡ Ok middle → held_after middle step ≡ Ok after → held_through held (xs ++ step ∷ []) ≡ Ok after
through_last held middle after xs step ok is = through_both held middle xs (step ∷ []) ok ∙ held_through-one middle after step is

-- ---- more pictures

-- what is held with the sides of more pictures
abbrev pub more_sides : Held → List Sides → Held
more_sides held more = record held { pictures = held.pictures ++ more }

-- what gave something gives the same, with the sides of more pictures
abbrev pub GivesWith : List Sides → Result Held ScriptKind → Result Held ScriptKind → Type 0
GivesWith more (Ok held) found = found ≡ Ok (more_sides held more)
GivesWith more (Err kind) found = Unit {0}

gives_then : {X : Type 0} (more : List Sides) (first : Result X ScriptKind) (next later : X → Result Held ScriptKind) → ((x : X) → GivesWith more (next x) (later x)) → GivesWith more (and_then first next) (and_then first later)
unfolding and_then
gives_then more (Ok x) next later each = each x
gives_then more (Err kind) next later each = tt

gives_other : {X : Type 0} (more : List Sides) (first other : Result X ScriptKind) (next later : X → Result Held ScriptKind) → ((x : X) → first ≡ Ok x → other ≡ Ok x) → ((x : X) → GivesWith more (next x) (later x))
    → GivesWith more (and_then first next) (and_then other later)
unfolding and_then
gives_other more (Ok x) other next later same each = subst (GivesWith more (next x)) (sym (and_then_at other x later (same x refl))) (each x)
gives_other more (Err kind) other next later same each = tt

found_more : {X : Type 0} (xs more : List X) (n : ℕ) (kind : ScriptKind) (x : X) → ok_or (slice_get xs n) kind ≡ Ok x → ok_or (slice_get (xs ++ more) n) kind ≡ Ok x
found_more {X = X} xs more n kind x ok = by (slice_get xs n) refl ok
  where
    by : (o : Option X) → slice_get xs n ≡ o → ok_or o kind ≡ Ok x → ok_or (slice_get (xs ++ more) n) kind ≡ Ok x
    by None is found = absurd cc
    by (Some y) is found = ap (λ z. ok_or z kind) (get_before xs more n (slice_get_within xs n y is) ∙ is) ∙ found

pub step_gives : (held : Held) (more : List Sides) (step : Step) → GivesWith more (held_after held step) (held_after (more_sides held more) step)
unfolding held_after surface_made surface_deleted surface_mapped rects_filled rect_copied rect_kept key_shown key_forgotten picture_painted
step_gives held more (Surface id width height format) = gives_then more _ _ _ (λ fresh. gives_then more _ _ _ (λ room. refl))
step_gives held more (Delete id) = gives_then more _ _ _ (λ sides. refl)
step_gives held more (Reset width height) = refl
step_gives held more (Map id x y) = gives_then more _ _ _ (λ there. refl)
step_gives held more (Fill id colour rects) = gives_then more _ _ _ (λ sides. gives_then more _ _ _ (λ inside. refl))
step_gives held more (Copy from to rect points) = gives_then more _ _ _ (λ source. gives_then more _ _ _ (λ target. gives_then more _ _ _ (λ inside. gives_then more _ _ _ (λ fits. refl))))
step_gives held more (Keep id key rect) = gives_then more _ _ _ (λ sides. gives_then more _ _ _ (λ inside. gives_then more _ _ _ (λ stock. refl)))
step_gives held more (Show key to points) = gives_then more _ _ _ (λ bitmap. gives_then more _ _ _ (λ target. gives_then more _ _ _ (λ fits. refl)))
step_gives held more (Forget key) = gives_then more _ _ _ (λ stock. refl)
step_gives held more (Paint id picture at kind glyph) =
    gives_then more _ _ _ (λ sides. gives_other more _ _ _ _ (found_more held.pictures more picture _) (λ drawn. gives_then more _ _ _ (λ inside. gives_then more _ _ _ (λ small. refl))))
step_gives held more (Improve id) = gives_then more _ _ _ (λ there. refl)
step_gives held more Frame = refl

-- steps that were accepted are so with more pictures, and leave the same with these
pub through_more : (held after : Held) (more : List Sides) (steps : List Step) → held_through held steps ≡ Ok after → held_through (more_sides held more) steps ≡ Ok (more_sides after more)
unfolding held_through
through_more held after more [] ok = let same : held ≡ after = cc in ap (λ z. Ok (more_sides z more)) same
through_more held after more (step ∷ steps) ok =
    let c = held_through-first held after step steps ok in
    let first : held_after (more_sides held more) step ≡ Ok (more_sides c.0 more) = subst (λ z. GivesWith more z (held_after (more_sides held more) step)) c.1 (step_gives held more step) in
    and_then_at (held_after (more_sides held more) step) (more_sides c.0 more) (λ next. held_through next steps) first ∙ through_more c.0 after more steps c.2

-- ---- no step changes the pictures

-- what comes out, if anything does, has the sides of these pictures
abbrev HasPictures : List Sides → Result Held ScriptKind → Type 0
HasPictures pictures (Ok held) = held.pictures ≡ pictures
HasPictures pictures (Err kind) = Unit {0}

has_then : {X : Type 0} (pictures : List Sides) (first : Result X ScriptKind) (next : X → Result Held ScriptKind) → ((x : X) → HasPictures pictures (next x)) → HasPictures pictures (and_then first next)
unfolding and_then
has_then pictures (Ok x) next each = each x
has_then pictures (Err kind) next each = tt

step_keeps : (held : Held) (step : Step) → HasPictures held.pictures (held_after held step)
unfolding held_after surface_made surface_deleted surface_mapped rects_filled rect_copied rect_kept key_shown key_forgotten picture_painted
step_keeps held (Surface id width height format) = has_then held.pictures _ _ (λ fresh. has_then held.pictures _ _ (λ room. refl))
step_keeps held (Delete id) = has_then held.pictures _ _ (λ sides. refl)
step_keeps held (Reset width height) = refl
step_keeps held (Map id x y) = has_then held.pictures _ _ (λ there. refl)
step_keeps held (Fill id colour rects) = has_then held.pictures _ _ (λ sides. has_then held.pictures _ _ (λ inside. refl))
step_keeps held (Copy from to rect points) = has_then held.pictures _ _ (λ source. has_then held.pictures _ _ (λ target. has_then held.pictures _ _ (λ inside. has_then held.pictures _ _ (λ fits. refl))))
step_keeps held (Keep id key rect) = has_then held.pictures _ _ (λ sides. has_then held.pictures _ _ (λ inside. has_then held.pictures _ _ (λ stock. refl)))
step_keeps held (Show key to points) = has_then held.pictures _ _ (λ bitmap. has_then held.pictures _ _ (λ target. has_then held.pictures _ _ (λ fits. refl)))
step_keeps held (Forget key) = has_then held.pictures _ _ (λ stock. refl)
step_keeps held (Paint id picture at kind glyph) = has_then held.pictures _ _ (λ sides. has_then held.pictures _ _ (λ drawn. has_then held.pictures _ _ (λ inside. has_then held.pictures _ _ (λ small. refl))))
step_keeps held (Improve id) = has_then held.pictures _ _ (λ there. refl)
step_keeps held Frame = refl

pub pictures_stay : (held after : Held) (step : Step) → held_after held step ≡ Ok after → after.pictures ≡ held.pictures
pictures_stay held after step is = subst (HasPictures held.pictures) is (step_keeps held step)

pub pictures_stay_through : (held after : Held) (steps : List Step) → held_through held steps ≡ Ok after → after.pictures ≡ held.pictures
unfolding held_through
pictures_stay_through held after [] ok = let same : held ≡ after = cc in ap (λ z. z.pictures) (sym same)
pictures_stay_through held after (step ∷ steps) ok =
    let c = held_through-first held after step steps ok in
    pictures_stay_through c.0 after steps c.2 ∙ pictures_stay held c.0 step c.1
