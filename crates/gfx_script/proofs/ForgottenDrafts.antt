-- A draft goes on where pictures that none of its steps paints are forgotten.
use Rattle.std.proofs.Common.{◌≡◌, ℕ, zero, suc, ◌+◌, ◌≤◌, List, [], ◌∷◌, ◌++◌, drop, length, replicate, Result, Ok, Err, refl, sym, ap, ◌∙◌, subst, length-append, arith}
use Rattle.std.specs.List.{AllByRecursion, slice_get}
use Rattle.std.specs.Option.{ok_or}
use Rattle.std.proofs.lemmas.List.{append-nil, drop_all, length-replicate}
use Rattle.std.proofs.Math.Seq.{drop-append-add}
use Rattle.gfx_base.specs.Results.{and_then}
use Rattle.gfx_base.proofs.ResultLemmas.{and_then_at}
use Rattle.gfx_script.specs.Checks.{Held, held_after, held_through, sides_of_all, surface_made, surface_deleted, surface_mapped, rects_filled, rect_copied, rect_kept, key_shown, key_forgotten, picture_painted}
use Rattle.gfx_script.specs.Drafts.{Draft, GoesOn, sides_of}
use Rattle.gfx_script.specs.Forgetting.{PaintsFrom, blank, draft_forgotten, sides_forgotten}
use Rattle.gfx_script.specs.declared.error.ScriptKind.{ScriptKind}
use Rattle.gfx_script.specs.declared.error.ScriptKind.TheVariants.{Name}
use Rattle.gfx_script.specs.declared.held.Sides.{Sides}
use Rattle.gfx_script.specs.declared.step.Step.{Step}
use Rattle.gfx_script.specs.declared.step.Step.TheVariants.{Surface, Delete, Reset, Map, Fill, Copy, Keep, Show, Forget, Paint, Improve, Frame}
use Rattle.gfx_script.proofs.MoreSteps.{held_through-first, pictures_stay, pictures_stay_through}

-- ---- other pictures

-- what is held with pictures of other sides
abbrev with_others : List Sides → Held → Held
with_others others held = record held { pictures = others }

-- a paint's picture has the same sides in both lists
abbrev SameSides : List Sides → List Sides → Step → Type 0
SameSides some others (Paint id picture at named glyph) = slice_get others picture ≡ slice_get some picture
SameSides some others step = Unit {0}

-- what gave something gives the same, with pictures of other sides
abbrev GivesBeside : List Sides → Result Held ScriptKind → Result Held ScriptKind → Type 0
GivesBeside others (Ok held) found = found ≡ Ok (with_others others held)
GivesBeside others (Err kind) found = Unit {0}

beside_then : {X : Type 0} (others : List Sides) (first : Result X ScriptKind) (next later : X → Result Held ScriptKind) → ((x : X) → GivesBeside others (next x) (later x)) → GivesBeside others (and_then first next) (and_then first later)
unfolding and_then
beside_then others (Ok x) next later each = each x
beside_then others (Err kind) next later each = tt

beside_other : {X : Type 0} (others : List Sides) (first other : Result X ScriptKind) (next later : X → Result Held ScriptKind) → ((x : X) → first ≡ Ok x → other ≡ Ok x) → ((x : X) → GivesBeside others (next x) (later x))
    → GivesBeside others (and_then first next) (and_then other later)
unfolding and_then
beside_other others (Ok x) other next later same each = subst (GivesBeside others (next x)) (sym (and_then_at other x later (same x refl))) (each x)
beside_other others (Err kind) other next later same each = tt

step_beside : (held : Held) (others : List Sides) (step : Step) → SameSides held.pictures others step → GivesBeside others (held_after held step) (held_after (with_others others held) step)
unfolding held_after surface_made surface_deleted surface_mapped rects_filled rect_copied rect_kept key_shown key_forgotten picture_painted
step_beside held others (Surface id width height format) same = beside_then others _ _ _ (λ fresh. beside_then others _ _ _ (λ room. refl))
step_beside held others (Delete id) same = beside_then others _ _ _ (λ sides. refl)
step_beside held others (Reset width height) same = refl
step_beside held others (Map id x y) same = beside_then others _ _ _ (λ there. refl)
step_beside held others (Fill id colour rects) same = beside_then others _ _ _ (λ sides. beside_then others _ _ _ (λ inside. refl))
step_beside held others (Copy from to rect points) same = beside_then others _ _ _ (λ source. beside_then others _ _ _ (λ target. beside_then others _ _ _ (λ inside. beside_then others _ _ _ (λ fits. refl))))
step_beside held others (Keep id key rect) same = beside_then others _ _ _ (λ sides. beside_then others _ _ _ (λ inside. beside_then others _ _ _ (λ stock. refl)))
step_beside held others (Show key to points) same = beside_then others _ _ _ (λ bitmap. beside_then others _ _ _ (λ target. beside_then others _ _ _ (λ fits. refl)))
step_beside held others (Forget key) same = beside_then others _ _ _ (λ stock. refl)
step_beside held others (Paint id picture at kind glyph) same =
    beside_then others _ _ _ (λ sides. beside_other others _ _ _ _ (λ drawn is. ap (λ o. ok_or o Name) same ∙ is) (λ drawn. beside_then others _ _ _ (λ inside. beside_then others _ _ _ (λ small. refl))))
step_beside held others (Improve id) same = beside_then others _ _ _ (λ there. refl)
step_beside held others Frame same = refl

-- steps that were accepted are so with other pictures, where those that they paint have the same sides, and leave the same
through_beside : (held after : Held) (others : List Sides) (steps : List Step) → AllByRecursion (SameSides held.pictures others) steps → held_through held steps ≡ Ok after
    → held_through (with_others others held) steps ≡ Ok (with_others others after)
unfolding held_through
through_beside held after others [] same ok = let is : held ≡ after = cc in ap (λ z. Ok (with_others others z)) is
through_beside held after others (step ∷ steps) same ok =
    let c = held_through-first held after step steps ok in
    let first : held_after (with_others others held) step ≡ Ok (with_others others c.0) = subst (λ z. GivesBeside others z (held_after (with_others others held) step)) c.1 (step_beside held others step same.0) in
    let rest : AllByRecursion (SameSides c.0.pictures others) steps = subst (λ p. AllByRecursion (SameSides p others) steps) (sym (pictures_stay held c.0 step c.1)) same.1 in
    and_then_at (held_after (with_others others held) step) (with_others others c.0) (λ next. held_through next steps) first ∙ through_beside c.0 after others steps rest c.2

-- ---- pictures in front that are forgotten

-- what stands behind as many items is the same
same_behind : {X : Type 0} (xs ys more : List X) (n : ℕ) → length xs ≡ length ys → length xs ≤ n → slice_get (ys ++ more) n ≡ slice_get (xs ++ more) n
same_behind [] [] more n long le = refl
same_behind [] (y ∷ ys) more n long le = absurd (omega (arith, long))
same_behind (x ∷ xs) [] more n long le = absurd (omega (arith, long))
same_behind (x ∷ xs) (y ∷ ys) more zero long le = absurd (omega (arith, le))
same_behind (x ∷ xs) (y ∷ ys) more (suc n) long le = same_behind xs ys more n (omega (arith, long)) (omega (arith, le))

-- so are the pictures that such steps paint
same_sides : (xs ys more : List Sides) (steps : List Step) → length xs ≡ length ys → AllByRecursion (PaintsFrom (length xs)) steps → AllByRecursion (SameSides (xs ++ more) (ys ++ more)) steps
same_sides xs ys more [] long own = tt
same_sides xs ys more (step ∷ steps) long own = (one step own.0, same_sides xs ys more steps long own.1)
  where
    one : (step : Step) → PaintsFrom (length xs) step → SameSides (xs ++ more) (ys ++ more) step
    one (Surface id width height format) own = tt
    one (Delete id) own = tt
    one (Reset width height) own = tt
    one (Map id x y) own = tt
    one (Fill id colour rects) own = tt
    one (Copy from to rect points) own = tt
    one (Keep id key rect) own = tt
    one (Show key to points) own = tt
    one (Forget key) own = tt
    one (Paint id picture at kind glyph) own = same_behind xs ys more picture long own
    one (Improve id) own = tt
    one Frame own = tt

-- the sides of all pictures in front are those of blank ones
all_blank : (count : ℕ) (xs : List Sides) → count ≡ length xs → replicate count (sides_of blank) ++ drop count xs ≡ replicate count (sides_of blank)
all_blank count xs long =
    ap (λ z. replicate count (sides_of blank) ++ z) (drop_all count xs (omega (arith, long))) ∙ append-nil (replicate count (sides_of blank))

behind_all : (count : ℕ) (xs more : List Sides) → count ≡ length xs → replicate count (sides_of blank) ++ drop count (xs ++ more) ≡ replicate count (sides_of blank) ++ more
behind_all count xs more long =
    let all : count ≡ length xs + 0 = omega (arith, long) in
    ap (λ z. replicate count (sides_of blank) ++ z) (ap (λ n. drop n (xs ++ more)) all ∙ drop-append-add xs more 0)

-- the draft goes on
pub forgotten_goes_on : (from : Held) (steps count : ℕ) (draft : Draft) → GoesOn from steps draft → count ≡ length from.pictures → AllByRecursion (PaintsFrom count) draft.steps
    → GoesOn (sides_forgotten count from) steps (draft_forgotten count draft)
forgotten_goes_on from steps count draft goes long own =
    let more : List Sides = sides_of_all draft.pictures in
    let blanks : List Sides = replicate count (sides_of blank) in
    let same : length from.pictures ≡ length blanks = omega (arith, long, length-replicate count (sides_of blank)) in
    let passed = through_beside (record from { pictures = from.pictures ++ more }) draft.held (blanks ++ more) draft.steps
    (same_sides from.pictures blanks more draft.steps same (subst (λ n. AllByRecursion (PaintsFrom n) draft.steps) long own)) goes.checked in
    let left : draft.held.pictures ≡ from.pictures ++ more = pictures_stay_through (record from { pictures = from.pictures ++ more }) draft.held draft.steps goes.checked in
    let held : blanks ++ drop count draft.held.pictures ≡ blanks ++ more = ap (λ z. blanks ++ drop count z) left ∙ behind_all count from.pictures more long in
    record {
      drawn = goes.drawn;
      numbers = goes.numbers;
      checked =
          ap (λ z. held_through (record from { pictures = z ++ more }) draft.steps) (all_blank count from.pictures long)
          ∙ passed ∙ ap (λ z. Ok (record draft.held { pictures = z })) (sym held);
      few = goes.few;
      few_pictures = omega (arith, goes.few_pictures, ap length held, ap length left, length-append blanks more, length-append from.pictures more, same);
      place = goes.place;
    }
