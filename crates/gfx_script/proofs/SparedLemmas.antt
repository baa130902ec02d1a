-- Pictures that have forgotten pixels have the sides that they had; those that are marked have their pixels; and a script of them
-- is accepted as before.
use Rattle.std.proofs.Common.{◌≡◌, Bool, true, false, cond, ℕ, zero, suc, ◌+◌, ◌-◌, ◌≤◌, nat_lt, List, [], ◌∷◌, length, Option, Some, None, unwrap_or, refl, ap, sym, ◌∙◌, subst, arith}
use Rattle.std.specs.List.{AllByRecursion, slice_get, slice_set}
use Rattle.std.specs.Option.{option_map}
use Rattle.gfx_script.specs.Checks.{Held, sides_of_all}
use Rattle.gfx_script.specs.Drafts.{sides_of}
use Rattle.gfx_script.specs.Pictures.{IsDrawn}
use Rattle.gfx_script.specs.Script.{IsAcceptedFrom}
use Rattle.gfx_script.specs.Scripted.{Script}
use Rattle.gfx_script.specs.Sparing.{Marks, keeps, marked, spared, spared_from, without_pixels}
use Rattle.gfx_script.specs.declared.held.Sides.{Sides}
use Rattle.gfx_script.specs.declared.picture.Picture.{Picture}

-- marks --------------------------------------------------------------------------------------------------------------

set_there : (xs : List Bool) (n : ℕ) → unwrap_or (slice_get (slice_set xs n true) n) true ≡ true
set_there [] n = refl
set_there (x ∷ xs) zero = refl
set_there (x ∷ xs) (suc n) = set_there xs n

set_still : (xs : List Bool) (n k : ℕ) → unwrap_or (slice_get xs k) true ≡ true → unwrap_or (slice_get (slice_set xs n true) k) true ≡ true
set_still [] n k is = refl
set_still (x ∷ xs) zero zero is = refl
set_still (x ∷ xs) zero (suc k) is = is
set_still (x ∷ xs) (suc n) zero is = is
set_still (x ∷ xs) (suc n) (suc k) is = set_still xs n k is

-- a picture that is marked keeps its pixels
pub marked_keeps : (marks : Marks) (number : ℕ) → keeps (marked marks number) number ≡ true
marked_keeps marks number = by (nat_lt number marks.first) refl
  where
    place : ℕ
    place = number - marks.first

    by : (b : Bool) → nat_lt number marks.first ≡ b → keeps (cond b marks (record marks { kept = slice_set marks.kept place true })) number ≡ true
    by true is = ap (λ b. cond b true (unwrap_or (slice_get marks.kept place) true)) is
    by false is = ap (λ b. cond b true (unwrap_or (slice_get (slice_set marks.kept place true) place) true)) is ∙ set_there marks.kept place

-- and still does when another is marked
pub marked_still : (marks : Marks) (number other : ℕ) → keeps marks number ≡ true → keeps (marked marks other) number ≡ true
marked_still marks number other kept = by (nat_lt other marks.first)
  where
    inner : (b : Bool) → cond b true (unwrap_or (slice_get marks.kept (number - marks.first)) true) ≡ true
        → cond b true (unwrap_or (slice_get (slice_set marks.kept (other - marks.first) true) (number - marks.first)) true) ≡ true
    inner true is = refl
    inner false is = set_still marks.kept (other - marks.first) (number - marks.first) is

    by : (b : Bool) → keeps (cond b marks (record marks { kept = slice_set marks.kept (other - marks.first) true })) number ≡ true
    by true = kept
    by false = inner (nat_lt number marks.first) kept

-- pictures -----------------------------------------------------------------------------------------------------------

pub spared_count : (number : ℕ) (marks : Marks) (pictures : List Picture) → length (spared_from number marks pictures) ≡ length pictures
spared_count number marks [] = refl
spared_count number marks (picture ∷ pictures) = ap suc (spared_count (number + 1) marks pictures)

one_sides : (b : Bool) (picture : Picture) → sides_of (cond b picture (without_pixels picture)) ≡ sides_of picture
one_sides true picture = refl
one_sides false picture = refl

pub spared_sides : (number : ℕ) (marks : Marks) (pictures : List Picture) → sides_of_all (spared_from number marks pictures) ≡ sides_of_all pictures
spared_sides number marks [] = refl
spared_sides number marks (picture ∷ pictures) = λ i. one_sides (keeps marks number) picture i ∷ spared_sides (number + 1) marks pictures i

-- the sides of one of them
pub spared_sides_at : (number : ℕ) (marks : Marks) (pictures : List Picture) (place : ℕ)
    → option_map sides_of (slice_get (spared_from number marks pictures) place) ≡ option_map sides_of (slice_get pictures place)
spared_sides_at number marks [] place = refl
spared_sides_at number marks (picture ∷ pictures) zero = ap Some (one_sides (keeps marks number) picture)
spared_sides_at number marks (picture ∷ pictures) (suc place) = spared_sides_at (number + 1) marks pictures place

-- one that keeps its pixels is as it was
pub spared_keeps : (number : ℕ) (marks : Marks) (pictures : List Picture) (place : ℕ) → keeps marks (number + place) ≡ true
    → slice_get (spared_from number marks pictures) place ≡ slice_get pictures place
spared_keeps number marks [] place kept = refl
spared_keeps number marks (picture ∷ pictures) zero kept =
    let here : number + 0 ≡ number = omega arith in
    ap (λ b. Some (cond b picture (without_pixels picture))) (subst (λ n. keeps marks n ≡ true) here kept)
spared_keeps number marks (picture ∷ pictures) (suc place) kept =
    let next : number + suc place ≡ (number + 1) + place = omega arith in
    spared_keeps (number + 1) marks pictures place (subst (λ n. keeps marks n ≡ true) next kept)

one_drawn : (b : Bool) (picture : Picture) → IsDrawn picture → IsDrawn (cond b picture (without_pixels picture))
one_drawn true picture drawn = drawn
one_drawn false picture drawn = record { width_from = drawn.width_from; width_fits = drawn.width_fits; height_from = drawn.height_from; height_fits = drawn.height_fits; area = drawn.area }

pub spared_drawn : (number : ℕ) (marks : Marks) (pictures : List Picture) → AllByRecursion IsDrawn pictures → AllByRecursion IsDrawn (spared_from number marks pictures)
spared_drawn number marks [] drawn = tt
spared_drawn number marks (picture ∷ pictures) drawn = (one_drawn (keeps marks number) picture drawn.0, spared_drawn (number + 1) marks pictures drawn.1)

-- a script -----------------------------------------------------------------------------------------------------------

pub spared_accepted : (held : Held) (script : Script) (marks : Marks) → IsAcceptedFrom held script → IsAcceptedFrom held (spared marks script)
spared_accepted held script marks good = record {
  window_from = good.window_from;
  window_most = good.window_most;
  some_offers = good.some_offers;
  few_offers = good.few_offers;
  offers = good.offers;
  setting = good.setting;
  small = good.small;
  thin = good.thin;
  few_pictures = omega (arith, good.few_pictures, spared_count 0 marks script.pictures);
  pictures = spared_drawn 0 marks script.pictures good.pictures;
  few = good.few;
  numbers = good.numbers;
  held = good.held;
  checked = good.checked;
  framed = good.framed;
  few_turns = good.few_turns;
  turns = good.turns;
}

-- its steps leave what they left
pub spared_held : (held : Held) (script : Script) (marks : Marks) (good : IsAcceptedFrom held script) → (spared_accepted held script marks good).held ≡ good.held
unfolding spared_accepted
spared_held held script marks good = refl
