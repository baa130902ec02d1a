-- Facts on lists.
use Rattle.std.proofs.Common.{◌≡◌, ℕ, ◌≤◌, ◌<◌, List, [], ◌∷◌, ◌++◌, map, refl, ap, arith}
use Rattle.std.specs.List.{AllByRecursion}
use Rattle.gfx_schedule.specs.Rising.{AreRising}

pub nil_parts : {X : Type 0} (xs ys : List X) → xs ++ ys ≡ [] → (xs ≡ []) × (ys ≡ [])
nil_parts [] ys e = (refl, e)
nil_parts (x ∷ xs) ys e = absurd cc

-- a list whose images are two lists one after the other is such two lists itself
pub record Splits {X Y : Type 0} (f : X → Y) (all : List X) (front behind : List Y) : Type 0 where
  pub first : List X
  pub second : List X
  pub cut : all ≡ first ++ second
  pub first_is : map f first ≡ front
  pub second_is : map f second ≡ behind

pub splits : {X Y : Type 0} (f : X → Y) (all : List X) (front behind : List Y) → map f all ≡ front ++ behind → Splits f all front behind
splits f all [] behind e = record { first = []; second = all; cut = refl; first_is = refl; second_is = e }
splits f [] (y ∷ front) behind e = absurd cc
splits f (x ∷ all) (y ∷ front) behind e =
    let rest : map f all ≡ front ++ behind = cc in
    let head : f x ≡ y = cc in
    let s = splits f all front behind rest in
    record { first = x ∷ s.first; second = s.second; cut = ap (λ z. x ∷ z) s.cut; first_is = λ i. head i ∷ s.first_is i; second_is = s.second_is }

-- a list that rises to at most a bound goes on with what lies above it
pub rises_on : (below most next : ℕ) (steps : List ℕ) → AreRising below steps → AllByRecursion (λ step. step ≤ most) steps → below ≤ most → most < next → AreRising below (steps ++ next ∷ [])
rises_on below most next [] rising all from above = (omega arith, tt)
rises_on below most next (step ∷ steps) rising all from above = (rising.0, rises_on step most next steps rising.1 all.1 all.0 above)

pub rises_first : (below : ℕ) (xs ys : List ℕ) → AreRising below (xs ++ ys) → AreRising below xs
rises_first below [] ys rising = tt
rises_first below (x ∷ xs) ys rising = (rising.0, rises_first x xs ys rising.1)

pub all_within : (few most : ℕ) (steps : List ℕ) → few ≤ most → AllByRecursion (λ step. step ≤ few) steps → AllByRecursion (λ step. step ≤ most) steps
all_within few most [] le all = tt
all_within few most (step ∷ steps) le all = (omega (arith, all.0), all_within few most steps le all.1)
