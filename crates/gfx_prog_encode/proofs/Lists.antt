-- Lists that grow at their end.
use Rattle.std.proofs.Common.{◌≡◌, ℕ, zero, suc, ◌+◌, ◌<◌, List, [], ◌∷◌, ◌++◌, length, take, map, get_or, sym, ap, ◌∙◌, arith, subst}
use Rattle.std.proofs.lemmas.List.{map_more}
use Rattle.std.proofs.lemmas.List.Elements.{All-append}
use Rattle.std.specs.List.{All, AllByRecursion}

-- a fact of one more item
pub all-more : {X : Type 0} (P : X → Type 0) (xs : List X) (x : X) → All P xs → P x → All P (xs ++ x ∷ [])
all-more P xs x before there = All-append P xs (x ∷ []) before one
  where
    one : All P (x ∷ [])
    one zero d h = there
    one (suc k) d h = absurd (omega (arith, h))

pub each-more : {X : Type 0} (P : X → Type 0) (xs : List X) (x : X) → AllByRecursion P xs → P x → AllByRecursion P (xs ++ x ∷ [])
each-more P [] x before there = (there, tt)
each-more P (y ∷ ys) x before there = (before.0, each-more P ys x before.1 there)

-- a fact of the item at a place
pub all-there : {X : Type 0} (P : X → Type 0) (xs : List X) (i : ℕ) (x : X) → i < length xs → x ≡ get_or xs i x → All P xs → P x
all-there P xs i x h is all = subst P (sym is) (all i x h)

-- the image of the item at a place, behind the images of those before it
pub image-more : {X Y : Type 0} (f : X → Y) (xs : List X) (i : ℕ) (x : X) → i < length xs → x ≡ get_or xs i x → map f (take i xs) ++ f x ∷ [] ≡ map f (take (i + 1) xs)
image-more f xs i x h is = ap (λ y. map f (take i xs) ++ f y ∷ []) is ∙ sym (map_more f xs i x h)
