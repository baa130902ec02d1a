-- Pictures of which some forget their pixels, one after another.
use Rattle.std.proofs.Common.{◌≡◌, Bool, true, false, cond, ℕ, zero, suc, ◌+◌, ◌≤◌, List, [], ◌∷◌, ◌++◌, length, replicate, Option, Some, None, refl, ap, sym, ◌∙◌, subst, arith}
use Rattle.std.specs.List.{slice_get}
use Rattle.gfx_script.specs.declared.picture.Picture.{Picture}
use Rattle.gfx_script.specs.Forgetting.{blank}
use Rattle.gfx_script.specs.Sparing.{Marks, forgotten_at, forgotten_there, keeps, spared_from, without_pixels}

-- the marks of pictures that are forgotten change nothing
pub spared_behind : (marks : Marks) (number forgotten : ℕ) (others : List Picture)
    → spared_from number marks (replicate forgotten blank ++ others) ≡ replicate forgotten blank ++ spared_from (number + forgotten) marks others
spared_behind marks number zero others = ap (λ n. spared_from n marks others) (let same : number ≡ number + 0 = omega arith in same)
spared_behind marks number (suc forgotten) others =
    let next : (number + 1) + forgotten ≡ number + suc forgotten = omega arith in
    (λ i. still (keeps marks number) i ∷ spared_behind marks (number + 1) forgotten others i)
    ∙ ap (λ n. blank ∷ (replicate forgotten blank ++ spared_from n marks others)) next
  where
    still : (b : Bool) → cond b blank (without_pixels blank) ≡ blank
    still true = refl
    still false = refl

-- so many of the first have been looked at
abbrev pub spared_first : ℕ → ℕ → Marks → List Picture → List Picture
spared_first zero number marks pictures = pictures
spared_first (suc count) number marks [] = []
spared_first (suc count) number marks (picture ∷ pictures) =
    cond (keeps marks number) picture (without_pixels picture) ∷ spared_first count (number + 1) marks pictures

pub all_spared : (number : ℕ) (marks : Marks) (pictures : List Picture) (count : ℕ) → length pictures ≤ count → spared_first count number marks pictures ≡ spared_from number marks pictures
all_spared number marks [] zero le = refl
all_spared number marks [] (suc count) le = refl
all_spared number marks (picture ∷ pictures) zero le = absurd (omega (arith, le))
all_spared number marks (picture ∷ pictures) (suc count) le =
    ap (λ ps. cond (keeps marks number) picture (without_pixels picture) ∷ ps) (all_spared (number + 1) marks pictures count (omega (arith, le)))

-- one more keeps its pixels
kept_next : (count number : ℕ) (marks : Marks) (pictures : List Picture) → keeps marks (number + count) ≡ true
    → spared_first count number marks pictures ≡ spared_first (suc count) number marks pictures
kept_next zero number marks [] kept = refl
kept_next zero number marks (picture ∷ pictures) kept =
    let here : number + 0 ≡ number = omega arith in
    λ i. cond (sym (subst (λ n. keeps marks n ≡ true) here kept) i) picture (without_pixels picture) ∷ pictures
kept_next (suc count) number marks [] kept = refl
kept_next (suc count) number marks (picture ∷ pictures) kept =
    let next : number + suc count ≡ (number + 1) + count = omega arith in
    ap (λ ps. cond (keeps marks number) picture (without_pixels picture) ∷ ps)
    (kept_next count (number + 1) marks pictures (subst (λ n. keeps marks n ≡ true) next kept))

-- or forgets them
behind_one : (picture : Picture) (pictures : List Picture) (place : ℕ) → forgotten_at (picture ∷ pictures) (suc place) ≡ picture ∷ forgotten_at pictures place
behind_one picture pictures place = by (slice_get pictures place)
  where
    by : (found : Option Picture) → forgotten_there (picture ∷ pictures) (suc place) found ≡ picture ∷ forgotten_there pictures place found
    by None = refl
    by (Some found) = refl

spared_next : (count number : ℕ) (marks : Marks) (pictures : List Picture) → keeps marks (number + count) ≡ false
    → forgotten_at (spared_first count number marks pictures) count ≡ spared_first (suc count) number marks pictures
spared_next zero number marks [] gone = refl
spared_next zero number marks (picture ∷ pictures) gone =
    let here : number + 0 ≡ number = omega arith in
    λ i. cond (sym (subst (λ n. keeps marks n ≡ false) here gone) i) picture (without_pixels picture) ∷ pictures
spared_next (suc count) number marks [] gone = refl
spared_next (suc count) number marks (picture ∷ pictures) gone =
    let next : number + suc count ≡ (number + 1) + count = omega arith in
    behind_one (cond (keeps marks number) picture (without_pixels picture)) (spared_first count (number + 1) marks pictures) count
    ∙ ap (λ ps. cond (keeps marks number) picture (without_pixels picture) ∷ ps)
    (spared_next count (number + 1) marks pictures (subst (λ n. keeps marks n ≡ false) next gone))

-- the same, counted on by one
next : (count number : ℕ) (marks : Marks) (pictures : List Picture) → spared_first (suc count) number marks pictures ≡ spared_first (count + 1) number marks pictures
next count number marks pictures = let same : suc count ≡ count + 1 = omega arith in ap (λ n. spared_first n number marks pictures) same

pub one_kept : (count number : ℕ) (marks : Marks) (pictures : List Picture) → keeps marks (number + count) ≡ true
    → spared_first count number marks pictures ≡ spared_first (count + 1) number marks pictures
one_kept count number marks pictures kept = kept_next count number marks pictures kept ∙ next count number marks pictures

pub one_spared : (count number : ℕ) (marks : Marks) (pictures : List Picture) → keeps marks (number + count) ≡ false
    → forgotten_at (spared_first count number marks pictures) count ≡ spared_first (count + 1) number marks pictures
one_spared count number marks pictures gone = spared_next count number marks pictures gone ∙ next count number marks pictures
