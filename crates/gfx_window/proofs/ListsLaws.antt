-- Lists of places, read and written at one of them.
use Rattle.std.proofs.Common.{◌≡◌, ◌≢◌, inl, inr, ℕ, ◌<◌, ◌++◌, ◌∷◌, List, [], map, length, get_or, set, sym, ◌∙◌, ap, subst, arith, refl, get_or-set_same, get_or-set_other, length-set, Vec, Global}
use Rattle.std.specs.List.{Contains}
use Rattle.std.proofs.lemmas.Bool.{cases_eq}
use Rattle.std.proofs.lemmas.List.{map-set, length-map, get_or-map}
use Rattle.std.proofs.lemmas.List.Elements.{Contains-append_left, Contains-append_right}
use Rattle.gfx_window.specs.declared.covering.Hull.{Hull}
use Rattle.gfx_window.specs.Index.{Enters, home_of, those}

pub those-read : (lists : List (Vec ℕ Global)) (i : ℕ) (v : Vec ℕ Global) → i < length lists → v ≡ get_or lists i v → v.items ≡ those lists i
those-read lists i v low is =
    let items = λ (x : Vec ℕ Global). x.items in
    ap items is ∙ sym (get_or-map items lists i v [] low)

those-here : (lists : List (Vec ℕ Global)) (i : ℕ) (v : Vec ℕ Global) → i < length lists → those (set lists i v) i ≡ v.items
those-here lists i v low =
    let items = λ (x : Vec ℕ Global). x.items in
    ap (λ (xs : List (List ℕ)). get_or xs i []) (map-set items lists i v)
    ∙ get_or-set_same (map items lists) i v.items [] (omega (arith, length-map lists items))

those-other : (lists : List (Vec ℕ Global)) (i j : ℕ) (v : Vec ℕ Global) → j ≢ i → those (set lists i v) j ≡ those lists j
those-other lists i j v other =
    let items = λ (x : Vec ℕ Global). x.items in
    ap (λ (xs : List (List ℕ)). get_or xs j []) (map-set items lists i v) ∙ get_or-set_other (map items lists) i j v.items [] other

-- a place is put behind one list
pub entered : (lists : List (Vec ℕ Global)) (hull : Hull) (home place : ℕ) (was now : Vec ℕ Global) → home < length lists → home ≡ home_of (length lists) hull
    → was ≡ get_or lists home was → now.items ≡ was.items ++ place ∷ [] → Enters lists (set lists home now) hull place
entered lists hull home place was now low is read pushed = record {
  count = length-set lists home now;
  there = subst (λ h. Contains (those (set lists home now) h) place) is (subst (λ xs. Contains xs place) (sym here) (Contains-append_right (those lists home) (place ∷ []) place (0, omega arith, refl)));
  stays = λ i other there. elim (cases_eq i home) [
    | inl same ↦ subst (λ h. Contains (those (set lists home now) h) other) (sym same)
        (subst (λ xs. Contains xs other) (sym here) (Contains-append_left (those lists home) (place ∷ []) other (subst (λ h. Contains (those lists h) other) same there)))
    | inr differ ↦ subst (λ xs. Contains xs other) (sym (those-other lists home i now differ)) there
  ];
}
  where
    here : those (set lists home now) home ≡ those lists home ++ place ∷ []
    here = those-here lists home now low ∙ pushed ∙ ap (λ xs. xs ++ place ∷ []) (those-read lists home was low read)
