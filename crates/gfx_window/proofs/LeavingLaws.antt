-- What is kept of the items from one on, while each is judged.
use Rattle.std.proofs.Common.{◌≡◌, inl, inr, ℕ, zero, suc, ◌+◌, ◌<◌, ◌≤◌, Bool, true, false, List, [], ◌∷◌, length, drop, get_or, set, Option, Some, None, refl, sym, ap, ◌∙◌, subst, arith, length-set, get_or-set_same, get_or-set_other, Vec, Global}
use Rattle.std.specs.Prelude.{slice_get}
use Rattle.std.specs.List.{Contains}
use Rattle.std.specs.Option.{option_and_then, option_map}
use Rattle.std.proofs.lemmas.Bool.{cases_eq}
use Rattle.gfx_script.specs.Scripted.{Script}
use Rattle.gfx_script.specs.Writes.{Area}
use Rattle.gfx_window.specs.declared.covering.Hull.{Hull}
use Rattle.gfx_window.specs.declared.window.Queued.{Queued}
use Rattle.gfx_window.specs.Hulls.{hull_of, write_of}
use Rattle.gfx_window.specs.Index.{those, home_of, written, is_aside, Enters, IsEntered, Stands, AreLeftOut}
use Rattle.gfx_window.specs.Superseded.{plain_area, stands_aside, is_left_out, superseded}

-- what is read at a place is there
pub got : {X : Type 0} (xs : List X) (i : ℕ) (d : X) → i < length xs → slice_get xs i ≡ Some (get_or xs i d)
got [] i d low = absurd (omega (arith, low))
got (x ∷ xs) zero d low = refl
got (x ∷ xs) (suc i) d low = got xs i d (omega (arith, low))

past_end : {X : Type 0} (xs : List X) → slice_get xs (length xs) ≡ None
past_end [] = refl
past_end (x ∷ xs) = past_end xs

-- behind the last item there is none
pub none_stands : (script : Script) (items : List Queued) (lists : List (Vec ℕ Global)) → Stands script items lists (length items) (length items)
none_stands script items lists = record {
  entered = λ place from before. absurd (omega (arith, from, before));
  aside = λ place from before. absurd (omega (arith, from, before));
  ends = ap (is_aside script) (past_end items);
}

module _ (script : Script) (items : List Queued) (place : ℕ) (item : Queued) (there : slice_get items place ≡ Some item) where
  -- what isn't a plain write isn't left out
  pub none_left_out : option_map write_of (plain_area script item) ≡ None → false ≡ superseded script items place
  none_left_out none = sym (ap (λ o. is_left_out script (option_and_then (plain_area script) o) (drop (place + 1) items)) there ∙ by (plain_area script item) refl)
    where
      by : (o : Option Area) → plain_area script item ≡ o → is_left_out script (plain_area script item) (drop (place + 1) items) ≡ false
      by None e = ap (λ p. is_left_out script p (drop (place + 1) items)) e
      by (Some area) e = let no : Some (write_of area) ≡ None = sym (ap (option_map write_of) e) ∙ none in absurd cc

  -- an item that doesn't stand aside
  pub stops : (lists : List (Vec ℕ Global)) → stands_aside script item ≡ false → Stands script items lists place place
  stops lists stays = record {
    entered = λ other from before. absurd (omega (arith, from, before));
    aside = λ other from before. absurd (omega (arith, from, before));
    ends = ap (is_aside script) there ∙ stays;
  }

  plain : (area : Area) → option_and_then (plain_area script) (slice_get items place) ≡ Some area → plain_area script item ≡ Some area
  plain area a = sym (ap (option_and_then (plain_area script)) there) ∙ a

  hull_is : (area : Area) (hull : Hull) → option_and_then (plain_area script) (slice_get items place) ≡ Some area → hull_of area.rects ≡ Some hull → written script item ≡ Some hull
  hull_is area hull a h = ap (option_and_then (λ (z : Area). hull_of z.rects)) (plain area a) ∙ h

  aside_too : (limit : ℕ) → stands_aside script item ≡ true → ((other : ℕ) → place + 1 ≤ other → other < limit → is_aside script (slice_get items other) ≡ true)
      → (other : ℕ) → place ≤ other → other < limit → is_aside script (slice_get items other) ≡ true
  aside_too limit aside behind other from before = elim (cases_eq other place) [
    | inl same ↦ ap (λ n. is_aside script (slice_get items n)) same ∙ ap (is_aside script) there ∙ aside
    | inr differ ↦ behind other (omega (arith, from, differ)) before
  ]

  -- an item that writes nothing
  pub goes_unwritten : (lists : List (Vec ℕ Global)) (limit : ℕ) → stands_aside script item ≡ true → written script item ≡ None → Stands script items lists (place + 1) limit → Stands script items lists place limit
  goes_unwritten lists limit aside none stands = record {
    entered = λ other from before. elim (cases_eq other place) [
      | inl same ↦ subst (λ n. IsEntered script items lists n) (sym same) (λ area hull a h. let no : None ≡ Some hull = sym none ∙ hull_is area hull a h in absurd cc)
      | inr differ ↦ stands.entered other (omega (arith, from, differ)) before
    ];
    aside = aside_too limit aside stands.aside;
    ends = stands.ends;
  }

  -- an item that is entered
  pub goes_written : (lists more : List (Vec ℕ Global)) (limit : ℕ) (hull : Hull) → stands_aside script item ≡ true → written script item ≡ Some hull → Enters lists more hull place
      → Stands script items lists (place + 1) limit → Stands script items more place limit
  goes_written lists more limit hull aside is enters stands = record {
    entered = λ other from before. elim (cases_eq other place) [
      | inl same ↦ subst (λ n. IsEntered script items more n) (sym same) here
      | inr differ ↦ λ area inner a h.
          subst (λ n. Contains (those more (home_of n inner)) other) (sym enters.count)
          (enters.stays (home_of (length lists) inner) other (stands.entered other (omega (arith, from, differ)) before area inner a h))
    ];
    aside = aside_too limit aside stands.aside;
    ends = stands.ends;
  }
    where
      here : IsEntered script items more place
      here area inner a h =
          let same : Some hull ≡ Some inner = sym is ∙ hull_is area inner a h in
          let equal : hull ≡ inner = cc in
          subst (λ x. Contains (those more (home_of (length more) x)) place) equal
          (subst (λ n. Contains (those more (home_of n hull)) place) (sym enters.count) enters.there)

-- one more is judged
pub judged : (script : Script) (items : List Queued) (left : List Bool) (place : ℕ) (one : Bool) → place < length items → one ≡ superseded script items place
    → AreLeftOut script items left (place + 1) → AreLeftOut script items (set left place one) place
judged script items left place one low is rest = record {
  count = length-set left place one ∙ rest.count;
  each = λ other from before. elim (cases_eq other place) [
    | inl same ↦ ap (λ n. get_or (set left place one) n false) same ∙ get_or-set_same left place one false (omega (arith, low, rest.count)) ∙ is ∙ ap (superseded script items) (sym same)
    | inr differ ↦ get_or-set_other left place other one false differ ∙ rest.each other (omega (arith, from, differ)) before
  ];
}
