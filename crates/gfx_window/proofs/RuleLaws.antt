-- The test of the rule says what the rule says.
use Rattle.std.proofs.Common.{◌≡◌, ◌+◌, Bool, true, false, List, [], ◌∷◌, ◌++◌, length, drop, Option, Some, None, refl, sym, ap, ◌∙◌, inl, inr, append_assoc, length-append}
use Rattle.std.specs.Prelude.{◌&&◌, ◌||◌}
use Rattle.std.specs.List.{list_all, slice_get}
use Rattle.std.specs.Option.{option_and_then}
use Rattle.std.proofs.lemmas.Bool.{cases_Bool}
use Rattle.std.proofs.lemmas.List.{drop_at}
use Rattle.gfx_script.specs.Scripted.{Script}
use Rattle.gfx_script.specs.Writes.{Area}
use Rattle.gfx_window.specs.declared.window.Queued.{Queued}
use Rattle.gfx_window.specs.Superseded.{plain_area, stands_aside, covers, is_covered, is_left_out, superseded}
use Rattle.gfx_window.specs.Rule.{IsCovered, IsLeftOut, SupersededIsTheRule}
use Rattle.gfx_window.proofs.HullLaws.{both, together}

or-true : (a : Bool) → (a || true) ≡ true
or-true true = refl
or-true false = refl

module _ (script : Script) where
  module _ (area : Area) where
    covered-so : (items : List Queued) → is_covered script area items ≡ true → IsCovered script area items
    unfolding is_covered
    covered-so [] e = absurd cc
    covered-so (item ∷ items) e =
        elim (cases_Bool (covers area (plain_area script item))) [
          | inl here ↦ record { between = []; later = item; after = items; order = refl; aside = refl; covered = here }
          | inr not_here ↦
              let rest : (stands_aside script item && is_covered script area items) ≡ true = rw not_here at e in
              let h = both (stands_aside script item) (is_covered script area items) rest in
              let r = covered-so items h.1 in
              record {
                between = item ∷ r.between;
                later = r.later;
                after = r.after;
                order = ap (λ t. item ∷ t) r.order;
                aside = together (stands_aside script item) (list_all (stands_aside script) r.between) h.0 r.aside;
                covered = r.covered;
              }
        ]

    so-covered : (between : List Queued) (later : Queued) (after : List Queued) → list_all (stands_aside script) between ≡ true → covers area (plain_area script later) ≡ true → is_covered script area (between ++ later ∷ after) ≡ true
    unfolding is_covered
    so-covered [] later after aside covered = rw covered refl
    so-covered (item ∷ between) later after aside covered =
        let h = both (stands_aside script item) (list_all (stands_aside script) between) aside in
        rw (h.0, so-covered between later after h.1 covered) (or-true (covers area (plain_area script item)))

  module _ (item : Queued) (behind : List Queued) where
    left-out-so : (area : Option Area) → plain_area script item ≡ area → is_left_out script area behind ≡ true → IsLeftOut script item behind
    left-out-so None e left = absurd cc
    left-out-so (Some area) e left = record { area = area; plain = e; covered = covered-so area behind left }

    so-left-out : IsLeftOut script item behind → is_left_out script (plain_area script item) behind ≡ true
    so-left-out r = rw (r.plain, r.covered.order) (so-covered r.area r.covered.between r.covered.later r.covered.after r.covered.aside r.covered.covered)

    -- the item behind others, and what stands behind it
    got : (before : List Queued) → slice_get (before ++ item ∷ behind) (length before) ≡ Some item
    got [] = refl
    got (x ∷ before) = got before

    rest_of : (before : List Queued) → drop (length before + 1) (before ++ item ∷ behind) ≡ behind
    rest_of before =
        ap (λ t. drop (length before + 1) t) (sym (append_assoc before (item ∷ []) behind))
        ∙ drop_at (before ++ item ∷ []) behind (length before + 1) (length-append before (item ∷ []))

    at-place : (before : List Queued) → superseded script (before ++ item ∷ behind) (length before) ≡ is_left_out script (plain_area script item) behind
    at-place before =
        ap (λ o. is_left_out script (option_and_then (plain_area script) o) (drop (length before + 1) (before ++ item ∷ behind))) (got before)
        ∙ ap (is_left_out script (plain_area script item)) (rest_of before)

pub superseded-rule : SupersededIsTheRule
superseded-rule script before item behind =
    let e = at-place script item behind before in
    (λ left. left-out-so script item behind (plain_area script item) refl (sym e ∙ left), λ r. e ∙ so-left-out script item behind r)
