-- What is kept of pending items.
use Rattle.std.proofs.Common.{◌≡◌, ◌∙◌, ◌+◌, ℕ, Bool, true, false, cond, List, [], ◌∷◌, drop, Option, Some, None, inl, inr, refl, sym, ap, subst}
use Rattle.std.specs.List.{AllByRecursion, cons_option, slice_get}
use Rattle.std.specs.Option.{option_and_then}
use Rattle.std.proofs.lemmas.List.{drop_more, drop_all}
use Rattle.std.proofs.lemmas.Option.{slice_get_within, get_or_from_slice_get}
use Rattle.gfx_script.specs.Kinds.{KindedStep}
use Rattle.gfx_script.specs.Scripted.{Script}
use Rattle.gfx_window.specs.Superseded.{plain_area, is_left_out, superseded}
use Rattle.gfx_window.specs.declared.window.Queued.{Queued}
use Rattle.gfx_schedule.specs.Leaving.{step_of, steps_of, kept, AreAmong, LeavingIsSuperseding, LeavingOnlyLeaves}

pub kept-more : (script : Script) (item : Queued) (behind : List Queued)
    → kept script (item ∷ behind) ≡ cond (is_left_out script (plain_area script item) behind) (kept script behind) (item ∷ kept script behind)
unfolding kept
kept-more script item behind = refl

-- place by place ------------------------------------------------------------------------------------

-- an item and what stands behind it
at_place : (pending : List Queued) (place : ℕ) (item : Queued) → slice_get pending place ≡ Some item → drop place pending ≡ item ∷ drop (place + 1) pending
at_place pending place item there =
    drop_more pending place item (slice_get_within pending place item there)
    ∙ ap (λ one. one ∷ drop (place + 1) pending) (get_or_from_slice_get pending place item item there)

superseded-there : (script : Script) (pending : List Queued) (place : ℕ) (item : Queued) → slice_get pending place ≡ Some item
    → is_left_out script (plain_area script item) (drop (place + 1) pending) ≡ superseded script pending place
superseded-there script pending place item there =
    ap (λ o. is_left_out script (option_and_then (plain_area script) o) (drop (place + 1) pending)) (sym there)

kept-none : (script : Script) → kept script [] ≡ []
unfolding kept
kept-none script = refl

pub by_place : LeavingIsSuperseding
by_place script pending = record {
  each = λ place item there.
      ap (kept script) (at_place pending place item there)
      ∙ kept-more script item (drop (place + 1) pending)
      ∙ ap (λ b. cond b (kept script (drop (place + 1) pending)) (item ∷ kept script (drop (place + 1) pending))) (superseded-there script pending place item there);
  last = λ place past. ap (kept script) (drop_all place pending past) ∙ kept-none script;
}

-- among the items -----------------------------------------------------------------------------------

-- what holds of each holds of each of some
pub all_among : {A : Type 0} (P : A → Type 0) (some all : List A) → AreAmong some all → AllByRecursion P all → AllByRecursion P some
all_among P [] all among each = tt
all_among P (x ∷ some) [] among each = absurd among
all_among P (x ∷ some) (y ∷ all) (inl here) each = (subst P (sym here.0) each.0, all_among P some all here.1 each.1)
all_among P (x ∷ some) (y ∷ all) (inr later) each = all_among P (x ∷ some) all later each.1

pub among-more : {A : Type 0} (some all : List A) (y : A) → AreAmong some all → AreAmong some (y ∷ all)
among-more [] all y among = tt
among-more (x ∷ some) all y among = inr among

among-chosen : {A : Type 0} (b : Bool) (some all : List A) (x : A) → AreAmong some all → AreAmong (cond b some (x ∷ some)) (x ∷ all)
among-chosen true some all x among = among-more some all x among
among-chosen false some all x among = inl (refl, among)

cons_among : (o : Option KindedStep) (some all : List KindedStep) → AreAmong some all → AreAmong (cons_option o some) (cons_option o all)
cons_among None some all among = among
cons_among (Some one) some all among = inl (refl, among)

past : (o : Option KindedStep) (some all : List KindedStep) → AreAmong some all → AreAmong some (cons_option o all)
past None some all among = among
past (Some one) some all among = among-more some all one among

among-steps : (script : Script) (some all : List Queued) → AreAmong some all → AreAmong (steps_of script some) (steps_of script all)
among-steps script [] all among = tt
among-steps script (x ∷ some) [] among = absurd among
among-steps script (x ∷ some) (y ∷ all) (inl here) =
    subst (λ z. AreAmong (steps_of script (x ∷ some)) (steps_of script (z ∷ all))) here.0
    (cons_among (step_of script x) (steps_of script some) (steps_of script all) (among-steps script some all here.1))
among-steps script (x ∷ some) (y ∷ all) (inr later) =
    past (step_of script y) (steps_of script (x ∷ some)) (steps_of script all) (among-steps script (x ∷ some) all later)

kept_among : (script : Script) (pending : List Queued) → AreAmong (kept script pending) pending
unfolding kept
kept_among script [] = tt
kept_among script (item ∷ behind) = among-chosen (is_left_out script (plain_area script item) behind) (kept script behind) behind item (kept_among script behind)

pub only_leaves : LeavingOnlyLeaves
only_leaves script pending =
    let among = kept_among script pending in (among, among-steps script (kept script pending) pending among)
