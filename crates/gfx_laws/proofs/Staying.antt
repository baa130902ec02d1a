-- A pixel stays as it is until a step writes it.
use Rattle.std.proofs.Common.{◌≡◌, ◌≢◌, ◌⊎◌, ◌∙◌, ◌+◌, ◌<◌, ◌==◌, ◌^◌, ℕ, false, List, [], ◌∷◌, ◌++◌, length, fold, Option, Some, Ok, inl, inr, refl, sym, ap, subst, arith, append_assoc, length-append}
use Rattle.std.specs.FinMap.{get}
use Rattle.std.specs.List.{AllByRecursion}
use Rattle.std.proofs.lemmas.Bool.{cases_eq}
use Rattle.std.proofs.lemmas.Bool.Decides.{nat_tests}
use Rattle.std.proofs.lemmas.List.Sums.{fold-append}
use Rattle.gfx_script.specs.Checks.{Held, held_through}
use Rattle.gfx_script.specs.declared.step.Kind.{Kind}
use Rattle.gfx_script.specs.declared.step.Step.{Step}
use Rattle.gfx_script.specs.declared.step.Step.TheVariants.{Improve}
use Rattle.gfx_script.specs.Kinds.{Fits, HasKind, KindedStep}
use Rattle.gfx_script.specs.Script.{IsStep}
use Rattle.gfx_script.specs.Scripted.{Script}
use Rattle.gfx_surface.specs.Picture.{Picture, pixel_at}
use Rattle.gfx_surface_map.specs.Surfaces.{Surfaces}
use Rattle.gfx_planner.specs.Wanted.{Wanted, nothing_wanted}
use Rattle.gfx_planner.specs.Want.{want, wanted_after, wanted_as}
use Rattle.gfx_planner.specs.Server.{Server}
use Rattle.gfx_planner.specs.Agree.{Agree}
use Rattle.gfx_planner.specs.Holds.{Holds}
use Rattle.gfx_planner.specs.Stream.{served}
use Rattle.gfx_planner.specs.Within.{IsOutside}
use Rattle.gfx_planner.proofs.Alike.{same_picture}
use Rattle.gfx_planner.proofs.LiveShown.{tiles-wanted}
use Rattle.gfx_planner.proofs.Streams.{Stands, along, bare, goes, held_through-cons}
use Rattle.gfx_planner.proofs.Within.{areas_same, step_within}
use Rattle.gfx_laws.specs.Raised.{IsOfNoRaised, Raises}
use Rattle.gfx_laws.specs.Stays.{IsOn, Leaves, PixelsStayUntilWritten, StaysOn}
use Rattle.gfx_laws.proofs.Raising.{raises}

-- a pixel of a surface is the same before and after
abbrev Same : ℕ → ℕ → ℕ → Surfaces → Surfaces → Type 0
Same id x y old new = (before after : Picture) → get old id ≡ Some before → get new id ≡ Some after → pixel_at after x y ≡ pixel_at before x y

-- a surface that is there has the pixel
has-column : (wanted : Wanted) (id x y : ℕ) (picture : Picture) → IsOn wanted id x y → get wanted.shown.surfaces id ≡ Some picture → (x < picture.width) × (y < picture.height)
has-column wanted id x y picture on there =
    let same : picture ≡ on.picture = same_picture (get wanted.shown.surfaces id) on.picture picture on.there there in
    (subst (λ (p : Picture). x < p.width) (sym same) on.column, subst (λ (p : Picture). y < p.height) (sym same) on.row)

-- ---- a step

improved-stays : (id other x y : ℕ) (old new : Wanted) → Raises other old new → IsOn old id x y → (other ≡ id → IsOfNoRaised old id x y) → Same id x y old.shown.surfaces new.shown.surfaces
improved-stays id other x y old new raises on leaves before after was is = by (cases_eq other id)
  where
    by : (other ≡ id) ⊎ (other ≢ id) → pixel_at after x y ≡ pixel_at before x y
    by (inl at) =
        let there : get old.shown.surfaces other ≡ Some before = ap (get old.shown.surfaces) at ∙ was in
        let there-too : get new.shown.surfaces other ≡ Some after = ap (get new.shown.surfaces) at ∙ is in
        let inside = has-column old id x y before on was in
        raises.pixels before after x y there there-too inside.0 inside.1 (λ key send same. leaves at key send (same ∙ at))
    by (inr apart) =
        let differs : (id == other) ≡ false = grind (arith, nat_tests) in
        ap (λ p. pixel_at p x y) (same_picture (get old.shown.surfaces id) before after was (sym (raises.others id differs) ∙ is))

kind-stays : (script : Script) (held : Held) (server : Server) (wanted : Wanted) (kind : Option Kind) (step : Step) (id x y : ℕ) → Holds script held server → Agree server wanted → IsOn wanted id x y
    → IsOn (wanted_as script wanted kind step) id x y → Leaves script wanted step id x y → Same id x y wanted.shown.surfaces (wanted_as script wanted kind step).shown.surfaces
unfolding wanted_as
kind-stays script held server wanted kind (Improve other) id x y holds agree on on-then leaves =
    improved-stays id other x y wanted _ (raises script.setting wanted server.state.records other _ refl (tiles-wanted script held server wanted holds agree)) on leaves
kind-stays script held server wanted kind step id x y holds agree on on-then leaves = λ before after was is.
    let inside = has-column (wanted_as script wanted kind step) id x y after on-then is in
    (step_within script held server wanted kind step holds agree).each id x y before after was is inside.0 inside.1
    (subst (λ w. IsOutside w id x y) (areas_same held script server wanted step holds agree) leaves)

pub step-stays : (script : Script) (held : Held) (server : Server) (wanted : Wanted) (one : KindedStep) (id x y : ℕ) → Holds script held server → Agree server wanted → IsOn wanted id x y
    → IsOn (wanted_after script wanted one) id x y → Leaves script wanted one.step id x y → Same id x y wanted.shown.surfaces (wanted_after script wanted one).shown.surfaces
step-stays script held server wanted one id x y holds agree on on-then leaves =
    kind-stays script held server wanted one.kind one.step id x y holds agree on (record { picture = on-then.picture; there = on-then.there; column = on-then.column; row = on-then.row }) leaves

-- ---- steps

-- it is there at first
first-on : (script : Script) (wanted : Wanted) (steps : List KindedStep) (id x y : ℕ) → StaysOn script wanted steps id x y → IsOn wanted id x y
first-on script wanted [] id x y stays = stays
first-on script wanted (one ∷ steps) id x y stays = stays.0

steps-stay : (script : Script) (held last : Held) (server : Server) (wanted : Wanted) (steps rest : List KindedStep) (id x y : ℕ) → server.frames + length steps < 2 ^ 32 → Stands script server held wanted
    → AllByRecursion IsStep (bare (steps ++ rest)) → AllByRecursion HasKind (steps ++ rest) → held_through held (bare (steps ++ rest)) ≡ Ok last → StaysOn script wanted steps id x y
    → Same id x y wanted.shown.surfaces (fold (wanted_after script) wanted steps).shown.surfaces
steps-stay script held last server wanted [] rest id x y few stands numbers kinds checked stays before after was is = ap (λ p. pixel_at p x y) (same_picture (get wanted.shown.surfaces id) before after was is)
steps-stay script held last server wanted (one ∷ steps) rest id x y few stands numbers kinds checked stays before after was is =
    let c = held_through-cons held last one.step (bare (steps ++ rest)) checked in
    let first = goes script server held c.0 wanted one (omega arith) stands numbers.0 kinds.0 c.1 in
    let on : IsOn (wanted_after script wanted one) id x y = first-on script (wanted_after script wanted one) steps id x y stays.1.1 in
    steps-stay script c.0 last (served script server one) (wanted_after script wanted one) steps rest id x y (omega (arith, first.frames)) first.stands numbers.1 kinds.1 c.2 stays.1.1 on.picture after on.there is
    ∙ step-stays script held server wanted one id x y stands.holds stands.agrees stays.0 on stays.1.0 before on.picture was on.there

pub pixels-stay : PixelsStayUntilWritten
pixels-stay script front steps rest id x y before after good fits stays was is =
    let a = along script front (steps ++ rest) good fits in
    let all = along script (front ++ steps) rest good (subst (λ l. Fits l script.steps) (sym (append_assoc front steps rest)) fits) in
    let many : length (front ++ steps) ≡ length front + length steps = length-append front steps in
    steps-stay script a.held a.last _ (want script front) steps rest id x y (omega (arith, a.streams.frames, all.front_checked.few, many)) a.streams.stands a.numbers a.kinds a.checked stays before after was
    (ap (λ (w : Wanted). get w.shown.surfaces id) (sym (fold-append (wanted_after script) (nothing_wanted script.small) front steps)) ∙ is)
