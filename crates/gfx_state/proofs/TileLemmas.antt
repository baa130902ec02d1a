-- What progressive data do to the screen.
use Rattle.std.proofs.Common.{◌≡◌, ◌∙◌, ℕ, List, Some, Result, Ok, Err, sym, ap, subst}
use Rattle.std.specs.Prelude.{IfSome}
use Rattle.std.specs.FinMap.{get}
use Rattle.gfx_base.specs.Outcome.{Applies}
use Rattle.gfx_base.specs.declared.answer.Cause.{Cause}
use Rattle.gfx_base.specs.declared.answer.Cause.TheVariants.{Refused, Memory}
use Rattle.gfx_base.specs.declared.refusal.Refusal.{Refusal}
use Rattle.gfx_base.proofs.ResultLemmas.{and_then_at, and_then_refused}
use Rattle.gfx_surface.specs.Picture.{Picture}
use Rattle.gfx_surface_map.specs.Shown.{with_picture}
use Rattle.gfx_prog_decode.specs.declared.key.Place.{Place}
use Rattle.gfx_prog_decode.specs.Progressive.{after_message}
use Rattle.gfx_prog_decode.specs.Scene.{Scene, scene}
use Rattle.gfx_prog_decode.proofs.Sides.{message_sides}
use Rattle.gfx_state.specs.State.{State}
use Rattle.gfx_state.specs.Step.{tiles_drawn}
use Rattle.gfx_state.proofs.StreamLemmas.{insert_found}

-- a state once a surface shows a picture, and the messages so far have left these records
abbrev pub retiled : State → ℕ → Scene → State
retiled old id new = record old { shown = with_picture old.shown id new.picture; records = new.records }

same_tiles : (old : State) (id : ℕ) (picture : Picture) (new : Scene) → get old.shown.surfaces id ≡ Some picture → new ≡ scene old.records picture → retiled old id new ≡ old
same_tiles old id picture new found same =
    ap (retiled old id) same ∙ ap (λ m. record old { shown = record old.shown { surfaces = m } }) (insert_found old.shown.surfaces id picture found)

-- what data did to a surface and to the records they did to the state
tiles_apply : (result : Result (Unit {0}) (Cause Refusal)) (old : State) (id context : ℕ) (picture : Picture) (new : Scene) (bytes : List ℕ) → get old.shown.surfaces id ≡ Some picture
    → Applies result (scene old.records picture) new (after_message (record { surface = id; context = context }) bytes (scene old.records picture))
    → Applies result old (retiled old id new) (tiles_drawn old id picture context bytes)
unfolding tiles_drawn
tiles_apply (Ok x) old id context picture new bytes found due = and_then_at (after_message (record { surface = id; context = context }) bytes (scene old.records picture)) new _ due
tiles_apply (Err Memory) old id context picture new bytes found same = same_tiles old id picture new found same
tiles_apply (Err (Refused r)) old id context picture new bytes found (due, same) =
    (and_then_refused (after_message (record { surface = id; context = context }) bytes (scene old.records picture)) r _ due, same_tiles old id picture new found same)

pub tiles_answer : (result : Result (Unit {0}) (Cause Refusal)) (old : State) (id context : ℕ) (surface : Picture) (new : Scene) (bytes : List ℕ) → get old.shown.surfaces id ≡ Some surface
    → Applies result (scene old.records surface) new (after_message (record { surface = id; context = context }) bytes (scene old.records surface))
    → IfSome (get old.shown.surfaces id) (λ picture. Applies result old (retiled old id new) (tiles_drawn old id picture context bytes))
tiles_answer result old id context surface new bytes found due =
    subst (λ z. IfSome z (λ picture. Applies result old (retiled old id new) (tiles_drawn old id picture context bytes))) (sym found)
    (tiles_apply result old id context surface new bytes found due)

-- no data change a surface's sides
pub tiles_sides : (result : Result (Unit {0}) (Cause Refusal)) (place : Place) (old new : Scene) (bytes : List ℕ) → Applies result old new (after_message place bytes old)
    → (new.picture.width ≡ old.picture.width) × (new.picture.height ≡ old.picture.height)
tiles_sides (Ok x) place old new bytes due = message_sides place bytes old new due
tiles_sides (Err Memory) place old new bytes same = (ap (λ z. z.picture.width) same, ap (λ z. z.picture.height) same)
tiles_sides (Err (Refused r)) place old new bytes (due, same) = (ap (λ z. z.picture.width) same, ap (λ z. z.picture.height) same)
