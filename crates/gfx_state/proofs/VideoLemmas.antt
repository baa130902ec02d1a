-- What RemoteFX video does to the screen.
use Rattle.std.proofs.Common.{◌≡◌, ◌∙◌, ℕ, List, Some, Result, Ok, Err, sym, ap, subst}
use Rattle.std.specs.Prelude.{IfSome}
use Rattle.std.specs.FinMap.{get}
use Rattle.gfx_base.specs.Outcome.{Applies}
use Rattle.gfx_base.specs.declared.answer.Cause.{Cause}
use Rattle.gfx_base.specs.declared.answer.Cause.TheVariants.{Refused, Memory}
use Rattle.gfx_base.specs.declared.geometry.Rect.{Rect}
use Rattle.gfx_base.specs.declared.refusal.Refusal.{Refusal}
use Rattle.gfx_base.proofs.ResultLemmas.{and_then_at, and_then_refused}
use Rattle.gfx_surface.specs.Picture.{Picture}
use Rattle.gfx_surface_map.specs.Shown.{with_picture}
use Rattle.gfx_rfx_video.specs.Video.{after_video}
use Rattle.gfx_state.specs.State.{State}
use Rattle.gfx_state.specs.Step.{video_painted}
use Rattle.gfx_state.proofs.VideoSides.{video_shape}
use Rattle.gfx_state.proofs.StreamLemmas.{insert_found}

-- a state once a surface shows a picture
abbrev pub reshown : State → ℕ → Picture → State
reshown old id new = record old { shown = with_picture old.shown id new }

same_shown : (old : State) (id : ℕ) (picture new : Picture) → get old.shown.surfaces id ≡ Some picture → new ≡ picture → reshown old id new ≡ old
same_shown old id picture new found same =
    ap (reshown old id) same ∙ ap (λ m. record old { shown = record old.shown { surfaces = m } }) (insert_found old.shown.surfaces id picture found)

-- what a message did to a surface it did to the state
video_applies : (result : Result (Unit {0}) (Cause Refusal)) (old : State) (id : ℕ) (picture new : Picture) (rect : Rect) (bytes : List ℕ) → get old.shown.surfaces id ≡ Some picture
    → Applies result picture new (after_video rect bytes picture) → Applies result old (reshown old id new) (video_painted old id picture rect bytes)
unfolding video_painted
video_applies (Ok x) old id picture new rect bytes found due = and_then_at (after_video rect bytes picture) new _ due
video_applies (Err Memory) old id picture new rect bytes found same = same_shown old id picture new found same
video_applies (Err (Refused r)) old id picture new rect bytes found (due, same) =
    (and_then_refused (after_video rect bytes picture) r _ due, same_shown old id picture new found same)

pub video_answers : (result : Result (Unit {0}) (Cause Refusal)) (old : State) (id : ℕ) (surface new : Picture) (rect : Rect) (bytes : List ℕ) → get old.shown.surfaces id ≡ Some surface
    → Applies result surface new (after_video rect bytes surface)
    → IfSome (get old.shown.surfaces id) (λ picture. Applies result old (reshown old id new) (video_painted old id picture rect bytes))
video_answers result old id surface new rect bytes found due =
    subst (λ z. IfSome z (λ picture. Applies result old (reshown old id new) (video_painted old id picture rect bytes))) (sym found)
    (video_applies result old id surface new rect bytes found due)

-- no message changes a surface's sides
pub video_sides : (result : Result (Unit {0}) (Cause Refusal)) (old new : Picture) (rect : Rect) (bytes : List ℕ) → Applies result old new (after_video rect bytes old)
    → (new.width ≡ old.width) × (new.height ≡ old.height)
video_sides (Ok x) old new rect bytes due = let same = video_shape rect bytes old new due in (same.width, same.height)
video_sides (Err Memory) old new rect bytes same = (ap (λ z. z.width) same, ap (λ z. z.height) same)
video_sides (Err (Refused r)) old new rect bytes (due, same) = (ap (λ z. z.width) same, ap (λ z. z.height) same)
