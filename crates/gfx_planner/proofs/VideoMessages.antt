-- The messages of paints that go as video.
use Rattle.std.proofs.Common.{◌≡◌, ℕ, true, List, [], ◌∷◌, map, Option, Some, None, option_map, Result, Ok, Err, refl, sym, ap, ◌∙◌}
use Rattle.std.specs.Prelude.{IfOk, IfSome, IsSome}
use Rattle.std.specs.FinMap.{get}
use Rattle.std.specs.List.{slice_get}
use Rattle.gfx_base.specs.Cells.{has_pixels}
use Rattle.gfx_base.specs.Geometry.{IsRect, moved, sized}
use Rattle.gfx_base.specs.declared.format.Format.{Format}
use Rattle.gfx_base.specs.declared.geometry.Point.{Point}
use Rattle.gfx_base.specs.declared.geometry.Rect.{Rect}
use Rattle.gfx_prog_live.specs.Live.{Passes}
use Rattle.gfx_pdu.specs.declared.pdu.Pdu.{Pdu}
use Rattle.gfx_script.specs.declared.held.Sides.{Sides}
use Rattle.gfx_script.specs.declared.picture.Picture.{Picture as Source}
use Rattle.gfx_script.specs.declared.step.Kind.{Kind}
use Rattle.gfx_script.specs.declared.step.Step.TheVariants.{Paint}
use Rattle.gfx_script.specs.Scripted.{Script}
use Rattle.gfx_script.specs.Ways.{goes_by}
use Rattle.gfx_script.specs.Writes.{Area, area, place_of, writes_by}
use Rattle.gfx_slot_plan.specs.Plan.{Plan}
use Rattle.gfx_state.specs.State.{State}
use Rattle.gfx_surface.specs.Picture.{Picture}
use Rattle.gfx_surface_map.specs.Surfaces.{Surfaces}
use Rattle.gfx_video_paint.proofs.Cover.{placed-some}
use Rattle.gfx_video_paint.specs.Inside.{HasSome}
use Rattle.gfx_video_paint.specs.Video.{video_payloads, videos_after}
use Rattle.gfx_planner.specs.TileSteps.{goes_as_video}
use Rattle.gfx_planner.specs.Passes.{counted_in, ended_by, passes_as}
use Rattle.gfx_planner.specs.Made.{made}
use Rattle.gfx_planner.specs.VideoMessages.{mode_of, painting_as_video, video_message}
use Rattle.gfx_planner.specs.StepMessages.{made_as}
use Rattle.gfx_planner.specs.CanSend.{CanBeSent}
use Rattle.gfx_planner.proofs.Payloads.{sides}
use Rattle.gfx_planner.proofs.Ways.{live_as_video, made_as_video}

-- what goes as video is made as such ------------------------------------------------------------------------

pub step_as_video : (script : Script) (state : State) (passes : Passes) (plan : Plan) (kind named : Option Kind) (glyph : Option ℕ) (id number : ℕ) (at : Point) → goes_as_video (goes_by script.thin kind) ≡ true
    → made_as script state passes plan kind (Paint id number at named glyph) ≡ painting_as_video script passes.videos (get state.shown.surfaces id) (slice_get script.pictures number) id at plan
unfolding made_as
step_as_video script state passes plan kind named glyph id number at goes = made_as_video script state passes plan (goes_by script.thin kind) (slice_get script.pictures number) glyph id at goes

pub step_counted : (script : Script) (sides_of : ℕ → Option Sides) (surfaces : Surfaces) (passes : Passes) (kind named : Option Kind) (glyph : Option ℕ) (id number : ℕ) (at : Point) → goes_as_video (goes_by script.thin kind) ≡ true
    → passes_as script sides_of surfaces passes kind (Paint id number at named glyph)
    ≡ counted_in (slice_get script.pictures number) (ended_by passes (option_map (λ source. area id (place_of source at ∷ [])) (slice_get script.pictures number)))
unfolding passes_as writes_by
step_counted script sides_of surfaces passes kind named glyph id number at goes = live_as_video script passes (goes_by script.thin kind) id (slice_get script.pictures number) at _ goes

-- what has to be there is there -----------------------------------------------------------------------------

pub video_there : (script : Script) (number : ℕ) (surface : Option Picture) (source : Option Source) (id : ℕ) (at : Point) (next : Plan) → CanBeSent (painting_as_video script number surface source id at next)
    → IsSome surface × IsSome source
unfolding painting_as_video
video_there script number None source id at next possible = absurd possible
video_there script number (Some a) None id at next possible = absurd possible
video_there script number (Some a) (Some b) id at next possible = (refl, refl)

-- a picture that has pixels at its place has them, and a place that fits its fields
pub placed_some : (o : Option Source) (at : Point) → IfSome o (λ source. IsRect (place_of source at) × (has_pixels (place_of source at) ≡ true)) → IfSome o HasSome
placed_some None at placed = tt
placed_some (Some picture) at placed = placed-some picture at placed.1

pub placed_fits : (o : Option Source) (at : Point) → IfSome o (λ source. IsRect (place_of source at) × (has_pixels (place_of source at) ≡ true)) → IfSome o (λ source. IsRect (place_of source at))
placed_fits None at placed = tt
placed_fits (Some picture) at placed = placed.0

-- what is made ----------------------------------------------------------------------------------------------

pub ended_videos : (passes : Passes) (written : Option Area) → (ended_by passes written).videos ≡ passes.videos
unfolding ended_by
ended_videos passes None = refl
ended_videos passes (Some written) = refl

pub video_made : {V E : Type 0} (result : Result V E) (items : V → List Pdu) (script : Script) (old number : ℕ) (surface : Option Picture) (source : Option Source) (a : Picture) (width height id : ℕ) (at : Point) (rect : Rect) (format : Format) (all : List (List ℕ))
    → surface ≡ Some a → option_map sides source ≡ Some (width, height) → format ≡ a.format → rect ≡ moved (sized width height) at → number ≡ old
    → IfSome source (λ drawing. all ≡ video_payloads script.setting (mode_of script.entropy) drawing number)
    → IfOk result (λ v. items v ≡ map (video_message id format rect) all) → IfOk result (λ v. (next : Plan) → painting_as_video script old surface source id at next ≡ made (items v) next)
unfolding painting_as_video
video_made (Err e) items script old number surface source a width height id at rect format all there sized_so formed is kept written carried = tt
video_made (Ok v) items script old number surface None a width height id at rect format all there sized_so formed is kept written carried = λ next. absurd (let no : None ≡ Some (width, height) = sized_so in cc)
video_made (Ok v) items script old number surface (Some b) a width height id at rect format all there sized_so formed is kept written carried = λ next.
    let same : sides b ≡ (width, height) = cc in
    let place : rect ≡ place_of b at = is ∙ ap (λ (p : ℕ × ℕ). moved (sized p.0 p.1) at) (sym same) in
    let due : all ≡ video_payloads script.setting (mode_of script.entropy) b old = written ∙ ap (video_payloads script.setting (mode_of script.entropy) b) kept in
    ap (λ s. painting_as_video script old s (Some b) id at next) there ∙ ap (λ z. made z next) (sym (carried ∙ (λ i. map (video_message id (formed i) (place i)) (due i))))

-- how many messages there were then
pub videos_counted : (passes new : Passes) (source : Option Source) (first next : ℕ) → IsSome source → first ≡ passes.videos → IfSome source (λ drawing. next ≡ videos_after drawing first) → new ≡ record passes { videos = next }
    → new ≡ counted_in source passes
unfolding counted_in
videos_counted passes new None first next some from after is = absurd cc
videos_counted passes new (Some picture) first next some from after is = is ∙ ap (λ n. record passes { videos = n }) (after ∙ ap (videos_after picture) from)
