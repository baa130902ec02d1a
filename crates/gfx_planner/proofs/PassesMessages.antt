-- The messages of steps that are painted in passes.
use Rattle.std.proofs.Common.{◌≡◌, ℕ, true, List, map, Option, Some, None, Result, Ok, Err, option_map, refl, sym, ap, ◌∙◌}
use Rattle.std.specs.Prelude.{IfOk, IfSome, IsSome, OnOk}
use Rattle.std.specs.FinMap.{get}
use Rattle.std.specs.List.{slice_get}
use Rattle.gfx_base.specs.declared.format.Format.{Format}
use Rattle.gfx_base.specs.declared.geometry.Point.{Point}
use Rattle.gfx_base.specs.declared.geometry.Rect.{Rect}
use Rattle.gfx_base.specs.Geometry.{moved, sized}
use Rattle.gfx_prog_live.specs.Live.{Passes, improve_all, improved_sends, paint_all, painted_sends, passes_after}
use Rattle.gfx_pdu.specs.declared.pdu.Pdu.{Pdu}
use Rattle.gfx_quant.specs.declared.setting.Setting.{Setting}
use Rattle.gfx_script.specs.declared.held.Sides.{Sides}
use Rattle.gfx_script.specs.declared.picture.Picture.{Picture as Source}
use Rattle.gfx_script.specs.declared.step.Kind.{Kind}
use Rattle.gfx_script.specs.declared.step.Step.TheVariants.{Paint}
use Rattle.gfx_script.specs.Scripted.{Script}
use Rattle.gfx_script.specs.Writes.{place_of}
use Rattle.gfx_slot_plan.specs.Plan.{Plan}
use Rattle.gfx_state.specs.State.{State}
use Rattle.gfx_surface.specs.Picture.{Picture}
use Rattle.gfx_surface_map.specs.Surfaces.{Surfaces}
use Rattle.gfx_script.specs.Ways.{goes_by}
use Rattle.gfx_planner.specs.TileSteps.{goes_in_passes}
use Rattle.gfx_planner.specs.Passes.{improved_passes, painted_passes, passes_as}
use Rattle.gfx_planner.specs.Made.{Made, made}
use Rattle.gfx_planner.specs.TileMessages.{improving, painting_in_passes, passes_message}
use Rattle.gfx_planner.specs.StepMessages.{made_as}
use Rattle.gfx_planner.specs.CanSend.{CanBeSent}
use Rattle.gfx_planner.proofs.Payloads.{sides}
use Rattle.gfx_planner.proofs.Ways.{live_in_passes, made_in_passes}

-- what is painted in passes is made as such --------------------------------------------------------------

pub step_in_passes : (script : Script) (state : State) (passes : Passes) (plan : Plan) (kind named : Option Kind) (glyph : Option ℕ) (id number : ℕ) (at : Point) → goes_in_passes (goes_by script.thin kind) ≡ true
    → made_as script state passes plan kind (Paint id number at named glyph) ≡ painting_in_passes script passes (get state.shown.surfaces id) (slice_get script.pictures number) id at plan
unfolding made_as
step_in_passes script state passes plan kind named glyph id number at goes = made_in_passes script state passes plan (goes_by script.thin kind) (slice_get script.pictures number) glyph id at goes

pub step_lives : (script : Script) (sides_of : ℕ → Option Sides) (surfaces : Surfaces) (passes : Passes) (kind named : Option Kind) (glyph : Option ℕ) (id number : ℕ) (at : Point) → goes_in_passes (goes_by script.thin kind) ≡ true
    → passes_as script sides_of surfaces passes kind (Paint id number at named glyph) ≡ painted_passes script passes id (slice_get script.pictures number) at
unfolding passes_as
step_lives script sides_of surfaces passes kind named glyph id number at goes = live_in_passes script passes (goes_by script.thin kind) id (slice_get script.pictures number) at _ goes

-- what has to be there is there -----------------------------------------------------------------------

pub painting_there : (script : Script) (passes : Passes) (surface : Option Picture) (source : Option Source) (id : ℕ) (at : Point) (next : Plan) → CanBeSent (painting_in_passes script passes surface source id at next)
    → IsSome surface × IsSome source
unfolding painting_in_passes
painting_there script passes None source id at next possible = absurd possible
painting_there script passes (Some a) None id at next possible = absurd possible
painting_there script passes (Some a) (Some b) id at next possible = (refl, refl)

pub improving_there : (script : Script) (passes : Passes) (surface : Option Picture) (id : ℕ) (next : Plan) → CanBeSent (improving script passes surface id next) → IsSome surface
unfolding improving
improving_there script passes None id next possible = absurd possible
improving_there script passes (Some a) id next possible = refl

-- what is made ----------------------------------------------------------------------------------------

pub paint_made : {V E : Type 0} (result : Result V E) (items : V → List Pdu) (script : Script) (passes : Passes) (surface : Option Picture) (source : Option Source) (a : Picture) (width height id : ℕ) (at : Point) (rect : Rect) (format : Format) (all : List (List ℕ))
    → surface ≡ Some a → option_map sides source ≡ Some (width, height) → format ≡ a.format → rect ≡ moved (sized width height) at
    → IfSome source (λ drawing. all ≡ paint_all script.setting (painted_sends script passes.live id drawing rect) passes.next)
    → IfOk result (λ v. items v ≡ map (passes_message id format) all) → IfOk result (λ v. (next : Plan) → painting_in_passes script passes surface source id at next ≡ made (items v) next)
unfolding painting_in_passes
paint_made (Err e) items script passes surface source a width height id at rect format all there sized_so formed is written carried = tt
paint_made (Ok v) items script passes surface None a width height id at rect format all there sized_so formed is written carried = λ next. absurd (let no : None ≡ Some (width, height) = sized_so in cc)
paint_made (Ok v) items script passes surface (Some b) a width height id at rect format all there sized_so formed is written carried = λ next.
    let same : sides b ≡ (width, height) = cc in
    let place : rect ≡ place_of b at = is ∙ ap (λ (p : ℕ × ℕ). moved (sized p.0 p.1) at) (sym same) in
    let due : all ≡ paint_all script.setting (painted_sends script passes.live id b (place_of b at)) passes.next =
    written ∙ ap (λ r. paint_all script.setting (painted_sends script passes.live id b r) passes.next) place in
    ap (λ s. painting_in_passes script passes s (Some b) id at next) there ∙ ap (λ z. made z next) (sym (carried ∙ (λ i. map (passes_message id (formed i)) (due i))))

pub improve_made : {V E : Type 0} (result : Result V E) (items : V → List Pdu) (script : Script) (setting : Setting) (passes : Passes) (surface : Option Picture) (a : Picture) (id : ℕ) (size : ℕ × ℕ) (format : Format) (all : List (List ℕ))
    → surface ≡ Some a → setting ≡ script.setting → size ≡ (a.width, a.height) → format ≡ a.format → all ≡ improve_all setting (improved_sends passes.live id size.0 size.1) passes.next
    → IfOk result (λ v. items v ≡ map (passes_message id format) all) → IfOk result (λ v. (next : Plan) → improving script passes surface id next ≡ made (items v) next)
unfolding improving
improve_made (Err e) items script setting passes surface a id size format all there set sized_so formed written carried = tt
improve_made (Ok v) items script setting passes surface a id size format all there set sized_so formed written carried = λ next.
    let due : all ≡ improve_all script.setting (improved_sends passes.live id a.width a.height) passes.next =
    written ∙ (λ i. improve_all (set i) (improved_sends passes.live id (sized_so i).0 (sized_so i).1) passes.next) in
    ap (λ s. improving script passes s id next) there ∙ ap (λ z. made z next) (sym (carried ∙ (λ i. map (passes_message id (formed i)) (due i))))

-- what is live then ------------------------------------------------------------------------------------

pub on_ok : {V E : Type 0} (result : Result V E) (P : Type 0) → P → OnOk result P
on_ok (Ok v) P p = p
on_ok (Err e) P p = tt

pub paint_live : (script : Script) (passes new : Passes) (source : Option Source) (width height id : ℕ) (at : Point) (rect : Rect) → option_map sides source ≡ Some (width, height) → rect ≡ moved (sized width height) at
    → IfSome source (λ drawing. new ≡ passes_after id (painted_sends script passes.live id drawing rect) passes) → new ≡ painted_passes script passes id source at
unfolding painted_passes
paint_live script passes new None width height id at rect sized_so is after = absurd (let no : None ≡ Some (width, height) = sized_so in cc)
paint_live script passes new (Some b) width height id at rect sized_so is after =
    let same : sides b ≡ (width, height) = cc in
    after ∙ ap (λ r. passes_after id (painted_sends script passes.live id b r) passes) (is ∙ ap (λ (p : ℕ × ℕ). moved (sized p.0 p.1) at) (sym same))

pub improve_live : (passes new : Passes) (surface : Option Picture) (a : Picture) (id : ℕ) (size : ℕ × ℕ) → surface ≡ Some a → size ≡ (a.width, a.height)
    → new ≡ passes_after id (improved_sends passes.live id size.0 size.1) passes → new ≡ improved_passes passes id surface
unfolding improved_passes
improve_live passes new surface a id size there sized_so after =
    after ∙ ap (λ (p : ℕ × ℕ). passes_after id (improved_sends passes.live id p.0 p.1) passes) sized_so ∙ sym (ap (improved_passes passes id) there)

-- by a step ---------------------------------------------------------------------------------------------

pub all_made : {V E : Type 0} (result : Result V E) (items : V → List Pdu) (plan : Plan) (due : Option Made) (own : Plan → Option Made) → due ≡ own plan
    → IfOk result (λ v. (next : Plan) → own next ≡ made (items v) next) → IfOk result (λ v. due ≡ made (items v) plan)
all_made (Ok v) items plan due own is each = is ∙ each plan
all_made (Err e) items plan due own is each = tt

pub all_live : {V E : Type 0} (result : Result V E) (new due own : Passes) → due ≡ own → OnOk result (new ≡ own) → IfOk result (λ _. new ≡ due)
all_live (Ok v) new due own is after = after ∙ sym is
all_live (Err e) new due own is after = tt
