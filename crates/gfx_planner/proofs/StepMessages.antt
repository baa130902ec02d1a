-- The messages of steps that can be sent: what has to be there is there.
use Rattle.std.proofs.Common.{◌≡◌, ℕ, ◌+◌, ◌-◌, ◌<◌, ◌^◌, false, List, [], ◌∷◌, Option, Some, None, Result, Ok, Err, option_map, refl, sym, ap, ◌∙◌, subst, arith}
use Rattle.std.specs.Prelude.{IfOk, IfSome, IsSome, IsOk}
use Rattle.std.specs.FinMap.{get}
use Rattle.std.specs.List.{slice_get}
use Rattle.gfx_base.specs.Format.{byte_of}
use Rattle.gfx_base.specs.declared.geometry.Point.{Point}
use Rattle.gfx_base.specs.declared.geometry.Rect.{Rect}
use Rattle.gfx_base.specs.declared.refusal.Refusal.{Refusal}
use Rattle.gfx_clear.specs.State.{ClearState}
use Rattle.gfx_pdu.specs.declared.pdu.Pdu.{Pdu}
use Rattle.gfx_pdu.specs.declared.pdu.Pdu.TheVariants.{WireToSurface1}
use Rattle.gfx_script.specs.declared.picture.Picture.{Picture as Source}
use Rattle.gfx_script.specs.declared.step.Kind.{Kind}
use Rattle.gfx_script.specs.declared.way.Way.{Way}
use Rattle.gfx_script.specs.declared.way.Way.TheVariants.{Uncompressed, ByLayer, InPasses, Video}
use Rattle.gfx_script.specs.declared.step.Step.TheVariants.{Paint}
use Rattle.gfx_prog_live.specs.Live.{Passes}
use Rattle.gfx_script.specs.Scripted.{Script}
use Rattle.gfx_script.specs.declared.step.Step.{Step}
use Rattle.gfx_state.specs.State.{State}
use Rattle.gfx_slot_plan.specs.declared.kept.Kept.{Kept}
use Rattle.gfx_slot_plan.specs.Plan.{Plan}
use Rattle.gfx_state.specs.Sending.{IsCarried}
use Rattle.gfx_pdu.specs.Codecs.{UNCOMPRESSED}
use Rattle.gfx_surface.specs.Picture.{Picture}
use Rattle.gfx_planner.specs.Pixels.{pixels_in}
use Rattle.gfx_planner.specs.TileSteps.{goes_in_passes, sends_tiles, goes_as_video, is_video_paint}
use Rattle.gfx_planner.specs.Made.{alone, made}
use Rattle.gfx_planner.specs.BitmapMessages.{keeping, showing_slot, emptying}
use Rattle.gfx_planner.specs.PaintMessages.{painting, raw_bytes}
use Rattle.gfx_planner.specs.StepMessages.{made_as, paint_made}
use Rattle.gfx_planner.specs.CanSend.{CanBeSent}
use Rattle.gfx_planner.specs.ClearPaints.{clear_paint_by, clear_paint_of}
use Rattle.gfx_script.specs.Ways.{goes_by}
use Rattle.gfx_planner.proofs.Payloads.{sides}
use Rattle.gfx_planner.proofs.PaintSteps.{painting_there}

-- slots --------------------------------------------------------------------------------------------

pub is_chosen : (found : Result (Plan × Kept) Refusal) (id key : ℕ) (rect : Rect) → CanBeSent (keeping found id key rect) → IsOk found
unfolding keeping
is_chosen (Ok found) id key rect possible = refl
is_chosen (Err r) id key rect possible = absurd possible

pub is_shown_from : (o : Option ℕ) (to : ℕ) (points : List Point) (next : Plan) → CanBeSent (alone (showing_slot o to points) next) → IsSome o
unfolding showing_slot
is_shown_from None to points next possible = absurd possible
is_shown_from (Some slot) to points next possible = refl

pub is_emptied : (o : Option ℕ) (next : Plan) → CanBeSent (alone (emptying o) next) → IsSome o
unfolding emptying
is_emptied None next possible = absurd possible
is_emptied (Some slot) next possible = refl

-- paints -------------------------------------------------------------------------------------------

none_there : {X : Type 0} (o : Option X) → o ≡ None → IsSome o → ⊥
none_there None none some = absurd cc
none_there (Some x) none some = absurd cc

pub no_surface : (clear : ClearState) (surface : Option Picture) (source : Option Source) (glyph : Option ℕ) (id : ℕ) (at : Point) → surface ≡ None
    → IsSome (painting None clear surface source glyph id at) → ⊥
unfolding painting
no_surface clear surface source glyph id at none some = none_there (painting None clear surface source glyph id at) (ap (λ s. painting None clear s source glyph id at) none) some

painting_no_picture : (clear : ClearState) (surface : Option Picture) (glyph : Option ℕ) (id : ℕ) (at : Point) → painting None clear surface None glyph id at ≡ None
unfolding painting
painting_no_picture clear None glyph id at = refl
painting_no_picture clear (Some surface) glyph id at = refl

pub no_picture : (clear : ClearState) (surface : Option Picture) (source : Option Source) (glyph : Option ℕ) (id : ℕ) (at : Point) → source ≡ None
    → IsSome (painting None clear surface source glyph id at) → ⊥
no_picture clear surface source glyph id at none some =
    none_there (painting None clear surface source glyph id at) (ap (λ s. painting None clear surface s glyph id at) none ∙ painting_no_picture clear surface glyph id at) some

pub is_painted : (o : Option Pdu) (next : Plan) → CanBeSent (alone o next) → IsSome o × IfSome o IsCarried
is_painted None next possible = absurd possible
is_painted (Some pdu) next possible = (refl, possible.0)

-- no glyph stands in the message of what goes uncompressed
pub raw_alike : (clear : ClearState) (surface : Option Picture) (source : Option Source) (glyph : Option ℕ) (id : ℕ) (at : Point)
    → painting None clear surface source glyph id at ≡ painting None clear surface source None id at
unfolding painting
raw_alike clear None source glyph id at = refl
raw_alike clear (Some surface) None glyph id at = refl
raw_alike clear (Some surface) (Some source) glyph id at = refl

-- what goes by no layer of ClearCodec, nor in passes or as video, and can be sent, goes uncompressed, and its message is that of no glyph
pub record GoesRaw (script : Script) (state : State) (passes : Passes) (plan : Plan) (kind : Option Kind) (source : Option Source) (glyph : Option ℕ) (id : ℕ) (at : Point) : Type 0 where
  pub made : paint_made script state passes plan (goes_by script.thin kind) source glyph id at ≡ alone (painting None state.clear (get state.shown.surfaces id) source None id at) plan
  pub there : IsSome (painting None state.clear (get state.shown.surfaces id) source None id at)
  pub fits : IfSome (painting None state.clear (get state.shown.surfaces id) source None id at) IsCarried

-- in which way it goes, then
raw_way : (script : Script) (state : State) (passes : Passes) (plan : Plan) (way : Option Way) (source : Option Source) (glyph : Option ℕ) (id number : ℕ) (at : Point)
    → CanBeSent (paint_made script state passes plan way source glyph id at) → clear_paint_by way id number at glyph ≡ None → goes_in_passes way ≡ false → goes_as_video way ≡ false
    → paint_made script state passes plan way source glyph id at ≡ alone (painting None state.clear (get state.shown.surfaces id) source None id at) plan
unfolding paint_made
raw_way script state passes plan None source glyph id number at possible none apart still = absurd possible
raw_way script state passes plan (Some Uncompressed) source glyph id number at possible none apart still =
    ap (λ o. alone o plan) (raw_alike state.clear (get state.shown.surfaces id) source glyph id at)
raw_way script state passes plan (Some (ByLayer layer)) source glyph id number at possible none apart still = absurd cc
raw_way script state passes plan (Some InPasses) source glyph id number at possible none apart still = absurd cc
raw_way script state passes plan (Some Video) source glyph id number at possible none apart still = absurd cc

-- so is a step that is one
pub raw_made : (script : Script) (state : State) (passes : Passes) (plan : Plan) (kind named : Option Kind) (glyph : Option ℕ) (id number : ℕ) (at : Point) (step : Step) → step ≡ Paint id number at named glyph
    → CanBeSent (made_as script state passes plan kind step) → clear_paint_of script.thin kind step ≡ None → sends_tiles script.thin kind step ≡ false → is_video_paint script.thin kind step ≡ false
    → GoesRaw script state passes plan kind (slice_get script.pictures number) glyph id at
unfolding made_as
raw_made script state passes plan kind named glyph id number at step is possible none apart still =
    let possible_there : CanBeSent (paint_made script state passes plan (goes_by script.thin kind) (slice_get script.pictures number) glyph id at) = rw is at possible in
    let made = raw_way script state passes plan (goes_by script.thin kind) (slice_get script.pictures number) glyph id number at possible_there (rw is at none) (rw is at apart) (rw is at still) in
    let some = is_painted _ plan (subst CanBeSent made possible_there) in
    record { made = made; there = some.0; fits = some.1 }

pub raw_made_is : {V E : Type 0} (result : Result V E) (items : V → List Pdu) (script : Script) (state : State) (passes : Passes) (plan : Plan) (kind named : Option Kind) (glyph : Option ℕ) (id number : ℕ) (at : Point) (step : Step) (pdu : Pdu)
    → step ≡ Paint id number at named glyph → CanBeSent (made_as script state passes plan kind step) → clear_paint_of script.thin kind step ≡ None → sends_tiles script.thin kind step ≡ false → is_video_paint script.thin kind step ≡ false
    → painting None state.clear (get state.shown.surfaces id) (slice_get script.pictures number) None id at ≡ Some pdu → IfOk result (λ v. items v ≡ pdu ∷ [])
    → IfOk result (λ v. made_as script state passes plan kind step ≡ made (items v) plan)
unfolding made_as
raw_made_is (Err e) items script state passes plan kind named glyph id number at step pdu is possible none apart still paints alone_so = tt
raw_made_is (Ok v) items script state passes plan kind named glyph id number at step pdu is possible none apart still paints alone_so =
    let goes = raw_made script state passes plan kind named glyph id number at step is possible none apart still in
    ap (made_as script state passes plan kind) is ∙ goes.made ∙ ap (λ o. alone o plan) paints ∙ ap (λ z. made z plan) (sym alone_so)

-- the message, from its parts
pub painting_is : (clear : ClearState) (surface : Option Picture) (source : Option Source) (a : Picture) (width height codec byte id : ℕ) (at : Point) (payload : List ℕ)
    → surface ≡ Some a → option_map sides source ≡ Some (width, height) → codec ≡ UNCOMPRESSED → byte ≡ byte_of a.format → IfSome source (λ one. payload ≡ raw_bytes (pixels_in one))
    → painting None clear surface source None id at ≡ Some (WireToSurface1 id codec byte (record { left = at.x; top = at.y; right = at.x + width; bottom = at.y + height }) payload)
painting_is clear surface None a width height codec byte id at payload there sized raw format spelled = absurd (let no : None ≡ Some (width, height) = sized in cc)
painting_is clear surface (Some b) a width height codec byte id at payload there sized raw format spelled =
    let both : sides b ≡ (width, height) = cc in
    let wide : b.width - 0 ≡ width = omega (arith, ap (λ p. p.0) both) in
    let high : b.height - 0 ≡ height = omega (arith, ap (λ p. p.1) both) in
    painting_there None clear surface (Some b) None a b id at there refl
    ∙ (λ i. Some (WireToSurface1 id (sym raw i) (sym format i) (record { left = at.x; top = at.y; right = at.x + wide i; bottom = at.y + high i }) (sym spelled i)))

carried_there : (o : Option Pdu) (pdu : Pdu) → o ≡ Some pdu → IfSome o IsCarried → IsCarried pdu
carried_there o pdu is fits = subst (λ o. IfSome o IsCarried) is fits

-- its rectangle fits its fields
pub painting_fits : (clear : ClearState) (surface : Option Picture) (source : Option Source) (a : Picture) (width height id : ℕ) (at : Point)
    → surface ≡ Some a → option_map sides source ≡ Some (width, height) → IfSome (painting None clear surface source None id at) IsCarried → (at.x + width < 2 ^ 16) × (at.y + height < 2 ^ 16)
painting_fits clear surface None a width height id at there sized fits = absurd (let no : None ≡ Some (width, height) = sized in cc)
painting_fits clear surface (Some b) a width height id at there sized fits =
    let both : sides b ≡ (width, height) = cc in
    let wide : b.width ≡ width = ap (λ p. p.0) both in
    let high : b.height ≡ height = ap (λ p. p.1) both in
    let carried = carried_there _ _ (painting_there None clear surface (Some b) None a b id at there refl) fits in
    let right : at.x + (b.width - 0) < 2 ^ 16 = carried.fits.numbers.2.right in
    let bottom : at.y + (b.height - 0) < 2 ^ 16 = carried.fits.numbers.2.bottom in
    (omega (arith, right, wide), omega (arith, bottom, high))
