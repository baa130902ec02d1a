-- Paints by ClearCodec that are allowed can be sent, and what sending one comes to.
use Rattle.std.proofs.Common.{◌≡◌, ℕ, ◌+◌, ◌-◌, ◌<◌, ◌^◌, List, [], ◌∷◌, Option, Some, None, Result, Ok, Err, option_map, refl, sym, ap, ◌∙◌, subst, arith}
use Rattle.std.specs.Prelude.{IfSome, IsSomeAnd, IsTrue}
use Rattle.std.specs.FinMap.{get}
use Rattle.std.specs.List.{slice_get}
use Rattle.gfx_base.specs.Format.{byte_of}
use Rattle.gfx_base.specs.Geometry.{lies_in, moved, sized, width_of, height_of}
use Rattle.gfx_base.specs.declared.answer.NoMemory.{NoMemory}
use Rattle.gfx_base.specs.declared.geometry.Point.{Point}
use Rattle.gfx_base.specs.declared.geometry.Rect.{Rect}
use Rattle.gfx_base.specs.declared.pixel.Rgb.{Rgb}
use Rattle.gfx_clear.specs.Sending.{MaySend as MaySendStream, sent as stream_sent}
use Rattle.gfx_pdu.specs.declared.pdu.Pdu.{Pdu}
use Rattle.gfx_pdu.specs.declared.pdu.Pdu.TheVariants.{WireToSurface1}
use Rattle.gfx_script.specs.declared.picture.Picture.{Picture as Source}
use Rattle.gfx_script.specs.declared.step.Kind.{Kind}
use Rattle.gfx_script.specs.declared.way.Way.{Way}
use Rattle.gfx_script.specs.declared.way.Way.TheVariants.{Uncompressed, ByLayer, InPasses, Video}
use Rattle.gfx_script.specs.declared.step.Step.{Step}
use Rattle.gfx_script.specs.declared.step.Step.TheVariants.{Surface, Delete, Reset, Map, Fill, Copy, Keep, Show, Forget, Paint, Improve, Frame}
use Rattle.gfx_script.specs.Checks.{Held, held_after}
use Rattle.gfx_script.specs.Kinds.{as_kind}
use Rattle.gfx_script.specs.Scripted.{Script}
use Rattle.gfx_script.specs.Ways.{goes_by}
use Rattle.gfx_script.specs.Writes.{place_of}
use Rattle.gfx_prog_live.specs.Live.{Passes}
use Rattle.gfx_slot_plan.specs.Plan.{Plan}
use Rattle.gfx_pdu.specs.Codecs.{CLEAR_CODEC}
use Rattle.gfx_state.specs.Sending.{sent, IsCarried}
use Rattle.gfx_state.specs.State.{State}
use Rattle.gfx_state.specs.Step.{step}
use Rattle.gfx_surface.specs.Picture.{Picture}
use Rattle.gfx_planner.specs.Pixels.{colours_in}
use Rattle.gfx_planner.specs.Server.{Server}
use Rattle.gfx_planner.specs.Made.{Made, alone, made}
use Rattle.gfx_planner.specs.PaintMessages.{paint_message}
use Rattle.gfx_planner.specs.StepMessages.{made_as, paint_made}
use Rattle.gfx_planner.specs.CanSend.{CanBeSent}
use Rattle.gfx_planner.specs.ClearPaints.{MayPaintClear, clear_message, clear_paint_by, clear_paint_of}
use Rattle.gfx_planner.specs.Holds.{Holds}
use Rattle.gfx_planner.specs.Allowed.{IsAllowed}
use Rattle.gfx_planner.specs.Planned.{PutsFront, SendsMade, SendsMessages}
use Rattle.gfx_planner.specs.declared.clear_paint.ClearPaint.{ClearPaint}
use Rattle.gfx_planner.proofs.Effects.{sent_nothing}
use Rattle.gfx_planner.proofs.PaintSteps.{MayPaint, may_paint, may_send_stream, paint_carried, painting_there}
use Rattle.gfx_planner.proofs.Payloads.{sides}
use Rattle.gfx_planner.proofs.Seen.{seen}

-- an allowed one can be sent ---------------------------------------------------------------------------

allowed_paint : (script : Script) (server : Server) (held after : Held) (id number : ℕ) (at : Point) (named : Option Kind) (glyph : Option ℕ) (way : Option Way) → Holds script held server
    → (id < 2 ^ 16) → MayPaint script server id number at glyph
    → IfSome (clear_paint_by way id number at glyph) (MayPaintClear script server.state)
allowed_paint script server held after id number at named glyph None holds fits m = tt
allowed_paint script server held after id number at named glyph (Some Uncompressed) holds fits m = tt
allowed_paint script server held after id number at named glyph (Some InPasses) holds fits m = tt
allowed_paint script server held after id number at named glyph (Some Video) holds fits m = tt
allowed_paint script server held after id number at named glyph (Some (ByLayer layer)) holds fits m = record {
  surface = m.surface;
  there = m.there;
  picture = m.picture;
  drawn = m.drawn;
  inside = m.inside;
  place = m.place;
  may = may_send_stream m.picture glyph m.sides m.stored;
  carried = paint_carried (Some layer) script server id number at glyph m fits;
}

pub may_paint_clear : (script : Script) (server : Server) (kind : Option Kind) (step : Step) → IsAllowed script server (as_kind kind step) → IfSome (clear_paint_of script.thin kind step) (MayPaintClear script server.state)
unfolding held_after
may_paint_clear script server kind (Paint id number at named glyph) allowed =
    let may = may_paint script server allowed.held allowed.after id number at named glyph (seen script allowed.held server allowed.holds) allowed.numbers.1 allowed.numbers.2 allowed.checked in
    allowed_paint script server allowed.held allowed.after id number at named glyph (goes_by script.thin kind) allowed.holds allowed.numbers.0 may.0
may_paint_clear script server kind (Surface id width height format) allowed = tt
may_paint_clear script server kind (Delete id) allowed = tt
may_paint_clear script server kind (Reset width height) allowed = tt
may_paint_clear script server kind (Map id x y) allowed = tt
may_paint_clear script server kind (Fill id colour rects) allowed = tt
may_paint_clear script server kind (Copy from to rect points) allowed = tt
may_paint_clear script server kind (Keep id key rect) allowed = tt
may_paint_clear script server kind (Show key to points) allowed = tt
may_paint_clear script server kind (Forget key) allowed = tt
may_paint_clear script server kind (Improve id) allowed = tt
may_paint_clear script server kind Frame allowed = tt

-- its parts ----------------------------------------------------------------------------------------------

-- a picture that is there has its sides
pub picture_is : (script : Script) (state : State) (paint : ClearPaint) (may : MayPaintClear script state paint) (width height : ℕ) → option_map sides (slice_get script.pictures paint.picture) ≡ Some (width, height)
    → (may.picture.width ≡ width) × (may.picture.height ≡ height)
picture_is script state paint may width height sized =
    let both : Some (sides may.picture) ≡ Some (width, height) = sym (ap (option_map sides) may.drawn) ∙ sized in
    let same : sides may.picture ≡ (width, height) = cc in
    (ap (λ p. p.0) same, ap (λ p. p.1) same)

pub picture_missing : (script : Script) (state : State) (paint : ClearPaint) → MayPaintClear script state paint → option_map sides (slice_get script.pictures paint.picture) ≡ None → ⊥
picture_missing script state paint may none = absurd (let no : Some (sides may.picture) ≡ None = sym (ap (option_map sides) may.drawn) ∙ none in cc)

-- its right side and its lower one are within their fields
pub paint_fits : (script : Script) (state : State) (paint : ClearPaint) (may : MayPaintClear script state paint) (width height : ℕ) → option_map sides (slice_get script.pictures paint.picture) ≡ Some (width, height)
    → (paint.at.x + width_of (sized width height) < 2 ^ 16) × (paint.at.y + height_of (sized width height) < 2 ^ 16)
paint_fits script state paint may width height sized_so =
    let same = picture_is script state paint may width height sized_so in
    let right : paint.at.x + (may.picture.width - 0) < 2 ^ 16 = may.place.right in
    let bottom : paint.at.y + (may.picture.height - 0) < 2 ^ 16 = may.place.bottom in
    (omega (arith, right, same.0), omega (arith, bottom, same.1))

-- the rectangle and the colours that it is sent with
pub record Painting (script : Script) (state : State) (paint : ClearPaint) (may : MayPaintClear script state paint) (rect : Rect) (pixels : List Rgb) : Type 0 where
  pub place : rect ≡ place_of may.picture paint.at
  pub colours : pixels ≡ colours_in may.picture

pub painting_of : (script : Script) (state : State) (paint : ClearPaint) (may : MayPaintClear script state paint) (width height : ℕ) (rect : Rect) (pixels : List Rgb)
    → option_map sides (slice_get script.pictures paint.picture) ≡ Some (width, height) → rect ≡ moved (sized width height) paint.at → IfSome (slice_get script.pictures paint.picture) (λ one. pixels ≡ colours_in one)
    → Painting script state paint may rect pixels
painting_of script state paint may width height rect pixels sized_so is drawn =
    let same = picture_is script state paint may width height sized_so in
    record {
      place = is ∙ (λ i. moved (sized (sym same.0 i) (sym same.1 i)) paint.at);
      colours = subst (λ o. IfSome o (λ one. pixels ≡ colours_in one)) may.drawn drawn;
    }

pub lies_there : (script : Script) (state : State) (paint : ClearPaint) (may : MayPaintClear script state paint) (rect : Rect) (pixels : List Rgb) → Painting script state paint may rect pixels
    → IsSomeAnd (get state.shown.surfaces paint.id) (λ surface. IsTrue (lies_in surface.width surface.height rect))
lies_there script state paint may rect pixels p =
    subst (λ o. IsSomeAnd o (λ surface. IsTrue (lies_in surface.width surface.height rect))) (sym may.there)
    (subst (λ r. IsTrue (lies_in may.surface.width may.surface.height r)) (sym p.place) may.inside)

-- the sides of the place of a picture are its own
place_sides : (picture : Source) (at : Point) → (width_of (place_of picture at) ≡ picture.width) × (height_of (place_of picture at) ≡ picture.height)
place_sides picture at = (omega arith, omega arith)

pub may_stream : (script : Script) (state : State) (paint : ClearPaint) (may : MayPaintClear script state paint) (rect : Rect) (pixels : List Rgb) → Painting script state paint may rect pixels
    → MaySendStream (width_of rect) (height_of rect) pixels paint.glyph
may_stream script state paint may rect pixels p =
    let are = place_sides may.picture paint.at in
    subst (λ r. MaySendStream (width_of r) (height_of r) pixels paint.glyph) (sym p.place)
    (subst (λ w. MaySendStream w (height_of (place_of may.picture paint.at)) pixels paint.glyph) (sym are.0)
    (subst (λ h. MaySendStream may.picture.width h pixels paint.glyph) (sym are.1) (subst (λ z. MaySendStream may.picture.width may.picture.height z paint.glyph) (sym p.colours) may.may)))

-- it is sent as the message that is due
same_message : (script : Script) (state : State) (paint : ClearPaint) (may : MayPaintClear script state paint) (rect : Rect) (pixels : List Rgb) → Painting script state paint may rect pixels
    → clear_message state paint.id may.surface.format rect pixels paint.layer paint.glyph ≡ paint_message (Some paint.layer) state.clear paint.glyph may.surface may.picture paint.id paint.at
same_message script state paint may rect pixels p =
    let are = place_sides may.picture paint.at in
    (λ i. clear_message state paint.id may.surface.format (p.place i) (p.colours i) paint.layer paint.glyph)
    ∙ (λ i. WireToSurface1 paint.id CLEAR_CODEC (byte_of may.surface.format) (place_of may.picture paint.at)
    (stream_sent state.clear paint.layer paint.glyph (are.0 i) (are.1 i) (colours_in may.picture)).bytes)

pub clear_carried : (script : Script) (state : State) (paint : ClearPaint) (may : MayPaintClear script state paint) (rect : Rect) (pixels : List Rgb) → Painting script state paint may rect pixels
    → IfSome (get state.shown.surfaces paint.id) (λ surface. IsCarried (clear_message state paint.id surface.format rect pixels paint.layer paint.glyph))
clear_carried script state paint may rect pixels p =
    subst (λ o. IfSome o (λ surface. IsCarried (clear_message state paint.id surface.format rect pixels paint.layer paint.glyph))) (sym may.there)
    (subst IsCarried (sym (same_message script state paint may rect pixels p)) may.carried)

-- what sending it comes to ------------------------------------------------------------------------------

pub sends_paint : {X : Type 0} (result : Result X NoMemory) (script : Script) (old new : State) (paint : ClearPaint) (may : MayPaintClear script old paint) (rect : Rect) (pixels : List Rgb) (before now : List ℕ)
    → Painting script old paint may rect pixels
    → IfSome (get old.shown.surfaces paint.id) (λ surface. SendsMessages result old new before now (clear_message old paint.id surface.format rect pixels paint.layer paint.glyph ∷ []))
    → IfSome (get old.shown.surfaces paint.id) (λ surface. IfSome (slice_get script.pictures paint.picture)
    (λ picture. SendsMessages result old new before now (paint_message (Some paint.layer) old.clear paint.glyph surface picture paint.id paint.at ∷ [])))
sends_paint result script old new paint may rect pixels before now p done =
    let one = subst (λ o. IfSome o (λ surface. SendsMessages result old new before now (clear_message old paint.id surface.format rect pixels paint.layer paint.glyph ∷ []))) may.there done in
    subst (λ o. IfSome o (λ surface. IfSome (slice_get script.pictures paint.picture)
    (λ picture. SendsMessages result old new before now (paint_message (Some paint.layer) old.clear paint.glyph surface picture paint.id paint.at ∷ [])))) (sym may.there)
    (subst (λ o. IfSome o (λ picture. SendsMessages result old new before now (paint_message (Some paint.layer) old.clear paint.glyph may.surface picture paint.id paint.at ∷ []))) (sym may.drawn)
    (subst (λ z. SendsMessages result old new before now (z ∷ [])) (same_message script old paint may rect pixels p) one))

-- nothing of it is put out
pub sends_nothing : (e : NoMemory) (script : Script) (old new : State) (paint : ClearPaint) (out : List ℕ)
    → IfSome (get old.shown.surfaces paint.id) (λ surface. IfSome (slice_get script.pictures paint.picture)
    (λ picture. SendsMessages {X = Unit {0}} (Err e) old new out out (paint_message (Some paint.layer) old.clear paint.glyph surface picture paint.id paint.at ∷ [])))
sends_nothing e script old new paint out = by (get old.shown.surfaces paint.id)
  where
    behind : (surface : Picture) (o : Option Source) → IfSome o (λ picture. PutsFront out out (sent (paint_message (Some paint.layer) old.clear paint.glyph surface picture paint.id paint.at ∷ [])))
    behind surface None = tt
    behind surface (Some picture) = sent_nothing out _

    by : (o : Option Picture) → IfSome o (λ surface. IfSome (slice_get script.pictures paint.picture)
        (λ picture. PutsFront out out (sent (paint_message (Some paint.layer) old.clear paint.glyph surface picture paint.id paint.at ∷ []))))
    by None = tt
    by (Some surface) = behind surface (slice_get script.pictures paint.picture)

-- a picture that goes by a layer is made into its message
by_layer : (script : Script) (state : State) (passes : Passes) (plan : Plan) (way : Option Way) (id number : ℕ) (at : Point) (glyph : Option ℕ) (paint : ClearPaint) (may : MayPaintClear script state paint)
    → clear_paint_by way id number at glyph ≡ Some paint
    → paint_made script state passes plan way (slice_get script.pictures number) glyph id at
    ≡ made (paint_message (Some paint.layer) state.clear paint.glyph may.surface may.picture paint.id paint.at ∷ []) plan
unfolding paint_made
by_layer script state passes plan None id number at glyph paint may is = absurd cc
by_layer script state passes plan (Some Uncompressed) id number at glyph paint may is = absurd cc
by_layer script state passes plan (Some InPasses) id number at glyph paint may is = absurd cc
by_layer script state passes plan (Some Video) id number at glyph paint may is = absurd cc
by_layer script state passes plan (Some (ByLayer layer)) id number at glyph paint may is =
    let made_paint : ClearPaint = record { id = id; picture = number; at = at; layer = layer; glyph = glyph } in
    let same : made_paint ≡ paint = cc in
    let there : get state.shown.surfaces id ≡ Some may.surface = ap (λ (z : ClearPaint). get state.shown.surfaces z.id) same ∙ may.there in
    let drawn : slice_get script.pictures number ≡ Some may.picture = ap (λ (z : ClearPaint). slice_get script.pictures z.picture) same ∙ may.drawn in
    ap (λ o. alone o plan) (painting_there (Some layer) state.clear (get state.shown.surfaces id) (slice_get script.pictures number) glyph may.surface may.picture id at there drawn)
    ∙ ap (λ (z : ClearPaint). made (paint_message (Some z.layer) state.clear z.glyph may.surface may.picture z.id z.at ∷ []) plan) same

-- a step that is one is made into its message
pub clear_made : (script : Script) (state : State) (passes : Passes) (plan : Plan) (kind : Option Kind) (step : Step) (paint : ClearPaint) (may : MayPaintClear script state paint) → clear_paint_of script.thin kind step ≡ Some paint
    → made_as script state passes plan kind step ≡ made (paint_message (Some paint.layer) state.clear paint.glyph may.surface may.picture paint.id paint.at ∷ []) plan
unfolding made_as
clear_made script state passes plan kind (Paint id number at named glyph) paint may is =
    by_layer script state passes plan (goes_by script.thin kind) id number at glyph paint may is
clear_made script state passes plan kind (Surface id width height format) paint may is = absurd cc
clear_made script state passes plan kind (Delete id) paint may is = absurd cc
clear_made script state passes plan kind (Reset width height) paint may is = absurd cc
clear_made script state passes plan kind (Map id x y) paint may is = absurd cc
clear_made script state passes plan kind (Fill id colour rects) paint may is = absurd cc
clear_made script state passes plan kind (Copy from to rect points) paint may is = absurd cc
clear_made script state passes plan kind (Keep id key rect) paint may is = absurd cc
clear_made script state passes plan kind (Show key to points) paint may is = absurd cc
clear_made script state passes plan kind (Forget key) paint may is = absurd cc
clear_made script state passes plan kind (Improve id) paint may is = absurd cc
clear_made script state passes plan kind Frame paint may is = absurd cc

-- what a step is made into is sent, where it is a paint
both_done : (result : Result (Unit {0}) NoMemory) (old new : State) (plan : Plan) (before now : List ℕ) (pdus : List Pdu) → SendsMessages result old new before now pdus → SendsMade result old new plan before now (made pdus plan)
both_done (Ok done) old new plan before now pdus sends = (sends, refl)
both_done (Err e) old new plan before now pdus sends = sends

pub made_sent : (result : Result (Unit {0}) NoMemory) (script : Script) (old new : State) (passes : Passes) (plan : Plan) (kind : Option Kind) (step : Step) (paint : ClearPaint) (before now : List ℕ) → MayPaintClear script old paint
    → clear_paint_of script.thin kind step ≡ Some paint
    → IfSome (get old.shown.surfaces paint.id) (λ surface. IfSome (slice_get script.pictures paint.picture)
    (λ picture. SendsMessages result old new before now (paint_message (Some paint.layer) old.clear paint.glyph surface picture paint.id paint.at ∷ [])))
    → SendsMade result old new plan before now (made_as script old passes plan kind step)
made_sent result script old new passes plan kind step paint before now may is done =
    let first = subst (λ o. IfSome o (λ surface. IfSome (slice_get script.pictures paint.picture)
    (λ picture. SendsMessages result old new before now (paint_message (Some paint.layer) old.clear paint.glyph surface picture paint.id paint.at ∷ [])))) may.there done in
    let second = subst (λ o. IfSome o (λ picture. SendsMessages result old new before now (paint_message (Some paint.layer) old.clear paint.glyph may.surface picture paint.id paint.at ∷ []))) may.drawn first in
    subst (SendsMade result old new plan before now) (sym (clear_made script old passes plan kind step paint may is)) (both_done result old new plan before now _ second)

-- where it isn't made yet
pub none_made : (e : NoMemory) (old new : State) (plan : Plan) (out : List ℕ) (o : Option Made) → CanBeSent o → SendsMade {X = Unit {0}} (Err e) old new plan out out o
none_made e old new plan out None possible = absurd possible
none_made e old new plan out (Some into) possible = sent_nothing out _

-- and where it is made into messages
pub made_done : (result : Result (Unit {0}) NoMemory) (old new : State) (plan : Plan) (before now : List ℕ) (pdus : List Pdu) (o : Option Made) → o ≡ made pdus plan → SendsMessages result old new before now pdus
    → SendsMade result old new plan before now o
made_done result old new plan before now pdus o is sends = subst (SendsMade result old new plan before now) (sym is) (both_done result old new plan before now pdus sends)
