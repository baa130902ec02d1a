-- The messages of allowed steps are accepted by the server's own state, and show what is wanted.
use Rattle.std.proofs.Common.{◌≡◌, Bool, true, false, Option, Ok, Some, refl, sym, ap, ◌∙◌, subst}
use Rattle.std.specs.Prelude.{IfSome}
use Rattle.gfx_script.specs.Checks.{Held, held_after}
use Rattle.gfx_script.specs.Kinds.{KindedStep, as_kind, GoesAs}
use Rattle.gfx_script.specs.Script.{IsStep}
use Rattle.gfx_script.specs.Scripted.{Script}
use Rattle.gfx_script.specs.declared.step.Kind.{Kind}
use Rattle.gfx_script.specs.declared.step.Step.{Step}
use Rattle.gfx_script.specs.declared.step.Step.TheVariants.{Surface, Delete, Reset, Map, Fill, Copy, Keep, Show, Forget, Paint, Improve, Frame}
use Rattle.gfx_state.specs.State.{State}
use Rattle.gfx_state.specs.Sending.{all_steps}
use Rattle.gfx_planner.specs.TileSteps.{sends_tiles}
use Rattle.gfx_planner.specs.Server.{Server}
use Rattle.gfx_planner.specs.Made.{Made, pdus_of}
use Rattle.gfx_planner.specs.Wire.{made_by, messages}
use Rattle.gfx_planner.specs.After.{after_made, after_put, passes_by}
use Rattle.gfx_planner.specs.CanSend.{CanBeSent}
use Rattle.gfx_planner.specs.Holds.{Holds}
use Rattle.gfx_planner.specs.Allowed.{IsAllowed}
use Rattle.gfx_planner.specs.Planned.{MaySend}
use Rattle.gfx_planner.proofs.Effects.{accepted_ok, after_messages-is}
use Rattle.gfx_planner.proofs.PassesSteps.{passes_fine}
use Rattle.gfx_planner.proofs.Seen.{HoldsSeen, seen}
use Rattle.gfx_planner.proofs.Whole.{FineStep, gone, whole}
use Rattle.gfx_planner.proofs.SurfaceSteps.{Fine, copy_fine, delete_fine, fill_fine, frame_fine, map_fine, reset_fine, surface_fine}
use Rattle.gfx_planner.proofs.PaintSteps.{paint_fine}
use Rattle.gfx_planner.proofs.BitmapSteps.{forget_fine, keep_fine, show_fine}
use Rattle.gfx_quant.specs.Setting.{IsSetting}

-- a step that isn't painted in passes
apart_fine : (script : Script) (server : Server) (kind : Option Kind) (held after : Held) (step : Step) → sends_tiles script.thin kind step ≡ false → IsSetting script.setting → HoldsSeen script held server → IsStep step → GoesAs kind step → held_after held step ≡ Ok after
    → Fine script server (as_kind kind step) after
apart_fine script server kind held after (Surface id width height format) apart setting holds numbers goes checked = surface_fine script server kind held after id width height format holds numbers checked
apart_fine script server kind held after (Delete id) apart setting holds numbers goes checked = delete_fine script server kind held after id holds numbers checked
apart_fine script server kind held after (Reset width height) apart setting holds numbers goes checked = reset_fine script server kind held after width height holds numbers checked
apart_fine script server kind held after (Map id x y) apart setting holds numbers goes checked = map_fine script server kind held after id x y holds numbers checked
apart_fine script server kind held after (Copy from to rect points) apart setting holds numbers goes checked = copy_fine script server kind held after from to rect points holds numbers checked
apart_fine script server kind held after (Fill id colour rects) apart setting holds numbers goes checked = fill_fine script server kind held after id colour rects holds numbers checked
apart_fine script server kind held after (Keep id key rect) apart setting holds numbers goes checked = keep_fine script server kind held after id key rect holds numbers checked
apart_fine script server kind held after (Show key to points) apart setting holds numbers goes checked = show_fine script server kind held after key to points holds numbers checked
apart_fine script server kind held after (Forget key) apart setting holds numbers goes checked = forget_fine script server kind held after key holds numbers checked
apart_fine script server kind held after (Paint id picture at named glyph) apart setting holds numbers goes checked = paint_fine script server kind held after id picture at named glyph apart setting holds numbers goes checked
apart_fine script server kind held after (Improve id) apart setting holds numbers goes checked = absurd cc
apart_fine script server kind held after Frame apart setting holds numbers goes checked = frame_fine script server kind held after holds checked

pub step_fine : (script : Script) (server : Server) (kind : Option Kind) (held after : Held) (step : Step) → Holds script held server → IsStep step → GoesAs kind step → held_after held step ≡ Ok after
    → FineStep script server (as_kind kind step) after
step_fine script server kind held after step holds numbers goes checked = by (sends_tiles script.thin kind step) refl
  where
    by : (b : Bool) → sends_tiles script.thin kind step ≡ b → FineStep script server (as_kind kind step) after
    by true passes = passes_fine script server kind held after step passes holds numbers goes checked
    by false apart = whole script server kind held after step apart holds (apart_fine script server kind held after step apart holds.setting (seen script held server holds) numbers goes checked)

pub allowed_fine : (script : Script) (server : Server) (one : KindedStep) (allowed : IsAllowed script server one) → FineStep script server one allowed.after
allowed_fine script server one allowed =
    step_fine script server one.kind allowed.held allowed.after one.step allowed.holds allowed.numbers allowed.kind allowed.checked

-- what a step is made into gives its messages, and the server's end after it
pub messages-is : (script : Script) (server : Server) (one : KindedStep) (into : Made) → made_by script server one ≡ Some into → messages script server one ≡ into.pdus
unfolding messages
messages-is script server one into is = ap pdus_of is

pub after_put-is : (script : Script) (server : Server) (one : KindedStep) (into : Made) (next : State) → made_by script server one ≡ Some into → all_steps server.state into.pdus ≡ Ok next
    → after_put script server one ≡ gone script server one next into.plan
unfolding after_put
after_put-is script server one into next is accepted =
    ap (λ (z : Server). record z { passes = passes_by script server one })
    (ap (after_made server) is ∙ ap (λ (z : Server). record z { plan = into.plan }) (after_messages-is server into.pdus next accepted))

-- the messages of an allowed step can be sent
pub can_be_sent : (script : Script) (server : Server) (one : KindedStep) → IsAllowed script server one → CanBeSent (made_by script server one)
can_be_sent script server one allowed = let fine = allowed_fine script server one allowed in subst CanBeSent (sym fine.is) fine.carried

pub same_made : (o : Option Made) (a b : Made) → o ≡ Some a → o ≡ Some b → a ≡ b
same_made o a b first second = cc

-- those that a step is made into may be sent
pub may_send_made : (script : Script) (server : Server) (one : KindedStep) → IsAllowed script server one → IfSome (made_by script server one) (λ into. MaySend server.state into.pdus)
may_send_made script server one allowed =
    let fine = allowed_fine script server one allowed in
    subst (λ o. IfSome o (λ into. MaySend server.state into.pdus)) (sym fine.is) record { carried = fine.carried; accepted = accepted_ok server.state fine.next fine.into.pdus fine.accepted }
