-- A step of any kind, and the whole of what the server's end then holds and shows.
use Rattle.std.proofs.Common.{◌≡◌, ◌<◌, ◌^◌, false, Option, Some, Ok, sym, ap, ◌∙◌, subst}
use Rattle.std.specs.List.{AllByRecursion}
use Rattle.gfx_script.specs.Checks.{Held}
use Rattle.gfx_script.specs.Kinds.{KindedStep, as_kind}
use Rattle.gfx_script.specs.Scripted.{Script}
use Rattle.gfx_script.specs.declared.step.Kind.{Kind}
use Rattle.gfx_script.specs.declared.step.Step.{Step}
use Rattle.gfx_slot_plan.specs.Plan.{Plan}
use Rattle.gfx_state.specs.State.{State}
use Rattle.gfx_state.specs.Sending.{all_steps, IsCarried}
use Rattle.gfx_planner.specs.Bitmaps.{sides_kept}
use Rattle.gfx_planner.specs.TileSteps.{sends_tiles}
use Rattle.gfx_planner.specs.Passes.{passes_as}
use Rattle.gfx_planner.specs.Wanted.{Wanted}
use Rattle.gfx_planner.specs.Want.{passes_wanted, wanted_after}
use Rattle.gfx_planner.specs.Server.{Server}
use Rattle.gfx_planner.specs.Made.{Made}
use Rattle.gfx_planner.specs.Wire.{made_by}
use Rattle.gfx_planner.specs.After.{passes_by}
use Rattle.gfx_planner.specs.Agree.{Agree}
use Rattle.gfx_planner.specs.Holds.{Holds}
use Rattle.gfx_planner.proofs.Seen.{agree-seen}
use Rattle.gfx_planner.proofs.SurfaceSteps.{Fine}
use Rattle.gfx_planner.proofs.TilesFollow.{number-stays, tiles-follow}

-- the server's end in another state, with another choice of slots and other tiles
abbrev pub gone : Script → Server → KindedStep → State → Plan → Server
gone script server one state plan = record server { state = state; plan = plan; passes = passes_by script server one }

-- a step is made into messages that are accepted, and the server's end goes on to hold and show what is wanted
pub record FineStep (script : Script) (server : Server) (one : KindedStep) (after : Held) : Type 0 where
  pub into : Made
  pub is : made_by script server one ≡ Some into
  pub next : State
  pub accepted : all_steps server.state into.pdus ≡ Ok next
  pub carried : AllByRecursion IsCarried into.pdus
  pub holds : Holds script after (gone script server one next into.plan)
  pub frame : next.frame ≡ server.state.frame
  pub agrees : (wanted : Wanted) → Agree server wanted → Agree (gone script server one next into.plan) (wanted_after script wanted one)

-- what may be raised at the server's end is what is wanted
pub passes-agree : (script : Script) (server : Server) (wanted : Wanted) (one : KindedStep) → Agree server wanted → passes_by script server one ≡ passes_wanted script wanted one.kind one.step
passes-agree script server wanted one agree =
    ap (λ p. passes_as script (sides_kept p server.state.cache.slots) server.state.shown.surfaces server.passes one.kind one.step) agree.plan
    ∙ ap (λ s. passes_as script (sides_kept wanted.plan s) server.state.shown.surfaces server.passes one.kind one.step) agree.slots
    ∙ ap (λ s. passes_as script (sides_kept wanted.plan wanted.slots) s.surfaces server.passes one.kind one.step) agree.shown
    ∙ ap (λ p. passes_as script (sides_kept wanted.plan wanted.slots) wanted.shown.surfaces p one.kind one.step) agree.passes

-- a step that isn't painted in passes
pub whole : (script : Script) (server : Server) (kind : Option Kind) (held after : Held) (step : Step) → sends_tiles script.thin kind step ≡ false → Holds script held server
    → Fine script server (as_kind kind step) after → FineStep script server (as_kind kind step) after
whole script server kind held after step apart holds fine =
    let one : KindedStep = as_kind kind step in
    record {
      into = fine.into;
      is = fine.is;
      next = fine.next;
      accepted = fine.accepted;
      carried = fine.carried;
      holds = record {
        drawn = fine.holds.drawn;
        same = fine.holds.same;
        surfaces = fine.holds.surfaces;
        bitmaps = fine.holds.bitmaps;
        setting = holds.setting;
        tiles = tiles-follow script server kind step fine.next apart holds.tiles fine.keeps;
        number = subst (λ n. n < 2 ^ 32) (sym (number-stays script server kind step apart)) holds.number;
        rings = fine.holds.rings;
      };
      frame = fine.frame;
      agrees = λ wanted agree.
          let a = fine.agrees wanted (agree-seen server wanted agree) in
          record { shown = a.shown; slots = a.slots; plan = a.plan; passes = passes-agree script server wanted one agree };
    }
