-- What is held and shown of the server's end but for what is painted in passes, and what steps that aren't painted in
-- passes leave of surfaces and records.
use Rattle.std.proofs.Common.{ℕ, ◌≡◌, None, option_map}
use Rattle.std.specs.List.{AllByRecursion}
use Rattle.std.specs.FinMap.{get, insert, remove}
use Rattle.gfx_clear_store.specs.Rings.{AreRings}
use Rattle.gfx_prog_decode.specs.Records.{without_surface as records_but}
use Rattle.gfx_surface.specs.Picture.{blank}
use Rattle.gfx_script.specs.Checks.{Held, sides_of_all}
use Rattle.gfx_script.specs.Pictures.{IsDrawn}
use Rattle.gfx_script.specs.Scripted.{Script}
use Rattle.gfx_script.specs.declared.step.Step.{Step}
use Rattle.gfx_script.specs.declared.step.Step.TheVariants.{Surface, Delete}
use Rattle.gfx_state.specs.State.{State}
use Rattle.gfx_planner.specs.Wanted.{Wanted}
use Rattle.gfx_planner.specs.Server.{Server}
use Rattle.gfx_planner.specs.Agree.{Agree}
use Rattle.gfx_planner.specs.Holds.{Holds, HoldsBitmaps, HoldsSurfaces, sides_of}

-- what a script's checks hold of the server's end, but for its tiles
pub record HoldsSeen (script : Script) (held : Held) (server : Server) : Type 0 where
  pub drawn : AllByRecursion IsDrawn script.pictures
  pub same : held.pictures ≡ sides_of_all script.pictures
  pub surfaces : HoldsSurfaces held.sides held.cells server.state.shown.surfaces
  pub bitmaps : HoldsBitmaps held.stock server.plan server.state.cache
  pub rings : AreRings server.state.clear.rings

-- the server's end shows and holds what is wanted, but for its tiles
pub record AgreeSeen (server : Server) (wanted : Wanted) : Type 0 where
  pub shown : server.state.shown ≡ wanted.shown
  pub slots : server.state.cache.slots ≡ wanted.slots
  pub plan : server.plan ≡ wanted.plan

pub seen : (script : Script) (held : Held) (server : Server) → Holds script held server → HoldsSeen script held server
seen script held server holds = record { drawn = holds.drawn; same = holds.same; surfaces = holds.surfaces; bitmaps = holds.bitmaps; rings = holds.rings }

pub agree-seen : (server : Server) (wanted : Wanted) → Agree server wanted → AgreeSeen server wanted
agree-seen server wanted agree = record { shown = agree.shown; slots = agree.slots; plan = agree.plan }

-- what a step that isn't painted in passes leaves of surfaces and records
abbrev pub KeepsTiles : Step → State → State → Type 0
KeepsTiles (Delete id) old next = (next.shown.surfaces ≡ remove old.shown.surfaces id) × (next.records ≡ records_but old.records id)
KeepsTiles (Surface id width height format) old next =
    (get old.shown.surfaces id ≡ None) × (next.shown.surfaces ≡ insert old.shown.surfaces id (blank width height format)) × (next.records ≡ old.records)
KeepsTiles step old next = ((id : ℕ) → option_map sides_of (get next.shown.surfaces id) ≡ option_map sides_of (get old.shown.surfaces id)) × (next.records ≡ old.records)
