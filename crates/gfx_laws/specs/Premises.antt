-- What the laws on what is seen take of surfaces and of paints is so in every accepted script: this project's own promise.
use Rattle.std.specs.Prelude.{◌≡◌, true, ℕ, List, ◌∷◌, ◌++◌, Option, Some}
use Rattle.std.specs.FinMap.{get}
use Rattle.std.specs.List.{slice_get}
use Rattle.gfx_base.specs.declared.geometry.Point.{Point}
use Rattle.gfx_base.specs.Geometry.{lies_in}
use Rattle.gfx_bitmap_cache.specs.Slots.{Entry}
use Rattle.gfx_schedule.specs.Starts.{MayImport, Start, from_kept, from_nothing}
use Rattle.gfx_script.specs.declared.picture.Picture.{Picture as Source}
use Rattle.gfx_script.specs.declared.step.Kind.{Kind}
use Rattle.gfx_script.specs.declared.step.Step.TheVariants.{Paint}
use Rattle.gfx_script.specs.Kinds.{Fits, KindedStep, as_kind}
use Rattle.gfx_script.specs.Script.{IsAccepted}
use Rattle.gfx_script.specs.Scripted.{Script}
use Rattle.gfx_script.specs.Writes.{place_of}
use Rattle.gfx_surface.specs.Picture.{Picture}
use Rattle.gfx_planner.specs.Wanted.{Wanted}
use Rattle.gfx_planner.specs.Want.{want_from}
use Rattle.gfx_laws.specs.Seen.{ArePictures, MayGo}

-- the surfaces that are wanted after each front of a script are pictures
abbrev pub WantedSurfacesArePictures : Type 0
WantedSurfacesArePictures =
    (start : Start) (script : Script) (front rest : List KindedStep) → MayGo start script (front ++ rest)
    → ArePictures (want_from script start.wanted front).shown.surfaces

-- a picture that is painted is there, goes as a kind, and lies on its surface, which is there
pub record LiesOnSurface (script : Script) (wanted : Wanted) (kind : Option Kind) (id number : ℕ) (at : Point) : Type 0 where
  pub source : Source
  pub drawn : slice_get script.pictures number ≡ Some source
  pub named : Kind
  pub goes : kind ≡ Some named
  pub surface : Picture
  pub there : get wanted.shown.surfaces id ≡ Some surface
  pub inside : lies_in surface.width surface.height (place_of source at) ≡ true

-- so with each paint of a script
abbrev pub PaintsLieOnTheirSurface : Type 0
PaintsLieOnTheirSurface =
    (start : Start) (script : Script) (front rest : List KindedStep) (kind named : Option Kind) (id number : ℕ) (at : Point) (glyph : Option ℕ)
    → MayGo start script (front ++ (as_kind kind (Paint id number at named glyph) ∷ rest))
    → LiesOnSurface script (want_from script start.wanted front) kind id number at

-- an accepted script may go from nothing
abbrev pub MayGoFromNothing : Type 0
MayGoFromNothing = (script : Script) (kinded : List KindedStep) → IsAccepted script → Fits kinded script.steps → MayGo (from_nothing script) script kinded

-- and from bitmaps that both ends kept
abbrev pub MayGoFromKept : Type 0
MayGoFromKept =
    (script : Script) (server client : List Entry) (kinded : List KindedStep) → MayImport script server client → Fits kinded script.steps
    → MayGo (from_kept script server client) script kinded
