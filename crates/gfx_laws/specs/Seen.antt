-- What is seen of a script, pixel by pixel, from any start: this project's own promise.
use Rattle.std.specs.Prelude.{◌≡◌, ◌<◌, ℕ, List, ◌∷◌, ◌++◌, Some}
use Rattle.std.specs.FinMap.{get}
use Rattle.gfx_base.specs.declared.format.Format.{Format}
use Rattle.gfx_base.specs.declared.pixel.Pixel.{Pixel}
use Rattle.gfx_schedule.specs.Starts.{MayStart, Start}
use Rattle.gfx_script.specs.Kinds.{Fits, KindedStep}
use Rattle.gfx_script.specs.Script.{IsAcceptedFrom}
use Rattle.gfx_script.specs.Scripted.{Script}
use Rattle.gfx_script.specs.Ways.{goes_by}
use Rattle.gfx_surface.specs.Picture.{IsPicture, Picture, pixel_at}
use Rattle.gfx_surface_map.specs.Surfaces.{Surfaces}
use Rattle.gfx_planner.specs.Want.{want_from, wanted_after}
use Rattle.gfx_laws.specs.Written.{AllSpare, HasPixel, IsWritten, ends_it, goes_in_passes, improvements, writes_in}

-- each surface has whole rows of pixels, as its format keeps them, and sides within their limits
abbrev pub ArePictures : Surfaces → Type 0
ArePictures surfaces = (id : ℕ) (picture : Picture) → get surfaces id ≡ Some picture → IsPicture picture

-- a script is accepted from a start that it may have, and its steps go as kinds that they may go as; where there are surfaces
-- at the start, they are pictures
pub record MayGo (start : Start) (script : Script) (kinded : List KindedStep) : Type 0 where
  pub accepted : IsAcceptedFrom start.held script
  pub fits : Fits kinded script.steps
  pub may : MayStart script start
  pub pictures : ArePictures start.wanted.shown.surfaces

-- a surface is there, and has a pixel at column x of row y of which this holds
pub record IsThere (Is : Format → Pixel → Type 0) (surfaces : Surfaces) (id x y : ℕ) : Type 0 where
  pub picture : Picture
  pub there : get surfaces id ≡ Some picture
  pub column : x < picture.width
  pub row : y < picture.height
  pub is : Is picture.format (pixel_at picture x y)

-- each pixel is as a step wrote it, of a step that wrote it and behind which none of these steps has ended that
abbrev pub PixelsAreAsWritten : Start → Script → List KindedStep → Surfaces → Type 0
PixelsAreAsWritten start script steps surfaces =
    (front later : List KindedStep) (one : KindedStep) (id x y : ℕ) → steps ≡ front ++ (one ∷ later)
    → HasPixel (writes_in script (want_from script start.wanted front) one.step) id x y
    → AllSpare (ends_it (goes_in_passes (goes_by script.thin one.kind)) x y) id script (wanted_after script (want_from script start.wanted front) one) later
    → IsThere (λ format pixel. IsWritten script (want_from script start.wanted front) one.kind one.step format (improvements id later) x y pixel) surfaces id x y

-- so it is with what the steps so far want
abbrev pub WantedPixelsAreAsWritten : Type 0
WantedPixelsAreAsWritten =
    (start : Start) (script : Script) (steps rest : List KindedStep) → MayGo start script (steps ++ rest)
    → PixelsAreAsWritten start script steps (want_from script start.wanted steps).shown.surfaces
