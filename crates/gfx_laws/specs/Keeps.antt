-- What the bitmap of a key is: the rectangle that it was kept of, as that stood ([MS-RDPEGFX] 2.2.2.6). This project's own
-- promise.
use Rattle.std.specs.Prelude.{◌≡◌, ◌+◌, ◌*◌, ◌<◌, ℕ, List, ◌∷◌, ◌++◌, Option, Some}
use Rattle.std.specs.FinMap.{get}
use Rattle.std.specs.List.{AllByRecursion, slice_index_or}
use Rattle.gfx_base.specs.declared.geometry.Rect.{Rect}
use Rattle.gfx_base.specs.Geometry.{height_of, width_of}
use Rattle.gfx_bitmap_cache.specs.Slots.{Entry}
use Rattle.gfx_schedule.specs.Starts.{Start}
use Rattle.gfx_script.specs.declared.step.Kind.{Kind}
use Rattle.gfx_script.specs.declared.step.Step.{Step}
use Rattle.gfx_script.specs.declared.step.Step.TheVariants.{Keep, Forget}
use Rattle.gfx_script.specs.Kinds.{KindedStep, as_kind}
use Rattle.gfx_script.specs.Scripted.{Script}
use Rattle.gfx_surface.specs.Picture.{Picture, no_pixel, pixel_at}
use Rattle.gfx_planner.specs.Want.{want_from}
use Rattle.gfx_laws.specs.Seen.{MayGo}
use Rattle.gfx_laws.specs.Written.{bitmap_of}

-- a step neither keeps a key nor forgets it
abbrev pub LeavesKey : ℕ → Step → Type 0
LeavesKey key (Keep id other rect) = other ≡ key → ⊥
LeavesKey key (Forget other) = other ≡ key → ⊥
LeavesKey key step = Unit {0}

-- a bitmap is a rectangle of a surface, pixel by pixel
pub record IsTakenFrom (surface : Option Picture) (rect : Rect) (kept : Entry) : Type 0 where
  pub picture : Picture
  pub there : surface ≡ Some picture
  pub width : kept.image.width ≡ width_of rect
  pub height : kept.image.height ≡ height_of rect
  pub each : (x y : ℕ) → x < width_of rect → y < height_of rect → slice_index_or kept.image.pixels (y * kept.image.width + x) no_pixel ≡ pixel_at picture (x + rect.left) (y + rect.top)

-- so is the bitmap of a key that was kept, as long as it isn't kept again or forgotten: it may go for others, but it never
-- is another
abbrev pub BitmapsAreAsKept : Type 0
BitmapsAreAsKept =
    (start : Start) (script : Script) (front later rest : List KindedStep) (kind : Option Kind) (id key : ℕ) (rect : Rect) (kept : Entry)
    → MayGo start script (front ++ (as_kind kind (Keep id key rect) ∷ (later ++ rest))) → AllByRecursion (λ (one : KindedStep). LeavesKey key one.step) later
    → bitmap_of (want_from script start.wanted (front ++ (as_kind kind (Keep id key rect) ∷ later))) key ≡ Some kept
    → IsTakenFrom (get (want_from script start.wanted front).shown.surfaces id) rect kept

-- and that of a key that no step keeps or forgets is the one that it had at the start
abbrev pub StartingBitmapsStay : Type 0
StartingBitmapsStay =
    (start : Start) (script : Script) (steps rest : List KindedStep) (key : ℕ) (kept : Entry) → MayGo start script (steps ++ rest)
    → AllByRecursion (λ (one : KindedStep). LeavesKey key one.step) steps → bitmap_of (want_from script start.wanted steps) key ≡ Some kept → bitmap_of start.wanted key ≡ Some kept
