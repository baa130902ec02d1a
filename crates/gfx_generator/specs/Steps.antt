-- The steps that are drawn, on a surface of 256 by 192 pixels: this project's own rule.
use Rattle.std.specs.Prelude.{ℕ, ◌+◌, ◌-◌, ◌==◌, if◌then◌else◌, List, [], ◌∷◌}
use Rattle.std.specs.List.{slice_index_or}
use Rattle.gfx_generator.specs.Draws.{Draw, gives, ◌>>=◌, draw, several}
use Rattle.gfx_generator.specs.declared.kind.Kind.{Kind}
use Rattle.gfx_generator.specs.declared.kind.Kind.TheVariants.{Raw, Residual, Bands, Palette, Plain, Progressive, Auto}
use Rattle.gfx_generator.specs.declared.picture.Picture.{Picture}
use Rattle.gfx_generator.specs.declared.picture.Picture.TheVariants.{Text, Noise, Ramp}
use Rattle.gfx_generator.specs.declared.step.Step.{Step}
use Rattle.gfx_generator.specs.declared.step.Step.TheVariants.{Fill, Paint, Copy, Improve}

-- the kind with a number
abbrev pub kind_at : ℕ → Kind
kind_at number = slice_index_or (Raw ∷ Residual ∷ Bands ∷ Palette ∷ Plain ∷ Progressive ∷ Auto ∷ []) number Auto

-- the picture with a number
abbrev pub picture_at : ℕ → Picture
picture_at number = slice_index_or (Text ∷ Noise ∷ Ramp ∷ []) number Ramp

-- its sides
abbrev pub width_of : Picture → ℕ
width_of Text = 96
width_of Noise = 64
width_of Ramp = 128

abbrev pub height_of : Picture → ℕ
height_of Text = 80
height_of Noise = 64
height_of Ramp = 100

-- a fill: a rectangle, which lies on the surface and may be empty, and its colour
unfoldable pub fill : Draw Step
fill = do
  left ← draw 256
  top ← draw 192
  width ← draw (257 - left)
  height ← draw (193 - top)
  b ← draw 256
  g ← draw 256
  r ← draw 256
  gives (Fill (record { b = b; g = g; r = r }) (record { left = left; top = top; right = left + width; bottom = top + height }))

-- a paint: a picture, its kind, and a point where it lies on the surface
unfoldable pub paint : Draw Step
paint = do
  picture ← draw 3
  kind ← draw 7
  x ← draw (257 - width_of (picture_at picture))
  y ← draw (193 - height_of (picture_at picture))
  gives (Paint (picture_at picture) (record { x = x; y = y }) (kind_at kind))

-- a copy of a square of 64 by 64 pixels: a point where it lies on the surface
unfoldable pub copy : Draw Step
copy = do
  x ← draw 193
  y ← draw 129
  gives (Copy (record { x = x; y = y }))

-- the step with a number
abbrev pub numbered : ℕ → Draw Step
numbered number =
    if number == 0 then fill
    else if number == 1 then paint
    else if number == 2 then copy
    else gives Improve

-- a step
unfoldable pub step : Draw Step
step = do
  number ← draw 4
  numbered number

-- the steps of a frame
abbrev pub frame : Draw (List Step)
frame = several 3 step
