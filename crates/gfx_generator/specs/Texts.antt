-- The texts of steps and of frames: this project's own rule.
use Rattle.std.specs.Prelude.{ℕ, List, [], ◌∷◌, ◌++◌, codes, decimal}
use Rattle.std.specs.List.{flat_map}
use Rattle.hex.specs.Hex.{encode_lower}
use Rattle.gfx_base.specs.declared.geometry.Point.{Point}
use Rattle.gfx_base.specs.declared.geometry.Rect.{Rect}
use Rattle.gfx_base.specs.declared.pixel.Rgb.{Rgb}
use Rattle.gfx_generator.specs.declared.kind.Kind.{Kind}
use Rattle.gfx_generator.specs.declared.kind.Kind.TheVariants.{Raw, Residual, Bands, Palette, Plain, Progressive, Auto}
use Rattle.gfx_generator.specs.declared.picture.Picture.{Picture}
use Rattle.gfx_generator.specs.declared.picture.Picture.TheVariants.{Text, Noise, Ramp}
use Rattle.gfx_generator.specs.declared.step.Step.{Step}
use Rattle.gfx_generator.specs.declared.step.Step.TheVariants.{Fill, Paint, Copy, Improve}

-- the name of a kind
abbrev pub kind_name : Kind → List ℕ
kind_name Raw = codes "raw"
kind_name Residual = codes "residual"
kind_name Bands = codes "bands"
kind_name Palette = codes "palette"
kind_name Plain = codes "plain"
kind_name Progressive = codes "progressive"
kind_name Auto = codes "auto"

-- the name of a picture
abbrev pub picture_name : Picture → List ℕ
picture_name Text = codes "a"
picture_name Noise = codes "b"
picture_name Ramp = codes "c"

-- a colour as six lower-case hexadecimal digits: blue, green, red
abbrev pub colour_text : Rgb → List ℕ
colour_text colour = encode_lower (colour.b ∷ colour.g ∷ colour.r ∷ [])

-- the sides of a rectangle, as in `0, 0, 64, 64`
abbrev pub rect_text : Rect → List ℕ
rect_text rect =
    decimal rect.left ++ (codes ", " ++ (decimal rect.top ++ (codes ", " ++ (decimal rect.right ++ (codes ", " ++ decimal rect.bottom)))))

-- a point, as in `3, 4`
abbrev pub point_text : Point → List ℕ
point_text point = decimal point.x ++ (codes ", " ++ decimal point.y)

-- a fill, as in `{ do = "fill", id = 1, colour = "985662ff", rects = [[136, 22, 230, 85]] },`
unfoldable pub fill_text : Rgb → Rect → List ℕ
fill_text colour rect =
    codes "{ do = \"fill\", id = 1, colour = \"" ++ (colour_text colour ++ (codes "ff\", rects = [[" ++ (rect_text rect ++ codes "]] },\n")))

-- a paint, as in `{ do = "paint", id = 1, picture = "c", at = [71, 6], kind = "bands" },`
unfoldable pub paint_text : Picture → Point → Kind → List ℕ
paint_text picture at kind =
    codes "{ do = \"paint\", id = 1, picture = \"" ++ (picture_name picture ++ (codes "\", at = [" ++ (point_text at
    ++ (codes "], kind = \"" ++ (kind_name kind ++ codes "\" },\n")))))

-- a copy, as in `{ do = "copy", from = 1, to = 1, rect = [0, 0, 64, 64], points = [[152, 128]] },`
unfoldable pub copy_text : Point → List ℕ
copy_text to =
    codes "{ do = \"copy\", from = 1, to = 1, rect = [0, 0, 64, 64], points = [[" ++ (point_text to ++ codes "]] },\n")

-- an improvement
unfoldable pub improve_text : List ℕ
improve_text = codes "{ do = \"improve\", id = 1 },\n"

-- a step, in a line
unfoldable pub step_text : Step → List ℕ
step_text (Fill colour rect) = fill_text colour rect
step_text (Paint picture at kind) = paint_text picture at kind
step_text (Copy to) = copy_text to
step_text Improve = improve_text

-- a frame: its steps, and the line that shows them
unfoldable pub frame_text : List Step → List ℕ
frame_text steps = flat_map step_text steps ++ codes "{ do = \"frame\" },\n"
