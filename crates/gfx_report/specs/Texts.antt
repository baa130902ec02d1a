-- The texts that report what surfaces show, which frames were acknowledged, and what a trial came to, as lists of
-- bytes. They are this project's own rule.
use Rattle.std.specs.Prelude.{ℕ, List, [], ◌∷◌, ◌++◌, codes, decimal}
use Rattle.std.specs.List.{flat_map, range_with_len}
use Rattle.std.specs.FinMap as finmap
use Rattle.gfx_base.specs.declared.format.Format.{Format}
use Rattle.gfx_base.specs.declared.format.Format.TheVariants.{Xrgb, Argb}
use Rattle.gfx_base.specs.declared.pixel.Pixel.{Pixel}
use Rattle.gfx_surface.specs.Picture.{Picture, row_of}
use Rattle.gfx_surface_map.specs.Surfaces.{Surfaces}
use Rattle.gfx_surface_map.specs.Shown.{Shown}
use Rattle.gfx_surface_map.specs.Composed.{output_row}
use Rattle.hex.specs.Hex.{encode_lower}

-- what ends a line
abbrev pub newline : List ℕ
newline = codes "\n"

-- the name of a format
abbrev pub format_name : Format → List ℕ
format_name Xrgb = codes "xrgb"
format_name Argb = codes "argb"

-- a pixel as eight lower-case hexadecimal digits: blue, green, red, alpha
abbrev pub pixel_digits : Pixel → List ℕ
pixel_digits pixel = encode_lower (pixel.b ∷ pixel.g ∷ pixel.r ∷ pixel.a ∷ [])

-- two sides, as in `1024x768`
abbrev pub sides_text : ℕ → ℕ → List ℕ
sides_text width height = decimal width ++ (codes "x" ++ decimal height)

-- the line above a surface's rows, as in `surface 1 1024x768 xrgb`
unfoldable pub surface_line : ℕ → Picture → List ℕ
surface_line id picture =
    codes "surface " ++ (decimal id ++ (codes " " ++ (sides_text picture.width picture.height ++ (codes " " ++ (format_name picture.format ++ newline)))))

-- a row: the digits of its pixels from the left
unfoldable pub row_line : List Pixel → List ℕ
row_line pixels = flat_map pixel_digits pixels ++ newline

-- as many rows, from the top, of what has these pixels in each row
unfoldable pub rows_text : (ℕ → List Pixel) → ℕ → List ℕ
rows_text row height = flat_map (λ y. row_line (row y)) (range_with_len 0 height)

-- a surface: its line, and its rows
unfoldable pub surface_text : ℕ → Picture → List ℕ
surface_text id picture = surface_line id picture ++ rows_text (row_of picture) picture.height

-- the dump of all surfaces, by ascending id
unfoldable pub dump_text : Surfaces → List ℕ
dump_text surfaces = flat_map (λ entry. surface_text entry.0 entry.1) (finmap.entries surfaces)

-- the line above the output's rows, as in `output 1024x768`
unfoldable pub output_line : ℕ → ℕ → List ℕ
output_line width height = codes "output " ++ (sides_text width height ++ newline)

-- the digests of the client's and the server's state, as in ` client <64 digits> server <64 digits>`
abbrev pub digests_text : List ℕ → List ℕ → List ℕ
digests_text client server = codes " client " ++ (encode_lower client ++ (codes " server " ++ (encode_lower server ++ newline)))

-- the line of an acknowledged frame: its id, its recorded step, and the digests of the client's and the
-- server's state right after it, as in `ack 1 step 2 client <64 digits> server <64 digits>`
unfoldable pub ack_line : ℕ → ℕ → List ℕ → List ℕ → List ℕ
ack_line frame step client server =
    codes "ack " ++ (decimal frame ++ (codes " step " ++ (decimal step ++ digests_text client server)))

-- what a trial came to, as in `trial 1 acks 7 step 402`
abbrev pub trial_text : ℕ → ℕ → ℕ → List ℕ
trial_text number count step = codes "trial " ++ (decimal number ++ (codes " acks " ++ (decimal count ++ (codes " step " ++ decimal step))))

-- the line of a trial: its number, how many frames were acknowledged, the last recorded step, and the digests
-- of the client's and the server's state right after it, as in
-- `trial 1 acks 7 step 402 client <64 digits> server <64 digits>`
unfoldable pub trial_line : ℕ → ℕ → ℕ → List ℕ → List ℕ → List ℕ
trial_line number count step client server = trial_text number count step ++ digests_text client server

-- the dump of the output: its line, and its rows
unfoldable pub output_text : Shown → List ℕ
output_text shown = output_line shown.output.width shown.output.height ++ rows_text (output_row shown) shown.output.height
