-- The tables of the pictures of a script: this project's own rule. All faults of kind Key come before
-- those of kind Range, both before Name, and that before Pixels.
use Rattle.std.specs.Prelude.{ℕ, ℤ, pos, ◌*◌, Bool, nat_le, not, length, if◌then◌else◌, List, [], ◌∷◌, ◌++◌, Result, Ok, Err, codes}
use Rattle.std.specs.List.{list_any, position_or_len}
use Rattle.std.specs.Option.{ok_or}
use Rattle.std.specs.Result.{result_ok}
use Rattle.std.specs.Str.{bytes_eq}
use Rattle.hex.specs.Hex.{decode_sized}
use Rattle.toml.specs.Data.{Data, Members, as_table}
use Rattle.gfx_base.specs.declared.format.Format.TheVariants.{Argb}
use Rattle.gfx_base.specs.declared.pixel.Pixel.{Pixel}
use Rattle.gfx_base.specs.Results.{◌>>=◌, check}
use Rattle.gfx_surface.specs.Picture.{raw_pixels}
use Rattle.gfx_script_text.specs.declared.TheConstants.{MOST_NUMBER}
use Rattle.gfx_script.specs.declared.TheConstants.{MOST_PICTURES, MOST_AREA}
use Rattle.gfx_script.specs.declared.error.ScriptKind.{ScriptKind}
use Rattle.gfx_script.specs.declared.error.ScriptKind.TheVariants.{Key, Range, Name, Pixels}
use Rattle.gfx_script.specs.declared.picture.Pattern.{Pattern}
use Rattle.gfx_script.specs.declared.picture.Pattern.TheVariants as pattern
use Rattle.gfx_script.specs.declared.picture.Picture.{Picture}
use Rattle.gfx_script_text.specs.declared.pictures.PatternWord.{PatternWord}
use Rattle.gfx_script_text.specs.declared.pictures.PatternWord.TheVariants as word
use Rattle.gfx_script_text.specs.Colour.{colour_of}
use Rattle.gfx_script_text.specs.Members.{has_only, whole, text, within}

-- a picture with the name that paints call it by
pub record Named : Type 0 where
  pub name : List ℕ
  pub picture : Picture

-- the pattern that a word names
abbrev pub pattern_named : List ℕ → Result PatternWord ScriptKind
pattern_named name =
    if bytes_eq name (codes "solid") then Ok word.Solid
    else if bytes_eq name (codes "ramp") then Ok word.Ramp
    else if bytes_eq name (codes "noise") then Ok word.Noise
    else if bytes_eq name (codes "text") then Ok word.Text
    else if bytes_eq name (codes "desktop") then Ok word.Desktop
    else if bytes_eq name (codes "hex") then Ok word.Hex
    else Err Key

-- the keys of a picture's table, by its pattern
abbrev pub common_keys : List (List ℕ)
common_keys = codes "name" ∷ codes "width" ∷ codes "height" ∷ codes "pattern" ∷ []

unfoldable pub keys_of : PatternWord → List (List ℕ)
keys_of word.Solid = codes "colour" ∷ common_keys
keys_of word.Noise = codes "seed" ∷ common_keys
keys_of word.Hex = codes "pixels" ∷ common_keys
keys_of word.Ramp = common_keys
keys_of word.Text = common_keys
keys_of word.Desktop = common_keys

-- the seed, where the pattern has one
unfoldable pub seed_in : PatternWord → Members → Result ℤ ScriptKind
seed_in word.Noise table = whole (codes "seed") table
seed_in word.Solid table = Ok (pos 0)
seed_in word.Ramp table = Ok (pos 0)
seed_in word.Text table = Ok (pos 0)
seed_in word.Desktop table = Ok (pos 0)
seed_in word.Hex table = Ok (pos 0)

-- the hexadecimal text, where the pattern has one
unfoldable pub digits_in : PatternWord → Members → Result (List ℕ) ScriptKind
digits_in word.Solid table = text (codes "colour") table
digits_in word.Hex table = text (codes "pixels") table
digits_in word.Ramp table = Ok []
digits_in word.Noise table = Ok []
digits_in word.Text table = Ok []
digits_in word.Desktop table = Ok []

-- pixels as hexadecimal text B, G, R, A, row by row
unfoldable pub pixels_of : ℕ → List ℕ → Result (List Pixel) ScriptKind
pixels_of area digits = do
  bytes ← ok_or (result_ok (decode_sized digits (4 * area))) Pixels
  Ok (raw_pixels Argb bytes)

-- the pattern of a word, so many pixels, a seed and a text
unfoldable pub pattern_of : PatternWord → ℕ → ℕ → List ℕ → Result Pattern ScriptKind
pattern_of word.Solid area seed digits = do
  colour ← colour_of digits
  Ok (pattern.Solid colour)
pattern_of word.Ramp area seed digits = Ok pattern.Ramp
pattern_of word.Noise area seed digits = Ok (pattern.Noise seed)
pattern_of word.Text area seed digits = Ok pattern.Text
pattern_of word.Desktop area seed digits = Ok pattern.Desktop
pattern_of word.Hex area seed digits = do
  pixels ← pixels_of area digits
  Ok (pattern.Hex pixels)

-- a picture before this one has its name
abbrev pub is_named : List (List ℕ) → List ℕ → Bool
is_named names name = list_any (λ one. bytes_eq one name) names

-- the number of the picture of a name, counted from 0; a name that no picture has has the number behind the last
abbrev pub number_of : List (List ℕ) → List ℕ → ℕ
number_of names name = position_or_len (λ one. bytes_eq one name) names

-- the picture of these sides that a table draws, where the pictures of these names stand before it
unfoldable pub picture_sized : List (List ℕ) → List ℕ → PatternWord → ℤ → ℤ → ℤ → List ℕ → Result Named ScriptKind
picture_sized names name word width height seed digits = do
  width ← within 1 MOST_NUMBER width
  height ← within 1 MOST_NUMBER height
  small ← check Range (nat_le (width * height) MOST_AREA)
  seed ← within 0 MOST_NUMBER seed
  fresh ← check Name (not (is_named names name))
  pattern ← pattern_of word (width * height) seed digits
  Ok record { name = name; picture = record { width = width; height = height; pattern = pattern } }

-- the picture that a value is
unfoldable pub picture_of : List (List ℕ) → Data → Result Named ScriptKind
picture_of names value = do
  table ← ok_or (as_table value) Key
  pattern ← text (codes "pattern") table
  word ← pattern_named pattern
  known ← check Key (has_only (keys_of word) table)
  name ← text (codes "name") table
  width ← whole (codes "width") table
  height ← whole (codes "height") table
  seed ← seed_in word table
  digits ← digits_in word table
  picture_sized names name word width height seed digits

-- pictures and, in the same order, the names that paints call them by
pub record Gallery : Type 0 where
  pub names : List (List ℕ)
  pub pictures : List Picture

abbrev pub no_pictures : Gallery
no_pictures = record { names = []; pictures = [] }

-- one more picture, behind the others
abbrev pub with_picture : Gallery → Named → Gallery
with_picture gallery one = record { names = gallery.names ++ one.name ∷ []; pictures = gallery.pictures ++ one.picture ∷ [] }

-- these pictures, and behind them those that these values are
unfoldable pub more_pictures : Gallery → List Data → Result Gallery ScriptKind
more_pictures gallery [] = Ok gallery
more_pictures gallery (value ∷ values) = do
  one ← picture_of gallery.names value
  more_pictures (with_picture gallery one) values

-- the pictures of a script
unfoldable pub pictures_of : List Data → Result Gallery ScriptKind
pictures_of values = do
  few ← check Range (nat_le (length values) MOST_PICTURES)
  more_pictures no_pictures values
