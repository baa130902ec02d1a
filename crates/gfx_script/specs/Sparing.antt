-- What a script forgets of pictures that are painted by no step which has still to be sent: their pixels. Their sides stay, so
-- that which step covers which stays too. This project's own rule.
use Rattle.std.specs.Prelude.{◌≡◌, ℕ, ◌+◌, ◌-◌, Bool, true, false, nat_lt, List, [], ◌∷◌, length, replicate, if◌then◌else◌, Option, Some, None, unwrap_or}
use Rattle.std.specs.List.{slice_get, slice_set}
use Rattle.gfx_script.specs.declared.picture.Pattern.{Pattern}
use Rattle.gfx_script.specs.declared.picture.Pattern.TheVariants.{Solid, Ramp, Noise, Text, Desktop, Hex}
use Rattle.gfx_script.specs.declared.picture.Picture.{Picture}
use Rattle.gfx_script.specs.Forgetting.{black}
use Rattle.gfx_script.specs.Scripted.{Script}

-- ---- marks

-- which pictures keep their pixels: the first so many, and of those behind them each that is marked
pub record Marks : Type 0 where
  pub first : ℕ
  pub kept : List Bool

-- none of a script's pictures is marked
abbrev pub IsUnmarked : Script → Marks → Type 0
IsUnmarked script marks = (marks.first + length marks.kept ≡ length script.pictures) × (marks.kept ≡ replicate (length marks.kept) false)

-- the picture of this number, counted from 0, is marked
abbrev pub marked : Marks → ℕ → Marks
marked marks number = if nat_lt number marks.first then marks else record marks { kept = slice_set marks.kept (number - marks.first) true }

-- it keeps its pixels; so does one that has no mark
abbrev pub keeps : Marks → ℕ → Bool
keeps marks number = if nat_lt number marks.first then true else unwrap_or (slice_get marks.kept (number - marks.first)) true

-- ---- pixels

-- what stands for a pattern that is forgotten; one that lists no pixels takes no memory, and stays
abbrev pub unlisted : Pattern → Pattern
unlisted (Solid colour) = Solid colour
unlisted Ramp = Ramp
unlisted (Noise seed) = Noise seed
unlisted Text = Text
unlisted Desktop = Desktop
unlisted (Hex pixels) = Solid black

-- a picture whose pixels are forgotten
abbrev pub without_pixels : Picture → Picture
without_pixels picture = record picture { pattern = unlisted picture.pattern }

-- the picture at a place forgets its pixels, if there is one
abbrev pub forgotten_there : List Picture → ℕ → Option Picture → List Picture
forgotten_there pictures place None = pictures
forgotten_there pictures place (Some picture) = slice_set pictures place (without_pixels picture)

abbrev pub forgotten_at : List Picture → ℕ → List Picture
forgotten_at pictures place = forgotten_there pictures place (slice_get pictures place)

-- pictures from this number on, of which those keep their pixels that the marks say
abbrev pub spared_from : ℕ → Marks → List Picture → List Picture
spared_from number marks [] = []
spared_from number marks (picture ∷ pictures) =
    (if keeps marks number then picture else without_pixels picture) ∷ spared_from (number + 1) marks pictures

-- a script that has forgotten the pixels of all other pictures
abbrev pub spared : Marks → Script → Script
spared marks script = record script { pictures = spared_from 0 marks script.pictures }
