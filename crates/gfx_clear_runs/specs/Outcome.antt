-- What a reader of a part did to the pixels that it appends to: this project's own rule.
use Rattle.std.specs.Prelude.{◌≡◌, ℕ, List, ◌++◌, map, Result, Ok, Err}
use Rattle.gfx_base.specs.Colour.{opaque}
use Rattle.gfx_base.specs.declared.pixel.Pixel.{Pixel}
use Rattle.gfx_base.specs.declared.pixel.Rgb.{Rgb}
use Rattle.gfx_base.specs.declared.answer.Cause.{Cause}
use Rattle.gfx_base.specs.declared.answer.Cause.TheVariants.{Refused, Memory}
use Rattle.gfx_base.specs.declared.refusal.Refusal.{Refusal}
use Rattle.gfx_clear_runs.specs.Reading.{Part, covered, pixels_of}

-- some of the first of these pixels were appended, and no other
abbrev pub IsBegun : List Rgb → List Rgb → List Rgb → Type 0
IsBegun due old new = (sent : List Rgb) × (rest : List Rgb) × (due ≡ sent ++ rest) × (new ≡ old ++ sent)

-- all pixels of the part, or the reason that is due and some of them
abbrev pub Appends : Result (Unit {0}) (Cause Refusal) → ℕ → Part → List Rgb → List Rgb → Type 0
Appends (Ok x) area part old new = (covered area part ≡ Ok (pixels_of part.elements)) × (new ≡ old ++ pixels_of part.elements)
Appends (Err Memory) area part old new = IsBegun (pixels_of part.elements) old new
Appends (Err (Refused reason)) area part old new = (covered area part ≡ Err reason) × IsBegun (pixels_of part.elements) old new

-- what a reader of a part did to the pixels of its area: they are the part's, or it is refused for the reason that is due
abbrev pub Paints : Result (Unit {0}) Refusal → ℕ → Part → List Pixel → Type 0
Paints (Ok x) area part new = (covered area part ≡ Ok (pixels_of part.elements)) × (new ≡ map opaque (pixels_of part.elements))
Paints (Err reason) area part new = covered area part ≡ Err reason
