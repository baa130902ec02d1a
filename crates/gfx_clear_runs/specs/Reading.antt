-- A part of runs as a whole: its elements one after another, its area, and what is refused.
use Rattle.std.specs.Prelude.{ℕ, ◌-◌, ◌+◌, ◌*◌, ◌==◌, zero, suc, nat_lt, List, [], ◌∷◌, ◌++◌, length, drop, Option, Some, None, Result, Ok, Err, if◌then◌else◌}
use Rattle.gfx_base.specs.declared.pixel.Rgb.{Rgb}
use Rattle.gfx_base.specs.declared.refusal.Refusal.{Refusal}
use Rattle.gfx_base.specs.declared.refusal.Refusal.TheVariants.{ClearLengths, PaletteRange, RunTotal}
use Rattle.gfx_clear_runs.specs.Elements.{Element, pixels_in, area_in, run_at, segment_at, entries}
use Rattle.gfx_clear_runs.specs.declared.palette.TheConstants.{PALETTE_MOST}

-- the elements up to the first that is refused, and why that is
pub record Part : Type 0 where
  pub elements : List Element
  pub refusal : Option Refusal

-- nothing is refused, and nothing there
abbrev pub ended : Part
ended = record { elements = []; refusal = None }

-- nothing, for this reason
abbrev pub refused : Refusal → Part
refused reason = record { elements = []; refusal = Some reason }

-- a part with an element before it
abbrev pub behind : Element → Part → Part
behind element part = record { elements = element ∷ part.elements; refusal = part.refusal }

-- how many bytes an element has
unfoldable pub size_in : Result Element Refusal → ℕ
size_in (Ok element) = element.size
size_in (Err reason) = 0

-- an element, if there is one, before a part
unfoldable pub begun : Result Element Refusal → Part → Part
begun (Ok element) part = behind element part
begun (Err reason) part = refused reason

-- the elements of the bytes behind so many that belong to the element before them
unfoldable pub part_after : (List ℕ → Result Element Refusal) → ℕ → List ℕ → Part
part_after at skipped [] = ended
part_after at (suc skipped) (byte ∷ bytes) = part_after at skipped bytes
part_after at zero (byte ∷ bytes) =
    begun (at (byte ∷ bytes)) (part_after at (size_in (at (byte ∷ bytes)) - 1) bytes)

-- the elements of bytes, each read by the same rule
abbrev pub part_of : (List ℕ → Result Element Refusal) → List ℕ → Part
part_of at bytes = part_after at 0 bytes

-- the pixels of elements, one element after another
unfoldable pub pixels_of : List Element → List Rgb
pixels_of [] = []
pixels_of (element ∷ elements) = pixels_in element ++ pixels_of elements

-- how many pixels elements have; there may be more than 2^32
unfoldable pub total_of : List Element → ℕ
total_of [] = 0
total_of (element ∷ elements) = area_in element + total_of elements

-- what elements give for an area: their pixels, if they cover it exactly
unfoldable pub covering : ℕ → List Element → Option Refusal → Result (List Rgb) Refusal
covering area elements (Some reason) = Err reason
covering area elements None = if total_of elements == area then Ok (pixels_of elements) else Err RunTotal

-- what a part gives for an area: a reason to refuse one of its elements comes before that of its total
abbrev pub covered : ℕ → Part → Result (List Rgb) Refusal
covered area part = covering area part.elements part.refusal

-- the runs of a residual layer
abbrev pub runs_of : List ℕ → Part
runs_of = part_of run_at

-- the segments behind a palette of so many colours
unfoldable pub segments_behind : ℕ → List ℕ → Part
segments_behind colours bytes =
    if nat_lt (length bytes) (3 * colours) then refused ClearLengths
    else part_of (segment_at (entries colours bytes)) (drop (3 * colours) bytes)

-- the segments of the RLEX subcodec, behind its palette
unfoldable pub rlex_of : List ℕ → Part
rlex_of [] = refused ClearLengths
rlex_of (colours ∷ bytes) =
    if colours == 0 then refused PaletteRange
    else if nat_lt PALETTE_MOST colours then refused PaletteRange
    else segments_behind colours bytes
