-- The steps of a script, and what holds of every script that is accepted: this project's own rule.
use Rattle.std.specs.Prelude.{◌≡◌, ℕ, ◌-◌, ◌≤◌, ◌<◌, ◌^◌, ◌==◌, Bool, true, false, ◌&&◌, nat_le, nat_lt, IsTrue, if◌then◌else◌, List, [], ◌∷◌, filter, length, Option, Some, None, Ok, IfSome}
use Rattle.std.specs.List.{AllByRecursion, list_all, slice_get}
use Rattle.gfx_base.specs.declared.geometry.Point.{Point}
use Rattle.gfx_base.specs.declared.geometry.Rect.{Rect}
use Rattle.gfx_base.specs.declared.pixel.Pixel.{Pixel}
use Rattle.gfx_caps.specs.Offers.{IsOffer, small_of, thin_of}
use Rattle.gfx_base.specs.Geometry.{IsPixel, IsPoint, IsRect}
use Rattle.gfx_quant.specs.Setting.{IsSetting}
use Rattle.gfx_surface.specs.declared.TheConstants.{MOST_SIDE}
use Rattle.gfx_surface_map.specs.declared.place.TheConstants.{MOST_OUTPUT_SIDE}
use Rattle.gfx_script.specs.declared.TheConstants.{MOST_STEPS, MOST_RECTS, MOST_KEY, MOST_GLYPH, MOST_VERSIONS, MOST_WINDOW, MOST_TURNS}
use Rattle.gfx_script.specs.declared.step.Step.{Step}
use Rattle.gfx_script.specs.declared.step.Step.TheVariants.{Surface, Delete, Reset, Map, Fill, Copy, Keep, Show, Forget, Paint, Improve, Frame}
use Rattle.gfx_script.specs.declared.turn.Turn.{Turn}
use Rattle.gfx_script.specs.declared.turn.Turn.TheVariants.{Server, Client, Answer}
use Rattle.gfx_script.specs.Checks.{Held, held_first, held_from, sides_of_all, held_through}
use Rattle.gfx_script.specs.Starting.{IsStart, stock_with}
use Rattle.gfx_script.specs.Pictures.{IsDrawn}
use Rattle.gfx_script.specs.Scripted.{Script}

-- the step is a frame
abbrev pub is_frame : Step → Bool
is_frame Frame = true
is_frame step = false

-- the step paints a picture
abbrev pub is_paint : Step → Bool
is_paint (Paint id picture at named glyph) = true
is_paint step = false

-- how many steps are frames
abbrev pub frames_in : List Step → ℕ
frames_in steps = length (filter is_frame steps)

-- the last step, where there is one, is a frame
abbrev pub is_framed : List Step → Bool
is_framed [] = true
is_framed (step ∷ []) = is_frame step
is_framed (step ∷ next ∷ steps) = is_framed (next ∷ steps)

-- the step of a number, counted from 1
abbrev pub step_at : List Step → ℕ → Option Step
step_at steps number = if number == 0 then None else slice_get steps (number - 1)

-- the numbers of a step are within their ranges
abbrev pub IsStep : Step → Type 0
IsStep (Surface id width height format) =
    (id < 2 ^ 16) × (1 ≤ width) × (width ≤ MOST_SIDE) × (1 ≤ height) × (height ≤ MOST_SIDE)
IsStep (Delete id) = id < 2 ^ 16
IsStep (Reset width height) = (1 ≤ width) × (width ≤ MOST_OUTPUT_SIDE) × (1 ≤ height) × (height ≤ MOST_OUTPUT_SIDE)
IsStep (Map id x y) = (id < 2 ^ 16) × (x ≤ MOST_OUTPUT_SIDE) × (y ≤ MOST_OUTPUT_SIDE)
IsStep (Fill id colour rects) =
    (id < 2 ^ 16) × IsPixel colour × (1 ≤ length rects) × (length rects ≤ MOST_RECTS) × AllByRecursion IsRect rects
IsStep (Copy from to rect points) =
    (from < 2 ^ 16) × (to < 2 ^ 16) × IsRect rect × (1 ≤ length points) × (length points ≤ MOST_RECTS) × AllByRecursion IsPoint points
IsStep (Keep id key rect) = (id < 2 ^ 16) × (key ≤ MOST_KEY) × IsRect rect
IsStep (Show key to points) =
    (key ≤ MOST_KEY) × (to < 2 ^ 16) × (1 ≤ length points) × (length points ≤ MOST_RECTS) × AllByRecursion IsPoint points
IsStep (Forget key) = key ≤ MOST_KEY
IsStep (Paint id picture at named glyph) = (id < 2 ^ 16) × IsPoint at × IfSome glyph (λ index. index ≤ MOST_GLYPH)
IsStep (Improve id) = id < 2 ^ 16
IsStep Frame = Unit {0}

-- ---- the same by tests

abbrev pub is_byte : ℕ → Bool
is_byte n = nat_lt n (2 ^ 8)

abbrev pub is_word : ℕ → Bool
is_word n = nat_lt n (2 ^ 16)

abbrev pub is_pixel : Pixel → Bool
is_pixel pixel = is_byte pixel.b && (is_byte pixel.g && (is_byte pixel.r && is_byte pixel.a))

abbrev pub is_point : Point → Bool
is_point point = is_word point.x && is_word point.y

abbrev pub is_rect : Rect → Bool
is_rect rect = is_word rect.left && (is_word rect.top && (is_word rect.right && is_word rect.bottom))

-- a number from 1 to the most
abbrev pub is_from_one : ℕ → ℕ → Bool
is_from_one most n = nat_le 1 n && nat_le n most

-- some, and not too many, each of which passes a test
abbrev pub are_some : {X : Type 0} → (X → Bool) → List X → Bool
are_some test xs = is_from_one MOST_RECTS (length xs) && list_all test xs

-- the index of a glyph, where there is one
abbrev pub is_index : Option ℕ → Bool
is_index None = true
is_index (Some index) = nat_le index MOST_GLYPH

-- the numbers of a step are within their ranges
unfoldable pub is_step : Step → Bool
is_step (Surface id width height format) = is_word id && (is_from_one MOST_SIDE width && is_from_one MOST_SIDE height)
is_step (Delete id) = is_word id
is_step (Reset width height) = is_from_one MOST_OUTPUT_SIDE width && is_from_one MOST_OUTPUT_SIDE height
is_step (Map id x y) = is_word id && (nat_le x MOST_OUTPUT_SIDE && nat_le y MOST_OUTPUT_SIDE)
is_step (Fill id colour rects) = is_word id && (is_pixel colour && are_some is_rect rects)
is_step (Copy from to rect points) = is_word from && (is_word to && (is_rect rect && are_some is_point points))
is_step (Keep id key rect) = is_word id && (nat_le key MOST_KEY && is_rect rect)
is_step (Show key to points) = nat_le key MOST_KEY && (is_word to && are_some is_point points)
is_step (Forget key) = nat_le key MOST_KEY
is_step (Paint id picture at named glyph) = is_word id && (is_point at && is_index glyph)
is_step (Improve id) = is_word id
is_step Frame = true

-- ---- turns

-- the number of a turn, where it has one, is within its range
abbrev pub IsTurn : Turn → Type 0
IsTurn Server = Unit {0}
IsTurn (Client most) = (1 ≤ most) × (most < 2 ^ 32)
IsTurn (Answer most) = (1 ≤ most) × (most < 2 ^ 32)

abbrev pub is_turn : Turn → Bool
is_turn Server = true
is_turn (Client most) = nat_le 1 most && nat_lt most (2 ^ 32)
is_turn (Answer most) = nat_le 1 most && nat_lt most (2 ^ 32)

-- ---- scripts

-- what holds of every script that is read or built, whose first step is checked against this
pub record IsAcceptedFrom (start : Held) (script : Script) : Type 0 where
  pub window_from : 1 ≤ script.window
  pub window_most : script.window ≤ MOST_WINDOW
  pub some_offers : 1 ≤ length script.offers
  pub few_offers : length script.offers ≤ MOST_VERSIONS
  pub offers : AllByRecursion IsOffer script.offers
  pub setting : IsSetting script.setting
  -- whose small limits bind the version that a server chooses
  pub small : script.small ≡ small_of script.offers
  -- which is that of a thin client
  pub thin : script.thin ≡ thin_of script.offers
  pub few_pictures : length script.pictures ≤ MOST_STEPS
  pub pictures : AllByRecursion IsDrawn script.pictures
  pub few : length script.steps ≤ MOST_STEPS
  pub numbers : AllByRecursion IsStep script.steps
  pub held : Held
  pub checked : held_through start script.steps ≡ Ok held
  pub framed : IsTrue (is_framed script.steps)
  pub few_turns : length script.turns ≤ MOST_TURNS
  pub turns : AllByRecursion IsTurn script.turns

-- what the first step of a script is checked against: its pictures, and the bitmaps that it starts with
abbrev pub held_at_start : Script → Held
held_at_start script = held_from (sides_of_all script.pictures) (stock_with script.start script.small)

-- the same of a script with the bitmaps that it starts with
pub record IsAcceptedAtStart (script : Script) : Type 0 where
  pub start : IsStart script.start script.small
  pub accepted : IsAcceptedFrom (held_at_start script) script

-- the same of a script that starts with nothing
abbrev pub IsAccepted : Script → Type 0
IsAccepted script = IsAcceptedFrom (held_first (sides_of_all script.pictures) script.small) script
