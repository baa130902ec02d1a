-- The tests of numbers tell what they are tests of, and pass wherever it holds: so no good step, picture or turn is refused.
use Rattle.std.proofs.Common.{ℕ, ◌≤◌, ◌<◌, ◌*◌, ◌^◌, ◌&&◌, Bool, List, [], ◌∷◌, length, Option, Some, None, nat_le, nat_lt, Decides, IfSome, refl}
use Rattle.std.specs.List.{AllByRecursion, list_all}
use Rattle.std.proofs.lemmas.Bool.{leb-true, le-leb}
use Rattle.std.proofs.lemmas.Bool.Decides.{Decides-and, Decides-like, Decides-ltb}
use Rattle.gfx_base.specs.declared.geometry.Point.{Point}
use Rattle.gfx_base.specs.declared.geometry.Rect.{Rect}
use Rattle.gfx_base.specs.declared.pixel.Pixel.{Pixel}
use Rattle.gfx_base.specs.Geometry.{IsPixel, IsPoint, IsRect}
use Rattle.gfx_surface.specs.declared.TheConstants.{MOST_SIDE}
use Rattle.gfx_surface_map.specs.declared.place.TheConstants.{MOST_OUTPUT_SIDE}
use Rattle.gfx_script.specs.declared.TheConstants.{MOST_AREA, MOST_GLYPH, MOST_KEY, MOST_RECTS}
use Rattle.gfx_script.specs.declared.picture.Picture.{Picture}
use Rattle.gfx_script.specs.declared.step.Step.{Step}
use Rattle.gfx_script.specs.declared.step.Step.TheVariants.{Surface, Delete, Reset, Map, Fill, Copy, Keep, Show, Forget, Paint, Improve, Frame}
use Rattle.gfx_script.specs.declared.turn.Turn.{Turn}
use Rattle.gfx_script.specs.declared.turn.Turn.TheVariants.{Server, Client, Answer}
use Rattle.gfx_script.specs.Pictures.{IsDrawn, is_drawn}
use Rattle.gfx_script.specs.Script.{IsStep, IsTurn, are_some, is_byte, is_from_one, is_index, is_pixel, is_point, is_rect, is_step, is_turn, is_word}

-- ---- numbers

le : (a b : ℕ) → Decides (nat_le a b) (a ≤ b)
le a b = (leb-true a b, le-leb a b)

word : (n : ℕ) → Decides (is_word n) (n < 2 ^ 16)
word n = Decides-ltb n (2 ^ 16)

byte : (n : ℕ) → Decides (is_byte n) (n < 2 ^ 8)
byte n = Decides-ltb n (2 ^ 8)

from_one : (most n : ℕ) → Decides (is_from_one most n) ((1 ≤ n) × (n ≤ most))
from_one most n = Decides-and (nat_le 1 n) (nat_le n most) (le 1 n) (le n most)

-- ---- colours, points, rectangles

pixel : (p : Pixel) → Decides (is_pixel p) (IsPixel p)
pixel p =
    Decides-like (is_pixel p) (λ h. record { b = h.0; g = h.1.0; r = h.1.1.0; a = h.1.1.1 }) (λ h. (h.b, (h.g, (h.r, h.a))))
    (Decides-and (is_byte p.b) _ (byte p.b) (Decides-and (is_byte p.g) _ (byte p.g) (Decides-and (is_byte p.r) (is_byte p.a) (byte p.r) (byte p.a))))

point : (p : Point) → Decides (is_point p) (IsPoint p)
point p = Decides-like (is_point p) (λ h. record { x = h.0; y = h.1 }) (λ h. (h.x, h.y)) (Decides-and (is_word p.x) (is_word p.y) (word p.x) (word p.y))

rect : (r : Rect) → Decides (is_rect r) (IsRect r)
rect r =
    Decides-like (is_rect r) (λ h. record { left = h.0; top = h.1.0; right = h.1.1.0; bottom = h.1.1.1 }) (λ h. (h.left, (h.top, (h.right, h.bottom))))
    (Decides-and (is_word r.left) _ (word r.left) (Decides-and (is_word r.top) _ (word r.top) (Decides-and (is_word r.right) (is_word r.bottom) (word r.right) (word r.bottom))))

-- ---- lists

-- a test of each of some items
pub all_tested : {X : Type 0} (test : X → Bool) (P : X → Type 0) → ((x : X) → Decides (test x) (P x)) → (xs : List X) → Decides (list_all test xs) (AllByRecursion P xs)
all_tested test P each [] = (λ e. tt, λ h. refl)
all_tested test P each (x ∷ xs) = Decides-and (test x) (list_all test xs) (each x) (all_tested test P each xs)

-- the same of some items, and not too many
some : {X : Type 0} (test : X → Bool) (P : X → Type 0) → ((x : X) → Decides (test x) (P x)) → (xs : List X)
    → Decides (are_some test xs) (((1 ≤ length xs) × (length xs ≤ MOST_RECTS)) × AllByRecursion P xs)
some test P each xs = Decides-and (is_from_one MOST_RECTS (length xs)) (list_all test xs) (from_one MOST_RECTS (length xs)) (all_tested test P each xs)

index : (glyph : Option ℕ) → Decides (is_index glyph) (IfSome glyph (λ n. n ≤ MOST_GLYPH))
index None = (λ e. tt, λ h. refl)
index (Some n) = le n MOST_GLYPH

-- ---- steps

pub step_tested : (step : Step) → Decides (is_step step) (IsStep step)
unfolding is_step
step_tested (Surface id width height format) =
    Decides-like (is_step (Surface id width height format)) (λ h. (h.0, h.1.0.0, h.1.0.1, h.1.1.0, h.1.1.1)) (λ h. (h.0, ((h.1, h.2), (h.3, h.4))))
    (Decides-and (is_word id) _ (word id) (Decides-and (is_from_one MOST_SIDE width) (is_from_one MOST_SIDE height) (from_one MOST_SIDE width) (from_one MOST_SIDE height)))
step_tested (Delete id) = word id
step_tested (Reset width height) =
    Decides-like (is_step (Reset width height)) (λ h. (h.0.0, h.0.1, h.1.0, h.1.1)) (λ h. ((h.0, h.1), (h.2, h.3)))
    (Decides-and (is_from_one MOST_OUTPUT_SIDE width) (is_from_one MOST_OUTPUT_SIDE height) (from_one MOST_OUTPUT_SIDE width) (from_one MOST_OUTPUT_SIDE height))
step_tested (Map id x y) =
    Decides-like (is_step (Map id x y)) (λ h. (h.0, h.1.0, h.1.1)) (λ h. (h.0, (h.1, h.2)))
    (Decides-and (is_word id) _ (word id) (Decides-and (nat_le x MOST_OUTPUT_SIDE) (nat_le y MOST_OUTPUT_SIDE) (le x MOST_OUTPUT_SIDE) (le y MOST_OUTPUT_SIDE)))
step_tested (Fill id colour rects) =
    Decides-like (is_step (Fill id colour rects)) (λ h. (h.0, h.1.0, h.1.1.0.0, h.1.1.0.1, h.1.1.1)) (λ h. (h.0, (h.1, ((h.2, h.3), h.4))))
    (Decides-and (is_word id) _ (word id) (Decides-and (is_pixel colour) (are_some is_rect rects) (pixel colour) (some is_rect IsRect rect rects)))
step_tested (Copy from to area points) =
    Decides-like (is_step (Copy from to area points)) (λ h. (h.0, h.1.0, h.1.1.0, h.1.1.1.0.0, h.1.1.1.0.1, h.1.1.1.1)) (λ h. (h.0, (h.1, (h.2, ((h.3, h.4), h.5)))))
    (Decides-and (is_word from) _ (word from)
    (Decides-and (is_word to) _ (word to) (Decides-and (is_rect area) (are_some is_point points) (rect area) (some is_point IsPoint point points))))
step_tested (Keep id key area) =
    Decides-like (is_step (Keep id key area)) (λ h. (h.0, h.1.0, h.1.1)) (λ h. (h.0, (h.1, h.2)))
    (Decides-and (is_word id) _ (word id) (Decides-and (nat_le key MOST_KEY) (is_rect area) (le key MOST_KEY) (rect area)))
step_tested (Show key to points) =
    Decides-like (is_step (Show key to points)) (λ h. (h.0, h.1.0, h.1.1.0.0, h.1.1.0.1, h.1.1.1)) (λ h. (h.0, (h.1, ((h.2, h.3), h.4))))
    (Decides-and (nat_le key MOST_KEY) _ (le key MOST_KEY) (Decides-and (is_word to) (are_some is_point points) (word to) (some is_point IsPoint point points)))
step_tested (Forget key) = le key MOST_KEY
step_tested (Paint id picture at named glyph) =
    Decides-like (is_step (Paint id picture at named glyph)) (λ h. (h.0, h.1.0, h.1.1)) (λ h. (h.0, (h.1, h.2)))
    (Decides-and (is_word id) _ (word id) (Decides-and (is_point at) (is_index glyph) (point at) (index glyph)))
step_tested (Improve id) = word id
step_tested Frame = (λ e. tt, λ h. refl)

-- ---- pictures

pub picture_tested : (picture : Picture) → Decides (is_drawn picture) (IsDrawn picture)
picture_tested picture =
    Decides-like (is_drawn picture)
    (λ h. record { width_from = h.0.0; width_fits = h.0.1; height_from = h.1.0.0; height_fits = h.1.0.1; area = h.1.1 })
    (λ h. ((h.width_from, h.width_fits), ((h.height_from, h.height_fits), h.area)))
    (Decides-and (nat_le 1 picture.width && is_word picture.width) _ (Decides-and (nat_le 1 picture.width) (is_word picture.width) (le 1 picture.width) (word picture.width))
    (Decides-and (nat_le 1 picture.height && is_word picture.height) (nat_le (picture.width * picture.height) MOST_AREA)
    (Decides-and (nat_le 1 picture.height) (is_word picture.height) (le 1 picture.height) (word picture.height))
    (le (picture.width * picture.height) MOST_AREA)))

-- ---- turns

pub turn_tested : (turn : Turn) → Decides (is_turn turn) (IsTurn turn)
turn_tested Server = (λ e. tt, λ h. refl)
turn_tested (Client most) = Decides-and (nat_le 1 most) (nat_lt most (2 ^ 32)) (le 1 most) (Decides-ltb most (2 ^ 32))
turn_tested (Answer most) = Decides-and (nat_le 1 most) (nat_lt most (2 ^ 32)) (le 1 most) (Decides-ltb most (2 ^ 32))
