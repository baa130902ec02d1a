-- The rectangles that are kept of a surface: this project's own rule.
use Rattle.std.specs.Prelude.{◌≡◌, ℕ, ◌+◌, ◌≤◌, min, max, nat_lt, Bool, IsTrue, List, [], ◌∷◌, ◌++◌, length, if◌then◌else◌}
use Rattle.std.specs.List.{fold, list_any}
use Rattle.gfx_base.specs.Geometry.{holds}
use Rattle.gfx_base.specs.declared.geometry.Rect.{Rect}
use Rattle.gfx_damage.specs.declared.adding.TheConstants.{MOST_RECTS}

-- the least rectangle that has both
abbrev pub joined : Rect → Rect → Rect
joined one other = record {
  left = min one.left other.left;
  top = min one.top other.top;
  right = max one.right other.right;
  bottom = max one.bottom other.bottom;
}

-- one rectangle more: where there are as many as are kept, one takes the place of all
unfoldable pub with_rect : List Rect → Rect → List Rect
with_rect rects rect = if nat_lt (length rects) MOST_RECTS then rects ++ rect ∷ [] else fold joined rect rects ∷ []

-- these rectangles more, one after another
abbrev pub with_rects : List Rect → List Rect → List Rect
with_rects rects more = fold with_rect rects more

-- one of these has the pixel at column x of row y
abbrev pub is_marked : List Rect → ℕ → ℕ → Bool
is_marked rects x y = list_any (λ rect. holds rect x y) rects

-- what is kept of these rectangles and of some more: few; all of them, where they are few; and else no pixel of theirs
-- is left out
pub record Keeps (rects more : List Rect) : Type 0 where
  pub few : length rects ≤ MOST_RECTS → length (with_rects rects more) ≤ MOST_RECTS
  pub exact : length rects + length more ≤ MOST_RECTS → with_rects rects more ≡ rects ++ more
  pub covers : (x y : ℕ) → IsTrue (is_marked (rects ++ more) x y) → IsTrue (is_marked (with_rects rects more) x y)
