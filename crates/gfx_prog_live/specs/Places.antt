-- Which live tiles an improvement raises, by their places on a surface, as the calls between them hand it on.
use Rattle.std.specs.Prelude.{◌≡◌, ℕ, ◌+◌, ◌*◌, ◌<◌, ◌==◌, Bool, true, ◌&&◌, not, nat_lt, List, length, Option, Some, None, get_or, if◌then◌else◌}
use Rattle.std.specs.List.{All, list_any}
use Rattle.std.specs.List.Sorted.{IsNonDecreasing}
use Rattle.gfx_base.specs.declared.geometry.Cell.{Cell}
use Rattle.gfx_base.specs.Cells.{cell}
use Rattle.gfx_prog_decode.specs.declared.key.Key.{Key}
use Rattle.gfx_prog_live.specs.Live.{Live}
use Rattle.gfx_prog_live.specs.Raising.{is_raised_in}

-- the place of a tile of this key and level among the cells of a surface, which has so many columns and rows of them,
-- unless it lies outside of them or is at the last level, which so many are listed before
abbrev pub place_to_raise : ℕ → ℕ → ℕ → ℕ → Key → ℕ → Option ℕ
place_to_raise listed id columns rows key level =
    if (key.surface == id && nat_lt key.x columns && nat_lt key.y rows) && nat_lt level listed then Some (key.y * columns + key.x) else None

-- a tile of a surface and level isn't at the last level, and its surface isn't among these yet
abbrev pub is_new : ℕ → ℕ → ℕ → List ℕ → Bool
is_new listed surface level ids = nat_lt level listed && not (list_any (λ one. one == surface) ids)

-- these are places in the list of a surface's cells, in order, and among them is each whose cell has a live tile that
-- isn't at the last level
pub record ArePlaces (live : Live) (id : ℕ) (cells : List Cell) (places : List ℕ) : Type 0 where
  pub within : All (λ place. place < length cells) places
  pub rising : IsNonDecreasing places
  pub all : (place : ℕ) → place < length cells → is_raised_in live id (get_or cells place (cell 0 0)) ≡ true → list_any (λ one. one == place) places ≡ true
