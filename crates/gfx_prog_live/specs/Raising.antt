-- Which surfaces have live tiles that an improvement would raise: this project's own rule.
use Rattle.std.specs.Prelude.{◌≡◌, ℕ, ◌==◌, Bool, true, List, is_some, nat_eq}
use Rattle.std.specs.FinMap as finmap
use Rattle.std.specs.List.{AllByRecursion, IsDistinct, list_any}
use Rattle.std.specs.Option.{option_and_then}
use Rattle.gfx_base.specs.declared.geometry.Cell.{Cell}
use Rattle.gfx_prog_live.specs.Cells.{cell_key}
use Rattle.gfx_prog_live.specs.Live.{Live, raised}

-- a surface has a live tile in a cell that isn't at the last level
abbrev pub is_raised_in : Live → ℕ → Cell → Bool
is_raised_in live id cell = is_some (option_and_then raised (finmap.get live (cell_key id cell)))

-- it has one in some cell
abbrev pub HasRaised : Live → ℕ → Type 0
HasRaised live id = (cell : Cell) × (is_raised_in live id cell ≡ true)

-- these are the surfaces that have one
pub record AreRaisable (live : Live) (ids : List ℕ) : Type 0 where
  -- each of them has
  pub each : AllByRecursion (HasRaised live) ids
  -- each that has is among them
  pub all : (id : ℕ) (cell : Cell) → is_raised_in live id cell ≡ true → list_any (λ one. one == id) ids ≡ true
  -- and stands there once
  pub once : IsDistinct nat_eq ids
