-- The loop that looks for the first side that a hull fits.
use Rattle.std.proofs.Common.{◌≡◌, ℕ, ◌+◌, ◌≤◌, ◌<◌, true, false, List, length, drop, get_or, sym}
use Rattle.std.proofs.lemmas.List.{drop_more, drop_all}
use Rattle.gfx_window.specs.declared.covering.Hull.{Hull}
use Rattle.gfx_window.specs.Index.{cell, fits, home_in, spot}

module _ (count : ℕ) (hull : Hull) (sides : List ℕ) (i : ℕ) where
  -- it fits this one
  pub fits-here : (d due x y : ℕ) → i < length sides → true ≡ fits (get_or sides i d) hull → x ≡ cell (get_or sides i d) hull.left → y ≡ cell (get_or sides i d) hull.top
      → home_in count hull (drop i sides) ≡ due → spot count (get_or sides i d) x y ≡ due
  unfolding home_in
  fits-here d due x y lt fit across down so_far = let here = rw (drop_more sides i d lt, sym fit, sym across, sym down) at so_far in here

  -- it doesn't
  pub fits-later : (d due : ℕ) → i < length sides → false ≡ fits (get_or sides i d) hull → home_in count hull (drop i sides) ≡ due → home_in count hull (drop (i + 1) sides) ≡ due
  unfolding home_in
  fits-later d due lt fit so_far = let here = rw (drop_more sides i d lt, sym fit) at so_far in here

  -- none is left
  pub fits-none : (due : ℕ) → length sides ≤ i → home_in count hull (drop i sides) ≡ due → 0 ≡ due
  unfolding home_in
  fits-none due le so_far = rw (drop_all i sides le) at so_far
