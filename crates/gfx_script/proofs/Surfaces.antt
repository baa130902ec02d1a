-- Surfaces that are made and deleted, by the map of their sides and the count of their cells.
use Rattle.std.proofs.Common.{◌≡◌, ◌∙◌, ℕ, ◌+◌, ◌-◌, ◌&&◌, true, false, nat_lt, nat_le, List, sym, ap}
use Rattle.std.specs.FinMap.{FinMap, len, insert, remove}
use Rattle.std.specs.Ordering.{nat_cmp}
use Rattle.gfx_surface_map.specs.declared.TheConstants.{MOST_SURFACES, MOST_CELLS}
use Rattle.gfx_surface_map.specs.Surfaces.{cells}
use Rattle.gfx_script.specs.declared.held.Sides.{Sides}
use Rattle.gfx_script.specs.Checks.{Held, may_add, with_surface, without_surface}
use Rattle.gfx_script.specs.Stock.{Stock}

-- these are held
abbrev pub held : List Sides → FinMap nat_cmp Sides → ℕ → Stock → Held
held pictures sides count stock = record { pictures = pictures; sides = sides; cells = count; stock = stock }

module _ (pictures : List Sides) (stock : Stock) where
  pub surface_added : (old new : FinMap nat_cmp Sides) (count more id width height : ℕ) → new ≡ insert old id record { width = width; height = height } → more ≡ cells width height
      → held pictures new (count + more) stock ≡ with_surface (held pictures old count stock) id width height
  surface_added old new count more id width height is counted = λ i. held pictures (is i) (count + counted i) stock

  pub surface_removed : (old new : FinMap nat_cmp Sides) (count left fewer id : ℕ) (sides : Sides) → new ≡ remove old id → left ≡ count - fewer → fewer ≡ cells sides.width sides.height
      → held pictures new left stock ≡ without_surface (held pictures old count stock) id sides
  surface_removed old new count left fewer id sides is rest counted =
      λ i. held pictures (is i) ((rest ∙ ap (λ n. count - n) counted) i) stock

module _ (before : Held) (count more width height : ℕ) (counted : count ≡ len before.sides) (measured : more ≡ cells width height) where
  pub few_enough : nat_lt count MOST_SURFACES ≡ true → nat_le (before.cells + more) MOST_CELLS ≡ may_add before width height
  few_enough few =
      sym (ap (λ b. b && nat_le (before.cells + more) MOST_CELLS) few) ∙ (λ i. nat_lt (counted i) MOST_SURFACES && nat_le (before.cells + measured i) MOST_CELLS)

  pub too_many : nat_lt count MOST_SURFACES ≡ false → false ≡ may_add before width height
  too_many many = sym (ap (λ n. nat_lt n MOST_SURFACES && nat_le (before.cells + cells width height) MOST_CELLS) (sym counted) ∙ ap (λ b. b && nat_le (before.cells + cells width height) MOST_CELLS) many)
