-- There is room for the records of all cells of the surfaces.
use Rattle.std.proofs.Common.{◌≡◌, ◌∙◌, inl, inr, ◌+◌, ◌≤◌, ℕ, Bool, true, false, cond, ◌||◌, List, [], ◌∷◌, map, length, Option, Some, None, refl, sym, ap, subst, length-append, mul_comm, arith}
use Rattle.std.specs.FinMap.{contains_key, entries, find, get, get-entries}
use Rattle.std.specs.List.{flat_map, sum_by}
use Rattle.std.specs.Ordering.{nat_cmp, eq_by_cmp}
use Rattle.std.proofs.lemmas.Bool.Decides.{nat_tests}
use Rattle.std.proofs.lemmas.List.Folds.{list_any-append}
use Rattle.std.proofs.lemmas.List.Sums.{sum_by-cons}
use Rattle.gfx_base.specs.Cells.{cells_along}
use Rattle.gfx_prog_law.specs.Taken.{HasRoom, IsCell}
use Rattle.gfx_prog_law.proofs.Counting.{among, cell-among, cell-keys, few-keys, length-cell-keys}
use Rattle.gfx_prog_decode.specs.declared.key.Key.{Key}
use Rattle.gfx_prog_decode.specs.Records.{Records, key_cmp}
use Rattle.gfx_surface.specs.Picture.{Picture}
use Rattle.gfx_surface_map.specs.declared.TheConstants.{MOST_CELLS}
use Rattle.gfx_surface_map.specs.Surfaces.{Surfaces, cells_of, cells_of_picture}
use Rattle.gfx_planner.specs.Tiles.{IsCellOf}

-- the keys of the cells of a surface
abbrev cells_at : ℕ × Picture → List Key
cells_at entry = cell-keys entry.0 entry.1.width entry.1.height

-- and of all surfaces
abbrev all_cells : List (ℕ × Picture) → List Key
all_cells all = flat_map cells_at all

-- as many as there are cells
length-cells_at : (entry : ℕ × Picture) → length (cells_at entry) ≡ cells_of_picture entry.1
length-cells_at entry =
    length-cell-keys entry.0 entry.1.width entry.1.height ∙ mul_comm (cells_along entry.1.height) (cells_along entry.1.width)

length-all_cells : (all : List (ℕ × Picture)) → length (all_cells all) ≡ sum_by cells_of_picture (map (λ entry. entry.1) all)
length-all_cells [] = refl
length-all_cells (entry ∷ all) =
    length-append (cells_at entry) (all_cells all)
    ∙ (λ i. length-cells_at entry i + length-all_cells all i)
    ∙ sym (sum_by-cons cells_of_picture entry.1 (map (λ entry. entry.1) all))

or_true : (a b : Bool) → b ≡ true → (a || b) ≡ true
or_true true b e = refl
or_true false b e = e

-- each cell of a surface is one of them
cell_of_all : (all : List (ℕ × Picture)) (id : ℕ) (surface : Picture) (key : Key) → find nat_cmp id all ≡ Some surface → IsCell id surface.width surface.height key → among (all_cells all) key ≡ true
cell_of_all [] id surface key found cell = absurd cc
cell_of_all (entry ∷ all) id surface key found cell =
    list_any-append (eq_by_cmp key_cmp key) (cells_at entry) (all_cells all) ∙ by (eq_by_cmp nat_cmp id entry.0) refl found (λ later. cell_of_all all id surface key later cell)
  where
    by : (b : Bool) → eq_by_cmp nat_cmp id entry.0 ≡ b → cond b (Some entry.1) (find nat_cmp id all) ≡ Some surface → (find nat_cmp id all ≡ Some surface → among (all_cells all) key ≡ true)
        → (among (cells_at entry) key || among (all_cells all) key) ≡ true
    by true ties is rest =
        let same : entry.1 ≡ surface = cc in
        let at : id ≡ entry.0 = grind (arith, nat_tests) in
        ap (λ b. b || among (all_cells all) key)
        (cell-among entry.0 entry.1.width entry.1.height key (subst (λ n. IsCell n entry.1.width entry.1.height key) at (subst (λ (p : Picture). IsCell id p.width p.height key) (sym same) cell)))
    by false ties is rest = or_true (among (cells_at entry) key) (among (all_cells all) key) (rest is)

-- where all surfaces together have no more cells than there may be
pub has_room : (records : Records) (surfaces : Surfaces) (id : ℕ) (surface : Picture) → get surfaces id ≡ Some surface → cells_of surfaces ≤ MOST_CELLS
    → ((key : Key) → contains_key records key ≡ true → IsCellOf (get surfaces key.surface) key) → HasRoom id surface.width surface.height records
has_room records surfaces id surface there few cells more keys =
    omega (
      arith,
      few,
      length-all_cells (entries surfaces),
      few-keys more (all_cells (entries surfaces)) (λ key has. elim (keys key has) [
        | inl old ↦ old_cell key (get surfaces key.surface) refl (cells key old)
        | inr cell ↦ cell_of_all (entries surfaces) id surface key (sym (get-entries surfaces id) ∙ there) cell
      ]),
    )
  where
    old_cell : (key : Key) (o : Option Picture) → get surfaces key.surface ≡ o → IsCellOf o key → among (all_cells (entries surfaces)) key ≡ true
    old_cell key None none cell = absurd cell
    old_cell key (Some picture) is cell = cell_of_all (entries surfaces) key.surface picture key (sym (get-entries surfaces key.surface) ∙ is) cell
