-- Cells that are kept, found by their numbers.
use Rattle.std.proofs.Common.{◌≡◌, refl, sym, ap, ◌∙◌, subst, true, false, true≢false, Bool, IsTrue, if◌then◌else◌, ◌⊎◌, inl, inr, ℕ, ◌+◌, ◌-◌, ◌<◌, ◌≤◌, List, [], ◌∷◌, ◌++◌, length, get_or, set, arith}
use Rattle.std.proofs.lemmas.List.{length-map, length-append, length-set, map_push, get_or_append_left, get_or-append_right, get_or-set_same, get_or-set_other, get_or_default}
use Rattle.std.proofs.lemmas.Bool.{cases_lt}
use Rattle.gfx_base.specs.declared.geometry.Cell.{Cell}
use Rattle.gfx_base.specs.Cells.{cell}
use Rattle.gfx_surface.specs.declared.kept_cell.KeptCell.{KeptCell}
use Rattle.gfx_surface.specs.Kept.{AreFound, IsKept, cell_at, cells_of, number_of}

-- a cell that may lie on a surface is told by its number
one_number : (first second : Cell) → first.x < 128 → second.x < 128 → number_of first ≡ number_of second → first ≡ second
one_number first second narrow narrow' same =
    let across : first.x ≡ second.x = omega (arith, narrow, narrow', same) in
    let down : first.y ≡ second.y = omega (arith, narrow, narrow', same) in
    λ i. record { x = across i; y = down i }

-- a cell that is kept stands where its number says
pub stands_at : (one : Cell) (log : List KeptCell) (places : List ℕ) (place : ℕ) → AreFound (cells_of log) places → place ≡ get_or places (number_of one) 0
    → IsKept one log → (place < length log) × (cell_at (cells_of log) place ≡ one)
stands_at one log places place are at (i, below, is) =
    let here : cell_at (cells_of log) i ≡ one = get_or_default (cells_of log) i (cell 0 0) one below ∙ is in
    let there : place ≡ i = at ∙ ap (λ c. get_or places (number_of c) 0) (sym here) ∙ are.found i below in
    let long : length (cells_of log) ≡ length log = length-map log (λ kept. kept.cell) in
    (omega (arith, there, below, long), ap (cell_at (cells_of log)) there ∙ here)

-- places that are more than before find what was found
pub found_more : (cells : List Cell) (places more : List ℕ) → AreFound cells places → length places ≤ length more
    → ((k : ℕ) → k < length places → get_or more k 0 ≡ get_or places k 0) → AreFound cells more
found_more cells places more are longer stay = record {
  narrow = are.narrow;
  noted = λ i below. let n = are.noted i below in omega (arith, n, longer);
  found = λ i below. stay (number_of (cell_at cells i)) (are.noted i below) ∙ are.found i below;
}

-- the place of a cell that isn't kept may be written
pub found_beside : (one : Cell) (cells : List Cell) (places new : List ℕ) (place : ℕ) → AreFound cells places → one.x < 128
    → ((i : ℕ) → i < length cells → cell_at cells i ≡ one → ⊥) → new ≡ set places (number_of one) place → AreFound cells new
found_beside one cells places new place are narrow other written = record {
  narrow = are.narrow;
  noted = λ i below. let n = are.noted i below in let long : length new ≡ length places = ap length written ∙ length-set places (number_of one) place in omega (arith, n, long);
  found = λ i below.
      ap (λ l. get_or l (number_of (cell_at cells i)) 0) written
      ∙ get_or-set_other places (number_of one) (number_of (cell_at cells i)) place 0 (λ same. other i below (one_number (cell_at cells i) one (are.narrow i below) narrow same))
      ∙ are.found i below;
}

-- and then it is kept
pub found_pushed : (one : Cell) (cells new : List Cell) (places : List ℕ) → AreFound cells places → one.x < 128 → number_of one < length places
    → get_or places (number_of one) 0 ≡ length cells → new ≡ cells ++ one ∷ [] → AreFound new places
found_pushed one cells new places are narrow noted found pushed = subst (λ all. AreFound all places) (sym pushed) (record {
  narrow = λ i below. by (λ c. c.x < 128) i below narrow are.narrow;
  noted = λ i below. by (λ c. number_of c < length places) i below noted are.noted;
  found = λ i below. at i below;
})
  where
    long : length (cells ++ one ∷ []) ≡ length cells + 1
    long = length-append cells (one ∷ [])

    first_one : length cells - length cells ≡ 0
    first_one = omega arith

    last : (i : ℕ) → i ≡ length cells → cell_at (cells ++ one ∷ []) i ≡ one
    last i is = ap (cell_at (cells ++ one ∷ [])) is ∙ get_or-append_right cells (one ∷ []) (length cells) (length cells) (cell 0 0) refl (omega arith) ∙ ap (λ n. get_or (one ∷ []) n (cell 0 0)) first_one

    by : (P : Cell → Type 0) (i : ℕ) → i < length (cells ++ one ∷ []) → P one → ((k : ℕ) → k < length cells → P (cell_at cells k)) → P (cell_at (cells ++ one ∷ []) i)
    by P i below first others = choose (cases_lt i (length cells))
      where
        choose : ((i < length cells) ⊎ (length cells ≤ i)) → P (cell_at (cells ++ one ∷ []) i)
        choose (inl front) = subst P (sym (get_or_append_left cells (one ∷ []) (cell 0 0) i front)) (others i front)
        choose (inr back) = subst P (sym (last i (omega (arith, back, below, long)))) first

    at : (i : ℕ) → i < length (cells ++ one ∷ []) → get_or places (number_of (cell_at (cells ++ one ∷ []) i)) 0 ≡ i
    at i below = choose (cases_lt i (length cells))
      where
        choose : ((i < length cells) ⊎ (length cells ≤ i)) → get_or places (number_of (cell_at (cells ++ one ∷ []) i)) 0 ≡ i
        choose (inl front) = ap (λ c. get_or places (number_of c) 0) (get_or_append_left cells (one ∷ []) (cell 0 0) i front) ∙ are.found i front
        choose (inr back) =
            let is : i ≡ length cells = omega (arith, back, below, long) in
            ap (λ c. get_or places (number_of c) 0) (last i is) ∙ found ∙ sym is

-- what is left where the last one is let go of is found still
pub found_popped : (cells old : List Cell) (one : Cell) (places : List ℕ) → AreFound old places → old ≡ cells ++ one ∷ [] → AreFound cells places
found_popped cells old one places are popped = record {
  narrow = λ i below. subst (λ c. c.x < 128) (same i below) (are.narrow i (more i below));
  noted = λ i below. subst (λ c. number_of c < length places) (same i below) (are.noted i (more i below));
  found = λ i below. ap (λ c. get_or places (number_of c) 0) (sym (same i below)) ∙ are.found i (more i below);
}
  where
    more : (i : ℕ) → i < length cells → i < length old
    more i below = let long : length old ≡ length cells + 1 = ap length popped ∙ length-append cells (one ∷ []) in omega (arith, below, long)

    same : (i : ℕ) → i < length cells → cell_at old i ≡ cell_at cells i
    same i below = ap (λ l. cell_at l i) popped ∙ get_or_append_left cells (one ∷ []) (cell 0 0) i below

-- the same of kept cells
pub kept_popped : (log old : List KeptCell) (kept : KeptCell) (places : List ℕ) → AreFound (cells_of old) places → old ≡ log ++ kept ∷ [] → AreFound (cells_of log) places
kept_popped log old kept places are popped = found_popped (cells_of log) (cells_of old) kept.cell places are (ap cells_of popped ∙ map_push (λ (k : KeptCell). k.cell) log kept)

-- where another cell stands at a cell's place, that one isn't kept
pub not_kept : (one : Cell) (log seen : List KeptCell) (places : List ℕ) (number place : ℕ) (result : Bool) → AreFound (cells_of log) places
    → number ≡ number_of one → number < length places → place ≡ get_or places number place → seen ≡ log
    → (place < length seen → cell_at (cells_of seen) place ≡ one → IsTrue result) → result ≡ false → IsKept one log → ⊥
not_kept one log seen places number place result are is below at same finds missed there =
    let there_is : place ≡ get_or places (number_of one) 0 = at ∙ get_or_default places number place 0 below ∙ ap (λ n. get_or places n 0) is in
    let stands = stands_at one log places place are there_is there in
    let hit = finds (subst (λ (l : List KeptCell). place < length l) (sym same) stands.0) (subst (λ (l : List KeptCell). cell_at (cells_of l) place ≡ one) (sym same) stands.1) in
    true≢false (sym hit ∙ missed)

-- whether it could be kept or not
pub found_kept : (one : Cell) (log new : List KeptCell) (kept : KeptCell) (places written : List ℕ) (number place : ℕ) (pushed : Bool) → AreFound (cells_of log) places
    → one.x < 128 → (IsKept one log → ⊥) → number ≡ number_of one → number < length places → place ≡ length log → kept.cell ≡ one → written ≡ set places number place
    → new ≡ (if pushed then log ++ kept ∷ [] else log) → AreFound (cells_of new) written
found_kept one log new kept places written number place pushed are narrow none is below last cell_is writes = by pushed
  where
    written_is : written ≡ set places (number_of one) place
    written_is = writes ∙ ap (λ n. set places n place) is

    beside : AreFound (cells_of log) written
    beside = found_beside one (cells_of log) places written place are narrow (λ i inside at. none (i, inside, get_or_default (cells_of log) i one (cell 0 0) inside ∙ at)) written_is

    noted : number_of one < length places
    noted = omega (arith, is, below)

    by : (b : Bool) → new ≡ (if b then log ++ kept ∷ [] else log) → AreFound (cells_of new) written
    by true pushes =
        let long : length written ≡ length places = ap length written_is ∙ length-set places (number_of one) place in
        let many : length (cells_of log) ≡ length log = length-map log (λ kept. kept.cell) in
        found_pushed one (cells_of log) (cells_of new) written beside narrow (omega (arith, noted, long))
        (ap (λ l. get_or l (number_of one) 0) written_is ∙ get_or-set_same places (number_of one) place 0 noted ∙ last ∙ sym many)
        (ap cells_of pushes ∙ map_push (λ (k : KeptCell). k.cell) log kept ∙ ap (λ c. cells_of log ++ c ∷ []) cell_is)
    by false same = subst (λ (l : List KeptCell). AreFound (cells_of l) written) (sym same) beside
