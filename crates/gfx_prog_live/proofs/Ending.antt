-- What a change ends.
use Rattle.std.proofs.Common.{◌≡◌, ◌∙◌, ap, sym, refl, cond, not, ◌||◌, Bool, true, false, ℕ, ◌+◌, ◌-◌, ◌*◌, ◌/◌, ◌<◌, ◌≤◌, min, max, List, [], ◌∷◌, length, take, Option, Some, None, arith}
use Rattle.std.specs.Prelude.{◌==◌, ◌&&◌, IfSome, fold}
use Rattle.std.proofs.lemmas.Bool.Decides.{nat_tests}
use Rattle.std.proofs.lemmas.List.{take_all}
use Rattle.std.specs.FinMap.{empty_of_len, get, get-empty, get-remove, get-retain_keys, len, remove, same_map}
use Rattle.std.specs.List.{list_any}
use Rattle.std.specs.Ordering.{eq_by_cmp}
use Rattle.gfx_base.specs.declared.geometry.Cell.{Cell}
use Rattle.gfx_base.specs.declared.geometry.Rect.{Rect}
use Rattle.gfx_base.specs.Cells.{cell, cells_along, cells_met, has_pixels, meets}
use Rattle.gfx_base.proofs.Blocks.{found, in_block}
use Rattle.gfx_prog_decode.specs.declared.key.Key.{Key}
use Rattle.gfx_prog_decode.specs.Records.{key_cmp}
use Rattle.gfx_prog_decode.proofs.Keys.{itself, key_same, key_total, tied}
use Rattle.gfx_prog_encode.specs.declared.send.TileSend.{TileSend}
use Rattle.gfx_script.specs.Writes.{Area, area}
use Rattle.gfx_prog_live.specs.Cells.{cell_key}
use Rattle.gfx_prog_live.specs.Inside.{AreInPlace, IsInPlace}
use Rattle.gfx_prog_live.specs.Live.{Live, ended_in, without_surface}

-- whether a key lies in an area
abbrev pub lies : Area → Key → Bool
lies area key = key.surface == area.surface && list_any (λ rect. meets rect (cell key.x key.y)) area.rects

-- what is found once a change has ended tiles
pub get-ended_in : (live : Live) (area : Area) (q : Key) → get (ended_in live area) q ≡ cond (not (lies area q)) (get live q) None
get-ended_in live area q = get-retain_keys live (λ key. not (lies area key)) q (λ x tie. ap (λ key. not (lies area key)) (sym (key_same q x tie)))

-- ---- one rectangle after another

twice : (s a b : Bool) (o : Option TileSend) → cond (not (s && b)) (cond (not (s && (a || false))) o None) None ≡ cond (not (s && (a || b))) o None
twice true true true o = refl
twice true true false o = refl
twice true false b o = refl
twice false a b o = refl

-- what the first one leaves, the others end as they would have
one_more : (live : Live) (id : ℕ) (rect : Rect) (rects : List Rect) → ended_in (ended_in live (area id (rect ∷ []))) (area id rects) ≡ ended_in live (area id (rect ∷ rects))
one_more live id rect rects = same_map key_total key_same _ _ (λ q.
    get-ended_in (ended_in live (area id (rect ∷ []))) (area id rects) q
    ∙ ap (λ o. cond (not (lies (area id rects) q)) o None) (get-ended_in live (area id (rect ∷ [])) q)
    ∙ twice (q.surface == id) (meets rect (cell q.x q.y)) (list_any (λ rect. meets rect (cell q.x q.y)) rects) (get live q)
    ∙ sym (get-ended_in live (area id (rect ∷ rects)) q))

no_rects : (s : Bool) (o : Option TileSend) → o ≡ cond (not (s && false)) o None
no_rects true o = refl
no_rects false o = refl

-- a change in several rectangles ends what changes in one after another end
pub ended_one_by_one : (live : Live) (id : ℕ) (rects : List Rect) → fold (λ left rect. ended_in left (area id (rect ∷ []))) live rects ≡ ended_in live (area id rects)
ended_one_by_one live id [] = same_map key_total key_same _ _ (λ q. no_rects (q.surface == id) (get live q) ∙ sym (get-ended_in live (area id []) q))
ended_one_by_one live id (rect ∷ rects) = ended_one_by_one (ended_in live (area id (rect ∷ []))) id rects ∙ one_more live id rect rects

-- ---- where nothing ends

none_left : (b : Bool) → ◌≡◌ {A = Option TileSend} None (cond b None None)
none_left true = refl
none_left false = refl

-- where no tile is live
pub none_ended : (live : Live) (area : Area) → len live ≡ 0 → live ≡ ended_in live area
none_ended live area none = same_map key_total key_same _ _ (λ q.
    let nothing : get live q ≡ None = ap (λ m. get m q) (empty_of_len live none) ∙ get-empty key_cmp q in
    nothing ∙ none_left (not (lies area q)) ∙ ap (λ o. cond (not (lies area q)) o None) (sym nothing) ∙ sym (get-ended_in live area q))

-- nor is any of a surface that is deleted
pub none_dropped : (live : Live) (id : ℕ) → len live ≡ 0 → live ≡ without_surface live id
none_dropped live id none = same_map key_total key_same _ _ (λ q.
    let nothing : get live q ≡ None = ap (λ m. get m q) (empty_of_len live none) ∙ get-empty key_cmp q in
    nothing ∙ none_left (not (q.surface == id)) ∙ ap (λ o. cond (not (q.surface == id)) o None) (sym nothing)
    ∙ sym (get-retain_keys live (λ key. not (key.surface == id)) q (λ x tie. ap (λ (key : Key). not (key.surface == id)) (sym (key_same q x tie)))))

no_pixels : (rect : Rect) (c : Cell) → has_pixels rect ≡ false → meets rect c ≡ false
no_pixels rect c none = grind (arith, nat_tests)

-- in a rectangle with no pixels
pub nothing_met : (live : Live) (id : ℕ) (rect : Rect) → has_pixels rect ≡ false → live ≡ ended_in live (area id (rect ∷ []))
nothing_met live id rect none = same_map key_total key_same _ _ (λ q.
    no_rects (q.surface == id) (get live q)
    ∙ ap (λ b. cond (not (q.surface == id && (b || false))) (get live q) None) (sym (no_pixels rect (cell q.x q.y) none))
    ∙ sym (get-ended_in live (area id (rect ∷ [])) q))

-- ---- cell by cell

-- live tiles without those of cells
abbrev pub without_cells : ℕ → List Cell → Live → Live
without_cells id cells live = fold (λ left c. remove left (cell_key id c)) live cells

either : (a b : Bool) (o : Option TileSend) → cond b None (cond a None o) ≡ cond (a || b) None o
either true true o = refl
either true false o = refl
either false b o = refl

-- whether a key is that of one of these cells
abbrev is_of : ℕ → Key → Cell → Bool
is_of id q c = eq_by_cmp key_cmp q (cell_key id c)

get-without_cells : (id : ℕ) (cells : List Cell) (live : Live) (q : Key) → get (without_cells id cells live) q ≡ cond (list_any (is_of id q) cells) None (get live q)
get-without_cells id [] live q = refl
get-without_cells id (c ∷ cells) live q =
    get-without_cells id cells (remove live (cell_key id c)) q
    ∙ ap (cond (list_any (is_of id q) cells) None) (get-remove key_total live (cell_key id c) q)
    ∙ either (is_of id q c) (list_any (is_of id q) cells) (get live q)

-- where a rectangle's side meets cells
pub record Meets (from to x : ℕ) : Type 0 where
  pub low : from / 64 ≤ x
  pub high : x < from / 64 + (cells_along to - from / 64)

meets_side : (from to x : ℕ) → max from (64 * x) < min to (64 * x + 64) → Meets from to x
meets_side from to x h = record { low = omega arith; high = omega arith }

side_meets : (from to x : ℕ) → from < to → Meets from to x → max from (64 * x) < min to (64 * x + 64)
side_meets from to x some h = omega (arith, h.low, h.high)

same_tests : (a b : Bool) → (a ≡ true → b ≡ true) → (b ≡ true → a ≡ true) → a ≡ b
same_tests true b f g = sym (f refl)
same_tests false true f g = g refl
same_tests false false f g = refl

across : (rect : Rect) (x y : ℕ) → meets rect (cell x y) ≡ true → max rect.left (64 * x) < min rect.right (64 * x + 64)
across rect x y hit = grind (arith, nat_tests)

down : (rect : Rect) (x y : ℕ) → meets rect (cell x y) ≡ true → max rect.top (64 * y) < min rect.bottom (64 * y + 64)
down rect x y hit = grind (arith, nat_tests)

both_sides : (rect : Rect) (x y : ℕ) → max rect.left (64 * x) < min rect.right (64 * x + 64) → max rect.top (64 * y) < min rect.bottom (64 * y + 64) → meets rect (cell x y) ≡ true
both_sides rect x y h k = grind (arith, nat_tests)

wide : (rect : Rect) → has_pixels rect ≡ true → rect.left < rect.right
wide rect some = grind (arith, nat_tests)

tall : (rect : Rect) → has_pixels rect ≡ true → rect.top < rect.bottom
tall rect some = grind (arith, nat_tests)

-- the cells of a rectangle are those that it meets
cells_are_met : (id : ℕ) (rect : Rect) (q : Key) → has_pixels rect ≡ true → q.context ≡ 1
    → list_any (is_of id q) (cells_met rect) ≡ lies (area id (rect ∷ [])) q
cells_are_met id rect q some context = same_tests _ _ forth back
  where
    forth : list_any (is_of id q) (cells_met rect) ≡ true → lies (area id (rect ∷ [])) q ≡ true
    forth any =
        let hit = found (is_of id q) (rect.left / 64) (rect.top / 64) (cells_along rect.right - rect.left / 64) (cells_along rect.bottom - rect.top / 64) any in
        let same : q ≡ cell_key id (cell hit.x hit.y) = tied q (cell_key id (cell hit.x hit.y)) hit.passes in
        let met : meets rect (cell hit.x hit.y) ≡ true =
        both_sides rect hit.x hit.y
        (side_meets rect.left rect.right hit.x (wide rect some) (record { low = hit.from_left; high = hit.to_right }))
        (side_meets rect.top rect.bottom hit.y (tall rect some) (record { low = hit.from_top; high = hit.to_bottom })) in
        ap (lies (area id (rect ∷ []))) same ∙ grind (arith, nat_tests)

    back : lies (area id (rect ∷ [])) q ≡ true → list_any (is_of id q) (cells_met rect) ≡ true
    back inside =
        let surface : q.surface ≡ id = grind (arith, nat_tests) in
        let met : meets rect (cell q.x q.y) ≡ true = grind (arith, nat_tests) in
        let columns : Meets rect.left rect.right q.x = meets_side rect.left rect.right q.x (across rect q.x q.y met) in
        let rows : Meets rect.top rect.bottom q.y = meets_side rect.top rect.bottom q.y (down rect q.x q.y met) in
        let same : q ≡ cell_key id (cell q.x q.y) = λ i. record { surface = surface i; context = context i; x = q.x; y = q.y } in
        in_block (is_of id q) (rect.left / 64) (rect.top / 64) (cells_along rect.right - rect.left / 64) (cells_along rect.bottom - rect.top / 64) q.x q.y
        columns.low columns.high rows.low rows.high
        (ap (eq_by_cmp key_cmp q) (sym same) ∙ itself q)

turned : (b : Bool) (o : Option TileSend) → cond b None o ≡ cond (not b) o None
turned true o = refl
turned false o = refl

-- so what ends in them is what the rectangle ends
pub cells_ended : (id : ℕ) (rect : Rect) (live : Live) → has_pixels rect ≡ true → AreInPlace live
    → without_cells id (cells_met rect) live ≡ ended_in live (area id (rect ∷ []))
cells_ended id rect live some placed = same_map key_total key_same _ _ (λ q.
    get-without_cells id (cells_met rect) live q
    ∙ by q (get live q) (placed q)
    ∙ turned (lies (area id (rect ∷ [])) q) (get live q)
    ∙ sym (get-ended_in live (area id (rect ∷ [])) q))
  where
    by : (q : Key) (there : Option TileSend) → IfSome there (IsInPlace q)
        → cond (list_any (is_of id q) (cells_met rect)) None there ≡ cond (lies (area id (rect ∷ [])) q) None there
    by q None h = sym (none_left (list_any (is_of id q) (cells_met rect))) ∙ none_left (lies (area id (rect ∷ [])) q)
    by q (Some send) h = ap (λ b. cond b None (Some send)) (cells_are_met id rect q some (ap (λ (key : Key). key.context) h))

-- the same of all of the list
pub all_ended : (id : ℕ) (rect : Rect) (cells : List Cell) (place : ℕ) (old live : Live) → has_pixels rect ≡ true → AreInPlace old
    → cells ≡ cells_met rect → length cells ≤ place → live ≡ without_cells id (take place cells) old → live ≡ ended_in old (area id (rect ∷ []))
all_ended id rect cells place old live some placed are end is =
    is ∙ ap (λ list. without_cells id list old) (take_all place cells end ∙ are) ∙ cells_ended id rect old some placed
