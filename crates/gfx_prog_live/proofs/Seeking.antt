-- The places of the tiles that may be raised.
use Rattle.std.proofs.Common.{◌≡◌, ◌∙◌, ap, sym, refl, subst, cond, ◌||◌, Bool, true, false, ℕ, ◌+◌, ◌-◌, ◌*◌, ◌/◌, ◌%◌, ◌<◌, List, [], ◌∷◌, ◌++◌, length, get_or, Option, Some, None, is_some, arith}
use Rattle.std.specs.Prelude.{◌==◌, ◌&&◌, IfSome, nat_lt, if◌then◌else◌}
use Rattle.std.specs.FinMap.{find, from_entries, get, get-from_entries}
use Rattle.std.specs.List.{All, cons_option, filter_map, list_any}
use Rattle.std.specs.List.Sorted.{IsPermutation, IsSorted}
use Rattle.std.specs.Option.{option_and_then}
use Rattle.std.specs.Ordering.{eq_by_cmp, nat_cmp}
use Rattle.std.proofs.lemmas.Bool.Decides.{nat_tests}
use Rattle.std.proofs.lemmas.List.{append-nil}
use Rattle.std.proofs.lemmas.List.Elements.{All-cons, All-nil}
use Rattle.std.proofs.lemmas.List.Sorted.{All-permutation, IsNonDecreasingBy-from_sort, list_any-IsPermutation}
use Rattle.std.proofs.lemmas.Nat.{mul-add-lt}
use Rattle.gfx_base.specs.Blocks.{block}
use Rattle.gfx_base.specs.Cells.{cell, cells_along, cells_met}
use Rattle.gfx_base.specs.Geometry.{sized}
use Rattle.gfx_base.proofs.Blocks.{IsPlaced, cell_at, length-block, placed_at}
use Rattle.gfx_prog_decode.specs.declared.key.Key.{Key}
use Rattle.gfx_prog_decode.specs.Records.{key_cmp}
use Rattle.gfx_prog_decode.proofs.Keys.{key_total, tied}
use Rattle.gfx_prog_encode.specs.declared.send.TileSend.{TileSend}
use Rattle.gfx_prog_live.specs.Cells.{cell_key}
use Rattle.gfx_prog_live.specs.Inside.{AreListed, Lists}
use Rattle.gfx_prog_live.specs.Live.{Live, raised}
use Rattle.gfx_prog_live.specs.Places.{ArePlaces, place_to_raise}
use Rattle.gfx_prog_live.specs.Raising.{is_raised_in}
use Rattle.gfx_prog_live.proofs.Taking.{raised_by_test}

-- the place of an entry
abbrev pub place_of : ℕ → ℕ → ℕ → ℕ → Key × TileSend → Option ℕ
place_of listed id columns rows e = place_to_raise listed id columns rows e.0 e.1.level

stays_among : (test : ℕ → Bool) (o : Option ℕ) (places : List ℕ) → list_any test places ≡ true → list_any test (cons_option o places) ≡ true
stays_among test None places is = is
stays_among test (Some place) places is = by (test place)
  where
    by : (b : Bool) → (b || list_any test places) ≡ true
    by true = refl
    by false = is

heads : (o : Option ℕ) (place : ℕ) (places : List ℕ) → o ≡ Some place → list_any (λ one. one == place) (cons_option o places) ≡ true
heads o place places is = ap (λ p. list_any (λ one. one == place) (cons_option p places)) is ∙ grind (arith, nat_tests)

-- what is found in a list has its place among those of the list
found_among : (f : Key × TileSend → Option ℕ) (es : List (Key × TileSend)) (q : Key) (send : TileSend) (place : ℕ) → find key_cmp q es ≡ Some send → f (q, send) ≡ Some place
    → list_any (λ one. one == place) (filter_map f es) ≡ true
found_among f [] q send place found is = cc
found_among f (e ∷ es) q send place found is = by (eq_by_cmp key_cmp q e.0) refl (λ later. found_among f es q send place later is)
  where
    by : (b : Bool) → eq_by_cmp key_cmp q e.0 ≡ b → (find key_cmp q es ≡ Some send → list_any (λ one. one == place) (filter_map f es) ≡ true)
        → list_any (λ one. one == place) (cons_option (f e) (filter_map f es)) ≡ true
    by true ties rest =
        let value : Some e.1 ≡ Some send = sym (ap (λ b. cond b (Some e.1) (find key_cmp q es)) ties) ∙ found in
        let same : e.1 ≡ send = cc in
        heads (f e) place (filter_map f es) ((λ i. f (sym (tied q e.0 ties) i, same i)) ∙ is)
    by false ties rest =
        stays_among (λ one. one == place) (f e) (filter_map f es) (rest (sym (ap (λ b. cond b (Some e.1) (find key_cmp q es)) ties) ∙ found))

-- the cells of a surface
met_block : (width height : ℕ) → block 0 0 (cells_along width) (cells_along height) ≡ cells_met (sized width height)
met_block width height =
    let columns : cells_along width ≡ cells_along width - 0 = omega arith in
    let rows : cells_along height ≡ cells_along height - 0 = omega arith in
    λ i. block 0 0 (columns i) (rows i)

tests : (surface id x columns y rows level listed : ℕ) → surface ≡ id → x < columns → y < rows → nat_lt level listed ≡ true
    → ((surface == id && nat_lt x columns && nat_lt y rows) && nat_lt level listed) ≡ true
tests surface id x columns y rows level listed same across down below = grind (arith, nat_tests)

-- the place of the tile of a cell
place_in : (listed id columns rows place level : ℕ) → place < length (block 0 0 columns rows) → nat_lt level listed ≡ true
    → place_to_raise listed id columns rows (cell_key id (get_or (block 0 0 columns rows) place (cell 0 0))) level ≡ Some place
place_in listed id columns rows place level within below =
    let p : IsPlaced columns rows place = placed_at 0 0 columns rows place within in
    let column : 0 + place % columns < columns = omega (arith, p.across) in
    let row : 0 + place / columns < rows = omega (arith, p.down) in
    let whole : (0 + place / columns) * columns + (0 + place % columns) ≡ place = zeros (place / columns) (place % columns) columns ∙ sym p.whole in
    ap (λ c. place_to_raise listed id columns rows (cell_key id c) level) (cell_at 0 0 columns rows place within)
    ∙ ap (λ b. if b then Some ((0 + place / columns) * columns + (0 + place % columns)) else None) (tests id id (0 + place % columns) columns (0 + place / columns) rows level listed refl column row below)
    ∙ ap Some whole
  where
    zeros : (q r n : ℕ) → (0 + q) * n + (0 + r) ≡ q * n + r
    zeros q r n =
        let first : 0 + q ≡ q = omega arith in
        let second : 0 + r ≡ r = omega arith in
        λ i. first i * n + second i

if_lies : (columns rows x y : ℕ) → x < columns → y < rows → y * columns + x < length (block 0 0 columns rows)
if_lies columns rows x y across down = omega (arith, length-block 0 0 columns rows, mul-add-lt y columns x rows down across)

-- it is one in the list
places_within : (listed id columns rows : ℕ) (key : Key) (level : ℕ) → IfSome (place_to_raise listed id columns rows key level) (λ place. place < length (block 0 0 columns rows))
places_within listed id columns rows key level = by ((key.surface == id && nat_lt key.x columns && nat_lt key.y rows) && nat_lt level listed) refl
  where
    by : (b : Bool) → ((key.surface == id && nat_lt key.x columns && nat_lt key.y rows) && nat_lt level listed) ≡ b
        → IfSome (if b then Some (key.y * columns + key.x) else None) (λ place. place < length (block 0 0 columns rows))
    by true passes =
        let across : key.x < columns = grind (arith, nat_tests) in
        let down : key.y < rows = grind (arith, nat_tests) in
        if_lies columns rows key.x key.y across down
    by false passes = tt

all_found : (P : ℕ → Type 0) (f : Key × TileSend → Option ℕ) → ((e : Key × TileSend) → IfSome (f e) P) → (es : List (Key × TileSend)) → All P (filter_map f es)
all_found P f each [] = All-nil P
all_found P f each (e ∷ es) = by (f e) (each e) (all_found P f each es)
  where
    by : (o : Option ℕ) → IfSome o P → All P (filter_map f es) → All P (cons_option o (filter_map f es))
    by None is rest = rest
    by (Some place) is rest = All-cons P place (filter_map f es) is rest

-- all entries are done
pub all_sought : (listed id columns rows width height : ℕ) (es all rest : List (Key × TileSend)) (places : List ℕ) → columns ≡ cells_along width → rows ≡ cells_along height
    → all ≡ es → rest ≡ [] → places ++ filter_map (place_of listed id columns rows) rest ≡ filter_map (place_of listed id columns rows) all
    → places ≡ filter_map (place_of listed id (cells_along width) (cells_along height)) es
all_sought listed id columns rows width height es all rest places across down are none before =
    sym (append-nil places)
    ∙ ap (λ xs. places ++ filter_map (place_of listed id columns rows) xs) (sym none)
    ∙ before
    ∙ (λ i. filter_map (place_of listed id (across i) (down i)) (are i))

-- the places that were found, once they are in order
pub places_found : (live : Live) (listed id width height : ℕ) (es : List (Key × TileSend)) (places sorted : List ℕ) → from_entries es ≡ live → AreListed listed live
    → places ≡ filter_map (place_of listed id (cells_along width) (cells_along height)) es → IsPermutation places sorted → IsSorted nat_cmp sorted
    → ArePlaces live id (cells_met (sized width height)) sorted
places_found live listed id width height es places sorted is lists found moved rises =
    subst (λ cells. ArePlaces live id cells sorted) (met_block width height) (record { within = within; rising = IsNonDecreasingBy-from_sort (λ n. n) sorted rises; all = all })
  where
    columns : ℕ
    columns = cells_along width

    rows : ℕ
    rows = cells_along height

    within : All (λ place. place < length (block 0 0 columns rows)) sorted
    within =
        All-permutation (λ place. place < length (block 0 0 columns rows)) places sorted moved
        (subst (All (λ place. place < length (block 0 0 columns rows))) (sym found)
        (all_found (λ place. place < length (block 0 0 columns rows)) (place_of listed id columns rows) (λ e. places_within listed id columns rows e.0 e.1.level) es))

    by : (place : ℕ) (o : Option TileSend) → get live (cell_key id (get_or (block 0 0 columns rows) place (cell 0 0))) ≡ o → IfSome o (Lists listed)
        → place < length (block 0 0 columns rows) → is_some (option_and_then raised o) ≡ true → list_any (λ one. one == place) sorted ≡ true
    by place None there list inside may = cc
    by place (Some send) there list inside may =
        sym (list_any-IsPermutation (λ one. one == place) places sorted moved)
        ∙ ap (list_any (λ one. one == place)) found
        ∙ found_among (place_of listed id columns rows) es (cell_key id (get_or (block 0 0 columns rows) place (cell 0 0))) send place
        (sym (get-from_entries key_total es (cell_key id (get_or (block 0 0 columns rows) place (cell 0 0)))) ∙ ap (λ m. get m (cell_key id (get_or (block 0 0 columns rows) place (cell 0 0)))) is ∙ there)
        (place_in listed id columns rows place send.level inside (raised_by_test listed send list ∙ may))

    all : (place : ℕ) → place < length (block 0 0 columns rows) → is_raised_in live id (get_or (block 0 0 columns rows) place (cell 0 0)) ≡ true → list_any (λ one. one == place) sorted ≡ true
    all place inside may =
        by place (get live (cell_key id (get_or (block 0 0 columns rows) place (cell 0 0)))) refl (lists (cell_key id (get_or (block 0 0 columns rows) place (cell 0 0)))) inside may
