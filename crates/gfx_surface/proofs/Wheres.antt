-- What is written run by run, row by row and cell by cell.
use Rattle.std.proofs.Common.{◌≡◌, sym, ap, ◌∙◌, subst, Bool, true, false, ◌&&◌, ◌||◌, nat_le, nat_lt, if◌then◌else◌, ◌⊎◌, inl, inr, ℕ, ◌+◌, ◌-◌, ◌%◌, ◌<◌, ◌≤◌, List, length, get_or, arith}
use Rattle.std.proofs.lemmas.Bool.{cases_lt, cases_eq}
use Rattle.std.proofs.lemmas.Bool.Decides.{nat_tests}
use Rattle.gfx_base.specs.declared.geometry.Rect.{Rect}
use Rattle.gfx_base.specs.declared.pixel.Pixel.{Pixel}
use Rattle.gfx_base.specs.Geometry.{holds, width_of}
use Rattle.gfx_surface.specs.Cells.{places, place}
use Rattle.gfx_surface.specs.Rows.{WritesRun}
use Rattle.gfx_surface.specs.Where.{WritesWhere, run_in}
use Rattle.gfx_surface.proofs.CellPlaces.{place_below, one_place, place_along}
use Rattle.gfx_surface.proofs.PictureLemmas.{choose}

-- what is written in two steps
joined : (q p r : Bool) (a b : Pixel) → (q || p) ≡ r → (if q then a else (if p then a else b)) ≡ (if r then a else b)
joined true p r a b same = ap (λ t. if t then a else b) same
joined false p r a b same = ap (λ t. if t then a else b) same

pub where_more : (width height : ℕ) (p q r : ℕ → ℕ → Bool) (f : ℕ → ℕ → Pixel) (old mid new : List Pixel)
    → WritesWhere width height p f old mid → WritesWhere width height q f mid new → ((x y : ℕ) → (q x y || p x y) ≡ r x y)
    → WritesWhere width height r f old new
where_more width height p q r f old mid new first second says x y d column row =
    second x y d column row ∙ ap (λ e. if q x y then f x y else e) (first x y d column row)
    ∙ joined (q x y) (p x y) (r x y) (f x y) (get_or old (place width x y) d) (says x y)

-- nothing is written
pub where_none : (width height : ℕ) (p : ℕ → ℕ → Bool) (f : ℕ → ℕ → Pixel) (old : List Pixel) → ((x y : ℕ) → p x y ≡ false) → WritesWhere width height p f old old
where_none width height p f old none x y d column row = sym (ap (λ b. if b then f x y else get_or old (place width x y) d) (none x y))

-- the places are told otherwise
pub where_same : (width height : ℕ) (p q : ℕ → ℕ → Bool) (f : ℕ → ℕ → Pixel) (old new : List Pixel) → WritesWhere width height p f old new
    → ((x y : ℕ) → p x y ≡ q x y) → WritesWhere width height q f old new
where_same width height p q f old new first same x y d column row =
    first x y d column row ∙ ap (λ b. if b then f x y else get_or old (place width x y) d) (same x y)

-- the pixels are told otherwise
pub where_told : (width height : ℕ) (p : ℕ → ℕ → Bool) (f g : ℕ → ℕ → Pixel) (old new : List Pixel) → WritesWhere width height p f old new
    → ((x y : ℕ) → p x y ≡ true → f x y ≡ g x y) → WritesWhere width height p g old new
where_told width height p f g old new first same x y d column row =
    first x y d column row ∙ choose (p x y) (f x y) (g x y) (get_or old (place width x y) d) (same x y)

-- a place that isn't written is as it was
pub where_kept : (width height : ℕ) (p : ℕ → ℕ → Bool) (f : ℕ → ℕ → Pixel) (old new : List Pixel) (x y : ℕ) (d : Pixel) → WritesWhere width height p f old new
    → x < width → y < height → p x y ≡ false → get_or new (place width x y) d ≡ get_or old (place width x y) d
where_kept width height p f old new x y d writes column row out =
    writes x y d column row ∙ ap (λ b. if b then f x y else get_or old (place width x y) d) out

-- a run of one cell's row is written
pub run_written : (width height x y count size at : ℕ) (g : ℕ → Pixel) (f : ℕ → ℕ → Pixel) (old new : List Pixel)
    → length old ≡ places width height → x + count ≤ width → y < height → x % 64 + count ≤ 64 → at ≡ place width x y → size ≡ count
    → WritesRun at (at + size) g old new → ((k : ℕ) → k < count → g (at + k) ≡ f (x + k) y)
    → WritesWhere width height (holds (run_in x y count)) f old new
run_written width height x y count size at g f old new full columns row one begins sized run says i j d column row' =
    run k d below ∙ ap (λ n. if nat_le at k && nat_lt k (at + n) then g k else get_or old k d) sized
    ∙ by (cases_lt i x) (cases_lt i (x + count)) (cases_eq j y)
  where
    k : ℕ
    k = place width i j

    below : k < length old
    below = subst (λ n. k < n) (sym full) (place_below width height i j column row')

    missed : holds (run_in x y count) i j ≡ false → ((m : ℕ) → m < count → i ≡ x + m → j ≡ y → ⊥)
        → (if nat_le at k && nat_lt k (at + count) then g k else get_or old k d) ≡ (if holds (run_in x y count) i j then f i j else get_or old k d)
    missed out never = side (cases_lt k at) (cases_lt k (at + count))
      where
        outside : (nat_le at k && nat_lt k (at + count)) ≡ false
            → (if nat_le at k && nat_lt k (at + count) then g k else get_or old k d) ≡ (if holds (run_in x y count) i j then f i j else get_or old k d)
        outside miss =
            ap (λ b. if b then g k else get_or old k d) miss ∙ sym (ap (λ b. if b then f i j else get_or old k d) out)

        side : ((k < at) ⊎ (at ≤ k)) → ((k < at + count) ⊎ (at + count ≤ k))
            → (if nat_le at k && nat_lt k (at + count) then g k else get_or old k d) ≡ (if holds (run_in x y count) i j then f i j else get_or old k d)
        side (inl before) _ = outside (grind (arith, nat_tests))
        side (inr on) (inr after) = outside (grind (arith, nat_tests))
        side (inr on) (inl up_to) =
            let m : ℕ = k - at in
            let less : m < count = omega arith in
            let there : at + m ≡ k = omega arith in
            let same : place width i j ≡ place width (x + m) y = sym there ∙ ap (λ n. n + m) begins ∙ sym (place_along width x y m (omega arith)) in
            let one_is = one_place width (x + m) y i j (omega arith) column same in
            absurd (never m less one_is.0 one_is.1)

    by : ((i < x) ⊎ (x ≤ i)) → ((i < x + count) ⊎ (x + count ≤ i)) → ((j ≡ y) ⊎ ((j ≡ y) → ⊥))
        → (if nat_le at k && nat_lt k (at + count) then g k else get_or old k d) ≡ (if holds (run_in x y count) i j then f i j else get_or old k d)
    by (inl before) _ _ = missed (grind (arith, nat_tests)) (λ m less is_x is_y. omega (arith, before, is_x))
    by (inr on) (inr after) _ = missed (grind (arith, nat_tests)) (λ m less is_x is_y. omega (arith, after, is_x, less))
    by (inr on) (inl up_to) (inr not) = missed (other (cases_lt j y) (cases_lt y j)) (λ m less is_x is_y. not is_y)
      where
        other : ((j < y) ⊎ (y ≤ j)) → ((y < j) ⊎ (j ≤ y)) → holds (run_in x y count) i j ≡ false
        other (inl less) _ = grind (arith, nat_tests)
        other _ (inl more) = grind (arith, nat_tests)
        other (inr a) (inr b) = absurd (not (omega arith))
    by (inr on) (inl up_to) (inl is_y) =
        let m : ℕ = i - x in
        let is_x : i ≡ x + m = omega arith in
        let there : k ≡ at + m = (λ n. place width (is_x n) (is_y n)) ∙ place_along width x y m (omega arith) ∙ ap (λ n. n + m) (sym begins) in
        let in_it : (nat_le at k && nat_lt k (at + count)) ≡ true = grind (arith, nat_tests) in
        let hit : holds (run_in x y count) i j ≡ true = grind (arith, nat_tests) in
        ap (λ b. if b then g k else get_or old k d) in_it ∙ ap g there ∙ says m (omega arith)
        ∙ sym (λ n. f (is_x n) (is_y n)) ∙ sym (ap (λ b. if b then f i j else get_or old k d) hit)

-- one more run of a row is written, behind those before
pub run_more : (width height x y done count size column at : ℕ) (g : ℕ → Pixel) (f : ℕ → ℕ → Pixel) (old mid new : List Pixel)
    → length mid ≡ places width height → column ≡ x + done → column + count ≤ width → y < height → column % 64 + count ≤ 64 → at ≡ place width column y → size ≡ count
    → WritesWhere width height (holds (run_in x y done)) f old mid
    → WritesRun at (at + size) g mid new → ((k : ℕ) → k < count → g (at + k) ≡ f (column + k) y)
    → WritesWhere width height (holds (run_in x y (done + count))) f old new
run_more width height x y done count size column at g f old mid new full along columns row one begins sized before run says =
    where_more width height (holds (run_in x y done)) (holds (run_in column y count)) (holds (run_in x y (done + count))) f old mid new before
    (run_written width height column y count size at g f mid new full columns row one begins sized run says)
    (λ i j. both i j)
  where
    both : (i j : ℕ) → (holds (run_in column y count) i j || holds (run_in x y done) i j) ≡ holds (run_in x y (done + count)) i j
    both i j = grind (arith, nat_tests)

-- and in front of those behind
pub run_before : (width height x y rest count size column at pixels : ℕ) (g : ℕ → Pixel) (f : ℕ → ℕ → Pixel) (old mid new : List Pixel)
    → length mid ≡ places width height → column ≡ x + rest → column + count ≤ width → y < height → column % 64 + count ≤ 64 → at ≡ place width column y → size ≡ count
    → rest + count ≤ pixels
    → WritesWhere width height (holds (record { left = x + (rest + count); top = y; right = x + pixels; bottom = y + 1 })) f old mid
    → WritesRun at (at + size) g mid new → ((k : ℕ) → k < count → g (at + k) ≡ f (column + k) y)
    → WritesWhere width height (holds (record { left = x + rest; top = y; right = x + pixels; bottom = y + 1 })) f old new
run_before width height x y rest count size column at pixels g f old mid new full along columns row one begins sized fits behind run says =
    where_more width height (holds (record { left = x + (rest + count); top = y; right = x + pixels; bottom = y + 1 })) (holds (run_in column y count))
    (holds (record { left = x + rest; top = y; right = x + pixels; bottom = y + 1 })) f old mid new behind
    (run_written width height column y count size at g f mid new full columns row one begins sized run says)
    (λ i j. both i j)
  where
    both : (i j : ℕ) → (holds (run_in column y count) i j || holds (record { left = x + (rest + count); top = y; right = x + pixels; bottom = y + 1 }) i j)
        ≡ holds (record { left = x + rest; top = y; right = x + pixels; bottom = y + 1 }) i j
    both i j = grind (arith, nat_tests)

-- one more row of a rectangle is written, below those above
pub row_more : (width height i y count : ℕ) (rect : Rect) (g f : ℕ → ℕ → Pixel) (old mid new : List Pixel)
    → rect.left ≤ rect.right → y ≡ rect.top + i → count ≡ width_of rect
    → WritesWhere width height (holds (record rect { bottom = rect.top + i })) f old mid
    → WritesWhere width height (holds (run_in rect.left y count)) g mid new
    → ((x : ℕ) → rect.left ≤ x → x < rect.right → g x y ≡ f x y)
    → WritesWhere width height (holds (record rect { bottom = rect.top + (i + 1) })) f old new
row_more width height i y count rect g f old mid new ordered down wide above row says =
    where_more width height (holds (record rect { bottom = rect.top + i })) (holds (run_in rect.left y count)) (holds (record rect { bottom = rect.top + (i + 1) })) f old mid new above
    (where_told width height (holds (run_in rect.left y count)) g f mid new row (λ x j hit. told x j hit))
    (λ x j. both x j)
  where
    both : (x j : ℕ) → (holds (run_in rect.left y count) x j || holds (record rect { bottom = rect.top + i }) x j) ≡ holds (record rect { bottom = rect.top + (i + 1) }) x j
    both x j = grind (arith, nat_tests)

    told : (x j : ℕ) → holds (run_in rect.left y count) x j ≡ true → g x j ≡ f x j
    told x j hit =
        let same : j ≡ y = grind (arith, nat_tests) in
        let low : rect.left ≤ x = grind (arith, nat_tests) in
        let high : x < rect.right = grind (arith, nat_tests) in
        ap (g x) same ∙ says x low high ∙ sym (ap (f x) same)

-- and above those below
pub row_above : (width height i next y count : ℕ) (rect : Rect) (g f : ℕ → ℕ → Pixel) (old mid new : List Pixel)
    → rect.left ≤ rect.right → y ≡ rect.top + i → next ≡ i + 1 → rect.top + next ≤ rect.bottom → count ≡ width_of rect
    → WritesWhere width height (holds (record rect { top = rect.top + next })) f old mid
    → WritesWhere width height (holds (run_in rect.left y count)) g mid new
    → ((x : ℕ) → rect.left ≤ x → x < rect.right → g x y ≡ f x y)
    → WritesWhere width height (holds (record rect { top = rect.top + i })) f old new
row_above width height i next y count rect g f old mid new ordered down one_less fits wide below row says =
    where_more width height (holds (record rect { top = rect.top + next })) (holds (run_in rect.left y count)) (holds (record rect { top = rect.top + i })) f old mid new below
    (where_told width height (holds (run_in rect.left y count)) g f mid new row (λ x j hit. told x j hit))
    (λ x j. both x j)
  where
    both : (x j : ℕ) → (holds (run_in rect.left y count) x j || holds (record rect { top = rect.top + next }) x j) ≡ holds (record rect { top = rect.top + i }) x j
    both x j = grind (arith, nat_tests)

    told : (x j : ℕ) → holds (run_in rect.left y count) x j ≡ true → g x j ≡ f x j
    told x j hit =
        let same : j ≡ y = grind (arith, nat_tests) in
        let low : rect.left ≤ x = grind (arith, nat_tests) in
        let high : x < rect.right = grind (arith, nat_tests) in
        ap (g x) same ∙ says x low high ∙ sym (ap (f x) same)

-- the sides and the old pixels are told otherwise
pub where_of : (width same height like : ℕ) (p : ℕ → ℕ → Bool) (f : ℕ → List Pixel → ℕ → ℕ → Pixel) (old also new : List Pixel)
    → width ≡ same → height ≡ like → old ≡ also → WritesWhere width height p (f width old) old new → WritesWhere same like p (f same also) also new
where_of width same height like p f old also new wide high is writes =
    subst (λ w. WritesWhere w like p (f w also) also new) wide
    (subst (λ h. WritesWhere width h p (f width also) also new) high
    (subst (λ (cells : List Pixel). WritesWhere width height p (f width cells) cells new) is writes))

-- the places of the surface are told otherwise
pub where_within : (width height : ℕ) (p q : ℕ → ℕ → Bool) (f : ℕ → ℕ → Pixel) (old new : List Pixel) → WritesWhere width height p f old new
    → ((x y : ℕ) → x < width → y < height → p x y ≡ q x y) → WritesWhere width height q f old new
where_within width height p q f old new first same x y d column row =
    first x y d column row ∙ ap (λ b. if b then f x y else get_or old (place width x y) d) (same x y column row)
