-- What a level in 16 bits is joined from.
use Rattle.std.proofs.Common.{◌≡◌, ℕ, ◌+◌, ◌-◌, ◌*◌, ◌<◌, ◌≤◌, lit≤, ℤ, List, length, take, drop, length-take, length-drop, arith, sym, refl, ap, ◌∙◌, subst}
use Rattle.gfx_dwt.specs.declared.layout.Transform.{Transform}
use Rattle.gfx_dwt.specs.declared.layout.Transform.TheVariants.{Plain, Reduced}
use Rattle.gfx_dwt.specs.declared.layout.Scale.{Scale}
use Rattle.gfx_dwt.specs.declared.layout.Scale.TheVariants.{First, Second, Third}
use Rattle.gfx_dwt.specs.declared.layout.Band.TheVariants.{Ll3}
use Rattle.gfx_dwt.specs.Joining.{joined}
use Rattle.gfx_dwt.specs.Narrow.{AreSmall, IsNarrow, hl_of, hh_of, lh_of, level_of}
use Rattle.gfx_dwt.specs.Place.{coefficient, high_size, line_size, low_size, low_start, part_start}
use Rattle.gfx_dwt.specs.Ranges.{AllWithin, Within, at}
use Rattle.gfx_dwt.specs.Samples.{cell, column, level_joined, quarter, sample, second_level, third_level}
use Rattle.gfx_dwt.proofs.Planes.{all_more, cells_within, level_joined_same, place_in}
use Rattle.gfx_dwt.proofs.Same.{joined_same}
use Rattle.gfx_dwt.proofs.Strips.{strip_at}

-- the joined rows of a level: those of its low half, and those of its high half
pub record AreRows (t : Transform) (l : Scale) (plane : List ℤ) (ll : ℕ → ℕ → ℤ) (above below : List ℤ) : Type 0 where
  pub low_rows : (r x : ℕ) → r < low_size t l → x < line_size t l → cell (line_size t l) above r x ≡ joined t l (ll r) (hl_of t l plane r) x
  pub high_rows : (r x : ℕ) → r < high_size t l → x < line_size t l → cell (line_size t l) below r x ≡ joined t l (lh_of t l plane r) (hh_of t l plane r) x

-- a list has the bands of a level
abbrev pub AreBands : Transform → Scale → List ℤ → List ℤ → Type 0
AreBands t l plane bands = (k : ℕ) → k < low_start t l → at bands k ≡ at plane (part_start t l + k)

pub rows_of_bands : (t : Transform) (l : Scale) (plane bands low above below : List ℤ) → AreBands t l plane bands → ((r x : ℕ) → r < low_size t l → x < line_size t l → cell (line_size t l) above r x ≡ joined t l (cell (low_size t l) low r) (quarter 0 (high_size t l) bands r) x) → ((r x : ℕ) → r < high_size t l → x < line_size t l → cell (line_size t l) below r x ≡ joined t l (quarter (low_size t l * high_size t l) (low_size t l) bands r) (quarter (low_size t l * high_size t l + high_size t l * low_size t l) (high_size t l) bands r) x) → AreRows t l plane (cell (low_size t l) low) above below
rows_of_bands t l plane bands low above below same one two =
    let n = low_size t l in
    let m = high_size t l in
    let s = part_start t l in
    record {
      low_rows = λ r x p q. one r x p q ∙ joined_same t l _ _ _ _
          (λ k h. refl)
          (λ k h. let i = place_in m n r k p h in same (0 + (r * m + k)) (omega (arith, i)) ∙ ap (at plane) (omega arith))
          x q;
      high_rows = λ r x p q. two r x p q ∙ joined_same t l _ _ _ _
          (λ k h. let i = place_in n m r k p h in same (n * m + (r * n + k)) (omega (arith, i)) ∙ ap (at plane) (omega arith))
          (λ k h. let i = place_in m m r k p h in same (n * m + m * n + (r * m + k)) (omega (arith, i)) ∙ ap (at plane) (omega arith))
          x q;
    }

-- what a level is joined from is small, if it stays narrow
pub bands_small : (t : Transform) (l : Scale) (plane bands low : List ℤ) → length low ≡ low_size t l * low_size t l → length bands ≡ low_start t l → AreBands t l plane bands → IsNarrow t l plane (cell (low_size t l) low) → AreSmall low bands
bands_small t l plane bands low e f same narrow = record {
  low_most = narrow.quarters.low_most;
  high_most = narrow.quarters.high_most;
  high_fits = narrow.quarters.high_fits;
  both_fit = narrow.quarters.both_fit;
  low_half = cells_within (low_size t l) (low_size t l) narrow.quarters.low_most low e narrow.quarters.low_half;
  high_half = λ k h. let i : k < low_start t l = omega (arith, f) in rw (same k i) (narrow.quarters.high_half k i);
}

pub rows_small : (t : Transform) (l : Scale) (plane : List ℤ) (ll : ℕ → ℕ → ℤ) (above below : List ℤ) → length above ≡ low_size t l * line_size t l → length below ≡ high_size t l * line_size t l → AreRows t l plane ll above below → IsNarrow t l plane ll → AreSmall above below
rows_small t l plane ll above below e f are narrow = record {
  low_most = narrow.rows.low_most;
  high_most = narrow.rows.high_most;
  high_fits = narrow.rows.high_fits;
  both_fit = narrow.rows.both_fit;
  low_half = cells_within (line_size t l) (low_size t l) narrow.rows.low_most above e (λ r x p q. rw (are.low_rows r x p q) (narrow.rows.low_half r x p q));
  high_half = cells_within (line_size t l) (high_size t l) narrow.rows.high_most below f (λ r x p q. rw (are.high_rows r x p q) (narrow.rows.high_half r x p q));
}

-- the low quarter alone
pub low_small : (t : Transform) (l : Scale) (plane low : List ℤ) → length low ≡ low_size t l * low_size t l → IsNarrow t l plane (cell (low_size t l) low) → AllWithin 16382 low
low_small t l plane low e narrow =
    let both = narrow.quarters.both_fit in
    all_more narrow.quarters.low_most 16382 low (omega (arith, both)) (cells_within (low_size t l) (low_size t l) narrow.quarters.low_most low e narrow.quarters.low_half)

-- a level is what its columns are joined to
pub level_of_rows : (t : Transform) (l : Scale) (plane : List ℤ) (ll : ℕ → ℕ → ℤ) (above below : List ℤ) → AreRows t l plane ll above below → (y x : ℕ) → y < line_size t l → x < line_size t l → joined t l (column (line_size t l) above x) (column (line_size t l) below x) y ≡ level_of t l plane ll y x
unfolding level_of level_joined
level_of_rows t l plane ll above below are y x p q =
    joined_same t l _ _ _ _ (λ r h. are.low_rows r x h q) (λ r h. are.high_rows r x h q) y p

-- a level depends on the places of its low quarter alone
pub level_same : (t : Transform) (l : Scale) (plane : List ℤ) (ll other : ℕ → ℕ → ℤ) → ((r c : ℕ) → r < low_size t l → c < low_size t l → ll r c ≡ other r c) → (y x : ℕ) → y < line_size t l → x < line_size t l → level_of t l plane ll y x ≡ level_of t l plane other y x
unfolding level_of
level_same t l plane ll other same = level_joined_same t l _ _ _ _ _ _ _ _ same (λ _ _ _ _. refl) (λ _ _ _ _. refl) (λ _ _ _ _. refl)

pub narrow_same : (t : Transform) (l : Scale) (plane : List ℤ) (ll other : ℕ → ℕ → ℤ) → ((r c : ℕ) → r < low_size t l → c < low_size t l → ll r c ≡ other r c) → IsNarrow t l plane other → IsNarrow t l plane ll
narrow_same t l plane ll other same narrow = record {
  quarters = record {
    low_most = narrow.quarters.low_most;
    high_most = narrow.quarters.high_most;
    high_fits = narrow.quarters.high_fits;
    both_fit = narrow.quarters.both_fit;
    low_half = λ r c p q. rw (same r c p q) (narrow.quarters.low_half r c p q);
    high_half = narrow.quarters.high_half;
  };
  rows = record {
    low_most = narrow.rows.low_most;
    high_most = narrow.rows.high_most;
    high_fits = narrow.rows.high_fits;
    both_fit = narrow.rows.both_fit;
    low_half = λ r x p q. subst (Within narrow.rows.low_most) (sym (joined_same t l _ _ _ _ (λ k h. same r k p h) (λ _ _. refl) x q)) (narrow.rows.low_half r x p q);
    high_half = narrow.rows.high_half;
  };
}

-- the three levels are such levels
pub third_is : (t : Transform) (plane : List ℤ) (y x : ℕ) → y < line_size t Third → x < line_size t Third → level_of t Third plane (coefficient t plane Ll3) y x ≡ third_level t plane y x
unfolding third_level level_of
third_is Plain plane y x p q = refl
third_is Reduced plane y x p q = refl

pub second_is : (t : Transform) (plane : List ℤ) (y x : ℕ) → y < line_size t Second → x < line_size t Second → level_of t Second plane (third_level t plane) y x ≡ second_level t plane y x
unfolding second_level level_of
second_is Plain plane y x p q = refl
second_is Reduced plane y x p q = refl

pub sample_is : (t : Transform) (plane : List ℤ) (y x : ℕ) → y < line_size t First → x < line_size t First → level_of t First plane (second_level t plane) y x ≡ sample t plane y x
unfolding sample level_of
sample_is Plain plane y x p q = refl
sample_is Reduced plane y x p q = refl

-- LL3 stands at the plane's end
pub last_is : (t : Transform) (plane : List ℤ) (r c : ℕ) → at plane (4096 - low_size t Third * low_size t Third + (r * low_size t Third + c)) ≡ coefficient t plane Ll3 r c
last_is Plain plane r c = refl
last_is Reduced plane r c = refl

pub third_fits : (t : Transform) → low_size t Third * low_size t Third ≤ 4096
third_fits Plain = lit≤ tt
third_fits Reduced = lit≤ tt

-- where a level's part and its low quarter stand
pub record AreSizes (t : Transform) (l : Scale) : Type 0 where
  pub ends : part_start t l + low_start t l ≡ 4096 - low_size t l * low_size t l
  pub whole : part_start t l + line_size t l * line_size t l ≡ 4096
  pub small : line_size t l * line_size t l ≡ low_start t l + low_size t l * low_size t l

pub sizes : (t : Transform) (l : Scale) → AreSizes t l
sizes Plain First = record { ends = refl; whole = refl; small = refl }
sizes Plain Second = record { ends = refl; whole = refl; small = refl }
sizes Plain Third = record { ends = refl; whole = refl; small = refl }
sizes Reduced First = record { ends = refl; whole = refl; small = refl }
sizes Reduced Second = record { ends = refl; whole = refl; small = refl }
sizes Reduced Third = record { ends = refl; whole = refl; small = refl }

-- the bands of a level as a part of its plane
pub bands_strip : (t : Transform) (l : Scale) (plane : List ℤ) (a b : ℕ) → a ≡ part_start t l → b ≡ low_start t l → length plane ≡ 4096 → (length (take b (drop a plane)) ≡ low_start t l) × AreBands t l plane (take b (drop a plane))
bands_strip t l plane a b e f g =
    let s = sizes t l in
    let whole = s.whole in
    let small = s.small in
    let long : length (take b (drop a plane)) ≡ b = omega (arith, e, f, g, length-take {A = ℤ}, length-drop {A = ℤ}) in
    (long ∙ f, λ k h. strip_at a b plane k (omega (arith, f)) ∙ ap (λ n. at plane (n + k)) e)
