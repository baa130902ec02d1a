-- The parts of the plane that the levels fill, and what the levels give there.
use Rattle.std.proofs.Common.{◌≡◌, ℕ, ◌+◌, ◌-◌, ◌*◌, ◌<◌, ◌≤◌, ℤ, pos, List, length, drop, arith, zero-add, ap, sym, refl, lit≤, ◌∙◌}
use Rattle.std.proofs.lemmas.List.{get_or-drop}
use Rattle.gfx_dwt.specs.declared.layout.Transform.{Transform}
use Rattle.gfx_dwt.specs.declared.layout.Transform.TheVariants.{Plain, Reduced}
use Rattle.gfx_dwt.specs.declared.layout.Scale.{Scale}
use Rattle.gfx_dwt.specs.declared.layout.Scale.TheVariants.{First, Second, Third}
use Rattle.gfx_dwt.specs.declared.layout.Band.{Band}
use Rattle.gfx_dwt.specs.declared.layout.Band.TheVariants.{Hl1, Lh1, Hh1, Hl2, Lh2, Hh2, Hl3, Lh3, Hh3, Ll3}
use Rattle.gfx_dwt.specs.Place.{low_size, high_size, line_size, part_start, low_start, start, columns, coefficient}
use Rattle.gfx_dwt.specs.Ranges.{Within, AllWithin, at}
use Rattle.gfx_dwt.specs.Samples.{level_joined, part_joined, third_level, second_level, sample}
use Rattle.gfx_dwt.proofs.Planes.{level_joined_same, level_joined_within, place_in, all_at}

-- the places of a level's three bands
pub record AreBandsOf (t : Transform) (l : Scale) (hl lh hh : Band) : Type 0 where
  pub hl_start : start t hl ≡ part_start t l
  pub lh_start : start t lh ≡ part_start t l + low_size t l * high_size t l
  pub hh_start : start t hh ≡ part_start t l + (low_size t l * high_size t l + high_size t l * low_size t l)
  pub hl_columns : columns t hl ≡ high_size t l
  pub lh_columns : columns t lh ≡ low_size t l
  pub hh_columns : columns t hh ≡ high_size t l

pub first_bands : (t : Transform) → AreBandsOf t First Hl1 Lh1 Hh1
first_bands Plain = record { hl_start = refl; lh_start = refl; hh_start = refl; hl_columns = refl; lh_columns = refl; hh_columns = refl }
first_bands Reduced = record { hl_start = refl; lh_start = refl; hh_start = refl; hl_columns = refl; lh_columns = refl; hh_columns = refl }

pub second_bands : (t : Transform) → AreBandsOf t Second Hl2 Lh2 Hh2
second_bands Plain = record { hl_start = refl; lh_start = refl; hh_start = refl; hl_columns = refl; lh_columns = refl; hh_columns = refl }
second_bands Reduced = record { hl_start = refl; lh_start = refl; hh_start = refl; hl_columns = refl; lh_columns = refl; hh_columns = refl }

pub third_bands : (t : Transform) → AreBandsOf t Third Hl3 Lh3 Hh3
third_bands Plain = record { hl_start = refl; lh_start = refl; hh_start = refl; hl_columns = refl; lh_columns = refl; hh_columns = refl }
third_bands Reduced = record { hl_start = refl; lh_start = refl; hh_start = refl; hl_columns = refl; lh_columns = refl; hh_columns = refl }

pub square_fits : (t : Transform) (l : Scale) → line_size t l * line_size t l ≤ 4096
square_fits Plain First = lit≤ tt
square_fits Plain Second = lit≤ tt
square_fits Plain Third = lit≤ tt
square_fits Reduced First = lit≤ tt
square_fits Reduced Second = lit≤ tt
square_fits Reduced Third = lit≤ tt

-- the low quarter of a level is the part of the next, and that of the third is a band
pub record AreNested (t : Transform) : Type 0 where
  pub whole : line_size t First ≡ 64
  pub second_size : line_size t Second ≡ low_size t First
  pub third_size : line_size t Third ≡ low_size t Second
  pub second_start : part_start t Second ≡ part_start t First + low_start t First
  pub third_start : part_start t Third ≡ part_start t Second + low_start t Second
  pub last_start : start t Ll3 ≡ part_start t Third + low_start t Third
  pub last_columns : columns t Ll3 ≡ low_size t Third

pub nested : (t : Transform) → AreNested t
nested Plain = record { whole = refl; second_size = refl; third_size = refl; second_start = refl; third_start = refl; last_start = refl; last_columns = refl }
nested Reduced = record { whole = refl; second_size = refl; third_size = refl; second_start = refl; third_start = refl; last_start = refl; last_columns = refl }

-- a level of a plane whose low quarter is known, and which else is as it was
pub level_from : (t : Transform) (l : Scale) (hl lh hh : Band) → AreBandsOf t l hl lh hh → (now was : List ℤ) (deeper : ℕ → ℕ → ℤ) → ((k : ℕ) → k < part_start t l + low_start t l → at now k ≡ at was k) → ((r c : ℕ) → r < low_size t l → c < low_size t l → at now (part_start t l + low_start t l + (r * low_size t l + c)) ≡ deeper r c) → (y x : ℕ) → y < line_size t l → x < line_size t l → part_joined t l (drop (part_start t l) now) y x ≡ level_joined t l deeper (coefficient t was hl) (coefficient t was lh) (coefficient t was hh) y x
unfolding part_joined
level_from t l hl lh hh b now was deeper kept low y x p q =
    let n = low_size t l in
    let m = high_size t l in
    let s = part_start t l in
    let read : (k : ℕ) → at (drop s now) k ≡ at now (s + k) = λ k. get_or-drop s now k (pos 0) in
    level_joined_same t l _ _ _ _ _ _ _ _
    (λ r c h k. read (low_start t l + (r * n + c)) ∙ ap (at now) (omega arith) ∙ low r c h k)
    (λ r c h k.
    let in_hl = place_in m n r c h k in
    read (0 + (r * m + c)) ∙ kept (s + (0 + (r * m + c))) (omega arith) ∙ ap (at was) (rw (b.hl_start, b.hl_columns) (omega arith)))
    (λ r c h k.
    let in_lh = place_in n m r c h k in
    read (n * m + (r * n + c)) ∙ kept (s + (n * m + (r * n + c))) (omega arith) ∙ ap (at was) (rw (b.lh_start, b.lh_columns) (omega arith)))
    (λ r c h k.
    let in_hh = place_in m m r c h k in
    read (n * m + m * n + (r * m + c)) ∙ kept (s + (n * m + m * n + (r * m + c))) (omega arith) ∙ ap (at was) (rw (b.hh_start, b.hh_columns) (omega arith)))
    y x p q

-- what stands in the plane where a level has been joined
abbrev pub IsLevelOf : Transform → Scale → List ℤ → List ℤ → Type 0
IsLevelOf t l was now = (y x : ℕ) → y < line_size t l → x < line_size t l → at now (part_start t l + (y * line_size t l + x)) ≡ part_joined t l (drop (part_start t l) was) y x

-- the places before a level's part are as they were
abbrev pub KeepsBefore : Transform → Scale → List ℤ → List ℤ → Type 0
KeepsBefore t l was now = (k : ℕ) → k < part_start t l → at now k ≡ at was k

pub third_is : (t : Transform) (p0 p1 : List ℤ) → IsLevelOf t Third p0 p1 → (y x : ℕ) → y < line_size t Third → x < line_size t Third → at p1 (part_start t Third + (y * line_size t Third + x)) ≡ third_level t p0 y x
unfolding third_level
third_is t p0 p1 e y x p q =
    let b = nested t in
    e y x p q
    ∙ level_from t Third Hl3 Lh3 Hh3 (third_bands t) p0 p0 (coefficient t p0 Ll3) (λ k _. refl)
    (λ r c _ _. ap (at p0) (rw (b.last_start, b.last_columns) refl)) y x p q

pub second_is : (t : Transform) (p0 p1 p2 : List ℤ) → IsLevelOf t Third p0 p1 → KeepsBefore t Third p0 p1 → IsLevelOf t Second p1 p2 → (y x : ℕ) → y < line_size t Second → x < line_size t Second → at p2 (part_start t Second + (y * line_size t Second + x)) ≡ second_level t p0 y x
unfolding second_level
second_is t p0 p1 p2 e1 k1 e y x p q =
    let b = nested t in
    e y x p q
    ∙ level_from t Second Hl2 Lh2 Hh2 (second_bands t) p1 p0 (third_level t p0)
    (λ k h. k1 k (rw b.third_start h))
    (λ r c h k. rw (b.third_start, b.third_size) at (third_is t p0 p1 e1 r c (rw b.third_size h) (rw b.third_size k))) y x p q

pub sample_is : (t : Transform) (p0 p1 p2 p3 : List ℤ) → IsLevelOf t Third p0 p1 → KeepsBefore t Third p0 p1 → IsLevelOf t Second p1 p2 → KeepsBefore t Second p1 p2 → IsLevelOf t First p2 p3 → (y x : ℕ) → y < 64 → x < 64 → at p3 (y * 64 + x) ≡ sample t p0 y x
unfolding sample
sample_is t p0 p1 p2 p3 e1 k1 e2 k2 e y x p q =
    let b = nested t in
    let earlier : part_start t Second ≤ part_start t Third = omega (arith, b.third_start) in
    let i : y * 64 + x ≡ part_start t First + (y * line_size t First + x) = rw b.whole (sym (zero-add (y * 64 + x))) in
    ap (at p3) i
    ∙ e y x (rw b.whole p) (rw b.whole q)
    ∙ level_from t First Hl1 Lh1 Hh1 (first_bands t) p2 p0 (second_level t p0)
    (λ k h.
    let before : k < part_start t Second = rw b.second_start h in
    k2 k before ∙ k1 k (omega arith))
    (λ r c h k. rw (b.second_start, b.second_size) at (second_is t p0 p1 p2 e1 k1 e2 r c (rw b.second_size h) (rw b.second_size k))) y x (rw b.whole p) (rw b.whole q)

-- a level that is joined at the end of a whole plane
pub level_at_end : (t : Transform) (l : Scale) (was now : List ℤ) → length was ≡ 4096 → ((y x : ℕ) → y < line_size t l → x < line_size t l → at now (length was - line_size t l * line_size t l + (y * line_size t l + x)) ≡ part_joined t l (drop (length was - line_size t l * line_size t l) was) y x) → IsLevelOf t l was now
level_at_end t l was now e each = rw e at each

pub kept_at_end : (t : Transform) (l : Scale) (was now : List ℤ) → length was ≡ 4096 → ((k : ℕ) → k < length was - line_size t l * line_size t l → at now k ≡ at was k) → KeepsBefore t l was now
kept_at_end t l was now e kept = rw e at kept

-- how large samples are
pub sample_within : (t : Transform) (bound : ℕ) (p0 : List ℤ) → AllWithin bound p0 → (y x : ℕ) → y < 64 → x < 64 → Within (bound + 15 * bound + 15 * bound + 15 * bound) (sample t p0 y x)
unfolding sample second_level third_level
sample_within t bound p0 all y x p q =
    let b = nested t in
    let w = all_at bound p0 all in
    level_joined_within t First (bound + 15 * bound + 15 * bound) bound _ _ _ _
    (λ r c h k. level_joined_within t Second (bound + 15 * bound) bound _ _ _ _
    (λ r c h k. level_joined_within t Third bound bound _ _ _ _ (λ _ _ _ _. w _) (λ _ _ _ _. w _) (λ _ _ _ _. w _) (λ _ _ _ _. w _) r c (rw b.third_size h) (rw b.third_size k))
    (λ _ _ _ _. w _) (λ _ _ _ _. w _) (λ _ _ _ _. w _) r c (rw b.second_size h) (rw b.second_size k))
    (λ _ _ _ _. w _) (λ _ _ _ _. w _) (λ _ _ _ _. w _) y x (rw b.whole p) (rw b.whole q)
