-- What the levels of the way forward leave in the plane.
use Rattle.std.proofs.Common.{◌≡◌, ℕ, ◌+◌, ◌*◌, ◌<◌, ◌≤◌, ℤ, pos, List, length, drop, zero-add, arith, ap, sym, refl, ◌∙◌}
use Rattle.std.proofs.lemmas.List.{get_or-drop}
use borrow.Rule.Slice.PartMut.{put_mid}
use Rattle.gfx_dwt.specs.declared.layout.Transform.{Transform}
use Rattle.gfx_dwt.specs.declared.layout.Transform.TheVariants.{Plain, Reduced}
use Rattle.gfx_dwt.specs.declared.layout.Scale.{Scale}
use Rattle.gfx_dwt.specs.declared.layout.Scale.TheVariants.{First, Second, Third}
use Rattle.gfx_dwt.specs.declared.layout.Band.{Band}
use Rattle.gfx_dwt.specs.declared.layout.Band.TheVariants.{Hl1, Lh1, Hh1, Hl2, Lh2, Hh2, Hl3, Lh3, Hh3, Ll3}
use Rattle.gfx_dwt.specs.Coefficients.{Half, Low, High, half, split, IsSplitAt, second_source, third_source, transformed}
use Rattle.gfx_dwt.specs.Place.{low_size, high_size, line_size, part_start, low_start, start, columns, rows, coefficient}
use Rattle.gfx_dwt.specs.Ranges.{at}
use Rattle.gfx_dwt.specs.Samples.{cell, quarter}
use Rattle.gfx_dwt.proofs.Levels.{AreBandsOf, nested, first_bands, second_bands, third_bands}
use Rattle.gfx_dwt.proofs.Planes.{place_in}
use Rattle.gfx_dwt.proofs.SplitSame.{high_half_same, low_half_same}
use Rattle.gfx_dwt.proofs.Strips.{mid_within}

-- how many places a half has
abbrev pub half_size : Half → Transform → Scale → ℕ
half_size Low = low_size
half_size High = high_size

half_same : (h : Half) (t : Transform) (l : Scale) (line other : ℕ → ℤ) → ((k : ℕ) → k < line_size t l → line k ≡ other k) → (n : ℕ) → n < half_size h t l → half h t l line n ≡ half h t l other n
unfolding half
half_same Low t l line other same n h = low_half_same t l line other same n h
half_same High t l line other same n h = high_half_same t l line other same n h

-- a quarter depends on the plane's places alone
pub split_same : (t : Transform) (l : Scale) (across down : Half) (source other : ℕ → ℕ → ℤ) → ((y x : ℕ) → y < line_size t l → x < line_size t l → source y x ≡ other y x) → (r c : ℕ) → r < half_size down t l → c < half_size across t l → split t l across down source r c ≡ split t l across down other r c
unfolding split
split_same t l across down source other same r c h k =
    half_same across t l _ _ (λ x p. half_same down t l _ _ (λ y q. same y x q p) r h) c k

pub split_at_same : (t : Transform) (l : Scale) (s : ℕ) (source other : ℕ → ℕ → ℤ) (now : List ℤ) → ((y x : ℕ) → y < line_size t l → x < line_size t l → source y x ≡ other y x) → IsSplitAt t l s source now → IsSplitAt t l s other now
split_at_same t l s source other now same q = record {
  low_low = λ r c h k. q.low_low r c h k ∙ split_same t l Low Low source other same r c h k;
  high_low = λ r c h k. q.high_low r c h k ∙ split_same t l High Low source other same r c h k;
  low_high = λ r c h k. q.low_high r c h k ∙ split_same t l Low High source other same r c h k;
  high_high = λ r c h k. q.high_high r c h k ∙ split_same t l High High source other same r c h k;
}

-- a part of the plane with its quarters is put into the plane
moved_place : (s k i z : ℕ) (plane part : List ℤ) → s ≤ length plane → i + z < length part → at (put_mid s k plane part) (s + i + z) ≡ at part (0 + i + z)
moved_place s k i z plane part h p =
    let e : s + i + z ≡ s + (i + z) = omega arith in
    let f : 0 + i + z ≡ i + z = omega arith in
    rw (e, f) (mid_within s k plane part (i + z) p h)

pub moved : (t : Transform) (l : Scale) (s k : ℕ) (source : ℕ → ℕ → ℤ) (plane part : List ℤ) → IsSplitAt t l 0 source part → length part ≡ line_size t l * line_size t l → s ≤ length plane → IsSplitAt t l s source (put_mid s k plane part)
moved t l s k source plane part q len h =
    let n = low_size t l in
    let m = high_size t l in
    record {
      low_low = λ r c p d.
          let i = place_in n n r c p d in
          moved_place s k (low_start t l) (r * n + c) plane part h (omega arith) ∙ q.low_low r c p d;
      high_low = λ r c p d.
          let i = place_in m n r c p d in
          mid_within s k plane part (r * m + c) (omega arith) h ∙ ap (at part) (sym (zero-add (r * m + c))) ∙ q.high_low r c p d;
      low_high = λ r c p d.
          let i = place_in n m r c p d in
          moved_place s k (n * m) (r * n + c) plane part h (omega arith) ∙ q.low_high r c p d;
      high_high = λ r c p d.
          let i = place_in m m r c p d in
          moved_place s k (n * m + m * n) (r * m + c) plane part h (omega arith) ∙ q.high_high r c p d;
    }

-- the bands of a level, where it has been split
pub record AreSplitBands (t : Transform) (l : Scale) (hl lh hh : Band) (source : ℕ → ℕ → ℤ) (now : List ℤ) : Type 0 where
  pub hl_is : (r c : ℕ) → r < low_size t l → c < high_size t l → coefficient t now hl r c ≡ split t l High Low source r c
  pub lh_is : (r c : ℕ) → r < high_size t l → c < low_size t l → coefficient t now lh r c ≡ split t l Low High source r c
  pub hh_is : (r c : ℕ) → r < high_size t l → c < high_size t l → coefficient t now hh r c ≡ split t l High High source r c

-- the plane afterwards, of which the places before the low quarter have stayed
pub split_bands : (t : Transform) (l : Scale) (hl lh hh : Band) → AreBandsOf t l hl lh hh → (source : ℕ → ℕ → ℤ) (now after : List ℤ) → IsSplitAt t l (part_start t l) source now → ((k : ℕ) → k < part_start t l + low_start t l → at after k ≡ at now k) → AreSplitBands t l hl lh hh source after
split_bands t l hl lh hh b source now after q kept =
    let n = low_size t l in
    let m = high_size t l in
    let s = part_start t l in
    record {
      hl_is = λ r c p d.
          let i = place_in m n r c p d in
          let place : start t hl + (r * columns t hl + c) ≡ s + (r * m + c) = rw (b.hl_start, b.hl_columns) refl in
          ap (at after) place ∙ kept (s + (r * m + c)) (omega arith) ∙ q.high_low r c p d;
      lh_is = λ r c p d.
          let i = place_in n m r c p d in
          let place : start t lh + (r * columns t lh + c) ≡ s + n * m + (r * n + c) = rw (b.lh_start, b.lh_columns) refl in
          ap (at after) place ∙ kept (s + n * m + (r * n + c)) (omega arith) ∙ q.low_high r c p d;
      hh_is = λ r c p d.
          let i = place_in m m r c p d in
          let place : start t hh + (r * columns t hh + c) ≡ s + (n * m + m * n) + (r * m + c) = rw (b.hh_start, b.hh_columns) refl in
          ap (at after) place ∙ kept (s + (n * m + m * n) + (r * m + c)) (omega arith) ∙ q.high_high r c p d;
    }

-- what a level takes is what the level before left in its low quarter
next_source : (s w : ℕ) (p : List ℤ) (y x : ℕ) → cell w (drop s p) y x ≡ quarter s w p y x
next_source s w p y x = get_or-drop s p (y * w + x) (pos 0)

-- the three levels one after the other
pub record AreSplit (t : Transform) (p0 p1 p2 p3 : List ℤ) : Type 0 where
  pub first : IsSplitAt t First (part_start t First) (cell (line_size t First) (drop (part_start t First) p0)) p1
  pub second : IsSplitAt t Second (part_start t Second) (cell (line_size t Second) (drop (part_start t Second) p1)) p2
  pub second_keeps : (k : ℕ) → k < part_start t Second → at p2 k ≡ at p1 k
  pub third : IsSplitAt t Third (part_start t Third) (cell (line_size t Third) (drop (part_start t Third) p2)) p3
  pub third_keeps : (k : ℕ) → k < part_start t Third → at p3 k ≡ at p2 k

whole_place : (t : Transform) (p : List ℤ) (y x : ℕ) → quarter (part_start t First) (line_size t First) p y x ≡ cell 64 p y x
whole_place Plain p y x = ap (at p) (zero-add (y * 64 + x))
whole_place Reduced p y x = ap (at p) (zero-add (y * 64 + x))

first_split : (t : Transform) (p0 p1 p2 p3 : List ℤ) → AreSplit t p0 p1 p2 p3 → IsSplitAt t First (part_start t First) (cell 64 p0) p1
first_split t p0 p1 p2 p3 a =
    let b = nested t in
    split_at_same t First (part_start t First) _ _ p1
    (λ y x _ _. next_source (part_start t First) (line_size t First) p0 y x ∙ whole_place t p0 y x) a.first

second_split : (t : Transform) (p0 p1 p2 p3 : List ℤ) → AreSplit t p0 p1 p2 p3 → IsSplitAt t Second (part_start t Second) (second_source t p0) p2
unfolding second_source
second_split t p0 p1 p2 p3 a =
    let b = nested t in
    let q = first_split t p0 p1 p2 p3 a in
    split_at_same t Second (part_start t Second) _ _ p2
    (λ y x h k. next_source (part_start t Second) (line_size t Second) p1 y x
    ∙ rw (b.second_start, b.second_size) (q.low_low y x (rw (sym b.second_size) h) (rw (sym b.second_size) k))) a.second

third_split : (t : Transform) (p0 p1 p2 p3 : List ℤ) → AreSplit t p0 p1 p2 p3 → IsSplitAt t Third (part_start t Third) (third_source t p0) p3
unfolding third_source
third_split t p0 p1 p2 p3 a =
    let b = nested t in
    let q = second_split t p0 p1 p2 p3 a in
    split_at_same t Third (part_start t Third) _ _ p3
    (λ y x h k. next_source (part_start t Third) (line_size t Third) p2 y x
    ∙ rw (b.third_start, b.third_size) (q.low_low y x (rw (sym b.third_size) h) (rw (sym b.third_size) k))) a.third

pub first_is : (t : Transform) (p0 p1 p2 p3 : List ℤ) → AreSplit t p0 p1 p2 p3 → AreSplitBands t First Hl1 Lh1 Hh1 (cell 64 p0) p3
first_is t p0 p1 p2 p3 a =
    let b = nested t in
    let second_start = b.second_start in
    let third_start = b.third_start in
    split_bands t First Hl1 Lh1 Hh1 (first_bands t) (cell 64 p0) p1 p3 (first_split t p0 p1 p2 p3 a)
    (λ k h. a.third_keeps k (omega arith) ∙ a.second_keeps k (omega arith))

pub second_is : (t : Transform) (p0 p1 p2 p3 : List ℤ) → AreSplit t p0 p1 p2 p3 → AreSplitBands t Second Hl2 Lh2 Hh2 (second_source t p0) p3
second_is t p0 p1 p2 p3 a =
    let b = nested t in
    let third_start = b.third_start in
    split_bands t Second Hl2 Lh2 Hh2 (second_bands t) (second_source t p0) p2 p3 (second_split t p0 p1 p2 p3 a)
    (λ k h. a.third_keeps k (omega arith))

pub third_is : (t : Transform) (p0 p1 p2 p3 : List ℤ) → AreSplit t p0 p1 p2 p3 → AreSplitBands t Third Hl3 Lh3 Hh3 (third_source t p0) p3
third_is t p0 p1 p2 p3 a =
    split_bands t Third Hl3 Lh3 Hh3 (third_bands t) (third_source t p0) p3 p3 (third_split t p0 p1 p2 p3 a) (λ k h. refl)

pub last_is : (t : Transform) (p0 p1 p2 p3 : List ℤ) → AreSplit t p0 p1 p2 p3 → (r c : ℕ) → r < low_size t Third → c < low_size t Third → coefficient t p3 Ll3 r c ≡ split t Third Low Low (third_source t p0) r c
last_is t p0 p1 p2 p3 a r c h k =
    let b = nested t in
    let q = third_split t p0 p1 p2 p3 a in
    let place : start t Ll3 + (r * columns t Ll3 + c) ≡ part_start t Third + low_start t Third + (r * low_size t Third + c) = rw (b.last_start, b.last_columns) refl in
    ap (at p3) place ∙ q.low_low r c h k

pub transformed_is : (t : Transform) (p0 p1 p2 p3 : List ℤ) → AreSplit t p0 p1 p2 p3 → (band : Band) (r c : ℕ) → r < rows t band → c < columns t band → coefficient t p3 band r c ≡ transformed t p0 band r c
unfolding transformed
transformed_is t p0 p1 p2 p3 a Hl1 r c h k = let b = first_is t p0 p1 p2 p3 a in b.hl_is r c h k
transformed_is t p0 p1 p2 p3 a Lh1 r c h k = let b = first_is t p0 p1 p2 p3 a in b.lh_is r c h k
transformed_is t p0 p1 p2 p3 a Hh1 r c h k = let b = first_is t p0 p1 p2 p3 a in b.hh_is r c h k
transformed_is t p0 p1 p2 p3 a Hl2 r c h k = let b = second_is t p0 p1 p2 p3 a in b.hl_is r c h k
transformed_is t p0 p1 p2 p3 a Lh2 r c h k = let b = second_is t p0 p1 p2 p3 a in b.lh_is r c h k
transformed_is t p0 p1 p2 p3 a Hh2 r c h k = let b = second_is t p0 p1 p2 p3 a in b.hh_is r c h k
transformed_is t p0 p1 p2 p3 a Hl3 r c h k = let b = third_is t p0 p1 p2 p3 a in b.hl_is r c h k
transformed_is t p0 p1 p2 p3 a Lh3 r c h k = let b = third_is t p0 p1 p2 p3 a in b.lh_is r c h k
transformed_is t p0 p1 p2 p3 a Hh3 r c h k = let b = third_is t p0 p1 p2 p3 a in b.hh_is r c h k
transformed_is t p0 p1 p2 p3 a Ll3 r c h k = last_is t p0 p1 p2 p3 a r c h k
