-- Halves that are small enough for 16 bits.
use Rattle.std.proofs.Common.{◌≡◌, ℕ, ◌+◌, ◌*◌, ◌<◌, ℤ, List, length, arith}
use Rattle.gfx_dwt.specs.declared.layout.Transform.{Transform}
use Rattle.gfx_dwt.specs.declared.layout.Scale.{Scale}
use Rattle.gfx_dwt.specs.Joining.{even}
use Rattle.gfx_dwt.specs.Lifting.{even_of}
use Rattle.gfx_dwt.specs.Narrow.{AreSmall}
use Rattle.gfx_dwt.specs.Place.{high_size, low_size}
use Rattle.gfx_dwt.specs.Ranges.{AllWithin, Within, at}
use Rattle.gfx_dwt.specs.Samples.{cell, column}
use Rattle.gfx_dwt.proofs.Bounds.{even_of_within}
use Rattle.gfx_dwt.proofs.Planes.{all_at, all_more, column_within}
use Rattle.gfx_dwt.proofs.Same.{even_within, within_more}

pub small_low : (low high : List ℤ) → AreSmall low high → AllWithin 16382 low
small_low low high small = all_more small.low_most 16382 low (omega arith) small.low_half

pub small_high : (low high : List ℤ) → AreSmall low high → AllWithin 8191 high
small_high low high small = all_more small.high_most 8191 high small.high_fits small.high_half

-- an even sample of whatever places of the two halves
pub small_even : (t : Transform) (low high : List ℤ) → AreSmall low high → (i j k : ℕ) → Within 16382 (even_of t (at low i) (at high j) (at high k))
small_even t low high small i j k =
    within_more (small.low_most + small.high_most) 16382 _ small.both_fit
    (even_of_within t small.low_most small.high_most _ _ _ (all_at small.low_most low small.low_half i) (all_at small.high_most high small.high_half j) (all_at small.high_most high small.high_half k))

-- parts of both halves
pub small_parts : (low high less fewer : List ℤ) → AreSmall low high → ((bound : ℕ) → AllWithin bound low → AllWithin bound less) → ((bound : ℕ) → AllWithin bound high → AllWithin bound fewer) → AreSmall less fewer
small_parts low high less fewer small a b = record {
  low_most = small.low_most;
  high_most = small.high_most;
  high_fits = small.high_fits;
  both_fit = small.both_fit;
  low_half = a small.low_most small.low_half;
  high_half = b small.high_most small.high_half;
}

-- two parts of the high half
pub small_highs : (low high less fewer : List ℤ) → AreSmall low high → ((bound : ℕ) → AllWithin bound high → AllWithin bound less) → ((bound : ℕ) → AllWithin bound high → AllWithin bound fewer) → AreSmall less fewer
small_highs low high less fewer small a b =
    let most = small.high_fits in
    record {
      low_most = small.high_most;
      high_most = small.high_most;
      high_fits = most;
      both_fit = omega (arith, most);
      low_half = a small.high_most small.high_half;
      high_half = b small.high_most small.high_half;
    }

-- the high half of a row
pub small_row_high : (m rows : ℕ) (low high : List ℤ) → length high ≡ rows * m → AreSmall low high → (r : ℕ) → r < rows → (k : ℕ) → k < m → Within 8191 (cell m high r k)
small_row_high m rows low high e small r p k h =
    column_within m rows 8191 high e (small_high low high small) k h r p

-- the even samples of a row
pub small_row_even : (t : Transform) (l : Scale) (rows : ℕ) (low high : List ℤ) → length low ≡ rows * low_size t l → length high ≡ rows * high_size t l → AreSmall low high → (r : ℕ) → r < rows → (n : ℕ) → n < low_size t l → Within 16382 (even t l (cell (low_size t l) low r) (cell (high_size t l) high r) n)
small_row_even t l rows low high e f small r p n h =
    within_more (small.low_most + small.high_most) 16382 _ small.both_fit
    (even_within t l small.low_most small.high_most _ _
    (λ k q. column_within (low_size t l) rows small.low_most low e small.low_half k q r p)
    (λ k q. column_within (high_size t l) rows small.high_most high f small.high_half k q r p) n h)

-- the even samples of a column
pub small_column_even : (t : Transform) (l : Scale) (w : ℕ) (low high : List ℤ) → length low ≡ low_size t l * w → length high ≡ high_size t l * w → AreSmall low high → (x : ℕ) → x < w → (n : ℕ) → n < low_size t l → Within 16382 (even t l (column w low x) (column w high x) n)
small_column_even t l w low high e f small x p n h =
    within_more (small.low_most + small.high_most) 16382 _ small.both_fit
    (even_within t l small.low_most small.high_most _ _
    (column_within w (low_size t l) small.low_most low e small.low_half x p)
    (column_within w (high_size t l) small.high_most high f small.high_half x p) n h)
