-- How large coefficients are after one, two and three levels.
use Rattle.std.proofs.Common.{◌≡◌, ℕ, ◌*◌, ◌^◌, ◌<◌, ℤ, List, length, lit≤, arith}
use Rattle.std.proofs.lemmas.Int.{ints}
use Rattle.gfx_dwt.specs.declared.layout.Transform.{Transform}
use Rattle.gfx_dwt.specs.declared.layout.Transform.TheVariants.{Plain, Reduced}
use Rattle.gfx_dwt.specs.declared.layout.Scale.{Scale}
use Rattle.gfx_dwt.specs.declared.layout.Scale.TheVariants.{First, Second, Third}
use Rattle.gfx_dwt.specs.Place.{high_size, line_size}
use Rattle.gfx_dwt.specs.Ranges.{AllSamples, AllWithin, IsSample, at}
use Rattle.gfx_dwt.specs.Samples.{cell, column}
use Rattle.gfx_dwt.specs.Splitting.{grows, high_half}
use Rattle.gfx_dwt.proofs.Planes.{all_more, cells_within, column_within}
use Rattle.gfx_dwt.proofs.SplitSame.{high_half_within}

pub samples_within : (xs : List ℤ) → AllSamples xs → AllWithin 8192 xs
samples_within xs all k p =
    let h : IsSample (at xs k) = all k p in
    record { low = omega (arith, ints); high = omega (arith, ints) }

pub bound_two : (t : Transform) (xs : List ℤ) → AllWithin (grows t First * (grows t First * 8192)) xs → AllWithin (2 ^ 26) xs
bound_two Plain xs all = all_more (2 * (2 * 8192)) (2 ^ 26) xs (lit≤ tt) all
bound_two Reduced xs all = all_more (3 * (3 * 8192)) (2 ^ 26) xs (lit≤ tt) all

pub bound_three : (t : Transform) (xs : List ℤ) → AllWithin (grows t Second * (grows t Second * (grows t First * (grows t First * 8192)))) xs → AllWithin (2 ^ 26) xs
bound_three Plain xs all = all_more (2 * (2 * (2 * (2 * 8192)))) (2 ^ 26) xs (lit≤ tt) all
bound_three Reduced xs all = all_more (2 * (2 * (3 * (3 * 8192)))) (2 ^ 26) xs (lit≤ tt) all

pub bound_all : (t : Transform) (xs : List ℤ) → AllWithin (grows t Third * (grows t Third * (grows t Second * (grows t Second * (grows t First * (grows t First * 8192)))))) xs → AllWithin 1179648 xs
bound_all Plain xs all = all_more (2 * (2 * (2 * (2 * (2 * (2 * 8192)))))) 1179648 xs (lit≤ tt) all
bound_all Reduced xs all = all_more (2 * (2 * (2 * (2 * (3 * (3 * 8192)))))) 1179648 xs (lit≤ tt) all

-- the high half of a plane's columns is within the plane's bound
pub high_plane_within : (t : Transform) (l : Scale) (w bound : ℕ) (source high : List ℤ) → w ≡ line_size t l → length source ≡ w * w → length high ≡ high_size t l * w → ((r x : ℕ) → r < high_size t l → x < w → cell w high r x ≡ high_half t l (column w source x) r) → AllWithin bound source → AllWithin bound high
high_plane_within t l w bound source high e f g highs all =
    cells_within w (high_size t l) bound high g
    (λ r x p q. rw (highs r x p q) (high_half_within t l bound (column w source x) (λ k h. column_within w w bound source f all x q k (omega (arith, e))) r p))
