-- How large the results of the arithmetic of one sample are.
use Rattle.std.proofs.Common.{◌≡◌, ℕ, ◌+◌, ◌*◌, ℤ, pos, negsuc, neg_ℤ, ◌+ℤ◌, ◌≤ℤ◌, to_z, of_z, w16, w32, ◌<◌, ◌^◌, arith}
use Rattle.std.proofs.lemmas.Int.{ints, to_z-of_z}
use lib.Signed.{mag}
use Rattle.gfx_dwt.specs.declared.layout.Transform.{Transform}
use Rattle.gfx_dwt.specs.declared.layout.Transform.TheVariants.{Plain, Reduced}
use Rattle.gfx_dwt.specs.Lifting.{halved, mean, even_of, odd_of, low_of, high_of}
use Rattle.gfx_dwt.specs.Ranges.{Within}

pub halved_above : (t : Transform) (b : ℕ) (z : ℤ) → z ≤ℤ pos (2 * b + 1) → halved t z ≤ℤ pos b
unfolding halved
halved_above Plain b (pos n) h = omega (arith, ints)
halved_above Plain b (negsuc n) h = omega (arith, ints)
halved_above Reduced b (pos n) h = omega (arith, ints)
halved_above Reduced b (negsuc n) h = omega (arith, ints)

pub halved_below : (t : Transform) (b : ℕ) (z : ℤ) → neg_ℤ (pos (2 * b)) ≤ℤ z → neg_ℤ (pos b) ≤ℤ halved t z
unfolding halved
halved_below Plain b (pos n) h = omega (arith, ints)
halved_below Plain b (negsuc n) h = omega (arith, ints)
halved_below Reduced b (pos n) h = omega (arith, ints)
halved_below Reduced b (negsuc n) h = omega (arith, ints)

pub halved_within : (t : Transform) (b : ℕ) (z : ℤ) → Within (2 * b) z → Within b (halved t z)
halved_within t b z h = record { low = halved_below t b z h.low; high = halved_above t b z (omega (arith, ints)) }

pub mean_within : (t : Transform) (b : ℕ) (x y : ℤ) → Within b x → Within b y → Within b (mean t x y)
mean_within Plain b x y p q = record {
  low = halved_below Plain b _ (omega (arith, ints));
  high = halved_above Plain b _ (omega (arith, ints));
}
mean_within Reduced b x y p q = record {
  low = halved_below Reduced b _ (omega (arith, ints));
  high = halved_above Reduced b _ (omega (arith, ints));
}

pub even_of_within : (t : Transform) (a m : ℕ) (low before here : ℤ) → Within a low → Within m before → Within m here → Within (a + m) (even_of t low before here)
even_of_within t a m low before here p q r =
    let s : Within m (mean t before here) = mean_within t m before here q r in
    record { low = omega (arith, ints); high = omega (arith, ints) }

pub odd_of_within : (t : Transform) (e m : ℕ) (high left right : ℤ) → Within m high → Within e left → Within e right → Within (e + 2 * m) (odd_of t high left right)
odd_of_within t e m high left right p q r =
    let above : halved t (left +ℤ right) ≤ℤ pos e = halved_above t e _ (omega (arith, ints)) in
    let below : neg_ℤ (pos e) ≤ℤ halved t (left +ℤ right) = halved_below t e _ (omega (arith, ints)) in
    record { low = omega (arith, ints); high = omega (arith, ints) }

-- a number that fits 32 bits is read back from them
pub bits_of_small : (z : ℤ) → mag z < 2 ^ 31 → to_z w32 (of_z w32 z) ≡ z
bits_of_small z h = to_z-of_z w32 z (record { sfits = h })

pub bits_of_within : (b : ℕ) (z : ℤ) → b < 2 ^ 31 → Within b z → to_z w32 (of_z w32 z) ≡ z
bits_of_within b (pos n) l h = bits_of_small (pos n) (omega (arith, ints))
bits_of_within b (negsuc n) l h = bits_of_small (negsuc n) (omega (arith, ints))

-- a number that fits 16 bits is read back from them
pub bits_of_short : (z : ℤ) → mag z < 2 ^ 15 → to_z w16 (of_z w16 z) ≡ z
bits_of_short z h = to_z-of_z w16 z (record { sfits = h })

pub bits_of_narrow : (b : ℕ) (z : ℤ) → b < 2 ^ 15 → Within b z → to_z w16 (of_z w16 z) ≡ z
bits_of_narrow b (pos n) l h = bits_of_short (pos n) (omega (arith, ints))
bits_of_narrow b (negsuc n) l h = bits_of_short (negsuc n) (omega (arith, ints))

pub high_of_within : (t : Transform) (b : ℕ) (odd left right : ℤ) → Within b odd → Within b left → Within b right → Within b (high_of t odd left right)
high_of_within t b odd left right p q r =
    let above : halved t (left +ℤ right) ≤ℤ pos b = halved_above t b _ (omega (arith, ints)) in
    let below : neg_ℤ (pos b) ≤ℤ halved t (left +ℤ right) = halved_below t b _ (omega (arith, ints)) in
    halved_within t b _ (record { low = omega (arith, ints); high = omega (arith, ints) })

pub low_of_within : (t : Transform) (a m : ℕ) (even before here : ℤ) → Within a even → Within m before → Within m here → Within (a + m) (low_of t even before here)
low_of_within t a m even before here p q r =
    let s : Within m (mean t before here) = mean_within t m before here q r in
    record { low = omega (arith, ints); high = omega (arith, ints) }

pub low_of_noughts : (z : ℤ) → low_of Reduced z (pos 0) (pos 0) ≡ z
unfolding halved
low_of_noughts z = omega (arith, ints)

pub even_of_noughts : (z : ℤ) → even_of Reduced z (pos 0) (pos 0) ≡ z
unfolding halved
even_of_noughts z = omega (arith, ints)
