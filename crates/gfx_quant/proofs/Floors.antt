-- Shifts to the right: one in two steps, and of what is counted from green.
use Rattle.std.proofs.Common.{◌≡◌, ℕ, ℤ, pos, negsuc, ◌+◌, ◌*◌, ◌+ℤ◌, ◌-ℤ◌, ◌*ℤ◌, ◌≤ℤ◌, ◌<ℤ◌, arith, ap, ◌∙◌}
use Rattle.std.proofs.lemmas.Int.{ints}
use Rattle.std.specs.Int.{int_shr}
use Rattle.gfx_quant.specs.Colour.{channel, clamped, lifted}

-- q is the floor of z / d
pub record Floor (d : ℕ) (z q : ℤ) : Type 0 where
  pub low : (pos d *ℤ q) ≤ℤ z
  pub high : z <ℤ (pos d *ℤ q +ℤ pos d)

floor_32 : (z : ℤ) → Floor 32 z (int_shr z 5)
floor_32 (pos n) = record { low = omega (arith, ints); high = omega (arith, ints) }
floor_32 (negsuc n) = record { low = omega (arith, ints); high = omega (arith, ints) }

pub floor_65536 : (z : ℤ) → Floor 65536 z (int_shr z 16)
floor_65536 (pos n) = record { low = omega (arith, ints); high = omega (arith, ints) }
floor_65536 (negsuc n) = record { low = omega (arith, ints); high = omega (arith, ints) }

floor_2097152 : (z : ℤ) → Floor 2097152 z (int_shr z 21)
floor_2097152 (pos n) = record { low = omega (arith, ints); high = omega (arith, ints) }
floor_2097152 (negsuc n) = record { low = omega (arith, ints); high = omega (arith, ints) }

one_floor : (z p q : ℤ) → Floor 2097152 z p → Floor 2097152 z q → p ≡ q
one_floor z p q f g = omega (arith, ints)

floors : (y added part q : ℤ) → Floor 65536 added part → Floor 32 (y +ℤ pos 4096 +ℤ part) q → Floor 2097152 (lifted y +ℤ added) q
floors y added part q f g = record { low = omega (arith, ints); high = omega (arith, ints) }

-- what is added to a channel may be cut to its whole part first
pub quick_level : (y added part level : ℤ) → part ≡ int_shr added 16 → level ≡ int_shr (y +ℤ pos 4096 +ℤ part) 5 → level ≡ int_shr (lifted y +ℤ added) 21
quick_level y added part level e f =
    let cut : Floor 65536 added part = rw e (floor_65536 added) in
    let here : Floor 32 (y +ℤ pos 4096 +ℤ part) level = rw f (floor_32 (y +ℤ pos 4096 +ℤ part)) in
    one_floor (lifted y +ℤ added) level (int_shr (lifted y +ℤ added) 21) (floors y added part level cut here) (floor_2097152 (lifted y +ℤ added))

pub quick_channel_is : (y added part level : ℤ) (byte : ℕ) → part ≡ int_shr added 16 → level ≡ int_shr (y +ℤ pos 4096 +ℤ part) 5 → byte ≡ clamped level → byte ≡ channel y added
unfolding channel
quick_channel_is y added part level byte e f g = g ∙ ap clamped (quick_level y added part level e f)

floor_2048 : (z : ℤ) → Floor 2048 z (int_shr z 11)
floor_2048 (pos n) = record { low = omega (arith, ints); high = omega (arith, ints) }
floor_2048 (negsuc n) = record { low = omega (arith, ints); high = omega (arith, ints) }

one_floor_2048 : (z p q : ℤ) → Floor 2048 z p → Floor 2048 z q → p ≡ q
one_floor_2048 z p q f g = omega (arith, ints)

-- what is a multiple of 2,048 may be added behind the shift
shifted_sum : (z more whole part sum : ℤ) → part ≡ int_shr z 11 → sum ≡ part +ℤ more → whole ≡ z +ℤ pos 2048 *ℤ more → sum ≡ int_shr whole 11
shifted_sum z more whole part sum e f g =
    let cut : Floor 2048 z part = rw e (floor_2048 z) in
    one_floor_2048 whole sum (int_shr whole 11) (record { low = omega (arith, ints); high = omega (arith, ints) }) (floor_2048 whole)

pub luma_is : (b g r : ℕ) (red blue total part luma : ℤ) → blue ≡ pos b -ℤ pos g → red ≡ pos r -ℤ pos g → total ≡ pos 19595 *ℤ red +ℤ pos 7471 *ℤ blue → part ≡ int_shr total 11 → luma ≡ part +ℤ pos 32 *ℤ pos g -ℤ pos 4096 → luma ≡ int_shr (pos (19595 * r + 38470 * g + 7471 * b) -ℤ pos (128 * 65536)) 11
luma_is b g r red blue total part luma d e f h i =
    shifted_sum total (pos 32 *ℤ pos g -ℤ pos 4096) _ part luma h (omega (arith, ints)) (omega (arith, ints))

pub chroma_blue_is : (b g r : ℕ) (red blue total part chroma : ℤ) → blue ≡ pos b -ℤ pos g → red ≡ pos r -ℤ pos g → total ≡ pos 39 *ℤ blue -ℤ pos 11071 *ℤ red → part ≡ int_shr total 11 → chroma ≡ part +ℤ pos 16 *ℤ blue → chroma ≡ int_shr (pos (32807 * b) -ℤ pos (11071 * r + 21736 * g)) 11
chroma_blue_is b g r red blue total part chroma d e f h i =
    shifted_sum total (pos 16 *ℤ blue) _ part chroma h (omega (arith, ints)) (omega (arith, ints))

pub chroma_red_total : (b g r : ℕ) (red blue total : ℤ) → blue ≡ pos b -ℤ pos g → red ≡ pos r -ℤ pos g → total ≡ pos 32756 *ℤ red -ℤ pos 5327 *ℤ blue → total ≡ pos (32756 * r) -ℤ pos (27429 * g + 5327 * b)
chroma_red_total b g r red blue total d e f = omega (arith, ints)
