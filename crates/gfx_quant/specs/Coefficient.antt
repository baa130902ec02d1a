-- Coefficients and the values that are coded in their place ([MS-RDPRFX] 3.1.8.1.5; [MS-RDPEGFX], RFX_PROGRESSIVE_CODEC_QUANT).
-- Rounding to the nearest value is this project's own rule.
use Prim.Native.Nat.{suc}
use Rattle.std.specs.Prelude.{ℕ, min, ◌+◌, ◌-◌, ◌/◌, ◌^◌, ℤ, pos, negsuc, neg_ℤ, ◌+ℤ◌, ◌*ℤ◌, Bool, ◌&&◌, Option, Some, None, int_div, if◌then◌else◌}
use Rattle.std.specs.Int.{int_shr}
use Rattle.std.specs.Int.RustNames.{int_lt}
use Rattle.gfx_dwt.specs.declared.layout.Band.{Band}
use Rattle.gfx_dwt.specs.declared.layout.Band.TheVariants.{Ll3}
use Rattle.gfx_quant.specs.declared.rounding.Rounding.{Rounding}
use Rattle.gfx_quant.specs.declared.rounding.Rounding.TheVariants.{Zero, Nearest}

-- the coefficient that a value stands for at a bit position
abbrev pub coefficient_of : ℤ → ℕ → ℤ
coefficient_of v position = v *ℤ pos (2 ^ (position - 1))

-- a coefficient is a number of the signed 16-bit range
abbrev pub is_coefficient : ℤ → Bool
is_coefficient z = int_lt (negsuc 32768) z && int_lt z (pos 32768)

-- the coefficient that a value stands for, if there is one
abbrev pub dequantised : ℤ → ℕ → Option ℤ
dequantised v position = if is_coefficient (coefficient_of v position) then Some (coefficient_of v position) else None

-- a number without its low bits: floored in LL3, toward zero elsewhere
unfoldable pub truncated : Band → ℤ → ℕ → ℤ
truncated Ll3 z bits = int_shr z bits
truncated _ z bits = int_div z (pos (2 ^ bits))

-- the value nearest to a coefficient: of two, the upper one in LL3, the one farther from nought elsewhere
unfoldable pub nearest : Band → ℤ → ℕ → ℤ
nearest Ll3 c base = int_shr (c +ℤ pos (2 ^ (base - 2))) (base - 1)
nearest _ (pos n) base = pos ((n + 2 ^ (base - 2)) / 2 ^ (base - 1))
nearest _ (negsuc n) base = neg_ℤ (pos ((suc n + 2 ^ (base - 2)) / 2 ^ (base - 1)))

-- a value, but none above the largest whose coefficient is in range
abbrev pub capped : ℤ → ℕ → ℤ
capped (pos v) base = pos (min v (32767 / 2 ^ (base - 1)))
capped v base = v

-- the value that is coded for a coefficient
abbrev pub quantised : Rounding → Band → ℤ → ℕ → ℤ
quantised Zero band c base = truncated band c (base - 1)
quantised Nearest band c base = capped (nearest band c base) base

-- a number cut to the signed 16-bit range
abbrev pub cut : ℤ → ℤ
cut (pos n) = pos (min n 32767)
cut (negsuc n) = negsuc (min n 32767)
