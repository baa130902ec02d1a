-- Short codes of RLGR3 worked out: the values 1, 1 and -1, and a pair whose first number is above the sum.
use Rattle.std.proofs.Common.{◌≡◌, pos, negsuc, [], ◌∷◌, take, refl, Err}
use Rattle.gfx_base.specs.declared.refusal.Refusal.TheVariants.{CoefficientRange}
use Rattle.gfx_bits.specs.Bits.{number, digits, bits_of}
use Rattle.gfx_bits.specs.Padding.{bytes_within, padded}
use Rattle.gfx_rlgr.specs.declared.mode.Mode.TheVariants.{Rlgr3}
use Rattle.gfx_rlgr.specs.Code.{start, number_code, bit_length_within, code, after, terms_of}
use Rattle.gfx_rlgr.specs.Rlgr.{answer, codes, terms}
use Rattle.gfx_rlgr.specs.Says.{token_at, tokens_within}
use Rattle.gfx_rlgr.specs.Writes.{token_for, tokens_for, encoded}

pub three-written : encoded Rlgr3 (pos 1 ∷ pos 1 ∷ negsuc 0 ∷ []) ≡ 0x87 ∷ 0x40 ∷ []
unfolding number digits bytes_within padded number_code bit_length_within code after terms_of codes token_for tokens_for encoded
three-written = refl

pub three-read : take 3 (terms start (tokens_within Rlgr3 3 3 start (bits_of (0x87 ∷ 0x40 ∷ [])))) ≡ pos 1 ∷ pos 1 ∷ negsuc 0 ∷ []
unfolding number digits bits_of number_code bit_length_within code after terms_of terms token_at tokens_within
three-read = refl

-- behind the value 1 the sum is 2 and the first number 3
pub broken-read : answer (take 3 (terms start (tokens_within Rlgr3 3 3 start (bits_of (0x86 ∷ 0xC0 ∷ []))))) ≡ Err CoefficientRange
unfolding number digits bits_of number_code bit_length_within code after terms_of terms answer token_at tokens_within
broken-read = refl
