-- How long the code of values of few bits is.
use Rattle.std.proofs.Common.{◌≡◌, ℕ, zero, suc, ◌+◌, ◌-◌, ◌*◌, ◌^◌, ◌<◌, ◌≤◌, Bool, true, false, cond, ℤ, pos, negsuc, List, [], ◌∷◌, ◌++◌, length, map, refl, sym, ap, subst, arith, replicate, length-append}
use Rattle.std.specs.Prelude.{nat_lt}
use Rattle.std.specs.Int.RustNames.{unsigned_abs}
use Rattle.std.proofs.Math.Pow.{pow_mono}
use Rattle.std.proofs.lemmas.Bool.{ltb-true}
use Rattle.std.proofs.lemmas.List.{length-replicate}
use Rattle.gfx_bits.specs.Bits.{digits, zeros_code}
use Rattle.gfx_bits.proofs.Laws.{length-digits, length-bits_of}
use Rattle.gfx_srl.specs.Code.{Token, Run, LastRun, Pair, nothing, k, is_negative, code, after, IsToken, terms_of}
use Rattle.gfx_srl.specs.Srl.{Written, codes, terms, AreTokens, AreFewest, AreNarrow, plain}
use Rattle.gfx_srl.proofs.Tokens.{some-terms}

narrow-apart : (xs ys : List Pair) → AreNarrow (xs ++ ys) → AreNarrow xs × AreNarrow ys
narrow-apart [] ys h = (tt, h)
narrow-apart (x ∷ xs) ys h = let rest = narrow-apart xs ys h.1 in ((h.0, rest.0), rest.1)

narrow-plain : (value : ℤ) (width : ℕ) → width ≤ 6 → (plain (record { value = value; width = width })).width ≤ 6
narrow-plain (pos zero) width h = omega arith
narrow-plain (pos (suc n)) width h = h
narrow-plain (negsuc n) width h = h

narrow-terms : (pairs : List Pair) (more : ℕ) → AreNarrow pairs → AreNarrow (map plain pairs ++ replicate more nothing)
narrow-terms [] zero h = tt
narrow-terms [] (suc more) h = (omega arith, narrow-terms [] more tt)
narrow-terms (pair ∷ pairs) more h = (narrow-plain pair.value pair.width h.0, narrow-terms pairs more h.1)

magnitude-length : (most below : ℕ) → below ≤ most → length (zeros_code most below) ≤ most
unfolding zeros_code
magnitude-length most below h = go (nat_lt below most) refl
  where
    go : (b : Bool) → nat_lt below most ≡ b → length (replicate below false ++ cond b (true ∷ []) []) ≤ most
    go true e = let less : below < most = ltb-true below most e in omega (arith, length-append (replicate below false) (true ∷ []), length-replicate below false)
    go false e = omega (arith, length-append (replicate below false) [], length-replicate below false)

-- a token's code
token-length : (kp : ℕ) (token : Token) → kp ≤ 80 → IsToken kp token → AreNarrow (terms_of kp token) → length (code kp token) ≤ 74
unfolding code IsToken terms_of
token-length kp Run h fits narrow = omega arith
token-length kp (LastRun count pair) h fits narrow =
    let width : pair.width ≤ 6 = (narrow-apart (replicate count nothing) (pair ∷ []) narrow).1.0 in
    let most : 2 ^ pair.width ≤ 2 ^ 6 = pow_mono width in
    let low : k kp ≤ 10 = omega arith in
    let magnitude : length (zeros_code (2 ^ pair.width - 2) (unsigned_abs pair.value - 1)) ≤ 2 ^ pair.width - 2 =
    magnitude-length (2 ^ pair.width - 2) (unsigned_abs pair.value - 1) (omega (arith, fits.1.1)) in
    omega (
      arith,
      length-append (digits (k kp) count) (is_negative pair.value ∷ zeros_code (2 ^ pair.width - 2) (unsigned_abs pair.value - 1)),
      length-digits (k kp) count,
    )

kp-within : (kp : ℕ) (token : Token) → kp ≤ 80 → after kp token ≤ 80
unfolding after
kp-within kp Run h = omega arith
kp-within kp (LastRun count pair) h = omega arith

codes-length : (n kp : ℕ) (tokens : List Token) → kp ≤ 80 → AreTokens kp tokens → AreFewest n kp tokens → AreNarrow (terms kp tokens) → length (codes kp tokens) ≤ 74 * n
unfolding codes AreTokens AreFewest terms
codes-length n kp [] h fits fewest narrow = omega arith
codes-length n kp (token ∷ tokens) h fits fewest narrow =
    let parts = narrow-apart (terms_of kp token) (terms (after kp token) tokens) narrow in
    let rest : length (codes (after kp token) tokens) ≤ 74 * (n - length (terms_of kp token)) =
    codes-length (n - length (terms_of kp token)) (after kp token) tokens (kp-within kp token h) fits.1 fewest.1 parts.1 in
    omega (arith, length-append (code kp token) (codes (after kp token) tokens), token-length kp token h fits.0 parts.0, some-terms kp token, fewest.0)

pub short-code : (pairs : List Pair) (bytes : List ℕ) → Written pairs bytes → AreNarrow pairs → 8 * length bytes ≤ 74 * length pairs + 7
short-code pairs bytes written narrow =
    let long : length (codes 8 written.tokens) ≤ 74 * length pairs =
    codes-length (length pairs) 8 written.tokens (omega arith) written.tokens_fit written.fewest (subst AreNarrow (sym written.gives.1) (narrow-terms pairs written.gives.0 narrow)) in
    omega (
      arith,
      length-bits_of bytes,
      ap length written.padded.2,
      length-append (codes 8 written.tokens) (replicate written.padded.0 false),
      length-replicate written.padded.0 false,
      written.padded.1,
    )
