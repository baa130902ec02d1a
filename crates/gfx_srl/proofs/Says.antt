-- Bits always say a value for each width, where no width is 0: a token stands at the front of any bits.
use Rattle.std.proofs.Common.{◌≡◌, ◌≢◌, ℕ, zero, suc, ◌-◌, ◌^◌, ◌<◌, ◌≤◌, Bool, true, false, cond, ℤ, pos, List, [], ◌∷◌, ◌++◌, length, map, take, drop, get_or, refl, sym, ap, ◌∙◌, arith, replicate, append_assoc, length-append, subst, inl, inr, All}
use Rattle.std.specs.Int.RustNames.{unsigned_abs}
use Rattle.std.proofs.Math.Pow.{pow_mono}
use Rattle.std.proofs.lemmas.Bool.{cases_lt, lt-ltb, le-ltb}
use Rattle.std.proofs.lemmas.List.{length-replicate, length-drop}
use Rattle.std.proofs.lemmas.List.Elements.{All-drop}
use Rattle.gfx_bits.specs.Bits.{Spelled, first, number, digits, zeros_code}
use Rattle.gfx_bits.proofs.Laws.{spelled-join, spelled-drop, spelled-number, number_below}
use Rattle.gfx_srl.specs.Code.{Token, Run, LastRun, Pair, nothing, k, code, after, IsToken, terms_of}
use Rattle.gfx_srl.specs.Srl.{Srl, codes, terms, AreTokens, plain, width_of}
use Rattle.gfx_srl.specs.Says.{zeros_at, signed, pair_at, last_run_at, token_at, tokens_within, value_of, srl, pairs_of}
use Rattle.gfx_srl.proofs.Reading.{pair_of, plain-value}
use Rattle.gfx_srl.proofs.ReadingSteps.{sign-of, below-of, not-zero, magnitude-of}
use Rattle.gfx_srl.proofs.Tokens.{some-terms}
use Rattle.gfx_srl.proofs.Unique.{one-meaning}

-- ---- a magnitude

zeros-more : (most count : ℕ) → zeros_code (suc most) (suc count) ≡ false ∷ zeros_code most count
unfolding zeros_code
zeros-more most count = elim (cases_lt count most) [
  | inl h ↦ rw (lt-ltb count most h, lt-ltb (suc count) (suc most) (omega (arith, h))) refl
  | inr h ↦ rw (le-ltb count most h, le-ltb (suc count) (suc most) (omega (arith, h))) refl
]

-- the code of so many zeros stands at the front
abbrev ZerosStand : ℕ → ℕ → List Bool → Type 0
ZerosStand most count bits = (count ≤ most) × (new : List Bool) × Spelled bits (zeros_code most count) new

next-zero : (bit : Bool) (most count : ℕ) (bits : List Bool) → first bits ≡ bit → ZerosStand most count (drop 1 bits) → ZerosStand (suc most) (cond bit 0 (suc count)) bits
unfolding zeros_code
next-zero true most count bits e rest = (
  omega arith,
  drop 1 bits,
  subst (λ b. Spelled bits (replicate 0 false ++ cond b (true ∷ []) []) (drop 1 bits)) (sym (lt-ltb 0 (suc most) (omega arith))) (e, refl),
)
next-zero false most count bits e rest = (
  omega (arith, rest.0),
  rest.1,
  subst (λ code. Spelled bits code rest.1) (sym (zeros-more most count)) (e, rest.2),
)

zeros-stand : (most : ℕ) (bits : List Bool) → ZerosStand most (zeros_at most bits) bits
unfolding zeros_code
zeros-stand zero bits = (omega arith, bits, refl)
zeros-stand (suc most) bits = next-zero (first bits) most (zeros_at most (drop 1 bits)) bits refl (zeros-stand most (drop 1 bits))

-- ---- one token

-- a token that the parameter has stands at the front
abbrev StandsFirst : ℕ → List Bool → Token → Type 0
StandsFirst kp bits token = IsToken kp token × Spelled bits (code kp token) (drop (length (code kp token)) bits)

-- what is behind a code that stands at the front is what its length leaves
behind : (bits code new : List Bool) → Spelled bits code new → Spelled bits code (drop (length code) bits)
behind bits code new p = subst (Spelled bits code) (spelled-drop bits code new p) p

small-value : (negative : Bool) (below width : ℕ) → 0 < width → below ≤ 2 ^ width - 2 → unsigned_abs (signed negative below) < 2 ^ width
small-value negative below width some most =
    let two : 2 ^ 1 ≤ 2 ^ width = pow_mono some in
    omega (arith, magnitude-of negative below, most, two)

last-run-first : (kp width : ℕ) (bits : List Bool) → 0 < width → first bits ≡ true
    → StandsFirst kp bits (LastRun (number (k kp) (drop 1 bits)) (pair_at width (drop (k kp) (drop 1 bits))))
unfolding code IsToken
last-run-first kp width bits some one =
    let rest : List Bool = drop (k kp) (drop 1 bits) in
    let below : ℕ = zeros_at (2 ^ width - 2) (drop 1 rest) in
    let magnitude : ZerosStand (2 ^ width - 2) below (drop 1 rest) = zeros-stand (2 ^ width - 2) (drop 1 rest) in (
      (number_below (k kp) (drop 1 bits), (not-zero (first rest) below, small-value (first rest) below width some magnitude.0)),
      behind bits (code kp (LastRun (number (k kp) (drop 1 bits)) (pair_at width rest))) magnitude.1 (
        one,
        rw (sign-of (first rest) below, below-of (first rest) below)
            (spelled-join (drop 1 bits) (digits (k kp) (number (k kp) (drop 1 bits))) rest (first rest ∷ zeros_code (2 ^ width - 2) below) magnitude.1
            (spelled-number (k kp) (drop 1 bits)) (refl, magnitude.2)),
      ),
    )

run-first : (kp : ℕ) (bits : List Bool) → first bits ≡ false → StandsFirst kp bits Run
unfolding code IsToken
run-first kp bits none = (tt, (none, refl))

-- no width is 0
abbrev AreSome : List ℕ → Type 0
AreSome widths = All (λ width. 0 < width) widths

some-width : (widths : List ℕ) (place : ℕ) → AreSome widths → 0 < get_or widths place 1
some-width [] place all = omega arith
some-width (width ∷ widths) zero all = all 0 1 (omega arith)
some-width (width ∷ widths) (suc place) all = some-width widths place (λ i d h. all (suc i) d (omega (arith, h)))

token-first : (kp : ℕ) (widths : List ℕ) (bits : List Bool) → AreSome widths → StandsFirst kp bits (token_at kp widths bits)
unfolding token_at
token-first kp widths bits all = by (first bits) refl
  where
    by : (bit : Bool) → first bits ≡ bit → StandsFirst kp bits (cond bit (last_run_at kp widths (drop 1 bits)) Run)
    by true e =
        last-run-first kp (get_or widths (number (k kp) (drop 1 bits)) 1) bits (some-width widths (number (k kp) (drop 1 bits)) all) e
    by false e = run-first kp bits e

-- ---- tokens one after another

-- tokens stand at the front
record Stand (kp : ℕ) (bits : List Bool) (tokens : List Token) : Type 0 where
  fit : AreTokens kp tokens
  spelled : (rest : List Bool) × Spelled bits (codes kp tokens) rest

none-stand : (kp : ℕ) (bits : List Bool) → Stand kp bits []
unfolding AreTokens codes
none-stand kp bits = record { fit = tt; spelled = (bits, refl) }

more-stand : (kp : ℕ) (bits : List Bool) (token : Token) (tokens : List Token) → StandsFirst kp bits token
    → Stand (after kp token) (drop (length (code kp token)) bits) tokens → Stand kp bits (token ∷ tokens)
unfolding AreTokens codes
more-stand kp bits token tokens one rest = record {
  fit = (one.0, rest.fit);
  spelled = (
    rest.spelled.0,
    spelled-join bits (code kp token) (drop (length (code kp token)) bits) (codes (after kp token) tokens) rest.spelled.0 one.1 rest.spelled.1,
  );
}

tokens-stand : (most : ℕ) (widths : List ℕ) (kp : ℕ) (bits : List Bool) → AreSome widths → Stand kp bits (tokens_within most widths kp bits)
unfolding tokens_within
tokens-stand zero widths kp bits all = none-stand kp bits
tokens-stand (suc most) [] kp bits all = none-stand kp bits
tokens-stand (suc most) (width ∷ widths) kp bits all =
    let token : Token = token_at kp (width ∷ widths) bits in
    let left : List ℕ = drop (length (terms_of kp token)) (width ∷ widths) in
    let rest : List Bool = drop (length (code kp token)) bits in
    more-stand kp bits token (tokens_within most left (after kp token) rest) (token-first kp (width ∷ widths) bits all)
    (tokens-stand most left (after kp token) rest (All-drop (λ w. 0 < w) (length (terms_of kp token)) (width ∷ widths) all))

-- ---- their terms

-- terms whose widths are these, but for zeros, one at least for each
abbrev Shows : List ℕ → List Pair → Type 0
Shows [] terms = Unit {0}
Shows (width ∷ widths) [] = ⊥
Shows (width ∷ widths) (term ∷ terms) = (plain (pair_of term.value width) ≡ term) × Shows widths terms

zeros-show : (n : ℕ) (widths : List ℕ) (terms : List Pair) → Shows (drop n widths) terms → Shows widths (replicate n nothing ++ terms)
zeros-show zero widths terms h = h
zeros-show (suc n) [] terms h = tt
zeros-show (suc n) (width ∷ widths) terms h = (refl, zeros-show n widths terms h)

value-shows : (n : ℕ) (widths : List ℕ) (value : ℤ) (terms : List Pair) → value ≢ pos 0 → Shows (drop (suc n) widths) terms
    → Shows widths (replicate n nothing ++ (pair_of value (get_or widths n 1) ∷ terms))
value-shows zero [] value terms some h = tt
value-shows zero (width ∷ widths) value terms some h = (plain-value value width some, h)
value-shows (suc n) [] value terms some h = tt
value-shows (suc n) (width ∷ widths) value terms some h = (refl, value-shows n widths value terms some h)

last-run-shows : (kp n : ℕ) (widths : List ℕ) (value : ℤ) (left : List Pair) → value ≢ pos 0
    → Shows (drop (length (terms_of kp (LastRun n (pair_of value (get_or widths n 1))))) widths) left
    → Shows widths (terms_of kp (LastRun n (pair_of value (get_or widths n 1))) ++ left)
unfolding terms_of
last-run-shows kp n widths value left some h =
    let pair : Pair = pair_of value (get_or widths n 1) in
    let long : length (replicate n nothing ++ pair ∷ []) ≡ suc n = omega (arith, length-append (replicate n nothing) (pair ∷ []), length-replicate n nothing) in
    subst (Shows widths) (sym (append_assoc (replicate n nothing) (pair ∷ []) left))
    (value-shows n widths value left some (subst (λ m. Shows (drop m widths) left) long h))

run-shows : (kp : ℕ) (widths : List ℕ) (left : List Pair) → Shows (drop (length (terms_of kp Run)) widths) left → Shows widths (terms_of kp Run ++ left)
unfolding terms_of
run-shows kp widths left h = zeros-show (2 ^ k kp) widths left (subst (λ m. Shows (drop m widths) left) (length-replicate (2 ^ k kp) nothing) h)

token-shows : (kp : ℕ) (widths : List ℕ) (bits : List Bool) (left : List Pair) → Shows (drop (length (terms_of kp (token_at kp widths bits))) widths) left
    → Shows widths (terms_of kp (token_at kp widths bits) ++ left)
unfolding token_at
token-shows kp widths bits left = by (first bits)
  where
    by : (bit : Bool) → Shows (drop (length (terms_of kp (cond bit (last_run_at kp widths (drop 1 bits)) Run))) widths) left
        → Shows widths (terms_of kp (cond bit (last_run_at kp widths (drop 1 bits)) Run) ++ left)
    by true h =
        let rest : List Bool = drop (k kp) (drop 1 bits) in
        let place : ℕ = number (k kp) (drop 1 bits) in
        let below : ℕ = zeros_at (2 ^ get_or widths place 1 - 2) (drop 1 rest) in
        last-run-shows kp place widths (signed (first rest) below) left (not-zero (first rest) below) h
    by false h = run-shows kp widths left h

tokens-show : (most : ℕ) (widths : List ℕ) (kp : ℕ) (bits : List Bool) → length widths ≤ most → Shows widths (terms kp (tokens_within most widths kp bits))
unfolding tokens_within terms
tokens-show zero [] kp bits h = tt
tokens-show zero (width ∷ widths) kp bits h = absurd (omega (arith, h))
tokens-show (suc most) [] kp bits h = tt
tokens-show (suc most) (width ∷ widths) kp bits h =
    let token : Token = token_at kp (width ∷ widths) bits in
    let left : List ℕ = drop (length (terms_of kp token)) (width ∷ widths) in
    let rest : List Bool = drop (length (code kp token)) bits in
    let fewer : length left ≤ most = omega (arith, h, length-drop (length (terms_of kp token)) (width ∷ widths), some-terms kp token) in
    token-shows kp (width ∷ widths) bits (terms (after kp token) (tokens_within most left (after kp token) rest)) (tokens-show most left (after kp token) rest fewer)

-- ---- values and pairs

shown-count : (widths : List ℕ) (terms : List Pair) → Shows widths terms → length (map value_of (take (length widths) terms)) ≡ length widths
shown-count [] terms h = refl
shown-count (width ∷ widths) [] h = absurd h
shown-count (width ∷ widths) (term ∷ terms) h = ap suc (shown-count widths terms h.1)

shown-pairs : (widths : List ℕ) (terms : List Pair) → Shows widths terms
    → take (length widths) terms ≡ map plain (pairs_of widths (map value_of (take (length widths) terms)))
shown-pairs [] terms h = refl
shown-pairs (width ∷ widths) [] h = absurd h
shown-pairs (width ∷ widths) (term ∷ terms) h =
    let head : term ≡ plain (pair_of term.value width) = sym h.0 in
    let rest : take (length widths) terms ≡ map plain (pairs_of widths (map value_of (take (length widths) terms))) = shown-pairs widths terms h.1 in
    λ i. head i ∷ rest i

pairs-count : (widths : List ℕ) (values : List ℤ) → length values ≡ length widths → length (pairs_of widths values) ≡ length widths
pairs-count [] values e = refl
pairs-count (width ∷ widths) [] e = absurd (omega (arith, e))
pairs-count (width ∷ widths) (value ∷ values) e = ap suc (pairs-count widths values (omega (arith, e)))

pairs-widths : (widths : List ℕ) (values : List ℤ) → length values ≡ length widths → map width_of (pairs_of widths values) ≡ widths
pairs-widths [] values e = refl
pairs-widths (width ∷ widths) [] e = absurd (omega (arith, e))
pairs-widths (width ∷ widths) (value ∷ values) e = ap (λ ws. width ∷ ws) (pairs-widths widths values (omega (arith, e)))

pairs-values : (widths : List ℕ) (values : List ℤ) → length values ≡ length widths → map value_of (pairs_of widths values) ≡ values
pairs-values [] [] e = refl
pairs-values [] (value ∷ values) e = absurd (omega (arith, e))
pairs-values (width ∷ widths) [] e = absurd (omega (arith, e))
pairs-values (width ∷ widths) (value ∷ values) e = ap (λ vs. value ∷ vs) (pairs-values widths values (omega (arith, e)))

-- ---- bits

-- the tokens that bits say at widths
abbrev said : List Bool → List ℕ → List Token
said bits widths = tokens_within (length widths) widths 8 bits

said-show : (bits : List Bool) (widths : List ℕ) → Shows widths (terms 8 (said bits widths))
said-show bits widths = tokens-show (length widths) widths 8 bits (omega arith)

pub said-count : (bits : List Bool) (widths : List ℕ) → length (srl bits widths) ≡ length widths
unfolding srl
said-count bits widths = shown-count widths (terms 8 (said bits widths)) (said-show bits widths)

pub always-says : (bits : List Bool) (widths : List ℕ) → AreSome widths → Srl bits (pairs_of widths (srl bits widths))
unfolding srl
always-says bits widths all =
    let stand = tokens-stand (length widths) widths 8 bits all in
    record {
      tokens = said bits widths;
      tokens_fit = stand.fit;
      spelled = stand.spelled;
      gives =
          ap (λ n. take n (terms 8 (said bits widths))) (pairs-count widths (srl bits widths) (said-count bits widths))
          ∙ shown-pairs widths (terms 8 (said bits widths)) (said-show bits widths);
    }

pub says-only : (bits : List Bool) (widths : List ℕ) (pairs : List Pair) → AreSome widths → map width_of pairs ≡ widths → Srl bits pairs → map value_of pairs ≡ srl bits widths
says-only bits widths pairs all are says =
    let values : List ℤ = srl bits widths in
    ap (map value_of)
    (one-meaning bits pairs (pairs_of widths values) (are ∙ sym (pairs-widths widths values (said-count bits widths))) says (always-says bits widths all))
    ∙ pairs-values widths values (said-count bits widths)
