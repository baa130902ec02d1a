-- Bytes always say something: a token stands at the front of any bits.
use Rattle.std.proofs.Common.{◌≡◌, ℕ, zero, suc, ◌-◌, ◌^◌, ◌<◌, ◌≤◌, Bool, true, false, cond, ℤ, pos, List, [], ◌∷◌, ◌++◌, length, drop, refl, sym, arith, replicate, subst, length-append, inl, inr, Result}
use Rattle.std.proofs.lemmas.Bool.Decides.{eqb_tells}
use Rattle.std.proofs.lemmas.List.{length-replicate}
use Rattle.std.proofs.lemmas.Nat.{pow_pos}
use Rattle.gfx_base.specs.declared.refusal.Refusal.{Refusal}
use Rattle.gfx_bits.specs.Bits.{Spelled, first, number, digits, ones, bits_of}
use Rattle.gfx_bits.proofs.Laws.{spelled-join, spelled-drop, spelled-number, number_below}
use Rattle.gfx_rlgr.specs.declared.mode.Mode.{Mode}
use Rattle.gfx_rlgr.specs.declared.mode.Mode.TheVariants.{Rlgr1, Rlgr3}
use Rattle.gfx_rlgr.specs.declared.params.Params.{Params}
use Rattle.gfx_rlgr.specs.Code.{Token, Run, LastRun, Value, Pair, start, k, kr, number_code, unfold_number, bit_length, code, after, IsToken, terms_of}
use Rattle.gfx_rlgr.specs.Rlgr.{Decodes, Rlgr, codes, AreTokens, AreFewest}
use Rattle.gfx_rlgr.specs.Says.{number_at, behind_number, last_run_at, pair_at, single_at, token_at, tokens_within, decoded, rlgr}
use Rattle.gfx_rlgr.proofs.Reading.{number-read, sign-of, below-of, not-zero}
use Rattle.gfx_rlgr.proofs.Pairs.{folded-unfold}
use Rattle.gfx_rlgr.proofs.Unique.{one-answer}

-- ---- one token

-- a token that the parameters have stands at the front
abbrev StandsFirst : Mode → Params → List Bool → Token → Type 0
StandsFirst mode params bits token = IsToken mode params token × Spelled bits (code params token) (drop (length (code params token)) bits)

-- what is behind a code that stands at the front is what its length leaves
behind : (bits code new : List Bool) → Spelled bits code new → Spelled bits code (drop (length code) bits)
behind bits code new p = subst (Spelled bits code) (spelled-drop bits code new p) p

value-first : (params : Params) (bits : List Bool) → k params ≡ 0 → StandsFirst Rlgr1 params bits (Value (unfold_number (number_at (kr params) bits)))
unfolding code IsToken
value-first params bits none = (
  (none, refl),
  behind bits (code params (Value (unfold_number (number_at (kr params) bits)))) (drop (kr params) (drop (suc (ones bits)) bits))
      (rw (folded-unfold (number_at (kr params) bits)) (number-read (kr params) bits)),
)

pair-first : (params : Params) (bits : List Bool) → k params ≡ 0 → StandsFirst Rlgr3 params bits (pair_at params bits)
unfolding code IsToken
pair-first params bits none =
    let sum : ℕ = number_at (kr params) bits in
    let rest : List Bool = behind_number (kr params) bits in
    let one : ℕ = number (bit_length sum) rest in (
      (none, refl, number_below (bit_length sum) rest),
      behind bits (code params (Pair sum one)) (drop (bit_length sum) rest)
          (spelled-join bits (number_code (kr params) sum) rest (digits (bit_length sum) one) (drop (bit_length sum) rest) (number-read (kr params) bits) (spelled-number (bit_length sum) rest)),
    )

single-first : (mode : Mode) (params : Params) (bits : List Bool) → k params ≡ 0 → StandsFirst mode params bits (single_at mode params bits)
single-first Rlgr1 params bits none = value-first params bits none
single-first Rlgr3 params bits none = pair-first params bits none

-- a run that a value ends, behind its first bit
last-run-spelled : (params : Params) (bits rest : List Bool) → rest ≡ drop (k params) bits
    → Spelled bits (digits (k params) (number (k params) bits) ++ (first rest ∷ number_code (kr params) (number_at (kr params) (drop 1 rest))))
    (drop (kr params) (drop (suc (ones (drop 1 rest))) (drop 1 rest)))
last-run-spelled params bits rest is =
    spelled-join bits (digits (k params) (number (k params) bits)) rest (first rest ∷ number_code (kr params) (number_at (kr params) (drop 1 rest)))
    (drop (kr params) (drop (suc (ones (drop 1 rest))) (drop 1 rest)))
    (subst (Spelled bits (digits (k params) (number (k params) bits))) (sym is) (spelled-number (k params) bits))
    (refl, number-read (kr params) (drop 1 rest))

last-run-first : (mode : Mode) (params : Params) (bits : List Bool) → 0 < k params → first bits ≡ true → StandsFirst mode params bits (last_run_at params (drop 1 bits))
unfolding code IsToken
last-run-first mode params bits run one =
    let rest : List Bool = drop (k params) (drop 1 bits) in
    let below : ℕ = number_at (kr params) (drop 1 rest) in (
      (run, number_below (k params) (drop 1 bits), not-zero (first rest) below),
      behind bits (code params (last_run_at params (drop 1 bits))) (drop (kr params) (drop (suc (ones (drop 1 rest))) (drop 1 rest)))
          (one, rw (sign-of (first rest) below, below-of (first rest) below) (last-run-spelled params (drop 1 bits) rest refl)),
    )

run-first : (mode : Mode) (params : Params) (bits : List Bool) → 0 < k params → first bits ≡ false → StandsFirst mode params bits Run
unfolding code IsToken
run-first mode params bits run none = (run, (none, refl))

token-first : (mode : Mode) (params : Params) (bits : List Bool) → StandsFirst mode params bits (token_at mode params bits)
unfolding token_at
token-first mode params bits = elim (eqb_tells (k params) 0) [
  | inl h ↦ rw h.0 (single-first mode params bits h.1)
  | inr h ↦ rw h.0 (by (first bits) refl (omega (arith, h.1)))
]
  where
    by : (bit : Bool) → first bits ≡ bit → 0 < k params → StandsFirst mode params bits (cond bit (last_run_at params (drop 1 bits)) Run)
    by true e run = last-run-first mode params bits run e
    by false e run = run-first mode params bits run e

-- each token gives a term
some-terms : (params : Params) (token : Token) → 0 < length (terms_of params token)
unfolding terms_of
some-terms params Run = omega (arith, length-replicate (2 ^ k params) (pos 0), pow_pos (k params))
some-terms params (LastRun count value) = omega (arith, length-append (replicate count (pos 0)) (value ∷ []))
some-terms params (Value value) = omega arith
some-terms params (Pair sum one) = omega arith

-- ---- tokens one after another

-- tokens stand at the front, the fewest that give so many terms
record Stand (mode : Mode) (due : ℕ) (params : Params) (bits : List Bool) (tokens : List Token) : Type 0 where
  fit : AreTokens mode params tokens
  fewest : AreFewest due params tokens
  spelled : (rest : List Bool) × Spelled bits (codes params tokens) rest

none-stand : (mode : Mode) (due : ℕ) (params : Params) (bits : List Bool) → due ≡ 0 → Stand mode due params bits []
unfolding AreTokens AreFewest codes
none-stand mode due params bits none = record { fit = tt; fewest = none; spelled = (bits, refl) }

more-stand : (mode : Mode) (due : ℕ) (params : Params) (bits : List Bool) (token : Token) (tokens : List Token) → 0 < due → StandsFirst mode params bits token
    → Stand mode (due - length (terms_of params token)) (after params token) (drop (length (code params token)) bits) tokens
    → Stand mode due params bits (token ∷ tokens)
unfolding AreTokens AreFewest codes
more-stand mode due params bits token tokens some one rest = record {
  fit = (one.0, rest.fit);
  fewest = (some, rest.fewest);
  spelled = (
    rest.spelled.0,
    spelled-join bits (code params token) (drop (length (code params token)) bits) (codes (after params token) tokens) rest.spelled.0 one.1 rest.spelled.1,
  );
}

tokens-stand : (mode : Mode) (most due : ℕ) (params : Params) (bits : List Bool) → due ≤ most → Stand mode due params bits (tokens_within mode most due params bits)
unfolding tokens_within
tokens-stand mode zero due params bits h = none-stand mode due params bits (omega arith)
tokens-stand mode (suc most) zero params bits h = none-stand mode 0 params bits refl
tokens-stand mode (suc most) (suc due) params bits h =
    let token : Token = token_at mode params bits in
    more-stand mode (suc due) params bits token (tokens_within mode most (suc due - length (terms_of params token)) (after params token) (drop (length (code params token)) bits))
    (omega arith) (token-first mode params bits)
    (tokens-stand mode most (suc due - length (terms_of params token)) (after params token) (drop (length (code params token)) bits) (omega (arith, h, some-terms params token)))

-- ---- bytes

pub always-decodes : (mode : Mode) (bytes : List ℕ) → Decodes mode bytes (decoded mode bytes)
unfolding decoded
always-decodes mode bytes =
    let reading = tokens-stand mode 4096 4096 start (bits_of bytes) (omega arith) in
    (tokens_within mode 4096 4096 start (bits_of bytes), record { tokens_fit = reading.fit; fewest = reading.fewest; spelled = reading.spelled }, refl)

pub decodes-only : (mode : Mode) (bytes : List ℕ) (due : Result (List ℤ) Refusal) → Decodes mode bytes due → due ≡ decoded mode bytes
decodes-only mode bytes due says = one-answer mode bytes due (decoded mode bytes) says (always-decodes mode bytes)

-- in RLGR1
pub says-only : (bytes : List ℕ) (due : Result (List ℤ) Refusal) → Rlgr bytes due → due ≡ rlgr bytes
says-only bytes due says = decodes-only Rlgr1 bytes due says
