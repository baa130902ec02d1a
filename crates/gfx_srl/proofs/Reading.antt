-- Each step of the reader reads on in tokens.
use Rattle.std.proofs.Common.{◌≡◌, ◌≢◌, ℕ, zero, suc, ◌+◌, ◌-◌, ◌^◌, ◌<◌, Bool, true, false, cond, ℤ, pos, negsuc, List, [], ◌∷◌, ◌++◌, map, length, take, drop, refl, sym, ap, ◌∙◌, arith, append_assoc, replicate, min, subst, nat_lt}
use Rattle.std.specs.Int.RustNames.{unsigned_abs}
use Rattle.std.proofs.lemmas.List.{map-append, append-nil, take_at, length-map}
use Rattle.gfx_bits.specs.Bits.{Spelled, first, number, digits, zeros_code}
use Rattle.gfx_bits.proofs.Laws.{spelled-join, spelled-number, number_below}
use Rattle.gfx_srl.specs.Code.{Token, Run, LastRun, Pair, nothing, k, is_negative, IsValue, code, after, IsToken, terms_of}
use Rattle.gfx_srl.specs.Srl.{Srl, codes, terms, AreTokens, plain}
use Rattle.gfx_srl.specs.Steps.{Reader, HasRead, after_all}
use Rattle.gfx_srl.proofs.Tokens.{after_all-last, codes-last, terms-last, tokens-last}

-- a value at a width
abbrev pub pair_of : ℤ → ℕ → Pair
pair_of value width = record { value = value; width = width }

abbrev pub standing : List Bool → ℕ → ℕ → Bool → Reader
standing bits kp zeros ends = record { bits = bits; kp = kp; zeros = zeros; ends = ends }

pub begun : (bits : List Bool) → HasRead bits [] (standing bits 8 0 false)
unfolding AreTokens codes terms after_all
begun bits = record { tokens = []; tokens_fit = tt; behind = bits; spelled = refl; kp_is = refl; run = 0; opens = (refl, refl); gives = refl }

-- a zero that was still to give
pub zero-gives : (left : List Pair) (pairs : List Pair) (zeros width : ℕ) → left ≡ map plain pairs ++ replicate (suc zeros) nothing
    → left ≡ map plain (pairs ++ pair_of (pos 0) width ∷ []) ++ replicate zeros nothing
zero-gives left pairs zeros width e =
    e
    ∙ sym (append_assoc (map plain pairs) (nothing ∷ []) (replicate zeros nothing))
    ∙ ap (λ ps. ps ++ replicate zeros nothing) (sym (map-append plain pairs (pair_of (pos 0) width ∷ [])))

pub zero-read : (all bits : List Bool) (kp zeros width : ℕ) (ends : Bool) (pairs : List Pair) → HasRead all pairs (standing bits kp (suc zeros) ends)
    → HasRead all (pairs ++ pair_of (pos 0) width ∷ []) (standing bits kp zeros ends)
zero-read all bits kp zeros width ends pairs h = record {
  tokens = h.tokens;
  tokens_fit = h.tokens_fit;
  behind = h.behind;
  spelled = h.spelled;
  kp_is = h.kp_is;
  run = h.run;
  opens = h.opens;
  gives = zero-gives (terms 8 h.tokens ++ replicate h.run nothing) pairs zeros width h.gives;
}

-- a reader between tokens
pub record Between (all : List Bool) (pairs : List Pair) (bits : List Bool) (kp : ℕ) : Type 0 where
  pub tokens : List Token
  pub tokens_fit : AreTokens 8 tokens
  pub spelled : Spelled all (codes 8 tokens) bits
  pub kp_is : kp ≡ after_all 8 tokens
  pub gives : terms 8 tokens ≡ map plain pairs

pub between : (all bits : List Bool) (kp : ℕ) (pairs : List Pair) → HasRead all pairs (standing bits kp 0 false) → Between all pairs bits kp
between all bits kp pairs h = record {
  tokens = h.tokens;
  tokens_fit = h.tokens_fit;
  spelled = subst (Spelled all (codes 8 h.tokens)) (sym h.opens.1) h.spelled;
  kp_is = h.kp_is;
  gives =
      sym (append-nil (terms 8 h.tokens)) ∙ ap (λ n. terms 8 h.tokens ++ replicate n nothing) (sym h.opens.0) ∙ h.gives ∙ append-nil (map plain pairs);
}

-- one more token was read
pub token-read : (all bits new : List Bool) (kp zeros : ℕ) (pairs pairs' : List Pair) (token : Token) → (Between all pairs bits kp) → IsToken kp token → Spelled bits (code kp token) new
    → map plain pairs ++ terms_of kp token ≡ map plain pairs' ++ replicate zeros nothing
    → HasRead all pairs' (standing new (after kp token) zeros false)
token-read all bits new kp zeros pairs pairs' token b fits spelled e = record {
  tokens = b.tokens ++ token ∷ [];
  tokens_fit = tokens-last 8 b.tokens token b.tokens_fit (subst (λ p. IsToken p token) b.kp_is fits);
  behind = new;
  spelled =
      subst (λ c. Spelled all c new) (ap (λ p. codes 8 b.tokens ++ code p token) b.kp_is ∙ sym (codes-last 8 b.tokens token))
      (spelled-join all (codes 8 b.tokens) bits (code kp token) new b.spelled spelled);
  kp_is = ap (λ p. after p token) b.kp_is ∙ sym (after_all-last 8 b.tokens token);
  run = 0;
  opens = (refl, refl);
  gives =
      append-nil (terms 8 (b.tokens ++ token ∷ [])) ∙ terms-last 8 b.tokens token
      ∙ ap (λ p. terms 8 b.tokens ++ terms_of p token) (sym b.kp_is) ∙ ap (λ ps. ps ++ terms_of kp token) b.gives ∙ e;
}

-- ---- a full run

pub run-read : (all bits : List Bool) (kp : ℕ) (pairs : List Pair) → first bits ≡ false → HasRead all pairs (standing bits kp 0 false)
    → HasRead all pairs (standing (drop 1 bits) (min 80 (kp + 4)) (2 ^ k kp) false)
unfolding code after IsToken terms_of
run-read all bits kp pairs zero-bit h = token-read all bits (drop 1 bits) kp (2 ^ k kp) pairs pairs Run (between all bits kp pairs h) tt (zero-bit, refl) refl

-- ---- a run that a value ends: its head and its value

pub head-read : (all bits : List Bool) (kp : ℕ) (pairs : List Pair) → first bits ≡ true → HasRead all pairs (standing bits kp 0 false)
    → HasRead all pairs (standing (drop (k kp) (drop 1 bits)) kp (number (k kp) (drop 1 bits)) true)
head-read all bits kp pairs one-bit h =
    let b = between all bits kp pairs h in
    record {
      tokens = b.tokens;
      tokens_fit = b.tokens_fit;
      behind = bits;
      spelled = b.spelled;
      kp_is = b.kp_is;
      run = number (k kp) (drop 1 bits);
      opens = (number_below (k kp) (drop 1 bits), (one-bit, spelled-number (k kp) (drop 1 bits)));
      gives = ap (λ ps. ps ++ replicate (number (k kp) (drop 1 bits)) nothing) b.gives;
    }

-- a value other than 0 is as it is
pub plain-value : (value : ℤ) (width : ℕ) → value ≢ pos 0 → plain (pair_of value width) ≡ pair_of value width
plain-value (pos zero) width some = absurd (some refl)
plain-value (pos (suc n)) width some = refl
plain-value (negsuc n) width some = refl

-- pairs and a value behind them
pub value-gives : (left : List Pair) (pairs : List Pair) (value : ℤ) (width : ℕ) → value ≢ pos 0 → left ≡ map plain pairs
    → left ++ pair_of value width ∷ [] ≡ map plain (pairs ++ pair_of value width ∷ [])
value-gives left pairs value width some e =
    ap (λ ps. ps ++ pair_of value width ∷ []) e
    ∙ ap (λ p. map plain pairs ++ p ∷ []) (sym (plain-value value width some))
    ∙ sym (map-append plain pairs (pair_of value width ∷ []))

pub value-read : (all bits new : List Bool) (kp width : ℕ) (value : ℤ) (pairs : List Pair) → value ≢ pos 0 → unsigned_abs value < 2 ^ width
    → is_negative value ≡ first bits → Spelled (drop 1 bits) (zeros_code (2 ^ width - 2) (unsigned_abs value - 1)) new
    → HasRead all pairs (standing bits kp 0 true)
    → HasRead all (pairs ++ pair_of value width ∷ []) (standing new (kp - 6) 0 false)
unfolding code after IsToken terms_of
value-read all bits new kp width value pairs some small sign spelled h =
    let token : Token = LastRun h.run (pair_of value width) in
    record {
      tokens = h.tokens ++ token ∷ [];
      tokens_fit = tokens-last 8 h.tokens token h.tokens_fit (subst (λ p. (h.run < 2 ^ k p) × IsValue (pair_of value width)) h.kp_is (h.opens.0, (some, small)));
      behind = new;
      spelled =
          subst (λ c. Spelled all c new) (ap (λ p. codes 8 h.tokens ++ code p token) h.kp_is ∙ sym (codes-last 8 h.tokens token))
          (spelled-join all (codes 8 h.tokens) h.behind (code kp token) new h.spelled
          (h.opens.1.0, spelled-join (drop 1 h.behind) (digits (k kp) h.run) bits (is_negative value ∷ zeros_code (2 ^ width - 2) (unsigned_abs value - 1)) new h.opens.1.1 (sym sign, spelled)));
      kp_is = ap (λ p. p - 6) h.kp_is ∙ sym (after_all-last 8 h.tokens token);
      run = 0;
      opens = (refl, refl);
      gives =
          append-nil (terms 8 (h.tokens ++ token ∷ [])) ∙ terms-last 8 h.tokens token
          ∙ sym (append_assoc (terms 8 h.tokens) (replicate h.run nothing) (pair_of value width ∷ []))
          ∙ value-gives (terms 8 h.tokens ++ replicate h.run nothing) pairs value width some (h.gives ∙ append-nil (map plain pairs))
          ∙ sym (append-nil (map plain (pairs ++ pair_of value width ∷ [])));
    }

-- ---- what was read is what the bits say

abbrev some-value : Bool → ℤ
some-value negative = cond negative (negsuc 0) (pos 1)

takes : (left : List Pair) (pairs : List Pair) (zeros : ℕ) → left ≡ map plain pairs ++ replicate zeros nothing → take (length pairs) left ≡ map plain pairs
takes left pairs zeros e = ap (take (length pairs)) e ∙ take_at (map plain pairs) (replicate zeros nothing) (length pairs) (length-map pairs plain)

value-sign : (negative : Bool) → is_negative (some-value negative) ≡ negative
value-sign true = refl
value-sign false = refl

is-some : (negative : Bool) → some-value negative ≢ pos 0
is-some true e = cc
is-some false e = cc

is-one : (negative : Bool) → unsigned_abs (some-value negative) ≡ 1
is-one true = omega arith
is-one false = omega arith

-- the largest magnitude of one bit has no zeros and no one
one-code : (m : ℕ) (bits : List Bool) → m ≡ 1 → Spelled bits (zeros_code (2 ^ 1 - 2) (m - 1)) bits
unfolding zeros_code
one-code m bits e = subst (λ n. Spelled bits (replicate (n - 1) false ++ cond (nat_lt (n - 1) 0) (true ∷ []) []) bits) (sym e) refl

-- a run whose value isn't read yet has some value
says-more : (all bits : List Bool) (kp zeros : ℕ) (pairs : List Pair) → HasRead all pairs (standing bits kp zeros true) → Srl all pairs
unfolding code after IsToken terms_of
says-more all bits kp zeros pairs h =
    let value : ℤ = some-value (first bits) in
    let token : Token = LastRun h.run (pair_of value 1) in
    record {
      tokens = h.tokens ++ token ∷ [];
      tokens_fit = tokens-last 8 h.tokens token h.tokens_fit
          (subst (λ p. (h.run < 2 ^ k p) × IsValue (pair_of value 1)) h.kp_is (h.opens.0, (is-some (first bits), omega (arith, is-one (first bits)))));
      spelled = (
        drop 1 bits,
        subst (λ c. Spelled all c (drop 1 bits)) (ap (λ p. codes 8 h.tokens ++ code p token) h.kp_is ∙ sym (codes-last 8 h.tokens token))
            (spelled-join all (codes 8 h.tokens) h.behind (code kp token) (drop 1 bits) h.spelled (
              h.opens.1.0,
              spelled-join (drop 1 h.behind) (digits (k kp) h.run) bits (is_negative value ∷ zeros_code (2 ^ 1 - 2) (unsigned_abs value - 1)) (drop 1 bits) h.opens.1.1
                  (sym (value-sign (first bits)), one-code (unsigned_abs value) (drop 1 bits) (is-one (first bits))),
            )),
      );
      gives =
          ap (take (length pairs))
          (terms-last 8 h.tokens token ∙ sym (append_assoc (terms 8 h.tokens) (replicate h.run nothing) (pair_of value 1 ∷ []))
          ∙ ap (λ ps. ps ++ pair_of value 1 ∷ []) h.gives
          ∙ append_assoc (map plain pairs) (replicate zeros nothing) (pair_of value 1 ∷ []))
          ∙ take_at (map plain pairs) (replicate zeros nothing ++ pair_of value 1 ∷ []) (length pairs) (length-map pairs plain);
    }

says-at : (all bits : List Bool) (kp zeros : ℕ) (ends : Bool) (pairs : List Pair) → HasRead all pairs (standing bits kp zeros ends) → Srl all pairs
says-at all bits kp zeros true pairs h = says-more all bits kp zeros pairs h
says-at all bits kp zeros false pairs h = record {
  tokens = h.tokens;
  tokens_fit = h.tokens_fit;
  spelled = (h.behind, h.spelled);
  gives = takes (terms 8 h.tokens) pairs zeros (sym (append-nil (terms 8 h.tokens)) ∙ ap (λ n. terms 8 h.tokens ++ replicate n nothing) (sym h.opens.0) ∙ h.gives);
}

pub says : (all : List Bool) (pairs : List Pair) (reader : Reader) → HasRead all pairs reader → Srl all pairs
says all pairs reader h = says-at all reader.bits reader.kp reader.zeros reader.ends pairs h
