-- Each step of the writer writes on in tokens.
use Rattle.std.proofs.Common.{◌≡◌, ◌≢◌, ℕ, zero, suc, ◌+◌, ◌-◌, ◌^◌, ◌<◌, ◌==◌, Bool, false, cond, ℤ, pos, List, [], ◌∷◌, ◌++◌, map, length, refl, sym, ap, ◌∙◌, arith, append_assoc, replicate, min, subst, length-append}
use Rattle.std.specs.Int.RustNames.{unsigned_abs}
use Rattle.std.proofs.lemmas.List.{map-append, append-nil, length-map, length-replicate, replicate-append-replicate}
use Rattle.std.proofs.lemmas.Bool.{ne_eqb}
use Rattle.gfx_bits.specs.Bits.{IsPadded}
use Rattle.gfx_srl.specs.Code.{Token, Run, LastRun, Pair, nothing, k, code, after, IsToken, terms_of}
use Rattle.gfx_srl.specs.Srl.{Written, codes, terms, AreTokens, plain}
use Rattle.gfx_srl.specs.Steps.{Writer, HasWritten, after_all}
use Rattle.gfx_srl.proofs.Tokens.{after_all-last, codes-last, terms-last, tokens-last, fewest-whole, fewest-last}
use Rattle.gfx_srl.proofs.Reading.{pair_of, value-gives}

abbrev pub writing : List Bool → ℕ → ℕ → Writer
writing bits kp zeros = record { bits = bits; kp = kp; zeros = zeros }

pub begun : HasWritten [] (writing [] 8 0)
unfolding AreTokens codes terms after_all
begun = record { tokens = []; tokens_fit = tt; bits_are = refl; kp_is = refl; gives = refl }

-- one zero more
zeros-more : (left : List Pair) (pairs : List Pair) (zeros more width : ℕ) → more ≡ suc zeros → left ++ replicate zeros nothing ≡ map plain pairs
    → left ++ replicate more nothing ≡ map plain (pairs ++ pair_of (pos 0) width ∷ [])
zeros-more left pairs zeros more width is e =
    ap (λ n. left ++ replicate n nothing) {y = zeros + 1} (omega arith)
    ∙ ap (λ ps. left ++ ps) (sym (replicate-append-replicate zeros 1 nothing))
    ∙ sym (append_assoc left (replicate zeros nothing) (nothing ∷ []))
    ∙ ap (λ ps. ps ++ nothing ∷ []) e
    ∙ sym (map-append plain pairs (pair_of (pos 0) width ∷ []))

pub zero-waits : (bits : List Bool) (kp zeros more width : ℕ) (pairs : List Pair) → more ≡ suc zeros → HasWritten pairs (writing bits kp zeros)
    → HasWritten (pairs ++ pair_of (pos 0) width ∷ []) (writing bits kp more)
zero-waits bits kp zeros more width pairs is h = record {
  tokens = h.tokens;
  tokens_fit = h.tokens_fit;
  bits_are = h.bits_are;
  kp_is = h.kp_is;
  gives = zeros-more (terms 8 h.tokens) pairs zeros more width is h.gives;
}

-- one more token was written
token-written : (bits new : List Bool) (kp : ℕ) (pairs pairs' : List Pair) (token : Token) → (tokens : List Token) → AreTokens 8 tokens
    → bits ≡ codes 8 tokens → kp ≡ after_all 8 tokens → IsToken kp token → new ≡ bits ++ code kp token
    → terms 8 tokens ++ terms_of kp token ≡ map plain pairs' → HasWritten pairs' (writing new (after kp token) 0)
token-written bits new kp pairs pairs' token tokens tokens_fit are is fits spelled e = record {
  tokens = tokens ++ token ∷ [];
  tokens_fit = tokens-last 8 tokens token tokens_fit (subst (λ p. IsToken p token) is fits);
  bits_are = spelled ∙ ap (λ b. b ++ code kp token) are ∙ ap (λ p. codes 8 tokens ++ code p token) is ∙ sym (codes-last 8 tokens token);
  kp_is = ap (λ p. after p token) is ∙ sym (after_all-last 8 tokens token);
  gives = append-nil (terms 8 (tokens ++ token ∷ [])) ∙ terms-last 8 tokens token ∙ ap (λ p. terms 8 tokens ++ terms_of p token) (sym is) ∙ e;
}

pub run-written : (bits new : List Bool) (kp zeros width : ℕ) (pairs : List Pair) → suc zeros ≡ 2 ^ k kp → new ≡ bits ++ false ∷ []
    → HasWritten pairs (writing bits kp zeros) → HasWritten (pairs ++ pair_of (pos 0) width ∷ []) (writing new (min 80 (kp + 4)) 0)
unfolding code after IsToken terms_of
run-written bits new kp zeros width pairs full spelled h =
    token-written bits new kp pairs (pairs ++ pair_of (pos 0) width ∷ []) Run h.tokens h.tokens_fit h.bits_are h.kp_is tt spelled
    (zeros-more (terms 8 h.tokens) pairs zeros (2 ^ k kp) width (sym full) h.gives)

pub value-written : (bits new : List Bool) (kp zeros width : ℕ) (value : ℤ) (pairs : List Pair) → zeros < 2 ^ k kp → value ≢ pos 0 → unsigned_abs value < 2 ^ width
    → new ≡ bits ++ code kp (LastRun zeros (pair_of value width))
    → HasWritten pairs (writing bits kp zeros) → HasWritten (pairs ++ pair_of value width ∷ []) (writing new (kp - 6) 0)
unfolding after IsToken terms_of
value-written bits new kp zeros width value pairs room some small spelled h =
    token-written bits new kp pairs (pairs ++ pair_of value width ∷ []) (LastRun zeros (pair_of value width)) h.tokens h.tokens_fit h.bits_are h.kp_is (room, (some, small)) spelled
    (sym (append_assoc (terms 8 h.tokens) (replicate zeros nothing) (pair_of value width ∷ [])) ∙ value-gives (terms 8 h.tokens ++ replicate zeros nothing) pairs value width some h.gives)

-- ---- the end

-- the bits of the last run, where zeros wait
abbrev pub rest_of : ℕ → List Bool
rest_of zeros = cond (zeros == 0) [] (false ∷ [])

pub rest-some : (zeros : ℕ) → rest_of (suc zeros) ≡ false ∷ []
rest-some zeros = ap (λ b. cond b [] (false ∷ [])) (ne_eqb (suc zeros) 0 (λ e. omega arith))

pub closed : (bits new : List Bool) (kp zeros : ℕ) (pairs : List Pair) (bytes : List ℕ) → zeros < 2 ^ k kp → new ≡ bits ++ rest_of zeros → IsPadded new bytes
    → HasWritten pairs (writing bits kp zeros) → Written pairs bytes
unfolding code after IsToken terms_of
closed bits new kp zero pairs bytes room is padded h =
    let gives : terms 8 h.tokens ≡ map plain pairs = sym (append-nil (terms 8 h.tokens)) ∙ h.gives in
    record {
      tokens = h.tokens;
      tokens_fit = h.tokens_fit;
      fewest = fewest-whole (length pairs) 8 h.tokens (sym (ap length gives ∙ length-map pairs plain));
      gives = (0, gives ∙ sym (append-nil (map plain pairs)));
      padded = subst (λ b. IsPadded b bytes) (is ∙ append-nil bits ∙ h.bits_are) padded;
    }
closed bits new kp (suc zeros) pairs bytes room is padded h =
    let long : length (terms 8 h.tokens) + suc zeros ≡ length pairs =
    sym (length-append (terms 8 h.tokens) (replicate (suc zeros) nothing) ∙ ap (λ n. length (terms 8 h.tokens) + n) (length-replicate (suc zeros) nothing)) ∙ ap length h.gives ∙ length-map pairs plain in
    record {
      tokens = h.tokens ++ Run ∷ [];
      tokens_fit = tokens-last 8 h.tokens Run h.tokens_fit tt;
      fewest = fewest-last (length pairs) 8 h.tokens Run (omega arith) (omega (arith, ap (λ p. 2 ^ k p) h.kp_is, length-replicate (2 ^ k (after_all 8 h.tokens)) nothing));
      gives = (
        2 ^ k kp - suc zeros,
        terms-last 8 h.tokens Run ∙ ap (λ p. terms 8 h.tokens ++ replicate (2 ^ k p) nothing) (sym h.kp_is)
            ∙ ap (λ n. terms 8 h.tokens ++ replicate n nothing) {y = suc zeros + (2 ^ k kp - suc zeros)} (omega arith)
            ∙ ap (λ ps. terms 8 h.tokens ++ ps) (sym (replicate-append-replicate (suc zeros) (2 ^ k kp - suc zeros) nothing))
            ∙ sym (append_assoc (terms 8 h.tokens) (replicate (suc zeros) nothing) (replicate (2 ^ k kp - suc zeros) nothing))
            ∙ ap (λ ps. ps ++ replicate (2 ^ k kp - suc zeros) nothing) h.gives,
      );
      padded = subst (λ b. IsPadded b bytes) (is ∙ ap (λ rest. bits ++ rest) (rest-some zeros) ∙ ap (λ b. b ++ false ∷ []) {x = bits} h.bits_are ∙ sym (codes-last 8 h.tokens Run)) padded;
    }
