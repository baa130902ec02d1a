-- Pairs are always written, where each value fits its width: a token for those in front can be taken again and again.
use Rattle.std.proofs.Common.{◌≡◌, ◌≢◌, ℕ, zero, suc, ◌+◌, ◌-◌, ◌^◌, ◌<◌, ◌≤◌, ℤ, pos, negsuc, List, [], ◌∷◌, ◌++◌, length, map, drop, refl, sym, ap, ◌∙◌, arith, replicate, append_assoc, inl, inr, subst, All}
use Rattle.std.specs.Int.RustNames.{unsigned_abs}
use Rattle.std.proofs.Math.Seq.{drop-append_seam}
use Rattle.std.proofs.lemmas.Bool.{cases_lt, lt-ltb, le-ltb}
use Rattle.std.proofs.lemmas.List.{append-nil, drop_all, drop-map, length-drop, length-replicate, replicate-append-replicate}
use Rattle.std.proofs.lemmas.List.Elements.{All-nil, All-cons, All-head, All-tail, All-replicate, All-append, All-drop}
use Rattle.std.proofs.lemmas.Nat.{pow_pos}
use Rattle.gfx_base.specs.Field.{IsBytes}
use Rattle.gfx_bits.proofs.Padding.{is-padded, padded-bytes}
use Rattle.gfx_srl.specs.Code.{Pair, Token, Run, LastRun, nothing, k, after, IsToken, terms_of}
use Rattle.gfx_srl.specs.Srl.{Written, codes, terms, AreTokens, AreFewest, plain_of, plain}
use Rattle.gfx_srl.specs.Writes.{FitsWidth, zeros_from, zeros, run_for, token_for, tokens_for, srl_bytes}
use Rattle.gfx_srl.proofs.OneWriting.{one-writing}
use Rattle.gfx_srl.proofs.Reading.{pair_of, plain-value}
use Rattle.gfx_srl.proofs.Tokens.{some-terms}

-- ---- the zeros in front

-- pairs whose front is so many zeros
abbrev IsFront : ℕ → List Pair → Type 0
IsFront count pairs = replicate count nothing ++ map plain (drop count pairs) ≡ map plain pairs

zero-more : (value : ℤ) (width count : ℕ) (pairs : List Pair) → IsFront count pairs → IsFront (zeros_from value count) (pair_of value width ∷ pairs)
zero-more (pos zero) width count pairs h = ap (λ ps. nothing ∷ ps) h
zero-more (pos (suc n)) width count pairs h = refl
zero-more (negsuc n) width count pairs h = refl

zeros-front : (pairs : List Pair) → IsFront (zeros pairs) pairs
zeros-front [] = refl
zeros-front (pair ∷ pairs) = zero-more pair.value pair.width (zeros pairs) pairs (zeros-front pairs)

-- pairs of which the first isn't 0
abbrev BeginsNew : List Pair → Type 0
BeginsNew [] = Unit {0}
BeginsNew (pair ∷ pairs) = pair.value ≢ pos 0

zero-last : (value : ℤ) (width count : ℕ) (pairs : List Pair) → BeginsNew (drop count pairs) → BeginsNew (drop (zeros_from value count) (pair_of value width ∷ pairs))
zero-last (pos zero) width count pairs h = h
zero-last (pos (suc n)) width count pairs h = λ e. cc
zero-last (negsuc n) width count pairs h = λ e. cc

zeros-end : (pairs : List Pair) → BeginsNew (drop (zeros pairs) pairs)
zeros-end [] = tt
zeros-end (pair ∷ pairs) = zero-last pair.value pair.width (zeros pairs) pairs (zeros-end pairs)

-- ---- one token

-- a token that the parameter has gives terms in front, zeros without end behind the last
record Covers (kp : ℕ) (due : List Pair) (token : Token) : Type 0 where
  fits : IsToken kp token
  more : ℕ
  gives : terms_of kp token ++ drop (length (terms_of kp token)) due ≡ due ++ replicate more nothing

-- terms that stand in front
front-gives : (front rest due : List Pair) → due ≡ front ++ rest → front ++ drop (length front) due ≡ due ++ replicate 0 nothing
front-gives front rest due is =
    ap (λ ps. front ++ drop (length front) ps) is
    ∙ ap (λ ps. front ++ ps) (drop-append_seam front rest)
    ∙ sym is
    ∙ sym (append-nil due)

last-run-covers : (kp count : ℕ) (pair : Pair) (rest due : List Pair) → count < 2 ^ k kp → pair.value ≢ pos 0 → FitsWidth pair
    → replicate count nothing ++ (plain pair ∷ rest) ≡ due → Covers kp due (LastRun count pair)
unfolding IsToken terms_of
last-run-covers kp count pair rest due small new narrow is = record {
  fits = (small, (new, narrow));
  more = 0;
  gives = front-gives (replicate count nothing ++ pair ∷ []) rest due
      (sym (append_assoc (replicate count nothing) (pair ∷ []) rest
      ∙ ap (λ p. replicate count nothing ++ (p ∷ rest)) (sym (plain-value pair.value pair.width new))
      ∙ is));
}

-- that many zeros stand in front
run-covers : (kp count : ℕ) (rest due : List Pair) → 2 ^ k kp ≤ count → replicate count nothing ++ rest ≡ due → Covers kp due Run
unfolding IsToken terms_of
run-covers kp count rest due full is = record {
  fits = tt;
  more = 0;
  gives = front-gives (replicate (2 ^ k kp) nothing) (replicate (count - 2 ^ k kp) nothing ++ rest) due
      (sym (sym (append_assoc (replicate (2 ^ k kp) nothing) (replicate (count - 2 ^ k kp) nothing) rest)
      ∙ ap (λ ps. ps ++ rest) (replicate-append-replicate (2 ^ k kp) (count - 2 ^ k kp) nothing)
      ∙ ap (λ n. replicate n nothing ++ rest) {y = count} (omega (arith, full))
      ∙ is));
}

-- nothing but zeros is left, and fewer
rest-covers : (kp count : ℕ) (due : List Pair) → count < 2 ^ k kp → replicate count nothing ++ [] ≡ due → Covers kp due Run
unfolding IsToken terms_of
rest-covers kp count due few is =
    let are : due ≡ replicate count nothing = sym is ∙ append-nil (replicate count nothing) in
    let none : drop (length (replicate (2 ^ k kp) nothing)) due ≡ [] =
    drop_all (length (replicate (2 ^ k kp) nothing)) due
    (omega (arith, few, ap length are, length-replicate count nothing, length-replicate (2 ^ k kp) nothing)) in
    record {
      fits = tt;
      more = 2 ^ k kp - count;
      gives =
          ap (λ ps. replicate (2 ^ k kp) nothing ++ ps) none
          ∙ append-nil (replicate (2 ^ k kp) nothing)
          ∙ ap (λ n. replicate n nothing) {y = count + (2 ^ k kp - count)} (omega (arith, few))
          ∙ sym (replicate-append-replicate count (2 ^ k kp - count) nothing)
          ∙ ap (λ ps. ps ++ replicate (2 ^ k kp - count) nothing) (sym are);
    }

zeros-covers : (kp count : ℕ) (rest due : List Pair) → BeginsNew rest → All FitsWidth rest
    → replicate count nothing ++ map plain rest ≡ due → Covers kp due (run_for (2 ^ k kp) count rest)
zeros-covers kp count [] due new all is = elim (cases_lt count (2 ^ k kp)) [
  | inl few ↦ rest-covers kp count due few is
  | inr full ↦ run-covers kp count [] due full is
]
zeros-covers kp count (pair ∷ rest) due new all is = elim (cases_lt count (2 ^ k kp)) [
  | inl few ↦ rw (lt-ltb count (2 ^ k kp) few) (last-run-covers kp count pair (map plain rest) due few new (All-head FitsWidth pair rest all) is)
  | inr full ↦ rw (le-ltb count (2 ^ k kp) full) (run-covers kp count (map plain (pair ∷ rest)) due full is)
]

token-covers : (kp : ℕ) (pairs : List Pair) → All FitsWidth pairs → Covers kp (map plain pairs) (token_for kp pairs)
unfolding token_for
token-covers kp pairs all =
    zeros-covers kp (zeros pairs) (drop (zeros pairs) pairs) (map plain pairs) (zeros-end pairs) (All-drop FitsWidth (zeros pairs) pairs all) (zeros-front pairs)

-- ---- tokens one after another

-- tokens that the parameter has, the fewest that give so many terms, and these, zeros behind the last
record Gives (kp n : ℕ) (due : List Pair) (tokens : List Token) : Type 0 where
  fit : AreTokens kp tokens
  fewest : AreFewest n kp tokens
  more : ℕ
  gives : terms kp tokens ≡ due ++ replicate more nothing

none-gives : (kp : ℕ) → Gives kp 0 [] []
unfolding AreTokens AreFewest terms
none-gives kp = record { fit = tt; fewest = refl; more = 0; gives = refl }

more-gives : (kp n : ℕ) (due : List Pair) (token : Token) (tokens : List Token) → 0 < n → Covers kp due token
    → Gives (after kp token) (n - length (terms_of kp token)) (drop (length (terms_of kp token)) due) tokens → Gives kp n due (token ∷ tokens)
unfolding AreTokens AreFewest terms
more-gives kp n due token tokens some one rest = record {
  fit = (one.fits, rest.fit);
  fewest = (some, rest.fewest);
  more = one.more + rest.more;
  gives =
      ap (λ ps. terms_of kp token ++ ps) rest.gives
      ∙ sym (append_assoc (terms_of kp token) (drop (length (terms_of kp token)) due) (replicate rest.more nothing))
      ∙ ap (λ ps. ps ++ replicate rest.more nothing) one.gives
      ∙ append_assoc due (replicate one.more nothing) (replicate rest.more nothing)
      ∙ ap (λ ps. due ++ ps) (replicate-append-replicate one.more rest.more nothing);
}

tokens-give : (most kp : ℕ) (pairs : List Pair) → length pairs ≤ most → All FitsWidth pairs → Gives kp (length pairs) (map plain pairs) (tokens_for most kp pairs)
unfolding tokens_for
tokens-give zero kp [] h all = none-gives kp
tokens-give zero kp (pair ∷ pairs) h all = absurd (omega (arith, h))
tokens-give (suc most) kp [] h all = none-gives kp
tokens-give (suc most) kp (pair ∷ pairs) h all =
    let token : Token = token_for kp (pair ∷ pairs) in
    let n : ℕ = length (terms_of kp token) in
    let left : List Pair = drop n (pair ∷ pairs) in
    let rest : Gives (after kp token) (length left) (map plain left) (tokens_for most (after kp token) left) =
    tokens-give most (after kp token) left (omega (arith, h, some-terms kp token, length-drop n (pair ∷ pairs))) (All-drop FitsWidth n (pair ∷ pairs) all) in
    more-gives kp (length (pair ∷ pairs)) (map plain (pair ∷ pairs)) token (tokens_for most (after kp token) left) (omega arith) (token-covers kp (pair ∷ pairs) all)
    (subst (λ ps. Gives (after kp token) (length (pair ∷ pairs) - n) ps (tokens_for most (after kp token) left)) (sym (drop-map plain n (pair ∷ pairs)))
    (subst (λ m. Gives (after kp token) m (map plain left) (tokens_for most (after kp token) left)) (length-drop n (pair ∷ pairs)) rest))

-- ---- what is written fits its width

token-fits : (kp : ℕ) (token : Token) → IsToken kp token → All FitsWidth (terms_of kp token)
unfolding IsToken terms_of
token-fits kp Run h = All-replicate FitsWidth (2 ^ k kp) nothing (omega arith)
token-fits kp (LastRun count pair) h =
    All-append FitsWidth (replicate count nothing) (pair ∷ []) (All-replicate FitsWidth count nothing (omega arith)) (All-cons FitsWidth pair [] h.1.1 (All-nil FitsWidth))

tokens-fit : (kp : ℕ) (tokens : List Token) → AreTokens kp tokens → All FitsWidth (terms kp tokens)
unfolding AreTokens terms
tokens-fit kp [] h = All-nil FitsWidth
tokens-fit kp (token ∷ tokens) h =
    All-append FitsWidth (terms_of kp token) (terms (after kp token) tokens) (token-fits kp token h.0) (tokens-fit (after kp token) tokens h.1)

value-fits : (value : ℤ) (width : ℕ) → FitsWidth (plain_of value width) → unsigned_abs value < 2 ^ width
value-fits (pos zero) width h = pow_pos width
value-fits (pos (suc n)) width h = h
value-fits (negsuc n) width h = h

pairs-fit : (pairs behind : List Pair) → All FitsWidth (map plain pairs ++ behind) → All FitsWidth pairs
pairs-fit [] behind h = All-nil FitsWidth
pairs-fit (pair ∷ pairs) behind h =
    All-cons FitsWidth pair pairs
    (value-fits pair.value pair.width (All-head FitsWidth (plain pair) (map plain pairs ++ behind) h))
    (pairs-fit pairs behind (All-tail FitsWidth (plain pair) (map plain pairs ++ behind) h))

-- ---- bytes

pub always-written : (pairs : List Pair) → All FitsWidth pairs → Written pairs (srl_bytes pairs)
unfolding srl_bytes
always-written pairs all =
    let tokens : List Token = tokens_for (length pairs) 8 pairs in
    let given : Gives 8 (length pairs) (map plain pairs) tokens = tokens-give (length pairs) 8 pairs (omega arith) all in
    record {
      tokens = tokens;
      tokens_fit = given.fit;
      fewest = given.fewest;
      gives = (given.more, given.gives);
      padded = is-padded (codes 8 tokens);
    }

pub written-fits : (pairs : List Pair) (bytes : List ℕ) → Written pairs bytes → All FitsWidth pairs
written-fits pairs bytes written =
    pairs-fit pairs (replicate written.gives.0 nothing) (subst (All FitsWidth) written.gives.1 (tokens-fit 8 written.tokens written.tokens_fit))

pub written-bytes : (pairs : List Pair) → IsBytes (srl_bytes pairs)
unfolding srl_bytes
written-bytes pairs = padded-bytes (codes 8 (tokens_for (length pairs) 8 pairs))

pub written-only : (pairs : List Pair) (bytes : List ℕ) → IsBytes bytes → Written pairs bytes → bytes ≡ srl_bytes pairs
written-only pairs bytes fits written =
    one-writing pairs bytes (srl_bytes pairs) fits (written-bytes pairs) written (always-written pairs (written-fits pairs bytes written))
