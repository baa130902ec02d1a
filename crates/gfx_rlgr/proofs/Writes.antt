-- Values are always written: a token for those in front can be taken again and again.
use Rattle.std.proofs.Common.{◌≡◌, ◌≢◌, ℕ, zero, suc, ◌+◌, ◌-◌, ◌^◌, ◌<◌, ◌≤◌, true, ℤ, pos, negsuc, List, [], ◌∷◌, ◌++◌, length, drop, refl, sym, ap, ◌∙◌, arith, replicate, append_assoc, length-append, inl, inr, subst}
use Rattle.std.specs.List.{list_all}
use Rattle.std.proofs.Math.Seq.{drop-append_seam}
use Rattle.std.proofs.lemmas.Bool.{cases_lt, lt-ltb, le-ltb}
use Rattle.std.proofs.lemmas.Bool.Decides.{eqb_tells}
use Rattle.std.proofs.lemmas.List.{append-nil, drop_all, length-drop, length-replicate, replicate-append-replicate}
use Rattle.std.proofs.lemmas.Nat.{pow_pos}
use Rattle.gfx_base.specs.Field.{IsBytes}
use Rattle.gfx_bits.proofs.Padding.{is-padded, padded-bytes}
use Rattle.gfx_rlgr.specs.declared.mode.Mode.{Mode}
use Rattle.gfx_rlgr.specs.declared.mode.Mode.TheVariants.{Rlgr1, Rlgr3}
use Rattle.gfx_rlgr.specs.declared.params.Params.{Params}
use Rattle.gfx_rlgr.specs.Code.{Token, Run, LastRun, Value, start, k, after, IsToken, adds_up, terms_of}
use Rattle.gfx_rlgr.specs.Rlgr.{Encodes, Written, codes, terms, AreTokens, AreFewest}
use Rattle.gfx_rlgr.specs.Writes.{zeros, run_for, pair_of, single_for, token_for, tokens_for, encoded, rlgr_bytes}
use Rattle.gfx_rlgr.proofs.OneWriting.{one_writing}
use Rattle.gfx_rlgr.proofs.Pairs.{pair-bits, pair-adds, pair-terms}

-- ---- the zeros in front

zeros-front : (values : List ℤ) → replicate (zeros values) (pos 0) ++ drop (zeros values) values ≡ values
zeros-front [] = refl
zeros-front (pos zero ∷ values) = ap (λ vs. pos 0 ∷ vs) (zeros-front values)
zeros-front (pos (suc n) ∷ values) = refl
zeros-front (negsuc n ∷ values) = refl

-- values of which the first isn't 0
abbrev BeginsNew : List ℤ → Type 0
BeginsNew [] = Unit {0}
BeginsNew (value ∷ values) = value ≢ pos 0

zeros-end : (values : List ℤ) → BeginsNew (drop (zeros values) values)
zeros-end [] = tt
zeros-end (pos zero ∷ values) = zeros-end values
zeros-end (pos (suc n) ∷ values) = λ e. cc
zeros-end (negsuc n ∷ values) = λ e. cc

-- ---- one token

-- a token that the parameters have gives values in front, zeros without end behind the last
record Covers (mode : Mode) (params : Params) (values : List ℤ) (token : Token) : Type 0 where
  fits : IsToken mode params token
  adds : adds_up token ≡ true
  some : 0 < length (terms_of params token)
  more : ℕ
  gives : terms_of params token ++ drop (length (terms_of params token)) values ≡ values ++ replicate more (pos 0)

-- terms that stand in front
front-gives : (front rest values : List ℤ) → values ≡ front ++ rest → front ++ drop (length front) values ≡ values ++ replicate 0 (pos 0)
front-gives front rest values is =
    ap (λ vs. front ++ drop (length front) vs) is
    ∙ ap (λ vs. front ++ vs) (drop-append_seam front rest)
    ∙ sym is
    ∙ sym (append-nil values)

value-covers : (params : Params) (value : ℤ) (values : List ℤ) → k params ≡ 0 → Covers Rlgr1 params (value ∷ values) (Value value)
unfolding IsToken terms_of
value-covers params value values none = record {
  fits = (none, refl);
  adds = refl;
  some = omega arith;
  more = 0;
  gives = front-gives (value ∷ []) values (value ∷ values) refl;
}

-- a pair stands for the first two values, the second 0 where there is but one
pair-gives : (params : Params) (one other : ℤ) (more : ℕ) (values : List ℤ)
    → (one ∷ (other ∷ [])) ++ drop 2 values ≡ values ++ replicate more (pos 0) → k params ≡ 0 → Covers Rlgr3 params values (pair_of one other)
unfolding IsToken
pair-gives params one other more values gives none = record {
  fits = (none, refl, pair-bits one other);
  adds = pair-adds one other;
  some = subst (λ ts. 0 < length ts) (sym (pair-terms params one other)) (omega arith);
  more = more;
  gives = subst (λ ts. ts ++ drop (length ts) values ≡ values ++ replicate more (pos 0)) (sym (pair-terms params one other)) gives;
}

pair-covers : (params : Params) (value : ℤ) (values : List ℤ) → k params ≡ 0 → Covers Rlgr3 params (value ∷ values) (single_for Rlgr3 (value ∷ values))
pair-covers params value [] none = pair-gives params value (pos 0) 1 (value ∷ []) refl none
pair-covers params value (other ∷ values) none =
    pair-gives params value other 0 (value ∷ (other ∷ values)) (front-gives (value ∷ (other ∷ [])) values (value ∷ (other ∷ values)) refl) none

single-covers : (mode : Mode) (params : Params) (value : ℤ) (values : List ℤ) → k params ≡ 0 → Covers mode params (value ∷ values) (single_for mode (value ∷ values))
single-covers Rlgr1 params value values none = value-covers params value values none
single-covers Rlgr3 params value values none = pair-covers params value values none

last-run-covers : (mode : Mode) (params : Params) (count : ℕ) (value : ℤ) (rest values : List ℤ) → 0 < k params → count < 2 ^ k params → value ≢ pos 0
    → replicate count (pos 0) ++ (value ∷ rest) ≡ values → Covers mode params values (LastRun count value)
unfolding IsToken terms_of
last-run-covers mode params count value rest values run small new is = record {
  fits = (run, small, new);
  adds = refl;
  some = omega (arith, length-append (replicate count (pos 0)) (value ∷ []));
  more = 0;
  gives = front-gives (replicate count (pos 0) ++ value ∷ []) rest values (sym (append_assoc (replicate count (pos 0)) (value ∷ []) rest ∙ is));
}

some-zeros : (params : Params) → 0 < length (terms_of params Run)
unfolding terms_of
some-zeros params = omega (arith, length-replicate (2 ^ k params) (pos 0), pow_pos (k params))

-- that many zeros stand in front
run-covers : (mode : Mode) (params : Params) (count : ℕ) (rest values : List ℤ) → 0 < k params → 2 ^ k params ≤ count
    → replicate count (pos 0) ++ rest ≡ values → Covers mode params values Run
unfolding IsToken terms_of
run-covers mode params count rest values run full is = record {
  fits = run;
  adds = refl;
  some = some-zeros params;
  more = 0;
  gives = front-gives (replicate (2 ^ k params) (pos 0)) (replicate (count - 2 ^ k params) (pos 0) ++ rest) values (sym
      (sym (append_assoc (replicate (2 ^ k params) (pos 0)) (replicate (count - 2 ^ k params) (pos 0)) rest)
      ∙ ap (λ vs. vs ++ rest) (replicate-append-replicate (2 ^ k params) (count - 2 ^ k params) (pos 0))
      ∙ ap (λ n. replicate n (pos 0) ++ rest) {y = count} (omega (arith, full))
      ∙ is));
}

-- nothing but zeros is left, and fewer
rest-covers : (mode : Mode) (params : Params) (count : ℕ) (values : List ℤ) → 0 < k params → count < 2 ^ k params
    → replicate count (pos 0) ++ [] ≡ values → Covers mode params values Run
unfolding IsToken terms_of
rest-covers mode params count values run few is =
    let are : values ≡ replicate count (pos 0) = sym is ∙ append-nil (replicate count (pos 0)) in
    let none : drop (length (replicate (2 ^ k params) (pos 0))) values ≡ [] =
    drop_all (length (replicate (2 ^ k params) (pos 0))) values
    (omega (arith, few, ap length are, length-replicate count (pos 0), length-replicate (2 ^ k params) (pos 0))) in
    record {
      fits = run;
      adds = refl;
      some = some-zeros params;
      more = 2 ^ k params - count;
      gives =
          ap (λ vs. replicate (2 ^ k params) (pos 0) ++ vs) none
          ∙ append-nil (replicate (2 ^ k params) (pos 0))
          ∙ ap (λ n. replicate n (pos 0)) {y = count + (2 ^ k params - count)} (omega (arith, few))
          ∙ sym (replicate-append-replicate count (2 ^ k params - count) (pos 0))
          ∙ ap (λ vs. vs ++ replicate (2 ^ k params - count) (pos 0)) (sym are);
    }

zeros-covers : (mode : Mode) (params : Params) (count : ℕ) (rest values : List ℤ) → 0 < k params → BeginsNew rest
    → replicate count (pos 0) ++ rest ≡ values → Covers mode params values (run_for (2 ^ k params) count rest)
zeros-covers mode params count [] values run new is = elim (cases_lt count (2 ^ k params)) [
  | inl few ↦ rest-covers mode params count values run few is
  | inr full ↦ run-covers mode params count [] values run full is
]
zeros-covers mode params count (value ∷ rest) values run new is = elim (cases_lt count (2 ^ k params)) [
  | inl few ↦ rw (lt-ltb count (2 ^ k params) few) (last-run-covers mode params count value rest values run few new is)
  | inr full ↦ rw (le-ltb count (2 ^ k params) full) (run-covers mode params count (value ∷ rest) values run full is)
]

token-covers : (mode : Mode) (params : Params) (value : ℤ) (values : List ℤ) → Covers mode params (value ∷ values) (token_for mode params (value ∷ values))
unfolding token_for
token-covers mode params value values = elim (eqb_tells (k params) 0) [
  | inl h ↦ rw h.0 (single-covers mode params value values h.1)
  | inr h ↦ rw h.0
      (zeros-covers mode params (zeros (value ∷ values)) (drop (zeros (value ∷ values)) (value ∷ values)) (value ∷ values) (omega (arith, h.1)) (zeros-end (value ∷ values)) (zeros-front (value ∷ values)))
]

-- ---- tokens one after another

-- tokens that the parameters have, the fewest that give the values, zeros behind the last
record Gives (mode : Mode) (params : Params) (values : List ℤ) (tokens : List Token) : Type 0 where
  fit : AreTokens mode params tokens
  add_up : list_all adds_up tokens ≡ true
  fewest : AreFewest (length values) params tokens
  more : ℕ
  gives : terms params tokens ≡ values ++ replicate more (pos 0)

none-gives : (mode : Mode) (params : Params) → Gives mode params [] []
unfolding AreTokens AreFewest terms
none-gives mode params = record { fit = tt; add_up = refl; fewest = refl; more = 0; gives = refl }

more-gives : (mode : Mode) (params : Params) (values : List ℤ) (token : Token) (tokens : List Token) → 0 < length values → Covers mode params values token
    → Gives mode (after params token) (drop (length (terms_of params token)) values) tokens → Gives mode params values (token ∷ tokens)
unfolding AreTokens AreFewest terms
more-gives mode params values token tokens some one rest = record {
  fit = (one.fits, rest.fit);
  add_up = rw (one.adds, rest.add_up) refl;
  fewest = (some, subst (λ n. AreFewest n (after params token) tokens) (length-drop (length (terms_of params token)) values) rest.fewest);
  more = one.more + rest.more;
  gives =
      ap (λ vs. terms_of params token ++ vs) rest.gives
      ∙ sym (append_assoc (terms_of params token) (drop (length (terms_of params token)) values) (replicate rest.more (pos 0)))
      ∙ ap (λ vs. vs ++ replicate rest.more (pos 0)) one.gives
      ∙ append_assoc values (replicate one.more (pos 0)) (replicate rest.more (pos 0))
      ∙ ap (λ vs. values ++ vs) (replicate-append-replicate one.more rest.more (pos 0));
}

tokens-give : (mode : Mode) (most : ℕ) (params : Params) (values : List ℤ) → length values ≤ most → Gives mode params values (tokens_for mode most params values)
unfolding tokens_for
tokens-give mode zero params [] h = none-gives mode params
tokens-give mode zero params (value ∷ values) h = absurd (omega (arith, h))
tokens-give mode (suc most) params [] h = none-gives mode params
tokens-give mode (suc most) params (value ∷ values) h =
    let token : Token = token_for mode params (value ∷ values) in
    let one : Covers mode params (value ∷ values) token = token-covers mode params value values in
    let left : List ℤ = drop (length (terms_of params token)) (value ∷ values) in
    more-gives mode params (value ∷ values) token (tokens_for mode most (after params token) left) (omega arith) one
    (tokens-give mode most (after params token) left (omega (arith, h, one.some, length-drop (length (terms_of params token)) (value ∷ values))))

-- ---- bytes

pub always-encoded : (mode : Mode) (values : List ℤ) → length values ≡ 4096 → Encodes mode values (encoded mode values)
unfolding encoded
always-encoded mode values count =
    let tokens : List Token = tokens_for mode (length values) start values in
    let all : Gives mode start values tokens = tokens-give mode (length values) start values (omega arith) in
    record {
      tokens = tokens;
      tokens_fit = all.fit;
      add_up = all.add_up;
      fewest = subst (λ n. AreFewest n start tokens) count all.fewest;
      gives = (all.more, all.gives);
      padded = is-padded (codes start tokens);
    }

pub encoded-bytes : (mode : Mode) (values : List ℤ) → IsBytes (encoded mode values)
unfolding encoded
encoded-bytes mode values = padded-bytes (codes start (tokens_for mode (length values) start values))

pub encodes-only : (mode : Mode) (values : List ℤ) (bytes : List ℕ) → length values ≡ 4096 → IsBytes bytes → Encodes mode values bytes → bytes ≡ encoded mode values
encodes-only mode values bytes count fits written =
    one_writing mode values bytes (encoded mode values) fits (encoded-bytes mode values) written (always-encoded mode values count)

-- in RLGR1
pub always-written : (values : List ℤ) → length values ≡ 4096 → Written values (rlgr_bytes values)
always-written values count = always-encoded Rlgr1 values count

pub written-only : (values : List ℤ) (bytes : List ℕ) → length values ≡ 4096 → IsBytes bytes → Written values bytes → bytes ≡ rlgr_bytes values
written-only values bytes count fits written = encodes-only Rlgr1 values bytes count fits written
