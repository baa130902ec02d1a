-- Tokens one after another: the last of them.
use Rattle.std.proofs.Common.{◌≡◌, ℕ, ◌+◌, ◌-◌, ◌<◌, ◌≤◌, ◌^◌, List, [], ◌∷◌, ◌++◌, length, replicate, refl, sym, ap, ◌∙◌, arith, append_assoc, length-append}
use Rattle.std.proofs.lemmas.List.{append-nil, length-replicate}
use Rattle.std.proofs.lemmas.Nat.{pow_pos}
use Rattle.gfx_srl.specs.Code.{Token, Run, LastRun, nothing, k, code, after, IsToken, terms_of}
use Rattle.gfx_srl.specs.Srl.{codes, terms, AreTokens, AreFewest}
use Rattle.gfx_srl.specs.Steps.{after_all}

pub after_all-last : (p : ℕ) (ts : List Token) (t : Token) → after_all p (ts ++ t ∷ []) ≡ after (after_all p ts) t
unfolding after_all
after_all-last p [] t = refl
after_all-last p (x ∷ ts) t = after_all-last (after p x) ts t

pub codes-last : (p : ℕ) (ts : List Token) (t : Token) → codes p (ts ++ t ∷ []) ≡ codes p ts ++ code (after_all p ts) t
unfolding after_all codes
codes-last p [] t = append-nil (code p t)
codes-last p (x ∷ ts) t = ap (λ b. code p x ++ b) (codes-last (after p x) ts t) ∙ sym (append_assoc (code p x) (codes (after p x) ts) (code (after_all (after p x) ts) t))

pub terms-last : (p : ℕ) (ts : List Token) (t : Token) → terms p (ts ++ t ∷ []) ≡ terms p ts ++ terms_of (after_all p ts) t
unfolding after_all terms
terms-last p [] t = append-nil (terms_of p t)
terms-last p (x ∷ ts) t = ap (λ b. terms_of p x ++ b) (terms-last (after p x) ts t) ∙ sym (append_assoc (terms_of p x) (terms (after p x) ts) (terms_of (after_all (after p x) ts) t))

pub tokens-last : (p : ℕ) (ts : List Token) (t : Token) → AreTokens p ts → IsToken (after_all p ts) t → AreTokens p (ts ++ t ∷ [])
unfolding after_all AreTokens
tokens-last p [] t h f = (f, tt)
tokens-last p (x ∷ ts) t h f = (h.0, tokens-last (after p x) ts t h.1 f)

-- each token gives a term
pub some-terms : (p : ℕ) (t : Token) → 0 < length (terms_of p t)
unfolding terms_of
some-terms p Run = omega (arith, length-replicate (2 ^ k p) nothing, pow_pos (k p))
some-terms p (LastRun count pair) = omega (arith, length-append (replicate count nothing) (pair ∷ []))

-- tokens are the fewest that give what they give
pub fewest-whole : (n p : ℕ) (ts : List Token) → n ≡ length (terms p ts) → AreFewest n p ts
unfolding terms AreFewest
fewest-whole n p [] e = e
fewest-whole n p (t ∷ ts) e = (
  omega (arith, some-terms p t, length-append (terms_of p t) (terms (after p t) ts)),
  fewest-whole (n - length (terms_of p t)) (after p t) ts (omega (arith, length-append (terms_of p t) (terms (after p t) ts))),
)

-- and so they are with one more that is wanted
pub fewest-last : (n p : ℕ) (ts : List Token) (t : Token) → length (terms p ts) < n → n ≤ length (terms p ts) + length (terms_of (after_all p ts) t)
    → AreFewest n p (ts ++ t ∷ [])
unfolding terms AreFewest after_all
fewest-last n p [] t h l = (omega arith, omega arith)
fewest-last n p (x ∷ ts) t h l = (
  omega (arith, some-terms p x, length-append (terms_of p x) (terms (after p x) ts)),
  fewest-last (n - length (terms_of p x)) (after p x) ts t
      (omega (arith, length-append (terms_of p x) (terms (after p x) ts)))
      (omega (arith, length-append (terms_of p x) (terms (after p x) ts))),
)
