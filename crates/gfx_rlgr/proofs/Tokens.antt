-- Tokens one after another: the last of them.
use Rattle.std.proofs.Common.{◌≡◌, ℕ, ◌-◌, ◌<◌, ◌≤◌, true, List, [], ◌∷◌, ◌++◌, length, refl, sym, ap, ◌∙◌, arith, append_assoc, length-append}
use Rattle.std.proofs.lemmas.List.{append-nil}
use Rattle.std.specs.List.{list_all}
use Rattle.std.proofs.lemmas.List.Folds.{list_all-append}
use Rattle.gfx_rlgr.specs.declared.mode.Mode.{Mode}
use Rattle.gfx_rlgr.specs.declared.params.Params.{Params}
use Rattle.gfx_rlgr.specs.Code.{Token, code, after, IsToken, adds_up, terms_of}
use Rattle.gfx_rlgr.specs.Rlgr.{codes, terms, AreTokens, AreFewest}

-- the parameters after tokens
unfoldable pub after_all : Params → List Token → Params
after_all params [] = params
after_all params (token ∷ tokens) = after_all (after params token) tokens

-- each token comes while terms are wanted
unfoldable pub AreNeeded : ℕ → Params → List Token → Type 0
AreNeeded n params [] = Unit {0}
AreNeeded n params (token ∷ tokens) = (0 < n) × AreNeeded (n - length (terms_of params token)) (after params token) tokens

pub after_all-last : (p : Params) (ts : List Token) (t : Token) → after_all p (ts ++ t ∷ []) ≡ after (after_all p ts) t
unfolding after_all
after_all-last p [] t = refl
after_all-last p (x ∷ ts) t = after_all-last (after p x) ts t

pub codes-last : (p : Params) (ts : List Token) (t : Token) → codes p (ts ++ t ∷ []) ≡ codes p ts ++ code (after_all p ts) t
unfolding after_all codes
codes-last p [] t = append-nil (code p t)
codes-last p (x ∷ ts) t = ap (λ b. code p x ++ b) (codes-last (after p x) ts t) ∙ sym (append_assoc (code p x) (codes (after p x) ts) (code (after_all (after p x) ts) t))

pub terms-last : (p : Params) (ts : List Token) (t : Token) → terms p (ts ++ t ∷ []) ≡ terms p ts ++ terms_of (after_all p ts) t
unfolding after_all terms
terms-last p [] t = append-nil (terms_of p t)
terms-last p (x ∷ ts) t = ap (λ b. terms_of p x ++ b) (terms-last (after p x) ts t) ∙ sym (append_assoc (terms_of p x) (terms (after p x) ts) (terms_of (after_all (after p x) ts) t))

pub tokens-last : (mode : Mode) (p : Params) (ts : List Token) (t : Token) → AreTokens mode p ts → IsToken mode (after_all p ts) t → AreTokens mode p (ts ++ t ∷ [])
unfolding after_all AreTokens
tokens-last mode p [] t h f = (f, tt)
tokens-last mode p (x ∷ ts) t h f = (h.0, tokens-last mode (after p x) ts t h.1 f)

pub adds-last : (ts : List Token) (t : Token) → list_all adds_up ts ≡ true → adds_up t ≡ true → list_all adds_up (ts ++ t ∷ []) ≡ true
adds-last ts t all one = list_all-append adds_up ts (t ∷ []) ∙ rw (all, one) refl

pub needed-last : (n : ℕ) (p : Params) (ts : List Token) (t : Token) → AreNeeded n p ts → length (terms p ts) < n → AreNeeded n p (ts ++ t ∷ [])
unfolding AreNeeded terms
needed-last n p [] t h l = (omega arith, tt)
needed-last n p (x ∷ ts) t h l =
    (h.0, needed-last (n - length (terms_of p x)) (after p x) ts t h.1 (omega (arith, length-append (terms_of p x) (terms (after p x) ts))))

pub fewest-needed : (n : ℕ) (p : Params) (ts : List Token) → AreNeeded n p ts → n ≤ length (terms p ts) → AreFewest n p ts
unfolding AreNeeded AreFewest terms
fewest-needed n p [] h l = omega arith
fewest-needed n p (x ∷ ts) h l =
    (h.0, fewest-needed (n - length (terms_of p x)) (after p x) ts h.1 (omega (arith, length-append (terms_of p x) (terms (after p x) ts))))

pub needed-fewest : (n : ℕ) (p : Params) (ts : List Token) → AreFewest n p ts → n ≤ length (terms p ts)
unfolding AreFewest terms
needed-fewest n p [] h = omega arith
needed-fewest n p (x ∷ ts) h =
    omega (arith, needed-fewest (n - length (terms_of p x)) (after p x) ts h.1, length-append (terms_of p x) (terms (after p x) ts))
