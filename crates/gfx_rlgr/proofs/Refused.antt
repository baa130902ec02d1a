-- Broken pairs are refused: the first value of such a pair is among those that are due.
use Rattle.std.proofs.Common.{◌≡◌, ℕ, zero, suc, ◌-◌, ◌<◌, Bool, true, false, ◌&&◌, ℤ, List, [], ◌∷◌, ◌++◌, length, take, refl, sym, ap, ◌∙◌, arith, Err}
use Rattle.std.specs.List.{list_all}
use Rattle.std.proofs.lemmas.Bool.{and_left, and_right}
use Rattle.std.proofs.lemmas.List.Folds.{list_all-append}
use Rattle.gfx_base.specs.declared.refusal.Refusal.TheVariants.{CoefficientRange}
use Rattle.gfx_bits.specs.Bits.{bits_of}
use Rattle.gfx_rlgr.specs.declared.mode.Mode.{Mode}
use Rattle.gfx_rlgr.specs.declared.params.Params.{Params}
use Rattle.gfx_rlgr.specs.Code.{Token, Run, LastRun, Value, Pair, start, after, adds_up, terms_of}
use Rattle.gfx_rlgr.specs.Rlgr.{Reading, answer, in_range, terms, AreFewest}
use Rattle.gfx_rlgr.specs.Says.{decoded}
use Rattle.gfx_rlgr.proofs.Says.{decodes-only}

-- what is taken of two lists
take-both : (n : ℕ) (xs ys : List ℤ) → take n (xs ++ ys) ≡ take n xs ++ take (n - length xs) ys
take-both zero [] ys = refl
take-both (suc n) [] ys = ap (λ k. take k ys) {x = suc n} {y = suc n - 0} (omega arith)
take-both zero (x ∷ xs) ys = ap (λ k. take k ys) {x = 0} {y = 0 - length (x ∷ xs)} (omega arith)
take-both (suc n) (x ∷ xs) ys =
    ap (λ vs. x ∷ vs) (take-both n xs ys)
    ∙ ap (λ k. x ∷ (take n xs ++ take k ys)) {x = n - length xs} {y = suc n - length (x ∷ xs)} (omega arith)

-- a broken pair's first value is out of range
first-out : (n : ℕ) (params : Params) (token : Token) → 0 < n → adds_up token ≡ false → list_all in_range (take n (terms_of params token)) ≡ false
unfolding terms_of
first-out zero params token some e = absurd (omega arith)
first-out (suc n) params (Pair sum one) some e = rw e refl
first-out (suc n) params Run some e = cc
first-out (suc n) params (LastRun count value) some e = cc
first-out (suc n) params (Value value) some e = cc

broken-out : (n : ℕ) (params : Params) (tokens : List Token) → AreFewest n params tokens → list_all adds_up tokens ≡ false
    → list_all in_range (take n (terms params tokens)) ≡ false
unfolding AreFewest terms
broken-out n params [] fewest e = cc
broken-out n params (token ∷ tokens) fewest e =
    ap (list_all in_range) (take-both n (terms_of params token) (terms (after params token) tokens))
    ∙ list_all-append in_range (take n (terms_of params token)) (take (n - length (terms_of params token)) (terms (after params token) tokens))
    ∙ by (adds_up token) refl e (broken-out (n - length (terms_of params token)) (after params token) tokens fewest.1)
  where
    by : (b : Bool) → adds_up token ≡ b → (b && list_all adds_up tokens) ≡ false
        → (list_all adds_up tokens ≡ false → list_all in_range (take (n - length (terms_of params token)) (terms (after params token) tokens)) ≡ false)
        → (list_all in_range (take n (terms_of params token)) && list_all in_range (take (n - length (terms_of params token)) (terms (after params token) tokens))) ≡ false
    by true is rest later = and_right (list_all in_range (take n (terms_of params token))) _ (later rest)
    by false is rest later = and_left _ (list_all in_range (take (n - length (terms_of params token)) (terms (after params token) tokens))) (first-out n params token fewest.0 is)

refuses : (values : List ℤ) → list_all in_range values ≡ false → answer values ≡ Err CoefficientRange
unfolding answer
refuses values e = rw e refl

pub broken-refused : (mode : Mode) (bytes : List ℕ) (tokens : List Token) → Reading mode (bits_of bytes) tokens → list_all adds_up tokens ≡ false
    → decoded mode bytes ≡ Err CoefficientRange
broken-refused mode bytes tokens reading e =
    sym (decodes-only mode bytes (answer (take 4096 (terms start tokens))) (tokens, reading, refl))
    ∙ refuses (take 4096 (terms start tokens)) (broken-out 4096 start tokens reading.fewest e)
