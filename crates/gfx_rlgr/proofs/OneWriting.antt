-- Values have one spelling: the tokens that give them are the same, and so are the bytes.
use Rattle.std.proofs.Common.{◌≡◌, ◌⊎◌, inl, inr, ◌∙◌, ℕ, zero, suc, ◌+◌, ◌-◌, ◌^◌, ◌<◌, ◌≤◌, true, ℤ, pos, List, [], ◌∷◌, ◌++◌, length, get_or, refl, sym, ap, subst, arith, replicate, append_assoc}
use Rattle.std.proofs.lemmas.Bool.{cases_lt, and_parts}
use Rattle.std.proofs.lemmas.List.{get_or-append-add}
use Rattle.std.specs.List.{list_all}
use Rattle.gfx_base.specs.Field.{IsBytes}
use Rattle.gfx_bits.specs.Bits.{IsPadded}
use Rattle.gfx_bits.proofs.Laws.{padded-only}
use Rattle.gfx_rlgr.specs.declared.mode.Mode.{Mode}
use Rattle.gfx_rlgr.specs.declared.params.Params.{Params}
use Rattle.gfx_rlgr.specs.Code.{Token, Run, LastRun, Value, Pair, start, k, after, IsToken, adds_up, terms_of}
use Rattle.gfx_rlgr.specs.Rlgr.{Encodes, codes, terms, AreTokens, AreFewest}
use Rattle.gfx_rlgr.proofs.Pairs.{modes-differ, same-pair}

-- the same values, zeros without end behind them
Alike : List ℤ → List ℤ → Type 0
Alike xs ys = (i : ℕ) → get_or xs i (pos 0) ≡ get_or ys i (pos 0)

-- zeros behind a list change nothing
with_zeros : (xs : List ℤ) (more i : ℕ) → get_or (xs ++ replicate more (pos 0)) i (pos 0) ≡ get_or xs i (pos 0)
with_zeros [] zero i = refl
with_zeros [] (suc more) zero = refl
with_zeros [] (suc more) (suc i) = with_zeros [] more i
with_zeros (x ∷ xs) more zero = refl
with_zeros (x ∷ xs) more (suc i) = with_zeros xs more i

-- a zero among zeros
zero_at : (n i : ℕ) (rest : List ℤ) → i < n → get_or (replicate n (pos 0) ++ rest) i (pos 0) ≡ pos 0
zero_at zero i rest below = absurd (omega arith)
zero_at (suc n) zero rest below = refl
zero_at (suc n) (suc i) rest below = zero_at n i rest (omega arith)

-- the value behind zeros
value_at : (n : ℕ) (value : ℤ) (rest : List ℤ) → get_or ((replicate n (pos 0) ++ value ∷ []) ++ rest) n (pos 0) ≡ value
value_at zero value rest = refl
value_at (suc n) value rest = value_at n value rest

-- and the zeros before it
zero_before : (n i : ℕ) (value : ℤ) (rest : List ℤ) → i < n → get_or ((replicate n (pos 0) ++ value ∷ []) ++ rest) i (pos 0) ≡ pos 0
zero_before n i value rest below = ap (λ l. get_or l i (pos 0)) (append_assoc (replicate n (pos 0)) (value ∷ []) rest) ∙ zero_at n i ((value ∷ []) ++ rest) below

-- tokens whose terms are alike, whatever is behind them, are the same
same_token : (mode : Mode) (params : Params) (a b : Token) (xs ys : List ℤ) → IsToken mode params a → IsToken mode params b → adds_up a ≡ true → adds_up b ≡ true
    → Alike (terms_of params a ++ xs) (terms_of params b ++ ys) → a ≡ b
unfolding IsToken terms_of Alike
same_token mode params Run Run xs ys f g d e alike = refl
same_token mode params Run (LastRun count value) xs ys f g d e alike =
    absurd (g.2 (sym (value_at count value ys) ∙ sym (alike count) ∙ zero_at (2 ^ k params) count xs g.1))
same_token mode params Run (Value value) xs ys f g d e alike = absurd (omega (arith, f, g.0))
same_token mode params Run (Pair sum one) xs ys f g d e alike = absurd (omega (arith, f, g.0))
same_token mode params (LastRun count value) Run xs ys f g d e alike =
    absurd (f.2 (sym (value_at count value xs) ∙ alike count ∙ zero_at (2 ^ k params) count ys f.1))
same_token mode params (LastRun count value) (LastRun count' value') xs ys f g d e alike = by (cases_lt count count') (cases_lt count' count)
  where
    by : ((count < count') ⊎ (count' ≤ count)) → ((count' < count) ⊎ (count ≤ count')) → LastRun count value ≡ LastRun count' value'
    by (inl less) other = absurd (f.2 (sym (value_at count value xs) ∙ alike count ∙ zero_before count' count value' ys less))
    by (inr on) (inl less) = absurd (g.2 (sym (value_at count' value' ys) ∙ sym (alike count') ∙ zero_before count count' value xs less))
    by (inr on) (inr on') =
        let same : count ≡ count' = omega arith in
        let values : value ≡ value' = sym (value_at count value xs) ∙ alike count ∙ ap (λ n. get_or ((replicate count' (pos 0) ++ value' ∷ []) ++ ys) n (pos 0)) same ∙ value_at count' value' ys in
        λ i. LastRun (same i) (values i)
same_token mode params (LastRun count value) (Value value') xs ys f g d e alike = absurd (omega (arith, f.0, g.0))
same_token mode params (LastRun count value) (Pair sum one) xs ys f g d e alike = absurd (omega (arith, f.0, g.0))
same_token mode params (Value value) Run xs ys f g d e alike = absurd (omega (arith, f.0, g))
same_token mode params (Value value) (LastRun count value') xs ys f g d e alike = absurd (omega (arith, f.0, g.0))
same_token mode params (Value value) (Value value') xs ys f g d e alike = ap Value (alike 0)
same_token mode params (Value value) (Pair sum one) xs ys f g d e alike = absurd (modes-differ mode f.1 g.1)
same_token mode params (Pair sum one) Run xs ys f g d e alike = absurd (omega (arith, f.0, g))
same_token mode params (Pair sum one) (LastRun count value) xs ys f g d e alike = absurd (omega (arith, f.0, g.0))
same_token mode params (Pair sum one) (Value value) xs ys f g d e alike = absurd (modes-differ mode g.1 f.1)
same_token mode params (Pair sum one) (Pair sum' one') xs ys f g d e alike = same-pair sum one sum' one' d e (alike 0) (alike 1)

-- what is behind the same front is alike
alike_behind : (front xs ys : List ℤ) → Alike (front ++ xs) (front ++ ys) → Alike xs ys
unfolding Alike
alike_behind front xs ys alike i =
    sym (get_or-append-add front xs i (pos 0)) ∙ alike (length front + i) ∙ get_or-append-add front ys i (pos 0)

-- the fewest tokens of values are the same
same_tokens : (mode : Mode) (n : ℕ) (params : Params) (one other : List Token) → AreTokens mode params one → AreTokens mode params other
    → list_all adds_up one ≡ true → list_all adds_up other ≡ true → AreFewest n params one → AreFewest n params other → Alike (terms params one) (terms params other) → one ≡ other
unfolding AreTokens AreFewest terms
same_tokens mode n params [] [] f g d e h i alike = refl
same_tokens mode n params [] (b ∷ other) f g d e h i alike = absurd (omega arith)
same_tokens mode n params (a ∷ one) [] f g d e h i alike = absurd (omega arith)
same_tokens mode n params (a ∷ one) (b ∷ other) f g d e h i alike =
    let first = and_parts (adds_up a) (list_all adds_up one) d in
    let second = and_parts (adds_up b) (list_all adds_up other) e in
    let same : a ≡ b = same_token mode params a b (terms (after params a) one) (terms (after params b) other) f.0 g.0 first.0 second.0 alike in
    let rest : one ≡ other =
    same_tokens mode (n - length (terms_of params a)) (after params a) one other f.1
    (subst (λ t. AreTokens mode (after params t) other) (sym same) g.1)
    first.1 second.1
    h.1
    (subst (λ t. AreFewest (n - length (terms_of params t)) (after params t) other) (sym same) i.1)
    (alike_behind (terms_of params a) (terms (after params a) one) (terms (after params a) other)
    (subst (λ t. Alike (terms_of params a ++ terms (after params a) one) (terms_of params t ++ terms (after params t) other)) (sym same) alike)) in
    λ j. same j ∷ rest j

-- values are written as one list of bytes
pub one_writing : (mode : Mode) (values : List ℤ) (one other : List ℕ) → IsBytes one → IsBytes other → Encodes mode values one → Encodes mode values other → one ≡ other
unfolding Alike
one_writing mode values one other bytes bytes' p q =
    let alike : Alike (terms start p.tokens) (terms start q.tokens) = λ i.
    ap (λ l. get_or l i (pos 0)) p.gives.1 ∙ with_zeros values p.gives.0 i ∙ sym (with_zeros values q.gives.0 i) ∙ ap (λ l. get_or l i (pos 0)) (sym q.gives.1) in
    let same : p.tokens ≡ q.tokens = same_tokens mode 4096 start p.tokens q.tokens p.tokens_fit q.tokens_fit p.add_up q.add_up p.fewest q.fewest alike in
    padded-only (codes start q.tokens) one other bytes bytes' (subst (λ tokens. IsPadded (codes start tokens) one) same p.padded) q.padded
