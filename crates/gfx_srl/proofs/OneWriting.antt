-- Pairs have one spelling: the tokens that give them are the same, and so are the bytes. What was written is read again.
use Rattle.std.proofs.Common.{◌≡◌, ◌⊎◌, inl, inr, ◌∙◌, ℕ, zero, suc, ◌+◌, ◌-◌, ◌^◌, ◌<◌, ◌≤◌, ℤ, false, List, [], ◌∷◌, ◌++◌, length, map, take, get_or, refl, sym, ap, subst, arith, replicate, append_assoc}
use Rattle.std.proofs.lemmas.Bool.{cases_lt}
use Rattle.std.proofs.lemmas.List.{get_or-append-add, take_at, length-map}
use Rattle.gfx_base.specs.Field.{IsBytes}
use Rattle.gfx_bits.specs.Bits.{IsPadded, Spelled, bits_of}
use Rattle.gfx_bits.proofs.Laws.{padded-only, spelled-front}
use Rattle.gfx_srl.specs.Code.{Token, Run, LastRun, Pair, nothing, k, after, IsToken, terms_of}
use Rattle.gfx_srl.specs.Srl.{Srl, Written, codes, terms, AreTokens, AreFewest, plain}

-- the same terms, zeros without end behind them
Alike : List Pair → List Pair → Type 0
Alike xs ys = (i : ℕ) → get_or xs i nothing ≡ get_or ys i nothing

-- zeros behind a list change nothing
with_zeros : (xs : List Pair) (more i : ℕ) → get_or (xs ++ replicate more nothing) i nothing ≡ get_or xs i nothing
with_zeros [] zero i = refl
with_zeros [] (suc more) zero = refl
with_zeros [] (suc more) (suc i) = with_zeros [] more i
with_zeros (x ∷ xs) more zero = refl
with_zeros (x ∷ xs) more (suc i) = with_zeros xs more i

-- a zero among zeros
zero_at : (n i : ℕ) (rest : List Pair) → i < n → get_or (replicate n nothing ++ rest) i nothing ≡ nothing
zero_at zero i rest below = absurd (omega arith)
zero_at (suc n) zero rest below = refl
zero_at (suc n) (suc i) rest below = zero_at n i rest (omega arith)

-- the value behind zeros
value_at : (n : ℕ) (pair : Pair) (rest : List Pair) → get_or ((replicate n nothing ++ pair ∷ []) ++ rest) n nothing ≡ pair
value_at zero pair rest = refl
value_at (suc n) pair rest = value_at n pair rest

-- and the zeros before it
zero_before : (n i : ℕ) (pair : Pair) (rest : List Pair) → i < n → get_or ((replicate n nothing ++ pair ∷ []) ++ rest) i nothing ≡ nothing
zero_before n i pair rest below = ap (λ l. get_or l i nothing) (append_assoc (replicate n nothing) (pair ∷ []) rest) ∙ zero_at n i ((pair ∷ []) ++ rest) below

value-of : Pair → ℤ
value-of pair = pair.value

-- tokens whose terms are alike, whatever is behind them, are the same
same_token : (kp : ℕ) (a b : Token) (xs ys : List Pair) → IsToken kp a → IsToken kp b
    → Alike (terms_of kp a ++ xs) (terms_of kp b ++ ys) → a ≡ b
unfolding IsToken terms_of Alike value-of
same_token kp Run Run xs ys f g alike = refl
same_token kp Run (LastRun count pair) xs ys f g alike =
    absurd (g.1.0 (ap value-of (sym (value_at count pair ys) ∙ sym (alike count) ∙ zero_at (2 ^ k kp) count xs g.0)))
same_token kp (LastRun count pair) Run xs ys f g alike =
    absurd (f.1.0 (ap value-of (sym (value_at count pair xs) ∙ alike count ∙ zero_at (2 ^ k kp) count ys f.0)))
same_token kp (LastRun count pair) (LastRun count' pair') xs ys f g alike = by (cases_lt count count') (cases_lt count' count)
  where
    by : ((count < count') ⊎ (count' ≤ count)) → ((count' < count) ⊎ (count ≤ count')) → LastRun count pair ≡ LastRun count' pair'
    by (inl less) other = absurd (f.1.0 (ap value-of (sym (value_at count pair xs) ∙ alike count ∙ zero_before count' count pair' ys less)))
    by (inr on) (inl less) = absurd (g.1.0 (ap value-of (sym (value_at count' pair' ys) ∙ sym (alike count') ∙ zero_before count count' pair xs less)))
    by (inr on) (inr on') =
        let same : count ≡ count' = omega arith in
        let pairs : pair ≡ pair' = sym (value_at count pair xs) ∙ alike count ∙ ap (λ n. get_or ((replicate count' nothing ++ pair' ∷ []) ++ ys) n nothing) same ∙ value_at count' pair' ys in
        λ i. LastRun (same i) (pairs i)

-- what is behind the same front is alike
alike_behind : (front xs ys : List Pair) → Alike (front ++ xs) (front ++ ys) → Alike xs ys
unfolding Alike
alike_behind front xs ys alike i =
    sym (get_or-append-add front xs i nothing) ∙ alike (length front + i) ∙ get_or-append-add front ys i nothing

-- the fewest tokens of pairs are the same
same_tokens : (n kp : ℕ) (one other : List Token) → AreTokens kp one → AreTokens kp other
    → AreFewest n kp one → AreFewest n kp other → Alike (terms kp one) (terms kp other) → one ≡ other
unfolding AreTokens AreFewest terms
same_tokens n kp [] [] f g h i alike = refl
same_tokens n kp [] (b ∷ other) f g h i alike = absurd (omega arith)
same_tokens n kp (a ∷ one) [] f g h i alike = absurd (omega arith)
same_tokens n kp (a ∷ one) (b ∷ other) f g h i alike =
    let same : a ≡ b = same_token kp a b (terms (after kp a) one) (terms (after kp b) other) f.0 g.0 alike in
    let rest : one ≡ other =
    same_tokens (n - length (terms_of kp a)) (after kp a) one other f.1
    (subst (λ t. AreTokens (after kp t) other) (sym same) g.1)
    h.1
    (subst (λ t. AreFewest (n - length (terms_of kp t)) (after kp t) other) (sym same) i.1)
    (alike_behind (terms_of kp a) (terms (after kp a) one) (terms (after kp a) other)
    (subst (λ t. Alike (terms_of kp a ++ terms (after kp a) one) (terms_of kp t ++ terms (after kp t) other)) (sym same) alike)) in
    λ j. same j ∷ rest j

-- pairs are written as one list of bytes
pub one-writing : (pairs : List Pair) (one other : List ℕ) → IsBytes one → IsBytes other → Written pairs one → Written pairs other → one ≡ other
unfolding Alike
one-writing pairs one other bytes bytes' p q =
    let alike : Alike (terms 8 p.tokens) (terms 8 q.tokens) = λ i.
    ap (λ l. get_or l i nothing) p.gives.1 ∙ with_zeros (map plain pairs) p.gives.0 i ∙ sym (with_zeros (map plain pairs) q.gives.0 i) ∙ ap (λ l. get_or l i nothing) (sym q.gives.1) in
    let same : p.tokens ≡ q.tokens = same_tokens (length pairs) 8 p.tokens q.tokens p.tokens_fit q.tokens_fit p.fewest q.fewest alike in
    padded-only (codes 8 q.tokens) one other bytes bytes' (subst (λ tokens. IsPadded (codes 8 tokens) one) same p.padded) q.padded

-- what was written says the pairs
pub written-read : (pairs : List Pair) (bytes : List ℕ) → Written pairs bytes → Srl (bits_of bytes) pairs
written-read pairs bytes written = record {
  tokens = written.tokens;
  tokens_fit = written.tokens_fit;
  spelled = (
    replicate written.padded.0 false,
    subst (λ b. Spelled b (codes 8 written.tokens) (replicate written.padded.0 false)) (sym written.padded.2)
        (spelled-front (codes 8 written.tokens) (replicate written.padded.0 false)),
  );
  gives = ap (take (length pairs)) written.gives.1 ∙ take_at (map plain pairs) (replicate written.gives.0 nothing) (length pairs) (length-map pairs plain);
}
