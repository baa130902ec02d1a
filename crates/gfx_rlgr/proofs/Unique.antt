-- One bit string has at most one reading.
use Rattle.std.proofs.Common.{◌≡◌, ◌≢◌, ℕ, zero, suc, ◌+◌, ◌-◌, ◌*◌, ◌/◌, ◌%◌, ◌^◌, ◌<◌, Bool, true, false, ℤ, pos, negsuc, List, [], ◌∷◌, ◌++◌, drop, take, length, refl, sym, ap, ◌∙◌, arith, append_assoc, replicate, subst, Result}
use Rattle.std.specs.Int.RustNames.{unsigned_abs}
use Rattle.std.proofs.lemmas.Nat.{pow_pos, mod_below, shr_split}
use Rattle.gfx_base.specs.declared.refusal.Refusal.{Refusal}
use Rattle.gfx_bits.specs.Bits.{Spelled, first, number, digits, ones, bits_of}
use Rattle.gfx_bits.proofs.Laws.{spelled-apart, ones-spelled, number-spelled}
use Rattle.gfx_rlgr.specs.declared.mode.Mode.{Mode}
use Rattle.gfx_rlgr.specs.declared.mode.Mode.TheVariants.{Rlgr1}
use Rattle.gfx_rlgr.specs.declared.params.Params.{Params}
use Rattle.gfx_rlgr.specs.Code.{Token, Run, LastRun, Value, Pair, start, k, kr, number_code, folded, is_negative, bit_length, code, after, IsToken, terms_of}
use Rattle.gfx_rlgr.specs.Rlgr.{Decodes, Rlgr, answer, codes, terms, AreTokens, AreFewest}
use Rattle.gfx_rlgr.proofs.Pairs.{modes-differ}

true-false : true ≡ false → ⊥
true-false e = cc

-- the number whose code stands at the front
number-at : ℕ → List Bool → ℕ
number-at low bits = ones bits * 2 ^ low + number low (drop (suc (ones bits)) bits)

number-only : (low n : ℕ) (bits new : List Bool) → Spelled bits (number_code low n) new
    → (n ≡ number-at low bits) × (new ≡ drop low (drop (suc (ones bits)) bits))
unfolding number_code number-at
number-only low n bits new p =
    let parts = spelled-apart bits (replicate (n / 2 ^ low) true ++ false ∷ []) (digits low (n % 2 ^ low)) new
    (subst (λ c. Spelled bits c new) (sym (append_assoc (replicate (n / 2 ^ low) true) (false ∷ []) (digits low (n % 2 ^ low)))) p) in
    let high = ones-spelled (n / 2 ^ low) bits parts.0 parts.1 in
    let behind : parts.0 ≡ drop (suc (ones bits)) bits = high.1 ∙ ap (λ m. drop (suc m) bits) (sym high.0) in
    let small = number-spelled low (n % 2 ^ low) parts.0 new (mod_below n (2 ^ low) (pow_pos low)) parts.2 in (
      sym (shr_split n low)
          ∙ ap (λ m. m * 2 ^ low + n % 2 ^ low) (sym high.0)
          ∙ ap (λ m. ones bits * 2 ^ low + m) (sym small.0 ∙ ap (number low) behind),
      small.1 ∙ ap (drop low) behind,
    )

folded-only : (a b : ℤ) → folded a ≡ folded b → a ≡ b
folded-only (pos a) (pos b) e = ap pos (omega arith)
folded-only (pos a) (negsuc b) e = absurd (omega arith)
folded-only (negsuc a) (pos b) e = absurd (omega arith)
folded-only (negsuc a) (negsuc b) e = ap negsuc (omega arith)

signed-only : (a b : ℤ) → a ≢ pos 0 → b ≢ pos 0 → is_negative a ≡ is_negative b → unsigned_abs a - 1 ≡ unsigned_abs b - 1 → a ≡ b
signed-only (pos zero) b p q s e = absurd (p refl)
signed-only (pos (suc a)) (pos zero) p q s e = absurd (q refl)
signed-only (pos (suc a)) (pos (suc b)) p q s e = ap (λ n. pos n) {x = suc a} {y = suc b} (omega arith)
signed-only (pos (suc a)) (negsuc b) p q s e = absurd (true-false (sym s))
signed-only (negsuc a) (pos b) p q s e = absurd (true-false s)
signed-only (negsuc a) (negsuc b) p q s e = ap negsuc (omega arith)

-- the sum of two numbers, and the first of them
one-pair : (params : Params) (sum one sum' one' : ℕ) (bits x y : List Bool) → one < 2 ^ bit_length sum → one' < 2 ^ bit_length sum'
    → Spelled bits (number_code (kr params) sum ++ digits (bit_length sum) one) x → Spelled bits (number_code (kr params) sum' ++ digits (bit_length sum') one') y
    → (Pair sum one ≡ Pair sum' one') × (x ≡ y)
one-pair params sum one sum' one' bits x y f g p q =
    let a = spelled-apart bits (number_code (kr params) sum) (digits (bit_length sum) one) x p in
    let b = spelled-apart bits (number_code (kr params) sum') (digits (bit_length sum') one') y q in
    let sum-a = number-only (kr params) sum bits a.0 a.1 in
    let sum-b = number-only (kr params) sum' bits b.0 b.1 in
    let sums : sum ≡ sum' = sum-a.0 ∙ sym sum-b.0 in
    let rest : a.0 ≡ b.0 = sum-a.1 ∙ sym sum-b.1 in
    let one-a = number-spelled (bit_length sum) one a.0 x f a.2 in
    let one-b = number-spelled (bit_length sum') one' b.0 y g b.2 in
    let ones-are : one ≡ one' = sym one-a.0 ∙ ap (number (bit_length sum)) rest ∙ ap (λ n. number (bit_length n) b.0) sums ∙ one-b.0 in (
      ap (λ n. Pair n one) sums ∙ ap (Pair sum') ones-are,
      one-a.1 ∙ ap (drop (bit_length sum)) rest ∙ ap (λ n. drop (bit_length n) b.0) sums ∙ sym one-b.1,
    )

one-token : (mode : Mode) (params : Params) (a b : Token) (bits x y : List Bool) → IsToken mode params a → IsToken mode params b
    → Spelled bits (code params a) x → Spelled bits (code params b) y → (a ≡ b) × (x ≡ y)
unfolding code IsToken
one-token mode params Run Run bits x y f g p q = (refl, p.1 ∙ sym q.1)
one-token mode params Run (LastRun count value) bits x y f g p q = absurd (true-false (sym q.0 ∙ p.0))
one-token mode params Run (Value value) bits x y f g p q = absurd (omega (arith, f, g.0))
one-token mode params Run (Pair sum one) bits x y f g p q = absurd (omega (arith, f, g.0))
one-token mode params (LastRun count value) Run bits x y f g p q = absurd (true-false (sym p.0 ∙ q.0))
one-token mode params (LastRun count value) (LastRun count' value') bits x y f g p q =
    let one = spelled-apart (drop 1 bits) (digits (k params) count) (is_negative value ∷ number_code (kr params) (unsigned_abs value - 1)) x p.1 in
    let other = spelled-apart (drop 1 bits) (digits (k params) count') (is_negative value' ∷ number_code (kr params) (unsigned_abs value' - 1)) y q.1 in
    let count-one = number-spelled (k params) count (drop 1 bits) one.0 f.1 one.1 in
    let count-other = number-spelled (k params) count' (drop 1 bits) other.0 g.1 other.1 in
    let behind : one.0 ≡ other.0 = count-one.1 ∙ sym count-other.1 in
    let sign : is_negative value ≡ is_negative value' = sym one.2.0 ∙ ap first behind ∙ other.2.0 in
    let below-one = number-only (kr params) (unsigned_abs value - 1) (drop 1 one.0) x one.2.1 in
    let below-other = number-only (kr params) (unsigned_abs value' - 1) (drop 1 other.0) y other.2.1 in
    let below : unsigned_abs value - 1 ≡ unsigned_abs value' - 1 =
    below-one.0 ∙ ap (λ b. number-at (kr params) (drop 1 b)) behind ∙ sym below-other.0 in (
      ap (λ n. LastRun n value) (sym count-one.0 ∙ count-other.0) ∙ ap (LastRun count') (signed-only value value' f.2 g.2 sign below),
      below-one.1 ∙ ap (λ b. drop (kr params) (drop (suc (ones (drop 1 b))) (drop 1 b))) behind ∙ sym below-other.1,
    )
one-token mode params (LastRun count value) (Value value') bits x y f g p q = absurd (omega (arith, f.0, g.0))
one-token mode params (LastRun count value) (Pair sum one) bits x y f g p q = absurd (omega (arith, f.0, g.0))
one-token mode params (Value value) Run bits x y f g p q = absurd (omega (arith, f.0, g))
one-token mode params (Value value) (LastRun count value') bits x y f g p q = absurd (omega (arith, f.0, g.0))
one-token mode params (Value value) (Pair sum one) bits x y f g p q = absurd (modes-differ mode f.1 g.1)
one-token mode params (Value value) (Value value') bits x y f g p q =
    let one = number-only (kr params) (folded value) bits x p in
    let other = number-only (kr params) (folded value') bits y q in
    (ap Value (folded-only value value' (one.0 ∙ sym other.0)), one.1 ∙ sym other.1)
one-token mode params (Pair sum one) Run bits x y f g p q = absurd (omega (arith, f.0, g))
one-token mode params (Pair sum one) (LastRun count value) bits x y f g p q = absurd (omega (arith, f.0, g.0))
one-token mode params (Pair sum one) (Value value) bits x y f g p q = absurd (modes-differ mode g.1 f.1)
one-token mode params (Pair sum one) (Pair sum' one') bits x y f g p q = one-pair params sum one sum' one' bits x y f.2 g.2 p q

one-reading : (mode : Mode) (n : ℕ) (params : Params) (xs ys : List Token) (bits x y : List Bool) → AreTokens mode params xs → AreTokens mode params ys
    → AreFewest n params xs → AreFewest n params ys → Spelled bits (codes params xs) x → Spelled bits (codes params ys) y → xs ≡ ys
unfolding AreTokens AreFewest codes
one-reading mode n params [] [] bits x y f g h i p q = refl
one-reading mode n params [] (b ∷ ys) bits x y f g h i p q = absurd (omega arith)
one-reading mode n params (a ∷ xs) [] bits x y f g h i p q = absurd (omega arith)
one-reading mode n params (a ∷ xs) (b ∷ ys) bits x y f g h i p q =
    let one = spelled-apart bits (code params a) (codes (after params a) xs) x p in
    let other = spelled-apart bits (code params b) (codes (after params b) ys) y q in
    let same = one-token mode params a b bits one.0 other.0 f.0 g.0 one.1 other.1 in
    let rest : xs ≡ ys =
    one-reading mode (n - length (terms_of params a)) (after params a) xs ys one.0 x y f.1
    (subst (λ t. AreTokens mode (after params t) ys) (sym same.0) g.1)
    h.1
    (subst (λ t. AreFewest (n - length (terms_of params t)) (after params t) ys) (sym same.0) i.1)
    one.2
    (subst (λ t. Spelled one.0 (codes (after params t) ys) y) (sym same.0) (subst (λ m. Spelled m (codes (after params b) ys) y) (sym same.1) other.2)) in
    ap (λ t. t ∷ xs) same.0 ∙ ap (λ ts. b ∷ ts) rest

-- bytes say one thing
pub one-answer : (mode : Mode) (bytes : List ℕ) (one other : Result (List ℤ) Refusal) → Decodes mode bytes one → Decodes mode bytes other → one ≡ other
one-answer mode bytes one other p q =
    p.2 ∙ ap (λ tokens. answer (take 4096 (terms start tokens)))
    (one-reading mode 4096 start p.0 q.0 (bits_of bytes) p.1.spelled.0 q.1.spelled.0 p.1.tokens_fit q.1.tokens_fit p.1.fewest q.1.fewest p.1.spelled.1 q.1.spelled.1)
    ∙ sym q.2

-- in RLGR1
pub one-meaning : (bytes : List ℕ) (one other : Result (List ℤ) Refusal) → Rlgr bytes one → Rlgr bytes other → one ≡ other
one-meaning bytes one other p q = one-answer Rlgr1 bytes one other p q
