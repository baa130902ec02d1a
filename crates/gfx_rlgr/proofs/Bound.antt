-- The length of small values' code. A number's code is long where krp is small, and then raises krp: 28 * (80 - krp) pays for it.
use Rattle.std.proofs.Common.{◌≡◌, ℕ, zero, suc, ◌+◌, ◌-◌, ◌*◌, ◌/◌, ◌%◌, ◌^◌, ◌<◌, ◌≤◌, true, false, ℤ, pos, negsuc, List, [], ◌∷◌, ◌++◌, length, get_or, refl, sym, ap, ◌∙◌, arith, replicate, append_assoc, min, length-append, subst, ◌⊎◌, inl, inr, nat_le, if◌then◌else◌}
use Rattle.std.specs.Int.RustNames.{unsigned_abs}
use Rattle.std.proofs.lemmas.List.{length-replicate, length-take, length-drop, get_or-append-add, get_or_append_left, get_or-take, get_or-drop, get_or_at}
use Rattle.std.proofs.lemmas.Bool.Decides.{leb_tells}
use Rattle.std.proofs.Math.Nat.{mul-le-mul_left}
use Rattle.std.proofs.Math.Pow.{pow_mono}
use Rattle.std.proofs.lemmas.Nat.{shr_split, pow_pos}
use Rattle.gfx_bits.specs.Bits.{digits}
use Rattle.gfx_bits.proofs.Laws.{length-digits, length-bits_of}
use Rattle.gfx_rlgr.specs.declared.mode.Mode.TheVariants.{Rlgr1}
use Rattle.gfx_rlgr.specs.declared.params.Params.{Params}
use Rattle.gfx_rlgr.specs.Bound.{AreSmall}
use Rattle.gfx_rlgr.specs.Code.{Token, Run, LastRun, Value, Pair, start, k, kr, number_code, krp_after, folded, is_negative, code, after, IsToken, terms_of}
use Rattle.gfx_rlgr.specs.Rlgr.{Written, codes, terms, AreTokens, AreFewest}
use Rattle.gfx_rlgr.specs.Steps.{AreWithin}
use Rattle.gfx_rlgr.proofs.Pairs.{modes-differ}
use Rattle.gfx_rlgr.proofs.Reading.{within-after}

-- ---- a number

pub length-number : (low n : ℕ) → length (number_code low n) ≡ n / 2 ^ low + 1 + low
unfolding number_code
length-number low n =
    omega (arith, length-append (replicate (n / 2 ^ low) true) (false ∷ digits low (n % 2 ^ low)), length-replicate (n / 2 ^ low) true, length-digits low (n % 2 ^ low))

-- many ones come only where krp is small
few-ones : (low krp ones : ℕ) → low ≤ 10 → krp < 8 * low + 8 → ones * 2 ^ low ≤ 2048 → ones ≤ 28 * (80 - krp) + 56
few-ones zero krp ones h i j = omega arith
few-ones (suc zero) krp ones h i j = omega arith
few-ones (suc (suc zero)) krp ones h i j = omega arith
few-ones (suc (suc (suc zero))) krp ones h i j = omega arith
few-ones (suc (suc (suc (suc zero)))) krp ones h i j = omega arith
few-ones (suc (suc (suc (suc (suc zero))))) krp ones h i j = omega arith
few-ones (suc (suc (suc (suc (suc (suc low)))))) krp ones h i j =
    let more : ones * 2 ^ 6 ≤ ones * 2 ^ (6 + low) = mul-le-mul_left ones (let h : 6 ≤ 6 + low = omega arith in pow_mono h) in
    let same : ones * 2 ^ (6 + low) ≡ ones * 2 ^ suc (suc (suc (suc (suc (suc low))))) = ap (λ n. ones * 2 ^ n) (omega arith) in
    omega arith

-- the same for numbers twice as large
some-ones : (low krp ones : ℕ) → krp < 8 * low + 8 → ones * 2 ^ low ≤ 4096 → ones ≤ 28 * (80 - krp) + 56 + 1996
some-ones zero krp ones i j = omega arith
some-ones (suc low) krp ones i j =
    let two : 2 ^ 1 ≤ 2 ^ suc low = let h : 1 ≤ suc low = omega arith in pow_mono h in
    omega (arith, mul-le-mul_left ones two)

-- a number's bits are paid for
paid : (low krp ones extra : ℕ) → low ≤ 10 → krp ≤ 80 → ones ≤ 28 * (80 - krp) + 56 + extra
    → ones + 1 + low + 28 * (80 - krp_after ones krp) ≤ 28 * (80 - krp) + 67 + extra
paid low krp zero extra h i j = omega arith
paid low krp (suc zero) extra h i j = omega arith
paid low krp (suc (suc ones)) extra h i j = omega arith

-- what a value's place allows: its magnitude, and what it may cost above 79 bits
abbrev Allows : ℕ → ℕ → Type 0
Allows magnitude extra = ((magnitude ≤ 1024) × (extra ≡ 0)) ⊎ ((magnitude ≤ 2048) × (extra ≡ 1996))

number-paid : (params : Params) (n magnitude extra : ℕ) → AreWithin params → n ≤ 2 * magnitude → Allows magnitude extra
    → length (number_code (kr params) n) + 28 * (80 - krp_after (n / 2 ^ kr params) params.krp) ≤ 28 * (80 - params.krp) + 67 + extra
number-paid params n magnitude extra within small allows =
    let high : n / 2 ^ kr params * 2 ^ kr params ≤ n = omega (arith, shr_split n (kr params)) in
    let few : n / 2 ^ kr params ≤ 28 * (80 - params.krp) + 56 + extra = elim allows [
      | inl h ↦ omega (arith, few-ones (kr params) params.krp (n / 2 ^ kr params) (omega (arith, within.krp)) (omega arith) (omega (arith, high, h.0)))
      | inr h ↦ omega (arith, h.1, some-ones (kr params) params.krp (n / 2 ^ kr params) (omega arith) (omega (arith, high, h.0)))
    ] in
    omega (arith, length-number (kr params) n, paid (kr params) params.krp (n / 2 ^ kr params) extra (omega (arith, within.krp)) within.krp few)

pub folded-small : (value : ℤ) → folded value ≤ 2 * unsigned_abs value
folded-small (pos n) = omega arith
folded-small (negsuc n) = omega arith

value-paid : (params : Params) (value : ℤ) (extra : ℕ) → AreWithin params → Allows (unsigned_abs value) extra
    → length (code params (Value value)) + 28 * (80 - (after params (Value value)).krp) ≤ 28 * (80 - params.krp) + 79 + extra
unfolding code after
value-paid params value extra within allows =
    omega (arith, number-paid params (folded value) (unsigned_abs value) extra within (folded-small value) allows)

last-run-paid : (params : Params) (count : ℕ) (value : ℤ) (extra : ℕ) → AreWithin params → Allows (unsigned_abs value) extra
    → length (code params (LastRun count value)) + 28 * (80 - (after params (LastRun count value)).krp) ≤ 28 * (80 - params.krp) + 79 + extra
unfolding code after
last-run-paid params count value extra within allows =
    let below : ℕ = unsigned_abs value - 1 in
    omega (
      arith,
      within.kp,
      length-append (digits (k params) count) (is_negative value ∷ number_code (kr params) below),
      length-digits (k params) count,
      number-paid params below (unsigned_abs value) extra within (omega arith) allows,
    )

run-paid : (params : Params) → AreWithin params → length (code params Run) + 28 * (80 - (after params Run).krp) ≤ 28 * (80 - params.krp) + 79 + 0
unfolding code after
run-paid params within = omega arith

-- ---- places

-- values from place i on are as small as their places ask
pub record SmallFrom (i : ℕ) (values : List ℤ) : Type 0 where
  pub low : (j : ℕ) → i + j < 4015 → unsigned_abs (get_or values j (pos 0)) ≤ 1024
  pub high : (j : ℕ) → i + j < 4096 → unsigned_abs (get_or values j (pos 0)) ≤ 2048
  pub none : (j : ℕ) → 4096 ≤ i + j → get_or values j (pos 0) ≡ pos 0

-- what the places below i may cost
abbrev budget : ℕ → ℕ
budget i = 79 * i + 1996 * (i - 4015)

-- what a place may cost above 79 bits
extra_at : ℕ → ℕ
extra_at place = if nat_le 4015 place then 1996 else 0

place-allows : (i j : ℕ) (values : List ℤ) → SmallFrom i values → i + j < 4096 → Allows (unsigned_abs (get_or values j (pos 0))) (extra_at (i + j))
unfolding extra_at
place-allows i j values small within = elim (leb_tells 4015 (i + j))
    [ inl h ↦ rw h.0 (inr (small.high j within, refl)) | inr h ↦ rw h.0 (inl (small.low j h.1, refl)) ]

budget-on : (i place : ℕ) → i ≤ place → budget i + 79 + extra_at place ≤ budget (place + 1)
unfolding extra_at
budget-on i place h = elim (leb_tells 4015 place)
    [ inl p ↦ rw p.0 (omega (arith, p.1)) | inr p ↦ rw p.0 (omega (arith, p.1)) ]

-- a token's bits are within what its places may cost
record Within (i : ℕ) (params : Params) (token : Token) : Type 0 where
  extra : ℕ
  cost : length (code params token) + 28 * (80 - (after params token).krp) ≤ 28 * (80 - params.krp) + 79 + extra
  room : budget i + 79 + extra ≤ budget (min (i + length (terms_of params token)) 4096)

token-within : (i : ℕ) (params : Params) (token : Token) (rest : List ℤ) → AreWithin params → IsToken Rlgr1 params token → i < 4096
    → SmallFrom i (terms_of params token ++ rest) → Within i params token
unfolding IsToken terms_of
token-within i params Run rest within fits here small = record {
  extra = 0;
  cost = run-paid params within;
  room = omega (arith, length-replicate (2 ^ k params) (pos 0), pow_pos (k params));
}
token-within i params (LastRun count value) rest within fits here small =
    let long : length (replicate count (pos 0)) ≡ count = length-replicate count (pos 0) in
    let value-is : get_or ((replicate count (pos 0) ++ value ∷ []) ++ rest) count (pos 0) ≡ value =
    ap (λ vs. get_or vs count (pos 0)) (append_assoc (replicate count (pos 0)) (value ∷ []) rest) ∙ get_or_at (replicate count (pos 0)) value rest (pos 0) count long in
    let inside : i + count < 4096 = inside_of (leb_tells 4096 (i + count)) value-is in
    let size : length (replicate count (pos 0) ++ value ∷ []) ≡ count + 1 = length-append (replicate count (pos 0)) (value ∷ []) ∙ ap (λ n. n + 1) long in
    record {
      extra = extra_at (i + count);
      cost = last-run-paid params count value (extra_at (i + count)) within
          (subst (λ v. Allows (unsigned_abs v) (extra_at (i + count))) value-is (place-allows i count ((replicate count (pos 0) ++ value ∷ []) ++ rest) small inside));
      room =
          let top : min (i + (count + 1)) 4096 ≡ i + count + 1 = omega arith in
          rw (size, top) (budget-on i (i + count) (omega arith));
    }
  where
    inside_of : ((nat_le 4096 (i + count) ≡ true) × (4096 ≤ i + count)) ⊎ ((nat_le 4096 (i + count) ≡ false) × (i + count < 4096))
        → get_or ((replicate count (pos 0) ++ value ∷ []) ++ rest) count (pos 0) ≡ value → i + count < 4096
    inside_of (inl h) e = absurd (fits.2 (sym e ∙ small.none count h.1))
    inside_of (inr h) e = h.1
token-within i params (Value value) rest within fits here small = record {
  extra = extra_at (i + 0);
  cost = value-paid params value (extra_at (i + 0)) within (place-allows i 0 (value ∷ rest) small (omega arith));
  room =
      let top : min (i + 1) 4096 ≡ i + 0 + 1 = omega arith in
      rw top (budget-on i (i + 0) (omega arith));
}
token-within i params (Pair sum one) rest within fits here small = absurd (modes-differ Rlgr1 refl fits.1)

pub small-rest : (i : ℕ) (front rest : List ℤ) → SmallFrom i (front ++ rest) → SmallFrom (i + length front) rest
small-rest i front rest small = record {
  low = λ j h. subst (λ v. unsigned_abs v ≤ 1024) (get_or-append-add front rest j (pos 0)) (small.low (length front + j) (omega arith));
  high = λ j h. subst (λ v. unsigned_abs v ≤ 2048) (get_or-append-add front rest j (pos 0)) (small.high (length front + j) (omega arith));
  none = λ j h. sym (get_or-append-add front rest j (pos 0)) ∙ small.none (length front + j) (omega arith);
}

-- the tokens' bits are within what their places may cost
codes-within : (i : ℕ) (params : Params) (tokens : List Token) → AreWithin params → AreTokens Rlgr1 params tokens → AreFewest (4096 - i) params tokens
    → SmallFrom i (terms params tokens) → length (codes params tokens) + budget (min i 4096) ≤ 28 * (80 - params.krp) + budget 4096
unfolding AreTokens AreFewest codes terms
codes-within i params [] within fits fewest small = omega arith
codes-within i params (token ∷ tokens) within fits fewest small =
    let here : i < 4096 = omega (arith, fewest.0) in
    let next : ℕ = i + length (terms_of params token) in
    let one = token-within i params token (terms (after params token) tokens) within fits.0 here small in
    let left : 4096 - i - length (terms_of params token) ≡ 4096 - next = omega arith in
    let rest = codes-within next (after params token) tokens (within-after params token within) fits.1
    (subst (λ n. AreFewest n (after params token) tokens) left fewest.1)
    (small-rest i (terms_of params token) (terms (after params token) tokens) small) in
    omega (arith, one.cost, one.room, rest, length-append (code params token) (codes (after params token) tokens))

zero-at : (n j : ℕ) → get_or (replicate n (pos 0)) j (pos 0) ≡ pos 0
zero-at zero j = refl
zero-at (suc n) zero = refl
zero-at (suc n) (suc j) = zero-at n j

-- the values of a level, and the zeros behind them
pub small-values : (values : List ℤ) (more : ℕ) → length values ≡ 4096 → AreSmall values → SmallFrom 0 (values ++ replicate more (pos 0))
unfolding AreSmall
small-values values more count small = record {
  low = λ j h. low j (omega arith);
  high = λ j h. high j (omega arith);
  none = λ j h. past j (omega arith);
}
  where
    at : (j : ℕ) → j < 4096 → get_or (values ++ replicate more (pos 0)) j (pos 0) ≡ get_or values j (pos 0)
    at j h = get_or_append_left values (replicate more (pos 0)) (pos 0) j (omega arith)

    low : (j : ℕ) → j < 4015 → unsigned_abs (get_or (values ++ replicate more (pos 0)) j (pos 0)) ≤ 1024
    low j h =
        subst (λ v. unsigned_abs v ≤ 1024) (get_or-take 4015 values j (pos 0) h ∙ sym (at j (omega arith)))
        (small.0 j (pos 0) (omega (arith, length-take 4015 values)))

    high : (j : ℕ) → j < 4096 → unsigned_abs (get_or (values ++ replicate more (pos 0)) j (pos 0)) ≤ 2048
    high j h = elim (leb_tells 4015 j) [
      | inl p ↦
          subst (λ v. unsigned_abs v ≤ 2048)
          (get_or-drop 4015 values (j - 4015) (pos 0) ∙ ap (λ n. get_or values n (pos 0)) {y = j} (omega (arith, p.1)) ∙ sym (at j h))
          (small.1 (j - 4015) (pos 0) (omega (arith, length-drop 4015 values, p.1)))
      | inr p ↦ omega (arith, low j p.1)
    ]

    past : (j : ℕ) → 4096 ≤ j → get_or (values ++ replicate more (pos 0)) j (pos 0) ≡ pos 0
    past j h =
        ap (λ n. get_or (values ++ replicate more (pos 0)) n (pos 0)) {y = length values + (j - 4096)} (omega arith)
        ∙ get_or-append-add values (replicate more (pos 0)) (j - 4096) (pos 0)
        ∙ zero-at more (j - 4096)

pub short-code : (values : List ℤ) (bytes : List ℕ) → length values ≡ 4096 → AreSmall values → Written values bytes → length bytes ≤ 65535
short-code values bytes count small written =
    let bits : length (codes start written.tokens) + budget (min 0 4096) ≤ 28 * (80 - 8) + budget 4096 =
    codes-within 0 start written.tokens (record { kp = omega arith; krp = omega arith }) written.tokens_fit written.fewest
    (subst (SmallFrom 0) (sym written.gives.1) (small-values values written.gives.0 count small)) in
    omega (arith, written.padded.1, bits, length-bits_of bytes, ap length written.padded.2, length-append (codes start written.tokens) (replicate written.padded.0 false), length-replicate written.padded.0 false)
