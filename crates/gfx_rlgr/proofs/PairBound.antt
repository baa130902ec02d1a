-- The length of small values' code in RLGR3. 56 * (80 - krp) pays for long numbers, and 8 * kp for values that end runs.
use Rattle.std.proofs.Common.{◌≡◌, ℕ, zero, suc, ◌+◌, ◌-◌, ◌*◌, ◌/◌, ◌^◌, ◌<◌, ◌≤◌, true, false, ℤ, pos, List, [], ◌∷◌, ◌++◌, length, get_or, refl, sym, ap, ◌∙◌, arith, replicate, append_assoc, min, length-append, subst, ◌⊎◌, inl, inr, nat_le}
use Rattle.std.specs.Int.RustNames.{unsigned_abs}
use Rattle.std.specs.List.{list_all}
use Rattle.std.proofs.lemmas.Bool.{and_parts, leb-true}
use Rattle.std.proofs.lemmas.Bool.Decides.{leb_tells}
use Rattle.std.proofs.lemmas.List.{length-replicate, get_or_at}
use Rattle.std.proofs.lemmas.Nat.{shr_split, pow_pos}
use Rattle.std.proofs.Math.Nat.{mul-le-mul_left}
use Rattle.std.proofs.Math.Pow.{pow_mono}
use Rattle.gfx_bits.specs.Bits.{digits}
use Rattle.gfx_bits.proofs.Laws.{length-digits, length-bits_of}
use Rattle.gfx_rlgr.specs.declared.mode.Mode.{Mode}
use Rattle.gfx_rlgr.specs.declared.mode.Mode.TheVariants.{Rlgr1, Rlgr3}
use Rattle.gfx_rlgr.specs.declared.params.Params.{Params}
use Rattle.gfx_rlgr.specs.Bound.{AreSmall}
use Rattle.gfx_rlgr.specs.Code.{Token, Run, LastRun, Value, Pair, start, k, kr, number_code, krp_after, is_negative, unfold_number, kp_after_pair, bit_length, bit_length_within, first_of, code, after, IsToken, adds_up, terms_of}
use Rattle.gfx_rlgr.specs.Rlgr.{Encodes, codes, terms, AreTokens, AreFewest}
use Rattle.gfx_rlgr.specs.Steps.{AreWithin}
use Rattle.gfx_rlgr.proofs.Bound.{length-number, folded-small, SmallFrom, small-rest, small-values, short-code}
use Rattle.gfx_rlgr.proofs.Pairs.{modes-differ, folded-unfold, short-length}
use Rattle.gfx_rlgr.proofs.Reading.{within-after}

-- what is put by
abbrev fund : Params → ℕ
fund params = 56 * (80 - params.krp) + 8 * params.kp

-- ---- a number

-- many ones come only where krp is small
some-ones : (low krp ones extra : ℕ) → krp < 8 * low + 8 → 112 ≤ extra → ones * 2 ^ low ≤ 4088 + extra → ones ≤ 56 * (80 - krp) + extra
some-ones zero krp ones extra i e j = omega arith
some-ones (suc zero) krp ones extra i e j = omega arith
some-ones (suc (suc zero)) krp ones extra i e j = omega arith
some-ones (suc (suc (suc zero))) krp ones extra i e j = omega arith
some-ones (suc (suc (suc (suc zero)))) krp ones extra i e j = omega arith
some-ones (suc (suc (suc (suc (suc zero))))) krp ones extra i e j = omega arith
some-ones (suc (suc (suc (suc (suc (suc low)))))) krp ones extra i e j =
    let more : ones * 2 ^ 6 ≤ ones * 2 ^ (6 + low) = mul-le-mul_left ones (let h : 6 ≤ 6 + low = omega arith in pow_mono h) in
    let same : ones * 2 ^ (6 + low) ≡ ones * 2 ^ suc (suc (suc (suc (suc (suc low))))) = ap (λ n. ones * 2 ^ n) (omega arith) in
    omega arith

paid : (low krp ones extra : ℕ) → low ≤ 10 → krp ≤ 80 → 112 ≤ extra → ones ≤ 56 * (80 - krp) + extra
    → ones + 1 + low + 56 * (80 - krp_after ones krp) ≤ 56 * (80 - krp) + 11 + extra
paid low krp zero extra h i e j = omega arith
paid low krp (suc zero) extra h i e j = omega arith
paid low krp (suc (suc ones)) extra h i e j = omega arith

-- a number's bits are paid for
number-paid : (params : Params) (n extra : ℕ) → AreWithin params → 112 ≤ extra → n ≤ 4088 + extra
    → length (number_code (kr params) n) + 56 * (80 - krp_after (n / 2 ^ kr params) params.krp) ≤ 56 * (80 - params.krp) + 11 + extra
number-paid params n extra within e small =
    let high : n / 2 ^ kr params * 2 ^ kr params ≤ n = omega (arith, shr_split n (kr params)) in
    let few : n / 2 ^ kr params ≤ 56 * (80 - params.krp) + extra =
    some-ones (kr params) params.krp (n / 2 ^ kr params) extra (omega arith) e (omega (arith, high, small)) in
    omega (arith, length-number (kr params) n, paid (kr params) params.krp (n / 2 ^ kr params) extra (omega (arith, within.krp)) within.krp e few)

-- ---- tokens

run-paid : (params : Params) → length (code params Run) + fund (after params Run) ≤ fund params + 87
unfolding code after
run-paid params = omega arith

last-run-paid : (params : Params) (count : ℕ) (value : ℤ) → AreWithin params → 0 < k params → unsigned_abs value ≤ 2048
    → length (code params (LastRun count value)) + fund (after params (LastRun count value)) ≤ fund params + 87
unfolding code after
last-run-paid params count value within run small =
    let below : ℕ = unsigned_abs value - 1 in
    omega (
      arith,
      within.kp,
      run,
      length-append (digits (k params) count) (is_negative value ∷ number_code (kr params) below),
      length-digits (k params) count,
      number-paid params below 112 within (omega arith) (omega (arith, small)),
    )

-- two zeros alone raise kp
kp-up : (one other kp : ℕ) → kp_after_pair one other kp ≤ kp + 6
kp-up zero zero kp = omega arith
kp-up zero (suc other) kp = omega arith
kp-up (suc one) zero kp = omega arith
kp-up (suc one) (suc other) kp = omega arith

kp-stays : (one other kp : ℕ) → 0 < one + other → kp_after_pair one other kp ≤ kp
kp-stays zero zero kp h = absurd (omega arith)
kp-stays zero (suc other) kp h = omega arith
kp-stays (suc one) zero kp h = omega arith
kp-stays (suc one) (suc other) kp h = omega arith

length-pair : (params : Params) (sum one : ℕ) → length (code params (Pair sum one)) ≡ length (number_code (kr params) sum) + bit_length sum
unfolding code
length-pair params sum one =
    length-append (number_code (kr params) sum) (digits (bit_length sum) one) ∙ ap (λ n. length (number_code (kr params) sum) + n) (length-digits (bit_length sum) one)

pair-paid : (params : Params) (sum one extra : ℕ) → AreWithin params → sum ≤ 4237 + extra → sum ≤ 8192
    → length (code params (Pair sum one)) + fund (after params (Pair sum one)) ≤ fund params + 174 + extra
unfolding after bit_length_within
pair-paid params zero one extra within small h =
    omega (arith, length-pair params 0 one, number-paid params 0 112 within (omega arith) (omega arith), kp-up one (0 - one) params.kp)
pair-paid params (suc sum) one extra within small h =
    let top : suc sum < 2 ^ 14 = omega (arith, h) in
    omega (
      arith,
      length-pair params (suc sum) one,
      number-paid params (suc sum) (149 + extra) within (omega arith) (omega (arith, small)),
      kp-stays one (suc sum - one) params.kp (omega arith),
      short-length (suc sum) (suc sum) 14 top,
    )

-- ---- places

-- what the places below i may cost
abbrev budget : ℕ → ℕ
budget i = 87 * i + 2000 * (i - 4015)

-- a token's bits are within what its places may cost
record Within (i : ℕ) (params : Params) (token : Token) : Type 0 where
  spent : ℕ
  cost : length (code params token) + fund (after params token) ≤ fund params + spent
  room : budget i + spent ≤ budget (min (i + length (terms_of params token)) 4096)

run-within : (i : ℕ) (params : Params) → i < 4096 → Within i params Run
unfolding terms_of
run-within i params here = record {
  spent = 87;
  cost = run-paid params;
  room = omega (arith, length-replicate (2 ^ k params) (pos 0), pow_pos (k params));
}

-- no magnitude is above 2,048
magnitude-at : (i j : ℕ) (values : List ℤ) → SmallFrom i values → unsigned_abs (get_or values j (pos 0)) ≤ 2048
magnitude-at i j values small = elim (leb_tells 4096 (i + j))
    [ inl h ↦ rw (small.none j h.1) (omega arith) | inr h ↦ small.high j h.1 ]

last-run-within : (i : ℕ) (params : Params) (count : ℕ) (value : ℤ) (rest : List ℤ) → AreWithin params → 0 < k params → i < 4096
    → SmallFrom i (terms_of params (LastRun count value) ++ rest) → Within i params (LastRun count value)
unfolding terms_of
last-run-within i params count value rest within run here small =
    let long : length (replicate count (pos 0)) ≡ count = length-replicate count (pos 0) in
    let value-is : get_or ((replicate count (pos 0) ++ value ∷ []) ++ rest) count (pos 0) ≡ value =
    ap (λ vs. get_or vs count (pos 0)) (append_assoc (replicate count (pos 0)) (value ∷ []) rest) ∙ get_or_at (replicate count (pos 0)) value rest (pos 0) count long in
    let size : length (replicate count (pos 0) ++ value ∷ []) ≡ count + 1 = length-append (replicate count (pos 0)) (value ∷ []) ∙ ap (λ n. n + 1) long in
    record {
      spent = 87;
      cost = last-run-paid params count value within run
          (subst (λ v. unsigned_abs v ≤ 2048) value-is (magnitude-at i count ((replicate count (pos 0) ++ value ∷ []) ++ rest) small));
      room = omega (arith, here, size);
    }

-- two numbers of values as small as their places ask
pair-spends : (i : ℕ) (params : Params) (sum one first second : ℕ) → AreWithin params → i < 4096 → one ≤ sum → one ≤ 2 * first → sum - one ≤ 2 * second
    → first ≤ 2048 → second ≤ 2048 → (i + 0 < 4015 → first ≤ 1024) → (i + 1 < 4015 → second ≤ 1024) → (4096 ≤ i + 1 → second ≡ 0)
    → Within i params (Pair sum one)
unfolding terms_of
pair-spends i params sum one first second within here adds a b most most' low low' none = by (leb_tells 4096 (i + 1)) (leb_tells 4015 i) (leb_tells 4015 (i + 1))
  where
    spends : (extra : ℕ) → sum ≤ 4237 + extra → sum ≤ 8192 → budget i + (174 + extra) ≤ budget (min (i + 2) 4096) → Within i params (Pair sum one)
    spends extra few h room = record {
      spent = 174 + extra;
      cost = omega (arith, pair-paid params sum one extra within few h);
      room = room;
    }

    by : ((nat_le 4096 (i + 1) ≡ true) × (4096 ≤ i + 1)) ⊎ ((nat_le 4096 (i + 1) ≡ false) × (i + 1 < 4096))
        → ((nat_le 4015 i ≡ true) × (4015 ≤ i)) ⊎ ((nat_le 4015 i ≡ false) × (i < 4015))
        → ((nat_le 4015 (i + 1) ≡ true) × (4015 ≤ i + 1)) ⊎ ((nat_le 4015 (i + 1) ≡ false) × (i + 1 < 4015))
        → Within i params (Pair sum one)
    by (inl last) first-at second-at = spends 0 (omega (arith, none last.1)) (omega (arith, none last.1)) (omega (arith, last.1))
    by (inr inside) (inl high) second-at = spends 4000 (omega arith) (omega arith) (omega (arith, high.1, inside.1))
    by (inr inside) (inr below) (inl high) = spends 2000 (omega (arith, low (omega (arith, below.1)))) (omega arith) (omega (arith, high.1, inside.1))
    by (inr inside) (inr below) (inr under) =
        spends 0 (omega (arith, low (omega (arith, below.1)), low' under.1)) (omega arith) (omega (arith, under.1))

pair-within : (i : ℕ) (params : Params) (sum one : ℕ) (rest : List ℤ) → AreWithin params → adds_up (Pair sum one) ≡ true → i < 4096
    → SmallFrom i (terms_of params (Pair sum one) ++ rest) → Within i params (Pair sum one)
unfolding terms_of
pair-within i params sum one rest within adds here small =
    let is : first_of sum one ≡ unfold_number one = rw adds refl in
    pair-spends i params sum one (unsigned_abs (unfold_number one)) (unsigned_abs (unfold_number (sum - one))) within here (leb-true one sum adds)
    (omega (arith, folded-unfold one, folded-small (unfold_number one)))
    (omega (arith, folded-unfold (sum - one), folded-small (unfold_number (sum - one))))
    (subst (λ v. unsigned_abs v ≤ 2048) is (magnitude-at i 0 (terms_of params (Pair sum one) ++ rest) small))
    (magnitude-at i 1 (terms_of params (Pair sum one) ++ rest) small)
    (λ h. subst (λ v. unsigned_abs v ≤ 1024) is (small.low 0 h))
    (small.low 1)
    (λ h. ap unsigned_abs (small.none 1 h))

token-within : (i : ℕ) (params : Params) (token : Token) (rest : List ℤ) → AreWithin params → IsToken Rlgr3 params token → adds_up token ≡ true → i < 4096
    → SmallFrom i (terms_of params token ++ rest) → Within i params token
unfolding IsToken
token-within i params Run rest within fits adds here small = run-within i params here
token-within i params (LastRun count value) rest within fits adds here small = last-run-within i params count value rest within fits.0 here small
token-within i params (Value value) rest within fits adds here small = absurd (modes-differ Rlgr3 fits.1 refl)
token-within i params (Pair sum one) rest within fits adds here small = pair-within i params sum one rest within adds here small

-- the tokens' bits are within what their places may cost
codes-within : (i : ℕ) (params : Params) (tokens : List Token) → AreWithin params → AreTokens Rlgr3 params tokens → list_all adds_up tokens ≡ true
    → AreFewest (4096 - i) params tokens → SmallFrom i (terms params tokens)
    → length (codes params tokens) + budget (min i 4096) ≤ fund params + budget 4096
unfolding AreTokens AreFewest codes terms
codes-within i params [] within fits adds fewest small = omega arith
codes-within i params (token ∷ tokens) within fits adds fewest small =
    let here : i < 4096 = omega (arith, fewest.0) in
    let next : ℕ = i + length (terms_of params token) in
    let both = and_parts (adds_up token) (list_all adds_up tokens) adds in
    let one = token-within i params token (terms (after params token) tokens) within fits.0 both.0 here small in
    let left : 4096 - i - length (terms_of params token) ≡ 4096 - next = omega arith in
    let rest = codes-within next (after params token) tokens (within-after params token within) fits.1 both.1
    (subst (λ n. AreFewest n (after params token) tokens) left fewest.1)
    (small-rest i (terms_of params token) (terms (after params token) tokens) small) in
    omega (arith, one.cost, one.room, rest, length-append (code params token) (codes (after params token) tokens))

pub short-pairs : (values : List ℤ) (bytes : List ℕ) → length values ≡ 4096 → AreSmall values → Encodes Rlgr3 values bytes → length bytes ≤ 65535
short-pairs values bytes count small written =
    let bits : length (codes start written.tokens) + budget (min 0 4096) ≤ fund start + budget 4096 =
    codes-within 0 start written.tokens (record { kp = omega arith; krp = omega arith }) written.tokens_fit written.add_up written.fewest
    (subst (SmallFrom 0) (sym written.gives.1) (small-values values written.gives.0 count small)) in
    omega (arith, written.padded.1, bits, length-bits_of bytes, ap length written.padded.2, length-append (codes start written.tokens) (replicate written.padded.0 false), length-replicate written.padded.0 false)

-- in either mode
pub short-bytes : (mode : Mode) (values : List ℤ) (bytes : List ℕ) → length values ≡ 4096 → AreSmall values → Encodes mode values bytes → length bytes ≤ 65535
short-bytes Rlgr1 values bytes count small written = short-code values bytes count small written
short-bytes Rlgr3 values bytes count small written = short-pairs values bytes count small written
