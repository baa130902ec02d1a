-- Each step of the decoder reads a token.
use Rattle.std.proofs.Common.{◌≡◌, ◌≢◌, ℕ, zero, suc, ◌+◌, ◌-◌, ◌*◌, ◌/◌, ◌%◌, ◌^◌, ◌<◌, ◌≤◌, ◌==◌, Bool, true, false, cond, ℤ, pos, negsuc, List, [], ◌∷◌, ◌++◌, map, drop, refl, sym, ap, ◌∙◌, arith, append_assoc, replicate, min, subst, inl, inr}
use Rattle.std.specs.Int.RustNames.{unsigned_abs}
use Rattle.std.proofs.lemmas.Bool.Decides.{leb_tells}
use Rattle.std.proofs.lemmas.List.{map-append, append-nil}
use Rattle.std.proofs.lemmas.Nat.{pow_pos, mod_low, shr_high, shl_whole, one_shl}
use Rattle.std.proofs.Math.Nat.{mul-le-mul_left}
use Rattle.gfx_bits.specs.Bits.{Spelled, first, number, digits, ones}
use Rattle.gfx_bits.proofs.Laws.{spelled-join, spelled-ones, spelled-number, number_below, number_1}
use Rattle.gfx_rlgr.specs.declared.mode.Mode.{Mode}
use Rattle.gfx_rlgr.specs.declared.mode.Mode.TheVariants.{Rlgr1}
use Rattle.gfx_rlgr.specs.declared.params.Params.{Params}
use Rattle.gfx_rlgr.specs.Code.{Token, Run, LastRun, Value, Pair, k, kr, number_code, krp_after, after_number, folded, unfold_number, is_negative, kp_after, kp_after_pair, code, after, IsToken, terms_of}
use Rattle.gfx_rlgr.specs.Steps.{AreWithin, ReadsNumber, ReadsToken, kept}
use Rattle.gfx_rlgr.proofs.Pairs.{folded-unfold}

-- ---- a number

-- the ones of the next bits and the low bits behind their zero are a number's code
pub number-read : (low : ℕ) (bits : List Bool)
    → Spelled bits (number_code low (ones bits * 2 ^ low + number low (drop (suc (ones bits)) bits))) (drop low (drop (suc (ones bits)) bits))
unfolding number_code
number-read low bits =
    let high : ℕ = ones bits in
    let rest : List Bool = drop (suc high) bits in
    let small : number low rest < 2 ^ low = number_below low rest in
    rw (shr_high high low (number low rest) small, mod_low high low (number low rest) small)
    (subst (λ code. Spelled bits code (drop low rest)) (append_assoc (replicate high true) (false ∷ []) (digits low (number low rest)))
    (spelled-join bits (replicate high true ++ false ∷ []) rest (digits low (number low rest)) (drop low rest) (spelled-ones bits) (spelled-number low rest)))

many-ones : (n krp : ℕ) → 80 ≤ n → krp_after n krp ≡ 80
many-ones zero krp h = absurd (omega arith)
many-ones (suc zero) krp h = absurd (omega arith)
many-ones (suc (suc n)) krp h = omega arith

-- a count that stops at its type's end leads to the same krp
pub krp-same : (n krp : ℕ) → krp_after (min n (2 ^ 32 - 1)) krp ≡ krp_after n krp
krp-same n krp = elim (leb_tells n (2 ^ 32 - 1)) [
  | inl h ↦ ap (λ m. krp_after m krp) {y = n} (omega (arith, h.1))
  | inr h ↦ many-ones (min n (2 ^ 32 - 1)) krp (omega (arith, h.1)) ∙ sym (many-ones n krp (omega (arith, h.1)))
]

-- and to the same number, as far as a value in range goes
pub number-same : (n low rest : ℕ) → low ≤ 10 → min (n * 2 ^ low + rest) 65535 ≡ min (min n (2 ^ 32 - 1) * 2 ^ low % 2 ^ 64 + rest) 65535
number-same n low rest h =
    rw (shl_whole (min n (2 ^ 32 - 1)) 32 low 64 (omega arith) (omega arith))
    (elim (leb_tells n (2 ^ 32 - 1)) [
      | inl p ↦ ap (λ m. min (m * 2 ^ low + rest) 65535) {y = min n (2 ^ 32 - 1)} (omega (arith, p.1))
      | inr p ↦
          let capped : min n (2 ^ 32 - 1) ≡ 2 ^ 32 - 1 = omega (arith, p.1) in
          rw capped (omega (arith, p.1, pow_pos low, at_least n low, at_least (2 ^ 32 - 1) low))
    ])
  where
    at_least : (n low : ℕ) → n ≤ n * 2 ^ low
    at_least n low = let one : 1 ≤ 2 ^ low = omega (arith, pow_pos low) in omega (arith, mul-le-mul_left n one)

pub reads-number : (old new : List Bool) (before behind : Params) (high rest number' : ℕ)
    → AreWithin before → high ≡ min (ones old) (2 ^ 32 - 1) → rest ≡ number (kr before) (drop (suc (ones old)) old)
    → new ≡ drop (kr before) (drop (suc (ones old)) old)
    → behind ≡ record before { krp = krp_after high before.krp }
    → number' ≡ high * 2 ^ kr before % 2 ^ 64 + rest
    → ReadsNumber old new before behind number'
reads-number old new before behind high rest number' within e f g h i = record {
  exact = ones old * 2 ^ kr before + number (kr before) (drop (suc (ones old)) old);
  spelled = rw g (number-read (kr before) old);
  params = h ∙ ap (λ m. record before { krp = m })
      (ap (λ m. krp_after m before.krp) e ∙ krp-same (ones old) before.krp
      ∙ ap (λ m. krp_after m before.krp) (sym (shr_high (ones old) (kr before) (number (kr before) (drop (suc (ones old)) old)) (number_below (kr before) (drop (suc (ones old)) old)))));
  same = rw (i, e, f) (number-same (ones old) (kr before) (number (kr before) (drop (suc (ones old)) old)) (omega (arith, within.krp)));
}

-- ---- a value

abbrev pub with_kp : ℕ → Params → Params
with_kp kp params = record params { kp = kp }

kp-same : (m n kp : ℕ) → min m 65535 ≡ min n 65535 → kp_after m kp ≡ kp_after n kp
kp-same zero zero kp e = refl
kp-same zero (suc n) kp e = absurd (omega arith)
kp-same (suc m) zero kp e = absurd (omega arith)
kp-same (suc m) (suc n) kp e = refl

pub value-read : (old new : List Bool) (before between behind : Params) (number' : ℕ) (result : ℤ)
    → k before ≡ 0 → (read : ReadsNumber old new before between number')
    → behind ≡ record between { kp = kp_after number' between.kp }
    → result ≡ kept (unfold_number read.exact)
    → ReadsToken Rlgr1 old new before behind (result ∷ [])
unfolding code after IsToken terms_of
value-read old new before between behind number' result none read e f = record {
  token = Value (unfold_number read.exact);
  fits = (none, refl);
  spelled = rw (folded-unfold read.exact) read.spelled;
  params = rw (folded-unfold read.exact)
      (e ∙ ap (λ p. with_kp (kp_after number' p.kp) p) read.params ∙ ap (λ m. with_kp m (after_number before read.exact)) (sym (kp-same read.exact number' before.kp read.same)));
  shows = ap (λ v. v ∷ []) f;
}

-- ---- a run that a value ends

-- the value of this sign whose magnitude is one more
abbrev pub signed_value : Bool → ℕ → ℤ
signed_value negative below = cond negative (negsuc below) (pos (suc below))

pub sign-of : (negative : Bool) (below : ℕ) → is_negative (signed_value negative below) ≡ negative
sign-of true below = refl
sign-of false below = refl

pub below-of : (negative : Bool) (below : ℕ) → unsigned_abs (signed_value negative below) - 1 ≡ below
below-of true below = omega arith
below-of false below = omega arith

pub not-zero : (negative : Bool) (below : ℕ) → signed_value negative below ≢ pos 0
not-zero true below e = cc
not-zero false below e = cc

kept-zeros : (n : ℕ) → map kept (replicate n (pos 0)) ≡ replicate n (pos 0)
kept-zeros zero = refl
kept-zeros (suc n) = ap (λ vs. pos 0 ∷ vs) (kept-zeros n)

pub last-run-read : (mode : Mode) (old between new : List Bool) (before moved behind : Params) (count number' : ℕ) (negative : Bool) (result : ℤ)
    → 0 < k before → count ≡ number (k before) old → negative ≡ first (drop (k before) old)
    → between ≡ drop 1 (drop (k before) old)
    → (is : moved ≡ record before { kp = before.kp - 6 }) → (read : ReadsNumber between new moved behind number')
    → result ≡ kept (signed_value negative read.exact)
    → ReadsToken mode (true ∷ old) new before behind (replicate count (pos 0) ++ result ∷ [])
unfolding code after IsToken terms_of
last-run-read mode old between new before moved behind count number' negative result run counted signed on is read e = record {
  token = LastRun count (signed_value negative read.exact);
  fits = (run, rw counted (number_below (k before) old), not-zero negative read.exact);
  spelled = (
    refl,
    rw (counted, sign-of negative read.exact, below-of negative read.exact)
        (spelled-join old (digits (k before) (number (k before) old)) (drop (k before) old) (negative ∷ number_code (kr before) read.exact) new
        (spelled-number (k before) old)
        (sym signed, subst (λ bits. Spelled bits (number_code (kr before) read.exact) new) on (subst (λ m. Spelled between (number_code (kr m) read.exact) new) is read.spelled))),
  );
  params = rw (below-of negative read.exact) (read.params ∙ ap (λ m. after_number m read.exact) is);
  shows =
      ap (λ v. replicate count (pos 0) ++ v ∷ []) e
      ∙ sym (map-append kept (replicate count (pos 0)) (signed_value negative read.exact ∷ []) ∙ ap (λ vs. vs ++ kept (signed_value negative read.exact) ∷ []) (kept-zeros count));
}

-- ---- a full run

no-bit : (bits : List Bool) → number 1 bits ≡ 0 → first bits ≡ false
no-bit bits e = go (first bits) (sym (number_1 bits) ∙ e)
  where
    go : (b : Bool) → ◌≡◌ {A = ℕ} (cond b 1 0) 0 → b ≡ false
    go true e = absurd (omega arith)
    go false e = refl

pub run-read : (mode : Mode) (old new : List Bool) (before behind : Params) → AreWithin before → 0 < k before → number 1 old ≡ 0 → new ≡ drop 1 old
    → behind ≡ record before { kp = min 80 (before.kp + 4) }
    → ReadsToken mode old new before behind (replicate (1 * 2 ^ k before % 2 ^ 32) (pos 0) ++ [])
unfolding code after IsToken terms_of
run-read mode old new before behind within run zero-bit on e = record {
  token = Run;
  fits = run;
  spelled = (no-bit old zero-bit, on);
  params = e;
  shows = append-nil (replicate (1 * 2 ^ k before % 2 ^ 32) (pos 0)) ∙ ap (λ n. replicate n (pos 0)) (one_shl (k before) 32 (omega (arith, within.kp))) ∙ sym (kept-zeros (2 ^ k before));
}

-- ---- the parameters keep to their range

krp-within : (n krp : ℕ) → krp ≤ 80 → krp_after n krp ≤ 80
krp-within zero krp h = omega arith
krp-within (suc zero) krp h = h
krp-within (suc (suc n)) krp h = omega arith

kp-within : (n kp : ℕ) → kp ≤ 80 → kp_after n kp ≤ 80
kp-within zero kp h = omega arith
kp-within (suc n) kp h = omega arith

kp-within-pair : (one other kp : ℕ) → kp ≤ 80 → kp_after_pair one other kp ≤ 80
kp-within-pair zero zero kp h = omega arith
kp-within-pair zero (suc other) kp h = h
kp-within-pair (suc one) zero kp h = h
kp-within-pair (suc one) (suc other) kp h = omega arith

pub within-after : (params : Params) (token : Token) → AreWithin params → AreWithin (after params token)
unfolding after
within-after params Run h = record { kp = omega arith; krp = h.krp }
within-after params (LastRun count value) h = record { kp = omega (arith, h.kp); krp = krp-within ((unsigned_abs value - 1) / 2 ^ kr params) params.krp h.krp }
within-after params (Value value) h = record { kp = kp-within (folded value) params.kp h.kp; krp = krp-within (folded value / 2 ^ kr params) params.krp h.krp }
within-after params (Pair sum one) h = record { kp = kp-within-pair one (sum - one) params.kp h.kp; krp = krp-within (sum / 2 ^ kr params) params.krp h.krp }

-- what a token's reading leaves
pub within-read : (mode : Mode) (old new : List Bool) (before behind : Params) (shown : List ℤ) → AreWithin before → ReadsToken mode old new before behind shown → AreWithin behind
within-read mode old new before behind shown h read = rw read.params (within-after before read.token h)

-- a run's first bit and the rest of it
one-bit : (bits : List Bool) → (number 1 bits ≡ 0 → ⊥) → first bits ≡ true
one-bit bits h = go (first bits) (λ e. h (number_1 bits ∙ e))
  where
    go : (b : Bool) → (◌≡◌ {A = ℕ} (cond b 1 0) 0 → ⊥) → b ≡ true
    go true h = refl
    go false h = absurd (h refl)

first-bit : (mode : Mode) (old new : List Bool) (before : Params) (token : Token) → first old ≡ true → 0 < k before → IsToken mode before token
    → Spelled (true ∷ drop 1 old) (code before token) new → Spelled old (code before token) new
unfolding code IsToken
first-bit mode old new before Run is run fits p = (is ∙ p.0, p.1)
first-bit mode old new before (LastRun count value) is run fits p = (is ∙ p.0, p.1)
first-bit mode old new before (Value value) is run fits p = absurd (omega (arith, fits.0))
first-bit mode old new before (Pair sum one) is run fits p = absurd (omega (arith, fits.0))

pub with-first-bit : (mode : Mode) (old behind-it new : List Bool) (before behind : Params) (shown : List ℤ) → (number 1 old ≡ 0 → ⊥) → behind-it ≡ drop 1 old
    → 0 < k before → ReadsToken mode (true ∷ behind-it) new before behind shown → ReadsToken mode old new before behind shown
with-first-bit mode old behind-it new before behind shown one is run read = record {
  token = read.token;
  fits = read.fits;
  spelled = first-bit mode old new before read.token (one-bit old one) run read.fits (subst (λ bits. Spelled (true ∷ bits) (code before read.token) new) is read.spelled);
  params = read.params;
  shows = read.shows;
}

-- the test of the sign's bit
pub sign-bit : (bits : List Bool) (n : ℕ) → n ≡ number 1 bits → (n == 1) ≡ first bits
sign-bit bits n e = rw (e, number_1 bits) (go (first bits))
  where
    go : (b : Bool) → (cond b 1 0 == 1) ≡ b
    go true = refl
    go false = refl
