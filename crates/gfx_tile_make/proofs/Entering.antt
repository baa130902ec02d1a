-- What is written at a place is its entry.
use Rattle.std.proofs.Common.{◌≡◌, ◌≢◌, ◌∙◌, ℕ, zero, suc, ◌+◌, ◌-◌, ◌*◌, ◌/◌, ◌%◌, ◌^◌, ◌<◌, ◌≤◌, Bool, true, false, cond, ℤ, pos, negsuc, neg_ℤ, ◌-ℤ◌, ◌*ℤ◌, [], ◌∷◌, ◌++◌, refl, sym, ap, subst, arith}
use Rattle.std.specs.Prelude.{int_div}
use Rattle.std.specs.Int.{int_shr}
use Rattle.std.specs.Int.RustNames.{int_lt, unsigned_abs}
use Rattle.std.specs.Prelude.{OnOk, Result, Ok, Err}
use Rattle.std.proofs.lemmas.Bool.{le-ltb}
use Rattle.gfx_base.specs.declared.answer.NoMemory.{NoMemory}
use Rattle.std.proofs.lemmas.Int.{ints}
use Rattle.std.proofs.lemmas.Nat.{pow_pos, mod_below, div-add-mod'}
use Rattle.std.proofs.lemmas.List.{append-nil}
use Rattle.gfx_bits.specs.Bits.{digits}
use Rattle.gfx_srl.specs.Steps.{HasWritten, Writes}
use Rattle.gfx_dwt.specs.declared.layout.Band.{Band}
use Rattle.gfx_dwt.specs.declared.layout.Band.TheVariants.{Ll3}
use Rattle.gfx_quant.specs.Coefficient.{truncated}
use Rattle.gfx_tile_state.specs.Entries.{Coded, Counted, Down, Up, Way, coded, is_low, raw, way}
use Rattle.gfx_tile_state.proofs.Reading.{way-some}
use Rattle.gfx_tile_make.specs.declared.entry.Writers.{Writers}
use Rattle.gfx_tile_make.specs.Upgrade.{gained}
use Rattle.gfx_tile_make.specs.Writing.{WritesEntry}
use Rattle.gfx_tile_make.proofs.Gains.{two-steps, up-gain, down-gain, abs-neg}

-- which number a band's truncating is
pub not-low : (band : Band) → false ≡ is_low band → (v : ℤ) (p : ℕ) → truncated band v p ≡ int_div v (pos (2 ^ p))
unfolding truncated
not-low Ll3 e v p = cc
not-low _ e v p = refl

pub is-low : (band : Band) → true ≡ is_low band → (v : ℤ) (p : ℕ) → truncated band v p ≡ int_shr v p
unfolding truncated
is-low Ll3 e v p = refl
is-low _ e v p = cc

-- a number below a divisor
pub under : (x d : ℕ) → 0 < d → x / d ≡ 0 → x < d
under x d some e =
    let none : x / d * d ≡ 0 = ap (λ q. q * d) e ∙ omega arith in
    omega (arith, div-add-mod' x d, mod_below x d some)

-- raw bits were written
writes-raw : (w : Way) (n r : ℕ) (entry : ℤ) (old new : Writers) → coded w n entry ≡ [] → raw w n entry ≡ digits n r → new.bits ≡ old.bits ++ digits n r → new.srl ≡ old.srl → WritesEntry w n entry old new
writes-raw w n r entry old new none is on same = record {
  coded_on = λ pairs h. rw (none, same) (subst (λ ps. HasWritten ps old.srl) (sym (append-nil pairs)) h);
  raw_on = on ∙ ap (λ b. old.bits ++ b) (sym is);
}

-- a number of LL3
pub writes-counted : (n r : ℕ) (sum entry : ℤ) (old new : Writers) → 1 ≤ n → pos r ≡ entry → new.bits ≡ old.bits ++ digits n r → new.srl ≡ old.srl → WritesEntry (way n true sum) n entry old new
writes-counted n r sum entry old new some e on same =
    subst (λ w. WritesEntry w n entry old new) (way-some n true sum some) (writes-raw Counted n r entry old new refl (ap (λ z. digits n (unsigned_abs z)) (sym e)) on same)

up-way : (q n : ℕ) → 1 ≤ n → q ≢ 0 → Up ≡ way n false (pos q)
up-way zero n some apart = absurd (apart refl)
up-way (suc q) n some apart = way-some n false (pos (suc q)) some

down-way : (q n : ℕ) → 1 ≤ n → q ≢ 0 → Down ≡ way n false (neg_ℤ (pos q))
down-way zero n some apart = absurd (apart refl)
down-way (suc q) n some apart = way-some n false (negsuc q) some

coded-way : (q n : ℕ) → 1 ≤ n → q ≡ 0 → (Coded ≡ way n false (pos q)) × (Coded ≡ way n false (neg_ℤ (pos q)))
coded-way zero n some e = (way-some n false (pos 0) some, way-some n false (pos 0) some)
coded-way (suc q) n some e = absurd (omega arith)

-- a number that goes away from zero
away : (v : ℤ) (p n : ℕ) (old new : Writers) → 1 ≤ n → unsigned_abs v / 2 ^ (p + n) ≢ 0 → new.bits ≡ old.bits ++ digits n (unsigned_abs v / 2 ^ p % 2 ^ n) → new.srl ≡ old.srl
    → WritesEntry (way n false (int_div v (pos (2 ^ (p + n))))) n (int_div v (pos (2 ^ p)) -ℤ int_div v (pos (2 ^ (p + n))) *ℤ pos (2 ^ n)) old new
away (pos m) p n old new some apart on same =
    subst (λ w. WritesEntry w n (int_div (pos m) (pos (2 ^ p)) -ℤ int_div (pos m) (pos (2 ^ (p + n))) *ℤ pos (2 ^ n)) old new) (up-way (m / 2 ^ (p + n)) n some apart)
    (writes-raw Up n (m / 2 ^ p % 2 ^ n) _ old new refl (ap (λ z. digits n (unsigned_abs z)) (up-gain m p n)) on same)
away (negsuc m) p n old new some apart on same =
    subst (λ w. WritesEntry w n (int_div (negsuc m) (pos (2 ^ p)) -ℤ int_div (negsuc m) (pos (2 ^ (p + n))) *ℤ pos (2 ^ n)) old new) (down-way (suc m / 2 ^ (p + n)) n some apart)
    (writes-raw Down n (suc m / 2 ^ p % 2 ^ n) _ old new refl (ap (λ z. digits n (unsigned_abs z)) (down-gain m p n) ∙ ap (digits n) (abs-neg (suc m / 2 ^ p % 2 ^ n))) on same)

pub writes-away : (v : ℤ) (before behind : ℕ) (old new : Writers) → behind < before → unsigned_abs v / 2 ^ before ≢ 0
    → new.bits ≡ old.bits ++ digits (before - behind) (unsigned_abs v / 2 ^ behind % 2 ^ (before - behind)) → new.srl ≡ old.srl
    → WritesEntry (way (before - behind) false (int_div v (pos (2 ^ before)))) (before - behind) (int_div v (pos (2 ^ behind)) -ℤ int_div v (pos (2 ^ before)) *ℤ pos (2 ^ (before - behind))) old new
writes-away v before behind old new h apart on same =
    let n : ℕ = before - behind in
    let whole : behind + n ≡ before = omega arith in
    subst (λ q. WritesEntry (way n false (int_div v (pos (2 ^ q)))) n (int_div v (pos (2 ^ behind)) -ℤ int_div v (pos (2 ^ q)) *ℤ pos (2 ^ n)) old new) whole
    (away v behind n old new (omega arith) (subst (λ q. unsigned_abs v / 2 ^ q ≢ 0) (sym whole) apart) on same)

-- a value of a place that was zero
none-before : (z coarse : ℤ) (d : ℕ) → coarse ≡ pos 0 → z -ℤ coarse *ℤ pos d ≡ z
none-before z coarse d e = ap (λ c. z -ℤ c *ℤ pos d) e ∙ ap (λ n. z -ℤ pos n) {x = 0 * d} {y = 0} (omega arith) ∙ nothing z
  where
    nothing : (z : ℤ) → z -ℤ pos 0 ≡ z
    nothing z = omega (arith, ints)

coded-here : (n : ℕ) (value entry : ℤ) (old new : Writers) → value ≡ entry → Writes n value old.srl new.srl → new.bits ≡ old.bits → WritesEntry Coded n entry old new
coded-here n value entry old new e write same = record {
  coded_on = λ pairs h. subst (λ z. HasWritten (pairs ++ (record { value = z; width = n }) ∷ []) new.srl) e (write pairs h);
  raw_on = same ∙ sym (append-nil old.bits);
}

zero-quotient : (v : ℤ) (d : ℕ) → unsigned_abs v / d ≡ 0 → int_div v (pos d) ≡ pos 0
zero-quotient (pos m) d e = ap (λ q. pos q) e
zero-quotient (negsuc m) d e = ap (λ q. neg_ℤ (pos q)) e

was-zero : (v : ℤ) (d n : ℕ) → 1 ≤ n → unsigned_abs v / d ≡ 0 → Coded ≡ way n false (int_div v (pos d))
was-zero v d n some e = (coded-way 0 n some refl).0 ∙ ap (way n false) (sym (zero-quotient v d e))

-- a magnitude with the sign of a number
pub signed-quotient : (v : ℤ) (d : ℕ) → cond (int_lt v (pos 0)) (neg_ℤ (pos (unsigned_abs v / d))) (pos (unsigned_abs v / d)) ≡ int_div v (pos d)
signed-quotient (pos m) d = ap (λ b. cond b (neg_ℤ (pos (m / d))) (pos (m / d))) (le-ltb m 0 (omega arith))
signed-quotient (negsuc m) d = refl

pub writes-value : (v value : ℤ) (before behind : ℕ) (old new : Writers) → behind < before → unsigned_abs v / 2 ^ before ≡ 0 → value ≡ int_div v (pos (2 ^ behind)) → Writes (before - behind) value old.srl new.srl → new.bits ≡ old.bits
    → WritesEntry (way (before - behind) false (int_div v (pos (2 ^ before)))) (before - behind) (int_div v (pos (2 ^ behind)) -ℤ int_div v (pos (2 ^ before)) *ℤ pos (2 ^ (before - behind))) old new
writes-value v value before behind old new h none is write same =
    let n : ℕ = before - behind in
    subst (λ w. WritesEntry w n (int_div v (pos (2 ^ behind)) -ℤ int_div v (pos (2 ^ before)) *ℤ pos (2 ^ n)) old new) (was-zero v (2 ^ before) n (omega arith) none)
    (coded-here n value _ old new (is ∙ sym (none-before (int_div v (pos (2 ^ behind))) (int_div v (pos (2 ^ before))) (2 ^ n) (zero-quotient v (2 ^ before) none))) write same)

-- a value that is new fits its width
pub small-value : (m before behind : ℕ) → behind < before → m / 2 ^ before ≡ 0 → m / 2 ^ behind < 2 ^ (before - behind)
small-value m before behind h none =
    let n : ℕ = before - behind in
    under (m / 2 ^ behind) (2 ^ n) (pow_pos n) (sym (two-steps m behind n) ∙ ap (λ q. m / 2 ^ q) {x = behind + n} {y = before} (omega arith) ∙ none)

pub abs-signed : (down : Bool) (m : ℕ) → unsigned_abs (cond down (neg_ℤ (pos m)) (pos m)) ≡ m
abs-signed true m = abs-neg m
abs-signed false m = refl

-- where it is said in the words of a band
pub low-entry : (band : Band) → true ≡ is_low band → (v : ℤ) (before behind : ℕ) → int_shr v behind -ℤ int_shr v before *ℤ pos (2 ^ (before - behind)) ≡ gained band v before behind
unfolding truncated
low-entry Ll3 e v before behind = refl
low-entry _ e v before behind = cc

pub in-band : (band : Band) → false ≡ is_low band → (v : ℤ) (before behind : ℕ) (old new : Writers)
    → WritesEntry (way (before - behind) false (int_div v (pos (2 ^ before)))) (before - behind) (int_div v (pos (2 ^ behind)) -ℤ int_div v (pos (2 ^ before)) *ℤ pos (2 ^ (before - behind))) old new
    → WritesEntry (way (before - behind) false (truncated band v before)) (before - behind) (gained band v before behind) old new
unfolding truncated
in-band Ll3 e v before behind old new h = cc
in-band _ e v before behind old new h = h

-- what a call that went well says
pub on-ok : (P Q : Type 0) (result : Result (Unit {0}) NoMemory) → (P → Q) → OnOk result P → OnOk result Q
on-ok P Q (Ok done) f h = f h
on-ok P Q (Err e) f h = tt
