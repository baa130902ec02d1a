-- Pairs of values, read and written.
use Rattle.std.proofs.Common.{◌≡◌, ℕ, zero, suc, ◌+◌, ◌-◌, ◌*◌, ◌/◌, ◌^◌, ◌<◌, ℤ, pos, List, Bool, [], ◌∷◌, ◌++◌, length, take, drop, get_or, refl, sym, ap, ◌∙◌, arith, append_assoc, min, replicate, subst, inl, inr, true, false, negsuc, nat_lt}
use Rattle.std.proofs.lemmas.List.{take_more, append-nil, get_or_past}
use Rattle.std.proofs.lemmas.Bool.{cases_lt, lt-ltb, le-ltb, lt-leb, le-leb}
use Rattle.std.proofs.lemmas.Nat.{shr_high}
use Rattle.gfx_bits.specs.Bits.{Spelled, number, digits, ones}
use Rattle.gfx_bits.proofs.Laws.{spelled-join, spelled-number, number_below}
use Rattle.gfx_rlgr.specs.declared.mode.Mode.TheVariants.{Rlgr3}
use Rattle.gfx_rlgr.specs.declared.params.Params.{Params}
use Rattle.gfx_rlgr.specs.Code.{Pair, k, kr, number_code, krp_after, after_number, folded, unfold_number, first_of, kp_after_pair, bit_length, code, after, IsToken, terms_of}
use Rattle.gfx_rlgr.specs.Steps.{AreWithin, ReadsToken, WritesToken, Covers, kept}
use Rattle.gfx_rlgr.specs.Writes.{pair_of}
use Rattle.gfx_rlgr.proofs.Pairs.{pair-bits, pair-adds, pair-terms}
use Rattle.gfx_rlgr.proofs.Reading.{number-read, krp-same, with_kp, within-after}

-- ---- a pair that was read

-- the ones of the next bits and the low bits behind their zero are the sum
sum-read : (old : List Bool) (low sum : ℕ) → sum ≡ ones old * 2 ^ low + number low (drop (suc (ones old)) old)
    → Spelled old (number_code low sum) (drop low (drop (suc (ones old)) old))
sum-read old low sum is = rw is (number-read low old)

sum-after : (old : List Bool) (before between : Params) (high sum : ℕ) → sum ≡ ones old * 2 ^ kr before + number (kr before) (drop (suc (ones old)) old)
    → high ≡ min (ones old) (2 ^ 32 - 1) → between ≡ record before { krp = krp_after high before.krp } → between ≡ after_number before sum
sum-after old before between high sum is capped e =
    e ∙ ap (λ m. record before { krp = m })
    (ap (λ m. krp_after m before.krp) capped ∙ krp-same (ones old) before.krp
    ∙ ap (λ m. krp_after m before.krp)
    (sym (ap (λ n. n / 2 ^ kr before) is ∙ shr_high (ones old) (kr before) (number (kr before) (drop (suc (ones old)) old)) (number_below (kr before) (drop (suc (ones old)) old)))))

-- numbers that stop at their type's end lead to the same kp
zero-some : (n kp : ℕ) → 0 < n → kp_after_pair zero n kp ≡ kp
zero-some zero kp h = absurd (omega (arith, h))
zero-some (suc n) kp h = refl

some-zero : (n kp : ℕ) → 0 < n → kp_after_pair n zero kp ≡ kp
some-zero zero kp h = absurd (omega (arith, h))
some-zero (suc n) kp h = refl

both-some : (m n kp : ℕ) → 0 < m → 0 < n → kp_after_pair m n kp ≡ kp - 6
both-some zero n kp h i = absurd (omega (arith, h))
both-some (suc m) zero kp h i = absurd (omega (arith, i))
both-some (suc m) (suc n) kp h i = refl

pair-same : (one other kp : ℕ) → kp_after_pair (min one (2 ^ 32 - 1)) (min other (2 ^ 32 - 1)) kp ≡ kp_after_pair one other kp
pair-same zero zero kp = refl
pair-same zero (suc other) kp = zero-some (min (suc other) (2 ^ 32 - 1)) kp (omega arith)
pair-same (suc one) zero kp = some-zero (min (suc one) (2 ^ 32 - 1)) kp (omega arith)
pair-same (suc one) (suc other) kp = both-some (min (suc one) (2 ^ 32 - 1)) (min (suc other) (2 ^ 32 - 1)) kp (omega arith) (omega arith)

pair-known : (one other less rest due kp : ℕ) → other ≡ due → less ≡ min one (2 ^ 32 - 1) → rest ≡ min other (2 ^ 32 - 1) → kp_after_pair less rest kp ≡ kp_after_pair one due kp
pair-known one other less rest due kp is less-is rest-is =
    ap (λ m. kp_after_pair m rest kp) less-is
    ∙ ap (λ m. kp_after_pair (min one (2 ^ 32 - 1)) m kp) rest-is
    ∙ pair-same one other kp
    ∙ ap (λ m. kp_after_pair one m kp) is

-- of a broken pair the first value is out of range
first-is : (sum one shown : ℕ) (result : ℤ) → min one 65535 ≡ min shown 65535
    → (nat_lt sum one ≡ true → result ≡ negsuc 32767)
    → (nat_lt sum one ≡ false → (exact : ℕ) → min exact 65535 ≡ min shown 65535 → result ≡ kept (unfold_number exact))
    → result ≡ kept (first_of sum one)
first-is sum one shown result same broken whole = elim (cases_lt sum one) [
  | inl over ↦ rw (lt-leb one sum over) (broken (lt-ltb sum one over))
  | inr within ↦ rw (le-leb one sum within) (whole (le-ltb sum one within) one same)
]

-- the sum and the first number were read; either may be known as far as 32 bits hold it
pub pair-read : (old mid new : List Bool) (before between behind : Params) (high low sum width one other less rest : ℕ) (first second : ℤ) → k before ≡ 0 → low ≡ kr before
    → sum ≡ ones old * 2 ^ low + number low (drop (suc (ones old)) old) → mid ≡ drop low (drop (suc (ones old)) old)
    → width ≡ bit_length sum → one ≡ number width mid → new ≡ drop width mid
    → other ≡ sum - one → less ≡ min one (2 ^ 32 - 1) → rest ≡ min other (2 ^ 32 - 1)
    → high ≡ min (ones old) (2 ^ 32 - 1) → between ≡ record before { krp = krp_after high before.krp }
    → behind ≡ record between { kp = kp_after_pair less rest between.kp }
    → (nat_lt sum one ≡ true → first ≡ negsuc 32767)
    → (nat_lt sum one ≡ false → (exact : ℕ) → min exact 65535 ≡ min less 65535 → first ≡ kept (unfold_number exact))
    → ((exact : ℕ) → min exact 65535 ≡ min rest 65535 → second ≡ kept (unfold_number exact))
    → ReadsToken Rlgr3 old new before behind (first ∷ (second ∷ []))
unfolding code after IsToken terms_of
pair-read old mid new before between behind high low sum width one other less rest first second none low-is sum-is mid-is width-is one-is new-is other-is less-is rest-is high-is e f broken whole last =
    let exact : sum ≡ ones old * 2 ^ kr before + number (kr before) (drop (suc (ones old)) old) =
    sum-is ∙ ap (λ m. ones old * 2 ^ m + number m (drop (suc (ones old)) old)) low-is in
    let there : mid ≡ drop (kr before) (drop (suc (ones old)) old) = mid-is ∙ ap (λ m. drop m (drop (suc (ones old)) old)) low-is in
    let spelled : Spelled old (number_code (kr before) sum) mid = subst (Spelled old (number_code (kr before) sum)) (sym there) (sum-read old (kr before) sum exact) in
    let number-is : one ≡ number (bit_length sum) mid = one-is ∙ ap (λ m. number m mid) width-is in
    record {
      token = Pair sum one;
      fits = (none, refl, rw number-is (number_below (bit_length sum) mid));
      spelled =
          spelled-join old (number_code (kr before) sum) mid (digits (bit_length sum) one) new spelled
          (rw (new-is ∙ ap (λ m. drop m mid) width-is, number-is) (spelled-number (bit_length sum) mid));
      params =
          f ∙ ap (λ m. with_kp m between) (pair-known one other less rest (sum - one) between.kp other-is less-is rest-is)
          ∙ ap (λ p. with_kp (kp_after_pair one (sum - one) p.kp) p) (sum-after old before between high sum exact high-is e);
      shows =
          ap (λ v. v ∷ (second ∷ [])) (first-is sum one less first (omega (arith, less-is)) broken whole)
          ∙ ap (λ v. kept (first_of sum one) ∷ (v ∷ [])) (last (sum - one) (omega (arith, other-is, rest-is)));
    }

-- ---- a pair that was written

pub pair-written : (old mid new : List Bool) (before between behind : Params) (one other : ℤ) → k before ≡ 0
    → mid ≡ old ++ number_code (kr before) (folded one + folded other) → between ≡ after_number before (folded one + folded other)
    → new ≡ mid ++ digits (bit_length (folded one + folded other)) (folded one)
    → behind ≡ record between { kp = kp_after_pair (folded one) (folded other) between.kp }
    → WritesToken Rlgr3 old new before behind (one ∷ (other ∷ []))
unfolding code after IsToken
pair-written old mid new before between behind one other none e f g h =
    let sum : ℕ = folded one + folded other in
    let rest : sum - folded one ≡ folded other = omega arith in
    record {
      token = pair_of one other;
      fits = (none, refl, pair-bits one other);
      adds = pair-adds one other;
      spelled = g ∙ ap (λ b. b ++ digits (bit_length sum) (folded one)) e ∙ append_assoc old (number_code (kr before) sum) (digits (bit_length sum) (folded one));
      params = rw rest (h ∙ ap (λ p. with_kp (kp_after_pair (folded one) (folded other) p.kp) p) f);
      shows = sym (pair-terms before one other);
    }

-- the values that it covers, the second 0 where there is but one
two-values : (values : List ℤ) (at : ℕ) → at < length values
    → take at values ++ (get_or values at (pos 0) ∷ (get_or values (at + 1) (pos 0) ∷ [])) ≡ take (min (length values) (at + 2)) values ++ replicate (at + 2 - length values) (pos 0)
two-values values at h = elim (cases_lt (at + 1) (length values)) [
  | inl more ↦
      let two : take (at + 2) values ≡ take at values ++ (get_or values at (pos 0) ∷ (get_or values (at + 1) (pos 0) ∷ [])) =
      ap (λ n. take n values) {y = at + 1 + 1} (omega arith)
      ∙ take_more values (at + 1) (pos 0) more
      ∙ ap (λ vs. vs ++ get_or values (at + 1) (pos 0) ∷ []) (take_more values at (pos 0) h)
      ∙ append_assoc (take at values) (get_or values at (pos 0) ∷ []) (get_or values (at + 1) (pos 0) ∷ []) in
      let none : at + 2 - length values ≡ 0 = omega (arith, more) in
      let whole : min (length values) (at + 2) ≡ at + 2 = omega (arith, more) in
      rw (none, whole) (sym two ∙ sym (append-nil (take (at + 2) values)))
  | inr last ↦
      let one : at + 2 - length values ≡ 1 = omega (arith, last) in
      let whole : min (length values) (at + 2) ≡ at + 1 = omega (arith, last) in
      rw (one, whole, get_or_past values (at + 1) (pos 0) last)
      (sym (ap (λ vs. vs ++ pos 0 ∷ []) (take_more values at (pos 0) h) ∙ append_assoc (take at values) (get_or values at (pos 0) ∷ []) (pos 0 ∷ [])))
]

pub covers-pair : (values : List ℤ) (at next : ℕ) (one other : ℤ) (old new : List Bool) (before behind : Params) → AreWithin before → at < length values
    → next ≡ min (length values) (at + 2) → one ≡ get_or values at (pos 0) → other ≡ get_or values (at + 1) (pos 0)
    → WritesToken Rlgr3 old new before behind (one ∷ (other ∷ [])) → Covers Rlgr3 values at next old new before behind
covers-pair values at next one other old new before behind within h next-is e f written = record {
  shown = one ∷ (other ∷ []);
  written = written;
  within = rw written.params (within-after before written.token within);
  on = (omega arith, omega arith);
  more = at + 2 - length values;
  gives =
      ap (λ v. take at values ++ (v ∷ (other ∷ []))) e
      ∙ ap (λ v. take at values ++ (get_or values at (pos 0) ∷ (v ∷ []))) f
      ∙ two-values values at h
      ∙ ap (λ n. take n values ++ replicate (at + 2 - length values) (pos 0)) (sym next-is);
  none = λ short. omega arith;
}
