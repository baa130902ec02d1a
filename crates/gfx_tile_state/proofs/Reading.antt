-- An entry is read.
use Rattle.std.proofs.Common.{◌<◌, ◌^◌, ◌≡◌, ℕ, zero, suc, ◌≤◌, Bool, true, false, cond, ℤ, pos, negsuc, neg_ℤ, [], drop, refl, sym, ap, subst, arith}
use Rattle.std.specs.Prelude.{MatchBool, ◌<ℤ◌, ◌≤ℤ◌}
use Rattle.std.specs.Int.RustNames.{unsigned_abs}
use Rattle.std.proofs.lemmas.Int.{ints}
use Rattle.std.proofs.lemmas.List.{append-nil}
use Rattle.gfx_bits.specs.Bits.{number, digits}
use Rattle.gfx_bits.proofs.Laws.{number_below, spelled-join, spelled-number}
use Rattle.gfx_srl.specs.Steps.{HasRead}
use Rattle.gfx_tile_state.specs.declared.entries.Readers.{Readers}
use Rattle.gfx_tile_state.specs.Entries.{Way, Counted, Up, Down, signed_way, way, Fits, coded, raw, ReadsEntry}

-- a place that falls is read
pub way-some : (n : ℕ) (low : Bool) (sum : ℤ) → 1 ≤ n → cond low Counted (signed_way sum) ≡ way n low sum
way-some zero low sum h = absurd (omega arith)
way-some (suc n) true sum h = refl
way-some (suc n) false sum h = refl

-- raw bits are read
reads-raw : (w : Way) (n r : ℕ) (entry : ℤ) (old new : Readers) → coded w n entry ≡ [] → raw w n entry ≡ digits n r → Fits w n entry
    → r ≡ number n old.bits → new.bits ≡ drop n old.bits → new.srl ≡ old.srl → ReadsEntry w n entry old new
reads-raw w n r entry old new none is fits e on same = record {
  fits = fits;
  reads = λ srl bits pairs numbers h. record {
    coded_are = rw (none, same) (subst (λ ps. HasRead srl ps old.srl) (sym (append-nil pairs)) h.coded_are);
    raw_are = rw (is, e, on) (spelled-join bits numbers old.bits (digits n (number n old.bits)) (drop n old.bits) h.raw_are (spelled-number n old.bits));
  };
}

abs-neg : (r : ℕ) → unsigned_abs (neg_ℤ (pos r)) ≡ r
abs-neg zero = refl
abs-neg (suc r) = refl

-- a number of n bits
below : (n r : ℕ) (old : Readers) → r ≡ number n old.bits → r < 2 ^ n
below n r old e = rw e (number_below n old.bits)

pub reads-number : (n r : ℕ) (sum : ℤ) (old new : Readers) → 1 ≤ n → r ≡ number n old.bits → new.bits ≡ drop n old.bits → new.srl ≡ old.srl → ReadsEntry (way n true sum) n (pos r) old new
reads-number n r sum old new some e on same =
    subst (λ w. ReadsEntry w n (pos r) old new) (way-some n true sum some) (reads-raw Counted n r (pos r) old new refl refl (refl, below n r old e) e on same)

-- a number that goes away from zero
pub reads-away : (n r : ℕ) (sum : ℤ) (old new : Readers) (entry : ℤ) (down : Bool) → 1 ≤ n → (sum ≡ pos 0 → ⊥) → MatchBool down (sum <ℤ pos 0) (pos 0 ≤ℤ sum)
    → entry ≡ cond down (neg_ℤ (pos r)) (pos r)
    → r ≡ number n old.bits → new.bits ≡ drop n old.bits → new.srl ≡ old.srl → ReadsEntry (way n false sum) n entry old new
reads-away n r (pos zero) old new entry down some apart sign is e on same = absurd (apart refl)
reads-away n r (pos (suc m)) old new entry true some apart sign is e on same = absurd (omega (arith, ints))
reads-away n r (pos (suc m)) old new entry false some apart sign is e on same =
    subst (λ w. ReadsEntry w n entry old new) (way-some n false (pos (suc m)) some)
    (rw is (reads-raw Up n r (pos r) old new refl refl (refl, below n r old e) e on same))
reads-away n r (negsuc m) old new entry false some apart sign is e on same = absurd (omega (arith, ints))
reads-away n r (negsuc m) old new entry true some apart sign is e on same =
    subst (λ w. ReadsEntry w n entry old new) (way-some n false (negsuc m) some)
    (rw is (reads-raw Down n r (neg_ℤ (pos r)) old new refl (ap (digits n) (abs-neg r)) (ap (λ m. neg_ℤ (pos m)) (sym (abs-neg r)), subst (λ m. m < 2 ^ n) (sym (abs-neg r)) (below n r old e)) e on same))
