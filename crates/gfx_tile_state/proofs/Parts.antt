-- What the passes of a component leave.
use Rattle.std.proofs.Common.{Ok, Err, ◌≡◌, inl, inr, ℕ, ◌<◌, Bool, true, false, ℤ, pos, ◌+ℤ◌, List, [], length, replicate, refl, sym, ap, subst, ◌∙◌, arith}
use Rattle.std.proofs.Math.IntN.{+ℤ_idl}
use Rattle.std.proofs.lemmas.Int.{ints}
use Rattle.std.proofs.lemmas.List.{length-replicate, get_or-replicate}
use Rattle.gfx_base.specs.declared.refusal.Refusal.{Refusal}
use Rattle.gfx_srl.specs.Steps.{HasRead}
use Rattle.gfx_srl.proofs.Reading.{says}
use Rattle.gfx_dwt.specs.declared.layout.Transform.{Transform}
use Rattle.gfx_dwt.specs.Ranges.{IsCoefficient, at}
use Rattle.gfx_quant.specs.Coefficient.{is_coefficient}
use Rattle.gfx_quant.specs.Planes.{Dequantises}
use Rattle.gfx_tile_state.specs.declared.entries.Readers.{Readers}
use Rattle.gfx_tile_state.specs.Entries.{Pass, AreEntries, Upgraded, pairs_from, raw_from, sum_after, wrapped}
use Rattle.gfx_tile_state.specs.Passes.{FitsOnto, LeavesKept, LeavesIt, StaysIn, IsSound, Part, ReadsFirst, TakesFirst, Upgrades, UpgradesSums, blank, added, summed}
use Rattle.gfx_tile_state.specs.Shape.{AreAtMost, AreWithin}
use Rattle.gfx_tile_state.proofs.Passing.{wrapped-small}
use Rattle.gfx_tile_state.proofs.Places.{at-added, length-added, is-coefficient, same-plane, tests}

pub fits-blank : (kept plane : List ℤ) → kept ≡ blank → ((k : ℕ) → k < 4096 → IsCoefficient (at plane k)) → FitsOnto kept plane
fits-blank kept plane e small k h =
    ap (λ l. is_coefficient (at l k +ℤ at plane k)) e
    ∙ ap (λ z. is_coefficient (z +ℤ at plane k)) (get_or-replicate 4096 k (pos 0) (pos 0) h)
    ∙ ap is_coefficient (+ℤ_idl (at plane k)) ∙ tests (at plane k) (small k h)

pub blank-small : (plane : List ℤ) → plane ≡ blank → (k : ℕ) → k < 4096 → IsCoefficient (at plane k)
blank-small plane e k h =
    subst IsCoefficient (sym (ap (λ l. at l k) e ∙ get_or-replicate 4096 k (pos 0) (pos 0) h)) (record { least = omega (arith, ints); most = omega (arith, ints) })

-- zeros add nothing
pub added-blank : (plane : List ℤ) → length plane ≡ 4096 → added blank plane ≡ plane
added-blank plane long =
    let whole : length blank ≡ 4096 = length-replicate 4096 (pos 0) in
    same-plane (added blank plane) plane 4096 (length-added blank plane (whole ∙ sym long) ∙ whole) long
    (λ k h. at-added blank plane k (whole ∙ sym long) (omega (arith, whole)) ∙ ap (λ z. z +ℤ at plane k) (get_or-replicate 4096 k (pos 0) (pos 0) h) ∙ +ℤ_idl (at plane k))

pub no-positions : AreAtMost 30 (replicate 10 0)
no-positions k h = omega (arith, get_or-replicate {A = ℕ} 10 k 0 0 h)

pub fresh-sound : (kept sums : List ℤ) (positions : List ℕ) → kept ≡ blank → sums ≡ blank → AreAtMost 30 positions → IsSound kept sums positions
fresh-sound kept sums positions e f small = record {
  kept_whole = ap length e ∙ length-replicate 4096 (pos 0);
  sums_whole = ap length f ∙ length-replicate 4096 (pos 0);
  fits = fits-blank kept sums e (blank-small sums f);
  sums_small = λ k h. blank-small sums f k (omega (arith, ap length f, length-replicate 4096 (pos 0)));
  positions_small = small;
}

-- over a blank plane all sums are sound
pub blank-sound : (kept sums plane : List ℤ) (positions : List ℕ) → kept ≡ blank → sums ≡ plane → length plane ≡ 4096 → ((k : ℕ) → k < length plane → IsCoefficient (at plane k))
    → AreAtMost 30 positions → IsSound kept sums positions
blank-sound kept sums plane positions e f long small most = record {
  kept_whole = ap length e ∙ length-replicate 4096 (pos 0);
  sums_whole = ap length f ∙ long;
  fits = fits-blank kept sums e (λ k h. subst (λ l. IsCoefficient (at l k)) (sym f) (small k (omega arith)));
  sums_small = λ k h. subst (λ l. IsCoefficient (at l k)) (sym f) (small k (omega (arith, ap length f)));
  positions_small = most;
}

pub first-sound : (kept sums plane : List ℤ) (positions : List ℕ) → kept ≡ blank → sums ≡ plane → length plane ≡ 4096 → ((k : ℕ) → k < length plane → IsCoefficient (at plane k))
    → AreWithin 6 30 positions → IsSound kept sums positions
first-sound kept sums plane positions e f long small within = blank-sound kept sums plane positions e f long small (λ k h. (within k h).1)

pub sums-sound : (kept sums one plane : List ℤ) (positions : List ℕ) → kept ≡ one → sums ≡ plane → length one ≡ 4096 → length plane ≡ 4096 → FitsOnto one plane
    → ((k : ℕ) → k < length plane → IsCoefficient (at plane k)) → AreWithin 6 30 positions → IsSound kept sums positions
sums-sound kept sums one plane positions e f long long' fits small within = record {
  kept_whole = ap length e ∙ long;
  sums_whole = ap length f ∙ long';
  fits = λ k h. ap (λ l. is_coefficient (at l k +ℤ at sums k)) e ∙ ap (λ l. is_coefficient (at one k +ℤ at l k)) f ∙ fits k h;
  sums_small = λ k h. subst (λ l. IsCoefficient (at l k)) (sym f) (small k (omega (arith, ap length f)));
  positions_small = λ k h. (within k h).1;
}

pub coefficients-small : (kept sums out : List ℤ) (positions : List ℕ) → IsSound kept sums positions → out ≡ added kept sums → (k : ℕ) → k < length out → IsCoefficient (at out k)
coefficients-small kept sums out positions sound e k h =
    let long : length kept ≡ length sums = sound.kept_whole ∙ sym sound.sums_whole in
    let below : k < length kept = omega (arith, ap length e, length-added kept sums long) in
    subst IsCoefficient (sym (ap (λ l. at l k) e ∙ at-added kept sums k long below)) (is-coefficient (at kept k +ℤ at sums k) (sound.fits k (omega (arith, sound.kept_whole))))

-- sums that are a plane of coefficients, which fits onto what is kept, stay in range
pub stays-in : (kept sums plane : List ℤ) → sums ≡ plane → length plane ≡ 4096 → FitsOnto kept plane → ((k : ℕ) → k < length plane → IsCoefficient (at plane k)) → StaysIn kept (at sums)
stays-in kept sums plane same long fits small k h =
    (ap (λ l. is_coefficient (at l k)) same ∙ tests (at plane k) (small k (omega arith)), ap (λ l. is_coefficient (at kept k +ℤ at l k)) same ∙ fits k h)

-- a first pass was taken
pub takes-first : (done : Unit {0}) (t : Transform) (positions bytes : List ℕ) (kept plane : List ℤ) (old new : Part) → ReadsFirst (Ok done) t positions bytes plane
    → new.kept ≡ kept → new.sums ≡ plane → new.positions ≡ positions → length plane ≡ 4096 → FitsOnto kept plane → ((k : ℕ) → k < length plane → IsCoefficient (at plane k))
    → TakesFirst (Ok done) t positions bytes kept old new
takes-first done t positions bytes kept plane old new read on same place long fits small =
    (read.0, read.1, subst (Dequantises t positions (summed t read.0)) (sym same) read.2, on, place, ap length same ∙ long, stays-in kept new.sums plane same long fits small)

-- or it was refused, and all is as it was
pub first-refused : (refusal : Refusal) (t : Transform) (positions bytes : List ℕ) (kept sums : List ℤ) (old new : Part) → ReadsFirst (Err refusal) t positions bytes sums
    → new ≡ old → TakesFirst (Err refusal) t positions bytes kept old new
first-refused refusal t positions bytes kept sums old new (is, inl coded) same = (is, inl coded, same)
first-refused refusal t positions bytes kept sums old new (is, inr large) same = (is, inr (large.0, large.1, inl large.2), same)

-- ---- an upgrade

pub upgrade-begins : (pass : Pass) (plane : List ℤ) (readers : Readers) → plane ≡ pass.sums → HasRead pass.srl [] readers.srl → readers.bits ≡ pass.bits → Upgraded pass 0 plane true readers
unfolding pairs_from raw_from
upgrade-begins pass plane readers e begun same = record {
  entries = [];
  all = refl;
  long = ap length e;
  stands = record { coded_are = begun; raw_are = same };
  fit = λ k h. absurd (omega arith);
  sums = λ k h. absurd (omega arith);
  due = λ k h. ap (λ l. at l k) e;
  range = λ k h. absurd (omega arith);
}

pub entries-are : (pass : Pass) (plane : List ℤ) (fits : Bool) (readers : Readers) → (u : Upgraded pass 4096 plane fits readers) → AreEntries pass u.entries
entries-are pass plane fits readers u = record {
  all = u.all;
  pairs = says pass.srl (pairs_from pass 0 u.entries) readers.srl u.stands.coded_are;
  numbers = (readers.bits, u.stands.raw_are);
  fit = u.fit;
}

-- a number in range is left as it is
unwrapped : (z : ℤ) → is_coefficient z ≡ true → wrapped z ≡ z
unwrapped z e = (wrapped-small z (is-coefficient z e)).0

pub sums-are : (pass : Pass) (plane : List ℤ) (readers : Readers) → (u : Upgraded pass 4096 plane true readers) → (k : ℕ) → k < 4096 → at plane k ≡ sum_after pass u.entries k
sums-are pass plane readers u k h = u.sums k h ∙ unwrapped (sum_after pass u.entries k) (u.range k h)

pub leaves-sum : (pass : Pass) (plane kept : List ℤ) (fits : Bool) (readers : Readers) → fits ≡ false → Upgraded pass 4096 plane fits readers
    → (entries : List ℤ) × AreEntries pass entries × LeavesIt kept (sum_after pass entries)
leaves-sum pass plane kept true readers e u = cc
leaves-sum pass plane kept false readers e u = (u.entries, entries-are pass plane false readers u, (u.range.0, u.range.1, inl u.range.2))

pub leaves-kept : (pass : Pass) (plane kept : List ℤ) (fits : Bool) (readers : Readers) → fits ≡ true → LeavesKept kept plane → Upgraded pass 4096 plane fits readers
    → (entries : List ℤ) × AreEntries pass entries × LeavesIt kept (sum_after pass entries)
leaves-kept pass plane kept false readers e out u = cc
leaves-kept pass plane kept true readers e out u = (
  u.entries,
  entries-are pass plane true readers u,
  (out.0, out.1, inr (ap (λ z. is_coefficient (at kept out.0 +ℤ z)) (sym (sums-are pass plane readers u out.0 out.1)) ∙ out.2)),
)

pub upgraded-whole : (pass : Pass) (plane sums : List ℤ) (fits : Bool) (readers : Readers) → fits ≡ true → sums ≡ plane → Upgraded pass 4096 plane fits readers
    → (entries : List ℤ) × AreEntries pass entries × ((k : ℕ) → k < 4096 → at sums k ≡ sum_after pass entries k)
upgraded-whole pass plane sums false readers e same u = cc
upgraded-whole pass plane sums true readers e same u = (u.entries, entries-are pass plane true readers u, λ k h. ap (λ l. at l k) same ∙ sums-are pass plane readers u k h)

-- a component whose sums an upgrade made, with all else as it was
pub upgrades-part : (pass : Pass) (positions : List ℕ) (sums : List ℤ) (old new : Part) → UpgradesSums (Ok tt) pass old.kept sums
    → new.sums ≡ sums → new.kept ≡ old.kept → new.positions ≡ positions → Upgrades (Ok tt) pass positions old new
upgrades-part pass positions sums old new (entries, are, sums_are, whole, stays) same on place =
    (entries, are, λ k h. ap (λ l. at l k) same ∙ sums_are k h, on, place, ap length same ∙ whole, subst (λ l. StaysIn old.kept (at l)) (sym same) stays)
