-- Where all passes of a component have one transform, the known sign of a place is that of its sum.
use Rattle.std.proofs.Common.{◌≡◌, ◌∙◌, ℕ, zero, suc, ◌+◌, ◌-◌, ◌*◌, ◌^◌, ◌<◌, Bool, true, false, ℤ, pos, negsuc, neg_ℤ, ◌+ℤ◌, ◌*ℤ◌, List, [], ◌∷◌, ◌++◌, length, refl, sym, ap, subst, arith, Result, Ok, Err}
use Rattle.std.specs.Int.RustNames.{unsigned_abs}
use Rattle.std.proofs.Math.IntN.{+ℤ_idl, +ℤ_idr}
use Rattle.std.proofs.lemmas.Nat.{pow_pos}
use Rattle.gfx_base.specs.declared.refusal.Refusal.{Refusal}
use Rattle.gfx_base.specs.declared.refusal.Refusal.TheVariants.{CoefficientRange}
use Rattle.gfx_base.specs.Results.{and_then, check}
use Rattle.gfx_bits.specs.Bits.{Spelled}
use Rattle.gfx_rlgr.specs.Rlgr.{Rlgr}
use Rattle.gfx_rlgr.specs.Says.{rlgr}
use Rattle.gfx_rlgr.proofs.Says.{always-decodes}
use Rattle.gfx_rlgr.specs.declared.mode.Mode.TheVariants.{Rlgr1}
use Rattle.gfx_srl.specs.Srl.{Srl}
use Rattle.gfx_dwt.specs.declared.layout.Transform.{Transform}
use Rattle.gfx_dwt.specs.Ranges.{at}
use Rattle.gfx_quant.specs.Coefficient.{coefficient_of}
use Rattle.gfx_quant.specs.Quant.{value_of}
use Rattle.gfx_tile_state.specs.Entries.{Way, Fits, Pass, AreEntries, band_at, coded, is_low, pairs_from, pass_of, raw, raw_from, signed_way, way, way_at}
use Rattle.gfx_tile_state.specs.Known.{Known, Unknown, Above, Below, sign_of, known_after, way_of, way_by, pairs_by, raw_by, AreSaid, Raise, History, known_behind, positions_behind, sum_behind, fall, ways_by, AreRead, Leaves, begun, known, raised}
use Rattle.gfx_tile_state.specs.Making.{entries_of, first_part, fits_onto, fitting, plane_of, sums_of, upgraded_part}
use Rattle.gfx_tile_state.specs.Passes.{Part, summed}
use Rattle.gfx_tile_state.proofs.Making.{at-by_place, summed-whole}
use Rattle.gfx_tile_state.proofs.Said.{always-entries}
use Rattle.gfx_tile_state.proofs.Values.{values-whole}

-- ---- signs of numbers

sign-pos : (m : ℕ) → 0 < m → sign_of (pos m) ≡ Above
sign-pos zero h = absurd (omega arith)
sign-pos (suc m) h = refl

sign-neg : (m : ℕ) → 0 < m → sign_of (neg_ℤ (pos m)) ≡ Below
sign-neg zero h = absurd (omega arith)
sign-neg (suc m) h = refl

positive : (n w : ℕ) → 0 < w → 0 < suc n * w
positive n w h = omega (arith, suc-times n w)
  where
    suc-times : (n w : ℕ) → suc n * w ≡ w + n * w
    suc-times n w = omega arith

-- a coefficient has its value's sign
sign-scaled : (v : ℤ) (s : ℕ) → sign_of (coefficient_of v s) ≡ sign_of v
sign-scaled (pos zero) s = ap (λ m. sign_of (pos m)) {x = 0 * 2 ^ (s - 1)} {y = 0} (omega arith)
sign-scaled (pos (suc n)) s = sign-pos (suc n * 2 ^ (s - 1)) (positive n (2 ^ (s - 1)) (pow_pos (s - 1)))
sign-scaled (negsuc n) s = sign-neg (suc n * 2 ^ (s - 1)) (positive n (2 ^ (s - 1)) (pow_pos (s - 1)))

-- what goes away from zero keeps the sign
goes-up : (z : ℤ) (m : ℕ) → sign_of z ≡ Above → sign_of (z +ℤ pos m) ≡ Above
goes-up (pos zero) m e = absurd (unlike e)
  where
    unlike : Unknown ≡ Above → ⊥
    unlike e = cc
goes-up (pos (suc n)) m e = sign-pos (suc n + m) (omega arith)
goes-up (negsuc n) m e = absurd (unlike e)
  where
    unlike : Below ≡ Above → ⊥
    unlike e = cc

goes-down : (z : ℤ) (m : ℕ) → sign_of z ≡ Below → sign_of (z +ℤ neg_ℤ (pos m)) ≡ Below
goes-down (pos zero) m e = absurd (unlike e)
  where
    unlike : Unknown ≡ Below → ⊥
    unlike e = cc
goes-down (pos (suc n)) m e = absurd (unlike e)
  where
    unlike : Above ≡ Below → ⊥
    unlike e = cc
goes-down (negsuc n) zero e = ap sign_of (+ℤ_idr (negsuc n))
goes-down (negsuc n) (suc m) e = refl

none-there : (z : ℤ) → sign_of z ≡ Unknown → z ≡ pos 0
none-there (pos zero) e = refl
none-there (pos (suc n)) e = absurd (unlike e)
  where
    unlike : Above ≡ Unknown → ⊥
    unlike e = cc
none-there (negsuc n) e = absurd (unlike e)
  where
    unlike : Below ≡ Unknown → ⊥
    unlike e = cc

nothing-of : (s : ℕ) → coefficient_of (pos 0) s ≡ pos 0
nothing-of s = ap (λ n. pos n) {x = 0 * 2 ^ (s - 1)} {y = 0} (omega arith)

adds-nothing : (z e : ℤ) (s : ℕ) → e ≡ pos 0 → z +ℤ coefficient_of e s ≡ z
adds-nothing z e s none = ap (λ x. z +ℤ coefficient_of x s) none ∙ ap (λ x. z +ℤ x) (nothing-of s) ∙ +ℤ_idr z

-- a sign that is known, or none, stays where the entry is 0
stays : (sign : Known) (e : ℤ) → e ≡ pos 0 → known_after sign e ≡ sign
stays Unknown e none = ap sign_of none
stays Above e none = refl
stays Below e none = refl

-- ---- one upgrade of one place

up-entry : (z e : ℤ) (s : ℕ) → sign_of z ≡ Above → e ≡ pos (unsigned_abs e) → sign_of (z +ℤ coefficient_of e s) ≡ Above
up-entry z e s above is =
    ap (λ x. sign_of (z +ℤ coefficient_of x s)) is ∙ goes-up z (unsigned_abs e * 2 ^ (s - 1)) above

scaled-down : (m w : ℕ) → neg_ℤ (pos m) *ℤ pos w ≡ neg_ℤ (pos (m * w))
scaled-down zero w = ap (λ n. pos n) {x = 0 * w} {y = 0} (omega arith) ∙ ap (λ n. neg_ℤ (pos n)) {x = 0} {y = 0 * w} (omega arith)
scaled-down (suc m) w = refl

down-entry : (z e : ℤ) (s : ℕ) → sign_of z ≡ Below → e ≡ neg_ℤ (pos (unsigned_abs e)) → sign_of (z +ℤ coefficient_of e s) ≡ Below
down-entry z e s below is =
    ap (λ x. sign_of (z +ℤ coefficient_of x s)) is
    ∙ ap (λ x. sign_of (z +ℤ x)) (scaled-down (unsigned_abs e) (2 ^ (s - 1)))
    ∙ goes-down z (unsigned_abs e * 2 ^ (s - 1)) below

-- a place whose known sign is that of its sum, read by it
away : (sign : Known) (z e : ℤ) (s width : ℕ) → sign ≡ sign_of z → Fits (way_of sign) width e → known_after sign e ≡ sign_of (z +ℤ coefficient_of e s)
away Unknown z e s width is fits =
    sym (ap (λ x. sign_of (x +ℤ coefficient_of e s)) (none-there z (sym is)) ∙ ap sign_of (+ℤ_idl (coefficient_of e s)) ∙ sign-scaled e s)
away Above z e s width is fits = sym (up-entry z e s (sym is) fits.0)
away Below z e s width is fits = sym (down-entry z e s (sym is) fits.0)

one-upgrade : (falls : ℕ) (sign : Known) (z e : ℤ) (s width : ℕ) → sign ≡ sign_of z → Fits (way_by falls false sign) width e → known_after sign e ≡ sign_of (z +ℤ coefficient_of e s)
one-upgrade zero sign z e s width is fits = stays sign e fits ∙ is ∙ ap sign_of (sym (adds-nothing z e s fits))
one-upgrade (suc n) sign z e s width is fits = away sign z e s width is fits

-- ---- all passes

pub signs-behind : (t : Transform) (values : List ℤ) (positions : List ℕ) (raises : List Raise) (k : ℕ) → AreRead t values positions raises → k < 4096 → is_low (band_at t k) ≡ false
    → known_behind values raises k ≡ sign_of (sum_behind t values positions raises k)
unfolding known_behind sum_behind AreRead
signs-behind t values positions [] k read h outside = sym (sign-scaled (at values k) (value_of positions (band_at t k)))
signs-behind t values positions (raise ∷ earlier) k read h outside =
    let is = signs-behind t values positions earlier k read.0 h outside in
    one-upgrade (fall t (positions_behind positions earlier) raise.positions k) (known_behind values earlier k) (sum_behind t values positions earlier k) (at raise.entries k)
    (value_of raise.positions (band_at t k)) (fall t (positions_behind positions earlier) raise.positions k) is
    (subst (λ low. Fits (way_by (fall t (positions_behind positions earlier) raise.positions k) low (known_behind values earlier k)) (fall t (positions_behind positions earlier) raise.positions k) (at raise.entries k)) outside
    (read.1.fit k h))

pub known-sign : (t : Transform) (history : History) (part : Part) → Leaves t history part → (k : ℕ) → k < 4096 → is_low (band_at t k) ≡ false → known history k ≡ sign_of (at part.sums k)
known-sign t history part left k h outside =
    signs-behind t history.values history.positions history.raises k left.read h outside ∙ ap sign_of (sym (left.sums_are k h))

-- ---- ways

signed-alike : (z : ℤ) → signed_way z ≡ way_of (sign_of z)
signed-alike (pos zero) = refl
signed-alike (pos (suc n)) = refl
signed-alike (negsuc n) = refl

ways-alike : (falls : ℕ) (low : Bool) (z : ℤ) (sign : Known) → (low ≡ false → sign ≡ sign_of z) → way falls low z ≡ way_by falls low sign
ways-alike zero low z sign is = refl
ways-alike (suc n) true z sign is = refl
ways-alike (suc n) false z sign is = signed-alike z ∙ ap way_of (sym (is refl))

pub known-way : (t : Transform) (history : History) (part : Part) (positions : List ℕ) (srl bits : List Bool) → Leaves t history part → (k : ℕ) → k < 4096
    → way_at (pass_of t part.positions positions part.sums srl bits) k ≡ ways_by t part.positions positions (known history) k
known-way t history part positions srl bits left k h =
    ways-alike (fall t part.positions positions k) (is_low (band_at t k)) (at part.sums k) (known history k) (known-sign t history part left k h)

-- ---- entries read by ways that are the same

pairs-alike : (pass : Pass) (ways : ℕ → Way) (k : ℕ) (entries : List ℤ) → ((i : ℕ) → i < k + length entries → way_at pass i ≡ ways i) → pairs_from pass k entries ≡ pairs_by ways pass.falls k entries
unfolding pairs_from pairs_by
pairs-alike pass ways k [] same = refl
pairs-alike pass ways k (entry ∷ entries) same =
    ap (λ w. coded w (pass.falls k) entry ++ pairs_from pass (suc k) entries) (same k (omega arith))
    ∙ ap (λ l. coded (ways k) (pass.falls k) entry ++ l) (pairs-alike pass ways (suc k) entries (λ i h. same i (omega arith)))

raw-alike : (pass : Pass) (ways : ℕ → Way) (k : ℕ) (entries : List ℤ) → ((i : ℕ) → i < k + length entries → way_at pass i ≡ ways i) → raw_from pass k entries ≡ raw_by ways pass.falls k entries
unfolding raw_from raw_by
raw-alike pass ways k [] same = refl
raw-alike pass ways k (entry ∷ entries) same =
    ap (λ w. raw w (pass.falls k) entry ++ raw_from pass (suc k) entries) (same k (omega arith))
    ∙ ap (λ l. raw (ways k) (pass.falls k) entry ++ l) (raw-alike pass ways (suc k) entries (λ i h. same i (omega arith)))

said-alike : (pass : Pass) (ways : ℕ → Way) (entries : List ℤ) → ((i : ℕ) → i < 4096 → way_at pass i ≡ ways i) → AreEntries pass entries → AreSaid ways pass.falls pass.srl pass.bits entries
said-alike pass ways entries same said =
    let near : (i : ℕ) → i < 0 + length entries → way_at pass i ≡ ways i = λ i h. same i (omega (arith, said.all)) in
    record {
      all = said.all;
      pairs = subst (Srl pass.srl) (pairs-alike pass ways 0 entries near) said.pairs;
      numbers = (said.numbers.0, subst (λ code. Spelled pass.bits code said.numbers.0) (raw-alike pass ways 0 entries near) said.numbers.1);
      fit = λ k h. subst (λ w. Fits w (pass.falls k) (at entries k)) (same k h) (said.fit k h);
    }

-- ---- what passes make

abbrev other-than : {A : Type 0} → A → Result A Refusal → A
other-than x (Ok y) = y
other-than x (Err refusal) = x

refused-not : {A : Type 0} (refusal : Refusal) (x : A) → Err refusal ≡ Ok x → ⊥
refused-not refusal x e = cc

fits-made : (fits : Bool) (made part : Part) → and_then (check CoefficientRange fits) (λ done. Ok made) ≡ Ok part → made ≡ part
unfolding and_then
fits-made true made part e = ap (other-than made) e
fits-made false made part e = absurd (refused-not CoefficientRange part e)

fitting-made : (made part : Part) → fitting made ≡ Ok part → made ≡ part
unfolding fitting
fitting-made made part e = fits-made (fits_onto made.kept made.sums) made part e

read-made : (read : Result (List ℤ) Refusal) (t : Transform) (positions : List ℕ) (kept : List ℤ) (part : Part)
    → and_then read (λ values. fitting (record { kept = kept; sums = plane_of t positions (summed t values); positions = positions })) ≡ Ok part
    → (values : List ℤ) × (read ≡ Ok values) × (record { kept = kept; sums = plane_of t positions (summed t values); positions = positions } ≡ part)
unfolding and_then
read-made (Ok values) t positions kept part e = (values, refl, fitting-made (record { kept = kept; sums = plane_of t positions (summed t values); positions = positions }) part e)
read-made (Err refusal) t positions kept part e = absurd (refused-not refusal part e)

leaves-plane : (t : Transform) (positions : List ℕ) (kept values : List ℤ) → length values ≡ 4096
    → Leaves t (begun values positions) (record { kept = kept; sums = plane_of t positions values; positions = positions })
unfolding AreRead sum_behind
leaves-plane t positions kept values long = record {
  read = tt;
  positions_are = refl;
  sums_are = λ k h. at-by_place (λ k value. coefficient_of value (value_of positions (band_at t k))) values k (omega (arith, long));
}

pub first-made : (t : Transform) (positions bytes : List ℕ) (kept : List ℤ) (part : Part) → first_part t positions bytes kept ≡ Ok part
    → (values : List ℤ) × Rlgr bytes (Ok values) × Leaves t (begun (summed t values) positions) part
unfolding first_part
first-made t positions bytes kept part e =
    let made = read-made (rlgr bytes) t positions kept part e in
    let says : Rlgr bytes (Ok made.0) = subst (Rlgr bytes) made.1 (always-decodes Rlgr1 bytes) in (
      made.0,
      says,
      subst (Leaves t (begun (summed t made.0) positions)) made.2
          (leaves-plane t positions kept (summed t made.0) (summed-whole t made.0 (values-whole bytes made.0 says))),
    )

leaves-raised : (t : Transform) (history : History) (positions : List ℕ) (srl bits : List Bool) (old : Part) → Leaves t history old
    → Leaves t (raised history (record { positions = positions; srl = srl; bits = bits; entries = entries_of (pass_of t old.positions positions old.sums srl bits) }))
    (record { kept = old.kept; sums = sums_of (pass_of t old.positions positions old.sums srl bits) (entries_of (pass_of t old.positions positions old.sums srl bits)); positions = positions })
unfolding AreRead sum_behind
leaves-raised t history positions srl bits old left =
    let pass : Pass = pass_of t old.positions positions old.sums srl bits in
    let said : AreEntries pass (entries_of pass) = always-entries pass in
    let read : AreSaid (ways_by t old.positions positions (known history)) (fall t old.positions positions) srl bits (entries_of pass) =
    said-alike pass (ways_by t old.positions positions (known history)) (entries_of pass) (known-way t history old positions srl bits left) said in
    record {
      read = (left.read, subst (λ p. AreSaid (ways_by t p positions (known history)) (fall t p positions) srl bits (entries_of pass)) left.positions_are read);
      positions_are = refl;
      sums_are = λ k h.
          at-by_place (λ k entry. at old.sums k +ℤ coefficient_of entry (value_of positions (band_at t k))) (entries_of pass) k (omega (arith, said.all))
          ∙ ap (λ z. z +ℤ coefficient_of (at (entries_of pass) k) (value_of positions (band_at t k))) (left.sums_are k h);
    }

pub upgrade-made : (t : Transform) (history : History) (positions : List ℕ) (srl bits : List Bool) (old new : Part) → Leaves t history old
    → upgraded_part (pass_of t old.positions positions old.sums srl bits) positions old ≡ Ok new
    → Leaves t (raised history (record { positions = positions; srl = srl; bits = bits; entries = entries_of (pass_of t old.positions positions old.sums srl bits) })) new
unfolding upgraded_part
upgrade-made t history positions srl bits old new left e =
    subst (Leaves t (raised history (record { positions = positions; srl = srl; bits = bits; entries = entries_of (pass_of t old.positions positions old.sums srl bits) })))
    (fitting-made (record { kept = old.kept; sums = sums_of (pass_of t old.positions positions old.sums srl bits) (entries_of (pass_of t old.positions positions old.sums srl bits)); positions = positions }) new e)
    (leaves-raised t history positions srl bits old left)
