-- How an upgrade goes from place to place.
use Rattle.std.proofs.Common.{◌≡◌, ◌≢◌, ℕ, zero, suc, ◌+◌, ◌<◌, ◌≤◌, Bool, true, false, ◌&&◌, ℤ, pos, negsuc, ◌+ℤ◌, List, [], ◌∷◌, ◌++◌, length, set, refl, sym, ap, subst, ◌∙◌, arith, below_more, append_assoc, length-append, length-set, get_or-set_same, get_or-set_other}
use Rattle.std.specs.Prelude.{MatchBool}
use Rattle.std.proofs.Math.IntN.{+ℤ_idr}
use Rattle.std.proofs.lemmas.Bool.{lt-ltb}
use Rattle.std.proofs.lemmas.Int.{ints, int_wrap_fits, SFits-int_wrap}
use Rattle.std.specs.Int.{int_wrap, w16}
use Rattle.std.specs.Prelude.{FitsSigned}
use Rattle.std.proofs.lemmas.List.{append-nil}
use Rattle.gfx_dwt.specs.Ranges.{IsCoefficient, at}
use Rattle.gfx_quant.specs.Coefficient.{coefficient_of, is_coefficient}
use Rattle.gfx_tile_state.specs.declared.entries.Readers.{Readers}
use Rattle.gfx_tile_state.specs.Entries.{Pass, Nothing, way, way_at, Fits, coded, raw, pairs_from, raw_from, sum_after, ReadsEntry, Upgraded, AreAlike, wrapped}
use Rattle.gfx_tile_state.proofs.Places.{more-fits}

pub pairs-last : (pass : Pass) (k : ℕ) (es : List ℤ) (e : ℤ) → pairs_from pass k (es ++ e ∷ []) ≡ pairs_from pass k es ++ coded (way_at pass (k + length es)) (pass.falls (k + length es)) e
unfolding pairs_from
pairs-last pass k [] e = append-nil (coded (way_at pass k) (pass.falls k) e) ∙ ap (λ j. coded (way_at pass j) (pass.falls j) e) {y = k + 0} (omega arith)
pairs-last pass k (x ∷ es) e =
    ap (λ ps. coded (way_at pass k) (pass.falls k) x ++ ps) (pairs-last pass (suc k) es e)
    ∙ sym (append_assoc (coded (way_at pass k) (pass.falls k) x) (pairs_from pass (suc k) es) (coded (way_at pass (suc k + length es)) (pass.falls (suc k + length es)) e))
    ∙ ap (λ j. (coded (way_at pass k) (pass.falls k) x ++ pairs_from pass (suc k) es) ++ coded (way_at pass j) (pass.falls j) e) {y = k + suc (length es)} (omega arith)

pub raw-last : (pass : Pass) (k : ℕ) (es : List ℤ) (e : ℤ) → raw_from pass k (es ++ e ∷ []) ≡ raw_from pass k es ++ raw (way_at pass (k + length es)) (pass.falls (k + length es)) e
unfolding raw_from
raw-last pass k [] e = append-nil (raw (way_at pass k) (pass.falls k) e) ∙ ap (λ j. raw (way_at pass j) (pass.falls j) e) {y = k + 0} (omega arith)
raw-last pass k (x ∷ es) e =
    ap (λ ps. raw (way_at pass k) (pass.falls k) x ++ ps) (raw-last pass (suc k) es e)
    ∙ sym (append_assoc (raw (way_at pass k) (pass.falls k) x) (raw_from pass (suc k) es) (raw (way_at pass (suc k + length es)) (pass.falls (suc k + length es)) e))
    ∙ ap (λ j. (raw (way_at pass k) (pass.falls k) x ++ raw_from pass (suc k) es) ++ raw (way_at pass j) (pass.falls j) e) {y = k + suc (length es)} (omega arith)

-- an entry before the last, and the last
before-last : (es : List ℤ) (e : ℤ) (k : ℕ) → k < length es → at (es ++ e ∷ []) k ≡ at es k
before-last [] e k h = absurd (omega arith)
before-last (x ∷ es) e zero h = refl
before-last (x ∷ es) e (suc k) h = before-last es e k (omega arith)

the-last : (es : List ℤ) (e : ℤ) (k : ℕ) → length es ≡ k → at (es ++ e ∷ []) k ≡ e
the-last [] e zero h = refl
the-last [] e (suc k) h = absurd (omega arith)
the-last (x ∷ es) e zero h = absurd (omega arith)
the-last (x ∷ es) e (suc k) h = the-last es e k (omega arith)

pub same-range : (P Q : ℕ → Bool) (n : ℕ) (fits : Bool) → ((k : ℕ) → k < n → Q k ≡ P k)
    → MatchBool fits ((k : ℕ) → k < n → P k ≡ true) ((k : ℕ) × (k < n) × (P k ≡ false))
    → MatchBool fits ((k : ℕ) → k < n → Q k ≡ true) ((k : ℕ) × (k < n) × (Q k ≡ false))
same-range P Q n true same h = λ k less. same k less ∙ h k less
same-range P Q n false same h = (h.0, h.1, same h.0 h.1 ∙ h.2)

-- one place more
pub advances : (pass : Pass) (place : ℕ) (now now' : List ℤ) (fits here : Bool) (readers readers' : Readers) (entry : ℤ)
    → Upgraded pass place now fits readers → ReadsEntry (way_at pass place) (pass.falls place) entry readers readers'
    → at now' place ≡ wrapped (at pass.sums place +ℤ coefficient_of entry (pass.positions place))
    → ((k : ℕ) → k ≢ place → at now' k ≡ at now k) → length now' ≡ length now
    → here ≡ is_coefficient (at pass.sums place +ℤ coefficient_of entry (pass.positions place))
    → Upgraded pass (place + 1) now' (fits && here) readers'
advances pass place now now' fits here readers readers' entry u read sum others long is =
    let es : List ℤ = u.entries in
    let first : 0 + length es ≡ place = omega (arith, u.all) in
    let last : at (es ++ entry ∷ []) place ≡ entry = the-last es entry place u.all in
    let older : (k : ℕ) → k < place → at (es ++ entry ∷ []) k ≡ at es k = λ k h. before-last es entry k (omega (arith, u.all)) in
    record {
      entries = es ++ entry ∷ [];
      all = length-append es (entry ∷ []) ∙ ap (λ n. n + 1) u.all;
      long = long ∙ u.long;
      stands =
          rw (pairs-last pass 0 es entry, raw-last pass 0 es entry, first)
          (read.reads pass.srl pass.bits (pairs_from pass 0 es) (raw_from pass 0 es) u.stands);
      fit = below_more (λ k. Fits (way_at pass k) (pass.falls k) (at (es ++ entry ∷ []) k)) place
          (λ k h. subst (Fits (way_at pass k) (pass.falls k)) (sym (older k h)) (u.fit k h))
          (subst (Fits (way_at pass place) (pass.falls place)) (sym last) read.fits);
      sums = below_more (λ k. at now' k ≡ wrapped (sum_after pass (es ++ entry ∷ []) k)) place
          (λ k h. others k (λ e. omega arith) ∙ u.sums k h ∙ ap (λ z. wrapped (at pass.sums k +ℤ coefficient_of z (pass.positions k))) (sym (older k h)))
          (sum ∙ ap (λ z. wrapped (at pass.sums place +ℤ coefficient_of z (pass.positions place))) (sym last));
      due = λ k h. others k (λ e. omega arith) ∙ u.due k (omega arith);
      range =
          more-fits (λ k. is_coefficient (sum_after pass (es ++ entry ∷ []) k)) place fits here
          (is ∙ ap (λ z. is_coefficient (at pass.sums place +ℤ coefficient_of z (pass.positions place))) (sym last))
          (same-range (λ k. is_coefficient (sum_after pass es k)) (λ k. is_coefficient (sum_after pass (es ++ entry ∷ []) k)) place fits
          (λ k h. ap (λ z. is_coefficient (at pass.sums k +ℤ coefficient_of z (pass.positions k))) (older k h)) u.range);
    }

-- a place that was read
pub place-read : (pass : Pass) (from to place n position : ℕ) (low fits here : Bool) (now : List ℤ) (readers readers' : Readers) (entry sum : ℤ)
    → from ≤ place → place < to → place < length now → AreAlike pass from to n position low → Upgraded pass place now fits readers
    → ReadsEntry (way n low (at now place)) n entry readers readers'
    → sum ≡ wrapped (at now place +ℤ coefficient_of entry position) → here ≡ is_coefficient (at now place +ℤ coefficient_of entry position)
    → Upgraded pass (place + 1) (set now place sum) (fits && here) readers'
place-read pass from to place n position low fits here now readers readers' entry sum a b inside alike u read e is =
    let was : at now place ≡ at pass.sums place = u.due place (omega arith) in
    advances pass place now (set now place sum) fits here readers readers' entry u
    (subst (λ w. ReadsEntry w (pass.falls place) entry readers readers')
    (ap (λ z. way n low z) was ∙ ap (λ m. way m low (at pass.sums place)) (sym (alike.falls place a b)) ∙ ap (λ l. way (pass.falls place) l (at pass.sums place)) (sym (alike.lows place a b)))
    (subst (λ m. ReadsEntry (way n low (at now place)) m entry readers readers') (sym (alike.falls place a b)) read))
    (get_or-set_same now place sum (pos 0) inside ∙ e ∙ ap (λ z. wrapped (z +ℤ coefficient_of entry position)) was ∙ ap (λ s. wrapped (at pass.sums place +ℤ coefficient_of entry s)) (sym (alike.positions place a b)))
    (λ k apart. get_or-set_other now place k sum (pos 0) apart)
    (length-set _ _ _)
    (is ∙ ap (λ z. is_coefficient (z +ℤ coefficient_of entry position)) was ∙ ap (λ s. is_coefficient (at pass.sums place +ℤ coefficient_of entry s)) (sym (alike.positions place a b)))

-- ---- places that stay

nothing-read : (width : ℕ) (readers : Readers) → ReadsEntry Nothing width (pos 0) readers readers
nothing-read width readers = record {
  fits = refl;
  reads = λ srl bits pairs numbers h. record { coded_are = rw (append-nil pairs) h.coded_are; raw_are = rw (append-nil numbers) h.raw_are };
}

pub stays : (z : ℤ) (position : ℕ) → z +ℤ coefficient_of (pos 0) position ≡ z
stays z position = ap (λ n. z +ℤ pos n) {y = 0} (omega arith) ∙ +ℤ_idr z

fits-pos : (n : ℕ) → n < 32768 → is_coefficient (pos n) ≡ true
fits-pos n h = lt-ltb n 32768 h

fits-neg : (n : ℕ) → n < 32768 → is_coefficient (negsuc n) ≡ true
fits-neg n h = ap (λ b. b && true) (lt-ltb n 32768 h)

pub fits-sixteen : (z : ℤ) → IsCoefficient z → FitsSigned w16 z
fits-sixteen (pos n) h = record { sfits = omega (arith, ints, h.most) }
fits-sixteen (negsuc n) h = record { sfits = omega (arith, ints, h.least) }

pub wrapped-small : (z : ℤ) → IsCoefficient z → (wrapped z ≡ z) × (is_coefficient z ≡ true)
wrapped-small (pos n) h = (int_wrap_fits w16 (pos n) (fits-sixteen (pos n) h), fits-pos n (omega (arith, ints, h.most)))
wrapped-small (negsuc n) h = (int_wrap_fits w16 (negsuc n) (fits-sixteen (negsuc n) h), fits-neg n (omega (arith, ints, h.least)))

sixteen-within : (z : ℤ) → FitsSigned w16 z → IsCoefficient z
sixteen-within (pos n) h = record { least = omega (arith, ints); most = omega (arith, ints, h.sfits) }
sixteen-within (negsuc n) h = record { least = omega (arith, ints, h.sfits); most = omega (arith, ints) }

pub wrapped-within : (z : ℤ) → IsCoefficient (wrapped z)
wrapped-within z = sixteen-within (int_wrap w16 z) (SFits-int_wrap w16 z)

pub and-true : (b : Bool) → (b && true) ≡ b
and-true true = refl
and-true false = refl

pub passed-over : (d : ℕ) (pass : Pass) (place : ℕ) (now : List ℤ) (fits : Bool) (readers : Readers) → ((k : ℕ) → k < 4096 → IsCoefficient (at now k)) → place + d ≤ 4096
    → ((k : ℕ) → place ≤ k → k < place + d → pass.falls k ≡ 0) → Upgraded pass place now fits readers → Upgraded pass (place + d) now fits readers
passed-over zero pass place now fits readers small end none u = subst (λ n. Upgraded pass n now fits readers) {x = place} {y = place + 0} (omega arith) u
passed-over (suc d) pass place now fits readers small end none u =
    let was : at now place ≡ at pass.sums place = u.due place (omega arith) in
    let here : IsCoefficient (at pass.sums place) = subst IsCoefficient was (small place (omega arith)) in
    let cuts = wrapped-small (at pass.sums place) here in
    let same : at pass.sums place +ℤ coefficient_of (pos 0) (pass.positions place) ≡ at pass.sums place = stays (at pass.sums place) (pass.positions place) in
    let next : Upgraded pass (place + 1) now (fits && true) readers =
    advances pass place now now fits true readers readers (pos 0) u
    (subst (λ w. ReadsEntry w (pass.falls place) (pos 0) readers readers) (ap (λ m. way m (pass.low place) (at pass.sums place)) (sym (none place (omega arith) (omega arith)))) (nothing-read (pass.falls place) readers))
    (was ∙ sym cuts.0 ∙ ap wrapped (sym same)) (λ k apart. refl) refl (sym cuts.1 ∙ ap is_coefficient (sym same)) in
    subst (λ n. Upgraded pass n now fits readers) {x = place + 1 + d} {y = place + suc d} (omega arith)
    (passed-over d pass (place + 1) now fits readers small (omega arith) (λ k a b. none k (omega arith) (omega arith))
    (subst (λ b. Upgraded pass (place + 1) now b readers) (and-true fits) next))

pub and-more : (a b c : Bool) → ((a && b) && c) ≡ (a && (b && c))
and-more true b c = refl
and-more false b c = refl
