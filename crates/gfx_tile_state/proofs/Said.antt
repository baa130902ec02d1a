-- The data of an upgrade always say entries.
use Rattle.std.proofs.Common.{◌≡◌, ◌∙◌, ℕ, zero, suc, ◌+◌, ◌^◌, ◌<◌, Bool, ℤ, pos, neg_ℤ, List, [], ◌∷◌, ◌++◌, length, drop, refl, sym, ap, subst, arith}
use Rattle.std.specs.Int.RustNames.{unsigned_abs}
use Rattle.gfx_bits.specs.Bits.{Spelled, digits, number}
use Rattle.gfx_bits.proofs.Laws.{number_below, spelled-join, spelled-number}
use Rattle.gfx_srl.specs.Code.{Pair}
use Rattle.gfx_srl.specs.Srl.{Srl}
use Rattle.gfx_srl.specs.Says.{pairs_of, srl}
use Rattle.gfx_srl.proofs.Says.{always-says, said-count}
use Rattle.gfx_dwt.specs.Ranges.{at}
use Rattle.gfx_tile_state.specs.Entries.{AreEntries, Coded, Counted, Down, Fits, Nothing, Pass, Up, Way, coded, pairs_from, raw, raw_from, way_at}
use Rattle.gfx_tile_state.specs.Making.{coded_width, entries_from, entries_of, entry_of, raw_width, widths_from}
use Rattle.gfx_tile_state.proofs.Making.{widths-some}

abs-neg : (n : ℕ) → unsigned_abs (neg_ℤ (pos n)) ≡ n
abs-neg zero = refl
abs-neg (suc n) = refl

-- an entry fits its place
entry-fits : (w : Way) (n : ℕ) (values : List ℤ) (bits : List Bool) → Fits w n (entry_of w n values bits)
entry-fits Nothing n values bits = refl
entry-fits Counted n values bits = (refl, number_below n bits)
entry-fits Up n values bits = (refl, number_below n bits)
entry-fits Down n values bits = (ap (λ m. neg_ℤ (pos m)) (sym (abs-neg (number n bits))), subst (λ m. m < 2 ^ n) (sym (abs-neg (number n bits))) (number_below n bits))
entry-fits Coded n values bits = tt

entries-count : (pass : Pass) (k n : ℕ) (values : List ℤ) (bits : List Bool) → length (entries_from pass k n values bits) ≡ n
unfolding entries_from
entries-count pass k zero values bits = refl
entries-count pass k (suc n) values bits = ap suc (entries-count pass (suc k) n _ _)

entries-fit : (pass : Pass) (k n : ℕ) (values : List ℤ) (bits : List Bool) (i : ℕ) → i < n → Fits (way_at pass (k + i)) (pass.falls (k + i)) (at (entries_from pass k n values bits) i)
unfolding entries_from
entries-fit pass k zero values bits i h = absurd (omega arith)
entries-fit pass k (suc n) values bits zero h =
    subst (λ j. Fits (way_at pass j) (pass.falls j) (entry_of (way_at pass k) (pass.falls k) values bits)) {x = k} {y = k + 0} (omega arith) (entry-fits (way_at pass k) (pass.falls k) values bits)
entries-fit pass k (suc n) values bits (suc i) h =
    let rest : List ℤ = entries_from pass (suc k) n (drop (length (coded_width (way_at pass k) (pass.falls k))) values) (drop (raw_width (way_at pass k) (pass.falls k)) bits) in
    subst (λ j. Fits (way_at pass j) (pass.falls j) (at rest i)) {x = suc k + i} {y = k + suc i} (omega arith) (entries-fit pass (suc k) n _ _ i (omega arith))

-- its raw bits stand at the front
raw-front : (w : Way) (n : ℕ) (values : List ℤ) (bits : List Bool) → Spelled bits (raw w n (entry_of w n values bits)) (drop (raw_width w n) bits)
raw-front Nothing n values bits = refl
raw-front Counted n values bits = spelled-number n bits
raw-front Up n values bits = spelled-number n bits
raw-front Down n values bits = subst (λ m. Spelled bits (digits n m) (drop n bits)) (sym (abs-neg (number n bits))) (spelled-number n bits)
raw-front Coded n values bits = refl

raw-all : (pass : Pass) (k n : ℕ) (values : List ℤ) (bits : List Bool) → (rest : List Bool) × Spelled bits (raw_from pass k (entries_from pass k n values bits)) rest
unfolding entries_from raw_from
raw-all pass k zero values bits = (bits, refl)
raw-all pass k (suc n) values bits =
    let behind : List ℤ = drop (length (coded_width (way_at pass k) (pass.falls k))) values in
    let left : List Bool = drop (raw_width (way_at pass k) (pass.falls k)) bits in
    let more = raw-all pass (suc k) n behind left in
    (more.0, spelled-join bits (raw (way_at pass k) (pass.falls k) (entry_of (way_at pass k) (pass.falls k) values bits)) left (raw_from pass (suc k) (entries_from pass (suc k) n behind left)) more.0 (raw-front (way_at pass k) (pass.falls k) values bits) more.1)

-- as many values as widths
behind-count : (w : Way) (n : ℕ) (widths : List ℕ) (values : List ℤ) → length values ≡ length (coded_width w n ++ widths) → length (drop (length (coded_width w n)) values) ≡ length widths
behind-count Nothing n widths values e = e
behind-count Counted n widths values e = e
behind-count Up n widths values e = e
behind-count Down n widths values e = e
behind-count Coded n widths [] e = absurd (omega arith)
behind-count Coded n widths (value ∷ values) e = omega arith

pairs-front : (w : Way) (n : ℕ) (widths : List ℕ) (values : List ℤ) (bits : List Bool) (pairs : List Pair) → length values ≡ length (coded_width w n ++ widths)
    → pairs ≡ pairs_of widths (drop (length (coded_width w n)) values) → coded w n (entry_of w n values bits) ++ pairs ≡ pairs_of (coded_width w n ++ widths) values
pairs-front Nothing n widths values bits pairs e same = same
pairs-front Counted n widths values bits pairs e same = same
pairs-front Up n widths values bits pairs e same = same
pairs-front Down n widths values bits pairs e same = same
pairs-front Coded n widths [] bits pairs e same = absurd (omega arith)
pairs-front Coded n widths (value ∷ values) bits pairs e same = ap (λ l. (record { value = value; width = n }) ∷ l) same

pairs-all : (pass : Pass) (k n : ℕ) (values : List ℤ) (bits : List Bool) → length values ≡ length (widths_from pass k n) → pairs_from pass k (entries_from pass k n values bits) ≡ pairs_of (widths_from pass k n) values
unfolding entries_from pairs_from widths_from
pairs-all pass k zero values bits e = refl
pairs-all pass k (suc n) values bits e =
    pairs-front (way_at pass k) (pass.falls k) (widths_from pass (suc k) n) values bits _ e
    (pairs-all pass (suc k) n (drop (length (coded_width (way_at pass k) (pass.falls k))) values) (drop (raw_width (way_at pass k) (pass.falls k)) bits)
    (behind-count (way_at pass k) (pass.falls k) (widths_from pass (suc k) n) values e))

said-within : (pass : Pass) (n : ℕ) → n ≡ 4096 → AreEntries pass (entries_from pass 0 n (srl pass.srl (widths_from pass 0 n)) pass.bits)
said-within pass n e =
    let values : List ℤ = srl pass.srl (widths_from pass 0 n) in
    record {
      all = entries-count pass 0 n values pass.bits ∙ e;
      pairs = subst (Srl pass.srl) (sym (pairs-all pass 0 n values pass.bits (said-count pass.srl (widths_from pass 0 n)))) (always-says pass.srl (widths_from pass 0 n) (widths-some pass 0 n));
      numbers = raw-all pass 0 n values pass.bits;
      fit = λ k h. subst (λ j. Fits (way_at pass j) (pass.falls j) (at (entries_from pass 0 n values pass.bits) k)) {x = 0 + k} {y = k} (omega arith) (entries-fit pass 0 n values pass.bits k (omega arith));
    }

pub always-entries : (pass : Pass) → AreEntries pass (entries_of pass)
unfolding entries_of
always-entries pass = said-within pass 4096 refl
