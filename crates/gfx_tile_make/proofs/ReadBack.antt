-- What a server writes for an upgrade is read as its entries, is one list of bytes, and is short.
use Rattle.std.proofs.Common.{◌≡◌, ◌∙◌, ℕ, suc, ◌+◌, ◌-◌, ◌*◌, ◌<◌, ◌≤◌, Bool, false, ℤ, List, [], ◌∷◌, ◌++◌, length, replicate, refl, sym, ap, subst, arith, length-append}
use Rattle.std.specs.Int.RustNames.{unsigned_abs}
use Rattle.std.proofs.lemmas.List.{length-replicate}
use Rattle.gfx_base.specs.Field.{IsBytes}
use Rattle.gfx_bits.specs.Bits.{IsPadded, Spelled, bits_of}
use Rattle.gfx_bits.proofs.Laws.{length-bits_of, length-digits, padded-only, spelled-front}
use Rattle.gfx_srl.specs.Code.{Pair}
use Rattle.gfx_srl.specs.Srl.{AreNarrow, Srl}
use Rattle.gfx_srl.proofs.Bound.{short-code}
use Rattle.gfx_srl.proofs.OneWriting.{one-writing, written-read}
use Rattle.gfx_dwt.specs.declared.layout.Transform.{Transform}
use Rattle.gfx_dwt.specs.declared.layout.Band.{Band}
use Rattle.gfx_dwt.specs.Ranges.{at}
use Rattle.gfx_quant.specs.Coefficient.{truncated}
use Rattle.gfx_quant.specs.Quant.{value_of}
use Rattle.gfx_tile_state.specs.Entries.{AreEntries, Coded, Counted, Down, Fits, Nothing, Pass, Up, Way, band_at, coded, is_low, pairs_from, pass_of, raw, raw_from, way, way_at}
use Rattle.gfx_tile_make.specs.Levels.{positions_at, summed_at}
use Rattle.gfx_tile_make.specs.Planes.{by_band}
use Rattle.gfx_tile_make.specs.Upgrade.{AreData, entries_of, gained}
use Rattle.gfx_tile_make.specs.Writing.{AreDue, upgrade_by}
use Rattle.gfx_tile_make.proofs.ByBand.{at-by_band, length-by_band}
use Rattle.gfx_tile_make.proofs.Gains.{gained-fits, way-weighed}
use Rattle.gfx_tile_make.proofs.Records.{position-of}

-- the bits of the data play no part in which are pairs and which raw
pairs-same : (sums : List ℤ) (falls positions : ℕ → ℕ) (low : ℕ → Bool) (srl bits srl' bits' : List Bool) (k : ℕ) (es : List ℤ)
    → pairs_from (record { sums = sums; falls = falls; positions = positions; low = low; srl = srl; bits = bits }) k es
    ≡ pairs_from (record { sums = sums; falls = falls; positions = positions; low = low; srl = srl'; bits = bits' }) k es
unfolding pairs_from
pairs-same sums falls positions low srl bits srl' bits' k [] = refl
pairs-same sums falls positions low srl bits srl' bits' k (e ∷ es) = ap (λ ps. coded (way (falls k) (low k) (at sums k)) (falls k) e ++ ps) (pairs-same sums falls positions low srl bits srl' bits' (suc k) es)

raw-same : (sums : List ℤ) (falls positions : ℕ → ℕ) (low : ℕ → Bool) (srl bits srl' bits' : List Bool) (k : ℕ) (es : List ℤ)
    → raw_from (record { sums = sums; falls = falls; positions = positions; low = low; srl = srl; bits = bits }) k es
    ≡ raw_from (record { sums = sums; falls = falls; positions = positions; low = low; srl = srl'; bits = bits' }) k es
unfolding raw_from
raw-same sums falls positions low srl bits srl' bits' k [] = refl
raw-same sums falls positions low srl bits srl' bits' k (e ∷ es) = ap (λ ps. raw (way (falls k) (low k) (at sums k)) (falls k) e ++ ps) (raw-same sums falls positions low srl bits srl' bits' (suc k) es)

-- how far a place falls
pub fall-of : (base before behind : List ℕ) (band : Band) → value_of (positions_at base before) band - value_of (positions_at base behind) band ≡ value_of before band - value_of behind band
fall-of base before behind band = omega (arith, position-of base before band, position-of base behind band)

-- the way of a place
pub way-of : (t : Transform) (base before behind : List ℕ) (values : List ℤ) (srl bits : List Bool) (k : ℕ) → k < length values
    → way_at (pass_of t (positions_at base before) (positions_at base behind) (by_band t (summed_at base before) values) srl bits) k
    ≡ way (value_of before (band_at t k) - value_of behind (band_at t k)) (is_low (band_at t k)) (truncated (band_at t k) (at values k) (value_of before (band_at t k)))
way-of t base before behind values srl bits k h =
    let band : Band = band_at t k in
    let v : ℤ = truncated band (at values k) (value_of before band) in
    ap (λ n. way n (is_low band) (at (by_band t (summed_at base before) values) k)) (fall-of base before behind band)
    ∙ ap (λ z. way (value_of before band - value_of behind band) (is_low band) z) (at-by_band t (summed_at base before) values k h)
    ∙ way-weighed (value_of before band - value_of behind band) (is_low band) v (value_of base band + value_of before band)

pub data-read : (t : Transform) (base before behind : List ℕ) (values : List ℤ) (srl raw : List ℕ) → length values ≡ 4096 → ((band : Band) → value_of behind band ≤ value_of before band)
    → AreData (upgrade_by t base before behind values) (entries_of t before behind values) srl raw
    → AreEntries (pass_of t (positions_at base before) (positions_at base behind) (by_band t (summed_at base before) values) (bits_of srl) (bits_of raw)) (entries_of t before behind values)
data-read t base before behind values srl raw long falls written = record {
  all = length-by_band t (λ band v. gained band v (value_of before band) (value_of behind band)) values ∙ long;
  pairs = subst (λ ps. Srl (bits_of srl) ps) (pairs-same _ _ _ _ [] [] (bits_of srl) (bits_of raw) 0 (entries_of t before behind values)) (written-read _ srl written.coded_are);
  numbers = (
    replicate written.raw_are.0 false,
    subst (λ b. Spelled b (raw_from (pass_of t (positions_at base before) (positions_at base behind) (by_band t (summed_at base before) values) (bits_of srl) (bits_of raw)) 0 (entries_of t before behind values)) (replicate written.raw_are.0 false))
        (ap (λ l. l ++ replicate written.raw_are.0 false) (raw-same _ _ _ _ (bits_of srl) (bits_of raw) [] [] 0 (entries_of t before behind values)) ∙ sym written.raw_are.2)
        (spelled-front (raw_from (pass_of t (positions_at base before) (positions_at base behind) (by_band t (summed_at base before) values) (bits_of srl) (bits_of raw)) 0 (entries_of t before behind values)) (replicate written.raw_are.0 false)),
  );
  fit = λ k h.
      let band : Band = band_at t k in
      subst (λ w. Fits w (value_of (positions_at base before) band - value_of (positions_at base behind) band) (at (entries_of t before behind values) k)) (sym (way-of t base before behind values (bits_of srl) (bits_of raw) k (omega arith)))
      (subst (λ n. Fits (way (value_of before band - value_of behind band) (is_low band) (truncated band (at values k) (value_of before band))) n (at (entries_of t before behind values) k)) (sym (fall-of base before behind band))
      (subst (Fits (way (value_of before band - value_of behind band) (is_low band) (truncated band (at values k) (value_of before band))) (value_of before band - value_of behind band))
      (sym (at-by_band t (λ band v. gained band v (value_of before band) (value_of behind band)) values k (omega arith)))
      (gained-fits band (at values k) (value_of before band) (value_of behind band) (falls band))));
}

-- one list of bytes each
pub one-data : (pass : Pass) (entries : List ℤ) (srl other raw more : List ℕ) → IsBytes srl → IsBytes other → IsBytes raw → IsBytes more → AreData pass entries srl raw → AreData pass entries other more → (srl ≡ other) × (raw ≡ more)
one-data pass entries srl other raw more p q r s one two =
    (one-writing (pairs_from pass 0 entries) srl other p q one.coded_are two.coded_are, padded-only (raw_from pass 0 entries) raw more r s one.raw_are two.raw_are)

-- ---- how long the data are

-- what a place takes at most
place-narrow : (w : Way) (n : ℕ) (e : ℤ) → n ≤ 6 → AreNarrow (coded w n e)
place-narrow Nothing n e h = tt
place-narrow Counted n e h = tt
place-narrow Up n e h = tt
place-narrow Down n e h = tt
place-narrow Coded n e h = (h, tt)

place-short : (w : Way) (n : ℕ) (e : ℤ) → n ≤ 6 → 74 * length (coded w n e) + length (raw w n e) ≤ 74
place-short Nothing n e h = omega arith
place-short Counted n e h = omega (arith, length-digits n (unsigned_abs e))
place-short Up n e h = omega (arith, length-digits n (unsigned_abs e))
place-short Down n e h = omega (arith, length-digits n (unsigned_abs e))
place-short Coded n e h = omega arith

narrow-join : (ps qs : List Pair) → AreNarrow ps → AreNarrow qs → AreNarrow (ps ++ qs)
narrow-join [] qs f g = g
narrow-join (p ∷ ps) qs f g = (f.0, narrow-join ps qs f.1 g)

pub pairs-narrow : (pass : Pass) (k : ℕ) (es : List ℤ) → ((j : ℕ) → pass.falls j ≤ 6) → AreNarrow (pairs_from pass k es)
unfolding pairs_from
pairs-narrow pass k [] few = tt
pairs-narrow pass k (e ∷ es) few = narrow-join _ _ (place-narrow (way_at pass k) (pass.falls k) e (few k)) (pairs-narrow pass (suc k) es few)

both-short : (pass : Pass) (k : ℕ) (es : List ℤ) → ((j : ℕ) → pass.falls j ≤ 6) → 74 * length (pairs_from pass k es) + length (raw_from pass k es) ≤ 74 * length es
unfolding pairs_from raw_from
both-short pass k [] few = omega arith
both-short pass k (e ∷ es) few =
    omega (
      arith,
      place-short (way_at pass k) (pass.falls k) e (few k),
      both-short pass (suc k) es few,
      length-append (coded (way_at pass k) (pass.falls k) e) (pairs_from pass (suc k) es),
      length-append (raw (way_at pass k) (pass.falls k) e) (raw_from pass (suc k) es),
    )

padded-length : (bits : List Bool) (bytes : List ℕ) → IsPadded bits bytes → 8 * length bytes ≤ length bits + 7
padded-length bits bytes p = omega (arith, length-bits_of bytes, ap length p.2, length-append bits (replicate p.0 false), length-replicate p.0 false, p.1)

pub data-short : (pass : Pass) (entries : List ℤ) (srl raw : List ℕ) → length entries ≡ 4096 → ((j : ℕ) → pass.falls j ≤ 6) → AreData pass entries srl raw → length srl + length raw ≤ 65535
data-short pass entries srl raw long few written =
    omega (
      arith,
      short-code (pairs_from pass 0 entries) srl written.coded_are (pairs-narrow pass 0 entries few),
      padded-length (raw_from pass 0 entries) raw written.raw_are,
      both-short pass 0 entries few,
    )

-- ---- the places of a band are due

pub band-due : (t : Transform) (base before behind : List ℕ) (values : List ℤ) (band : Band) (i from to m n : ℕ) → length values ≡ 4096 → to ≤ 4096 → ((k : ℕ) → from ≤ k → k < to → band_at t k ≡ band) → m ≡ value_of before band → n ≡ value_of behind band
    → AreDue (upgrade_by t base before behind values) (entries_of t before behind values) values band m n from to
band-due t base before behind values band i from to m n long end alike em en = record {
  all = length-by_band t (λ band v. gained band v (value_of before band) (value_of behind band)) values ∙ long;
  falls = λ k a b. fall-of base before behind (band_at t k) ∙ ap (λ c. value_of before c - value_of behind c) (alike k a b) ∙ ap (λ x. x - value_of behind band) (sym em) ∙ ap (λ x. m - x) (sym en);
  ways = λ k a b.
      way-of t base before behind values [] [] k (omega arith)
      ∙ ap (λ c. way (value_of before c - value_of behind c) (is_low c) (truncated c (at values k) (value_of before c))) (alike k a b)
      ∙ ap (λ x. way (x - value_of behind band) (is_low band) (truncated band (at values k) x)) (sym em)
      ∙ ap (λ x. way (m - x) (is_low band) (truncated band (at values k) m)) (sym en);
  gains = λ k a b.
      at-by_band t (λ band v. gained band v (value_of before band) (value_of behind band)) values k (omega arith)
      ∙ ap (λ c. gained c (at values k) (value_of before c) (value_of behind c)) (alike k a b)
      ∙ ap (λ x. gained band (at values k) x (value_of behind band)) (sym em)
      ∙ ap (λ x. gained band (at values k) m x) (sym en);
}

pub pass-short : (t : Transform) (base before behind : List ℕ) (values : List ℤ) (srl raw : List ℕ) → length values ≡ 4096 → ((band : Band) → value_of before band - value_of behind band ≤ 6)
    → AreData (upgrade_by t base before behind values) (entries_of t before behind values) srl raw → length srl + length raw ≤ 65535
pass-short t base before behind values srl raw long few written =
    data-short (upgrade_by t base before behind values) (entries_of t before behind values) srl raw (length-by_band t (λ band v. gained band v (value_of before band) (value_of behind band)) values ∙ long)
    (λ j. subst (λ n. n ≤ 6) (sym (fall-of base before behind (band_at t j))) (few (band_at t j))) written
