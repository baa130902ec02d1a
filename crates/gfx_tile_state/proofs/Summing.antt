-- Sums of LL3 that leave 16 bits have no coefficients.
use Rattle.std.proofs.Common.{◌≡◌, ℕ, zero, suc, ◌+◌, ◌<◌, ◌≤◌, false, ℤ, pos, negsuc, List, [], ◌∷◌, length, take, drop, refl, sym, ap, ◌∙◌, arith}
use Rattle.std.proofs.lemmas.List.{get_or-append-add, get_or_append_left, get_or-take, length-take-le, length-drop}
use Rattle.std.specs.Int.RustNames.{unsigned_abs}
use Rattle.std.proofs.lemmas.Int.{ints}
use Rattle.gfx_rlgr.specs.Bound.{greatest}
use Rattle.gfx_dwt.specs.declared.layout.Transform.{Transform}
use Rattle.gfx_dwt.specs.declared.layout.Transform.TheVariants.{Plain, Reduced}
use Rattle.gfx_dwt.specs.declared.layout.Band.TheVariants.{Ll3}
use Rattle.gfx_dwt.specs.Place.{LiesIn, size, start}
use Rattle.gfx_dwt.specs.Ranges.{Within, at}
use Rattle.gfx_quant.specs.Coefficient.{is_coefficient}
use Rattle.gfx_quant.specs.Planes.{LeavesRange}
use Rattle.gfx_quant.specs.Quant.{value_of}
use Rattle.gfx_quant.proofs.InRange.{beyond_lacks}
use Rattle.gfx_tile_state.specs.Passes.{SumsLeave, running, summed}

whole : (t : Transform) → start t Ll3 + size t Ll3 ≡ 4096
whole Plain = refl
whole Reduced = refl

-- a number of LL3, summed
summed-low : (t : Transform) (values : List ℤ) (k : ℕ) → length values ≡ 4096 → at (summed t values) (start t Ll3 + k) ≡ at (running (pos 0) (drop (start t Ll3) values)) k
summed-low t values k e =
    let before = whole t in
    let long : length (take (start t Ll3) values) ≡ start t Ll3 = length-take-le (start t Ll3) values (omega (arith, e)) in
    ap (λ n. at (summed t values) (n + k)) (sym long) ∙ get_or-append-add (take (start t Ll3) values) (running (pos 0) (drop (start t Ll3) values)) k (pos 0)

-- a number before LL3 is as it was
summed-front : (t : Transform) (values : List ℤ) (k : ℕ) → length values ≡ 4096 → k < start t Ll3 → at (summed t values) k ≡ at values k
summed-front t values k e h =
    let before = whole t in
    let long : length (take (start t Ll3) values) ≡ start t Ll3 = length-take-le (start t Ll3) values (omega (arith, e)) in
    get_or_append_left (take (start t Ll3) values) (running (pos 0) (drop (start t Ll3) values)) (pos 0) k (omega arith) ∙ get_or-take (start t Ll3) values k (pos 0) h

magnitude-within : (z : ℤ) (bound : ℕ) → unsigned_abs z ≤ bound → Within bound z
magnitude-within (pos n) bound h = record { low = omega (arith, ints); high = omega (arith, ints) }
magnitude-within (negsuc n) bound h = record { low = omega (arith, ints); high = omega (arith, ints) }

greatest-magnitude : (values : List ℤ) (k : ℕ) → unsigned_abs (at values k) ≤ greatest values
unfolding greatest
greatest-magnitude [] k = omega arith
greatest-magnitude (x ∷ values) zero = omega arith
greatest-magnitude (x ∷ values) (suc k) = let h = greatest-magnitude values k in omega (arith, h)

-- so none of them is beyond the greatest magnitude
pub front-within : (t : Transform) (values plane : List ℤ) (most : ℕ) → length values ≡ 4096 → most ≡ greatest values → plane ≡ summed t values → (k : ℕ) → k < start t Ll3 → Within most (at plane k)
front-within t values plane most e is same k h =
    rw (is, ap (λ p. at p k) same ∙ summed-front t values k e h) (magnitude-within (at values k) (greatest values) (greatest-magnitude values k))

pub leaves : (t : Transform) (positions : List ℕ) (values : List ℤ) → length values ≡ 4096 → SumsLeave t values → LeavesRange t positions (summed t values)
leaves t positions values e some =
    let k = some.0 in
    let before = whole t in
    let fewer : length (drop (start t Ll3) values) + start t Ll3 ≡ 4096 = omega (arith, e, length-drop (start t Ll3) values) in
    let lies : LiesIn t Ll3 (start t Ll3 + k) = (omega arith, omega (arith, some.1)) in
    let beyond : is_coefficient (at (summed t values) (start t Ll3 + k)) ≡ false = ap is_coefficient (summed-low t values k e) ∙ some.2 in
    (Ll3, (start t Ll3 + k, (lies, rw (beyond_lacks (value_of positions Ll3) (at (summed t values) (start t Ll3 + k)) beyond) refl)))
