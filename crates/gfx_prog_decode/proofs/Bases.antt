-- Bases and what is left out.
use Rattle.std.proofs.Common.{◌≡◌, ◌≢◌, ◌<◌, ◌≤◌, ◌+◌, refl, nat_le, nat_lt, true, false, ◌==◌, ℕ, List, [], ◌∷◌, Some, None, Ok, Err, arith}
use Rattle.std.specs.Prelude.{slice_get, IsTrue}
use Rattle.std.proofs.lemmas.Bool.{and_from, and_parts, ne_eqb}
use Rattle.std.proofs.lemmas.Bool.Decides.{nat_tests}
use Rattle.gfx_base.specs.declared.refusal.Refusal.TheVariants.{QualityIndex}
use Rattle.gfx_base.specs.Results.{and_then}
use Rattle.gfx_prog_block.specs.declared.quants.RegionLevel.{RegionLevel}
use Rattle.gfx_prog_block.specs.declared.tile.TheConstants.{NO_QUALITY}
use Rattle.gfx_quant.specs.Quant.{are_nibbles, is_base}
use Rattle.gfx_tile_state.specs.Shape.{are_positions, is_position}
use Rattle.gfx_prog_decode.specs.Coding.{left_at, left_by, together}

-- a base and what is left out of it are a bit position together
sum_fits : (n m : ℕ) → nat_le 6 n ≡ true → nat_lt n 16 ≡ true → nat_lt m 16 ≡ true → is_position (n + m) ≡ true
sum_fits n m least small left =
    let low : 6 ≤ n = grind (arith, nat_tests) in
    let high : n < 16 = grind (arith, nat_tests) in
    let more : m < 16 = grind (arith, nat_tests) in
    let above : nat_le 6 (n + m) ≡ true = grind (arith, nat_tests) in
    let below : nat_le (n + m) 30 ≡ true = grind (arith, nat_tests) in
    and_from (nat_le 6 (n + m)) (nat_le (n + m) 30) above below

-- and so are those of each band
pub sums_fit : (base left : List ℕ) → IsTrue (is_base base) → IsTrue (are_nibbles base) → IsTrue (are_nibbles left) → IsTrue (are_positions (together base left))
unfolding together
sums_fit [] left least small more = refl
sums_fit (n ∷ ns) [] least small more = refl
sums_fit (n ∷ ns) (m ∷ ms) least small more =
    let first = and_parts _ _ least in
    let second = and_parts _ _ small in
    let third = and_parts _ _ more in
    and_from (is_position (n + m)) (are_positions (together ns ms)) (sum_fits n m first.0 second.0 third.0) (sums_fit ns ms first.1 second.1 third.1)

-- what the level of a quality leaves out
pub left-there : (levels : List RegionLevel) (quality : ℕ) (level : RegionLevel) → ◌≢◌ quality NO_QUALITY → slice_get levels quality ≡ Some level
    → left_at levels quality ≡ Ok (left_by level)
unfolding left_at and_then
left-there levels quality level apart got =
    let other : (quality == NO_QUALITY) ≡ false = ne_eqb quality NO_QUALITY apart in
    rw (other, got) refl

-- no level has this quality
pub left-past : (levels : List RegionLevel) (quality : ℕ) → ◌≢◌ quality NO_QUALITY → slice_get levels quality ≡ None
    → left_at levels quality ≡ Err QualityIndex
unfolding left_at and_then
left-past levels quality apart got =
    let other : (quality == NO_QUALITY) ≡ false = ne_eqb quality NO_QUALITY apart in
    rw (other, got) refl
