-- How many binary digits a number has, as the machine counts them.
use Rattle.std.proofs.Common.{◌≡◌, ℕ, zero, suc, ◌+◌, ◌-◌, ◌*◌, ◌/◌, ◌^◌, ◌<◌, ◌≤◌, arith}
use Rattle.std.specs.Int.Count.{count_leading_zeros, leading_unique}
use Rattle.gfx_rlgr.specs.Code.{bit_length_within, bit_length}
use Rattle.gfx_rlgr.proofs.Pairs.{below-length, short-length}

-- twice as much takes a digit more
doubled-high : (x q n : ℕ) → 2 ^ x ≤ 2 * q + 1 → 2 * q ≤ n → 0 < n → 2 ^ suc x ≤ 2 * n + 1
doubled-high zero q n h below some = omega arith
doubled-high (suc x) q n h below some =
    let even : 2 ^ suc x ≡ 2 * 2 ^ x = omega arith in
    let all : 2 ^ suc (suc x) ≡ 2 * 2 ^ suc x = omega arith in
    omega (arith, h, even, all)

digits-high : (most n : ℕ) → n ≤ most → 2 ^ bit_length_within most n ≤ 2 * n + 1
unfolding bit_length_within
digits-high zero n h = omega arith
digits-high (suc most) zero h = omega arith
digits-high (suc most) (suc n) h =
    doubled-high (bit_length_within most (suc n / 2)) (suc n / 2) (suc n) (digits-high most (suc n / 2) (omega (arith, h))) (omega arith) (omega arith)

pub bits-counted : (w n : ℕ) → n < 2 ^ w → w - count_leading_zeros w n ≡ bit_length n
bits-counted w n small =
    let few : bit_length n ≤ w = short-length n n w small in
    let same : w - bit_length n ≡ count_leading_zeros w n =
    leading_unique w n (w - bit_length n) (bit_length n) (omega arith) (below-length n n (omega arith)) (digits-high n n (omega arith)) in
    omega arith

-- a number has room in the digits of one that is as large
pub fits-digits : (n sum : ℕ) → n ≤ sum → n < 2 ^ bit_length sum
fits-digits n sum h = omega (arith, below-length sum sum (omega arith), h)

-- the digits of a number below 2 ^ w
pub few-digits : (w n : ℕ) → n < 2 ^ w → bit_length n ≤ w
few-digits w n small = short-length n n w small
