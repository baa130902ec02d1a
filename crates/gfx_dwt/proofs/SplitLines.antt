-- The halves of a line, away from its end and at it.
use Rattle.std.proofs.Common.{◌≡◌, ℕ, ◌+◌, ◌-◌, ◌*◌, ◌<◌, min, ℤ, pos, arith, refl, ◌∙◌}
use Rattle.std.proofs.lemmas.Bool.Decides.{nat_tests}
use Rattle.gfx_dwt.specs.declared.layout.Transform.{Transform}
use Rattle.gfx_dwt.specs.declared.layout.Transform.TheVariants.{Plain, Reduced}
use Rattle.gfx_dwt.specs.declared.layout.Scale.{Scale}
use Rattle.gfx_dwt.specs.declared.layout.Scale.TheVariants.{First, Second, Third}
use Rattle.gfx_dwt.specs.Place.{low_size, high_size, line_size}
use Rattle.gfx_dwt.specs.Joining.{behind, edged}
use Rattle.gfx_dwt.specs.Lifting.{high_of, low_of}
use Rattle.gfx_dwt.specs.Splitting.{beyond, evens, differed, high_half, low_half}
use Rattle.gfx_dwt.proofs.Edges.{high_some, high_le_low, plain_same, edged_inside, edged_behind, behind_one_more}

pub evens_inside : (t : Transform) (l : Scale) (line : ℕ → ℤ) (n : ℕ) → 2 * n < line_size t l → evens t l line n ≡ line (2 * n)
unfolding evens
evens_inside Plain First line n h = refl
evens_inside Plain Second line n h = refl
evens_inside Plain Third line n h = refl
evens_inside Reduced First line n h = let k : n < 32 = omega (arith, h) in grind (arith, nat_tests)
evens_inside Reduced Second line n h = refl
evens_inside Reduced Third line n h = refl

pub high_inside : (t : Transform) (l : Scale) (line : ℕ → ℤ) (n : ℕ) → 2 * n + 2 < line_size t l → high_half t l line n ≡ differed t line n
unfolding high_half differed
high_inside t l line n h =
    let le = high_le_low t l in
    let m : min (n + 1) (low_size t l - 1) ≡ n + 1 = omega arith in
    let i : 2 * (n + 1) ≡ 2 * n + 2 = omega arith in
    rw (m, evens_inside t l line n (omega arith), evens_inside t l line (n + 1) (omega arith), i)

between_inside : (t : Transform) (l : Scale) (n : ℕ) → 2 * n + 2 < line_size t l → n < high_size t l
between_inside Plain First n h = omega (arith, h)
between_inside Plain Second n h = omega (arith, h)
between_inside Plain Third n h = omega (arith, h)
between_inside Reduced First n h = omega (arith, h)
between_inside Reduced Second n h = omega (arith, h)
between_inside Reduced Third n h = omega (arith, h)

-- away from the end of the high half
pub low_inside : (t : Transform) (l : Scale) (line : ℕ → ℤ) (n : ℕ) → n < high_size t l → low_half t l line n ≡ low_of t (evens t l line n) (high_half t l line (n - 1)) (high_half t l line n)
unfolding low_half
low_inside t l line n h =
    rw (edged_inside t l (high_half t l line) (n - 1) (omega arith), edged_inside t l (high_half t l line) n h)

-- where both places of the high half lie between even samples of the line
pub low_between : (t : Transform) (l : Scale) (line : ℕ → ℤ) (n : ℕ) → 2 * n + 2 < line_size t l → low_half t l line n ≡ low_of t (line (2 * n)) (differed t line (n - 1)) (differed t line n)
low_between t l line n h =
    let le = high_le_low t l in
    let inside : n < high_size t l = between_inside t l n h in
    low_inside t l line n inside ∙ rw (evens_inside t l line n (omega arith), high_inside t l line (n - 1) (omega arith), high_inside t l line n h) refl

-- the last place of the high half of the plain transform
pub high_last_plain : (l : Scale) (line : ℕ → ℤ) → high_half Plain l line (high_size Plain l - 1) ≡ high_of Plain (line (2 * (high_size Plain l - 1) + 1)) (line (2 * (high_size Plain l - 1))) (line (2 * (high_size Plain l - 1)))
unfolding high_half
high_last_plain l line =
    let some = high_some Plain l in
    let same = plain_same l in
    let m : min (high_size Plain l - 1 + 1) (low_size Plain l - 1) ≡ high_size Plain l - 1 = omega arith in
    rw (m, evens_inside Plain l line (high_size Plain l - 1) (omega arith))

pub low_last_plain : (l : Scale) (line : ℕ → ℤ) → low_half Plain l line (high_size Plain l - 1) ≡ low_of Plain (line (2 * (high_size Plain l - 1))) (differed Plain line (high_size Plain l - 1 - 1)) (high_half Plain l line (high_size Plain l - 1))
low_last_plain l line =
    let some = high_some Plain l in
    let same = plain_same l in
    low_inside Plain l line (high_size Plain l - 1) (omega arith) ∙ rw (evens_inside Plain l line (high_size Plain l - 1) (omega arith), high_inside Plain l line (high_size Plain l - 1 - 1) (omega arith)) refl

-- the place of the low half behind the last one of the high half
pub low_behind : (t : Transform) (l : Scale) (line : ℕ → ℤ) → low_half t l line (high_size t l) ≡ low_of t (evens t l line (high_size t l)) (high_half t l line (high_size t l - 1)) (behind t l (high_half t l line (high_size t l - 1)))
unfolding low_half
low_behind t l line =
    let some = high_some t l in
    rw (edged_inside t l (high_half t l line) (high_size t l - 1) (omega arith), edged_behind t l (high_half t l line) (high_size t l) (omega arith))

pub low_later : (l : Scale) (line : ℕ → ℤ) → low_size Reduced l ≡ high_size Reduced l + 1 → low_half Reduced l line (high_size Reduced l) ≡ low_of Reduced (line (2 * high_size Reduced l)) (differed Reduced line (high_size Reduced l - 1)) (differed Reduced line (high_size Reduced l - 1))
low_later l line e =
    let some = high_some Reduced l in
    low_behind Reduced l line
    ∙ rw (behind_one_more l (high_half Reduced l line (high_size Reduced l - 1)) e, evens_inside Reduced l line (high_size Reduced l) (omega arith), high_inside Reduced l line (high_size Reduced l - 1) (omega arith)) refl

pub low_first_31 : (line : ℕ → ℤ) → low_half Reduced First line 31 ≡ low_of Reduced (line 62) (differed Reduced line 30) (pos 0)
unfolding behind
low_first_31 line = low_behind Reduced First line ∙ rw (evens_inside Reduced First line 31 (omega arith), high_inside Reduced First line 30 (omega arith)) refl

pub low_first_32 : (line : ℕ → ℤ) → low_half Reduced First line 32 ≡ low_of Reduced (beyond (line 62) (line 63)) (pos 0) (pos 0)
unfolding low_half edged behind evens
low_first_32 line = refl
