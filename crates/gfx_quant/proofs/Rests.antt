-- A row of pixels in 16 bits.
use Rattle.std.proofs.Common.{◌≡◌, ◌≢◌, ℕ, ℤ, pos, negsuc, ◌+◌, ◌-◌, ◌*◌, ◌/◌, ◌%◌, ◌^◌, ◌<◌, ◌≤◌, ◌+ℤ◌, ◌-ℤ◌, ◌*ℤ◌, ◌<ℤ◌, ◌≤ℤ◌, List, length, Some, get_or, set, arith, refl, ap, subst, ◌∙◌, FitsSigned, to_z, of_z, w16, below_more, inl, inr}
use Rattle.std.proofs.lemmas.Int.{ints, to_z-of_z}
use Rattle.std.proofs.lemmas.Bool.{cases_lt}
use Rattle.std.proofs.lemmas.Grind.{common_steps}
use Rattle.std.proofs.lemmas.Option.{get_or_from_slice_get, gets}
use Rattle.std.specs.Int.{int_shr}
use Rattle.std.specs.Prelude.{slice_get}
use Rattle.gfx_base.specs.declared.pixel.Pixel.{Pixel}
use Rattle.gfx_dwt.specs.Ranges.{Within}
use Rattle.gfx_quant.specs.Colour.{channel, clamped, colour_of, lifted}
use Rattle.gfx_quant.proofs.Floors.{Floor, floor_65536, quick_channel_is}
use Rattle.gfx_quant.proofs.Steps.{slice_get-set_same, slice_get-set_other}

-- an opaque pixel by its channels
abbrev pub pixel_by : ℕ → ℕ → ℕ → Pixel
pixel_by b g r = record { b = b; g = g; r = r; a = 255 }

whole_of : (z : ℤ) → Within (2 ^ 29) z → Within (2 ^ 13) (int_shr z 16)
whole_of (pos n) h = record { low = omega (arith, ints); high = omega (arith, ints) }
whole_of (negsuc n) h = record { low = omega (arith, ints); high = omega (arith, ints) }

-- how large a rest is behind its shift
pub whole_within : (whole rest : ℤ) → whole ≡ int_shr rest 16 → Within (2 ^ 29) rest → Within (2 ^ 13) whole
whole_within whole rest e h = rw e (whole_of rest h)

small_whole_of : (z : ℤ) → Within (2 ^ 27) z → Within (2 ^ 11) (int_shr z 16)
small_whole_of (pos n) h = record { low = omega (arith, ints); high = omega (arith, ints) }
small_whole_of (negsuc n) h = record { low = omega (arith, ints); high = omega (arith, ints) }

pub small_whole_within : (whole rest : ℤ) → whole ≡ int_shr rest 16 → Within (2 ^ 27) rest → Within (2 ^ 11) whole
small_whole_within whole rest e h = rw e (small_whole_of rest h)

one_floor_65536 : (z p q : ℤ) → Floor 65536 z p → Floor 65536 z q → p ≡ q
one_floor_65536 z p q f g = omega (arith, ints)

-- multiples of 65,536 may be added behind the shift
carried : (rest more whole part sum : ℤ) → part ≡ int_shr rest 16 → whole ≡ rest +ℤ pos 65536 *ℤ more → sum ≡ part +ℤ more → sum ≡ int_shr whole 16
carried rest more whole part sum e f g =
    let cut : Floor 65536 rest part = rw e (floor_65536 rest) in
    one_floor_65536 whole sum (int_shr whole 16) (record { low = omega (arith, ints); high = omega (arith, ints) }) (floor_65536 whole)

-- a channel, from the rest of what is added to it and the whole multiples, whose sum is carried to more bits
pub channel_is : (y added rest more part total wide : ℤ) (byte : ℕ) → part ≡ int_shr rest 16 → added ≡ rest +ℤ pos 65536 *ℤ more → total ≡ y +ℤ pos 4096 +ℤ (part +ℤ more) → wide ≡ total → byte ≡ clamped (int_shr wide 5) → byte ≡ channel y added
channel_is y added rest more part total wide byte e f g h i =
    quick_channel_is y added (part +ℤ more) (int_shr wide 5) byte (carried rest more added part (part +ℤ more) e f refl) (ap (λ (z : ℤ). int_shr z 5) (h ∙ g)) i

pub blue_is : (y cb rest part total wide : ℤ) (byte : ℕ) → rest ≡ negsuc 15079 *ℤ cb → part ≡ int_shr rest 16 → total ≡ y +ℤ pos 4096 +ℤ (cb +ℤ cb +ℤ part) → wide ≡ total → byte ≡ clamped (int_shr wide 5) → byte ≡ channel y (pos 115992 *ℤ cb)
blue_is y cb rest part total wide byte d e g h i =
    channel_is y (pos 115992 *ℤ cb) rest (cb +ℤ cb) part total wide byte e (omega (arith, ints)) (omega (arith, ints)) h i

pub green_is : (y cb cr rest part total wide : ℤ) (byte : ℕ) → rest ≡ negsuc 22526 *ℤ cb +ℤ pos 18717 *ℤ cr → part ≡ int_shr rest 16 → total ≡ y +ℤ pos 4096 +ℤ (part -ℤ cr) → wide ≡ total → byte ≡ clamped (int_shr wide 5) → byte ≡ channel y (negsuc 22526 *ℤ cb +ℤ negsuc 46818 *ℤ cr)
green_is y cb cr rest part total wide byte d e g h i =
    channel_is y _ rest (pos 0 -ℤ cr) part total wide byte e (omega (arith, ints)) (omega (arith, ints)) h i

pub red_is : (y cr rest part total wide : ℤ) (byte : ℕ) → rest ≡ pos 26380 *ℤ cr → part ≡ int_shr rest 16 → total ≡ y +ℤ pos 4096 +ℤ (cr +ℤ part) → wide ≡ total → byte ≡ clamped (int_shr wide 5) → byte ≡ channel y (pos 91916 *ℤ cr)
red_is y cr rest part total wide byte d e g h i =
    channel_is y _ rest cr part total wide byte e (omega (arith, ints)) (omega (arith, ints)) h i

short_bits : (z : ℤ) → Within 8191 z → to_z w16 (of_z w16 z) ≡ z
short_bits (pos n) h = to_z-of_z w16 (pos n) (record { sfits = omega (arith, ints) })
short_bits (negsuc n) h = to_z-of_z w16 (negsuc n) (record { sfits = omega (arith, ints) })

pub low_read : (y cb cr : ℤ) → Within 8191 y → Within 8191 cb → Within 8191 cr
    → channel (to_z w16 (of_z w16 y)) (pos 115992 *ℤ to_z w16 (of_z w16 cb)) + 256 * channel (to_z w16 (of_z w16 y)) (negsuc 22526 *ℤ to_z w16 (of_z w16 cb) +ℤ negsuc 46818 *ℤ to_z w16 (of_z w16 cr))
    ≡ channel y (pos 115992 *ℤ cb) + 256 * channel y (negsuc 22526 *ℤ cb +ℤ negsuc 46818 *ℤ cr)
low_read y cb cr p q r = rw (short_bits y p, short_bits cb q, short_bits cr r) refl

pub high_read : (y cr : ℤ) → Within 8191 y → Within 8191 cr → channel (to_z w16 (of_z w16 y)) (pos 91916 *ℤ to_z w16 (of_z w16 cr)) ≡ channel y (pos 91916 *ℤ cr)
high_read y cr p r = rw (short_bits y p, short_bits cr r) refl

clamped_small : (z : ℤ) → clamped z < 256
clamped_small (pos n) = omega arith
clamped_small (negsuc n) = omega arith

pub channel_small : (y added : ℤ) → channel y added < 256
unfolding channel
channel_small y added = clamped_small (int_shr (lifted y +ℤ added) 21)

number_set_same : (xs : List ℕ) (i : ℕ) (x : ℕ) → i < length xs → slice_get (set xs i x) i ≡ Some x
number_set_same xs i x h = grind (arith, common_steps, gets)

number_set_other : (xs : List ℕ) (i k : ℕ) (x : ℕ) → k ≢ i → slice_get (set xs i x) k ≡ slice_get xs k
number_set_other xs i k x h = grind (arith, common_steps, gets)

-- one more number of a list is as f says
pub numbered : (f : ℕ → ℕ) (xs : List ℕ) (i x : ℕ) → i < length xs → x ≡ f i → ((k : ℕ) → k < i → slice_get xs k ≡ Some (f k)) → (k : ℕ) → k < i + 1 → slice_get (set xs i x) k ≡ Some (f k)
numbered f xs i x inside here before = below_more (λ k. slice_get (set xs i x) k ≡ Some (f k)) i
    (λ k h. let apart : k ≢ i = omega arith in number_set_other xs i k x apart ∙ before k h)
    (number_set_same xs i x inside ∙ ap (λ (n : ℕ). Some n) here)

-- one more pixel of a row
pub row_painted : (f : ℕ → Pixel) (from : ℕ) (xs : List Pixel) (i : ℕ) (x : Pixel) → from + i < length xs → x ≡ f i → ((k : ℕ) → k < i → slice_get xs (from + k) ≡ Some (f k)) → (k : ℕ) → k < i + 1 → slice_get (set xs (from + i) x) (from + k) ≡ Some (f k)
row_painted f from xs i x inside here before = below_more (λ k. slice_get (set xs (from + i) x) (from + k) ≡ Some (f k)) i
    (λ k h. let apart : from + k ≢ from + i = omega arith in slice_get-set_other xs (from + i) (from + k) x apart ∙ before k h)
    (slice_get-set_same xs (from + i) x inside ∙ ap (λ (p : Pixel). Some p) here)

pub before_row : (from : ℕ) (old xs : List Pixel) (i : ℕ) (x : Pixel) → ((k : ℕ) → k < from → slice_get xs k ≡ slice_get old k) → (k : ℕ) → k < from → slice_get (set xs (from + i) x) k ≡ slice_get old k
before_row from old xs i x before k h = let apart : k ≢ from + i = omega arith in slice_get-set_other xs (from + i) k x apart ∙ before k h

-- what two halves are joined to
joined_is : (low high b g r : ℕ) → b < 256 → r < 256 → low ≡ b + 256 * g → high ≡ r → pixel_by (low % 256) (low / 256) (high % 256) ≡ pixel_by b g r
joined_is low high b g r h i e f =
    let one : low % 256 ≡ b = omega arith in
    let two : low / 256 ≡ g = omega arith in
    let three : high % 256 ≡ r = omega arith in
    rw (one, two, three) refl

pub row_joined : (low high : List ℕ) (from : ℕ) (xs : List Pixel) (i : ℕ) → from + i < length xs
    → ((k b g r : ℕ) → k < i → b < 256 → r < 256 → slice_get low k ≡ Some (b + 256 * g) → slice_get high k ≡ Some r → slice_get xs (from + k) ≡ Some (pixel_by b g r))
    → (k b g r : ℕ) → k < i + 1 → b < 256 → r < 256 → slice_get low k ≡ Some (b + 256 * g) → slice_get high k ≡ Some r
    → slice_get (set xs (from + i) (pixel_by (get_or low i 0 % 256) (get_or low i 0 / 256) (get_or high i 0 % 256))) (from + k) ≡ Some (pixel_by b g r)
row_joined low high from xs i inside before k b g r h small small' e f =
    below_more (λ k. slice_get low k ≡ Some (b + 256 * g) → slice_get high k ≡ Some r → slice_get (set xs (from + i) x) (from + k) ≡ Some (pixel_by b g r)) i
    (λ k h e f. let apart : from + k ≢ from + i = omega arith in slice_get-set_other xs (from + i) (from + k) x apart ∙ before k b g r h small small' e f)
    (λ e f. slice_get-set_same xs (from + i) x inside ∙ ap (λ (p : Pixel). Some p) (joined_is (get_or low i 0) (get_or high i 0) b g r small small' (get_or_from_slice_get low i (b + 256 * g) 0 e) (get_or_from_slice_get high i r 0 f)))
    k h e f
  where
    x : Pixel
    x = pixel_by (get_or low i 0 % 256) (get_or low i 0 / 256) (get_or high i 0 % 256)

-- one more row of a tile
pub more_rows : (f : ℕ → Pixel) (n : ℕ) (old new : List Pixel) → ((k : ℕ) → k < 64 → slice_get new (64 * n + k) ≡ Some (f (64 * n + k))) → ((k : ℕ) → k < 64 * n → slice_get new k ≡ slice_get old k) → ((k : ℕ) → k < 64 * n → slice_get old k ≡ Some (f k)) → (k : ℕ) → k < 64 * (n + 1) → slice_get new k ≡ Some (f k)
more_rows f n old new row before done k h = elim (cases_lt k (64 * n)) [
  | inl above ↦ before k above ∙ done k above
  | inr inside ↦
      let here : 64 * n + (k - 64 * n) ≡ k = omega arith in
      subst (λ (j : ℕ). slice_get new j ≡ Some (f j)) here (row (k - 64 * n) (omega arith))
]

pub low_is : (y cb cr : ℤ) (b g low : ℕ) → Within 8191 y → Within 8191 cb → Within 8191 cr
    → b ≡ channel (to_z w16 (of_z w16 y)) (pos 115992 *ℤ to_z w16 (of_z w16 cb))
    → g ≡ channel (to_z w16 (of_z w16 y)) (negsuc 22526 *ℤ to_z w16 (of_z w16 cb) +ℤ negsuc 46818 *ℤ to_z w16 (of_z w16 cr))
    → low ≡ b + 256 * g → low ≡ channel y (pos 115992 *ℤ cb) + 256 * channel y (negsuc 22526 *ℤ cb +ℤ negsuc 46818 *ℤ cr)
low_is y cb cr b g low p q r d e f = f ∙ rw (d, e) (low_read y cb cr p q r)

-- a channel where nothing is added
grey_is : (y total wide : ℤ) (byte : ℕ) → total ≡ y +ℤ pos 4096 → wide ≡ total → byte ≡ clamped (int_shr wide 5) → byte ≡ channel y (pos 0)
grey_is y total wide byte e f g =
    let more : total ≡ y +ℤ pos 4096 +ℤ (pos 0 +ℤ pos 0) = omega (arith, ints, e) in
    channel_is y _ (pos 0) (pos 0) (pos 0) total wide byte refl refl more f g

white : (n : ℕ) → 4095 ≤ n → 255 ≡ clamped (int_shr (pos n +ℤ pos 4096) 5)
white n h = omega arith

-- the same, where what is white anyway is cut first
pub capped_grey_is : (y total wide : ℤ) (byte : ℕ) → (y <ℤ pos 4095 → total ≡ y +ℤ pos 4096) → (pos 4095 ≤ℤ y → total ≡ pos 8191) → wide ≡ total → byte ≡ clamped (int_shr wide 5) → byte ≡ channel y (pos 0)
capped_grey_is (pos n) total wide byte low high f g = elim (cases_lt n 4095) [
  | inl h ↦ grey_is (pos n) total wide byte (low (omega (arith, ints))) f g
  | inr h ↦
      let cut : wide ≡ pos 8191 = f ∙ high (omega (arith, ints)) in
      grey_is (pos n) (pos n +ℤ pos 4096) (pos n +ℤ pos 4096) byte refl refl (g ∙ ap (λ (z : ℤ). clamped (int_shr z 5)) cut ∙ white n h)
]
capped_grey_is (negsuc n) total wide byte low high f g = grey_is (negsuc n) total wide byte (low (omega (arith, ints))) f g

-- samples of 16 bits are read from a plane as they stand there
pub colour_read_narrow : (y cb cr : ℤ) → FitsSigned w16 y → FitsSigned w16 cb → FitsSigned w16 cr → colour_of (to_z w16 (of_z w16 y)) (to_z w16 (of_z w16 cb)) (to_z w16 (of_z w16 cr)) ≡ colour_of y cb cr
colour_read_narrow y cb cr p q r = rw (to_z-of_z w16 y p, to_z-of_z w16 cb q, to_z-of_z w16 cr r) refl

-- one more pixel of a tile
pub tile_painted : (f : ℕ → Pixel) (xs : List Pixel) (i : ℕ) (x : Pixel) → i < length xs → x ≡ f i → ((k : ℕ) → k < i → slice_get xs k ≡ Some (f k)) → (k : ℕ) → k < i + 1 → slice_get (set xs i x) k ≡ Some (f k)
tile_painted f xs i x inside here before = below_more (λ k. slice_get (set xs i x) k ≡ Some (f k)) i
    (λ k h. let apart : k ≢ i = omega arith in slice_get-set_other xs i k x apart ∙ before k h)
    (slice_get-set_same xs i x inside ∙ ap (λ (p : Pixel). Some p) here)
