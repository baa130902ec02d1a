-- A slice that is filled with as many elements for each item.
use Rattle.std.proofs.Common.{◌≡◌, ℕ, ◌+◌, ◌*◌, ◌<◌, ◌≤◌, List, ◌∷◌, ◌++◌, length, get_or, take, drop, sym, ap, ◌∙◌, append_assoc, arith, mul-le-mul_left, drop-cons, add-one, refl}
use Rattle.std.specs.List.{flat_map}
use Rattle.std.proofs.lemmas.Slice.{take-put_mid}
use Rattle.hex.specs.Hex.{lower_digits}
use Rattle.hex.proofs.HexLemmas.{length-encode_with}
use Rattle.gfx_base.specs.declared.pixel.Pixel.{Pixel}
use Rattle.gfx_report.specs.Texts.{pixel_digits}
use borrow.Rule.Slice.PartMut.{put_mid}

-- the next item's elements are put behind those of the items before it
pub filled_more : {X A : Type 0} (f : X → List A) (n : ℕ) (xs : List X) (old piece : List A) (i k : ℕ) (d : X)
    → ((x : X) → length (f x) ≡ n) → i < length xs → length old ≡ n * length xs → piece ≡ f (get_or xs i d)
    → take (n * i) old ++ flat_map f (drop i xs) ≡ flat_map f xs
    → take (n * (i + 1)) (put_mid (n * i) k old piece) ++ flat_map f (drop (i + 1) xs) ≡ flat_map f xs
filled_more f n xs old piece i k d each below room made so_far =
    let long : length piece ≡ n = ap length made ∙ each (get_or xs i d) in
    let within : n * i ≤ n * length xs = mul-le-mul_left n (omega arith) in
    let step : n * (i + 1) ≡ n * i + length piece = omega arith in
    let next : drop i xs ≡ get_or xs i d ∷ drop (i + 1) xs = rw (add-one, drop-cons xs i d) refl in
    rw (take-put_mid (n * i) k old piece (n * (i + 1)) step (omega arith)) (
    append_assoc (take (n * i) old) piece (flat_map f (drop (i + 1) xs))
    ∙ ap (λ w. take (n * i) old ++ (w ++ flat_map f (drop (i + 1) xs))) made
    ∙ ap (λ w. take (n * i) old ++ flat_map f w) (sym next)
    ∙ so_far)

pub length-pixel_digits : (pixel : Pixel) → length (pixel_digits pixel) ≡ 8
length-pixel_digits pixel = length-encode_with lower_digits _
