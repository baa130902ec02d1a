-- What is imported of two files that agree.
use Rattle.std.proofs.Common.{◌≡◌, ◌∙◌, ap, sym, refl, Bool, true, false, ◌&&◌, ◌||◌, not, nat_eq, ℕ, zero, suc, List, [], ◌∷◌, length, take, Some}
use Rattle.std.specs.Cmp.Lexicographic.{pointwise}
use Rattle.std.proofs.lemmas.Bool.{eqb-true, eq-eqb}
use Rattle.gfx_base.specs.declared.pixel.Pixel.{Pixel}
use Rattle.gfx_bitmap_cache.specs.Slots.{Image, Entry}
use Rattle.gfx_import.specs.Entries.{image_at}
use Rattle.gfx_import.specs.Agreed.{same_pixel, same_image, same_length, same_sides, agrees, agree, have_sides_of, have_same_sides}
use Rattle.gfx_import.specs.Chosen.{AreShared, AgreedIsOwn}
use Rattle.gfx_import.specs.Imported.{imported}
use Rattle.gfx_import.proofs.KeyLemmas.{both_true}
use Rattle.gfx_import.proofs.ChosenLemmas.{imported-chosen}

pixel-same : (p q : Pixel) → same_pixel p q ≡ true → p ≡ q
pixel-same p q e =
    let blue = both_true (nat_eq p.b q.b) (nat_eq p.g q.g && (nat_eq p.r q.r && nat_eq p.a q.a)) e in
    let green = both_true (nat_eq p.g q.g) (nat_eq p.r q.r && nat_eq p.a q.a) blue.1 in
    let red = both_true (nat_eq p.r q.r) (nat_eq p.a q.a) green.1 in
    let b : p.b ≡ q.b = eqb-true _ _ blue.0 in
    let g : p.g ≡ q.g = eqb-true _ _ green.0 in
    let r : p.r ≡ q.r = eqb-true _ _ red.0 in
    let a : p.a ≡ q.a = eqb-true _ _ red.1 in
    λ i. record { b = b i; g = g i; r = r i; a = a i }

pixels-same : (ps qs : List Pixel) → pointwise same_pixel ps qs ≡ true → ps ≡ qs
pixels-same [] [] e = refl
pixels-same [] (q ∷ qs) e = absurd cc
pixels-same (p ∷ ps) [] e = absurd cc
pixels-same (p ∷ ps) (q ∷ qs) e =
    let both = both_true (same_pixel p q) (pointwise same_pixel ps qs) e in
    let first = pixel-same p q both.0 in
    let rest = pixels-same ps qs both.1 in
    λ i. first i ∷ rest i

-- an image that is the same is equal
image-same : (one other : Image) → same_image one other ≡ true → one ≡ other
image-same one other e =
    let wide = both_true (nat_eq one.width other.width) (nat_eq one.height other.height && pointwise same_pixel one.pixels other.pixels) e in
    let high = both_true (nat_eq one.height other.height) (pointwise same_pixel one.pixels other.pixels) wide.1 in
    let width : one.width ≡ other.width = eqb-true _ _ wide.0 in
    let height : one.height ≡ other.height = eqb-true _ _ high.0 in
    let pixels = pixels-same one.pixels other.pixels high.1 in
    λ i. record { width = width i; height = height i; pixels = pixels i }

either_second : (a b : Bool) → (not a || b) ≡ true → a ≡ true → b ≡ true
either_second true b e f = e
either_second false b e f = absurd cc

own : (server client list : List Entry) → AreShared server client list → agree server client ≡ true → list ≡ take (length list) client
own server client [] shared e = refl
own server [] (held ∷ list) shared e = absurd shared
own server (one ∷ client) (held ∷ list) shared e =
    let both = both_true (agrees one.image (image_at server one.key)) (agree server client) e in
    let alike : agrees one.image (Some held.image) ≡ true = ap (agrees one.image) (sym shared.1.0) ∙ both.0 in
    let long : same_length one.image held.image ≡ true = eq-eqb _ _ (sym shared.1.1.0) in
    let image : one.image ≡ held.image = image-same one.image held.image (either_second (same_length one.image held.image) _ alike long) in
    let key : held.key ≡ one.key = shared.0 in
    let first : held ≡ one = λ i. record { key = key i; image = sym image i } in
    let rest = own server client list shared.1.1.1 both.1 in
    λ i. first i ∷ rest i

pub agreed-own : AgreedIsOwn
agreed-own server client small e = own server client _ (imported-chosen server client small).shared e

-- and then it has the same sides at both ends
front_sides : (n : ℕ) (entries : List Entry) → have_sides_of (take n entries) entries ≡ true
front_sides zero entries = refl
front_sides (suc n) [] = refl
front_sides (suc n) (one ∷ entries) = both_hold (same_sides one.image one.image) _ (both_hold (nat_eq one.image.width one.image.width) _ (eq-eqb _ _ refl) (eq-eqb _ _ refl)) (front_sides n entries)
  where
    both_hold : (a b : Bool) → a ≡ true → b ≡ true → (a && b) ≡ true
    both_hold true b first second = second
    both_hold false b first second = absurd cc

pub agreed-sides : (server client : List Entry) (small : Bool) → agree server client ≡ true → have_same_sides server client small ≡ true
agreed-sides server client small agrees =
    ap (λ entries. have_sides_of entries client) (agreed-own server client small agrees) ∙ front_sides (length (imported server client small)) client
