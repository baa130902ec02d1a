-- What is written where a run of pixels is taken from one slice to another.
use Rattle.std.proofs.Common.{◌≡◌, ◌≢◌, set, refl, sym, ap, ◌∙◌, if◌then◌else◌, true, false, ℕ, zero, suc, ◌+◌, ◌-◌, ◌*◌, ◌<◌, ◌≤◌, ◌&&◌, nat_le, nat_lt, ◌⊎◌, inl, inr, List, [], ◌∷◌, length, map, take, drop, get_or, length-take, length-drop, get_or-take, get_or-drop, arith}
use Rattle.std.specs.List.{CopiedTo, SameBelow, SameFrom}
use Rattle.std.proofs.lemmas.List.{length-map, map-id, same_lists, get_or-map, get_or_default, get_or-set_same, get_or-set_other}
use Rattle.std.proofs.lemmas.Bool.{cases_lt, cases_eq}
use Rattle.std.proofs.lemmas.Bool.Decides.{nat_tests}
use Rattle.gfx_base.specs.declared.format.Format.{Format}
use Rattle.gfx_base.specs.declared.format.Format.TheVariants.{Argb, Xrgb}
use Rattle.gfx_base.specs.declared.pixel.Pixel.{Pixel}
use Rattle.gfx_surface.specs.Picture.{AreOpaque, shade, no_pixel, raw_pixels}
use Rattle.gfx_surface.specs.Rows.{WritesRun}

-- what copying inside a list does
pub moved_run : (at source count : ℕ) (old new : List Pixel) → source + count ≤ length old → CopiedTo old new source at count → SameBelow old new at → SameFrom old new (at + count)
    → WritesRun at (at + count) (λ k. get_or old (source + (k - at)) no_pixel) old new
moved_run at source count old new fits copies below_it above_it k d below = by (cases_lt k at) (cases_lt k (at + count))
  where
    by : ((k < at) ⊎ (at ≤ k)) → ((k < at + count) ⊎ (at + count ≤ k))
        → get_or new k d ≡ (if nat_le at k && nat_lt k (at + count) then get_or old (source + (k - at)) no_pixel else get_or old k d)
    by (inl before) t =
        let out : (nat_le at k && nat_lt k (at + count)) ≡ false = grind (arith, nat_tests) in
        below_it k d before ∙ sym (ap (λ b. if b then get_or old (source + (k - at)) no_pixel else get_or old k d) out)
    by (inr on) (inl up_to) =
        let hit : (nat_le at k && nat_lt k (at + count)) ≡ true = grind (arith, nat_tests) in
        copies k d on up_to ∙ get_or_default old (source + (k - at)) d no_pixel (omega arith)
        ∙ sym (ap (λ b. if b then get_or old (source + (k - at)) no_pixel else get_or old k d) hit)
    by (inr on) (inr after) =
        let out : (nat_le at k && nat_lt k (at + count)) ≡ false = grind (arith, nat_tests) in
        above_it k d after ∙ sym (ap (λ b. if b then get_or old (source + (k - at)) no_pixel else get_or old k d) out)

-- pixels that are shaded one after another
pub shaded_pixels : (format : Format) (from pixels : List Pixel) (i : ℕ) (pixel : Pixel) → i < length from → length pixels ≡ length from
    → pixel ≡ shade format (get_or from i no_pixel)
    → ((k : ℕ) (d : Pixel) → k < i → get_or pixels k d ≡ get_or (map (shade format) from) k d)
    → (k : ℕ) (d : Pixel) → k < i + 1 → get_or (set pixels i pixel) k d ≡ get_or (map (shade format) from) k d
shaded_pixels format from pixels i pixel below same is done k d within = by (cases_eq k i)
  where
    by : ((k ≡ i) ⊎ (k ≢ i)) → get_or (set pixels i pixel) k d ≡ get_or (map (shade format) from) k d
    by (inl here) =
        ap (λ n. get_or (set pixels i pixel) n d) here ∙ get_or-set_same pixels i pixel d (omega arith) ∙ is
        ∙ sym (get_or-map (shade format) from i no_pixel d below) ∙ ap (λ n. get_or (map (shade format) from) n d) (sym here)
    by (inr apart) = get_or-set_other pixels i k pixel d apart ∙ done k d (omega arith)

-- the pixel that stands at these bytes
abbrev pub bytes_at : List ℕ → ℕ → Pixel
bytes_at bytes at = record { b = get_or bytes at 0; g = get_or bytes (at + 1) 0; r = get_or bytes (at + 2) 0; a = get_or bytes (at + 3) 0 }

four_on : (b g r a : ℕ) (rest : List ℕ) (n m : ℕ) → m ≡ 4 + n → bytes_at rest n ≡ bytes_at (b ∷ g ∷ r ∷ a ∷ rest) m
four_on b g r a rest n m e =
    let xs : List ℕ = b ∷ g ∷ r ∷ a ∷ rest in
    let first : suc (suc (suc (suc n))) ≡ m = omega arith in
    let second : suc (suc (suc (suc (n + 1)))) ≡ m + 1 = omega arith in
    let third : suc (suc (suc (suc (n + 2)))) ≡ m + 2 = omega arith in
    let fourth : suc (suc (suc (suc (n + 3)))) ≡ m + 3 = omega arith in
    λ i. record { b = get_or xs (first i) 0; g = get_or xs (second i) 0; r = get_or xs (third i) 0; a = get_or xs (fourth i) 0 }

-- four bytes make a pixel
pub length-raw_pixels : (format : Format) (n : ℕ) (bytes : List ℕ) → length bytes ≡ 4 * n → length (raw_pixels format bytes) ≡ n
unfolding raw_pixels
length-raw_pixels format zero [] e = refl
length-raw_pixels format (suc n) (b ∷ g ∷ r ∷ a ∷ rest) e = ap (λ m. suc m) (length-raw_pixels format n rest (omega arith))
length-raw_pixels format zero (b ∷ rest) e = absurd (omega arith)
length-raw_pixels format (suc n) [] e = absurd (omega arith)
length-raw_pixels format (suc n) (b ∷ []) e = absurd (omega arith)
length-raw_pixels format (suc n) (b ∷ g ∷ []) e = absurd (omega arith)
length-raw_pixels format (suc n) (b ∷ g ∷ r ∷ []) e = absurd (omega arith)

pub get_or-raw_pixels : (format : Format) (bytes : List ℕ) (k : ℕ) (d : Pixel) → 4 * k + 4 ≤ length bytes
    → get_or (raw_pixels format bytes) k d ≡ shade format (bytes_at bytes (4 * k))
unfolding raw_pixels
get_or-raw_pixels format (b ∷ g ∷ r ∷ a ∷ rest) zero d within = refl
get_or-raw_pixels format (b ∷ g ∷ r ∷ a ∷ rest) (suc k) d within =
    get_or-raw_pixels format rest k d (omega arith) ∙ ap (shade format) (four_on b g r a rest (4 * k) (4 * suc k) (omega arith))
get_or-raw_pixels format [] k d within = absurd (omega arith)
get_or-raw_pixels format (b ∷ []) k d within = absurd (omega arith)
get_or-raw_pixels format (b ∷ g ∷ []) k d within = absurd (omega arith)
get_or-raw_pixels format (b ∷ g ∷ r ∷ []) k d within = absurd (omega arith)

-- all pixels are shaded
pub shaded_all : (format : Format) (from pixels : List Pixel) (i : ℕ) → length from ≤ i → length pixels ≡ length from
    → ((k : ℕ) (d : Pixel) → k < i → get_or pixels k d ≡ get_or (map (shade format) from) k d) → pixels ≡ map (shade format) from
shaded_all format from pixels i end same done =
    same_lists pixels (map (shade format) from) (same ∙ sym (length-map from (shade format))) (λ k d below. done k d (omega arith))

-- a pixel is made of the next bytes
pub made_pixel : (format : Format) (bytes : List ℕ) (pixels : List Pixel) (i : ℕ) (pixel : Pixel) → i < length pixels → length bytes ≡ 4 * length pixels
    → pixel ≡ shade format (bytes_at bytes (4 * i))
    → ((k : ℕ) (d : Pixel) → k < i → get_or pixels k d ≡ get_or (raw_pixels format bytes) k d)
    → (k : ℕ) (d : Pixel) → k < i + 1 → get_or (set pixels i pixel) k d ≡ get_or (raw_pixels format bytes) k d
made_pixel format bytes pixels i pixel below whole is done k d within = by (cases_eq k i)
  where
    by : ((k ≡ i) ⊎ (k ≢ i)) → get_or (set pixels i pixel) k d ≡ get_or (raw_pixels format bytes) k d
    by (inl here) =
        ap (λ n. get_or (set pixels i pixel) n d) here ∙ get_or-set_same pixels i pixel d below ∙ is ∙ sym (get_or-raw_pixels format bytes i d (omega arith)) ∙ ap (λ n. get_or (raw_pixels format bytes) n d) (sym here)
    by (inr apart) = get_or-set_other pixels i k pixel d apart ∙ done k d (omega arith)

-- all pixels are made
pub made_all : (format : Format) (bytes : List ℕ) (pixels : List Pixel) (i : ℕ) → length pixels ≤ i → length bytes ≡ 4 * length pixels
    → ((k : ℕ) (d : Pixel) → k < i → get_or pixels k d ≡ get_or (raw_pixels format bytes) k d) → pixels ≡ raw_pixels format bytes
made_all format bytes pixels i end whole done =
    same_lists pixels (raw_pixels format bytes) (sym (length-raw_pixels format (length pixels) bytes whole)) (λ k d below. done k d (omega arith))

-- the bytes of a row have the row's pixels
pub raw_row : (format : Format) (bytes row : List ℕ) (first count k : ℕ) → row ≡ take (4 * count) (drop (4 * first) bytes) → 4 * (first + count) ≤ length bytes → k < count
    → get_or (raw_pixels format row) k no_pixel ≡ get_or (raw_pixels format bytes) (first + k) no_pixel
raw_row format bytes row first count k cut within below =
    let long : length row ≡ 4 * count = ap length cut ∙ simp (length-take, length-drop) (omega arith) in
    get_or-raw_pixels format row k no_pixel (omega arith)
    ∙ (λ i. shade format record {
      b = at 0 (4 * k) (4 * (first + k)) (omega arith) (omega arith) (omega arith) i;
      g = at 1 (4 * k + 1) (4 * (first + k) + 1) (omega arith) (omega arith) (omega arith) i;
      r = at 2 (4 * k + 2) (4 * (first + k) + 2) (omega arith) (omega arith) (omega arith) i;
      a = at 3 (4 * k + 3) (4 * (first + k) + 3) (omega arith) (omega arith) (omega arith) i;
    })
    ∙ sym (get_or-raw_pixels format bytes (first + k) no_pixel (omega arith))
  where
    at : (j m n : ℕ) → j < 4 → m ≡ 4 * k + j → n ≡ 4 * (first + k) + j → get_or row m 0 ≡ get_or bytes n 0
    at j m n less here there =
        let same : 4 * first + m ≡ n = omega arith in
        ap (λ r. get_or r m 0) cut ∙ get_or-take (4 * count) (drop (4 * first) bytes) m 0 (omega arith)
        ∙ get_or-drop (4 * first) bytes m 0 ∙ ap (λ n. get_or bytes n 0) same

-- a format that keeps alpha keeps all pixels
pub map-shade_argb : (format : Format) (pixels : List Pixel) → format ≡ Argb → map (shade format) pixels ≡ pixels
map-shade_argb format pixels e = ap (λ (f : Format). map (shade f) pixels) e ∙ map-id pixels

-- a part of a list whose end is told by its length
pub part : (start count : ℕ) (bytes : List ℕ) → take (start + count - start) (drop start bytes) ≡ take count (drop start bytes)
part start count bytes = let same : start + count - start ≡ count = omega arith in ap (λ n. take n (drop start bytes)) same

-- opaque pixels are as XRGB keeps them
pub opaque_as_they_are : (from : List Pixel) → AreOpaque from → map (shade Xrgb) from ≡ from
opaque_as_they_are [] all = refl
opaque_as_they_are (pixel ∷ pixels) all =
    let first : shade Xrgb pixel ≡ pixel = ap (λ a. record pixel { a = a }) (sym (all 0 (omega arith))) in
    let rest = opaque_as_they_are pixels (λ k below. all (suc k) (omega arith)) in
    λ i. first i ∷ rest i

-- and so both formats keep them alike
pub opaque_alike : (format : Format) (pixels : List Pixel) → AreOpaque pixels → map (shade Argb) pixels ≡ map (shade format) pixels
opaque_alike Argb pixels all = refl
opaque_alike Xrgb pixels all = map-id pixels ∙ sym (opaque_as_they_are pixels all)

-- each pixel of a list that two formats keep alike
pub each_alike : (first second : Format) (pixels : List Pixel) (k : ℕ) → map (shade first) pixels ≡ map (shade second) pixels → k < length pixels
    → shade first (get_or pixels k no_pixel) ≡ shade second (get_or pixels k no_pixel)
each_alike first second pixels k alike below =
    sym (get_or-map (shade first) pixels k no_pixel no_pixel below) ∙ ap (λ (kept : List Pixel). get_or kept k no_pixel) alike
    ∙ get_or-map (shade second) pixels k no_pixel no_pixel below
