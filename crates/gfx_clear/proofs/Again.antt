-- What is sent is decoded.
use Rattle.std.proofs.Common.{◌≡◌, ℕ, ◌+◌, ◌-◌, ◌*◌, ◌==◌, ◌^◌, ◌<◌, ◌≤◌, Bool, true, false, nat_le, nat_lt, slice_index, List, [], ◌∷◌, ◌++◌, length, take, drop, Option, Ok, refl, ap, ◌∙◌, arith, eq-eqb}
use Rattle.std.specs.Prelude.{◌&&◌}
use Rattle.std.specs.Int.{w16, w32, to_le_bytes}
use Rattle.std.proofs.lemmas.Bool.{le-leb}
use Rattle.std.proofs.lemmas.Bool.Decides.{nat_tests}
use Rattle.std.proofs.lemmas.List.{take_all, drop_all}
use Rattle.gfx_base.specs.declared.pixel.Rgb.{Rgb}
use Rattle.gfx_base.specs.declared.refusal.Refusal.TheVariants.{ClearLengths, ClearSequence, GlyphIndex, GlyphArea, RectOutside}
use Rattle.gfx_base.specs.Field.{number_at}
use Rattle.gfx_base.specs.Results.{check}
use Rattle.gfx_base.proofs.FieldLemmas.{number_at-written_2, number_at-written_4}
use Rattle.gfx_base.proofs.ResultLemmas.{and_then_at}
use Rattle.gfx_clear_bands.specs.Bands.{Drawing}
use Rattle.gfx_glyph.specs.declared.glyphs.TheConstants.{PLACES}
use Rattle.gfx_clear.specs.declared.head.Head.{Head}
use Rattle.gfx_clear.specs.declared.head.GlyphUse.{GlyphUse}
use Rattle.gfx_clear.specs.declared.head.GlyphUse.TheVariants.{Unused, Stores, Shows}
use Rattle.gfx_clear.specs.declared.parts.TheConstants.{COUNTS}
use Rattle.gfx_clear.specs.declared.area.Area.{Area}
use Rattle.gfx_clear.specs.declared.area.TheConstants.{AREA}
use Rattle.gfx_clear.specs.declared.head.TheConstants.{GLYPH_INDEX, CACHE_RESET}
use Rattle.gfx_clear.specs.Heads.{head, head_size, glyph_use, is_set, is_due, has_place, is_small}
use Rattle.gfx_clear.specs.Parts.{parts, cut}
use Rattle.gfx_clear.specs.Subcodecs.{area_of, area_at, is_inside, coded, rows_drawn, subcodec, subcodecs}
use Rattle.gfx_clear.proofs.Areas.{subcodecs_from}
use Rattle.gfx_clear.specs.Sending.{head_bytes, size_bytes, area_bytes}

passes : {E : Type 0} (e : E) (test : Bool) → test ≡ true → check e test ≡ Ok tt
passes e true is = refl
passes e false is = absurd cc

-- a head of this use and sequence number
abbrev pub plain_head : GlyphUse → ℕ → Head
plain_head glyph sequence = record { sequence = sequence; glyph = glyph; reset = false }

head_read : (expected : Option ℕ) (area : ℕ) (bytes : List ℕ) (glyph : GlyphUse) → nat_le (head_size (slice_index bytes 0)) (length bytes) ≡ true → glyph_use (slice_index bytes 0) (number_at w16 bytes 2) ≡ Ok glyph
    → is_due expected (slice_index bytes 1) ≡ true → has_place glyph ≡ true → is_small area glyph ≡ true
    → head expected area bytes ≡ Ok (record { sequence = slice_index bytes 1; glyph = glyph; reset = is_set CACHE_RESET (slice_index bytes 0) }, drop (head_size (slice_index bytes 0)) bytes)
unfolding head
head_read expected area bytes glyph whole uses due place small =
    and_then_at (check ClearLengths (nat_le (head_size (slice_index bytes 0)) (length bytes))) tt _ (passes ClearLengths _ whole)
    ∙ and_then_at (glyph_use (slice_index bytes 0) (number_at w16 bytes 2)) glyph _ uses
    ∙ and_then_at (check ClearSequence (is_due expected (slice_index bytes 1))) tt _ (passes ClearSequence _ due)
    ∙ and_then_at (check GlyphIndex (has_place glyph)) tt _ (passes GlyphIndex _ place)
    ∙ and_then_at (check GlyphArea (is_small area glyph)) tt _ (passes GlyphArea _ small)

long_head : (n : ℕ) → nat_le 2 (2 + n) ≡ true
long_head n = le-leb 2 (2 + n) (omega arith)

longer_head : (n : ℕ) → nat_le 4 (4 + n) ≡ true
longer_head n = le-leb 4 (4 + n) (omega arith)

-- a head is read
pub head_again : (glyph : GlyphUse) (expected : Option ℕ) (area sequence : ℕ) (more : List ℕ) → is_due expected sequence ≡ true → has_place glyph ≡ true → is_small area glyph ≡ true
    → head expected area (head_bytes glyph sequence ++ more) ≡ Ok (plain_head glyph sequence, more)
head_again Unused expected area sequence more due place small = head_read expected area (0 ∷ (sequence ∷ more)) Unused (le-leb 2 (length (0 ∷ (sequence ∷ more))) (omega arith)) refl due place small
head_again (Stores index) expected area sequence more due place small =
    let bytes = GLYPH_INDEX ∷ (sequence ∷ (to_le_bytes w16 index ++ more)) in
    let fits : index < 2 ^ 16 = below index place in
    head_read expected area bytes (Stores index) (le-leb 4 (length bytes) (omega arith)) (ap (λ n. Ok (Stores n)) (number_at-written_2 (GLYPH_INDEX ∷ (sequence ∷ [])) more index fits)) due place small
  where
    below : (n : ℕ) → nat_lt n PLACES ≡ true → n < 2 ^ 16
    below n is = let low : n < PLACES = grind (arith, nat_tests) in omega arith
head_again (Shows index) expected area sequence more due place small =
    let bytes = 3 ∷ (sequence ∷ (to_le_bytes w16 index ++ more)) in
    let fits : index < 2 ^ 16 = below index place in
    head_read expected area bytes (Shows index) (le-leb 4 (length bytes) (omega arith)) (ap (λ n. Ok (Shows n)) (number_at-written_2 (3 ∷ (sequence ∷ [])) more index fits)) due place small
  where
    below : (n : ℕ) → nat_lt n PLACES ≡ true → n < 2 ^ 16
    below n is = let low : n < PLACES = grind (arith, nat_tests) in omega arith

-- the sizes of the parts are read
pub sizes_again : (first second third : ℕ) (rest : List ℕ) → first < 2 ^ 32 → second < 2 ^ 32 → third < 2 ^ 32 → first + second + third ≡ length rest
    → parts (size_bytes first second third ++ rest) ≡ Ok (cut first second rest)
unfolding parts size_bytes
sizes_again first second third rest low middle high whole =
    let bytes = to_le_bytes w32 first ++ (to_le_bytes w32 second ++ (to_le_bytes w32 third ++ rest)) in
    let a = number_at-written_4 [] (to_le_bytes w32 second ++ (to_le_bytes w32 third ++ rest)) first low in
    let b = number_at-written_4 (to_le_bytes w32 first) (to_le_bytes w32 third ++ rest) second middle in
    let c = number_at-written_4 (to_le_bytes w32 first ++ to_le_bytes w32 second) rest third high in
    let total : number_at w32 bytes 0 + number_at w32 bytes 4 + number_at w32 bytes 8 ≡ length bytes - COUNTS = (λ i. a i + b i + c i) ∙ whole ∙ omega arith in
    and_then_at (check ClearLengths (nat_le COUNTS (length bytes))) tt _ (passes ClearLengths _ (le-leb COUNTS (length bytes) (omega arith)))
    ∙ and_then_at (check ClearLengths (number_at w32 bytes 0 + number_at w32 bytes 4 + number_at w32 bytes 8 == length bytes - COUNTS)) tt _ (passes ClearLengths _ (eq-eqb _ _ total))
    ∙ (λ i. Ok (cut (a i) (b i) rest))

-- a rectangle over the whole is read
pub area_again : (width height size codec : ℕ) (more : List ℕ) → width < 2 ^ 16 → height < 2 ^ 16 → size < 2 ^ 32 → size ≤ length more
    → area_at width height (area_bytes width height size codec ++ more) ≡ Ok (record { x = 0; y = 0; width = width; height = height; size = size; codec = codec })
unfolding area_at area_bytes
area_again width height size codec more wide high small whole =
    let last = codec ∷ more in
    let sized = to_le_bytes w32 size ++ last in
    let lower = to_le_bytes w16 height ++ sized in
    let across = to_le_bytes w16 width ++ lower in
    let bytes = to_le_bytes w16 0 ++ (to_le_bytes w16 0 ++ across) in
    let target : Area = record { x = 0; y = 0; width = width; height = height; size = size; codec = codec } in
    let is : area_of bytes ≡ target = λ i. record {
      x = number_at-written_2 [] (to_le_bytes w16 0 ++ across) 0 (omega arith) i;
      y = number_at-written_2 (to_le_bytes w16 0) across 0 (omega arith) i;
      width = number_at-written_2 (to_le_bytes w16 0 ++ to_le_bytes w16 0) lower width wide i;
      height = number_at-written_2 (to_le_bytes w16 0 ++ (to_le_bytes w16 0 ++ to_le_bytes w16 width)) sized height high i;
      size = number_at-written_4 (to_le_bytes w16 0 ++ (to_le_bytes w16 0 ++ (to_le_bytes w16 width ++ to_le_bytes w16 height))) last size small i;
      codec = codec;
    } in
    let a : nat_le (0 + width) width ≡ true = le-leb (0 + width) width (omega arith) in
    let b : nat_le (0 + height) height ≡ true = le-leb (0 + height) height (omega arith) in
    let inside : is_inside width height target ≡ true = λ i. a i && b i in
    and_then_at (check ClearLengths (nat_le AREA (length bytes))) tt _ (passes ClearLengths _ (le-leb AREA (length bytes) (omega arith)))
    ∙ and_then_at (check ClearLengths (nat_le (AREA + (area_of bytes).size) (length bytes))) tt _
    (passes ClearLengths _ (ap (λ z. nat_le (AREA + z.size) (length bytes)) is ∙ le-leb (AREA + size) (length bytes) (omega arith)))
    ∙ and_then_at (check RectOutside (is_inside width height (area_of bytes))) tt _ (passes RectOutside _ (ap (is_inside width height) is ∙ inside))
    ∙ ap Ok is

area_behind : (width height size codec : ℕ) (more : List ℕ) → drop AREA (area_bytes width height size codec ++ more) ≡ more
unfolding area_bytes
area_behind width height size codec more = refl

area_some : (width height size codec : ℕ) (more : List ℕ) → 0 < length (area_bytes width height size codec ++ more)
unfolding area_bytes
area_some width height size codec more = omega arith

-- one subcodec over the whole
subcodec_read : (width height codec : ℕ) (bytes : List ℕ) (pixels : List Rgb) (old : Drawing) → width < 2 ^ 16 → height < 2 ^ 16 → length bytes < 2 ^ 32 → coded codec (width * height) bytes ≡ Ok pixels
    → subcodec width height old (area_bytes width height (length bytes) codec ++ bytes) ≡ Ok (rows_drawn width width 0 height pixels old, [])
unfolding subcodec
subcodec_read width height codec bytes pixels old wide high small e =
    let all = area_bytes width height (length bytes) codec ++ bytes in
    let area : Area = record { x = 0; y = 0; width = width; height = height; size = length bytes; codec = codec } in
    let own : take (length bytes) (drop AREA all) ≡ bytes = ap (take (length bytes)) (area_behind width height (length bytes) codec bytes) ∙ take_all (length bytes) bytes (omega arith) in
    let rest : drop (length bytes) (drop AREA all) ≡ [] = ap (drop (length bytes)) (area_behind width height (length bytes) codec bytes) ∙ drop_all (length bytes) bytes (omega arith) in
    let start : 0 * width + 0 ≡ 0 = omega arith in
    and_then_at (area_at width height all) area _ (area_again width height (length bytes) codec bytes wide high small (omega arith))
    ∙ and_then_at (coded codec (width * height) (take (length bytes) (drop AREA all))) pixels _ (ap (coded codec (width * height)) own ∙ e)
    ∙ (λ i. Ok (rows_drawn width width (start i) height pixels old, rest i))

pub subcodec_again : (width height codec : ℕ) (bytes : List ℕ) (pixels : List Rgb) (old : Drawing) → width < 2 ^ 16 → height < 2 ^ 16 → length bytes < 2 ^ 32 → coded codec (width * height) bytes ≡ Ok pixels
    → subcodecs width height old (area_bytes width height (length bytes) codec ++ bytes) ≡ Ok (rows_drawn width width 0 height pixels old)
subcodec_again width height codec bytes pixels old wide high small e =
    let all = area_bytes width height (length bytes) codec ++ bytes in
    subcodecs_from (length all) width height old (rows_drawn width width 0 height pixels old) all refl (area_some width height (length bytes) codec bytes) (subcodec_read width height codec bytes pixels old wide high small e)
