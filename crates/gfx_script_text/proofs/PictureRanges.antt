-- Within which ranges the sides of a picture lie that was read, and that its name is new.
use Rattle.std.proofs.Common.{◌≡◌, ◌∙◌, ℕ, suc, ◌+◌, ◌*◌, ◌≤◌, false, List, [], ◌∷◌, ◌++◌, length, Ok, ℤ, refl, sym, ap, subst, arith}
use Rattle.std.proofs.lemmas.Bool.{leb-true, not-true}
use Rattle.std.proofs.lemmas.List.{length-append}
use Rattle.std.specs.List.{AllByRecursion}
use Rattle.toml.specs.Data.{Data}
use Rattle.gfx_base.specs.Results.{Has}
use Rattle.gfx_base.proofs.ResultLemmas.{and_then_ok, chain, gives, check_ok}
use Rattle.gfx_script.specs.declared.TheConstants.{MOST_AREA, MOST_PICTURES}
use Rattle.gfx_script_text.specs.declared.TheConstants.{MOST_NUMBER}
use Rattle.gfx_script.specs.declared.error.ScriptKind.TheVariants.{Range, Name}
use Rattle.gfx_script_text.specs.declared.pictures.PatternWord.{PatternWord}
use Rattle.gfx_script.specs.declared.picture.Picture.{Picture}
use Rattle.gfx_script.specs.Pictures.{IsDrawn}
use Rattle.gfx_script_text.specs.Pictures.{Named, Gallery, no_pictures, with_picture, is_named, picture_sized, picture_of, more_pictures, pictures_of}
use Rattle.gfx_script_text.proofs.Ranges.{within_ok}

-- what holds of a picture that was read behind those of these names
pub record IsNew (names : List (List ℕ)) (one : Named) : Type 0 where
  pub fresh : is_named names one.name ≡ false
  pub drawn : IsDrawn one.picture

picture_sized-read : (names : List (List ℕ)) (name : List ℕ) (word : PatternWord) (width height seed : ℤ) (digits : List ℕ)
    → Has (picture_sized names name word width height seed digits) (IsNew names)
unfolding picture_sized
picture_sized-read names name word width height seed digits =
    chain _ _ (IsNew names) (λ width_in width_fits.
    chain _ _ (IsNew names) (λ height_in height_fits.
    chain _ _ (IsNew names) (λ small is_small.
    chain _ _ (IsNew names) (λ seed_in seed_fits.
    chain _ _ (IsNew names) (λ fresh is_fresh.
    chain _ _ (IsNew names) (λ pattern found.
    let wide = within_ok 1 MOST_NUMBER width width_in width_fits in
    let high = within_ok 1 MOST_NUMBER height height_in height_fits in
    gives _ (IsNew names) record {
      fresh = not-true (is_named names name) (check_ok Name _ is_fresh);
      drawn = record {
        width_from = wide.0;
        width_fits = omega (arith, wide.1);
        height_from = high.0;
        height_fits = omega (arith, high.1);
        area = leb-true (width_in * height_in) MOST_AREA (check_ok Range _ is_small);
      };
    }))))))

pub picture_of-read : (names : List (List ℕ)) (value : Data) → Has (picture_of names value) (IsNew names)
unfolding picture_of
picture_of-read names value =
    chain _ _ (IsNew names) (λ table found_table.
    chain _ _ (IsNew names) (λ pattern found_pattern.
    chain _ _ (IsNew names) (λ word found_word.
    chain _ _ (IsNew names) (λ known passed.
    chain _ _ (IsNew names) (λ name found_name.
    chain _ _ (IsNew names) (λ width found_width.
    chain _ _ (IsNew names) (λ height found_height.
    chain _ _ (IsNew names) (λ seed found_seed.
    chain _ _ (IsNew names) (λ digits found_digits. picture_sized-read names name word width height seed digits)))))))))

drawn_more : (pictures : List Picture) (one : Picture) → AllByRecursion IsDrawn pictures → IsDrawn one → AllByRecursion IsDrawn (pictures ++ one ∷ [])
drawn_more [] one each last = (last, tt)
drawn_more (first ∷ pictures) one each last = (each.0, drawn_more pictures one each.1 last)

-- what holds of so many pictures
pub record AreDrawn (count : ℕ) (gallery : Gallery) : Type 0 where
  pub many : length gallery.pictures ≡ count
  pub each : AllByRecursion IsDrawn gallery.pictures

with_picture-drawn : (count : ℕ) (gallery : Gallery) (one : Named) → AreDrawn count gallery → IsDrawn one.picture → AreDrawn (suc count) (with_picture gallery one)
with_picture-drawn count gallery one before last = record {
  many = length-append gallery.pictures (one.picture ∷ []) ∙ ap (λ n. n + 1) before.many ∙ (let e : count + 1 ≡ suc count = omega arith in e);
  each = drawn_more gallery.pictures one.picture before.each last;
}

more_pictures-drawn : (count : ℕ) (gallery : Gallery) (values : List Data) (found : Gallery) → AreDrawn count gallery → more_pictures gallery values ≡ Ok found
    → AreDrawn (count + length values) found
unfolding more_pictures
more_pictures-drawn count gallery [] found before is =
    let same : gallery ≡ found = cc in
    subst (AreDrawn (count + 0)) same (subst (λ n. AreDrawn n gallery) (let e : count ≡ count + 0 = omega arith in e) before)
more_pictures-drawn count gallery (value ∷ values) found before is =
    let first = and_then_ok (picture_of gallery.names value) _ found is in
    let one : IsNew gallery.names first.0 = (picture_of-read gallery.names value).each first.0 first.1 in
    subst (λ n. AreDrawn n found) (let e : suc count + length values ≡ count + suc (length values) = omega arith in e)
    (more_pictures-drawn (suc count) (with_picture gallery first.0) values found (with_picture-drawn count gallery first.0 before one.drawn) first.2)

-- pictures that were read are few, and each is drawn within its ranges
pub record AreGood (gallery : Gallery) : Type 0 where
  pub few : length gallery.pictures ≤ MOST_PICTURES
  pub each : AllByRecursion IsDrawn gallery.pictures

pub pictures_of-good : (values : List Data) → Has (pictures_of values) AreGood
unfolding pictures_of
pictures_of-good values =
    chain _ _ AreGood (λ few are_few.
    record {
      each = λ gallery found.
          let drawn = more_pictures-drawn 0 no_pictures values gallery record { many = refl; each = tt } found in
          let many : length gallery.pictures ≡ length values = omega (arith, drawn.many) in
          record { few = subst (λ n. n ≤ MOST_PICTURES) (sym many) (leb-true (length values) MOST_PICTURES (check_ok Range _ are_few)); each = drawn.each };
    })
