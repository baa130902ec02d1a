-- Which pixels of a picture are drawn.
use Rattle.std.proofs.Common.{◌≡◌, ◌≢◌, ◌⊎◌, inl, inr, ℕ, ◌+◌, ◌-◌, ◌*◌, ◌<◌, ◌≤◌, true, false, List, length, get_or, set, refl, ap, ◌∙◌, arith}
use Rattle.std.proofs.lemmas.Bool.{cases_lt}
use Rattle.std.proofs.lemmas.List.{length-set, get_or-set_same, get_or-set_other}
use Rattle.std.proofs.Math.Nat.{mul-le-mul_left}
use Rattle.gfx_base.specs.declared.pixel.Rgb.{Rgb}
use Rattle.gfx_clear_bands.specs.Bands.{Drawing}
use Rattle.gfx_clear_bands.specs.Pixels.{pixel_at, IsIn, Shows}
use Rattle.gfx_clear_bands.specs.Writing.{black}

-- items stand in a list from a place on, and all else is as before
pub record Put {A : Type 0} (d : A) (at n : ℕ) (item : ℕ → A) (old new : List A) : Type 0 where
  pub long : length new ≡ length old
  pub inside : (i : ℕ) → i < n → get_or new (at + i) d ≡ item i
  pub outside : (k : ℕ) → ((k < at) ⊎ (at + n ≤ k)) → get_or new k d ≡ get_or old k d

pub put_one : {A : Type 0} (d : A) (at : ℕ) (item : A) (old : List A) → at < length old → Put d at 1 (λ i. item) old (set old at item)
put_one d at item old within = record {
  long = length-set old at item;
  inside = λ i less. ap (λ z. get_or (set old at item) z d) (let e : at + i ≡ at = omega arith in e) ∙ get_or-set_same old at item d within;
  outside = λ k apart. get_or-set_other old at k item d (other k apart);
}
  where
    other : (k : ℕ) → ((k < at) ⊎ (at + 1 ≤ k)) → k ≢ at
    other k (inl less) e = omega arith
    other k (inr more) e = omega arith

-- a place is in a row of a rectangle, or before it, or behind it
before_row : (across left top x y : ℕ) → x < across → left ≤ across → y < top → y * across + x < top * across + left
before_row across left top x y column side above =
    let most = mul-le-mul_left across (let e : y + 1 ≤ top = omega arith in e) in omega (arith, most)

behind_row : (across left top wide x y : ℕ) → left + wide ≤ across → top < y → top * across + left + wide ≤ y * across + x
behind_row across left top wide x y side below =
    let most = mul-le-mul_left across (let e : top + 1 ≤ y = omega arith in e) in omega (arith, most)

-- a row of a rectangle
pub row_shows : (across left top wide : ℕ) (colour : ℕ → Rgb) (old new : Drawing) → left + wide ≤ across
    → Put black (top * across + left) wide colour old.colours new.colours → Put false (top * across + left) wide (λ i. true) old.drawn new.drawn
    → Shows across left top wide 1 (λ x y. colour x) old new
row_shows across left top wide colour old new side colours flags = record {
  inside = λ x y is.
      let place : y * across + x ≡ top * across + left + (x - left) = (ap (λ z. z * across + x) (row y is.from_top is.to_bottom) ∙ omega (arith, is.from_left)) in
      let less : x - left < wide = omega (arith, is.from_left, is.to_right) in
      λ i. ((ap (λ z. get_or new.colours z black) place ∙ colours.inside (x - left) less) i, (ap (λ z. get_or new.drawn z false) place ∙ flags.inside (x - left) less) i);
  outside = λ x y column not.
      let apart = away x y column not in
      λ i. (colours.outside (y * across + x) apart i, flags.outside (y * across + x) apart i);
}
  where
    row : (y : ℕ) → top ≤ y → y < top + 1 → y ≡ top
    row y low high = omega arith

    away : (x y : ℕ) → x < across → (IsIn left top wide 1 x y → ⊥) → ((y * across + x < top * across + left) ⊎ (top * across + left + wide ≤ y * across + x))
    away x y column not =
        elim (cases_lt y top) as (λ _. (y * across + x < top * across + left) ⊎ (top * across + left + wide ≤ y * across + x)) [
          | inl above ↦ inl (before_row across left top x y column (omega arith) above)
          | inr low ↦ elim (cases_lt top y) as (λ _. (y * across + x < top * across + left) ⊎ (top * across + left + wide ≤ y * across + x)) [
            | inl below ↦ inr (behind_row across left top wide x y side below)
            | inr high ↦
                let same : y ≡ top = omega arith in
                let line : y * across ≡ top * across = ap (λ z. z * across) same in
                elim (cases_lt x left) as (λ _. (y * across + x < top * across + left) ⊎ (top * across + left + wide ≤ y * across + x)) [
                  | inl before ↦ inl (omega (arith, line))
                  | inr from ↦ elim (cases_lt x (left + wide)) as (λ _. (y * across + x < top * across + left) ⊎ (top * across + left + wide ≤ y * across + x)) [
                    | inl to ↦ absurd (not (record { from_left = from; to_right = to; from_top = low; to_bottom = omega arith }))
                    | inr past ↦ inr (omega (arith, line))
                  ]
                ]
          ]
        ]

-- nothing of an empty rectangle
pub shows_none : (across left top wide high : ℕ) (colour : ℕ → ℕ → Rgb) (old : Drawing) → ((wide ≡ 0) ⊎ (high ≡ 0)) → Shows across left top wide high colour old old
shows_none across left top wide high colour old none = record { inside = λ x y is. absurd (empty x y none is); outside = λ x y column not. refl }
  where
    empty : (x y : ℕ) → ((wide ≡ 0) ⊎ (high ≡ 0)) → IsIn left top wide high x y → ⊥
    empty x y (inl e) is = omega (arith, is.from_left, is.to_right)
    empty x y (inr e) is = omega (arith, is.from_top, is.to_bottom)

-- a rectangle is drawn in these colours as well as in others that are the same inside it
pub shows_as : (across left top wide high : ℕ) (colour other : ℕ → ℕ → Rgb) (old new : Drawing) → ((x y : ℕ) → x < wide → y < high → colour x y ≡ other x y)
    → Shows across left top wide high colour old new → Shows across left top wide high other old new
shows_as across left top wide high colour other old new same shows = record {
  inside = λ x y is. shows.inside x y is ∙ ap (λ z. (z, true)) (same (x - left) (y - top) (omega (arith, is.from_left, is.to_right)) (omega (arith, is.from_top, is.to_bottom)));
  outside = shows.outside;
}

-- rows above others
pub shows_below : (across left top wide high more : ℕ) (first next colour : ℕ → ℕ → Rgb) (old mid new : Drawing) → left + wide ≤ across
    → Shows across left top wide high first old mid → Shows across left (top + high) wide more next mid new
    → ((x y : ℕ) → x < wide → y < high → first x y ≡ colour x y) → ((x y : ℕ) → next x y ≡ colour x (high + y))
    → Shows across left top wide (high + more) colour old new
shows_below across left top wide high more first next colour old mid new side one rest above below = record {
  inside = λ x y is. by x y is (cases_lt y (top + high));
  outside = λ x y column not.
      rest.outside x y column (λ is. not (record { from_left = is.from_left; to_right = is.to_right; from_top = omega (arith, is.from_top); to_bottom = omega (arith, is.to_bottom) }))
      ∙ one.outside x y column (λ is. not (record { from_left = is.from_left; to_right = is.to_right; from_top = is.from_top; to_bottom = omega (arith, is.to_bottom) }));
}
  where
    by : (x y : ℕ) → IsIn left top wide (high + more) x y → ((y < top + high) ⊎ (top + high ≤ y)) → pixel_at across new x y ≡ (colour (x - left) (y - top), true)
    by x y is (inl low) =
        rest.outside x y (omega (arith, is.to_right, side)) (λ there. omega (arith, there.from_top, low))
        ∙ one.inside x y (record { from_left = is.from_left; to_right = is.to_right; from_top = is.from_top; to_bottom = low })
        ∙ ap (λ z. (z, true)) (above (x - left) (y - top) (omega (arith, is.from_left, is.to_right)) (omega (arith, is.from_top, low)))
    by x y is (inr past) =
        rest.inside x y (record { from_left = is.from_left; to_right = is.to_right; from_top = past; to_bottom = omega (arith, is.to_bottom) })
        ∙ ap (λ z. (z, true)) (below (x - left) (y - (top + high)) ∙ ap (colour (x - left)) (let e : high + (y - (top + high)) ≡ y - top = omega arith in e))

-- and columns beside others
pub shows_beside : (across left top wide more high : ℕ) (first next colour : ℕ → ℕ → Rgb) (old mid new : Drawing) → left + wide ≤ across
    → Shows across left top wide high first old mid → Shows across (left + wide) top more high next mid new
    → ((x y : ℕ) → x < wide → first x y ≡ colour x y) → ((x y : ℕ) → next x y ≡ colour (wide + x) y)
    → Shows across left top (wide + more) high colour old new
shows_beside across left top wide more high first next colour old mid new side one rest above below = record {
  inside = λ x y is. by x y is (cases_lt x (left + wide));
  outside = λ x y column not.
      rest.outside x y column (λ is. not (record { from_left = omega (arith, is.from_left); to_right = omega (arith, is.to_right); from_top = is.from_top; to_bottom = is.to_bottom }))
      ∙ one.outside x y column (λ is. not (record { from_left = is.from_left; to_right = omega (arith, is.to_right); from_top = is.from_top; to_bottom = is.to_bottom }));
}
  where
    by : (x y : ℕ) → IsIn left top (wide + more) high x y → ((x < left + wide) ⊎ (left + wide ≤ x)) → pixel_at across new x y ≡ (colour (x - left) (y - top), true)
    by x y is (inl low) =
        rest.outside x y (omega (arith, low, side)) (λ there. omega (arith, there.from_left, low))
        ∙ one.inside x y (record { from_left = is.from_left; to_right = low; from_top = is.from_top; to_bottom = is.to_bottom })
        ∙ ap (λ z. (z, true)) (above (x - left) (y - top) (omega (arith, is.from_left, low)))
    by x y is (inr past) =
        rest.inside x y (record { from_left = past; to_right = omega (arith, is.to_right); from_top = is.from_top; to_bottom = is.to_bottom })
        ∙ ap (λ z. (z, true)) (below (x - (left + wide)) (y - top) ∙ ap (λ z. colour z (y - top)) (let e : wide + (x - (left + wide)) ≡ x - left = omega arith in e))
