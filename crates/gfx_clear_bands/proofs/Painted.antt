-- What the columns of a picture show once they are drawn.
use Rattle.std.proofs.Common.{◌≡◌, ◌≢◌, ◌⊎◌, inl, inr, ℕ, zero, suc, ◌+◌, ◌-◌, ◌*◌, ◌/◌, ◌%◌, ◌<◌, ◌≤◌, true, false, List, length, get_or, set, replicate, refl, sym, ap, ◌∙◌, arith}
use Rattle.std.proofs.lemmas.Bool.{cases_eq, cases_lt}
use Rattle.std.proofs.lemmas.List.{length-set, get_or-set_same, get_or-set_other, ext_get_or, get_or-replicate, length-replicate}
use Rattle.std.proofs.Math.Nat.{mul-le-mul_left}
use Rattle.gfx_base.specs.declared.pixel.Rgb.{Rgb}
use Rattle.gfx_clear_store.specs.Rings.{Rings}
use Rattle.gfx_clear_bands.specs.Bands.{Drawing, drawing, drawn_down}
use Rattle.gfx_clear_bands.specs.Writing.{black, column}

-- a pixel of the picture is drawn
pub record Shows (pixels : List Rgb) (at : ℕ) (d : Drawing) : Type 0 where
  pub colour : get_or d.colours at black ≡ get_or pixels at black
  pub drawn : get_or d.drawn at false ≡ true

-- pixels of the picture were drawn, and no others
pub record Paints (pixels : List Rgb) (These : ℕ → Type 0) (old new : Drawing) : Type 0 where
  pub colours : length new.colours ≡ length old.colours
  pub flags : length new.drawn ≡ length old.drawn
  pub keeps : (at : ℕ) → Shows pixels at old → Shows pixels at new
  pub shows : (at : ℕ) → These at → Shows pixels at new

pub paints_none : (pixels : List Rgb) (These : ℕ → Type 0) (old : Drawing) → ((at : ℕ) → These at → ⊥) → Paints pixels These old old
paints_none pixels These old none = record { colours = refl; flags = refl; keeps = λ at s. s; shows = λ at is. absurd (none at is) }

-- one after another
pub paints_both : (pixels : List Rgb) (These Those All : ℕ → Type 0) (old mid new : Drawing) → Paints pixels These old mid → Paints pixels Those mid new
    → ((at : ℕ) → All at → These at ⊎ Those at) → Paints pixels All old new
paints_both pixels These Those All old mid new first then split = record {
  colours = then.colours ∙ first.colours;
  flags = then.flags ∙ first.flags;
  keeps = λ at s. then.keeps at (first.keeps at s);
  shows = λ at is. by at (split at is);
}
  where
    by : (at : ℕ) → These at ⊎ Those at → Shows pixels at new
    by at (inl is) = then.keeps at (first.shows at is)
    by at (inr is) = then.shows at is

-- the rings alone change
pub paints_rings : (pixels : List Rgb) (old : Drawing) (held : Rings) → Paints pixels (λ at. ⊥) old (drawing old.colours old.drawn held)
paints_rings pixels old held = record { colours = refl; flags = refl; keeps = λ at s. record { colour = s.colour; drawn = s.drawn }; shows = λ at is. absurd is }

-- one pixel
pub paints_one : (pixels : List Rgb) (old : Drawing) (at : ℕ) → at < length old.colours → at < length old.drawn
    → Paints pixels (λ j. j ≡ at) old (drawing (set old.colours at (get_or pixels at black)) (set old.drawn at true) old.rings)
paints_one pixels old at in_colours in_drawn = record {
  colours = length-set old.colours at (get_or pixels at black);
  flags = length-set old.drawn at true;
  keeps = λ j s. by j (cases_eq j at) s;
  shows = λ j is. here j is;
}
  where
    new : Drawing
    new = drawing (set old.colours at (get_or pixels at black)) (set old.drawn at true) old.rings

    here : (j : ℕ) → j ≡ at → Shows pixels j new
    here j is = record {
      colour = ap (λ z. get_or (set old.colours at (get_or pixels at black)) z black) is ∙ get_or-set_same old.colours at (get_or pixels at black) black in_colours ∙ ap (λ z. get_or pixels z black) (sym is);
      drawn = ap (λ z. get_or (set old.drawn at true) z false) is ∙ get_or-set_same old.drawn at true false in_drawn;
    }

    by : (j : ℕ) → ((j ≡ at) ⊎ (j ≢ at)) → Shows pixels j old → Shows pixels j new
    by j (inl is) s = here j is
    by j (inr apart) s = record {
      colour = get_or-set_other old.colours at j (get_or pixels at black) black apart ∙ s.colour;
      drawn = get_or-set_other old.drawn at j true false apart ∙ s.drawn;
    }

-- so many rows of a column
pub record InColumn (width at n j : ℕ) : Type 0 where
  pub row : ℕ
  pub within : row < n
  pub place : j ≡ at + width * row

-- a column of the picture
pub paints_column : (pixels : List Rgb) (width at n : ℕ) (old : Drawing) → ((k : ℕ) → k < n → at + width * k < length old.colours) → length old.drawn ≡ length old.colours
    → Paints pixels (InColumn width at n) old (drawn_down width at (column width pixels at n) old) × ((drawn_down width at (column width pixels at n) old).rings ≡ old.rings)
unfolding drawn_down column
paints_column pixels width at zero old within same = (paints_none pixels (InColumn width at zero) old (λ j is. let low = is.within in omega arith), refl)
paints_column pixels width at (suc n) old within same =
    let first : at < length old.colours = let low = within 0 (omega arith) in omega arith in
    let one = paints_one pixels old at first (omega arith) in
    let mid = drawing (set old.colours at (get_or pixels at black)) (set old.drawn at true) old.rings in
    let rest = paints_column pixels width (at + width) n mid
    (λ k less. let low = within (suc k) (omega arith) in let e = one.colours in omega arith) (one.flags ∙ same ∙ sym one.colours) in
    (paints_both pixels (λ j. j ≡ at) (InColumn width (at + width) n) (InColumn width at (suc n)) old mid (drawn_down width (at + width) (column width pixels (at + width) n) mid) one rest.0 (λ j is. split j is is.row refl), rest.1)
  where
    split : (j : ℕ) (is : InColumn width at (suc n) j) (row : ℕ) → is.row ≡ row → (j ≡ at) ⊎ InColumn width (at + width) n j
    split j is zero e = inl (let p = is.place in let q : width * is.row ≡ 0 = ap (λ z. width * z) e ∙ times_zero width in omega arith)
      where
        times_zero : (m : ℕ) → m * 0 ≡ 0
        times_zero m = omega arith
    split j is (suc row) e = inr (record {
      row = row;
      within = (let low = is.within in omega arith);
      place = (let p = is.place in let q : width * is.row ≡ width + width * row = ap (λ z. width * z) e ∙ times_suc width row in omega arith);
    })
      where
        times_suc : (m k : ℕ) → m * suc k ≡ m + m * k
        times_suc m k = omega arith

-- so many columns of so many rows
pub record InColumns (width at rows n j : ℕ) : Type 0 where
  pub column : ℕ
  pub row : ℕ
  pub inside : column < n
  pub within : row < rows
  pub place : j ≡ at + column + width * row

pub columns_split : (width at rows n j : ℕ) → InColumns width at rows (suc n) j → InColumn width at rows j ⊎ InColumns width (at + 1) rows n j
columns_split width at rows n j is = by is.column refl
  where
    by : (column : ℕ) → is.column ≡ column → InColumn width at rows j ⊎ InColumns width (at + 1) rows n j
    by zero e = inl (record { row = is.row; within = is.within; place = (let p = is.place in omega arith) })
    by (suc column) e = inr (record { column = column; row = is.row; inside = (let low = is.inside in omega arith); within = is.within; place = (let p = is.place in omega arith) })

-- a place of a band is a row of one of its columns
pub in_columns : (width at rows j : ℕ) → 1 ≤ width → at ≤ j → j < at + width * rows → InColumns width at rows width j
in_columns width at rows j some from to = record {
  column = (j - at) % width;
  row = (j - at) / width;
  inside = omega arith;
  within = low (cases_lt ((j - at) / width) rows);
  place = omega arith;
}
  where
    low : (((j - at) / width < rows) ⊎ (rows ≤ (j - at) / width)) → (j - at) / width < rows
    low (inl is) = is
    low (inr over) = let most = mul-le-mul_left width over in absurd (omega (arith, most))

-- a picture of which every pixel was drawn
pub shows_all : (pixels : List Rgb) (new : Drawing) → length new.colours ≡ length pixels → length new.drawn ≡ length pixels → ((at : ℕ) → at < length pixels → Shows pixels at new)
    → new ≡ drawing pixels (replicate (length pixels) true) new.rings
shows_all pixels new colours flags all = λ i. drawing
    (ext_get_or black new.colours pixels colours (λ at within. (all at (omega arith)).colour) i)
    (ext_get_or false new.drawn (replicate (length pixels) true) (flags ∙ sym (length-replicate (length pixels) true)) (λ at within. (all at (omega arith)).drawn ∙ sym (get_or-replicate (length pixels) at true false (omega arith))) i)
    new.rings
