-- The short of a column, and the column made of it again.
use Rattle.std.proofs.Common.{◌≡◌, ℕ, suc, ◌+◌, ◌-◌, ◌<◌, ◌≤◌, Bool, true, false, not, cond, List, [], ◌∷◌, ◌++◌, length, take, drop, get_or, refl, sym, ap, ◌∙◌, arith, add-one, drop-cons, append_assoc, append-nil, length-drop}
use Rattle.std.proofs.lemmas.List.{take_more}
use Rattle.gfx_base.specs.declared.pixel.Rgb.{Rgb}
use Rattle.gfx_base.specs.Colour.{same_colour}
use Rattle.gfx_clear_bands.specs.Writing.{black, column, without_front, without_end, before, short_of, row_of, row_unless_none}

pub front_pass : (background c : Rgb) (cs : List Rgb) → same_colour c background ≡ true → without_front background (c ∷ cs) ≡ without_front background cs
unfolding without_front
front_pass background c cs e = ap (λ b. cond b (without_front background cs) (c ∷ cs)) e

pub front_stop : (background c : Rgb) (cs : List Rgb) → same_colour c background ≡ false → without_front background (c ∷ cs) ≡ c ∷ cs
unfolding without_front
front_stop background c cs e = ap (λ b. cond b (without_front background cs) (c ∷ cs)) e

pub front_none : (background : Rgb) → without_front background [] ≡ []
unfolding without_front
front_none background = refl

-- the first pixel that is left isn't background
pub front_first : (background : Rgb) (xs : List Rgb) (c : Rgb) (cs : List Rgb) → without_front background xs ≡ c ∷ cs → same_colour c background ≡ false
front_first background [] c cs e = let none : [] ≡ c ∷ cs = sym (front_none background) ∙ e in absurd cc
front_first background (x ∷ xs) c cs e = by (same_colour x background) refl (front_first background xs c cs)
  where
    by : (b : Bool) → same_colour x background ≡ b → (without_front background xs ≡ c ∷ cs → same_colour c background ≡ false) → same_colour c background ≡ false
    by true is rest = rest (sym (front_pass background x xs is) ∙ e)
    by false is rest = let same : x ∷ xs ≡ c ∷ cs = sym (front_stop background x xs is) ∙ e in let first : x ≡ c = cc in ap (λ z. same_colour z background) (sym first) ∙ is

pub end_before : (background c : Rgb) (cs : List Rgb) → without_end background (c ∷ cs) ≡ before background c (without_end background cs)
unfolding without_end
end_before background c cs = refl

pub end_none : (background : Rgb) → without_end background [] ≡ []
unfolding without_end
end_none background = refl

before_none : (background c : Rgb) → same_colour c background ≡ true → before background c [] ≡ []
before_none background c e = ap (λ b. cond b [] (c ∷ [])) e

before_one : (background c : Rgb) → same_colour c background ≡ false → before background c [] ≡ c ∷ []
before_one background c e = ap (λ b. cond b [] (c ∷ [])) e

-- what isn't background stays, with all before it
pub end_stop : (background c : Rgb) (xs : List Rgb) → same_colour c background ≡ false → without_end background (xs ++ c ∷ []) ≡ xs ++ c ∷ []
end_stop background c [] e = end_before background c [] ∙ ap (before background c) (end_none background) ∙ before_one background c e
end_stop background c (x ∷ xs) e = end_before background x (xs ++ c ∷ []) ∙ ap (before background x) (end_stop background c xs e) ∙ some x xs
  where
    some : (x : Rgb) (ys : List Rgb) → before background x (ys ++ c ∷ []) ≡ x ∷ (ys ++ c ∷ [])
    some x [] = refl
    some x (y ∷ ys) = refl

-- background at the end goes
pub end_goes : (background c : Rgb) (xs : List Rgb) → same_colour c background ≡ true → without_end background (xs ++ c ∷ []) ≡ without_end background xs
end_goes background c [] e = end_before background c [] ∙ ap (before background c) (end_none background) ∙ before_none background c e ∙ sym (end_none background)
end_goes background c (x ∷ xs) e = end_before background x (xs ++ c ∷ []) ∙ ap (before background x) (end_goes background c xs e) ∙ sym (end_before background x xs)

length-before : (background c : Rgb) (cs : List Rgb) → length (before background c cs) ≤ suc (length cs)
length-before background c [] = by (same_colour c background)
  where
    by : (b : Bool) → length (cond b [] (c ∷ [])) ≤ 1
    by true = omega arith
    by false = omega arith
length-before background c (d ∷ ds) = omega arith

pub length-end : (background : Rgb) (cs : List Rgb) → length (without_end background cs) ≤ length cs
length-end background [] = let e = ap length (end_none background) in omega arith
length-end background (c ∷ cs) =
    let rest = length-end background cs in
    let one = length-before background c (without_end background cs) in
    let e = ap length (end_before background c cs) in omega arith

-- some pixel is left where the first isn't background
pub end_some : (background c : Rgb) (cs : List Rgb) (n : ℕ) → same_colour c background ≡ false → row_unless_none (without_end background (c ∷ cs)) n ≡ n
end_some background c cs n e = ap (λ z. row_unless_none z n) (end_before background c cs) ∙ by (without_end background cs)
  where
    by : (ds : List Rgb) → row_unless_none (before background c ds) n ≡ n
    by [] = ap (λ z. row_unless_none z n) (before_one background c e)
    by (d ∷ ds) = refl

-- one step of the walk from the front
pub front_step : (background c : Rgb) (xs : List Rgb) (i : ℕ) (d : Rgb) → i < length xs → c ≡ get_or xs i d → same_colour c background ≡ true
    → without_front background (drop (i + 1) xs) ≡ without_front background (drop i xs)
front_step background c xs i d within read e =
    ap (λ z. without_front background (drop z xs)) (add-one i)
    ∙ sym (ap (without_front background) (drop-cons xs i d within) ∙ front_pass background (get_or xs i d) (drop (suc i) xs) (ap (λ z. same_colour z background) (sym read) ∙ e))

pub front_here : (background c : Rgb) (xs : List Rgb) (i : ℕ) (d : Rgb) → i < length xs → c ≡ get_or xs i d → same_colour c background ≡ false
    → without_front background (drop i xs) ≡ drop i xs
front_here background c xs i d within read e =
    ap (without_front background) (drop-cons xs i d within)
    ∙ front_stop background (get_or xs i d) (drop (suc i) xs) (ap (λ z. same_colour z background) (sym read) ∙ e)
    ∙ sym (drop-cons xs i d within)

nothing : (xs : List Rgb) → length xs ≡ 0 → xs ≡ []
nothing [] e = refl
nothing (x ∷ xs) e = absurd (omega arith)

pub front_end : (background : Rgb) (xs : List Rgb) (i : ℕ) → length xs ≤ i → without_front background (drop i xs) ≡ drop i xs
front_end background xs i past =
    let none = nothing (drop i xs) (omega (arith, length-drop i xs)) in
    ap (without_front background) none ∙ front_none background ∙ sym none

-- and from the end
pub end_step : (background c : Rgb) (xs : List Rgb) (n : ℕ) (d : Rgb) → 0 < n → n ≤ length xs → c ≡ get_or xs (n - 1) d → same_colour c background ≡ true
    → without_end background (take (n - 1) xs) ≡ without_end background (take n xs)
end_step background c xs n d some within read e =
    let one : n - 1 + 1 ≡ n = omega arith in
    sym (ap (λ z. without_end background (take z xs)) (sym one) ∙ ap (without_end background) (take_more xs (n - 1) d (omega arith) ∙ ap (λ z. take (n - 1) xs ++ z ∷ []) (sym read)) ∙ end_goes background c (take (n - 1) xs) e)

pub end_here : (background c : Rgb) (xs : List Rgb) (n : ℕ) (d : Rgb) → 0 < n → n ≤ length xs → c ≡ get_or xs (n - 1) d → same_colour c background ≡ false
    → without_end background (take n xs) ≡ take n xs
end_here background c xs n d some within read e =
    let one : n - 1 + 1 ≡ n = omega arith in
    let parts : take n xs ≡ take (n - 1) xs ++ c ∷ [] = ap (λ z. take z xs) (sym one) ∙ take_more xs (n - 1) d (omega arith) ∙ ap (λ z. take (n - 1) xs ++ z ∷ []) (sym read) in
    ap (without_end background) parts ∙ end_stop background c (take (n - 1) xs) e ∙ sym parts

-- the row where the short begins, from the length of the front
pub row_all : (background : Rgb) (xs : List Rgb) (front : ℕ) → front ≡ length xs → drop front xs ≡ without_front background xs → row_of background xs ≡ 0
row_all background xs front all e =
    let none : without_front background xs ≡ [] = sym e ∙ nothing (drop front xs) (omega (arith, length-drop front xs)) in
    ap (λ z. row_unless_none (without_end background z) (length xs - length z)) none ∙ ap (λ z. row_unless_none z (length xs - 0)) (end_none background)

pub row_some : (background : Rgb) (xs : List Rgb) (front : ℕ) → front < length xs → drop front xs ≡ without_front background xs → row_of background xs ≡ front
row_some background xs front within e = by (without_front background xs) refl
  where
    by : (ys : List Rgb) → without_front background xs ≡ ys → row_of background xs ≡ front
    by [] is = let none = ap length (e ∙ is) in absurd (omega (arith, length-drop front xs))
    by (c ∷ cs) is =
        let long : length (without_front background xs) ≡ length xs - front = sym (ap length e) ∙ length-drop front xs in
        let row : length xs - length (without_front background xs) ≡ front = omega arith in
        ap (λ z. row_unless_none (without_end background z) (length xs - length (without_front background xs))) is
        ∙ end_some background c cs (length xs - length (without_front background xs)) (front_first background xs c cs is) ∙ row

pub length-short : (background : Rgb) (xs : List Rgb) (front : ℕ) → front ≤ length xs → drop front xs ≡ without_front background xs → front + length (short_of background xs) ≤ length xs
length-short background xs front within e =
    let most = length-end background (without_front background xs) in
    let long = ap length e in omega (arith, length-drop front xs)

-- one pixel more of a column
pub column_step : (width : ℕ) (pixels : List Rgb) (at rows row : ℕ) (found : List Rgb) (whole : List Rgb) → row < rows
    → found ++ column width pixels at (rows - row) ≡ whole → (found ++ get_or pixels at black ∷ []) ++ column width pixels (at + width) (rows - (row + 1)) ≡ whole
unfolding column
column_step width pixels at rows row found whole less e =
    let one : rows - row ≡ suc (rows - (row + 1)) = omega arith in
    append_assoc found (get_or pixels at black ∷ []) (column width pixels (at + width) (rows - (row + 1))) ∙ ap (λ z. found ++ column width pixels at z) (sym one) ∙ e

pub column_none : (width : ℕ) (pixels : List Rgb) (at rows row : ℕ) (found : List Rgb) → rows ≤ row → found ≡ found ++ column width pixels at (rows - row)
unfolding column
column_none width pixels at rows row found past =
    let none : rows - row ≡ 0 = omega arith in
    sym (ap (λ z. found ++ column width pixels at z) none ∙ append-nil found)

pub not_same : (r same : Bool) → r ≡ not same → r ≡ true → same ≡ false
not_same r true e is = let clash : false ≡ true = sym e ∙ is in absurd cc
not_same r false e is = refl

pub is_same : (r same : Bool) → r ≡ not same → r ≡ false → same ≡ true
is_same r true e is = refl
is_same r false e is = let clash : true ≡ false = sym e ∙ is in absurd cc
