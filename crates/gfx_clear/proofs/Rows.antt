-- Rows of pixels in a picture.
use Rattle.std.proofs.Common.{◌≡◌, ℕ, zero, suc, ◌+◌, ◌-◌, ◌*◌, ◌<◌, ◌≤◌, true, List, [], ◌∷◌, ◌++◌, length, take, drop, replicate, sym, ap, ◌∙◌, arith, append_assoc, append-nil, length-append, length-take, length-drop}
use Rattle.std.proofs.lemmas.List.{take_at, drop_at, drop_all, drop-drop, take-append-drop, length-replicate, replicate-append-replicate}
use Rattle.std.proofs.Math.Nat.{mul-le-mul_left}
use Rattle.gfx_base.specs.declared.pixel.Rgb.{Rgb}
use Rattle.gfx_clear_bands.specs.Bands.{Drawing, drawing}
use Rattle.gfx_clear.specs.Parts.{covered_by}
use Rattle.gfx_clear.specs.Subcodecs.{overwritten, row_drawn, rows_drawn}

-- one row more
pub rows_step : (across width at rows row : ℕ) (pixels first others : List Rgb) (old new : Drawing) → row < rows → first ≡ take width pixels → others ≡ drop width pixels
    → new ≡ row_drawn at first old → rows_drawn across width (at + across) (rows - (row + 1)) others new ≡ rows_drawn across width at (rows - row) pixels old
unfolding rows_drawn
rows_step across width at rows row pixels first others old new less e f same =
    let one : rows - row ≡ suc (rows - (row + 1)) = omega arith in
    (λ i. rows_drawn across width (at + across) (rows - (row + 1)) (f i) ((same ∙ ap (λ z. row_drawn at z old) e) i))
    ∙ sym (ap (λ z. rows_drawn across width at z pixels old) one)

-- no row more
pub rows_end : (across width at rows row : ℕ) (pixels : List Rgb) (old : Drawing) → rows ≤ row → rows_drawn across width at (rows - row) pixels old ≡ old
unfolding rows_drawn
rows_end across width at rows row pixels old past = let none : rows - row ≡ 0 = omega arith in ap (λ z. rows_drawn across width at z pixels old) none

-- a row of a rectangle is in the picture
pub row_within : (across x y width height row at long : ℕ) → row < height → at ≡ (y + row) * across + x → x + width ≤ across → across * (y + height) ≤ long → at + width ≤ long
row_within across x y width height row at long less place inside room =
    let next : y + (row + 1) ≤ y + height = omega arith in
    let most = mul-le-mul_left across next in
    omega (arith, most)

pub length-overwritten : {A : Type 0} (at : ℕ) (items old : List A) → at + length items ≤ length old → length (overwritten at items old) ≡ length old
length-overwritten at items old within =
    omega (arith, length-append (take at old) (items ++ drop (length items) (drop at old)), length-append items (drop (length items) (drop at old)), length-take at old, length-drop (length items) (drop at old), length-drop at old)

-- one run behind another is both
overwritten_both : {A : Type 0} (at : ℕ) (xs ys old : List A) → at + length xs ≤ length old → overwritten (at + length xs) ys (overwritten at xs old) ≡ overwritten at (xs ++ ys) old
overwritten_both at xs ys old within =
    let front = take at old in
    let behind = drop (length xs) (drop at old) in
    let long : length (front ++ xs) ≡ at + length xs = omega (arith, length-append front xs, length-take at old) in
    let taken : take (at + length xs) (overwritten at xs old) ≡ front ++ xs = ap (take (at + length xs)) (sym (append_assoc front xs behind)) ∙ take_at (front ++ xs) behind (at + length xs) long in
    let left : drop (at + length xs) (overwritten at xs old) ≡ behind = ap (drop (at + length xs)) (sym (append_assoc front xs behind)) ∙ drop_at (front ++ xs) behind (at + length xs) long in
    let rest : drop (length ys) behind ≡ drop (length (xs ++ ys)) (drop at old) = drop-drop (length ys) (length xs) (drop at old) ∙ ap (λ n. drop n (drop at old)) (sym (length-append xs ys)) in
    (λ i. taken i ++ (ys ++ drop (length ys) (left i)))
    ∙ append_assoc front xs (ys ++ drop (length ys) behind)
    ∙ ap (λ z. front ++ z) (sym (append_assoc xs ys (drop (length ys) behind)) ∙ ap (λ z. (xs ++ ys) ++ z) rest)

overwritten_none : {A : Type 0} (at : ℕ) (old : List A) → overwritten at [] old ≡ old
overwritten_none at old = take-append-drop at old

overwritten_all : {A : Type 0} (items old : List A) → length items ≡ length old → overwritten 0 items old ≡ items
overwritten_all items old e = ap (λ z. items ++ z) (drop_all (length items) old (omega arith)) ∙ append-nil items

-- rows over the whole width are one run
rows_whole : (width rows at : ℕ) (pixels : List Rgb) (old : Drawing) → length pixels ≡ width * rows → at + width * rows ≤ length old.colours → at + width * rows ≤ length old.drawn
    → rows_drawn width width at rows pixels old ≡ row_drawn at pixels old
unfolding rows_drawn
rows_whole width zero at [] old whole colours flags = λ i. drawing (sym (overwritten_none at old.colours) i) (sym (overwritten_none at old.drawn) i) old.rings
rows_whole width zero at (p ∷ ps) old whole colours flags = absurd (omega arith)
rows_whole width (suc rows) at pixels old whole colours flags =
    let product : width * suc rows ≡ width + width * rows = omega arith in
    let first = take width pixels in
    let others = drop width pixels in
    let one : length first ≡ width = omega (arith, length-take width pixels) in
    let left : length others ≡ width * rows = omega (arith, length-drop width pixels) in
    let mid = row_drawn at first old in
    let marks = replicate (length first) true in
    let marked = length-replicate (length first) true in
    let long = length-overwritten at first old.colours (omega arith) in
    let flagged = length-overwritten at marks old.drawn (omega arith) in
    let next = rows_whole width rows (at + width) others mid left (omega arith) (omega arith) in
    let colours_are : overwritten (at + width) others mid.colours ≡ overwritten at pixels old.colours =
    ap (λ n. overwritten (at + n) others mid.colours) (sym one) ∙ overwritten_both at first others old.colours (omega arith) ∙ ap (λ z. overwritten at z old.colours) (take-append-drop width pixels) in
    let all : marks ++ replicate (length others) true ≡ replicate (length pixels) true =
    replicate-append-replicate (length first) (length others) true ∙ ap (λ n. replicate n true) (let e : length first + length others ≡ length pixels = omega arith in e) in
    let flags_are : overwritten (at + width) (replicate (length others) true) mid.drawn ≡ overwritten at (replicate (length pixels) true) old.drawn =
    ap (λ n. overwritten (at + n) (replicate (length others) true) mid.drawn) (sym (marked ∙ one)) ∙ overwritten_both at marks (replicate (length others) true) old.drawn (omega arith) ∙ ap (λ z. overwritten at z old.drawn) all in
    next ∙ (λ i. drawing (colours_are i) (flags_are i) old.rings)

-- and over the whole picture they cover it
pub rows_cover : (width rows : ℕ) (pixels : List Rgb) (old : Drawing) → length pixels ≡ width * rows → length old.colours ≡ width * rows → length old.drawn ≡ width * rows
    → rows_drawn width width 0 rows pixels old ≡ covered_by pixels old
rows_cover width rows pixels old whole colours flags =
    rows_whole width rows 0 pixels old whole (omega arith) (omega arith)
    ∙ (λ i. drawing (overwritten_all pixels old.colours (omega arith) i) (overwritten_all (replicate (length pixels) true) old.drawn (omega (arith, length-replicate (length pixels) true)) i) old.rings)
