-- Pixels with what is drawn over them.
use Rattle.std.proofs.Common.{◌≡◌, ℕ, zero, suc, ◌+◌, ◌<◌, ◌≤◌, Bool, true, false, List, [], ◌∷◌, ◌++◌, length, map, take, drop, get_or, replicate, refl, sym, ap, ◌∙◌, arith, set}
use Rattle.std.proofs.lemmas.List.{take_more, take_more_set, take_all, drop-set-lt, drop-drop, get_or-drop}
use Rattle.gfx_base.specs.declared.pixel.Pixel.{Pixel}
use Rattle.gfx_base.specs.declared.pixel.Rgb.{Rgb}
use Rattle.gfx_clear.specs.Painting.{drawn_over}
use Rattle.gfx_base.specs.Colour.{opaque}

pub length-drawn_over : (ps : List Pixel) (cs : List Rgb) (ds : List Bool) → length cs ≡ length ps → length ds ≡ length ps → length (drawn_over ps cs ds) ≡ length ps
unfolding drawn_over
length-drawn_over [] cs ds e f = refl
length-drawn_over (p ∷ ps) [] ds e f = absurd (omega arith)
length-drawn_over (p ∷ ps) (c ∷ cs) [] e f = absurd (omega arith)
length-drawn_over (p ∷ ps) (c ∷ cs) (true ∷ ds) e f = ap suc (length-drawn_over ps cs ds (omega arith) (omega arith))
length-drawn_over (p ∷ ps) (c ∷ cs) (false ∷ ds) e f = ap suc (length-drawn_over ps cs ds (omega arith) (omega arith))

-- where something is drawn
pub get_or-drawn : (ps : List Pixel) (cs : List Rgb) (ds : List Bool) (k : ℕ) (p : Pixel) (c : Rgb) (d : Bool) → k < length ps → length cs ≡ length ps → length ds ≡ length ps
    → get_or ds k d ≡ true → get_or (drawn_over ps cs ds) k p ≡ opaque (get_or cs k c)
unfolding drawn_over
get_or-drawn [] cs ds k p c d within e f is = absurd (omega arith)
get_or-drawn (q ∷ ps) [] ds k p c d within e f is = absurd (omega arith)
get_or-drawn (q ∷ ps) (b ∷ cs) [] k p c d within e f is = absurd (omega arith)
get_or-drawn (q ∷ ps) (b ∷ cs) (true ∷ ds) zero p c d within e f is = refl
get_or-drawn (q ∷ ps) (b ∷ cs) (false ∷ ds) zero p c d within e f is = absurd cc
get_or-drawn (q ∷ ps) (b ∷ cs) (true ∷ ds) (suc k) p c d within e f is = get_or-drawn ps cs ds k p c d (omega arith) (omega arith) (omega arith) is
get_or-drawn (q ∷ ps) (b ∷ cs) (false ∷ ds) (suc k) p c d within e f is = get_or-drawn ps cs ds k p c d (omega arith) (omega arith) (omega arith) is

-- and where nothing is
pub get_or-kept : (ps : List Pixel) (cs : List Rgb) (ds : List Bool) (k : ℕ) (p : Pixel) (d : Bool) → k < length ps → length cs ≡ length ps → length ds ≡ length ps
    → get_or ds k d ≡ false → get_or (drawn_over ps cs ds) k p ≡ get_or ps k p
unfolding drawn_over
get_or-kept [] cs ds k p d within e f is = absurd (omega arith)
get_or-kept (q ∷ ps) [] ds k p d within e f is = absurd (omega arith)
get_or-kept (q ∷ ps) (b ∷ cs) [] k p d within e f is = absurd (omega arith)
get_or-kept (q ∷ ps) (b ∷ cs) (true ∷ ds) zero p d within e f is = absurd cc
get_or-kept (q ∷ ps) (b ∷ cs) (false ∷ ds) zero p d within e f is = refl
get_or-kept (q ∷ ps) (b ∷ cs) (true ∷ ds) (suc k) p d within e f is = get_or-kept ps cs ds k p d (omega arith) (omega arith) (omega arith) is
get_or-kept (q ∷ ps) (b ∷ cs) (false ∷ ds) (suc k) p d within e f is = get_or-kept ps cs ds k p d (omega arith) (omega arith) (omega arith) is

-- where all is drawn
pub all_drawn_over : (ps : List Pixel) (cs : List Rgb) → length cs ≡ length ps → drawn_over ps cs (replicate (length cs) true) ≡ map opaque cs
unfolding drawn_over
all_drawn_over [] [] e = refl
all_drawn_over [] (c ∷ cs) e = absurd (omega arith)
all_drawn_over (p ∷ ps) [] e = absurd (omega arith)
all_drawn_over (p ∷ ps) (c ∷ cs) e = ap (λ z. opaque c ∷ z) (all_drawn_over ps cs (omega arith))

-- the first pixels of a list, and the others
pub record Over (old : List Pixel) (cs : List Rgb) (ds : List Bool) (i : ℕ) (now : List Pixel) : Type 0 where
  pub done : take i now ≡ take i (drawn_over old cs ds)
  pub others : drop i now ≡ drop i old

-- the next pixel is drawn
pub over_drawn : (old now : List Pixel) (cs : List Rgb) (ds : List Bool) (i : ℕ) (p : Pixel) (c : Rgb) (d : Bool) → i < length old → length now ≡ length old → length cs ≡ length old → length ds ≡ length old
    → p ≡ opaque (get_or cs i c) → get_or ds i d ≡ true → Over old cs ds i now → Over old cs ds (i + 1) (set now i p)
over_drawn old now cs ds i p c d within long e f same is over =
    let due = length-drawn_over old cs ds e f in
    record {
      done = take_more_set now i p (omega arith) ∙ (λ k. over.done k ++ (same ∙ sym (get_or-drawn old cs ds i p c d within e f is)) k ∷ []) ∙ sym (take_more (drawn_over old cs ds) i p (omega arith));
      others = drop-set-lt (i + 1) now i p (omega arith) ∙ sym (drop-drop 1 i now) ∙ ap (drop 1) over.others ∙ drop-drop 1 i old;
    }

-- or stays
pub over_kept : (old now : List Pixel) (cs : List Rgb) (ds : List Bool) (i : ℕ) (p : Pixel) (d : Bool) → i < length old → length now ≡ length old → length cs ≡ length old → length ds ≡ length old
    → get_or ds i d ≡ false → Over old cs ds i now → Over old cs ds (i + 1) now
over_kept old now cs ds i p d within long e f is over =
    let due = length-drawn_over old cs ds e f in
    let here : get_or now i p ≡ get_or (drawn_over old cs ds) i p =
    sym (get_or_here now) ∙ ap (λ z. get_or z 0 p) over.others ∙ get_or_here old ∙ sym (get_or-kept old cs ds i p d within e f is) in
    record {
      done = take_more now i p (omega arith) ∙ (λ k. over.done k ++ here k ∷ []) ∙ sym (take_more (drawn_over old cs ds) i p (omega arith));
      others = sym (drop-drop 1 i now) ∙ ap (drop 1) over.others ∙ drop-drop 1 i old;
    }
  where
    get_or_here : (xs : List Pixel) → get_or (drop i xs) 0 p ≡ get_or xs i p
    get_or_here xs = get_or-drop i xs 0 p ∙ ap (λ z. get_or xs z p) (let e : i + 0 ≡ i = omega arith in e)

-- all are done
pub over_all : (old now : List Pixel) (cs : List Rgb) (ds : List Bool) (i : ℕ) → length now ≡ length old → length old ≤ i → length cs ≡ length old → length ds ≡ length old → Over old cs ds i now → now ≡ drawn_over old cs ds
over_all old now cs ds i long past e f over =
    let due = length-drawn_over old cs ds e f in
    sym (take_all i now (omega arith)) ∙ over.done ∙ take_all i (drawn_over old cs ds) (omega arith)
