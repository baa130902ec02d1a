-- What a hasher took in by several calls, and what it is still to take in.
use Rattle.std.proofs.Common.{◌≡◌, ◌∙◌, ℕ, ◌+◌, ◌*◌, List, [], ◌++◌, length, take, drop, ap, sym, subst, refl, append_assoc, length-drop, arith}
use Rattle.std.proofs.lemmas.List.{append-nil, take-append-drop, drop-drop, nil_from_length}
use Rattle.std.proofs.lemmas.Grind.{flat_map-append}
use Rattle.sha2.specs.Hashers.{Holds256}
use Rattle.sha2.specs.declared.Sha256.{Sha256}
use Rattle.std.specs.List.{flat_map}
use Rattle.gfx_base.specs.declared.pixel.Pixel.{Pixel}
use Rattle.gfx_surface.specs.Picture.{Picture, row_of, run_of}
use Rattle.gfx_report.specs.Hashing.{Took}
use Rattle.gfx_report.specs.StateBytes.{pixel_bytes, pixels_bytes}

-- nothing
pub Took_nothing : (a : Sha256) → Took a a []
Took_nothing a message holds = subst (Holds256 a) (sym (append-nil message)) holds

-- two calls, one after the other
pub Took-append : (a b c : Sha256) (xs ys : List ℕ) → Took a b xs → Took b c ys → Took a c (xs ++ ys)
Took-append a b c xs ys first second message holds =
    subst (Holds256 c) (append_assoc message xs ys) (second (message ++ xs) (first message holds))

-- whatever takes in the rest has then taken in all that was due
abbrev pub Owes : Sha256 → Sha256 → List ℕ → List ℕ → Type 0
Owes old now due rest = (end : Sha256) → Took now end rest → Took old end due

-- all is still due
pub Owes_all : (a : Sha256) (due rest : List ℕ) → due ≡ rest → Owes a a due rest
Owes_all a due rest same end took = subst (Took a end) (sym same) took

-- the front of what is still due was taken in
pub Owes_front : (a b c : Sha256) (due xs rest : List ℕ) → Owes a b due (xs ++ rest) → Took b c xs → Owes a c due rest
Owes_front a b c due xs rest owes took end more = owes end (Took-append b c end xs rest took more)

-- what is still due, in other words
pub Owes_as : (a b : Sha256) (due rest same : List ℕ) → rest ≡ same → Owes a b due rest → Owes a b due same
Owes_as a b due rest same e owes = subst (Owes a b due) e owes

-- nothing is still due
pub Owes_none : (a b : Sha256) (due rest : List ℕ) → rest ≡ [] → Owes a b due rest → Took a b due
Owes_none a b due rest none owes = owes b (subst (Took b b) (sym none) (Took_nothing b))

-- what is still due of some items is due of a front of them and of the others
pub bytes_cut : {X : Type 0} (f : X → List ℕ) (xs front back : List X) (n : ℕ) → front ≡ take n xs → back ≡ drop n xs
    → flat_map f xs ≡ flat_map f front ++ flat_map f back
bytes_cut f xs front back n e d =
    rw (e, d) (ap (flat_map f) (sym (take-append-drop n xs)) ∙ flat_map-append f (take n xs) (drop n xs))

-- so of pixels
pub pixels_cut : (xs front back : List Pixel) (n : ℕ) → front ≡ take n xs → back ≡ drop n xs → pixels_bytes xs ≡ pixels_bytes front ++ pixels_bytes back
pixels_cut xs front back n e d = bytes_cut pixel_bytes xs front back n e d

-- what is still due of a row is due of a run of it and of the pixels behind
pub row_cut : (picture : Picture) (x y count n : ℕ) → n ≡ count
    → pixels_bytes (drop x (row_of picture y)) ≡ pixels_bytes (run_of picture x y n) ++ pixels_bytes (drop (x + count) (row_of picture y))
row_cut picture x y count n same =
    let row = row_of picture y in
    pixels_cut (drop x row) (run_of picture x y n) (drop (x + count) row) count (ap (λ k. take k (drop x row)) same) (sym (drop-drop count x row))

-- what is still due of a picture is due of a row and of those below
pub rows_cut : (picture : Picture) (y : ℕ)
    → pixels_bytes (drop (y * picture.width) picture.pixels) ≡ pixels_bytes (row_of picture y) ++ pixels_bytes (drop ((y + 1) * picture.width) picture.pixels)
rows_cut picture y =
    let below : (y + 1) * picture.width ≡ y * picture.width + picture.width = omega arith in
    pixels_cut (drop (y * picture.width) picture.pixels) _ _ picture.width refl
    (ap (λ k. drop k picture.pixels) below ∙ sym (drop-drop picture.width (y * picture.width) picture.pixels))

-- behind the last row there are none
pub rows_none : (picture : Picture) (y : ℕ) → length picture.pixels ≡ picture.width * picture.height → y ≡ picture.height
    → pixels_bytes (drop (y * picture.width) picture.pixels) ≡ []
rows_none picture y full last =
    let none : length (drop (y * picture.width) picture.pixels) ≡ 0 = rw (last, length-drop (picture.height * picture.width) picture.pixels) (omega (arith, full)) in
    ap pixels_bytes (nil_from_length _ none)
