-- Rows of the output as bytes, put one behind the other.
use Rattle.std.proofs.Common.{◌≡◌, ℕ, ◌+◌, ◌-◌, ◌*◌, ◌<◌, ◌≤◌, suc, List, [], ◌∷◌, ◌++◌, length, get_or, take, drop, refl, sym, ap, ◌∙◌, append_assoc, arith, mul-le-mul_left, drop-cons, add-one, length-take}
use Rattle.std.specs.List.{flat_map, range_with_len}
use Rattle.std.proofs.lemmas.Grind.{flat_map-append}
use Rattle.std.proofs.lemmas.List.{append-nil, take-append-drop, take-take, take_all, take_at}
use Rattle.std.proofs.lemmas.Slice.{take-put_mid}
use Rattle.gfx_surface_map.specs.Composed.{Keeps, output_part, pixel_bytes, rows_bytes}
use Rattle.gfx_surface_map.specs.Shown.{Shown}
use borrow.Rule.Slice.PartMut.{put_mid}

-- the next item's elements are put behind those of the items before it
pub filled_more : {X A : Type 0} (f : X → List A) (n : ℕ) (xs : List X) (old piece : List A) (i k : ℕ) (d : X)
    → ((x : X) → length (f x) ≡ n) → i < length xs → length old ≡ n * length xs → piece ≡ f (get_or xs i d)
    → take (n * i) old ++ flat_map f (drop i xs) ≡ flat_map f xs
    → take (n * (i + 1)) (put_mid (n * i) k old piece) ++ flat_map f (drop (i + 1) xs) ≡ flat_map f xs
filled_more f n xs old piece i k d each below room made so_far =
    let long : length piece ≡ n = ap length made ∙ each (get_or xs i d) in
    let within : n * i ≤ n * length xs = mul-le-mul_left n (omega arith) in
    let step : n * (i + 1) ≡ n * i + length piece = omega arith in
    let next : drop i xs ≡ get_or xs i d ∷ drop (i + 1) xs = rw (add-one, drop-cons xs i d) refl in
    rw (take-put_mid (n * i) k old piece (n * (i + 1)) step (omega arith)) (
    append_assoc (take (n * i) old) piece (flat_map f (drop (i + 1) xs))
    ∙ ap (λ w. take (n * i) old ++ (w ++ flat_map f (drop (i + 1) xs))) made
    ∙ ap (λ w. take (n * i) old ++ flat_map f w) (sym next)
    ∙ so_far)

-- bytes that are put, and those still due
pub record Put (old out whole rest : List ℕ) : Type 0 where
  pub kept : Keeps old out
  pub due : out ++ rest ≡ old ++ whole

pub put_none : (old due : List ℕ) → Put old old due due
put_none old due = record { kept = take_all (length old) old (omega arith); due = refl }

-- what was put first is still there
pub kept_behind : (old out more : List ℕ) → Keeps old out → Keeps old (out ++ more)
kept_behind old out more kept =
    let within : length old ≤ length out = omega (arith, ap length kept, length-take (length old) out) in
    sym (take-take (length old) (length out) (out ++ more) within) ∙ ap (take (length old)) (take_at out more (length out) refl) ∙ kept

-- a piece of what is due is put
pub put_more : (old out new due piece rest left : List ℕ) → new ≡ out ++ piece → rest ≡ piece ++ left → Put old out due rest → Put old new due left
put_more old out new due piece rest left is cut put = record {
  kept = rw is (kept_behind old out piece put.kept);
  due = ap (λ z. z ++ left) is ∙ append_assoc out piece left ∙ ap (λ z. out ++ z) (sym cut) ∙ put.due;
}

pub put_all : (old out due rest : List ℕ) → rest ≡ [] → Put old out due rest → out ≡ old ++ due
put_all old out due rest none put = sym (append-nil out) ∙ ap (λ z. out ++ z) (sym none) ∙ put.due

-- items that are cut in two
pub bytes_cut : {X : Type 0} (f : X → List ℕ) (all piece after : List X) (n : ℕ) → piece ≡ take n all → after ≡ drop n all → flat_map f all ≡ flat_map f piece ++ flat_map f after
bytes_cut f all piece after n front back =
    ap (flat_map f) (sym (take-append-drop n all) ∙ ap (λ z. z ++ drop n all) (sym front) ∙ ap (λ z. piece ++ z) (sym back)) ∙ flat_map-append f piece after

-- the first of so many rows
pub rows_cut : (shown : Shown) (left count y rows less next : ℕ) → rows ≡ suc less → next ≡ y + 1 → rows_bytes shown left count y rows ≡ flat_map pixel_bytes (output_part shown left y count) ++ rows_bytes shown left count next less
rows_cut shown left count y rows less next more behind =
    ap (λ n. rows_bytes shown left count y n) more ∙ ap (λ z. flat_map pixel_bytes (output_part shown left y count) ++ rows_bytes shown left count z less) (sym behind)

pub rows_none : (shown : Shown) (left count y rows : ℕ) → rows ≡ 0 → rows_bytes shown left count y rows ≡ []
rows_none shown left count y rows none = ap (rows_bytes shown left count y) none
