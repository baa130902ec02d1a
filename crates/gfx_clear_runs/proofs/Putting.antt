-- What a writer has appended so far.
use Rattle.std.proofs.Common.{◌≡◌, ℕ, ◌<◌, ◌≤◌, true, false, List, [], ◌∷◌, ◌++◌, length, take, drop, zero, suc, refl, sym, ap, ◌∙◌, arith, append_assoc, length-drop, length-append, replicate, get_or}
use Rattle.std.specs.List.{flat_map}
use Rattle.std.proofs.lemmas.List.{append-nil, take_at}
use Rattle.gfx_base.specs.declared.pixel.Rgb.{Rgb}
use Rattle.gfx_base.specs.Colour.{same_colour}
use Rattle.gfx_base.proofs.Palettes.{same_itself}
use Rattle.gfx_clear_runs.specs.Writing.{Run, run, longest_runs}
use Rattle.gfx_clear_runs.specs.Inner.{begins, IsGrown}
use Rattle.gfx_clear_runs.proofs.Colours.{longest_split}

pub grown_none : (old : List ℕ) → IsGrown old old
grown_none old = ([], sym (append-nil old))

pub grown_more : (old now new : List ℕ) → IsGrown old now → IsGrown now new → IsGrown old new
grown_more old now new (first, e) (second, f) = (first ++ second, f ∙ (ap (λ z. z ++ second) e ∙ append_assoc old first second))

pub grown_by : (old now new more : List ℕ) → IsGrown old now → new ≡ now ++ more → IsGrown old new
grown_by old now new more g e = grown_more old now new g (more, e)

pub grown_back : (old new : List ℕ) → IsGrown old new → take (length old) new ≡ old
grown_back old new (more, e) = rw e (take_at old more (length old) refl)

pub grown_longer : (old new : List ℕ) → IsGrown old new → length old ≤ length new
grown_longer old new (more, e) = omega (arith, ap length e, length-append old more)

-- what is written is due for pixels, and the rest of them
pub record Due (spell : Run → List ℕ) (pixels : List Rgb) (old : List ℕ) (rest : List Rgb) (now : List ℕ) : Type 0 where
  pub same : old ++ flat_map spell (longest_runs pixels) ≡ now ++ flat_map spell (longest_runs rest)
  pub grown : IsGrown old now
  pub less : length rest ≤ length pixels

pub due_first : (spell : Run → List ℕ) (pixels : List Rgb) (old : List ℕ) → Due spell pixels old pixels old
due_first spell pixels old = record { same = refl; grown = grown_none old; less = omega arith }

pub due_more : (spell : Run → List ℕ) (pixels : List Rgb) (old : List ℕ) (rest : List Rgb) (now : List ℕ) (n : ℕ) (colour : Rgb) (after : List Rgb) (new : List ℕ)
    → Due spell pixels old rest now → 0 < n → take n rest ≡ replicate n colour → begins colour (drop n rest) ≡ false → after ≡ drop n rest → new ≡ now ++ spell (run colour n)
    → Due spell pixels old after new
due_more spell pixels old rest now n colour after new due some e f g h = record {
  same = due.same ∙ (ap (λ z. now ++ flat_map spell z) (longest_split n colour rest some e f)
      ∙ (sym (append_assoc now (spell (run colour n)) (flat_map spell (longest_runs (drop n rest))))
      ∙ (ap (λ z. z ++ flat_map spell (longest_runs (drop n rest))) (sym h) ∙ ap (λ z. new ++ flat_map spell (longest_runs z)) (sym g))));
  grown = grown_by old now new (spell (run colour n)) due.grown h;
  less = omega (arith, due.less, length-drop n rest, ap length g);
}

pub due_all : (spell : Run → List ℕ) (pixels : List Rgb) (old : List ℕ) (rest : List Rgb) (now : List ℕ) → Due spell pixels old rest now → length rest ≡ 0
    → now ≡ old ++ flat_map spell (longest_runs pixels)
unfolding longest_runs
due_all spell pixels old [] now due e = sym (due.same ∙ append-nil now)
due_all spell pixels old (pixel ∷ rest) now due e = absurd (omega arith)

-- a pixel at the front is a run of at least one
pub some_front : (n : ℕ) (other : Rgb) (rest : List Rgb) → 0 < length rest → begins (get_or rest 0 other) (drop n rest) ≡ false → 0 < n
unfolding begins
some_front zero other [] some e = absurd (omega arith)
some_front zero other (pixel ∷ rest) some e = let f : same_colour pixel pixel ≡ true = same_itself pixel in absurd cc
some_front (suc n) other rest some e = omega arith
