-- The laws of layouts: what is spelled is read whatever follows, a cut text is short, what is read is found.
use Rattle.std.proofs.Common.{◌≡◌, ℕ, ◌+◌, ◌-◌, ◌*◌, ◌<◌, cond, leb, List, [], ◌∷◌, ◌++◌, length, take, drop, map, Ok, Err, refl, sym, ap, ◌∙◌, subst, inl, inr, append_assoc, length-append, length-take, arith}
use Rattle.std.proofs.lemmas.Bool.{le-leb, lt-leb, cases_lt, cond-true, cond-false}
use Rattle.std.proofs.lemmas.List.{append-nil, take-append-le, take_at, drop_at}
use Rattle.std.proofs.Math.Seq.{take-append-add}
use Rattle.std.specs.List.{flat_map, AllByRecursion}
use Rattle.gfx_base.specs.Results.{and_then, check}
use Rattle.gfx_base.proofs.ResultLemmas.{and_then_at, and_then_refused}
use Rattle.gfx_layout.specs.declared.stop.Stop.TheVariants.{Short, Rule}
use Rattle.gfx_layout.specs.Shape.{Size, NumberFits, number_alone, Shape, width, text, part_in, PartFits}
use Rattle.gfx_layout.specs.Layout.{Layout, done, one, items, list, sized, list_text, sized_text, bytes, each, choose, must, Parts, made, Fit, spelled}
use Rattle.gfx_layout.specs.Reading.{Taken, take_bytes, take_one, parts_in, take_items, take_list, take_sized, take_each, read}
use Rattle.gfx_layout.specs.Laws.{Reads}
use Rattle.gfx_layout.proofs.ShapeLaws.{length-text, part_in-text, length-texts, parts_in-texts}

-- ---- what is spelled is read

-- nothing
Reads-done : {X : Type 0} (x : X) → Reads (λ text. Ok (x, text)) [] x
Reads-done x = record { whole = λ more. refl; cut = λ count below. absurd (omega arith) }

-- one reader, and then another
module _ {X Y : Type 0} (first : List ℕ → Taken X) (then : X → List ℕ → Taken Y) where
  both : List ℕ → Taken Y
  both text = and_then (first text) (λ t. then t.0 t.1)

  both-whole : (xs ys more : List ℕ) (x : X) (y : Y) → Reads first xs x → Reads (then x) ys y → both ((xs ++ ys) ++ more) ≡ Ok (y, more)
  unfolding both
  both-whole xs ys more x y r s =
      and_then_at (first ((xs ++ ys) ++ more)) (x, ys ++ more) (λ t. then t.0 t.1) (ap first (append_assoc xs ys more) ∙ r.whole (ys ++ more))
      ∙ s.whole more

  both-cut : (xs ys : List ℕ) (x : X) (y : Y) → Reads first xs x → Reads (then x) ys y → (count : ℕ) → count < length (xs ++ ys) → both (take count (xs ++ ys)) ≡ Err Short
  unfolding both
  both-cut xs ys x y r s count below =
      elim (cases_lt count (length xs)) [
        | inl early ↦
            and_then_refused (first (take count (xs ++ ys))) Short (λ t. then t.0 t.1)
            (ap first (take-append-le count xs ys (omega arith)) ∙ r.cut count early)
        | inr late ↦
            let rest = count - length xs in
            let split : count ≡ length xs + rest = omega arith in
            let here : take count (xs ++ ys) ≡ xs ++ take rest ys = ap (λ n. take n (xs ++ ys)) split ∙ take-append-add xs ys rest in
            and_then_at (first (take count (xs ++ ys))) (x, take rest ys) (λ t. then t.0 t.1) (ap first here ∙ r.whole (take rest ys))
            ∙ s.cut rest (omega (arith, length-append xs ys))
      ]

  Reads-both : (xs ys : List ℕ) (x : X) (y : Y) → Reads first xs x → Reads (then x) ys y → Reads (λ text. and_then (first text) (λ t. then t.0 t.1)) (xs ++ ys) y
  unfolding both
  Reads-both xs ys x y r s = record { whole = λ more. both-whole xs ys more x y r s; cut = λ count below. both-cut xs ys x y r s count below }

-- what needs so many bytes
needs : {X : Type 0} (need : ℕ) (at : List ℕ → X × List ℕ) (text : List ℕ) (x : X)
    → length text ≡ need → ((more : List ℕ) → at (text ++ more) ≡ (x, more))
    → Reads (λ t. cond (leb need (length t)) (Ok (at t)) (Err Short)) text x
needs need at text x exact reads = record {
  whole = λ more.
      cond-true (leb need (length (text ++ more))) (Ok (at (text ++ more))) (Err Short) (le-leb _ _ (omega (arith, length-append text more)))
      ∙ ap (λ t. Ok t) (reads more);
  cut = λ count below. cond-false (leb need (length (take count text))) (Ok (at (take count text))) (Err Short) (lt-leb _ _ (omega (arith, length-take count text)));
}

Reads-one : {T : Type 0} (shape : Shape T) (part : T) → PartFits shape part → Reads (take_one shape) (text shape part) part
unfolding take_one
Reads-one shape part fits =
    needs (width shape) (λ t. (part_in shape t, drop (width shape) t)) (text shape part) part (length-text shape part)
    (λ more. let behind : drop (width shape) (text shape part ++ more) ≡ more = drop_at (text shape part) more (width shape) (length-text shape part) in
    rw (part_in-text shape part more fits, behind) refl)

Reads-items : {T : Type 0} (shape : Shape T) (parts : List T) (count : ℕ) → length parts ≡ count → AllByRecursion (PartFits shape) parts → Reads (take_items shape count) (flat_map (text shape) parts) parts
unfolding take_items
Reads-items shape parts count long fits =
    let all = flat_map (text shape) parts in
    let exact : length all ≡ count * width shape = length-texts shape parts ∙ ap (λ n. n * width shape) long in
    needs (count * width shape) (λ t. (parts_in shape count t, drop (count * width shape) t)) all parts exact
    (λ more. let behind : drop (count * width shape) (all ++ more) ≡ more = drop_at all more (count * width shape) exact in
    let here : parts_in shape count (all ++ more) ≡ parts = ap (λ n. parts_in shape n (all ++ more)) (sym long) ∙ parts_in-texts shape parts more fits in
    rw (here, behind) refl)

Reads-bytes : (some : List ℕ) (count : ℕ) → length some ≡ count → Reads (take_bytes count) some some
unfolding take_bytes
Reads-bytes some count long =
    needs count (λ t. (take count t, drop count t)) some some long
    (λ more. let here : take count (some ++ more) ≡ some = take_at some more count long in
    let behind : drop count (some ++ more) ≡ more = drop_at some more count long in
    rw (here, behind) refl)

Reads-list : {T : Type 0} (size : Size) (shape : Shape T) (parts : List T) → NumberFits size (length parts) → AllByRecursion (PartFits shape) parts → Reads (take_list size shape) (list_text size shape parts) parts
unfolding take_list
Reads-list size shape parts count fits =
    Reads-both (take_one (number_alone size)) (λ n t. take_items shape n t) (text (number_alone size) (length parts)) (flat_map (text shape) parts) (length parts) parts
    (Reads-one (number_alone size) (length parts) (count, tt)) (Reads-items shape parts (length parts) refl fits)

Reads-sized : (size : Size) (some : List ℕ) → NumberFits size (length some) → Reads (take_sized size) (sized_text size some) some
unfolding take_sized
Reads-sized size some count =
    Reads-both (take_one (number_alone size)) (λ n t. take_bytes n t) (text (number_alone size) (length some)) some (length some) some
    (Reads-one (number_alone size) (length some) (count, tt)) (Reads-bytes some (length some) refl)

-- items, each by a reader of its own
Reads-each : {P T : Type 0} (reader : List ℕ → Taken T) (spell : P → List ℕ) (make : P → T) (IsFit : P → Type 0)
    → ((p : P) → IsFit p → Reads reader (spell p) (make p))
    → (parts : List P) → AllByRecursion IsFit parts → Reads (take_each reader (length parts)) (flat_map spell parts) (map make parts)
unfolding take_each
Reads-each reader spell make IsFit reads [] fit = Reads-done []
Reads-each {P} {T} reader spell make IsFit reads (p ∷ parts) fit =
    let others : Reads (take_each reader (length parts)) (flat_map spell parts) (map make parts) = Reads-each reader spell make IsFit reads parts fit.1 in
    let last : Reads (λ t. and_then (take_each reader (length parts) t) (λ o. Ok (make p ∷ o.0, o.1))) (flat_map spell parts ++ []) (make p ∷ map make parts) =
    Reads-both (take_each reader (length parts)) (λ xs t. Ok (make p ∷ xs, t)) (flat_map spell parts) [] (map make parts) (make p ∷ map make parts) others (Reads-done (make p ∷ map make parts)) in
    Reads-both reader (λ x t. and_then (take_each reader (length parts) t) (λ o. Ok (x ∷ o.0, o.1))) (spell p) (flat_map spell parts) (make p) (make p ∷ map make parts)
    (reads p fit.0)
    (subst (λ t. Reads (λ s. and_then (take_each reader (length parts) s) (λ o. Ok (make p ∷ o.0, o.1))) t (make p ∷ map make parts)) (append-nil (flat_map spell parts)) last)

-- what is spelled by a layout is read by it
pub Reads-layout : {R : Type 0} (layout : Layout R) (p : Parts layout) → Fit layout p → Reads (read layout) (spelled layout p) (made layout p)
unfolding read and_then
Reads-layout (done r) p fit = Reads-done r
Reads-layout (one shape rest) p fit =
    Reads-both (take_one shape) (λ part t. read (rest part) t) (text shape p.0) (spelled (rest p.0) p.1) p.0 (made (rest p.0) p.1)
    (Reads-one shape p.0 fit.0) (Reads-layout (rest p.0) p.1 fit.1)
Reads-layout (items shape count rest) p fit =
    Reads-both (take_items shape count) (λ parts t. read (rest parts) t) (flat_map (text shape) p.0) (spelled (rest p.0) p.1) p.0 (made (rest p.0) p.1)
    (Reads-items shape p.0 count fit.0 fit.1.0) (Reads-layout (rest p.0) p.1 fit.1.1)
Reads-layout (list size shape rest) p fit =
    Reads-both (take_list size shape) (λ parts t. read (rest parts) t) (list_text size shape p.0) (spelled (rest p.0) p.1) p.0 (made (rest p.0) p.1)
    (Reads-list size shape p.0 fit.0 fit.1.0) (Reads-layout (rest p.0) p.1 fit.1.1)
Reads-layout (sized size rest) p fit =
    Reads-both (take_sized size) (λ some t. read (rest some) t) (sized_text size p.0) (spelled (rest p.0) p.1) p.0 (made (rest p.0) p.1)
    (Reads-sized size p.0 fit.0) (Reads-layout (rest p.0) p.1 fit.1)
Reads-layout (bytes count rest) p fit =
    Reads-both (take_bytes count) (λ some t. read (rest some) t) p.0 (spelled (rest p.0) p.1) p.0 (made (rest p.0) p.1)
    (Reads-bytes p.0 count fit.0) (Reads-layout (rest p.0) p.1 fit.1)
Reads-layout (each item count rest) p fit =
    let made_all = map (made item) p.0 in
    Reads-both (take_each (read item) count) (λ parts t. read (rest parts) t) (flat_map (spelled item) p.0) (spelled (rest made_all) p.1) made_all (made (rest made_all) p.1)
    (subst (λ n. Reads (take_each (read item) n) (flat_map (spelled item) p.0) made_all) fit.0 (Reads-each (read item) (spelled item) (made item) (Fit item) (Reads-layout item) p.0 fit.1.0))
    (Reads-layout (rest made_all) p.1 fit.1.1)
Reads-layout (choose test first second) (inl a) fit =
    subst (λ b. Reads (λ t. cond b (read first t) (read second t)) (spelled first a) (made first a)) (sym fit.0) (Reads-layout first a fit.1)
Reads-layout (choose test first second) (inr b) fit =
    subst (λ c. Reads (λ t. cond c (read first t) (read second t)) (spelled second b) (made second b)) (sym fit.0) (Reads-layout second b fit.1)
Reads-layout (must test refusal rest) p fit =
    subst (λ b. Reads (λ t. and_then (check (Rule refusal) b) (λ _. read rest t)) (spelled rest p) (made rest p)) (sym fit.0) (Reads-layout rest p fit.1)
