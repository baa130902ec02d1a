-- The laws of layouts: what is read is found in the bytes, part by part, and how long a spelling is.
use Rattle.std.proofs.Common.{◌≡◌, ℕ, zero, suc, ◌*◌, ◌≤◌, true, false, cond, leb, List, [], ◌∷◌, ◌++◌, length, take, drop, map, Ok, Err, refl, sym, ap, ◌∙◌, subst, inl, inr, append_assoc, length-append, arith}
use Rattle.std.proofs.lemmas.Bool.{leb-true, cases_Bool, eqb-true}
use Rattle.std.proofs.lemmas.List.{append-nil, take-append-drop, length-take-le, nil_from_length}
use Rattle.std.proofs.lemmas.List.Sums.{sum_by-cons}
use Rattle.std.specs.List.{flat_map, AllByRecursion, sum_by}
use Rattle.gfx_base.specs.Field.{IsBytes}
use Rattle.gfx_base.specs.Results.{and_then, check}
use Rattle.gfx_base.proofs.ResultLemmas.{and_then_ok, check_ok}
use Rattle.gfx_layout.specs.declared.stop.Stop.TheVariants.{Short, Long, Rule}
use Rattle.gfx_layout.specs.Shape.{Size, NumberFits, number_alone, Shape, width, text, part_in, PartFits}
use Rattle.gfx_layout.specs.Layout.{Layout, done, one, items, list, sized, list_text, sized_text, bytes, each, choose, must, Parts, made, Fit, spelled, measured}
use Rattle.gfx_layout.specs.Reading.{Taken, take_bytes, take_one, parts_in, take_items, take_list, take_sized, take_each, read, read_whole}
use Rattle.gfx_layout.specs.Laws.{Found}
use Rattle.gfx_layout.proofs.ShapeLaws.{length-text, text-part_in, part_in-fits, length-texts, length-parts_in, texts-parts_in, parts_in-fit}
use Rattle.gfx_layout.proofs.LayoutLaws.{Reads-layout}

-- ---- what is read is found

-- these bytes begin with the spelling of x, which is as it has to be
record Begins {X : Type 0} (spell : X → List ℕ) (Is : X → Type 0) (text : List ℕ) (x : X) (more : List ℕ) : Type 0 where
  is : Is x
  splits : text ≡ spell x ++ more

-- bytes behind others
behind_bytes : (front more text : List ℕ) → IsBytes text → text ≡ front ++ more → IsBytes more
behind_bytes [] more text all e i = rw e at (all i)
behind_bytes (x ∷ front) more text all e i =
    behind_bytes front more (front ++ more) (λ j. let whole : IsBytes (x ∷ (front ++ more)) = subst IsBytes e all in whole (suc j)) refl i

-- what needed so many bytes
had : {X : Type 0} (need : ℕ) (text : List ℕ) (x found : X × List ℕ) → cond (leb need (length text)) (Ok x) (Err Short) ≡ Ok found → (need ≤ length text) × (x ≡ found)
had need text x found e =
    elim (cases_Bool (leb need (length text))) [
      | inl enough ↦ let given = rw enough at e in (leb-true _ _ enough, let same : x ≡ found = cc in same)
      | inr missing ↦ let given = rw missing at e in absurd cc
    ]

one-begins : {T : Type 0} (shape : Shape T) (from : List ℕ) (found : T × List ℕ) → IsBytes from → take_one shape from ≡ Ok found → Begins (text shape) (PartFits shape) from found.0 found.1
unfolding take_one
one-begins shape from found all e =
    let h = had (width shape) from (part_in shape from, drop (width shape) from) found e in
    subst (λ f. Begins (text shape) (PartFits shape) from f.0 f.1) h.1
    (record { is = part_in-fits shape from all; splits = text-part_in shape from all h.0 })

-- so many parts that fit
AreParts : {T : Type 0} → Shape T → ℕ → List T → Type 0
AreParts shape count parts = (length parts ≡ count) × AllByRecursion (PartFits shape) parts

items-begin : {T : Type 0} (shape : Shape T) (count : ℕ) (from : List ℕ) (found : List T × List ℕ) → IsBytes from → take_items shape count from ≡ Ok found → Begins (flat_map (text shape)) (AreParts shape count) from found.0 found.1
unfolding take_items AreParts
items-begin shape count from found all e =
    let h = had (count * width shape) from (parts_in shape count from, drop (count * width shape) from) found e in
    subst (λ f. Begins (flat_map (text shape)) (AreParts shape count) from f.0 f.1) h.1
    (record { is = (length-parts_in shape count from, parts_in-fit shape count from all); splits = texts-parts_in shape count from all h.0 })

bytes-begin : (count : ℕ) (from : List ℕ) (found : List ℕ × List ℕ) → take_bytes count from ≡ Ok found → Begins (λ some. some) (λ some. length some ≡ count) from found.0 found.1
unfolding take_bytes
bytes-begin count from found e =
    let h = had count from (take count from, drop count from) found e in
    subst (λ f. Begins (λ some. some) (λ some. length some ≡ count) from f.0 f.1) h.1
    (record { is = length-take-le count from h.0; splits = sym (take-append-drop count from) })

-- a part in front of what is found behind it
in_front : (front more text rest : List ℕ) (all : List ℕ) → text ≡ front ++ more → more ≡ all ++ rest → text ≡ (front ++ all) ++ rest
in_front front more text rest all e f = e ∙ ap (λ t. front ++ t) f ∙ sym (append_assoc front all rest)

-- a number, and what stands behind it by its value
counted : {X : Type 0} (size : Size) (spell : X → List ℕ) (Is : ℕ → X → Type 0) (count : ℕ) (from behind : List ℕ) (x : X) (more : List ℕ) (long : ℕ)
    → Begins (text (number_alone size)) (PartFits (number_alone size)) from count behind → Begins spell (Is count) behind x more → long ≡ count
    → Begins (λ y. text (number_alone size) long ++ spell y) (λ y. NumberFits size long × Is count y) from x more
counted size spell Is count from behind x more long first second e = record {
  is = (subst (NumberFits size) (sym e) first.is.0, second.is);
  splits = in_front (text (number_alone size) long) behind from more (spell x) (first.splits ∙ ap (λ n. text (number_alone size) n ++ behind) (sym e)) second.splits;
}

-- parts that fit, and whose count does
IsList : {T : Type 0} → Size → Shape T → List T → Type 0
IsList size shape parts = NumberFits size (length parts) × AllByRecursion (PartFits shape) parts

list-begins : {T : Type 0} (size : Size) (shape : Shape T) (from : List ℕ) (found : List T × List ℕ) → IsBytes from → take_list size shape from ≡ Ok found
    → Begins (list_text size shape) (IsList size shape) from found.0 found.1
unfolding take_list AreParts IsList
list-begins size shape from found all e =
    let count = and_then_ok (take_one (number_alone size) from) (λ t. take_items shape t.0 t.1) found e in
    let first = one-begins (number_alone size) from count.0 all count.1 in
    let second = items-begin shape count.0.0 count.0.1 found (behind_bytes (text (number_alone size) count.0.0) count.0.1 from all first.splits) count.2 in
    let both = counted size (flat_map (text shape)) (AreParts shape) count.0.0 from count.0.1 found.0 found.1 (length found.0) first second second.is.0 in
    record { is = (both.is.0, both.is.1.1); splits = both.splits }

sized-begins : (size : Size) (from : List ℕ) (found : List ℕ × List ℕ) → IsBytes from → take_sized size from ≡ Ok found
    → Begins (sized_text size) (λ some. NumberFits size (length some)) from found.0 found.1
unfolding take_sized
sized-begins size from found all e =
    let count = and_then_ok (take_one (number_alone size) from) (λ t. take_bytes t.0 t.1) found e in
    let first = one-begins (number_alone size) from count.0 all count.1 in
    let second = bytes-begin count.0.0 count.0.1 found count.2 in
    let both = counted size (λ some. some) (λ n some. length some ≡ n) count.0.0 from count.0.1 found.0 found.1 (length found.0) first second second.is in
    record { is = both.is.0; splits = both.splits }

-- items that were found, each by a reader of its own
record FoundAll {P T : Type 0} (spell : P → List ℕ) (make : P → T) (IsFit : P → Type 0) (count : ℕ) (from : List ℕ) (xs : List T) (more : List ℕ) : Type 0 where
  parts : List P
  counted : length parts ≡ count
  fit : AllByRecursion IsFit parts
  made_are : map make parts ≡ xs
  splits : from ≡ flat_map spell parts ++ more

-- one of them
record FoundOne {P T : Type 0} (spell : P → List ℕ) (make : P → T) (IsFit : P → Type 0) (from : List ℕ) (x : T) (more : List ℕ) : Type 0 where
  part : P
  fit : IsFit part
  made_is : make part ≡ x
  splits : from ≡ spell part ++ more

module _ {P T : Type 0} (reader : List ℕ → Taken T) (spell : P → List ℕ) (make : P → T) (IsFit : P → Type 0) where
  each-found : ((from : List ℕ) (found : T × List ℕ) → IsBytes from → reader from ≡ Ok found → FoundOne spell make IsFit from found.0 found.1)
      → (count : ℕ) (from : List ℕ) (found : List T × List ℕ) → IsBytes from → take_each reader count from ≡ Ok found → FoundAll spell make IsFit count from found.0 found.1
  unfolding take_each
  each-found finds zero from found all e =
      let same : ([], from) ≡ found = cc in
      subst (λ f. FoundAll spell make IsFit 0 from f.0 f.1) same (record { parts = []; counted = refl; fit = tt; made_are = refl; splits = refl })
  each-found finds (suc count) from found all e =
      let first = and_then_ok (reader from) _ found e in
      let one_found = finds from first.0 all first.1 in
      let others = and_then_ok (take_each reader count first.0.1) _ found first.2 in
      let all_found = each-found finds count first.0.1 others.0 (behind_bytes (spell one_found.part) first.0.1 from all one_found.splits) others.1 in
      let last = others.2 in
      let same : (first.0.0 ∷ others.0.0, others.0.1) ≡ found = cc in
      subst (λ f. FoundAll spell make IsFit (suc count) from f.0 f.1) same
      (record {
        parts = one_found.part ∷ all_found.parts;
        counted = ap suc all_found.counted;
        fit = (one_found.fit, all_found.fit);
        made_are = (λ i. one_found.made_is i ∷ all_found.made_are i);
        splits = one_found.splits ∙ ap (λ t. spell one_found.part ++ t) all_found.splits ∙ sym (append_assoc (spell one_found.part) (flat_map spell all_found.parts) others.0.1);
      })

-- items in front of what is found behind them
each-cons : {T R : Type 0} (item : Layout T) (count : ℕ) (rest : List T → Layout R) (from : List ℕ) (found : R × List ℕ) (xs : List T) (more : List ℕ)
    → FoundAll (spelled item) (made item) (Fit item) count from xs more → Found (rest xs) more found.0 found.1 → Found (each item count rest) from found.0 found.1
each-cons item count rest from found xs more begins behind =
    let others : Found (rest (map (made item) begins.parts)) more found.0 found.1 = subst (λ ys. Found (rest ys) more found.0 found.1) (sym begins.made_are) behind in
    record {
      parts = (begins.parts, others.parts);
      fit = (begins.counted, (begins.fit, others.fit));
      made_is = others.made_is;
      splits = in_front (flat_map (spelled item) begins.parts) more from found.1 (spelled (rest (map (made item) begins.parts)) others.parts) begins.splits others.splits;
    }

-- a part, and what is found behind it
record Both {X R : Type 0} (spell : X → List ℕ) (Is : X → Type 0) (rest : X → Layout R) (from : List ℕ) (says : R) (more : List ℕ) : Type 0 where
  part : X
  is : Is part
  parts : Parts (rest part)
  fit : Fit (rest part) parts
  made_is : made (rest part) parts ≡ says
  splits : from ≡ spell part ++ spelled (rest part) parts ++ more

both_found : {X R : Type 0} (first : List ℕ → Taken X) (spell : X → List ℕ) (Is : X → Type 0) (rest : X → Layout R)
    → ((from : List ℕ) (found : X × List ℕ) → IsBytes from → first from ≡ Ok found → Begins spell Is from found.0 found.1)
    → ((x : X) (from : List ℕ) (found : R × List ℕ) → IsBytes from → read (rest x) from ≡ Ok found → Found (rest x) from found.0 found.1)
    → (from : List ℕ) (found : R × List ℕ) → IsBytes from → and_then (first from) (λ t. read (rest t.0) t.1) ≡ Ok found → Both spell Is rest from found.0 found.1
both_found first spell Is rest begins finds from found all e =
    let a = and_then_ok (first from) (λ t. read (rest t.0) t.1) found e in
    let b = begins from a.0 all a.1 in
    let o = finds a.0.0 a.0.1 found (behind_bytes (spell a.0.0) a.0.1 from all b.splits) a.2 in
    record {
      part = a.0.0;
      is = b.is;
      parts = o.parts;
      fit = o.fit;
      made_is = o.made_is;
      splits = in_front (spell a.0.0) a.0.1 from found.1 (spelled (rest a.0.0) o.parts) b.splits o.splits;
    }

-- what is read by a layout is found
pub read-found : {R : Type 0} (layout : Layout R) (from : List ℕ) (found : R × List ℕ) → IsBytes from → read layout from ≡ Ok found → Found layout from found.0 found.1
unfolding read AreParts IsList
read-found (done r) from found all e =
    let same : (r, from) ≡ found = cc in
    subst (λ f. Found (done r) from f.0 f.1) same (record { parts = tt; fit = tt; made_is = refl; splits = refl })
read-found (one shape rest) from found all e =
    let b = both_found (take_one shape) (text shape) (PartFits shape) rest (one-begins shape) (λ x. read-found (rest x)) from found all e in
    record { parts = (b.part, b.parts); fit = (b.is, b.fit); made_is = b.made_is; splits = b.splits }
read-found (items shape count rest) from found all e =
    let b = both_found (take_items shape count) (flat_map (text shape)) (AreParts shape count) rest (items-begin shape count) (λ xs. read-found (rest xs)) from found all e in
    record { parts = (b.part, b.parts); fit = (b.is.0, (b.is.1, b.fit)); made_is = b.made_is; splits = b.splits }
read-found (list size shape rest) from found all e =
    let b = both_found (take_list size shape) (list_text size shape) (IsList size shape) rest (list-begins size shape) (λ xs. read-found (rest xs)) from found all e in
    record { parts = (b.part, b.parts); fit = (b.is.0, (b.is.1, b.fit)); made_is = b.made_is; splits = b.splits }
read-found (sized size rest) from found all e =
    let b = both_found (take_sized size) (sized_text size) (λ some. NumberFits size (length some)) rest (sized-begins size) (λ some. read-found (rest some)) from found all e in
    record { parts = (b.part, b.parts); fit = (b.is, b.fit); made_is = b.made_is; splits = b.splits }
read-found (bytes count rest) from found all e =
    let b = both_found (take_bytes count) (λ some. some) (λ some. length some ≡ count) rest (λ f g a h. bytes-begin count f g h) (λ some. read-found (rest some)) from found all e in
    record { parts = (b.part, b.parts); fit = (b.is, b.fit); made_is = b.made_is; splits = b.splits }
read-found (each item count rest) from found all e =
    let first = and_then_ok (take_each (read item) count from) (λ t. read (rest t.0) t.1) found e in
    let begins = each-found (read item) (spelled item) (made item) (Fit item)
    (λ f g a h. let found_one = read-found item f g a h in record { part = found_one.parts; fit = found_one.fit; made_is = found_one.made_is; splits = found_one.splits })
    count from first.0 all first.1 in
    let more = first.0.1 in
    let others : Found (rest first.0.0) more found.0 found.1 = read-found (rest first.0.0) more found (behind_bytes (flat_map (spelled item) begins.parts) more from all begins.splits) first.2 in
    each-cons item count rest from found first.0.0 more begins others
read-found (choose true first second) from found all e =
    let f = read-found first from found all e in record { parts = inl f.parts; fit = (refl, f.fit); made_is = f.made_is; splits = f.splits }
read-found (choose false first second) from found all e =
    let f = read-found second from found all e in record { parts = inr f.parts; fit = (refl, f.fit); made_is = f.made_is; splits = f.splits }
read-found (must test refusal rest) from found all e =
    let passed = and_then_ok (check (Rule refusal) test) (λ _. read rest from) found e in
    let holds : test ≡ true = check_ok (Rule refusal) test passed.1 in
    let f = read-found rest from found all passed.2 in
    record { parts = f.parts; fit = (holds, f.fit); made_is = f.made_is; splits = f.splits }

-- ---- how long a spelling is

length-flat_map : {X : Type 0} (f : X → List ℕ) (g : X → ℕ) → ((x : X) → length (f x) ≡ g x) → (xs : List X) → length (flat_map f xs) ≡ sum_by g xs
length-flat_map f g is [] = refl
length-flat_map f g is (x ∷ xs) = length-append (f x) (flat_map f xs) ∙ rw (is x, length-flat_map f g is xs) (sym (sum_by-cons g x xs))

pub length-spelled : {R : Type 0} (layout : Layout R) (p : Parts layout) → length (spelled layout p) ≡ measured layout p
length-spelled (done r) p = refl
length-spelled (one shape rest) p =
    length-append (text shape p.0) (spelled (rest p.0) p.1) ∙ rw (length-text shape p.0, length-spelled (rest p.0) p.1) refl
length-spelled (items shape count rest) p =
    length-append (flat_map (text shape) p.0) (spelled (rest p.0) p.1) ∙ rw (length-texts shape p.0, length-spelled (rest p.0) p.1) refl
length-spelled (list size shape rest) p =
    length-append (list_text size shape p.0) (spelled (rest p.0) p.1)
    ∙ rw (length-append (text (number_alone size) (length p.0)) (flat_map (text shape) p.0), length-text (number_alone size) (length p.0), length-texts shape p.0, length-spelled (rest p.0) p.1) (omega arith)
length-spelled (sized size rest) p =
    length-append (sized_text size p.0) (spelled (rest p.0) p.1)
    ∙ rw (length-append (text (number_alone size) (length p.0)) p.0, length-text (number_alone size) (length p.0), length-spelled (rest p.0) p.1) (omega arith)
length-spelled (bytes count rest) p = length-append p.0 (spelled (rest p.0) p.1) ∙ rw (length-spelled (rest p.0) p.1) refl
length-spelled (each item count rest) p =
    length-append (flat_map (spelled item) p.0) (spelled (rest (map (made item) p.0)) p.1)
    ∙ rw (length-flat_map (spelled item) (measured item) (length-spelled item) p.0, length-spelled (rest (map (made item) p.0)) p.1) refl
length-spelled (choose test first second) (inl a) = length-spelled first a
length-spelled (choose test first second) (inr b) = length-spelled second b
length-spelled (must test refusal rest) p = length-spelled rest p

-- ---- bytes that a layout has to end with

-- a spelling alone is read
pub read_whole-spelled : {R : Type 0} (layout : Layout R) (p : Parts layout) → Fit layout p → read_whole layout (spelled layout p) ≡ Ok (made layout p)
unfolding read_whole and_then
read_whole-spelled layout p fit =
    let reads : read layout (spelled layout p) ≡ Ok (made layout p, []) = ap (read layout) (sym (append-nil (spelled layout p))) ∙ (Reads-layout layout p fit).whole [] in
    rw reads refl

-- what is read of bytes alone is spelled so
pub read_whole-found : {R : Type 0} (layout : Layout R) (from : List ℕ) (says : R) → IsBytes from → read_whole layout from ≡ Ok says → Found layout from says []
unfolding read_whole
read_whole-found layout from says all e =
    let first = and_then_ok (read layout from) _ says e in
    let last = and_then_ok (check Long _) (λ _. Ok first.0.0) says first.2 in
    let nothing : first.0.1 ≡ [] = nil_from_length first.0.1 (eqb-true _ _ (check_ok Long _ last.1)) in
    let given = last.2 in
    let same : first.0.0 ≡ says = cc in
    subst (λ more. Found layout from says more) nothing (subst (λ x. Found layout from x first.0.1) same (read-found layout from first.0 all first.1))
