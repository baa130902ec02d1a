-- A description of bytes, read from top to bottom as the tables of a standard: this project's own form.
-- What a part is can be used by all that stands behind it.
use Rattle.std.specs.Prelude.{◌≡◌, ℕ, ◌+◌, ◌*◌, Bool, true, false, ◌⊎◌, List, [], ◌++◌, length, map}
use Rattle.std.specs.List.{flat_map, AllByRecursion, sum_by}
use Rattle.std.proofs.Common.{inl, inr}
use Rattle.gfx_base.specs.declared.refusal.Refusal.{Refusal}
use Rattle.gfx_layout.specs.Shape.{Size, bytes_in, NumberFits, Shape, width, text, PartFits, number_alone}

-- a description of bytes that say something of this type
pub data Layout : Type 0 → Type 1 where
  -- nothing more: this is what the bytes say
  done : {R : Type 0} → R → Layout R
  -- a part of fixed size
  one : {T R : Type 0} → Shape T → (T → Layout R) → Layout R
  -- so many parts of fixed size
  items : {T R : Type 0} → Shape T → ℕ → (List T → Layout R) → Layout R
  -- parts of fixed size behind their count
  list : {T R : Type 0} → Size → Shape T → (List T → Layout R) → Layout R
  -- bytes behind their length
  sized : {R : Type 0} → Size → (List ℕ → Layout R) → Layout R
  -- so many bytes as they are: data, or what is free, as padding and flags
  bytes : {R : Type 0} → ℕ → (List ℕ → Layout R) → Layout R
  -- so many items, each by a layout of its own
  each : {T R : Type 0} → Layout T → ℕ → (List T → Layout R) → Layout R
  -- one of two layouts
  choose : {R : Type 0} → Bool → Layout R → Layout R → Layout R
  -- a rule, and its refusal
  must : {R : Type 0} → Bool → Refusal → Layout R → Layout R

-- a number
abbrev pub number : {R : Type 0} → Size → (ℕ → Layout R) → Layout R
number size rest = one (number_alone size) rest

-- what stands in the bytes, part by part, and what it says
pub record Meaning (R : Type 0) : Type 1 where
  pub Parts : Type 0
  pub made : Parts → R

-- a part, and what stands behind it by what that part is
abbrev pub with_part : {X R : Type 0} → (X → Meaning R) → Meaning R
with_part {X} behind = record { Parts = (part : X) × (behind part).Parts; made = λ p. (behind p.0).made p.1 }

-- by one of two
abbrev pub either : {A B R : Type 0} → (A → R) → (B → R) → A ⊎ B → R
either f g (inl a) = f a
either f g (inr b) = g b

-- what a layout means, by what it means behind its first part
abbrev pub meaning : {R : Type 0} → Layout R → Meaning R
meaning (done r) = record { Parts = Unit {0}; made = λ _. r }
meaning (one shape rest) = with_part (λ part. meaning (rest part))
meaning (items shape count rest) = with_part (λ parts. meaning (rest parts))
meaning (list size shape rest) = with_part (λ parts. meaning (rest parts))
meaning (sized size rest) = with_part (λ some. meaning (rest some))
meaning (bytes count rest) = with_part (λ some. meaning (rest some))
meaning (each item count rest) = with_part (λ (parts : List (meaning item).Parts). meaning (rest (map (meaning item).made parts)))
meaning (choose test first second) =
    record { Parts = (meaning first).Parts ⊎ (meaning second).Parts; made = either (meaning first).made (meaning second).made }
meaning (must test refusal rest) = meaning rest

-- the parts that stand in the bytes
abbrev pub Parts : {R : Type 0} → Layout R → Type 0
Parts layout = (meaning layout).Parts

-- what they say
abbrev pub made : {R : Type 0} (layout : Layout R) → Parts layout → R
made layout = (meaning layout).made

-- each fact of one of two
abbrev pub Either : {A B : Type 0} → (A → Type 0) → (B → Type 0) → A ⊎ B → Type 0
Either P Q (inl a) = P a
Either P Q (inr b) = Q b

-- numbers fit, counts and rules hold
abbrev pub Fit : {R : Type 0} (layout : Layout R) → Parts layout → Type 0
Fit (done r) p = Unit {0}
Fit (one shape rest) p = PartFits shape p.0 × Fit (rest p.0) p.1
Fit (items shape count rest) p = (length p.0 ≡ count) × (AllByRecursion (PartFits shape) p.0 × Fit (rest p.0) p.1)
Fit (list size shape rest) p = NumberFits size (length p.0) × (AllByRecursion (PartFits shape) p.0 × Fit (rest p.0) p.1)
Fit (sized size rest) p = NumberFits size (length p.0) × Fit (rest p.0) p.1
Fit (bytes count rest) p = (length p.0 ≡ count) × Fit (rest p.0) p.1
Fit (each item count rest) p = (length p.0 ≡ count) × (AllByRecursion (Fit item) p.0 × Fit (rest (map (made item) p.0)) p.1)
Fit (choose test first second) p = Either (λ a. (test ≡ true) × Fit first a) (λ b. (test ≡ false) × Fit second b) p
Fit (must test refusal rest) p = (test ≡ true) × Fit rest p

-- parts behind their count, and bytes behind their length
abbrev pub list_text : {T : Type 0} → Size → Shape T → List T → List ℕ
list_text size shape parts = text (number_alone size) (length parts) ++ flat_map (text shape) parts

abbrev pub sized_text : Size → List ℕ → List ℕ
sized_text size some = text (number_alone size) (length some) ++ some

-- the bytes of the parts
abbrev pub spelled : {R : Type 0} (layout : Layout R) → Parts layout → List ℕ
spelled (done r) p = []
spelled (one shape rest) p = text shape p.0 ++ spelled (rest p.0) p.1
spelled (items shape count rest) p = flat_map (text shape) p.0 ++ spelled (rest p.0) p.1
spelled (list size shape rest) p = list_text size shape p.0 ++ spelled (rest p.0) p.1
spelled (sized size rest) p = sized_text size p.0 ++ spelled (rest p.0) p.1
spelled (bytes count rest) p = p.0 ++ spelled (rest p.0) p.1
spelled (each item count rest) p = flat_map (spelled item) p.0 ++ spelled (rest (map (made item) p.0)) p.1
spelled (choose test first second) p = either (spelled first) (spelled second) p
spelled (must test refusal rest) p = spelled rest p

-- how many they are
abbrev pub measured : {R : Type 0} (layout : Layout R) → Parts layout → ℕ
measured (done r) p = 0
measured (one shape rest) p = width shape + measured (rest p.0) p.1
measured (items shape count rest) p = length p.0 * width shape + measured (rest p.0) p.1
measured (list size shape rest) p = bytes_in size + (length p.0 * width shape + measured (rest p.0) p.1)
measured (sized size rest) p = bytes_in size + (length p.0 + measured (rest p.0) p.1)
measured (bytes count rest) p = length p.0 + measured (rest p.0) p.1
measured (each item count rest) p = sum_by (measured item) p.0 + measured (rest (map (made item) p.0)) p.1
measured (choose test first second) p = either (measured first) (measured second) p
measured (must test refusal rest) p = measured rest p
