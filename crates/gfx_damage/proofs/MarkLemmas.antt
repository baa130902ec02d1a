-- What is kept of rectangles.
use Rattle.std.proofs.Common.{◌≡◌, ◌∙◌, ◌+◌, ◌≤◌, ◌<◌, ℕ, Bool, true, false, ◌&&◌, ◌||◌, nat_le, nat_lt, List, [], ◌∷◌, ◌++◌, length, length-append, append_assoc, cond, refl, sym, ap, leb-true, ltb-true, arith}
use Rattle.std.specs.List.{fold}
use Rattle.std.proofs.Math.Nat.{min-le_left, min-le_right, le-max_left, le-max_right}
use Rattle.std.proofs.lemmas.Bool.{le-leb, lt-ltb}
use Rattle.std.proofs.lemmas.List.Folds.{list_any-append}
use Rattle.std.proofs.lemmas.List.{append-nil}
use Rattle.gfx_base.specs.Geometry.{holds}
use Rattle.gfx_base.specs.declared.geometry.Rect.{Rect}
use Rattle.gfx_damage.specs.Marks.{joined, with_rect, with_rects, is_marked, Keeps}
use Rattle.gfx_damage.specs.declared.adding.TheConstants.{MOST_RECTS}

-- one rectangle more --------------------------------------------------------------------------------------------

-- there is room for it
room : (rects : List Rect) (rect : Rect) → length rects < MOST_RECTS → with_rect rects rect ≡ rects ++ rect ∷ []
unfolding with_rect
room rects rect less = ap (λ b. cond b (rects ++ rect ∷ []) (fold joined rect rects ∷ [])) (lt-ltb (length rects) MOST_RECTS less)

few_one : (rects : List Rect) (rect : Rect) → length rects ≤ MOST_RECTS → length (with_rect rects rect) ≤ MOST_RECTS
unfolding with_rect
few_one rects rect few =
    elim (nat_lt (length rects) MOST_RECTS) as (λ b. nat_lt (length rects) MOST_RECTS ≡ b → length (cond b (rects ++ rect ∷ []) (fold joined rect rects ∷ [])) ≤ MOST_RECTS) [
      | true ↦ λ e. omega (arith, ltb-true (length rects) MOST_RECTS e, length-append rects (rect ∷ []))
      | false ↦ λ e. omega arith
    ] refl

-- the tests of a pixel -------------------------------------------------------------------------------------------

four : (a b c d : Bool) → (a && b && c && d) ≡ true → (a ≡ true) × ((b ≡ true) × ((c ≡ true) × (d ≡ true)))
four true true true true e = (refl, (refl, (refl, refl)))
four true true true false e = absurd cc
four true true false d e = absurd cc
four true false c d e = absurd cc
four false b c d e = absurd cc

all_four : (a b c d : Bool) → a ≡ true → b ≡ true → c ≡ true → d ≡ true → (a && b && c && d) ≡ true
all_four a b c d p q r s = rw (p, q, r, s) refl

pub first-or : (a b : Bool) → a ≡ true → (a || b) ≡ true
first-or true b e = refl
first-or false b e = absurd cc

pub second-or : (a b : Bool) → b ≡ true → (a || b) ≡ true
second-or true b e = refl
second-or false b e = e

module _ (x y : ℕ) where
  wider : (inner outer : Rect) → outer.left ≤ inner.left → outer.top ≤ inner.top → inner.right ≤ outer.right → inner.bottom ≤ outer.bottom → holds inner x y ≡ true → holds outer x y ≡ true
  wider inner outer l t r b e =
      let h = four (nat_le inner.left x) (nat_lt x inner.right) (nat_le inner.top y) (nat_lt y inner.bottom) e in
      all_four (nat_le outer.left x) (nat_lt x outer.right) (nat_le outer.top y) (nat_lt y outer.bottom)
      (le-leb outer.left x (omega (arith, l, leb-true inner.left x h.0)))
      (lt-ltb x outer.right (omega (arith, r, ltb-true x inner.right h.1.0)))
      (le-leb outer.top y (omega (arith, t, leb-true inner.top y h.1.1.0)))
      (lt-ltb y outer.bottom (omega (arith, b, ltb-true y inner.bottom h.1.1.1)))

  joined-first : (one other : Rect) → holds one x y ≡ true → holds (joined one other) x y ≡ true
  joined-first one other e = wider one (joined one other) (omega (arith, min-le_left one.left other.left)) (omega (arith, min-le_left one.top other.top)) (omega (arith, le-max_left one.right other.right)) (omega (arith, le-max_left one.bottom other.bottom)) e

  joined-second : (one other : Rect) → holds other x y ≡ true → holds (joined one other) x y ≡ true
  joined-second one other e = wider other (joined one other) (omega (arith, min-le_right one.left other.left)) (omega (arith, min-le_right one.top other.top)) (omega (arith, le-max_right one.right other.right)) (omega (arith, le-max_right one.bottom other.bottom)) e

  hull-first : (rect : Rect) (rects : List Rect) → holds rect x y ≡ true → holds (fold joined rect rects) x y ≡ true
  hull-first rect [] e = e
  hull-first rect (other ∷ rects) e = hull-first (joined rect other) rects (joined-first rect other e)

  hull-marked : (rect : Rect) (rects : List Rect) → is_marked rects x y ≡ true → holds (fold joined rect rects) x y ≡ true
  hull-marked rect [] e = absurd cc
  hull-marked rect (other ∷ rects) e =
      elim (holds other x y) as (λ b. holds other x y ≡ b → (b || is_marked rects x y) ≡ true → holds (fold joined (joined rect other) rects) x y ≡ true) [
        | true ↦ λ h f. hull-first (joined rect other) rects (joined-second rect other h)
        | false ↦ λ h f. hull-marked (joined rect other) rects f
      ] refl e

  -- either part of a list has it
  marked-append : (xs ys : List Rect) → is_marked (xs ++ ys) x y ≡ (is_marked xs x y || is_marked ys x y)
  marked-append xs ys = list_any-append (λ rect. holds rect x y) xs ys

  one-marked : (rects : List Rect) (rect : Rect) → (is_marked rects x y || holds rect x y) ≡ true → holds (fold joined rect rects) x y ≡ true
  one-marked rects rect e =
      elim (is_marked rects x y) as (λ b. is_marked rects x y ≡ b → (b || holds rect x y) ≡ true → holds (fold joined rect rects) x y ≡ true) [
        | true ↦ λ h f. hull-marked rect rects h
        | false ↦ λ h f. hull-first rect rects f
      ] refl e

  or-false : (a : Bool) → (a || false) ≡ a
  or-false true = refl
  or-false false = refl

  -- one rectangle more leaves no pixel out
  covers_one : (rects : List Rect) (rect : Rect) → is_marked (rects ++ rect ∷ []) x y ≡ true → is_marked (with_rect rects rect) x y ≡ true
  unfolding with_rect
  covers_one rects rect e =
      elim (nat_lt (length rects) MOST_RECTS) as (λ b. is_marked (cond b (rects ++ rect ∷ []) (fold joined rect rects ∷ [])) x y ≡ true) [
        | true ↦ e
        | false ↦ first-or (holds (fold joined rect rects) x y) false (one-marked rects rect (sym (marked-append rects (rect ∷ []) ∙ ap (λ b. is_marked rects x y || b) (or-false (holds rect x y))) ∙ e))
      ]

  covers : (rects more : List Rect) → is_marked (rects ++ more) x y ≡ true → is_marked (with_rects rects more) x y ≡ true
  covers rects [] e = sym (ap (λ z. is_marked z x y) (append-nil rects)) ∙ e
  covers rects (rect ∷ more) e =
      let joint : is_marked ((rects ++ rect ∷ []) ++ more) x y ≡ true = ap (λ z. is_marked z x y) (append_assoc rects (rect ∷ []) more) ∙ e in
      let either = sym (marked-append (rects ++ rect ∷ []) more) ∙ joint in
      covers (with_rect rects rect) more
      (marked-append (with_rect rects rect) more
      ∙ elim (is_marked (rects ++ rect ∷ []) x y) as (λ b. is_marked (rects ++ rect ∷ []) x y ≡ b → (b || is_marked more x y) ≡ true → (is_marked (with_rect rects rect) x y || is_marked more x y) ≡ true) [
        | true ↦ λ h f. first-or _ _ (covers_one rects rect h)
        | false ↦ λ h f. second-or (is_marked (with_rect rects rect) x y) _ f
      ] refl either)

-- more rectangles ----------------------------------------------------------------------------------------------------

few : (rects more : List Rect) → length rects ≤ MOST_RECTS → length (with_rects rects more) ≤ MOST_RECTS
few rects [] le = le
few rects (rect ∷ more) le = few (with_rect rects rect) more (few_one rects rect le)

exact : (rects more : List Rect) → length rects + length more ≤ MOST_RECTS → with_rects rects more ≡ rects ++ more
exact rects [] le = sym (append-nil rects)
exact rects (rect ∷ more) le =
    ap (λ z. with_rects z more) (room rects rect (omega (arith, le)))
    ∙ exact (rects ++ rect ∷ []) more (omega (arith, le, length-append rects (rect ∷ [])))
    ∙ append_assoc rects (rect ∷ []) more

pub keeps : (rects more : List Rect) → Keeps rects more
keeps rects more = record { few = few rects more; exact = exact rects more; covers = λ x y e. covers x y rects more e }
