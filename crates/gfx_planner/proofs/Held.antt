-- What a script's checks hold stays in step with the surfaces.
use Rattle.std.proofs.Common.{◌≡◌, ◌≢◌, ◌⊎◌, ℕ, ◌+◌, ◌-◌, ◌≤◌, ◌&&◌, nat_lt, nat_le, Bool, true, false, cond, Option, Some, None, option_map, is_some, inl, inr, refl, sym, ap, ◌∙◌, subst, arith}
use Rattle.std.specs.Prelude.{IfSome}
use Rattle.std.specs.Cmp.{nat_cmp_total}
use Rattle.std.specs.FinMap.{FinMap, get, insert, remove, get-remove, len-remove, contains_key, len, empty, get-insert, len-insert, get-empty, len-empty}
use Rattle.std.specs.Ordering.{nat_cmp, eq_by_cmp}
use Rattle.std.proofs.lemmas.Bool.{cases_eq}
use Rattle.std.proofs.lemmas.Bool.Decides.{nat_tests}
use Rattle.gfx_base.proofs.MapLemmas.{share, sum-empty, sum-insert, sum-remove}
use Rattle.gfx_surface.specs.declared.TheConstants.{MOST_SIDE}
use Rattle.gfx_surface.specs.Picture.{Picture}
use Rattle.gfx_surface_map.specs.declared.TheConstants.{MOST_CELLS, MOST_SURFACES}
use Rattle.gfx_surface_map.specs.Surfaces.{Surfaces, cells, cells_of, cells_of_picture, fits_beside}
use Rattle.gfx_script.specs.declared.held.Sides.{Sides}
use Rattle.gfx_planner.specs.Holds.{sides_of, HoldsSurfaces}

-- what is held ------------------------------------------------------------------------------------

option_map-cond : {X Y : Type 0} (f : X → Y) (b : Bool) (x : X) (o : Option X) → cond b (Some (f x)) (option_map f o) ≡ option_map f (cond b (Some x) o)
option_map-cond f true x o = refl
option_map-cond f false x o = refl

-- sides, where they are there, are within the limit
abbrev AreNarrow : Option Sides → Type 0
AreNarrow o = IfSome o (λ sides. (sides.width ≤ MOST_SIDE) × (sides.height ≤ MOST_SIDE))

narrow_or : (b : Bool) (s : Sides) (o : Option Sides) → AreNarrow (Some s) → AreNarrow o → AreNarrow (cond b (Some s) o)
narrow_or true s o one other = one
narrow_or false s o one other = other

narrow_but : (b : Bool) (o : Option Sides) → AreNarrow o → AreNarrow (cond b None o)
narrow_but true o one = tt
narrow_but false o one = one

-- nothing is held of no surfaces
pub holds-nothing : HoldsSurfaces empty 0 empty
holds-nothing = record {
  sides = λ id. get-empty nat_cmp id ∙ ap (option_map sides_of) (sym (get-empty nat_cmp id));
  count = len-empty nat_cmp Sides ∙ sym (len-empty nat_cmp Picture);
  total = sym (sum-empty cells_of_picture);
  narrow = λ id. subst AreNarrow (sym (get-empty nat_cmp id)) tt;
  few = omega arith;
}

-- one more surface that may be made leaves no more cells than there may be
room_for : (few : Bool) (cells most : ℕ) → (few && nat_le cells most) ≡ true → cells ≤ most
room_for true cells most fits = grind (arith, nat_tests)
room_for false cells most fits = absurd cc

-- one more surface
pub holds-made : (sides : FinMap nat_cmp Sides) (count : ℕ) (surfaces : Surfaces) (id : ℕ) (picture : Picture) → picture.width ≤ MOST_SIDE → picture.height ≤ MOST_SIDE → HoldsSurfaces sides count surfaces → get surfaces id ≡ None
    → fits_beside surfaces picture.width picture.height ≡ true → HoldsSurfaces (insert sides id (sides_of picture)) (count + cells picture.width picture.height) (insert surfaces id picture)
holds-made sides count surfaces id picture wide high holds none fits =
    let absent : contains_key surfaces id ≡ false = ap is_some none in
    let held_absent : contains_key sides id ≡ false = ap is_some (holds.sides id) ∙ ap (λ z. is_some (option_map sides_of z)) none in
    let sum = sum-insert cells_of_picture surfaces id picture in
    let old : share cells_of_picture (get surfaces id) ≡ 0 = ap (share cells_of_picture) none in
    record {
      sides = λ q. get-insert nat_cmp_total sides id (sides_of picture) q
          ∙ ap (cond (eq_by_cmp nat_cmp q id) (Some (sides_of picture))) (holds.sides q)
          ∙ option_map-cond sides_of (eq_by_cmp nat_cmp q id) picture (get surfaces q)
          ∙ ap (option_map sides_of) (sym (get-insert nat_cmp_total surfaces id picture q));
      count = len-insert nat_cmp_total sides id (sides_of picture) ∙ ap (λ b. cond b (len sides) (len sides + 1)) held_absent
          ∙ ap (λ n. n + 1) holds.count
          ∙ sym (len-insert nat_cmp_total surfaces id picture ∙ ap (λ b. cond b (len surfaces) (len surfaces + 1)) absent);
      total = omega (arith, sum, old, holds.total);
      narrow = λ q. subst AreNarrow (sym (get-insert nat_cmp_total sides id (sides_of picture) q)) (narrow_or (eq_by_cmp nat_cmp q id) (sides_of picture) (get sides q) (wide, high) (holds.narrow q));
      few = omega (arith, holds.total, room_for (nat_lt (len surfaces) MOST_SURFACES) (cells_of surfaces + cells picture.width picture.height) MOST_CELLS fits);
    }

-- a surface that is drawn on keeps its sides, and so do all others
pub sides-stay : (surfaces : Surfaces) (id : ℕ) (old new : Picture) → get surfaces id ≡ Some old → sides_of new ≡ sides_of old
    → (q : ℕ) → option_map sides_of (get (insert surfaces id new) q) ≡ option_map sides_of (get surfaces q)
sides-stay surfaces id old new some same q = by (cases_eq q id)
  where
    by : ((q ≡ id) ⊎ (q ≢ id)) → option_map sides_of (get (insert surfaces id new) q) ≡ option_map sides_of (get surfaces q)
    by (inl at) =
        let yes : eq_by_cmp nat_cmp q id ≡ true = grind (arith, nat_tests) in
        ap (option_map sides_of) (get-insert nat_cmp_total surfaces id new q)
        ∙ ap (λ b. option_map sides_of (cond b (Some new) (get surfaces q))) yes
        ∙ ap Some same ∙ ap (option_map sides_of) (sym some) ∙ ap (λ k. option_map sides_of (get surfaces k)) (sym at)
    by (inr apart) =
        let differ : eq_by_cmp nat_cmp q id ≡ false = grind (arith, nat_tests) in
        ap (option_map sides_of) (get-insert nat_cmp_total surfaces id new q)
        ∙ ap (λ b. option_map sides_of (cond b (Some new) (get surfaces q))) differ

-- a surface that is drawn on
pub holds-drawn : (sides : FinMap nat_cmp Sides) (count : ℕ) (surfaces : Surfaces) (id : ℕ) (old new : Picture) → HoldsSurfaces sides count surfaces → get surfaces id ≡ Some old
    → sides_of new ≡ sides_of old → HoldsSurfaces sides count (insert surfaces id new)
holds-drawn sides count surfaces id old new holds some same =
    let sum = sum-insert cells_of_picture surfaces id new in
    let before : share cells_of_picture (get surfaces id) ≡ cells_of_picture old = ap (share cells_of_picture) some in
    let alike : cells_of_picture new ≡ cells_of_picture old = ap (λ s. cells s.width s.height) same in
    let there : contains_key surfaces id ≡ true = ap is_some some in
    record {
      sides = λ q. holds.sides q ∙ sym (sides-stay surfaces id old new some same q);
      count = holds.count ∙ sym (len-insert nat_cmp_total surfaces id new ∙ ap (λ b. cond b (len surfaces) (len surfaces + 1)) there);
      total = omega (arith, sum, before, alike, holds.total);
      narrow = holds.narrow;
      few = holds.few;
    }

-- a surface that is deleted
option_map-none : {X Y : Type 0} (f : X → Y) (b : Bool) (o : Option X) → cond b None (option_map f o) ≡ option_map f (cond b None o)
option_map-none f true o = refl
option_map-none f false o = refl

pub holds-deleted : (sides : FinMap nat_cmp Sides) (count : ℕ) (surfaces : Surfaces) (id : ℕ) (picture : Picture) → HoldsSurfaces sides count surfaces → get surfaces id ≡ Some picture
    → HoldsSurfaces (remove sides id) (count - cells picture.width picture.height) (remove surfaces id)
holds-deleted sides count surfaces id picture holds there =
    let present : contains_key surfaces id ≡ true = ap is_some there in
    let held_present : contains_key sides id ≡ true = ap is_some (holds.sides id) ∙ ap (λ z. is_some (option_map sides_of z)) there in
    let sum = sum-remove cells_of_picture surfaces id in
    let gone : share cells_of_picture (get surfaces id) ≡ cells_of_picture picture = ap (share cells_of_picture) there in
    record {
      sides = λ q. get-remove nat_cmp_total sides id q
          ∙ ap (cond (eq_by_cmp nat_cmp q id) None) (holds.sides q)
          ∙ option_map-none sides_of (eq_by_cmp nat_cmp q id) (get surfaces q)
          ∙ ap (option_map sides_of) (sym (get-remove nat_cmp_total surfaces id q));
      count = len-remove nat_cmp_total sides id ∙ ap (λ b. cond b (len sides - 1) (len sides)) held_present
          ∙ ap (λ n. n - 1) holds.count
          ∙ sym (len-remove nat_cmp_total surfaces id ∙ ap (λ b. cond b (len surfaces - 1) (len surfaces)) present);
      total = omega (arith, sum, gone, holds.total);
      narrow = λ q. subst AreNarrow (sym (get-remove nat_cmp_total sides id q)) (narrow_but (eq_by_cmp nat_cmp q id) (get sides q) (holds.narrow q));
      few = omega (arith, holds.few);
    }
