-- The filled slots in ascending order.
use Rattle.std.proofs.Common.{◌≡◌, ◌∙◌, ◌&&◌, ap, sym, refl, subst, nat_le, cond, Bool, true, false, ℕ, List, [], ◌∷◌, arith}
use Rattle.std.specs.Prelude.{T}
use Rattle.std.specs.Cmp.{nat_cmp_total}
use Rattle.std.specs.declared.cmp.Ordering.TheVariants.{Less}
use Rattle.std.specs.Ordering.{nat_cmp, is_lt, is_le}
use Rattle.std.specs.List.{AllByRecursion}
use Rattle.std.specs.List.Sorted.{IsStrictlySortedBy}
use Rattle.std.specs.Map.{keys_of}
use Rattle.std.specs.declared.ops.Bound.TheVariants.{Included, Unbounded}
use Rattle.std.specs.BTreeMap.Range.{entries_between}
use Rattle.std.specs.FinMap.{entries, from_entries, from_sorted, is_sorted, get-from_entries, get-from_sorted, entries-from_sorted, same_map, nat_cmp-IsAntisymmetric}
use Rattle.std.specs.FinMap.Entries.{below_all}
use Rattle.std.proofs.lemmas.Map.Keys.{sorted_head, sorted_tail}
use Rattle.std.proofs.lemmas.Bool.Decides.{nat_tests}
use Rattle.gfx_bitmap_cache.specs.Slots.{Entry}
use Rattle.gfx_bitmap_cache.specs.Order.{from_slot}

-- a range with no end has the slots from its start on
pub from_slot-between : (from : ℕ) (es : List (ℕ × Entry)) → entries_between nat_cmp (Included from) Unbounded es ≡ from_slot from es
from_slot-between from [] = refl
from_slot-between from (e ∷ es) =
    let test : (is_le (nat_cmp from e.0) && true) ≡ nat_le from e.0 = grind (arith, nat_tests) in
    λ i. cond (test i) (e ∷ from_slot-between from es i) (from_slot-between from es i)

both : (a b : Bool) → T a → T b → T (a && b)
both true b p q = q
both false b p q = absurd p

below_keys : (x : ℕ) (es : List (ℕ × Entry)) → AllByRecursion (λ y. nat_cmp x y ≡ Less) (keys_of es) → T (below_all nat_cmp x es)
below_keys x [] all = tt
below_keys x (e ∷ es) all = both _ _ (subst (λ o. T (is_lt o)) (sym all.0) tt) (below_keys x es all.1)

rising : (es : List (ℕ × Entry)) → IsStrictlySortedBy nat_cmp (keys_of es) → T (is_sorted nat_cmp es)
rising [] all = tt
rising (e ∷ es) all = both _ _ (below_keys e.0 es (sorted_head nat_cmp e.0 (keys_of es) all)) (rising es (sorted_tail nat_cmp e.0 (keys_of es) all))

-- entries that rise are those of their map
pub entries-from_entries : (es : List (ℕ × Entry)) → IsStrictlySortedBy nat_cmp (keys_of es) → entries (from_entries {R = nat_cmp} es) ≡ es
entries-from_entries es rises =
    let same : from_entries {R = nat_cmp} es ≡ from_sorted es = same_map nat_cmp_total nat_cmp-IsAntisymmetric _ _ (λ q.
    get-from_entries nat_cmp_total es q ∙ sym (get-from_sorted nat_cmp es q (rising es rises))) in
    ap entries same ∙ entries-from_sorted nat_cmp es (rising es rises)
