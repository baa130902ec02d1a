-- The finite map that a tree's entries stand for.
use Rattle.std.proofs.Common.{◌≡◌, refl, cond, Bool, ℕ, List, Some, None}
use Rattle.std.specs.Ordering.{nat_cmp, eq_by_cmp}
use Rattle.std.specs.Map.{lookup}
use Rattle.std.specs.BTreeMap.{is_at}
use Rattle.std.specs.FinMap.{get, insert, remove, from_entries}
use Rattle.gfx_base.proofs.MapLemmas.{get-by, inserted-by, removed-by}

-- the test that a tree is looked up by
abbrev pub is_same : ℕ → ℕ → Bool
is_same k q = is_at (nat_cmp k) q

abbrev pub is_same-ties : (k q : ℕ) → is_same k q ≡ eq_by_cmp nat_cmp k q
is_same-ties k q = refl

module _ {X : Type 0} where
  -- the map has at a key what the list has there first
  pub get-lookup : (es : List (ℕ × X)) (q : ℕ) → get (from_entries {R = nat_cmp} es) q ≡ lookup (is_at (nat_cmp q)) es
  get-lookup es q = get-by is_same is_same-ties es q

  -- with a value there it stands for the older map with that value
  pub inserted_map : (old new : List (ℕ × X)) (k : ℕ) (v : X)
      → ((q : ℕ) → lookup (is_at (nat_cmp q)) new ≡ cond (is_at (nat_cmp k) q) (Some v) (lookup (is_at (nat_cmp q)) old))
      → from_entries {R = nat_cmp} new ≡ insert (from_entries old) k v
  inserted_map old new k v says = inserted-by is_same is_same-ties old new k v says

  -- with nothing there for the older map without that key
  pub removed_map : (old new : List (ℕ × X)) (k : ℕ)
      → ((q : ℕ) → lookup (is_at (nat_cmp q)) new ≡ cond (is_at (nat_cmp k) q) None (lookup (is_at (nat_cmp q)) old))
      → from_entries {R = nat_cmp} new ≡ remove (from_entries old) k
  removed_map old new k says = removed-by is_same is_same-ties old new k says
