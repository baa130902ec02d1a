-- Finite maps from numbers: the entries that one stands for, its keys in ascending order, and sums over its values.
use Rattle.std.proofs.Common.{◌≡◌, ◌≢◌, ◌∙◌, ◌⊎◌, ◌<◌, ◌≤◌, ◌+◌, ◌&&◌, inl, inr, ap, sym, refl, subst, cond, filter, nat_eq, nat_le, Bool, true, false, ℕ, List, [], ◌∷◌, length, Option, Some, None, is_some, arith}
use Rattle.std.specs.Prelude.{T, IsSome, slice_get}
use Rattle.std.specs.Cmp.{nat_cmp_total}
use Rattle.std.specs.Ordering.{nat_cmp, eq_by_cmp, is_eq, is_lt}
use Rattle.std.specs.declared.cmp.Ordering.{Ordering}
use Rattle.std.specs.declared.cmp.Ordering.TheVariants.{Less, Equal, Greater}
use Rattle.std.specs.List.{AllByRecursion, IsDistinct, sum_by}
use Rattle.std.specs.Map.{lookup, keys_of, values_of}
use Rattle.std.specs.Option.{option_map, option_map_or}
use Rattle.std.specs.FinMap.{FinMap, get, insert, remove, empty, from_entries, get-from_entries, get-insert, get-remove, get-empty, get-entries, len, len-empty, len-entries, len-insert, values, entries, entries_sorted, entries-insert, is_sorted, find, put, same_map, nat_cmp-IsAntisymmetric}
use Rattle.std.specs.FinMap.Entries.{below_all, by_order}
use Rattle.std.proofs.lemmas.Bool.{cases_eq, cases_lt}
use Rattle.std.proofs.lemmas.Bool.Decides.{nat_tests}
use Rattle.std.proofs.lemmas.List.Sums.{sum_by-cons}
use Rattle.std.proofs.lemmas.Map.Keys.{IsDistinct-head, IsDistinct-tail}

-- the order of numbers ties equal numbers alone, whichever comes first
pub eq_by_cmp-nat_cmp : (x y : ℕ) → nat_eq x y ≡ eq_by_cmp nat_cmp x y
eq_by_cmp-nat_cmp x y = grind (arith, nat_tests)

turned : (x y : ℕ) → eq_by_cmp nat_cmp x y ≡ eq_by_cmp nat_cmp y x
turned x y = grind (arith, nat_tests)

-- a list and the map that it stands for, looked up by any test that ties equal numbers alone -------------------

module _ {X : Type 0} (same : ℕ → ℕ → Bool) (ties : (x y : ℕ) → same x y ≡ eq_by_cmp nat_cmp x y) where
  -- both words find the first entry
  pub find-by : (q : ℕ) (es : List (ℕ × X)) → find nat_cmp q es ≡ lookup (same q) es
  find-by q [] = refl
  find-by q (e ∷ es) = λ i. cond (sym (ties q e.0) i) (Some e.1) (find-by q es i)

  -- the map has at a key what the list has there first
  pub get-by : (es : List (ℕ × X)) (q : ℕ) → get (from_entries {R = nat_cmp} es) q ≡ lookup (same q) es
  get-by es q = get-from_entries nat_cmp_total es q ∙ find-by q es

  -- a list that has w at one key and the rest of an older list, seen as maps
  get-updated : (old new : List (ℕ × X)) (k : ℕ) (w : Option X)
      → ((q : ℕ) → lookup (same q) new ≡ cond (same k q) w (lookup (same q) old))
      → (q : ℕ) → get (from_entries {R = nat_cmp} new) q ≡ cond (eq_by_cmp nat_cmp q k) w (get (from_entries {R = nat_cmp} old) q)
  get-updated old new k w says q =
      get-by new q ∙ says q ∙ (λ i. cond ((ties k q ∙ turned k q) i) w (sym (get-by old q) i))

  -- with a value there it stands for the older map with that value
  pub inserted-by : (old new : List (ℕ × X)) (k : ℕ) (v : X)
      → ((q : ℕ) → lookup (same q) new ≡ cond (same k q) (Some v) (lookup (same q) old))
      → from_entries {R = nat_cmp} new ≡ insert (from_entries old) k v
  inserted-by old new k v says = same_map nat_cmp_total nat_cmp-IsAntisymmetric _ _ (λ q.
      get-updated old new k (Some v) says q ∙ sym (get-insert nat_cmp_total (from_entries old) k v q))

  -- with nothing there for the older map without that key
  pub removed-by : (old new : List (ℕ × X)) (k : ℕ)
      → ((q : ℕ) → lookup (same q) new ≡ cond (same k q) None (lookup (same q) old))
      → from_entries {R = nat_cmp} new ≡ remove (from_entries old) k
  removed-by old new k says = same_map nat_cmp_total nat_cmp-IsAntisymmetric _ _ (λ q.
      get-updated old new k None says q ∙ sym (get-remove nat_cmp_total (from_entries old) k q))

-- the same by the test of numbers
module _ {X : Type 0} where
  pub find-lookup : (q : ℕ) (es : List (ℕ × X)) → find nat_cmp q es ≡ lookup (nat_eq q) es
  find-lookup q es = find-by nat_eq eq_by_cmp-nat_cmp q es

  pub get-entries_lookup : (es : List (ℕ × X)) (q : ℕ) → get (from_entries {R = nat_cmp} es) q ≡ lookup (nat_eq q) es
  get-entries_lookup es q = get-by nat_eq eq_by_cmp-nat_cmp es q

  pub updated_map : (old new : List (ℕ × X)) (k : ℕ) (v : X)
      → ((q : ℕ) → lookup (nat_eq q) new ≡ cond (nat_eq k q) (Some v) (lookup (nat_eq q) old))
      → from_entries {R = nat_cmp} new ≡ insert (from_entries old) k v
  updated_map old new k v says = inserted-by nat_eq eq_by_cmp-nat_cmp old new k v says

  pub removed_map : (old new : List (ℕ × X)) (k : ℕ)
      → ((q : ℕ) → lookup (nat_eq q) new ≡ cond (nat_eq k q) None (lookup (nat_eq q) old))
      → from_entries {R = nat_cmp} new ≡ remove (from_entries old) k
  removed_map old new k says = removed-by nat_eq eq_by_cmp-nat_cmp old new k says

  -- no entries are the empty map
  pub empty_map : (es : List (ℕ × X)) → es ≡ [] → from_entries {R = nat_cmp} es ≡ empty
  empty_map es none = ap (λ l. from_entries {R = nat_cmp} l) none

  -- what a look-up in the entries finds is in the map
  pub get-lookup : (m : FinMap nat_cmp X) (q : ℕ) → get m q ≡ lookup (nat_eq q) (entries m)
  get-lookup m q = get-entries m q ∙ find-lookup q (entries m)

-- keys that are put in and taken out ------------------------------------------------------------------------

module _ {X : Type 0} where
  -- to take out a key that isn't there changes nothing
  pub remove_absent : (m : FinMap nat_cmp X) (k : ℕ) → get m k ≡ None → remove m k ≡ m
  remove_absent m k none = same_map nat_cmp_total nat_cmp-IsAntisymmetric _ _ (λ q.
      get-remove nat_cmp_total m k q ∙ by q (cases_eq q k))
    where
      by : (q : ℕ) → ((q ≡ k) ⊎ (q ≢ k)) → cond (eq_by_cmp nat_cmp q k) None (get m q) ≡ get m q
      by q (inl same) =
          let hit : eq_by_cmp nat_cmp q k ≡ true = grind (arith, nat_tests) in
          ap (λ b. cond b None (get m q)) hit ∙ sym (ap (get m) same ∙ none)
      by q (inr apart) =
          let miss : eq_by_cmp nat_cmp q k ≡ false = grind (arith, nat_tests) in
          ap (λ b. cond b None (get m q)) miss

  -- what is taken out and put back is as it was
  pub insert-remove : (m : FinMap nat_cmp X) (k : ℕ) (v : X) → get m k ≡ Some v → insert (remove m k) k v ≡ m
  insert-remove m k v some = same_map nat_cmp_total nat_cmp-IsAntisymmetric _ _ (λ q.
      get-insert nat_cmp_total (remove m k) k v q ∙ ap (λ o. cond (eq_by_cmp nat_cmp q k) (Some v) o) (get-remove nat_cmp_total m k q) ∙ by q (cases_eq q k))
    where
      by : (q : ℕ) → ((q ≡ k) ⊎ (q ≢ k)) → cond (eq_by_cmp nat_cmp q k) (Some v) (cond (eq_by_cmp nat_cmp q k) None (get m q)) ≡ get m q
      by q (inl same) =
          let hit : eq_by_cmp nat_cmp q k ≡ true = grind (arith, nat_tests) in
          ap (λ b. cond b (Some v) (cond b None (get m q))) hit ∙ sym (ap (get m) same ∙ some)
      by q (inr apart) =
          let miss : eq_by_cmp nat_cmp q k ≡ false = grind (arith, nat_tests) in
          ap (λ b. cond b (Some v) (cond b None (get m q))) miss

  -- a key that was taken out isn't there
  pub get-removed : (m : FinMap nat_cmp X) (k : ℕ) → get (remove m k) k ≡ None
  get-removed m k =
      let hit : eq_by_cmp nat_cmp k k ≡ true = grind (arith, nat_tests) in
      get-remove nat_cmp_total m k k ∙ ap (λ b. cond b None (get m k)) hit

  -- what holds of each key of a map holds of each key with one more of which it holds
  pub keys-insert : (P : ℕ → Type 0) (m : FinMap nat_cmp X) (k : ℕ) (v : X) → P k → ((q : ℕ) → IsSome (get m q) → P q) → (q : ℕ) → IsSome (get (insert m k v) q) → P q
  keys-insert P m k v here all q there = by (cases_eq q k)
    where
      by : ((q ≡ k) ⊎ (q ≢ k)) → P q
      by (inl same) = subst P (sym same) here
      by (inr apart) =
          let miss : eq_by_cmp nat_cmp q k ≡ false = grind (arith, nat_tests) in
          let same : get (insert m k v) q ≡ get m q = get-insert nat_cmp_total m k v q ∙ ap (λ b. cond b (Some v) (get m q)) miss in
          all q (ap is_some (sym same) ∙ there)

  -- and of each key that is left when one is taken out
  pub keys-remove : (P : ℕ → Type 0) (m : FinMap nat_cmp X) (k : ℕ) → ((q : ℕ) → IsSome (get m q) → P q) → (q : ℕ) → IsSome (get (remove m k) q) → P q
  keys-remove P m k all q there = by (cases_eq q k)
    where
      by : ((q ≡ k) ⊎ (q ≢ k)) → P q
      by (inl same) =
          let none : get (remove m k) q ≡ None = ap (get (remove m k)) same ∙ get-removed m k in
          let no : false ≡ true = sym (ap is_some none) ∙ there in cc
      by (inr apart) =
          let miss : eq_by_cmp nat_cmp q k ≡ false = grind (arith, nat_tests) in
          let same : get (remove m k) q ≡ get m q = get-remove nat_cmp_total m k q ∙ ap (λ b. cond b None (get m q)) miss in
          all q (ap is_some (sym same) ∙ there)

-- no key is in the empty map
pub keys-empty : (X : Type 0) (P : ℕ → Type 0) (q : ℕ) → IsSome (get (empty {X = X} {R = nat_cmp}) q) → P q
keys-empty X P q there = let no : false ≡ true = sym (ap is_some (get-empty nat_cmp q)) ∙ there in cc

-- the keys in ascending order -----------------------------------------------------------------------------

both_first : (a b : Bool) → T (a && b) → T a
both_first true b h = tt
both_first false b h = h

both_second : (a b : Bool) → T (a && b) → T b
both_second true b h = h
both_second false b h = absurd h

is_true : (b : Bool) → T b → b ≡ true
is_true true h = refl
is_true false h = absurd h

module _ {X : Type 0} where
  -- the entries whose keys are not below this number, in their order
  abbrev pub from_key : ℕ → List (ℕ × X) → List (ℕ × X)
  from_key from es = filter (λ e. nat_le from e.0) es

  -- the key of the first entry
  abbrev pub first_key : List (ℕ × X) → Option ℕ
  first_key es = option_map (λ e. e.0) (slice_get es 0)

  -- a key that is below those of all entries isn't among them
  pub missing : (k x : ℕ) (es : List (ℕ × X)) → k < x → T (below_all nat_cmp x es) → find nat_cmp k es ≡ None
  missing k x [] less low = refl
  missing k x (e ∷ es) less low =
      let first : is_lt (nat_cmp x e.0) ≡ true = is_true _ (both_first _ _ low) in
      let differ : eq_by_cmp nat_cmp k e.0 ≡ false = grind (arith, nat_tests) in
      ap (λ b. cond b (Some e.1) (find nat_cmp k es)) differ ∙ missing k x es less (both_second _ _ low)

  -- a number that is below each key is below a key that is there
  pub below_key : (x : ℕ) (es : List (ℕ × X)) → T (below_all nat_cmp x es) → (q : ℕ) → is_some (lookup (nat_eq q) es) ≡ true → x < q
  below_key x [] low q there = let no : false ≡ true = there in cc
  below_key x (e ∷ es) low q there = by (cases_eq q e.0) (below_key x es (both_second _ _ low) q) (is_true _ (both_first _ _ low))
    where
      by : ((q ≡ e.0) ⊎ (q ≢ e.0)) → (is_some (lookup (nat_eq q) es) ≡ true → x < q) → is_lt (nat_cmp x e.0) ≡ true → x < q
      by (inl same) rest first = let less : x < e.0 = grind (arith, nat_tests) in omega arith
      by (inr apart) rest first =
          let differ : nat_eq q e.0 ≡ false = grind (arith, nat_tests) in
          rest (ap (λ b. is_some (cond b (Some e.1) (lookup (nat_eq q) es))) (sym differ) ∙ there)

  -- the first of entries in order
  pub sorted-head : (e : ℕ × X) (es : List (ℕ × X)) → T (is_sorted nat_cmp (e ∷ es)) → T (below_all nat_cmp e.0 es)
  sorted-head e es rises = both_first _ _ rises

  -- and the others
  pub sorted-tail : (e : ℕ × X) (es : List (ℕ × X)) → T (is_sorted nat_cmp (e ∷ es)) → T (is_sorted nat_cmp es)
  sorted-tail e es rises = both_second _ _ rises

  -- keys above x are above from, where from is at most x + 1
  from_key-above : (x from : ℕ) (es : List (ℕ × X)) → T (below_all nat_cmp x es) → from ≤ x → from_key from es ≡ from_key (x + 1) es
  from_key-above x from [] low less = refl
  from_key-above x from (e ∷ es) low less =
      let first : is_lt (nat_cmp x e.0) ≡ true = is_true _ (both_first _ _ low) in
      let over : x < e.0 = grind (arith, nat_tests) in
      let test : nat_le from e.0 ≡ true = grind (arith, nat_tests) in
      let later : nat_le (x + 1) e.0 ≡ true = grind (arith, nat_tests) in
      let rest : from_key from es ≡ from_key (x + 1) es = from_key-above x from es (both_second _ _ low) less in
      (λ i. cond (test i) (e ∷ rest i) (rest i)) ∙ (λ i. cond (sym later i) (e ∷ from_key (x + 1) es) (from_key (x + 1) es))

  none_past : (limit : ℕ) (es : List (ℕ × X)) → ((q : ℕ) → is_some (find nat_cmp q es) ≡ true → q < limit) → from_key limit es ≡ []
  none_past limit [] bound = refl
  none_past limit (e ∷ es) bound =
      let hit : eq_by_cmp nat_cmp e.0 e.0 ≡ true = grind (arith, nat_tests) in
      let low : e.0 < limit = bound e.0 (ap (λ b. is_some (cond b (Some e.1) (find nat_cmp e.0 es))) hit) in
      let skips : nat_le limit e.0 ≡ false = grind (arith, nat_tests) in
      ap (λ b. cond b (e ∷ from_key limit es) (from_key limit es)) skips
      ∙ none_past limit es (λ q there. bound q (
      elim (eq_by_cmp nat_cmp q e.0) as (λ b. is_some (cond b (Some e.1) (find nat_cmp q es)) ≡ true) [ true ↦ refl | false ↦ there ]))

  -- no key is past a limit that all are below
  pub from_key-past : (limit : ℕ) (m : FinMap nat_cmp X) → ((q : ℕ) → IsSome (get m q) → q < limit) → from_key limit (entries m) ≡ []
  from_key-past limit m bound = none_past limit (entries m) (λ q there. bound q (ap is_some (get-entries m q) ∙ there))

  -- from 0 on there are all
  pub from_key-zero : (es : List (ℕ × X)) → from_key 0 es ≡ es
  from_key-zero [] = refl
  from_key-zero (e ∷ es) =
      let takes : nat_le 0 e.0 ≡ true = grind (arith, nat_tests) in
      ap (λ b. cond b (e ∷ from_key 0 es) (from_key 0 es)) takes ∙ ap (λ l. e ∷ l) (from_key-zero es)

-- the next key, its value, and what is left behind it
pub record Next {X : Type 0} (m : FinMap nat_cmp X) (from key : ℕ) : Type 0 where
  pub value : X
  pub from_on : from ≤ key
  pub found : get m key ≡ Some value
  pub cut : from_key from (entries m) ≡ (key, value) ∷ from_key (key + 1) (entries m)

-- the same of a list in order
record NextEntry {X : Type 0} (es : List (ℕ × X)) (from key : ℕ) : Type 0 where
  value : X
  from_on : from ≤ key
  found : find nat_cmp key es ≡ Some value
  cut : from_key from es ≡ (key, value) ∷ from_key (key + 1) es

module _ {X : Type 0} where
  next_of : (es : List (ℕ × X)) → T (is_sorted nat_cmp es) → (from key : ℕ) → first_key (from_key from es) ≡ Some key → NextEntry es from key
  next_of [] rises from key first = cc
  next_of (e ∷ es) rises from key first = by (cases_lt e.0 from) (next_of es (both_second _ _ rises) from key)
    where
      by : ((e.0 < from) ⊎ (from ≤ e.0)) → (first_key (from_key from es) ≡ Some key → NextEntry es from key) → NextEntry (e ∷ es) from key
      by (inl less) rest =
          let skips : nat_le from e.0 ≡ false = grind (arith, nat_tests) in
          let shorter : from_key from (e ∷ es) ≡ from_key from es = ap (λ b. cond b (e ∷ from_key from es) (from_key from es)) skips in
          let next : NextEntry es from key = rest (ap first_key (sym shorter) ∙ first) in
          let on : from ≤ key = next.from_on in
          let differ : eq_by_cmp nat_cmp key e.0 ≡ false = grind (arith, nat_tests) in
          let skips_on : nat_le (key + 1) e.0 ≡ false = grind (arith, nat_tests) in
          record {
            value = next.value;
            from_on = on;
            found = ap (λ b. cond b (Some e.1) (find nat_cmp key es)) differ ∙ next.found;
            cut = shorter ∙ next.cut
                ∙ ap (λ l. (key, next.value) ∷ l) (sym (ap (λ b. cond b (e ∷ from_key (key + 1) es) (from_key (key + 1) es)) skips_on));
          }
      by (inr on) rest =
          let takes : nat_le from e.0 ≡ true = grind (arith, nat_tests) in
          let longer : from_key from (e ∷ es) ≡ e ∷ from_key from es = ap (λ b. cond b (e ∷ from_key from es) (from_key from es)) takes in
          let some : Some e.0 ≡ Some key = ap first_key (sym longer) ∙ first in
          let same : e.0 ≡ key = cc in
          let hit : eq_by_cmp nat_cmp key e.0 ≡ true = grind (arith, nat_tests) in
          let skips_on : nat_le (key + 1) e.0 ≡ false = grind (arith, nat_tests) in
          let later : from_key from es ≡ from_key (key + 1) es = from_key-above e.0 from es (both_first _ _ rises) on ∙ ap (λ n. from_key (n + 1) es) same in
          record {
            value = e.1;
            from_on = omega arith;
            found = ap (λ b. cond b (Some e.1) (find nat_cmp key es)) hit;
            cut = longer ∙ (λ i. (same i, e.1) ∷ later i)
                ∙ ap (λ l. (key, e.1) ∷ l) (sym (ap (λ b. cond b (e ∷ from_key (key + 1) es) (from_key (key + 1) es)) skips_on));
          }

  -- where there is a next key
  pub next_some : (m : FinMap nat_cmp X) (from key : ℕ) → first_key (from_key from (entries m)) ≡ Some key → Next m from key
  next_some m from key first =
      let next : NextEntry (entries m) from key = next_of (entries m) (entries_sorted m) from key first in
      record { value = next.value; from_on = next.from_on; found = get-entries m key ∙ next.found; cut = next.cut }

  no_first : (es : List (ℕ × X)) → first_key es ≡ None → es ≡ []
  no_first [] none = refl
  no_first (e ∷ es) none = let some : Some e.0 ≡ None = none in cc

  -- where there is none
  pub next_none : (m : FinMap nat_cmp X) (from : ℕ) → first_key (from_key from (entries m)) ≡ None → from_key from (entries m) ≡ []
  next_none m from none = no_first (from_key from (entries m)) none

-- counts and sums -------------------------------------------------------------------------------------------

module _ {X : Type 0} where
  absent : (k : ℕ) (es : List (ℕ × X)) → AllByRecursion (λ y. nat_eq k y ≡ false) (keys_of es) → lookup (nat_eq k) es ≡ None
  absent k [] apart = refl
  absent k (e ∷ es) apart = (λ i. cond (apart.0 i) (Some e.1) (lookup (nat_eq k) es)) ∙ absent k es apart.1

  -- a key that is first among distinct keys isn't in the map of the rest
  get-absent : (k : ℕ) (v : X) (es : List (ℕ × X)) → IsDistinct nat_eq (keys_of ((k, v) ∷ es)) → get (from_entries {R = nat_cmp} es) k ≡ None
  get-absent k v es distinct = get-entries_lookup es k ∙ absent k es (IsDistinct-head nat_eq k (keys_of es) distinct)

  -- the map has as many entries as the list
  pub len-from_entries : (es : List (ℕ × X)) → IsDistinct nat_eq (keys_of es) → len (from_entries {R = nat_cmp} es) ≡ length es
  len-from_entries [] distinct = len-empty nat_cmp X
  len-from_entries (e ∷ es) distinct =
      let rest : len (from_entries {R = nat_cmp} es) ≡ length es = len-from_entries es (IsDistinct-tail nat_eq e.0 (keys_of es) distinct) in
      len-insert nat_cmp_total (from_entries es) e.0 e.1
      ∙ (λ i. cond (is_some (get-absent e.0 e.1 es distinct i)) (len (from_entries {R = nat_cmp} es)) (len (from_entries {R = nat_cmp} es) + 1))
      ∙ omega arith

  no_entries : (es : List (ℕ × X)) → length es ≡ 0 → es ≡ []
  no_entries [] none = refl
  no_entries (e ∷ es) none = absurd (omega arith)

module _ {X : Type 0} (f : X → ℕ) where
  -- what a key has of the sum, which may not be there
  abbrev pub share : Option X → ℕ
  share found = option_map_or f found 0

  sum-put : (k : ℕ) (v : X) (es : List (ℕ × X)) → T (is_sorted nat_cmp es)
      → sum_by f (values_of (put nat_cmp k v es)) + share (find nat_cmp k es) ≡ sum_by f (values_of es) + f v
  sum-put k v [] rises = let one : sum_by f (v ∷ []) ≡ f v + sum_by f [] = sum_by-cons f v [] in omega arith
  sum-put k v (e ∷ es) rises = by (nat_cmp k e.0) refl (sum-put k v es (both_second _ _ rises))
    where
      by : (o : Ordering) → nat_cmp k e.0 ≡ o
          → sum_by f (values_of (put nat_cmp k v es)) + share (find nat_cmp k es) ≡ sum_by f (values_of es) + f v
          → sum_by f (values_of (put nat_cmp k v (e ∷ es))) + share (find nat_cmp k (e ∷ es)) ≡ sum_by f (values_of (e ∷ es)) + f v
      by Less p more =
          let less : k < e.0 = grind (arith, nat_tests) in
          let none : find nat_cmp k es ≡ None = missing k e.0 es less (both_first _ _ rises) in
          let all : sum_by f (v ∷ values_of (e ∷ es)) ≡ f v + sum_by f (values_of (e ∷ es)) = sum_by-cons f v (values_of (e ∷ es)) in
          (λ i. sum_by f (values_of (by_order (p i) ((k, v) ∷ e ∷ es) ((e.0, v) ∷ es) (e ∷ put nat_cmp k v es)))
          + share (cond (is_eq (p i)) (Some e.1) (none i)))
          ∙ omega arith
      by Equal p more =
          let all : sum_by f (v ∷ values_of es) ≡ f v + sum_by f (values_of es) = sum_by-cons f v (values_of es) in
          let was : sum_by f (e.1 ∷ values_of es) ≡ f e.1 + sum_by f (values_of es) = sum_by-cons f e.1 (values_of es) in
          (λ i. sum_by f (values_of (by_order (p i) ((k, v) ∷ e ∷ es) ((e.0, v) ∷ es) (e ∷ put nat_cmp k v es)))
          + share (cond (is_eq (p i)) (Some e.1) (find nat_cmp k es)))
          ∙ omega arith
      by Greater p more =
          let all : sum_by f (e.1 ∷ values_of (put nat_cmp k v es)) ≡ f e.1 + sum_by f (values_of (put nat_cmp k v es)) = sum_by-cons f e.1 (values_of (put nat_cmp k v es)) in
          let was : sum_by f (e.1 ∷ values_of es) ≡ f e.1 + sum_by f (values_of es) = sum_by-cons f e.1 (values_of es) in
          (λ i. sum_by f (values_of (by_order (p i) ((k, v) ∷ e ∷ es) ((e.0, v) ∷ es) (e ∷ put nat_cmp k v es)))
          + share (cond (is_eq (p i)) (Some e.1) (find nat_cmp k es)))
          ∙ omega arith

  -- a value that is put in adds its share, and what was there gives its own back
  pub sum-insert : (m : FinMap nat_cmp X) (k : ℕ) (v : X) → sum_by f (values (insert m k v)) + share (get m k) ≡ sum_by f (values m) + f v
  sum-insert m k v =
      (λ i. sum_by f (values_of (entries-insert nat_cmp_total m k v i)) + share (get-entries m k i))
      ∙ sum-put k v (entries m) (entries_sorted m)

  -- what is taken out gives its share back
  pub sum-remove : (m : FinMap nat_cmp X) (k : ℕ) → sum_by f (values (remove m k)) + share (get m k) ≡ sum_by f (values m)
  sum-remove m k = by (get m k) refl
    where
      by : (o : Option X) → get m k ≡ o → sum_by f (values (remove m k)) + share (get m k) ≡ sum_by f (values m)
      by None none = (λ i. sum_by f (values (remove_absent m k none i)) + share (none i)) ∙ omega arith
      by (Some v) some =
          let put_back : sum_by f (values (insert (remove m k) k v)) + share (get (remove m k) k) ≡ sum_by f (values (remove m k)) + f v = sum-insert (remove m k) k v in
          ap (λ o. sum_by f (values (remove m k)) + share o) some
          ∙ sym put_back ∙ (λ i. sum_by f (values (insert-remove m k v some i)) + share (get-removed m k i)) ∙ omega arith

  -- the empty map has none
  pub sum-empty : sum_by f (values (empty {R = nat_cmp})) ≡ 0
  sum-empty = ap (λ l. sum_by f (values_of l)) (no_entries (entries empty) (sym (len-entries empty) ∙ len-empty nat_cmp X))

  -- the map's values have the same sum as those of a list with distinct keys
  pub sum_by-from_entries : (es : List (ℕ × X)) → IsDistinct nat_eq (keys_of es)
      → sum_by f (values (from_entries {R = nat_cmp} es)) ≡ sum_by f (values_of es)
  sum_by-from_entries [] distinct = sum-empty
  sum_by-from_entries (e ∷ es) distinct =
      let rest : sum_by f (values (from_entries {R = nat_cmp} es)) ≡ sum_by f (values_of es) = sum_by-from_entries es (IsDistinct-tail nat_eq e.0 (keys_of es) distinct) in
      let adds = sum-insert (from_entries es) e.0 e.1 in
      let none : share (get (from_entries {R = nat_cmp} es) e.0) ≡ 0 = ap share (get-absent e.0 e.1 es distinct) in
      let all : sum_by f (values_of (e ∷ es)) ≡ f e.1 + sum_by f (values_of es) = sum_by-cons f e.1 (values_of es) in
      omega (arith, adds, none)
