-- The surfaces by ascending id, one after another.
use Rattle.std.proofs.Common.{◌≡◌, ◌≢◌, ◌∙◌, ◌⊎◌, ◌<◌, ◌≤◌, ◌||◌, All, Contains, inl, inr, ap, sym, refl, subst, nat_eq, nat_le, cond, filter, true, false, ℕ, List, [], ◌∷◌, Option, Some, None, is_some, arith}
use Rattle.std.specs.Prelude.{T, get_or}
use Rattle.std.proofs.lemmas.List.Elements.{All-contains, All-filter, filter_passes}
use Rattle.std.proofs.lemmas.List.Recursion.{or_at}
use Rattle.std.proofs.lemmas.Map.Made.{is_some-lookup}
use Rattle.indexmap.proofs.CallerLemmas.{Contains-list_any}
use Rattle.std.specs.Ordering.{nat_cmp}
use Rattle.std.specs.Map.{lookup, keys_of}
use Rattle.std.specs.List.{list_any}
use Rattle.std.specs.FinMap.{entries, entries_sorted, get-entries, from_entries, is_sorted}
use Rattle.std.proofs.lemmas.Bool.{cases_eq, cases_lt}
use Rattle.std.proofs.lemmas.Bool.Decides.{nat_tests}
use Rattle.gfx_surface.specs.Picture.{Picture}
use Rattle.gfx_surface_map.specs.Order.{from_id, first_id, IsLeastFrom}
use Rattle.gfx_surface_map.specs.Surfaces.{Surfaces}
use Rattle.gfx_base.proofs.MapLemmas.{find-lookup, get-entries_lookup, below_key, sorted-head, sorted-tail}

abbrev Entries : Type 0
Entries = List (ℕ × Picture)

eq_itself : (n : ℕ) → nat_eq n n ≡ true
eq_itself n = grind (arith, nat_tests)

same_number : (x y : ℕ) → nat_eq x y ≡ true → x ≡ y
same_number x y same = grind (arith, nat_tests)

same_Some : (x y : ℕ) → Some x ≡ Some y → x ≡ y
same_Some x y same = cc

-- the least key that is not below from, as look-ups see it
record Least (es : List (ℕ × Picture)) (from : ℕ) (least : Option ℕ) : Type 0 where
  none : least ≡ None → (q : ℕ) → from ≤ q → is_some (lookup (nat_eq q) es) ≡ false
  on : (k : ℕ) → least ≡ Some k → from ≤ k
  there : (k : ℕ) → least ≡ Some k → is_some (lookup (nat_eq k) es) ≡ true
  lowest : (k : ℕ) → least ≡ Some k → (q : ℕ) → from ≤ q → is_some (lookup (nat_eq q) es) ≡ true → k ≤ q

least_is_first : (es : Entries) → T (is_sorted nat_cmp es) → (from : ℕ) (least : Option ℕ) → Least es from least → least ≡ first_id (from_id from es)
least_is_first [] rises from None l = refl
least_is_first [] rises from (Some k) l = let no : false ≡ true = l.there k refl in cc
least_is_first (e ∷ es) rises from least l = by (cases_lt e.0 from) (least_is_first es (sorted-tail e es rises) from least)
  where
    skipped : (q : ℕ) → e.0 < from → from ≤ q → lookup (nat_eq q) (e ∷ es) ≡ lookup (nat_eq q) es
    skipped q less on =
        let differ : nat_eq q e.0 ≡ false = grind (arith, nat_tests) in
        ap (λ b. cond b (Some e.1) (lookup (nat_eq q) es)) differ

    taken : (k : Option ℕ) → least ≡ k → from ≤ e.0 → k ≡ Some e.0
    taken None is on =
        let hit : nat_eq e.0 e.0 ≡ true = grind (arith, nat_tests) in
        let no : true ≡ false = sym (ap (λ b. is_some (cond b (Some e.1) (lookup (nat_eq e.0) es))) hit) ∙ l.none is e.0 on in cc
    taken (Some k) is on =
        let hit : nat_eq e.0 e.0 ≡ true = grind (arith, nat_tests) in
        let low : k ≤ e.0 = l.lowest k is e.0 on (ap (λ b. is_some (cond b (Some e.1) (lookup (nat_eq e.0) es))) hit) in
        let high : e.0 ≤ k = not_below k (cases_eq k e.0) (l.there k is) in
        let same : k ≡ e.0 = omega arith in
        ap Some same
      where
        not_below : (k : ℕ) → ((k ≡ e.0) ⊎ (k ≢ e.0)) → is_some (lookup (nat_eq k) (e ∷ es)) ≡ true → e.0 ≤ k
        not_below k (inl same) here = omega arith
        not_below k (inr apart) here =
            let differ : nat_eq k e.0 ≡ false = grind (arith, nat_tests) in
            let over : e.0 < k = below_key e.0 es (sorted-head e es rises) k (ap (λ b. is_some (cond b (Some e.1) (lookup (nat_eq k) es))) (sym differ) ∙ here) in
            omega arith

    by : ((e.0 < from) ⊎ (from ≤ e.0)) → (Least es from least → least ≡ first_id (from_id from es)) → least ≡ first_id (from_id from (e ∷ es))
    by (inl less) rest =
        let skips : nat_le from e.0 ≡ false = grind (arith, nat_tests) in
        rest record {
          none = λ is q on. ap is_some (sym (skipped q less on)) ∙ l.none is q on;
          on = l.on;
          there = λ k is. ap is_some (sym (skipped k less (l.on k is))) ∙ l.there k is;
          lowest = λ k is q on here. l.lowest k is q on (ap is_some (skipped q less on) ∙ here);
        }
        ∙ ap first_id (sym (ap (λ b. cond b (e ∷ from_id from es) (from_id from es)) skips))
    by (inr on) rest =
        let takes : nat_le from e.0 ≡ true = grind (arith, nat_tests) in
        taken least refl on ∙ ap first_id (sym (ap (λ b. cond b (e ∷ from_id from es) (from_id from es)) takes))

-- a list of keys: what the filter keeps, as list_any sees it
none_from : (from : ℕ) (ks : List ℕ) → filter (λ id. nat_le from id) ks ≡ [] → (q : ℕ) → from ≤ q → list_any (nat_eq q) ks ≡ false
none_from from [] none q on = refl
none_from from (k ∷ ks) none q on = by (cases_lt k from) (λ rest. none_from from ks rest q on)
  where
    by : ((k < from) ⊎ (from ≤ k)) → (filter (λ id. nat_le from id) ks ≡ [] → list_any (nat_eq q) ks ≡ false) → list_any (nat_eq q) (k ∷ ks) ≡ false
    by (inl less) rest =
        let skips : nat_le from k ≡ false = grind (arith, nat_tests) in
        let differ : nat_eq q k ≡ false = grind (arith, nat_tests) in
        ap (λ b. b || list_any (nat_eq q) ks) differ
        ∙ rest (sym (ap (λ b. cond b (k ∷ filter (λ id. nat_le from id) ks) (filter (λ id. nat_le from id) ks)) skips) ∙ none)
    by (inr low) rest =
        let takes : nat_le from k ≡ true = grind (arith, nat_tests) in
        let some : k ∷ filter (λ id. nat_le from id) ks ≡ [] = sym (ap (λ b. cond b (k ∷ filter (λ id. nat_le from id) ks) (filter (λ id. nat_le from id) ks)) takes) ∙ none in cc

-- a key that is kept is not below from
kept_on : (from : ℕ) (ks : List ℕ) → All (λ k. from ≤ k) (filter (λ id. nat_le from id) ks)
kept_on from ks k d below =
    let passes : nat_le from (get_or (filter (λ id. nat_le from id) ks) k d) ≡ true = filter_passes (λ id. nat_le from id) ks k d below in
    grind (arith, nat_tests)

-- and in the list
kept_in : (from : ℕ) (ks : List ℕ) → All (λ k. list_any (nat_eq k) ks ≡ true) (filter (λ id. nat_le from id) ks)
kept_in from ks =
    All-filter (λ id. nat_le from id) (λ k. list_any (nat_eq k) ks ≡ true) ks
    (λ k d below. or_at (list_any (nat_eq (get_or ks k d))) (nat_eq (get_or ks k d)) refl (λ _ _. refl) ks k d below (eq_itself (get_or ks k d)))

-- and each such key is kept
kept_any : (from q : ℕ) (ks : List ℕ) → from ≤ q → list_any (nat_eq q) (filter (λ id. nat_le from id) ks) ≡ list_any (nat_eq q) ks
kept_any from q [] on = refl
kept_any from q (k ∷ ks) on = by (cases_lt k from) (kept_any from q ks on)
  where
    by : ((k < from) ⊎ (from ≤ k)) → list_any (nat_eq q) (filter (λ id. nat_le from id) ks) ≡ list_any (nat_eq q) ks
        → list_any (nat_eq q) (filter (λ id. nat_le from id) (k ∷ ks)) ≡ list_any (nat_eq q) (k ∷ ks)
    by (inl less) rest =
        let skips : nat_le from k ≡ false = grind (arith, nat_tests) in
        let differ : nat_eq q k ≡ false = grind (arith, nat_tests) in
        ap (λ b. list_any (nat_eq q) (cond b (k ∷ filter (λ id. nat_le from id) ks) (filter (λ id. nat_le from id) ks))) skips
        ∙ rest ∙ ap (λ b. b || list_any (nat_eq q) ks) (sym differ)
    by (inr low) rest =
        let takes : nat_le from k ≡ true = grind (arith, nat_tests) in
        ap (λ b. list_any (nat_eq q) (cond b (k ∷ filter (λ id. nat_le from id) ks) (filter (λ id. nat_le from id) ks))) takes
        ∙ ap (λ b. nat_eq q k || b) rest

keeps : (from q : ℕ) (ks : List ℕ) → from ≤ q → list_any (nat_eq q) ks ≡ true → Contains (filter (λ id. nat_le from id) ks) q
keeps from q ks on there = Contains-list_any nat_eq same_number (filter (λ id. nat_le from id) ks) q (kept_any from q ks on ∙ there)

-- the map of a list of entries
abbrev pub map_of : List (ℕ × Picture) → Surfaces
map_of es = from_entries es

-- the map's entries are looked up as the list's
module _ (es : Entries) where
  lookup_same : (q : ℕ) → lookup (nat_eq q) (entries (map_of es)) ≡ lookup (nat_eq q) es
  lookup_same q = sym (find-lookup q (entries (map_of es))) ∙ sym (get-entries (map_of es) q) ∙ get-entries_lookup es q

  any_same : (q : ℕ) → is_some (lookup (nat_eq q) (entries (map_of es))) ≡ list_any (nat_eq q) (keys_of es)
  any_same q = ap is_some (lookup_same q) ∙ is_some-lookup (nat_eq q) es

  least_of_list : (from : ℕ) (least : Option ℕ) → IsLeastFrom from (keys_of es) least → Least (entries (map_of es)) from least
  least_of_list from None none = record {
    none = λ _ q on. any_same q ∙ none_from from (keys_of es) none q on;
    on = λ k is. cc;
    there = λ k is. cc;
    lowest = λ k is q on here. cc;
  }
  least_of_list from (Some id) (held, lowest) = record {
    none = λ is q on. cc;
    on = λ k is. All-contains (λ n. from ≤ n) _ k (kept_on from (keys_of es)) (subst (Contains _) (same_Some id k is) held);
    there = λ k is. any_same k ∙ All-contains (λ n. list_any (nat_eq n) (keys_of es) ≡ true) _ k (kept_in from (keys_of es)) (subst (Contains _) (same_Some id k is) held);
    lowest = λ k is q on here.
        subst (λ n. n ≤ q) (same_Some id k is) (All-contains (λ n. id ≤ n) _ q lowest (keeps from q (keys_of es) on (sym (any_same q) ∙ here)));
  }

  -- the least id of the list is the first of the map
  pub first_id-from_entries : (from : ℕ) (least : Option ℕ) → IsLeastFrom from (keys_of es) least → least ≡ first_id (from_id from (entries (map_of es)))
  first_id-from_entries from least is = least_is_first (entries (map_of es)) (entries_sorted (map_of es)) from least (least_of_list from least is)
