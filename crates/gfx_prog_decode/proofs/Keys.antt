-- The order of keys, and the map that a list of entries stands for, whatever its values are.
use Rattle.std.proofs.Common.{◌≡◌, ◌∙◌, ap, sym, refl, cond, filter, Bool, true, false, List, [], ◌∷◌, length, ◌+◌, Option, Some, None, is_some, arith}
use Rattle.std.specs.Cmp.{Equal-is, IsTotalOrder, eq_by_cmp_equiv}
use Rattle.std.specs.Cmp.Lexicographic.{on_texts}
use Rattle.std.specs.FinMap.{IsAntisymmetric, find, from_entries, get, get-from_entries, get-insert, get-remove, get-retain_keys, insert, len, len-empty, len-insert, nat_cmp-IsAntisymmetric, remove, retain_keys, same_map, slice_cmp-IsAntisymmetric}
use Rattle.std.proofs.lemmas.Map.Keys.{IsDistinct-head, IsDistinct-tail}
use Rattle.std.specs.List.{AllByRecursion, IsDistinct, slice_index_or}
use Rattle.std.specs.Map.{lookup, keys_of}
use Rattle.std.specs.Ordering.{eq_by_cmp}
use Rattle.gfx_tile_state.specs.declared.state.TileState.{TileState}
use Rattle.gfx_prog_decode.specs.declared.key.Key.{Key}
use Rattle.gfx_prog_decode.specs.Records.{Records, key_cmp, numbers}

-- keys are totally ordered
pub key_total : IsTotalOrder key_cmp
key_total = on_texts numbers

-- keys of the same numbers are equal
same_numbers : (x y : Key) → numbers x ≡ numbers y → x ≡ y
same_numbers x y same = λ i. record {
  surface = slice_index_or (same i) 0 0;
  context = slice_index_or (same i) 1 0;
  x = slice_index_or (same i) 2 0;
  y = slice_index_or (same i) 3 0;
}

pub key_same : IsAntisymmetric key_cmp
key_same x y tie = same_numbers x y (slice_cmp-IsAntisymmetric nat_cmp-IsAntisymmetric (numbers x) (numbers y) tie)

-- keys that tie are equal
pub tied : (x y : Key) → eq_by_cmp key_cmp x y ≡ true → x ≡ y
tied x y tie = key_same x y ((Equal-is (key_cmp x y)).0 tie)

-- whichever comes first
pub turned : (x y : Key) → eq_by_cmp key_cmp x y ≡ eq_by_cmp key_cmp y x
turned x y = (eq_by_cmp_equiv key_total).symm x y

pub itself : (x : Key) → eq_by_cmp key_cmp x x ≡ true
itself x = (eq_by_cmp_equiv key_total).refl x

-- a list and the map that it stands for, looked up by any test that ties equal keys alone
module _ {V : Type 0} (same : Key → Key → Bool) (ties : (x y : Key) → same x y ≡ eq_by_cmp key_cmp x y) where
  find-by : (q : Key) (es : List (Key × V)) → find key_cmp q es ≡ lookup (same q) es
  find-by q [] = refl
  find-by q (e ∷ es) = λ i. cond (sym (ties q e.0) i) (Some e.1) (find-by q es i)

  pub get-by : (es : List (Key × V)) (q : Key) → get (from_entries {R = key_cmp} es) q ≡ lookup (same q) es
  get-by es q = get-from_entries key_total es q ∙ find-by q es

  get-updated : (old new : List (Key × V)) (k : Key) (w : Option V)
      → ((q : Key) → lookup (same q) new ≡ cond (same k q) w (lookup (same q) old))
      → (q : Key) → get (from_entries {R = key_cmp} new) q ≡ cond (eq_by_cmp key_cmp q k) w (get (from_entries {R = key_cmp} old) q)
  get-updated old new k w says q =
      get-by new q ∙ says q ∙ (λ i. cond ((ties k q ∙ turned k q) i) w (sym (get-by old q) i))

  pub inserted : (old new : List (Key × V)) (k : Key) (v : V)
      → ((q : Key) → lookup (same q) new ≡ cond (same k q) (Some v) (lookup (same q) old))
      → from_entries {R = key_cmp} new ≡ insert (from_entries old) k v
  inserted old new k v says = same_map key_total key_same _ _ (λ q.
      get-updated old new k (Some v) says q ∙ sym (get-insert key_total (from_entries old) k v q))

  pub removed : (old new : List (Key × V)) (k : Key)
      → ((q : Key) → lookup (same q) new ≡ cond (same k q) None (lookup (same q) old))
      → from_entries {R = key_cmp} new ≡ remove (from_entries old) k
  removed old new k says = same_map key_total key_same _ _ (λ q.
      get-updated old new k None says q ∙ sym (get-remove key_total (from_entries old) k q))

-- as many keys in the map as entries, where no key stands twice
module _ {V : Type 0} (same : Key → Key → Bool) (ties : (x y : Key) → same x y ≡ eq_by_cmp key_cmp x y) where
  absent : (k : Key) (es : List (Key × V)) → AllByRecursion (λ y. same k y ≡ false) (keys_of es) → lookup (same k) es ≡ None
  absent k [] apart = refl
  absent k (e ∷ es) apart = (λ i. cond (apart.0 i) (Some e.1) (lookup (same k) es)) ∙ absent k es apart.1

  get-absent : (k : Key) (v : V) (es : List (Key × V)) → IsDistinct same (keys_of ((k, v) ∷ es)) → get (from_entries {R = key_cmp} es) k ≡ None
  get-absent k v es distinct = get-by same ties es k ∙ absent k es (IsDistinct-head same k (keys_of es) distinct)

  pub len-from : (es : List (Key × V)) → IsDistinct same (keys_of es) → len (from_entries {R = key_cmp} es) ≡ length es
  len-from [] distinct = len-empty key_cmp V
  len-from (e ∷ es) distinct =
      let rest : len (from_entries {R = key_cmp} es) ≡ length es = len-from es (IsDistinct-tail same e.0 (keys_of es) distinct) in
      len-insert key_total (from_entries es) e.0 e.1
      ∙ (λ i. cond (is_some (get-absent e.0 e.1 es distinct i)) (len (from_entries {R = key_cmp} es)) (len (from_entries {R = key_cmp} es) + 1))
      ∙ omega arith

-- the entries that are left by a test of keys stand for the map that is left by it
module _ {V : Type 0} where
  find-filter : (test : Key → Bool) (q : Key) (es : List (Key × V)) → find key_cmp q (filter (λ e. test e.0) es) ≡ cond (test q) (find key_cmp q es) None
  find-filter test q [] = by (test q)
    where
      by : (b : Bool) → ◌≡◌ {A = Option V} None (cond b None None)
      by true = refl
      by false = refl
  find-filter test q (e ∷ es) = by (test e.0) (eq_by_cmp key_cmp q e.0) refl refl (find-filter test q es)
    where
      by : (b c : Bool) → test e.0 ≡ b → eq_by_cmp key_cmp q e.0 ≡ c
          → find key_cmp q (filter (λ e. test e.0) es) ≡ cond (test q) (find key_cmp q es) None
          → find key_cmp q (cond b (e ∷ filter (λ e. test e.0) es) (filter (λ e. test e.0) es)) ≡ cond (test q) (cond c (Some e.1) (find key_cmp q es)) None
      by true true passes ties rest =
          ap (λ x. cond x (Some e.1) (find key_cmp q (filter (λ e. test e.0) es))) ties
          ∙ sym (ap (λ x. cond x (Some e.1) None) (ap test (tied q e.0 ties) ∙ passes))
      by true false passes ties rest =
          ap (λ x. cond x (Some e.1) (find key_cmp q (filter (λ e. test e.0) es))) ties ∙ rest
      by false true passes ties rest =
          let out : test q ≡ false = ap test (tied q e.0 ties) ∙ passes in
          rest ∙ ap (λ x. cond x (find key_cmp q es) None) out ∙ sym (ap (λ x. cond x (Some e.1) None) out)
      by false false passes ties rest = rest

  pub retained : (test : Key → Bool) (es : List (Key × V)) → from_entries {R = key_cmp} (filter (λ e. test e.0) es) ≡ retain_keys (from_entries es) test
  retained test es = same_map key_total key_same _ _ (λ q.
      get-from_entries key_total (filter (λ e. test e.0) es) q
      ∙ find-filter test q es
      ∙ ap (λ o. cond (test q) o None) (sym (get-from_entries key_total es q))
      ∙ sym (get-retain_keys (from_entries es) test q (λ x tie. ap test (sym (key_same q x tie)))))

-- a record that is put into the map twice
pub insert-insert : (records : Records) (k : Key) (v w : TileState) → insert (insert records k v) k w ≡ insert records k w
insert-insert records k v w = same_map key_total key_same _ _ (λ q.
    get-insert key_total (insert records k v) k w q
    ∙ ap (cond (eq_by_cmp key_cmp q k) (Some w)) (get-insert key_total records k v q)
    ∙ twice (eq_by_cmp key_cmp q k) (Some w) (Some v) (get records q)
    ∙ sym (get-insert key_total records k w q))
  where
    twice : (b : Bool) (o p r : Option TileState) → cond b o (cond b p r) ≡ cond b o r
    twice true o p r = refl
    twice false o p r = refl

-- and looked up
pub get-inserted : (records : Records) (k : Key) (v : TileState) → get (insert records k v) k ≡ Some v
get-inserted records k v =
    get-insert key_total records k v k ∙ ap (λ b. cond b (Some v) (get records k)) (itself k)
