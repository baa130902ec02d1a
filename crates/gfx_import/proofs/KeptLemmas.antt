-- What is kept, by the entries of the index.
use Rattle.std.proofs.Common.{◌≡◌, ◌∙◌, ap, sym, refl, subst, cond, Bool, true, false, not, nat_eq, nat_lt, is_some, ℕ, ◌*◌, ◌≤◌, ◌<◌, List, [], ◌∷◌, ◌++◌, length, map, Option, Some, None, Bor, zero, suc, length-append, arith}
use Rattle.std.specs.Prelude.{IfSome, slice_get}
use Rattle.std.specs.List.{AllByRecursion, find}
use Rattle.std.specs.Map.{lookup, keys_of}
use Rattle.std.specs.Option.{option_map, option_copied}
use Rattle.std.proofs.lemmas.Bool.Decides.{nat_tests}
use Rattle.std.proofs.lemmas.List.{map-append, length-map}
use Rattle.std.proofs.lemmas.Map.Made.{is_some-lookup}
use Rattle.std.proofs.lemmas.Option.{slice_get-map}
use Rattle.indexmap.specs.IndexMap.{IndexMap, insert_entry, get}
use Rattle.indexmap.proofs.CallerLemmas.{insert_entry-new}
use Rattle.gfx_base.specs.declared.bitmap.Bitmap.{Bitmap}
use Rattle.gfx_bitmap_cache.specs.Slots.{Entry, entry, image_of}
use Rattle.gfx_import.specs.declared.limits.TheConstants.{MOST_ENTRIES, MOST_PIXELS}
use Rattle.gfx_import.specs.Entries.{entry_keys, has_key, are_distinct, image_at, takes, with_entry, IsEntry, IsKept}
use Rattle.gfx_import.specs.Inside.{pair_of}
use Rattle.gfx_import.proofs.KeyLemmas.{both_true, not_true, key-new}

-- the list that an index stands for
abbrev pub listed : List (ℕ × Bitmap) → List Entry
listed es = map pair_of es

keys-listed : (es : List (ℕ × Bitmap)) → entry_keys (listed es) ≡ keys_of es
keys-listed [] = refl
keys-listed (e ∷ es) = ap (λ ks. e.0 ∷ ks) (keys-listed es)

-- a key is there where the look-up finds it
pub has_key-lookup : (es : List (ℕ × Bitmap)) (key : ℕ) → is_some (lookup (nat_eq key) es) ≡ has_key (entry_keys (listed es)) key
has_key-lookup es key = is_some-lookup (nat_eq key) es ∙ ap (λ ks. has_key ks key) (sym (keys-listed es))

-- and the look-up finds its image
pub image_at-lookup : (es : List (ℕ × Bitmap)) (key : ℕ) → option_map image_of (lookup (nat_eq key) es) ≡ image_at (listed es) key
image_at-lookup [] key = refl
image_at-lookup (e ∷ es) key = by (nat_eq key e.0) (image_at-lookup es key)
  where
    by : (b : Bool) → option_map image_of (lookup (nat_eq key) es) ≡ image_at (listed es) key
        → option_map image_of (cond b (Some e.1) (lookup (nat_eq key) es))
        ≡ option_map (λ (held : Entry). held.image) (cond b (Some (pair_of e)) (find (λ (held : Entry). nat_eq key held.key) (listed es)))
    by true rest = refl
    by false rest = rest

lent : (r : Option (Bor Bitmap)) → option_map (λ (b : Bor Bitmap). image_of b.now) r ≡ option_map image_of (option_copied r)
lent None = refl
lent (Some b) = refl

pub image-found : (r : Option (Bor Bitmap)) (es : List (ℕ × Bitmap)) (key : ℕ) → option_copied r ≡ lookup (nat_eq key) es
    → option_map (λ (b : Bor Bitmap). image_of b.now) r ≡ image_at (listed es) key
image-found r es key e = lent r ∙ ap (option_map image_of) e ∙ image_at-lookup es key

-- a bitmap that the look-up finds is one that may be kept
found-few : (es : List (ℕ × Bitmap)) (key : ℕ) → AllByRecursion IsEntry (listed es) → IfSome (lookup (nat_eq key) es) (λ b. b.width * b.height ≤ MOST_PIXELS)
found-few [] key all = tt
found-few (e ∷ es) key all = by (nat_eq key e.0) (found-few es key all.1)
  where
    by : (b : Bool) → IfSome (lookup (nat_eq key) es) (λ b. b.width * b.height ≤ MOST_PIXELS) → IfSome (cond b (Some e.1) (lookup (nat_eq key) es)) (λ b. b.width * b.height ≤ MOST_PIXELS)
    by true rest = all.0.image.few
    by false rest = rest

pub found-small : (r : Option (Bor Bitmap)) (es : List (ℕ × Bitmap)) (key : ℕ) → AllByRecursion IsEntry (listed es) → option_copied r ≡ lookup (nat_eq key) es
    → IfSome r (λ (b : Bor Bitmap). b.now.width * b.now.height ≤ MOST_PIXELS)
found-small None es key all e = tt
found-small (Some b) es key all e = subst (λ o. IfSome o (λ (b : Bitmap). b.width * b.height ≤ MOST_PIXELS)) (sym e) (found-few es key all)

-- what stands at a place
pub entry-at : (entries : List Entry) (place : ℕ) (one : Entry) → AllByRecursion IsEntry entries → slice_get entries place ≡ Some one → IsEntry one
entry-at [] place one all e = absurd cc
entry-at (x ∷ xs) zero one all e = let same : x ≡ one = cc in subst IsEntry same all.0
entry-at (x ∷ xs) (suc place) one all e = entry-at xs place one all.1 e

pub listed-at : (es : List (ℕ × Bitmap)) (place key : ℕ) (bitmap : Bitmap) → slice_get es place ≡ Some (key, bitmap) → slice_get (listed es) place ≡ Some (entry key (image_of bitmap))
listed-at es place key bitmap e = slice_get-map pair_of es place ∙ ap (option_map pair_of) e

pub at-few : (es : List (ℕ × Bitmap)) (place key : ℕ) (bitmap : Bitmap) → IsKept (listed es) → slice_get es place ≡ Some (key, bitmap) → bitmap.width * bitmap.height ≤ MOST_PIXELS
at-few es place key bitmap kept e = (entry-at (listed es) place (entry key (image_of bitmap)) kept.each (listed-at es place key bitmap e)).image.few

each-push : (entries : List Entry) (one : Entry) → AllByRecursion IsEntry entries → IsEntry one → AllByRecursion IsEntry (entries ++ one ∷ [])
each-push [] one all is = (is, tt)
each-push (x ∷ xs) one all is = (all.0, each-push xs one all.1 is)

-- one more where it may be kept
pub kept-push : (entries : List Entry) (one : Entry) → IsKept entries → takes entries one.key ≡ true → IsEntry one → IsKept (entries ++ one ∷ [])
kept-push entries one kept takes is =
    let parts = both_true (not (has_key (entry_keys entries) one.key)) (nat_lt (length entries) MOST_ENTRIES) takes in
    let room : length entries < MOST_ENTRIES = grind (arith, nat_tests, parts.1) in
    record {
      distinct = ap are_distinct (map-append (λ (held : Entry). held.key) entries (one ∷ []))
          ∙ key-new (entry_keys entries) one.key kept.distinct (not_true _ parts.0);
      few = omega (arith, length-append entries (one ∷ []));
      each = each-push entries one kept.each is;
    }

pub kept-none : IsKept []
kept-none = record { distinct = refl; few = omega arith; each = tt }

no_value : {X : Type 0} (o : Option X) → is_some o ≡ false → o ≡ None
no_value None e = refl
no_value (Some x) e = absurd cc

-- what the index has after one more
pub listed-insert : {S : Type 0} (m : IndexMap ℕ Bitmap S) (key : ℕ) (bitmap : Bitmap) (new : List (ℕ × Bitmap)) → takes (listed m.entries) key ≡ true
    → new ≡ insert_entry nat_eq m.entries key bitmap → listed new ≡ listed m.entries ++ entry key (image_of bitmap) ∷ []
listed-insert m key bitmap new takes e =
    let parts = both_true (not (has_key (entry_keys (listed m.entries)) key)) (nat_lt (length (listed m.entries)) MOST_ENTRIES) takes in
    let none : get nat_eq m key ≡ None = no_value _ (has_key-lookup m.entries key ∙ not_true _ parts.0) in
    ap listed (e ∙ insert_entry-new nat_eq m key bitmap none) ∙ map-append pair_of m.entries ((key, bitmap) ∷ [])

pub with-push : (entries : List Entry) (one : Entry) → takes entries one.key ≡ true → with_entry entries one ≡ entries ++ one ∷ []
with-push entries one takes = ap (λ b. cond b (entries ++ one ∷ []) entries) takes

pub length-listed : (es : List (ℕ × Bitmap)) → length (listed es) ≡ length es
length-listed es = length-map es pair_of
