-- The bytes of the surfaces and of the filled slots from a number on.
use Rattle.std.proofs.Common.{◌≡◌, ◌∙◌, ℕ, ◌+◌, ◌<◌, ◌≤◌, List, [], ◌++◌, length, suc, Bor, Option, Some, is_some, Ok, Err, Result, true, refl, ap, sym, arith}
use Rattle.std.specs.Prelude.{IsOk}
use Rattle.std.specs.List.{flat_map}
use Rattle.std.specs.Ordering.{nat_cmp}
use Rattle.std.specs.FinMap.{FinMap, get, entries}
use Rattle.std.specs.Option.{ok_or, option_map, option_copied}
use Rattle.sha2.specs.declared.Sha256.{Sha256}
use Rattle.gfx_base.specs.Results.{and_then, check}
use Rattle.gfx_base.specs.Outcome.{Says}
use Rattle.gfx_base.specs.declared.bitmap.Bitmap.{Bitmap}
use Rattle.gfx_base.specs.declared.refusal.Refusal.{Refusal}
use Rattle.gfx_base.specs.declared.refusal.Refusal.TheVariants.{SlotRange, SlotEmpty}
use Rattle.gfx_base.proofs.MapLemmas.{from_key, first_key, from_key-zero, next_some}
use Rattle.std.proofs.lemmas.Bool.Decides.{nat_tests}
use Rattle.gfx_bitmap_cache.specs.Slots.{Entry, Cached, IsCached, is_slot, shown, entry, image_of}
use Rattle.gfx_surface.specs.Picture.{Picture}
use Rattle.gfx_surface_map.specs.Surfaces.{Surfaces}
use Rattle.gfx_report.specs.StateBytes.{surface_bytes, slot_bytes}
use Rattle.gfx_report.proofs.TookLemmas.{Owes, Owes_as, Owes_none}
use Rattle.gfx_report.specs.Hashing.{Took}

module _ {X : Type 0} (f : ℕ → X → List ℕ) where
  -- the bytes of the entries from a key on
  abbrev pub bytes_from : FinMap nat_cmp X → ℕ → List ℕ
  bytes_from m from = flat_map (λ entry. f entry.0 entry.1) (from_key from (entries m))

  -- from 0 on there are all
  pub bytes_from-zero : (m : FinMap nat_cmp X) → flat_map (λ entry. f entry.0 entry.1) (entries m) ≡ bytes_from m 0
  bytes_from-zero m = ap (flat_map (λ entry. f entry.0 entry.1)) (sym (from_key-zero (entries m)))

  -- the next entry's bytes stand first
  pub next_bytes : (m : FinMap nat_cmp X) (from key : ℕ) (value : X) → first_key (from_key from (entries m)) ≡ Some key → get m key ≡ Some value
      → bytes_from m from ≡ f key value ++ bytes_from m (key + 1)
  next_bytes m from key value first here =
      let next = next_some m from key first in
      let same : next.value ≡ value = let found = next.found in cc in
      ap (flat_map (λ entry. f entry.0 entry.1)) next.cut ∙ ap (λ v. f key v ++ bytes_from m (key + 1)) same

  -- with no entry left nothing is due
  pub none_due : (a b : Sha256) (due : List ℕ) (m : FinMap nat_cmp X) (from : ℕ) → from_key from (entries m) ≡ []
      → Owes a b due (bytes_from m from) → Took a b due
  none_due a b due m from none owes = Owes_none a b due _ (ap (flat_map (λ entry. f entry.0 entry.1)) none) owes

  -- and no bytes are
  pub none_left : (m : FinMap nat_cmp X) (from : ℕ) → from_key from (entries m) ≡ [] → bytes_from m from ≡ []
  none_left m from none = ap (flat_map (λ entry. f entry.0 entry.1)) none

module _ {X : Type 0} where
  -- behind the next entry there are fewer
  pub entries_fewer : (m : FinMap nat_cmp X) (from key : ℕ) → first_key (from_key from (entries m)) ≡ Some key
      → length (from_key (key + 1) (entries m)) < length (from_key from (entries m))
  entries_fewer m from key first =
      let next = next_some m from key first in
      let counts : length (from_key from (entries m)) ≡ suc (length (from_key (key + 1) (entries m))) = ap length next.cut in
      omega arith

-- the next surface as it was looked up: its bytes are due first
pub surface_due : (a b : Sha256) (due : List ℕ) (surfaces : Surfaces) (from id : ℕ) (looked : Option (Bor Picture)) (surface : Bor Picture)
    → Some id ≡ first_key (from_key from (entries surfaces)) → option_copied looked ≡ get surfaces id → looked ≡ Some surface
    → Owes a b due (bytes_from surface_bytes surfaces from) → Owes a b due (surface_bytes id surface.now ++ bytes_from surface_bytes surfaces (id + 1))
surface_due a b due surfaces from id looked surface first here is owes =
    Owes_as a b due _ _ (next_bytes surface_bytes surfaces from id surface.now (sym first) (sym here ∙ ap option_copied is)) owes

-- a filled slot is shown
pub shown_filled : (cache : Cached) (slot : ℕ) (held : Entry) → IsCached cache → get cache.slots slot ≡ Some held → shown cache slot ≡ Ok held.image
unfolding shown and_then
shown_filled cache slot held kept found =
    let there : is_slot slot ≡ true = kept.slots slot (ap is_some found) in
    λ i. and_then (check SlotRange (there i)) (λ _. and_then (ok_or (found i) SlotEmpty) (λ h. Ok h.image))

-- the next slot is not before the one that is looked from, and is a slot
pub next_within : (cache : Cached) (from slot : ℕ) → IsCached cache → Some slot ≡ first_key (from_key from (entries cache.slots)) → (from ≤ slot) × (slot ≤ 25600)
next_within cache from slot kept first =
    let next = next_some cache.slots from slot (sym first) in
    let there : is_slot slot ≡ true = kept.slots slot (ap is_some next.found) in
    (next.from_on, grind (arith, nat_tests))

-- what is shown is said
says_ok : {X Y R : Type 0} (view : X → Y) (answer : Result X R) (due : Result Y R) (y : Y) → Says view answer due → due ≡ Ok y → IsOk answer
says_ok view (Ok x) due y says is = refl
says_ok view (Err r) due y says is = let differ : Err r ≡ Ok y = sym says ∙ is in cc

-- and as it is
says_same : {X Y R : Type 0} (view : X → Y) (answer : Result X R) (due : Result Y R) (x : X) (y : Y) → Says view answer due → answer ≡ Ok x → due ≡ Ok y → view x ≡ y
says_same view answer due x y says ok is = let same : Ok (view x) ≡ Ok y = sym (rw ok at says) ∙ is in cc

-- a look-up in the next slot shows its bitmap
pub next_shown : (cache : Cached) (from slot : ℕ) (answer : Result (Bor Bitmap) Refusal) → IsCached cache → Some slot ≡ first_key (from_key from (entries cache.slots))
    → Says (λ bitmap. image_of bitmap.now) answer (shown cache slot) → IsOk answer
next_shown cache from slot answer kept first says =
    let next = next_some cache.slots from slot (sym first) in
    says_ok (λ bitmap. image_of bitmap.now) answer (shown cache slot) next.value.image says (shown_filled cache slot next.value kept next.found)

-- what is said of the filled slots from one on is said of the next one, as it was looked up, and of those behind
pub slot_next : (f : ℕ → Entry → List ℕ) (cache : Cached) (from slot : ℕ) (looked : Option ℕ) (key : ℕ) (answer : Result (Bor Bitmap) Refusal) (bitmap : Bor Bitmap)
    → IsCached cache → Some slot ≡ first_key (from_key from (entries cache.slots))
    → looked ≡ option_map (λ held. held.key) (get cache.slots slot) → looked ≡ Some key
    → Says (λ bitmap. image_of bitmap.now) answer (shown cache slot) → answer ≡ Ok bitmap
    → bytes_from f cache.slots from ≡ f slot (entry key (image_of bitmap.now)) ++ bytes_from f cache.slots (slot + 1)
slot_next f cache from slot looked key answer bitmap kept first keyed is says ok =
    let next = next_some cache.slots from slot (sym first) in
    let found = next.found in
    let same_key : Some key ≡ Some next.value.key = sym is ∙ keyed ∙ ap (option_map (λ held. held.key)) found in
    let key_is : next.value.key ≡ key = cc in
    let image_is : image_of bitmap.now ≡ next.value.image =
    says_same (λ bitmap. image_of bitmap.now) answer (shown cache slot) bitmap next.value.image says ok (shown_filled cache slot next.value kept found) in
    let here : get cache.slots slot ≡ Some (entry key (image_of bitmap.now)) = found ∙ (λ i. Some (entry (key_is i) (sym image_is i))) in
    next_bytes f cache.slots from slot _ (sym first) here

-- so its bytes are due first
pub slot_due : (a b : Sha256) (due : List ℕ) (cache : Cached) (from slot : ℕ) (looked : Option ℕ) (key : ℕ) (answer : Result (Bor Bitmap) Refusal) (bitmap : Bor Bitmap)
    → IsCached cache → Some slot ≡ first_key (from_key from (entries cache.slots))
    → looked ≡ option_map (λ held. held.key) (get cache.slots slot) → looked ≡ Some key
    → Says (λ bitmap. image_of bitmap.now) answer (shown cache slot) → answer ≡ Ok bitmap
    → Owes a b due (bytes_from slot_bytes cache.slots from)
    → Owes a b due (slot_bytes slot (entry key (image_of bitmap.now)) ++ bytes_from slot_bytes cache.slots (slot + 1))
slot_due a b due cache from slot looked key answer bitmap kept first keyed is says ok owes =
    Owes_as a b due _ _ (slot_next slot_bytes cache from slot looked key answer bitmap kept first keyed is says ok) owes
