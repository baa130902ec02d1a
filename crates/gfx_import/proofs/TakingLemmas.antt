-- Taking entries one after another.
use Rattle.std.proofs.Common.{◌≡◌, ◌∙◌, ap, sym, refl, subst, cond, Bool, true, false, ◌&&◌, not, nat_lt, nat_le, ℕ, ◌+◌, ◌-◌, ◌<◌, List, [], ◌∷◌, ◌++◌, length, take, drop, map, Option, Some, None, is_some, Bor, zero, suc, length-append, append_assoc, add-one, arith}
use Rattle.std.specs.Prelude.{slice_get, IfSome}
use Rattle.std.specs.Option.{option_map}
use Rattle.std.proofs.lemmas.Bool.Decides.{nat_tests}
use Rattle.std.proofs.lemmas.List.{append-nil, length-map, map-append}
use Rattle.std.proofs.lemmas.Option.{slice_get-map}
use Rattle.gfx_base.specs.declared.bitmap.Bitmap.{Bitmap}
use Rattle.gfx_bitmap_cache.specs.Slots.{Image, Entry, entry, image_of, bytes_for, bytes_of, last_slot, budget}
use Rattle.gfx_import.specs.declared.limits.TheConstants.{MOST_ENTRIES}
use Rattle.gfx_caps.specs.declared.entries.CacheEntry.{CacheEntry}
use Rattle.gfx_import.specs.Entries.{entry_keys, has_key, are_distinct, image_at, takes, with_entry, IsKept}
use Rattle.gfx_import.specs.Offered.{offered_of, offers_of}
use Rattle.gfx_import.specs.Imported.{with_length, match_of, while_some, within, taken, answered, imported}
use Rattle.gfx_import.specs.Taking.{fits, found_in}
use Rattle.gfx_import.proofs.KeyLemmas.{both_true, key-apart}
use Rattle.gfx_import.proofs.KeptLemmas.{with-push}

-- ---- places in a list

rest_at : {X : Type 0} (xs : List X) (place : ℕ) (x : X) → slice_get xs place ≡ Some x → drop place xs ≡ x ∷ drop (suc place) xs
rest_at [] place x e = absurd cc
rest_at (y ∷ ys) zero x e = let same : y ≡ x = cc in ap (λ z. z ∷ ys) same
rest_at (y ∷ ys) (suc place) x e = rest_at ys place x e

-- what stands at a place is the first of the rest from there
pub rest-at : {X : Type 0} (xs : List X) (place : ℕ) (x : X) → slice_get xs place ≡ Some x → drop place xs ≡ x ∷ drop (place + 1) xs
rest-at xs place x e = rest_at xs place x e ∙ ap (λ n. x ∷ drop n xs) (sym (add-one place))

pub rest-past : {X : Type 0} (xs : List X) (place : ℕ) → slice_get xs place ≡ None → drop place xs ≡ []
rest-past [] zero e = refl
rest-past [] (suc place) e = refl
rest-past (y ∷ ys) zero e = absurd cc
rest-past (y ∷ ys) (suc place) e = rest-past ys place e

front_at : {X : Type 0} (xs : List X) (place : ℕ) (x : X) → slice_get xs place ≡ Some x → take (suc place) xs ≡ take place xs ++ x ∷ []
front_at [] place x e = absurd cc
front_at (y ∷ ys) zero x e = let same : y ≡ x = cc in ap (λ z. z ∷ []) same
front_at (y ∷ ys) (suc place) x e = ap (λ z. y ∷ z) (front_at ys place x e)

-- and the last of what stands in front of the next
pub front-at : {X : Type 0} (xs : List X) (place : ℕ) (x : X) → slice_get xs place ≡ Some x → take (place + 1) xs ≡ take place xs ++ x ∷ []
front-at xs place x e = ap (λ n. take n xs) (add-one place) ∙ front_at xs place x e

pub front-past : {X : Type 0} (xs : List X) (place : ℕ) → slice_get xs place ≡ None → take place xs ≡ xs
front-past [] zero e = refl
front-past [] (suc place) e = refl
front-past (y ∷ ys) zero e = absurd cc
front-past (y ∷ ys) (suc place) e = ap (λ z. y ∷ z) (front-past ys place e)

-- ---- one step

no_more : {X : Type 0} (n : ℕ) (xs : List X) → xs ≡ [] → take n xs ≡ []
no_more zero xs e = refl
no_more (suc n) xs e = ap (take (suc n)) e

pub chosen : {X : Type 0} (b : Bool) (x y : X) → cond b (Some x) None ≡ Some y → (b ≡ true) × (x ≡ y)
chosen true x y e = (refl, cc)
chosen false x y e = absurd cc

pub not_chosen : {X : Type 0} (b : Bool) (x : X) → cond b (Some x) None ≡ None → b ≡ false
not_chosen true x e = absurd cc
not_chosen false x e = refl

module _ (server : List Entry) (one : CacheEntry) (rest : List CacheEntry) where
  -- what is taken of the others
  abbrev others : ℕ → List Entry
  others room = within room (while_some (map (match_of server) rest))

  -- what is taken where this was found for the first
  abbrev by_found : ℕ → ℕ → Option Image → List Entry
  by_found slots room found = take slots (within room (while_some (option_map (entry one.key) found ∷ map (match_of server) rest)))

  found-one : (slots less room left : ℕ) (image : Image) (found : Option Image) → found_in slots room found ≡ Some image
      → less + 1 ≡ slots → left ≡ room - bytes_for image.width image.height
      → by_found slots room found ≡ entry one.key image ∷ take less (others left)
  found-one slots less room left image None e f g = absurd cc
  found-one slots less room left image (Some there) e f g =
      let is = chosen (fits slots room there) there image e in
      let fit = both_true (nat_lt 0 slots) (nat_le (bytes_for there.width there.height) room) is.0 in
      let more : slots ≡ suc less = omega arith in
      let left_is : room - bytes_for there.width there.height ≡ left = ap (λ (z : Image). room - bytes_for z.width z.height) is.1 ∙ sym g in
      ap (λ b. take slots (cond b (entry one.key there ∷ others (room - bytes_for there.width there.height)) [])) fit.1
      ∙ ap (λ n. take n (entry one.key there ∷ others (room - bytes_for there.width there.height))) more
      ∙ (λ i. entry one.key (is.1 i) ∷ take less (others (left_is i)))

  found-none : (slots room : ℕ) (found : Option Image) → found_in slots room found ≡ None → by_found slots room found ≡ []
  found-none slots room None e = no_more slots [] refl
  found-none slots room (Some there) e =
      by slots (nat_le (bytes_for there.width there.height) room) (entry one.key there ∷ others (room - bytes_for there.width there.height)) (not_chosen (fits slots room there) there e)
    where
      by : (slots : ℕ) (b : Bool) (more : List Entry) → (nat_lt 0 slots && b) ≡ false → take slots (cond b more []) ≡ []
      by zero b more e = refl
      by (suc slots) false more e = refl
      by (suc slots) true more e = let some : nat_lt 0 (suc slots) ≡ true = grind (arith, nat_tests) in absurd cc

  -- an image was found that fits: it is taken, and more of the others
  pub taken-one : (slots less room left : ℕ) (image : Image) → found_in slots room (with_length one.length (image_at server one.key)) ≡ Some image
      → less + 1 ≡ slots → left ≡ room - bytes_for image.width image.height
      → taken server slots room (one ∷ rest) ≡ entry one.key image ∷ taken server less left rest
  unfolding taken
  taken-one slots less room left image e f g = found-one slots less room left image (with_length one.length (image_at server one.key)) e f g

  -- none was found that fits
  pub taken-none : (slots room : ℕ) → found_in slots room (with_length one.length (image_at server one.key)) ≡ None → taken server slots room (one ∷ rest) ≡ []
  unfolding taken
  taken-none slots room e = found-none slots room (with_length one.length (image_at server one.key)) e

pub taken-end : (server : List Entry) (slots room : ℕ) → taken server slots room [] ≡ []
unfolding taken
taken-end server slots room = no_more slots [] refl

-- ---- what a call found

-- an entry of an offer, and what it takes
pub record Found (server : List Entry) (key size slots less room left : ℕ) (r : Option (Bor Bitmap)) : Type 0 where
  pub found : option_map (λ (b : Bor Bitmap). image_of b.now) r ≡ found_in slots room (with_length size (image_at server key))
  pub slots_left : IfSome r (λ _. less + 1 ≡ slots)
  pub room_left : IfSome r (λ (b : Bor Bitmap). left ≡ room - bytes_for b.now.width b.now.height)

module _ (server : List Entry) (one : CacheEntry) (rest : List CacheEntry) (slots less room left : ℕ) where
  -- nothing: the list ends
  pub stopped : (r : Option (Bor Bitmap)) → Found server one.key one.length slots less room left r → is_some r ≡ false → taken server slots room (one ∷ rest) ≡ []
  stopped None is e = taken-none server one rest slots room (sym is.found)
  stopped (Some b) is e = absurd cc

  -- a bitmap: it is taken
  pub went_on : (b : Bor Bitmap) → Found server one.key one.length slots less room left (Some b) → taken server slots room (one ∷ rest) ≡ entry one.key (image_of b.now) ∷ taken server less left rest
  went_on b is = taken-one server one rest slots less room left (image_of b.now) (sym is.found) is.slots_left is.room_left

  -- one more
  pub counted : (r : Option (Bor Bitmap)) → Found server one.key one.length slots less room left r → is_some r ≡ true → length (taken server slots room (one ∷ rest)) ≡ 1 + length (taken server less left rest)
  counted None is e = absurd cc
  counted (Some b) is e = ap length (went_on b is) ∙ omega arith

  -- and a slot less
  pub slot_taken : (r : Option (Bor Bitmap)) → Found server one.key one.length slots less room left r → is_some r ≡ true → less + 1 ≡ slots
  slot_taken None is e = absurd cc
  slot_taken (Some b) is e = is.slots_left

-- ---- counting

-- so many were taken, and what is taken of the rest are all
pub record Counts (server : List Entry) (offers rest : List CacheEntry) (small : Bool) (count slots room : ℕ) : Type 0 where
  pub so_far : count + length (taken server slots room rest) ≡ length (answered server offers small)
  pub slots_left : count + slots ≡ last_slot small

pub counts-none : (server : List Entry) (offers : List CacheEntry) (small : Bool) (slots room : ℕ) → slots ≡ last_slot small → room ≡ budget small → Counts server offers offers small 0 slots room
counts-none server offers small slots room e f =
    let all : length (taken server slots room offers) ≡ length (answered server offers small) = λ i. length (taken server (e i) (f i) offers) in record {
      so_far = omega (arith, all);
      slots_left = omega (arith, e);
    }

module _ (server : List Entry) (offers rest after : List CacheEntry) (small : Bool) (count slots room : ℕ) (one : CacheEntry) (is : rest ≡ one ∷ after) (so : Counts server offers rest small count slots room) where
  pub counts-more : (less left : ℕ) (r : Option (Bor Bitmap)) → Found server one.key one.length slots less room left r → is_some r ≡ true → Counts server offers after small (count + 1) less left
  counts-more less left r found e =
      let n = counted server one after slots less room left r found e in
      let s = slot_taken server one after slots less room left r found e in
      record {
        so_far = omega (arith, n, ap (λ z. length (taken server slots room z)) is, so.so_far);
        slots_left = omega (arith, s, so.slots_left);
      }

  pub counts-stop : (less left : ℕ) (r : Option (Bor Bitmap)) → Found server one.key one.length slots less room left r → is_some r ≡ false → count ≡ length (answered server offers small)
  counts-stop less left r found e =
      let none : length (taken server slots room rest) ≡ 0 = ap (λ z. length (taken server slots room z)) is ∙ ap length (stopped server one after slots less room left r found e) in
      omega (arith, none, so.so_far)

pub counts-end : (server : List Entry) (offers rest : List CacheEntry) (small : Bool) (count slots room : ℕ) → rest ≡ [] → Counts server offers rest small count slots room → count ≡ length (answered server offers small)
counts-end server offers rest small count slots room e so =
    let none : length (taken server slots room rest) ≡ 0 = ap (λ z. length (taken server slots room z)) e ∙ ap length (taken-end server slots room) in
    omega (arith, none, so.so_far)

pub offers-at : (client : List Entry) (place : ℕ) (one : Entry) → slice_get client place ≡ Some one → offers_of (drop place client) ≡ offered_of one ∷ offers_of (drop (place + 1) client)
offers-at client place one e = ap offers_of (rest-at client place one e)

pub offers-past : (client : List Entry) (place : ℕ) → slice_get client place ≡ None → offers_of (drop place client) ≡ []
offers-past client place e = ap offers_of (rest-past client place e)

-- ---- gathering

-- what is gathered, and what is taken of the rest
pub record Gathers (server client kept rest : List Entry) (small : Bool) (slots room : ℕ) : Type 0 where
  pub so_far : kept ++ taken server slots room (offers_of rest) ≡ imported server client small
  pub keys : entry_keys kept ++ entry_keys rest ≡ entry_keys client

pub gathers-none : (server client kept : List Entry) (small : Bool) (slots room : ℕ) → kept ≡ [] → slots ≡ last_slot small → room ≡ budget small → Gathers server client kept client small slots room
gathers-none server client kept small slots room none e f = record {
  so_far = λ i. none i ++ taken server (e i) (f i) (offers_of client);
  keys = ap (λ z. entry_keys z ++ entry_keys client) none;
}

-- the next of them may be kept
pub next-takes : (client kept after : List Entry) (one : Entry) → IsKept client → entry_keys kept ++ entry_keys (one ∷ after) ≡ entry_keys client → takes kept one.key ≡ true
next-takes client kept after one is e =
    let fresh : has_key (entry_keys kept) one.key ≡ false = key-apart (entry_keys kept) (entry_keys after) one.key (ap are_distinct e ∙ is.distinct) in
    let long : length kept + (1 + length after) ≡ length client =
    omega (arith, ap length e, length-append (entry_keys kept) (entry_keys (one ∷ after)), length-map kept (λ (held : Entry). held.key), length-map after (λ (held : Entry). held.key), length-map client (λ (held : Entry). held.key)) in
    let few = is.few in
    let room : nat_lt (length kept) MOST_ENTRIES ≡ true = grind (arith, nat_tests) in
    (λ i. not (fresh i) && room i)

module _ (server client kept rest after : List Entry) (small : Bool) (slots room : ℕ) (one : Entry) (is : rest ≡ one ∷ after) (so : Gathers server client kept rest small slots room) where
  pub gathers-more : (less left : ℕ) (b : Bor Bitmap) (copied : Image) (new : List Entry) → IsKept client → Found server one.key (bytes_of one) slots less room left (Some b) → copied ≡ image_of b.now
      → new ≡ with_entry kept (entry one.key copied) → Gathers server client new after small less left
  gathers-more less left b copied new held found same put =
      let keys : entry_keys kept ++ entry_keys (one ∷ after) ≡ entry_keys client = ap (λ z. entry_keys kept ++ entry_keys z) (sym is) ∙ so.keys in
      let grown : new ≡ kept ++ entry one.key copied ∷ [] = put ∙ with-push kept (entry one.key copied) (next-takes client kept after one held keys) in
      let more : taken server slots room (offers_of rest) ≡ entry one.key copied ∷ taken server less left (offers_of after) =
      ap (λ z. taken server slots room (offers_of z)) is ∙ went_on server (offered_of one) (offers_of after) slots less room left b found
      ∙ ap (λ z. entry one.key z ∷ taken server less left (offers_of after)) (sym same) in
      record {
        so_far = ap (λ z. z ++ taken server less left (offers_of after)) grown ∙ append_assoc kept (entry one.key copied ∷ []) (taken server less left (offers_of after))
            ∙ ap (λ z. kept ++ z) (sym more) ∙ so.so_far;
        keys = ap (λ z. entry_keys z ++ entry_keys after) grown
            ∙ ap (λ z. z ++ entry_keys after) (map-append (λ (e : Entry). e.key) kept (entry one.key copied ∷ []))
            ∙ append_assoc (entry_keys kept) (one.key ∷ []) (entry_keys after) ∙ keys;
      }

  pub gathers-stop : (less left : ℕ) (r : Option (Bor Bitmap)) → Found server one.key (bytes_of one) slots less room left r → is_some r ≡ false → kept ≡ imported server client small
  gathers-stop less left r found e =
      let none : taken server slots room (offers_of rest) ≡ [] = ap (λ z. taken server slots room (offers_of z)) is ∙ stopped server (offered_of one) (offers_of after) slots less room left r found e in
      sym (append-nil kept) ∙ ap (λ z. kept ++ z) (sym none) ∙ so.so_far

pub gathers-end : (server client kept rest : List Entry) (small : Bool) (slots room : ℕ) → rest ≡ [] → Gathers server client kept rest small slots room → kept ≡ imported server client small
gathers-end server client kept rest small slots room e so =
    let none : taken server slots room (offers_of rest) ≡ [] = ap (λ z. taken server slots room (offers_of z)) e ∙ taken-end server slots room in
    sym (append-nil kept) ∙ ap (λ z. kept ++ z) (sym none) ∙ so.so_far

-- ---- one of them, without the others

-- what is taken at a place
pub record TakenAt (server : List Entry) (offers : List CacheEntry) (taken_are : List Entry) (place : ℕ) : Type 0 where
  pub one : CacheEntry
  pub image : Image
  pub there : slice_get offers place ≡ Some one
  pub theirs : image_at server one.key ≡ Some image
  pub same : slice_get taken_are place ≡ Some (entry one.key image)

longer : (server : List Entry) (one : CacheEntry) (rest : List CacheEntry) (taken_are : List Entry) (place : ℕ) (first : Entry) → TakenAt server rest taken_are place → TakenAt server (one ∷ rest) (first ∷ taken_are) (suc place)
longer server one rest taken_are place first is = record { one = is.one; image = is.image; there = is.there; theirs = is.theirs; same = is.same }

sized : (size : ℕ) (found : Option Image) (image : Image) → with_length size found ≡ Some image → found ≡ Some image
sized size None image e = absurd cc
sized size (Some there) image e = let is = chosen _ there image e in ap Some is.1

pub taken-at : (server : List Entry) (offers : List CacheEntry) (slots room place : ℕ) → place < length (taken server slots room offers) → TakenAt server offers (taken server slots room offers) place
taken-at server [] slots room place below = absurd (omega (arith, ap length (taken-end server slots room)))
taken-at server (one ∷ rest) slots room place below = by (found_in slots room (with_length one.length (image_at server one.key))) refl (λ less left place below. taken-at server rest less left place below)
  where
    inside : (found : Option Image) (image : Image) → found_in slots room found ≡ Some image → found ≡ Some image
    inside None image e = absurd cc
    inside (Some there) image e = let is = chosen (fits slots room there) there image e in ap Some is.1

    some_slot : (found : Option Image) (image : Image) → found_in slots room found ≡ Some image → nat_lt 0 slots ≡ true
    some_slot None image e = absurd cc
    some_slot (Some there) image e = let is = chosen (fits slots room there) there image e in (both_true (nat_lt 0 slots) _ is.0).0

    at_place : (image : Image) (less left place : ℕ) → image_at server one.key ≡ Some image → ((less left place : ℕ) → place < length (taken server less left rest) → TakenAt server rest (taken server less left rest) place)
        → place < 1 + length (taken server less left rest) → TakenAt server (one ∷ rest) (entry one.key image ∷ taken server less left rest) place
    at_place image less left zero e others below = record { one = one; image = image; there = refl; theirs = e; same = refl }
    at_place image less left (suc place) e others below = longer server one rest _ place _ (others less left place (omega arith))

    by : (found : Option Image) → found_in slots room (with_length one.length (image_at server one.key)) ≡ found
        → ((less left place : ℕ) → place < length (taken server less left rest) → TakenAt server rest (taken server less left rest) place)
        → TakenAt server (one ∷ rest) (taken server slots room (one ∷ rest)) place
    by None e others = absurd (omega (arith, ap length (taken-none server one rest slots room e)))
    by (Some image) e others =
        let some : nat_lt 0 slots ≡ true = some_slot _ image e in
        let low : 0 < slots = grind (arith, nat_tests) in
        let less : slots - 1 + 1 ≡ slots = omega arith in
        let is : taken server slots room (one ∷ rest) ≡ entry one.key image ∷ taken server (slots - 1) (room - bytes_for image.width image.height) rest =
        taken-one server one rest slots (slots - 1) room (room - bytes_for image.width image.height) image e less refl in
        let within_it : place < 1 + length (taken server (slots - 1) (room - bytes_for image.width image.height) rest) = omega (arith, ap length is) in
        subst (λ z. TakenAt server (one ∷ rest) z place) (sym is)
        (at_place image (slots - 1) (room - bytes_for image.width image.height) place (sized one.length _ image (inside _ image e)) others within_it)

-- a place of an offer of all that a client keeps
pub client-at : (client : List Entry) (place : ℕ) (one : CacheEntry) → slice_get (offers_of client) place ≡ Some one → (held : Entry) × (slice_get client place ≡ Some held) × (one.key ≡ held.key)
client-at client place one e = by (slice_get client place) refl (sym (slice_get-map offered_of client place) ∙ e)
  where
    by : (found : Option Entry) → slice_get client place ≡ found → option_map offered_of found ≡ Some one → (held : Entry) × (slice_get client place ≡ Some held) × (one.key ≡ held.key)
    by None g f = absurd cc
    by (Some held) g f = let same : offered_of held ≡ one = cc in (held, g, ap (λ (z : CacheEntry). z.key) (sym same))

-- what is imported at a place, by what the two ends have
pub imported-at : (server client : List Entry) (small : Bool) (place key : ℕ) (first : Image) (found : Option Image) → slice_get client place ≡ Some (entry key first) → found ≡ image_at server key
    → place < length (imported server client small) → (image : Image) × (found ≡ Some image) × (slice_get (imported server client small) place ≡ Some (entry key image))
imported-at server client small place key first found here theirs below =
    let t = taken-at server (offers_of client) (last_slot small) (budget small) place below in
    let held = client-at client place t.one t.there in
    let same : held.0 ≡ entry key first = same_some held.0 (entry key first) (sym held.1 ∙ here) in
    let key_is : t.one.key ≡ key = held.2 ∙ ap (λ (z : Entry). z.key) same in
    (t.image, theirs ∙ ap (image_at server) (sym key_is) ∙ t.theirs, t.same ∙ ap (λ k. Some (entry k t.image)) key_is)
  where
    same_some : (a b : Entry) → ◌≡◌ {A = Option Entry} (Some a) (Some b) → a ≡ b
    same_some a b e = cc

-- the client has it, if anything is imported there
pub imported-there : (server client : List Entry) (small : Bool) (place : ℕ) → slice_get client place ≡ None → place < length (imported server client small) → ⊥
imported-there server client small place none below =
    let t = taken-at server (offers_of client) (last_slot small) (budget small) place below in
    let held = client-at client place t.one t.there in
    let is = held.1 in
    absurd cc
