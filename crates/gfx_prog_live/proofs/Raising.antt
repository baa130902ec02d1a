-- The surfaces that have live tiles which aren't at the last level.
use Rattle.std.proofs.Common.{◌≡◌, ◌∙◌, ap, sym, refl, subst, cond, not, ◌||◌, Bool, true, false, ℕ, List, [], ◌∷◌, ◌++◌, get_or, Option, Some, None, is_some, arith}
use Rattle.std.specs.Prelude.{◌==◌, ◌&&◌, IfSome, fold, nat_eq, nat_lt, if◌then◌else◌}
use Rattle.std.specs.Cmp.{eq_by_cmp_equiv, nat_eq_equiv}
use Rattle.std.specs.FinMap.{contains_key, find, from_entries, get, get-from_entries}
use Rattle.std.specs.List.{All, AllByRecursion, IsDistinct, list_any}
use Rattle.std.specs.Map.{keys_of}
use Rattle.std.specs.Option.{option_and_then}
use Rattle.std.specs.Ordering.{eq_by_cmp}
use Rattle.std.proofs.lemmas.Bool.Decides.{nat_tests}
use Rattle.std.proofs.lemmas.List.Elements.{All-push, recursion_from_All}
use Rattle.std.proofs.lemmas.List.Folds.{list_any-append}
use Rattle.std.proofs.lemmas.Map.Entries.{lookup_from_place}
use Rattle.std.proofs.lemmas.Map.Keys.{IsDistinct-push}
use Rattle.std.proofs.lemmas.Option.{slice_get-get_or}
use Rattle.gfx_base.specs.declared.geometry.Cell.{Cell}
use Rattle.gfx_prog_decode.specs.declared.key.Key.{Key}
use Rattle.gfx_prog_decode.specs.Records.{key_cmp}
use Rattle.gfx_prog_decode.proofs.Keys.{get-by, key_total, tied}
use Rattle.gfx_prog_encode.specs.declared.send.TileSend.{TileSend}
use Rattle.gfx_prog_live.specs.Cells.{cell_key}
use Rattle.gfx_prog_live.specs.Inside.{AreInPlace, AreListed, IsInPlace, Lists}
use Rattle.gfx_prog_live.specs.Live.{Live, raised}
use Rattle.gfx_prog_live.specs.Places.{is_new}
use Rattle.gfx_prog_live.specs.Raising.{AreRaisable, HasRaised, is_raised_in}
use Rattle.gfx_prog_live.proofs.Taking.{raised_by_test}

-- ---- what they are good for

-- a surface has a live tile
pub record HasLive (live : Live) (id : ℕ) : Type 0 where
  pub key : Key
  pub surface : key.surface ≡ id
  pub there : contains_key live key ≡ true

-- one that may be raised is live
pub raised_is_live : (live : Live) (id : ℕ) (cell : Cell) → is_raised_in live id cell ≡ true → contains_key live (cell_key id cell) ≡ true
raised_is_live live id cell is = by (get live (cell_key id cell)) is
  where
    by : (o : Option TileSend) → is_some (option_and_then raised o) ≡ true → is_some o ≡ true
    by None is = is
    by (Some send) is = refl

-- so each of these surfaces has one
pub each_has_live : (live : Live) (ids : List ℕ) → AreRaisable live ids → AllByRecursion (HasLive live) ids
each_has_live live ids are = by ids are.each
  where
    by : (ids : List ℕ) → AllByRecursion (HasRaised live) ids → AllByRecursion (HasLive live) ids
    by [] each = tt
    by (id ∷ ids) each = (record { key = cell_key id each.0.0; surface = refl; there = raised_is_live live id each.0.0 each.0.1 }, by ids each.1)

-- ---- how they are found

-- the surfaces so far, and that of an entry, if it is new and may be raised
abbrev pub noting : ℕ → List ℕ → Key × TileSend → List ℕ
noting listed ids e = if is_new listed e.0.surface e.1.level ids then ids ++ e.0.surface ∷ [] else ids

among_pushed : (test : ℕ → Bool) (ids : List ℕ) (b : Bool) (one : ℕ) → list_any test ids ≡ true → list_any test (if b then ids ++ one ∷ [] else ids) ≡ true
among_pushed test ids true one is = list_any-append test ids (one ∷ []) ∙ ap (λ c. c || list_any test (one ∷ [])) is
among_pushed test ids false one is = is

-- those that are noted stay
stay_noted : (listed : ℕ) (test : ℕ → Bool) (es : List (Key × TileSend)) (ids : List ℕ) → list_any test ids ≡ true → list_any test (fold (noting listed) ids es) ≡ true
stay_noted listed test [] ids is = is
stay_noted listed test (e ∷ es) ids is =
    stay_noted listed test es (noting listed ids e) (among_pushed test ids (is_new listed e.0.surface e.1.level ids) e.0.surface is)

-- the surface of an entry that may be raised is noted
one_is_noted : (listed : ℕ) (e : Key × TileSend) (ids : List ℕ) → nat_lt e.1.level listed ≡ true → list_any (λ one. one == e.0.surface) (noting listed ids e) ≡ true
one_is_noted listed e ids below =
    ap (λ b. list_any (λ one. one == e.0.surface) (if b && not (list_any (λ one. one == e.0.surface) ids) then ids ++ e.0.surface ∷ [] else ids)) below
    ∙ by (list_any (λ one. one == e.0.surface) ids) refl
  where
    itself : (n : ℕ) (b : Bool) → (b || ((n == n) || false)) ≡ true
    itself n true = refl
    itself n false = grind (arith, nat_tests)

    by : (b : Bool) → list_any (λ one. one == e.0.surface) ids ≡ b
        → list_any (λ one. one == e.0.surface) (if not b then ids ++ e.0.surface ∷ [] else ids) ≡ true
    by true is = is
    by false is = list_any-append (λ one. one == e.0.surface) ids (e.0.surface ∷ []) ∙ itself e.0.surface (list_any (λ one. one == e.0.surface) ids)

found_noted : (listed : ℕ) (q : Key) (send : TileSend) → nat_lt send.level listed ≡ true → (es : List (Key × TileSend)) (ids : List ℕ) → find key_cmp q es ≡ Some send
    → list_any (λ one. one == q.surface) (fold (noting listed) ids es) ≡ true
found_noted listed q send below [] ids found = cc
found_noted listed q send below (e ∷ es) ids found = by (eq_by_cmp key_cmp q e.0) refl (λ later. found_noted listed q send below es (noting listed ids e) later)
  where
    by : (b : Bool) → eq_by_cmp key_cmp q e.0 ≡ b → (find key_cmp q es ≡ Some send → list_any (λ one. one == q.surface) (fold (noting listed) (noting listed ids e) es) ≡ true)
        → list_any (λ one. one == q.surface) (fold (noting listed) (noting listed ids e) es) ≡ true
    by true ties rest =
        let value : Some e.1 ≡ Some send = sym (ap (λ b. cond b (Some e.1) (find key_cmp q es)) ties) ∙ found in
        let same : e.1 ≡ send = cc in
        let surface : e.0.surface ≡ q.surface = sym (ap (λ (k : Key). k.surface) (tied q e.0 ties)) in
        stay_noted listed (λ one. one == q.surface) es (noting listed ids e)
        (subst (λ n. list_any (λ one. one == n) (noting listed ids e) ≡ true) surface
        (one_is_noted listed e ids (ap (λ (s : TileSend). nat_lt s.level listed) same ∙ below)))
    by false ties rest = rest (sym (ap (λ b. cond b (Some e.1) (find key_cmp q es)) ties) ∙ found)

-- what holds of each entry's surface, where it may be raised, holds of all that are noted
each_noted : (listed : ℕ) (P : ℕ → Type 0) (es : List (Key × TileSend)) (ids : List ℕ) → AllByRecursion (λ e. nat_lt e.1.level listed ≡ true → P e.0.surface) es → All P ids
    → All P (fold (noting listed) ids es)
each_noted listed P [] ids each so_far = so_far
each_noted listed P (e ∷ es) ids each so_far = each_noted listed P es (noting listed ids e) each.1 (by (nat_lt e.1.level listed) (not (list_any (λ one. one == e.0.surface) ids)) refl)
  where
    by : (b c : Bool) → nat_lt e.1.level listed ≡ b → All P (if b && c then ids ++ e.0.surface ∷ [] else ids)
    by true true is = All-push P ids e.0.surface so_far (each.0 is)
    by true false is = so_far
    by false c is = so_far

turned : (n : ℕ) (ids : List ℕ) → list_any (nat_eq n) ids ≡ list_any (λ one. one == n) ids
turned n [] = refl
turned n (id ∷ ids) = λ i. nat_eq_equiv.symm n id i || turned n ids i

-- each is noted once
once_noted : (listed : ℕ) (es : List (Key × TileSend)) (ids : List ℕ) → IsDistinct nat_eq ids → IsDistinct nat_eq (fold (noting listed) ids es)
once_noted listed [] ids once = once
once_noted listed (e ∷ es) ids once = once_noted listed es (noting listed ids e) (by (nat_lt e.1.level listed) (list_any (λ one. one == e.0.surface) ids) refl)
  where
    by : (b c : Bool) → list_any (λ one. one == e.0.surface) ids ≡ c → IsDistinct nat_eq (if b && not c then ids ++ e.0.surface ∷ [] else ids)
    by true true is = once
    by true false is = IsDistinct-push nat_eq_equiv ids e.0.surface once (turned e.0.surface ids ∙ is)
    by false c is = once

-- ---- the surfaces of the live tiles

-- where no key stands twice, each entry is what is found at its key
own_found : (same : Key → Key → Bool) → ((x y : Key) → same x y ≡ eq_by_cmp key_cmp x y) → (es : List (Key × TileSend)) → IsDistinct same (keys_of es)
    → All (λ e. get (from_entries {R = key_cmp} es) e.0 ≡ Some e.1) es
own_found same ties es distinct k d within =
    get-by (eq_by_cmp key_cmp) (λ x y. refl) es (get_or es k d).0
    ∙ lookup_from_place (eq_by_cmp_equiv key_total) es k (get_or es k d).0 (get_or es k d).1
    (subst (λ eq. IsDistinct eq (keys_of es)) {x = same} {y = eq_by_cmp key_cmp} (λ i x y. ties x y i) distinct) (slice_get-get_or es k d within)

-- such an entry's surface has a live tile that isn't at the last level
has_raised : (live : Live) (listed : ℕ) (e : Key × TileSend) → AreInPlace live → AreListed listed live → get live e.0 ≡ Some e.1 → nat_lt e.1.level listed ≡ true → HasRaised live e.0.surface
has_raised live listed e placed lists found below =
    let here : IsInPlace e.0 e.1 = subst (λ o. IfSome o (IsInPlace e.0)) found (placed e.0) in
    let list : Lists listed e.1 = subst (λ o. IfSome o (Lists listed)) found (lists e.0) in
    (e.1.cell, ap (λ key. is_some (option_and_then raised (get live key))) (sym here) ∙ ap (λ o. is_some (option_and_then raised o)) found ∙ sym (raised_by_test listed e.1 list) ∙ below)

all_noted : (live : Live) (listed : ℕ) (es : List (Key × TileSend)) → from_entries es ≡ live → AreListed listed live → (id : ℕ) (cell : Cell) → is_raised_in live id cell ≡ true
    → list_any (λ one. one == id) (fold (noting listed) [] es) ≡ true
all_noted live listed es is lists id cell may = by (get live (cell_key id cell)) refl (lists (cell_key id cell)) may
  where
    by : (o : Option TileSend) → get live (cell_key id cell) ≡ o → IfSome o (Lists listed) → is_some (option_and_then raised o) ≡ true
        → list_any (λ one. one == id) (fold (noting listed) [] es) ≡ true
    by None there list may = cc
    by (Some send) there list may =
        found_noted listed (cell_key id cell) send (raised_by_test listed send list ∙ may) es []
        (sym (get-from_entries key_total es (cell_key id cell)) ∙ ap (λ m. get m (cell_key id cell)) is ∙ there)

-- they are those that are noted in all of the entries
pub all_raisable : (same : Key → Key → Bool) → ((x y : Key) → same x y ≡ eq_by_cmp key_cmp x y) → (live : Live) (listed : ℕ) (es : List (Key × TileSend)) (ids : List ℕ)
    → from_entries es ≡ live → IsDistinct same (keys_of es) → AreInPlace live → AreListed listed live → ids ≡ fold (noting listed) [] es → AreRaisable live ids
unfolding IsDistinct
all_raisable same ties live listed es ids is distinct placed lists noted = subst (AreRaisable live) (sym noted) (record {
  each = recursion_from_All (HasRaised live) (fold (noting listed) [] es) (each_noted listed (HasRaised live) es [] entries none);
  all = all_noted live listed es is lists;
  once = once_noted listed es [] tt;
})
  where
    none : All (HasRaised live) []
    none k d within = absurd (omega arith)

    entries : AllByRecursion (λ e. nat_lt e.1.level listed ≡ true → HasRaised live e.0.surface) es
    entries = recursion_from_All (λ e. nat_lt e.1.level listed ≡ true → HasRaised live e.0.surface) es (λ k d within below.
        has_raised live listed (get_or es k d) placed lists (ap (λ m. get m (get_or es k d).0) (sym is) ∙ own_found same ties es distinct k d within) below)
