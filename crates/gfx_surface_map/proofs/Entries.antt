-- The map that a list of entries stands for.
use Rattle.std.proofs.Common.{◌≡◌, subst, ◌∙◌, ◌<◌, ◌^◌, ◌&&◌, nat_lt, nat_le, ap, sym, refl, length, nat_eq, ℕ, ◌+◌, List, [], Option, Some, None, is_some, inl, inr}
use Rattle.std.specs.Map.{keys_of, values_of}
use Rattle.std.specs.List.{IsDistinct, list_any, sum_by}
use Rattle.std.proofs.lemmas.Map.Made.{is_some-lookup}
use Rattle.gfx_base.proofs.MapLemmas.{get-entries_lookup, len-from_entries, sum_by-from_entries, empty_map, keys-insert, keys-remove, keys-empty}
use Rattle.gfx_surface.specs.Picture.{Picture}
use Rattle.gfx_surface_map.specs.declared.TheConstants.{MOST_SURFACES, MOST_CELLS}
use Rattle.gfx_surface_map.specs.Surfaces.{Surfaces, fits_beside, cells, cells_of_picture}
use Rattle.gfx_surface_map.specs.Inside.{AreIds}
use Rattle.std.specs.Option.{ghost_name_of}
use Rattle.std.specs.FinMap.{insert, from_entries, remove}
use Rattle.std.specs.Borrow.{MutBor}
use borrow.Follows.Closed.{read_of}

-- what is lent under one name is the same where its users' functions are the same
pub lent_alike : {D E : Type 0} (r : Option (MutBor E)) (F G : E → D) (u v : D)
    → ((x : MutBor E) → r ≡ Some x → (w : E) → F w ≡ G w) → u ≡ v → read_of (ghost_name_of r) F u ≡ read_of (ghost_name_of r) G v
lent_alike None F G u v some none = ap inr none
lent_alike (Some x) F G u v some none = λ i. inl (x.ghost_name, λ w. some x refl w i)

-- the limits, seen by the list
pub fits_beside-from_entries : (es : List (ℕ × Picture)) (width height : ℕ) → IsDistinct nat_eq (keys_of es)
    → fits_beside (from_entries es) width height
    ≡ (nat_lt (length es) MOST_SURFACES && nat_le (sum_by cells_of_picture (values_of es) + cells width height) MOST_CELLS)
fits_beside-from_entries es width height distinct =
    λ i. nat_lt (len-from_entries es distinct i) MOST_SURFACES && nat_le (sum_by-from_entries cells_of_picture es distinct i + cells width height) MOST_CELLS

-- lists with the same keys have the same ids
pub ids_of_keys : (old new : List (ℕ × Picture)) → keys_of new ≡ keys_of old → AreIds (from_entries old) → AreIds (from_entries new)
ids_of_keys old new same ids id there =
    ids id (ap is_some (get-entries_lookup old id) ∙ is_some-lookup (nat_eq id) old ∙ ap (list_any (nat_eq id)) (sym same)
    ∙ sym (is_some-lookup (nat_eq id) new) ∙ sym (ap is_some (get-entries_lookup new id)) ∙ there)

-- one more id that fits
pub ids-insert : (surfaces : Surfaces) (id : ℕ) (picture : Picture) → id < 2 ^ 16 → AreIds surfaces → AreIds (insert surfaces id picture)
ids-insert surfaces id picture fits ids = keys-insert (λ q. q < 2 ^ 16) surfaces id picture fits ids

-- no ids
pub ids-empty : (es : List (ℕ × Picture)) → es ≡ [] → AreIds (from_entries es)
ids-empty es none = subst AreIds (sym (empty_map es none)) (keys-empty Picture (λ q. q < 2 ^ 16))

-- one id fewer
pub ids-remove : (surfaces : Surfaces) (id : ℕ) → AreIds surfaces → AreIds (remove surfaces id)
ids-remove surfaces id ids = keys-remove (λ q. q < 2 ^ 16) surfaces id ids
