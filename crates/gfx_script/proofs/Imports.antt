-- What is imported of two kept files is a start.
use Rattle.std.proofs.Common.{◌≡◌, ◌∙◌, ◌||◌, not, ap, sym, subst, nat_eq, Bool, true, false, ◌+◌, ◌≤◌, ℕ, List, [], ◌∷◌, map, length, refl}
use Rattle.std.specs.List.{AllByRecursion, IsDistinct, sum_by}
use Rattle.std.proofs.lemmas.List.{length-map}
use Rattle.std.proofs.lemmas.List.Sums.{sum_by-cons}
use Rattle.std.proofs.lemmas.Map.Keys.{IsDistinct-cons}
use Rattle.gfx_bitmap_cache.specs.Slots.{Entry, budget, bytes_of, last_slot}
use Rattle.gfx_slot_plan.proofs.InTurn.{keys_planned}
use Rattle.gfx_import.specs.Chosen.{AreShared}
use Rattle.gfx_import.specs.Entries.{are_distinct, entry_keys, has_key}
use Rattle.gfx_import.specs.Imported.{imported}
use Rattle.gfx_import.proofs.ChosenLemmas.{imported-chosen}
use Rattle.gfx_import.proofs.KeyLemmas.{both_true, not_true}
use Rattle.gfx_script.specs.Starting.{IsStart, key_bytes, start_of, starts_of}

-- ---- the keys and the bytes of a start are those of its entries

keys_same : (list : List Entry) → map (λ (held : ℕ × ℕ). held.0) (map key_bytes (starts_of list)) ≡ entry_keys list
keys_same [] = refl
keys_same (one ∷ list) = ap (λ keys. one.key ∷ keys) (keys_same list)

bytes_same : (list : List Entry) → sum_by (λ (held : ℕ × ℕ). held.1) (map key_bytes (starts_of list)) ≡ sum_by bytes_of list
bytes_same [] = refl
bytes_same (one ∷ list) =
    sum_by-cons (λ (held : ℕ × ℕ). held.1) (key_bytes (start_of one)) (map key_bytes (starts_of list))
    ∙ ap (λ n. bytes_of one + n) (bytes_same list) ∙ sym (sum_by-cons bytes_of one list)

-- ---- the client's first keys are as distinct as all

neither : (a b : Bool) → (a || b) ≡ false → (a ≡ false) × (b ≡ false)
neither true b none = absurd cc
neither false b none = (refl, none)

shared_apart : (key : ℕ) (server client list : List Entry) → AreShared server client list → has_key (entry_keys client) key ≡ false
    → AllByRecursion (λ other. nat_eq key other ≡ false) (entry_keys list)
shared_apart key server client [] shared none = tt
shared_apart key server [] (held ∷ list) shared none = absurd shared
shared_apart key server (one ∷ client) (held ∷ list) shared none =
    let parts = neither (nat_eq key one.key) (has_key (entry_keys client) key) none in
    (ap (nat_eq key) shared.0 ∙ parts.0, shared_apart key server client list shared.1.1.1 parts.1)

shared_distinct : (server client list : List Entry) → AreShared server client list → are_distinct (entry_keys client) ≡ true → IsDistinct nat_eq (entry_keys list)
unfolding IsDistinct
shared_distinct server client [] shared distinct = tt
shared_distinct server [] (held ∷ list) shared distinct = absurd shared
shared_distinct server (one ∷ client) (held ∷ list) shared distinct =
    let parts = both_true (not (has_key (entry_keys client) one.key)) (are_distinct (entry_keys client)) distinct in
    IsDistinct-cons nat_eq held.key (entry_keys list)
    (subst (λ key. AllByRecursion (λ other. nat_eq key other ≡ false) (entry_keys list)) (sym shared.0)
    (shared_apart one.key server client list shared.1.1.1 (not_true (has_key (entry_keys client) one.key) parts.0)))
    (shared_distinct server client list shared.1.1.1 parts.1)

-- entries of which none has another's key, within the limits, are a start
pub entries_start : (small : Bool) (list : List Entry) → IsDistinct nat_eq (entry_keys list) → length list ≤ last_slot small → sum_by bytes_of list ≤ budget small
    → IsStart (starts_of list) small
entries_start small list distinct few room =
    keys_planned small (map key_bytes (starts_of list)) (subst (IsDistinct nat_eq) (sym (keys_same list)) distinct)
    (subst (λ n. n ≤ last_slot small) (sym (length-map (starts_of list) key_bytes ∙ length-map list start_of)) few)
    (subst (λ n. n ≤ budget small) (sym (bytes_same list)) room)

-- and so is what is imported
pub imported_start : (server client : List Entry) (small : Bool) → are_distinct (entry_keys client) ≡ true → IsStart (starts_of (imported server client small)) small
imported_start server client small distinct =
    let chosen = imported-chosen server client small in
    entries_start small (imported server client small) (shared_distinct server client (imported server client small) chosen.shared distinct) chosen.few chosen.small
