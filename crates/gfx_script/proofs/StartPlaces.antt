-- The bitmaps of a start, by the place of the next.
use Rattle.std.proofs.Common.{◌≡◌, ◌∙◌, ◌<◌, ◌≤◌, ◌+◌, ap, sym, Bool, ℕ, zero, suc, List, [], ◌∷◌, ◌++◌, length, take, Some, None, arith}
use Rattle.std.specs.Prelude.{slice_get}
use Rattle.std.specs.Option.{option_map}
use Rattle.std.proofs.lemmas.List.{length-map, take_all}
use Rattle.std.proofs.lemmas.Option.{slice_get-map}
use Rattle.gfx_bitmap_cache.specs.Slots.{Entry}
use Rattle.gfx_import.specs.Chosen.{AreShared}
use Rattle.gfx_import.specs.Imported.{imported}
use Rattle.gfx_import.proofs.ChosenLemmas.{imported-chosen}
use Rattle.gfx_import.proofs.TakingLemmas.{front-at}
use Rattle.gfx_script.specs.declared.start.StartBitmap.{StartBitmap}
use Rattle.gfx_script.specs.Starting.{start_of, starts_of}

module _ (list : List Entry) where
  -- one more
  pub starts_next : (so_far : List StartBitmap) (place : ℕ) (one : Entry) → so_far ≡ take place (starts_of list) → Some one ≡ slice_get list place
      → so_far ++ start_of one ∷ [] ≡ take (place + 1) (starts_of list)
  starts_next so_far place one same here =
      ap (λ l. l ++ start_of one ∷ []) same
      ∙ sym (front-at (starts_of list) place (start_of one) (slice_get-map start_of list place ∙ ap (option_map start_of) (sym here)))

  -- all
  pub starts_all : (so_far : List StartBitmap) (place : ℕ) → so_far ≡ take place (starts_of list) → length list ≤ place → so_far ≡ starts_of list
  starts_all so_far place same past =
      let long : length (starts_of list) ≡ length list = length-map list start_of in
      same ∙ take_all place (starts_of list) (omega (arith, long))

-- below the length there is one
pub some_there : (list : List Entry) (place : ℕ) → None ≡ slice_get list place → place < length list → ⊥
some_there [] place none below = absurd (omega arith)
some_there (one ∷ list) zero none below = absurd cc
some_there (one ∷ list) (suc place) none below = some_there list place none (omega arith)

shared_fewer : (server client list : List Entry) → AreShared server client list → length list ≤ length client
shared_fewer server client [] shared = omega arith
shared_fewer server [] (held ∷ list) shared = absurd shared
shared_fewer server (one ∷ client) (held ∷ list) shared = let rest = shared_fewer server client list shared.1.1.1 in omega arith

-- no more are imported than the client keeps
pub imported_fewer : (server client : List Entry) (small : Bool) → length (imported server client small) ≤ length client
imported_fewer server client small = shared_fewer server client (imported server client small) (imported-chosen server client small).shared
