-- A record that a key begins with.
use Rattle.std.proofs.Common.{◌≡◌, ◌∙◌, ap, sym, refl, subst, true, false, Option, Some, None, is_some, Result, Ok, Err, T}
use Rattle.std.specs.Prelude.{IsSome, IsOk, OnErr, OnOk}
use Rattle.std.specs.FinMap.{get, insert}
use Rattle.gfx_tile_state.specs.declared.state.TileState.{TileState}
use Rattle.gfx_tile_state.specs.Record.{fresh_tile}
use Rattle.gfx_prog_decode.specs.declared.key.Key.{Key}
use Rattle.gfx_prog_decode.specs.Inside.{Begins}
use Rattle.gfx_prog_decode.specs.Passes.{start_of}
use Rattle.gfx_prog_decode.specs.Records.{Records}
use Rattle.gfx_prog_decode.proofs.Keys.{get-inserted, insert-insert}

is_none : {X : Type 0} (found : Option X) → is_some found ≡ false → found ≡ None
is_none None none = refl
is_none (Some x) none = absurd (subst (λ b. T b) none tt)

-- a record that is there stays
pub begins_there : (key : Key) (records : Records) → is_some (get records key) ≡ true → Begins key records records
begins_there key records there = record { stands = by (get records key) there; same = λ tile. refl }
  where
    by : (found : Option TileState) → is_some found ≡ true → found ≡ Some (start_of found)
    by (Some tile) some = refl
    by None some = absurd (subst (λ b. T b) (sym some) tt)

-- where there is none, one is put in that is before its first pass
pub begins_fresh : (key : Key) (tile : TileState) (old new : Records) → is_some (get old key) ≡ false → tile ≡ fresh_tile → new ≡ insert old key tile
    → Begins key old new
begins_fresh key tile old new none fresh put = record {
  stands = ap (λ m. get m key) put ∙ get-inserted old key tile ∙ ap Some (fresh ∙ sym (ap start_of (is_none (get old key) none)));
  same = λ later. ap (λ m. insert m key later) put ∙ insert-insert old key tile later;
}

-- where a record has its place, a call that would fail only without one doesn't fail
pub placed : {A E : Type 0} {found there : Option TileState} (result : Result A E) → OnErr result (found ≡ None) → IsSome there → there ≡ found → IsOk result
placed (Ok x) fails some is = refl
placed (Err e) fails some is = sym (ap is_some (is ∙ fails)) ∙ some

-- and what holds of a call that doesn't fail, holds
pub when_ok : {A E : Type 0} {result : Result A E} {x : A} (P : Type 0) → result ≡ Ok x → OnOk result P → P
when_ok P is holds = subst (λ r. OnOk r P) is holds
