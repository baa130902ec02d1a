-- Records that are put back.
use Rattle.std.proofs.Common.{◌≡◌, ◌∙◌, ap, sym, refl, cond, Bool, true, false, Option, Some, None, is_some}
use Rattle.std.specs.Prelude.{IsSome}
use Rattle.std.specs.FinMap.{get, get-insert, get-remove, same_map}
use Rattle.std.specs.Ordering.{eq_by_cmp}
use Rattle.gfx_tile_state.specs.declared.state.TileState.{TileState}
use Rattle.gfx_prog_decode.specs.declared.key.Key.{Key}
use Rattle.gfx_prog_decode.specs.Records.{Records, key_cmp}
use Rattle.gfx_prog_decode.specs.Undo.{records_back}
use Rattle.gfx_prog_decode.proofs.Keys.{key_same, key_total, tied}

-- what is found once a record is put back
pub get-back : (key : Key) (tile : Option TileState) (records : Records) (q : Key)
    → get (records_back key tile records) q ≡ cond (eq_by_cmp key_cmp q key) tile (get records q)
get-back key None records q = get-remove key_total records key q
get-back key (Some tile) records q = get-insert key_total records key tile q

-- nothing but this key is other than before
abbrev pub Elsewhere : Key → Records → Records → Type 0
Elsewhere key old new = (q : Key) → eq_by_cmp key_cmp q key ≡ false → get new q ≡ get old q

-- what was there is there again
pub back_as_was : (key : Key) (tile : Option TileState) (now later : Records) → tile ≡ get now key → Elsewhere key now later
    → records_back key tile later ≡ now
back_as_was key tile now later was else_same = same_map key_total key_same _ _ (λ q. get-back key tile later q ∙ by q (eq_by_cmp key_cmp q key) refl)
  where
    by : (q : Key) (b : Bool) → eq_by_cmp key_cmp q key ≡ b → cond b tile (get later q) ≡ get now q
    by q true ties = was ∙ ap (get now) (sym (tied q key ties))
    by q false ties = else_same q ties

-- whatever else was there
pub back_alike : (key : Key) (tile : Option TileState) (now later : Records) → Elsewhere key now later
    → records_back key tile now ≡ records_back key tile later
back_alike key tile now later else_same = same_map key_total key_same _ _ (λ q.
    get-back key tile now q ∙ by q (eq_by_cmp key_cmp q key) refl ∙ sym (get-back key tile later q))
  where
    by : (q : Key) (b : Bool) → eq_by_cmp key_cmp q key ≡ b → cond b tile (get now q) ≡ cond b tile (get later q)
    by q true ties = refl
    by q false ties = sym (else_same q ties)

-- another key's record that is put back
pub back_elsewhere : (key other : Key) (tile : Option TileState) (now later : Records) → Elsewhere key now later
    → Elsewhere key (records_back other tile now) (records_back other tile later)
back_elsewhere key other tile now later else_same q apart =
    get-back other tile later q ∙ ap (cond (eq_by_cmp key_cmp q other) tile) (else_same q apart) ∙ sym (get-back other tile now q)

-- and a record that is there stays
pub back_keeps : (key other : Key) (tile : Option TileState) (now later : Records) → (IsSome (get now key) → IsSome (get later key))
    → IsSome (get (records_back other tile now) key) → IsSome (get (records_back other tile later) key)
back_keeps key other tile now later keeps there =
    ap is_some (get-back other tile later key) ∙ by (eq_by_cmp key_cmp key other) (sym (ap is_some (get-back other tile now key)) ∙ there)
  where
    by : (b : Bool) → is_some (cond b tile (get now key)) ≡ true → is_some (cond b tile (get later key)) ≡ true
    by true some = some
    by false some = keeps some
