-- Each live tile stands at the key of its cell.
use Rattle.std.proofs.Common.{◌≡◌, ◌∙◌, ap, sym, refl, subst, cond, Bool, true, false, Option, Some, None, ℕ}
use Rattle.std.specs.Prelude.{IfSome}
use Rattle.std.specs.FinMap.{empty, get, get-empty, get-insert, get-remove, get-retain_keys, remove, retain_keys}
use Rattle.std.specs.Ordering.{eq_by_cmp}
use Rattle.gfx_prog_decode.specs.declared.key.Key.{Key}
use Rattle.gfx_prog_decode.specs.Records.{key_cmp}
use Rattle.gfx_prog_decode.proofs.Keys.{key_same, key_total, tied}
use Rattle.gfx_prog_encode.specs.declared.send.TileSend.{TileSend}
use Rattle.gfx_prog_live.specs.Cells.{cell_key}
use Rattle.gfx_prog_live.specs.Inside.{AreInPlace, IsInPlace}
use Rattle.gfx_prog_live.specs.Live.{Live, with_live}

-- what holds of what may be found, where a test lets it be
pub if_kept : (b : Bool) (o : Option TileSend) (P : TileSend → Type 0) → IfSome o P → IfSome (cond b o None) P
if_kept true o P h = h
if_kept false o P h = tt

pub if_not_taken : (b : Bool) (o : Option TileSend) (P : TileSend → Type 0) → IfSome o P → IfSome (cond b None o) P
if_not_taken true o P h = tt
if_not_taken false o P h = h

-- none
pub none_in_place : AreInPlace empty
none_in_place key = subst (λ o. IfSome o (IsInPlace key)) (sym (get-empty key_cmp key)) tt

-- those that a test leaves
pub retained_in_place : (live : Live) (test : Key → Bool) → AreInPlace live → AreInPlace (retain_keys live test)
retained_in_place live test placed key =
    subst (λ o. IfSome o (IsInPlace key)) (sym (get-retain_keys live test key (λ x tie. ap test (sym (key_same key x tie)))))
    (if_kept (test key) (get live key) (IsInPlace key) (placed key))

-- those without one
pub removed_in_place : (live : Live) (gone : Key) → AreInPlace live → AreInPlace (remove live gone)
removed_in_place live gone placed key =
    subst (λ o. IfSome o (IsInPlace key)) (sym (get-remove key_total live gone key))
    (if_not_taken (eq_by_cmp key_cmp key gone) (get live key) (IsInPlace key) (placed key))

-- those with one that was sent
pub kept_in_place : (id : ℕ) (live : Live) (send : TileSend) → AreInPlace live → AreInPlace (with_live id live send)
kept_in_place id live send placed key =
    subst (λ o. IfSome o (IsInPlace key)) (sym (get-insert key_total live (cell_key id send.cell) send key))
    (by (eq_by_cmp key_cmp key (cell_key id send.cell)) refl)
  where
    by : (b : Bool) → eq_by_cmp key_cmp key (cell_key id send.cell) ≡ b → IfSome (cond b (Some send) (get live key)) (IsInPlace key)
    by true ties =
        let same : key ≡ cell_key id send.cell = tied key (cell_key id send.cell) ties in
        same ∙ ap (λ (n : ℕ). cell_key n send.cell) (sym (ap (λ (k : Key). k.surface) same))
    by false ties = placed key
