-- What is put back, where only one key's record and cell are other than before.
use Rattle.std.proofs.Common.{◌≡◌, ◌∙◌, ap, sym, refl, subst, Bool, true, false, ◌||◌, List, [], ◌∷◌, ◌++◌, Option, Some, None, is_some, cond, T}
use Rattle.std.specs.Prelude.{IsSome, IsTrue}
use Rattle.std.specs.FinMap.{get, insert}
use Rattle.std.specs.Ordering.{eq_by_cmp}
use Rattle.gfx_base.specs.Cells.{cell}
use Rattle.gfx_prog_block.specs.declared.area.Area.{Area}
use Rattle.gfx_surface.specs.Kept.{ChangesOnly, KeepsCell, put_back}
use Rattle.gfx_surface.specs.Picture.{Picture, IsPicture, pixel_at}
use Rattle.gfx_tile_state.specs.declared.state.TileState.{TileState}
use Rattle.gfx_prog_decode.specs.declared.key.Key.{Key}
use Rattle.gfx_prog_decode.specs.declared.saved.SavedTile.{SavedTile}
use Rattle.gfx_prog_decode.specs.Records.{Records, key_cmp}
use Rattle.gfx_prog_decode.specs.Scene.{Scene, scene}
use Rattle.gfx_prog_decode.specs.Showing.{shown_in}
use Rattle.gfx_prog_decode.specs.Undo.{AreUndoable, CanBack, HasPlace, IsSavedOf, IsUndoable, Keeps, KeepsRecord, Kept, OnlyAt, OnlyIn, StaysUndoable, is_saved, is_saved_of, nothing, records_back, records_undone, undone}
use Rattle.gfx_prog_decode.proofs.CellLemmas.{shown_changes}
use Rattle.gfx_prog_decode.proofs.Keys.{get-inserted, tied}
use Rattle.gfx_prog_decode.proofs.Maps.{Elsewhere, back_alike, back_as_was, back_elsewhere, back_keeps, get-back}
use Rattle.gfx_prog_decode.proofs.Pictures.{redrawn_self}

-- ---- records put back

-- what is other in one key alone stays so
only_undone : (log : List SavedTile) (key : Key) (now later : Records) → OnlyAt key now later → OnlyAt key (records_undone log now) (records_undone log later)
only_undone [] key now later o = o
only_undone (saved ∷ log) key now later o =
    let rest = only_undone log key now later o in
    record {
      elsewhere = back_elsewhere key saved.key saved.tile (records_undone log now) (records_undone log later) rest.elsewhere;
      keeps = back_keeps key saved.key saved.tile (records_undone log now) (records_undone log later) rest.keeps;
    }

-- a record that is saved is put back the same, whatever is done to it
undone_saved : (log : List SavedTile) (key : Key) (now later : Records) → OnlyAt key now later → is_saved key log ≡ true → records_undone log now ≡ records_undone log later
undone_saved [] key now later o hit = absurd (subst (λ c. T c) (sym hit) tt)
undone_saved (saved ∷ log) key now later o hit =
    by (is_saved_of key saved) (is_saved key log) refl refl hit (λ there. undone_saved log key now later o there)
  where
    by : (b c : Bool) → is_saved_of key saved ≡ b → is_saved key log ≡ c → (b || c) ≡ true
        → (is_saved key log ≡ true → records_undone log now ≡ records_undone log later)
        → records_undone (saved ∷ log) now ≡ records_undone (saved ∷ log) later
    by true c here there one rest =
        let same : saved.key ≡ key = tied saved.key key here in
        back_alike saved.key saved.tile (records_undone log now) (records_undone log later)
        (subst (λ k. Elsewhere k (records_undone log now) (records_undone log later)) (sym same) (only_undone log key now later o).elsewhere)
    by false true here there one rest = ap (records_back saved.key saved.tile) (rest there)
    by false false here there one rest = absurd (subst (λ c. T c) (sym one) tt)

undone_push : (log : List SavedTile) (saved : SavedTile) (later : Records) → records_undone (log ++ saved ∷ []) later ≡ records_undone log (records_back saved.key saved.tile later)
undone_push [] saved later = refl
undone_push (first ∷ log) saved later = ap (records_back first.key first.tile) (undone_push log saved later)

-- ---- what needs no memory

place_kept : (key other : Key) (tile : Option TileState) (now later : Records) → OnlyAt key now later → HasPlace other tile now → HasPlace other tile later
place_kept key other None now later o there = tt
place_kept key other (Some tile) now later o there = by (eq_by_cmp key_cmp other key) refl
  where
    by : (b : Bool) → eq_by_cmp key_cmp other key ≡ b → IsSome (get later other)
    by true ties =
        let same : other ≡ key = tied other key ties in
        subst (λ k. IsSome (get later k)) (sym same) (o.keeps (subst (λ k. IsSome (get now k)) same there))
    by false apart = ap is_some (o.elsewhere other apart) ∙ there

can_only : (log : List SavedTile) (key : Key) (now later : Records) → OnlyAt key now later → CanBack log now → CanBack log later
can_only [] key now later o can = tt
can_only (saved ∷ log) key now later o (rest, here) =
    (can_only log key now later o rest, place_kept key saved.key saved.tile (records_undone log now) (records_undone log later) (only_undone log key now later o) here)

can_push : (log : List SavedTile) (saved : SavedTile) (later : Records) → CanBack log (records_back saved.key saved.tile later) → HasPlace saved.key saved.tile later
    → CanBack (log ++ saved ∷ []) later
can_push [] saved later can place = (tt, place)
can_push (first ∷ log) saved later (rest, here) place =
    (can_push log saved later rest place, subst (HasPlace first.key first.tile) (sym (undone_push log saved later)) here)

-- what is put back last is put back first
can_pop : (log : List SavedTile) (saved : SavedTile) (now : Records) → CanBack (log ++ saved ∷ []) now → CanBack log (records_back saved.key saved.tile now) × HasPlace saved.key saved.tile now
can_pop [] saved now (rest, place) = (tt, place)
can_pop (first ∷ log) saved now (rest, here) =
    let popped = can_pop log saved now rest in
    ((popped.0, subst (HasPlace first.key first.tile) (undone_push log saved now) here), popped.1)

-- one more is put back
pub undone_pop : (old log : List SavedTile) (saved : SavedTile) (now next due : Records) → old ≡ log ++ saved ∷ [] → next ≡ records_back saved.key saved.tile now
    → records_undone old now ≡ due → records_undone log next ≡ due
undone_pop old log saved now next due popped back same =
    ap (records_undone log) back ∙ sym (undone_push log saved now) ∙ ap (λ l. records_undone l now) (sym popped) ∙ same

pub can_pop_more : (old log : List SavedTile) (saved : SavedTile) (now next : Records) → old ≡ log ++ saved ∷ [] → next ≡ records_back saved.key saved.tile now
    → CanBack old now → CanBack log next
can_pop_more old log saved now next popped back can =
    subst (CanBack log) (sym back) (can_pop log saved now (subst (λ l. CanBack l now) popped can)).0

pub can_pop_place : (old log : List SavedTile) (saved : SavedTile) (now : Records) → old ≡ log ++ saved ∷ [] → CanBack old now → HasPlace saved.key saved.tile now
can_pop_place old log saved now popped can = (can_pop log saved now (subst (λ l. CanBack l now) popped can)).1

-- ---- a record that is kept

-- now
pub keeps_pushed : (key : Key) (saved : SavedTile) (now : Records) (log more : List SavedTile) → more ≡ log ++ saved ∷ [] → IsSavedOf key now saved → KeepsRecord key now log more
keeps_pushed key saved now log more pushed is later o before u =
    let was : records_back saved.key saved.tile later ≡ now =
    ap (λ k. records_back k saved.tile later) is.key_is ∙ back_as_was key saved.tile now later is.tile_is o.elsewhere in
    let last : AreUndoable before (log ++ saved ∷ []) later = record {
      back = undone_push log saved later ∙ ap (records_undone log) was ∙ u.back;
      can = can_push log saved later (subst (CanBack log) (sym was) u.can) (place saved.tile is.tile_is);
    } in
    subst (λ l. AreUndoable before l later) (sym pushed) last
  where
    place : (tile : Option TileState) → tile ≡ get now key → HasPlace saved.key tile later
    place None found = tt
    place (Some tile) found = subst (λ k. IsSome (get later k)) (sym is.key_is) (o.keeps (ap is_some (sym found)))

-- or before, as a look for it has found
pub keeps_found : (key : Key) (now : Records) (log saved : List SavedTile) (found : Bool) → saved ≡ log → (IsTrue found → is_saved key saved ≡ true) → IsTrue found → KeepsRecord key now log log
keeps_found key now log saved found same says there later o before u =
    let hit : is_saved key log ≡ true = ap (is_saved key) (sym same) ∙ says there in
    record { back = sym (undone_saved log key now later o hit) ∙ u.back; can = can_only log key now later o u.can }

-- ---- a record and a cell that are kept

pub keeps_both : (key : Key) (now : Scene) (log more : Kept) → KeepsRecord key now.records log.tiles more.tiles → KeepsCell (cell key.x key.y) now.picture log.cells more.cells → Keeps key now log more
keeps_both key now log more record_kept cell_kept later o before u = record {
  records = record_kept later.records o.records before.records u.records;
  picture = cell_kept later.picture o.picture before.picture u.picture;
}

-- nothing was kept or changed
pub stays_same : (log more : Kept) (now : Scene) → more ≡ log → StaysUndoable log now more now
stays_same log more now same before u = subst (λ l. IsUndoable before l now) (sym same) u

-- a record was kept, and nothing changed
pub stays_recorded : (key : Key) (now : Scene) (log more : Kept) → KeepsRecord key now.records log.tiles more.tiles → more.cells ≡ log.cells → StaysUndoable log now more now
stays_recorded key now log more keeps same before u = record {
  records = keeps now.records (record { elsewhere = λ q apart. refl; keeps = λ there. there }) before.records u.records;
  picture = ap (λ l. put_back l now.picture) same ∙ u.picture;
}

changes_none : (key : Key) (picture : Picture) → IsPicture picture → ChangesOnly (cell key.x key.y) picture picture
changes_none key picture shape = record {
  pixels = pixel_at picture;
  picture = sym (redrawn_self picture (pixel_at picture) shape (λ x y column row. refl));
  outside = λ x y column row out. refl;
}

-- a cell was kept, and nothing changed
pub stays_pictured : (key : Key) (now : Scene) (after : Records) (log more : Kept) → IsPicture now.picture → KeepsCell (cell key.x key.y) now.picture log.cells more.cells → more.tiles ≡ log.tiles
    → after ≡ now.records → StaysUndoable log now more (scene after now.picture)
stays_pictured key now after log more shape keeps same unchanged before u = record {
  records = subst (λ l. AreUndoable before.records l after) (sym same) (subst (AreUndoable before.records log.tiles) (sym unchanged) u.records);
  picture = keeps now.picture (changes_none key now.picture shape) before.picture u.picture;
}

-- what is so of a log is so of one that keeps the same
pub stays_from : (log same more : Kept) (old new : Scene) → same ≡ log → StaysUndoable same old more new → StaysUndoable log old more new
stays_from log same more old new is stays = subst (λ l. StaysUndoable l old more new) is stays

pub keeps_from : (key : Key) (now : Scene) (log same more : Kept) → same ≡ log → Keeps key now same more → Keeps key now log more
keeps_from key now log same more is keeps = subst (λ l. Keeps key now l more) is keeps

-- ---- what a tile does to its key

pub only_self : (key : Key) (now : Scene) → IsPicture now.picture → OnlyIn key now now
only_self key now shape = record {
  records = record { elsewhere = λ q apart. refl; keeps = λ there. there };
  picture = changes_none key now.picture shape;
}

-- the key has another record
only_inserted : (key : Key) (records : Records) (tile : TileState) → OnlyAt key records (insert records key tile)
only_inserted key records tile = record {
  elsewhere = λ q apart. get-back key (Some tile) records q ∙ ap (λ b. cond b (Some tile) (get records q)) apart;
  keeps = λ there. ap is_some (get-inserted records key tile);
}

pub only_insert : (key : Key) (records : Records) (tile : TileState) (picture : Picture) → IsPicture picture
    → OnlyIn key (scene records picture) (scene (insert records key tile) picture)
only_insert key records tile picture shape = record { records = only_inserted key records tile; picture = changes_none key picture shape }

-- and its tile is drawn
pub only_shown : (key : Key) (records : Records) (tile : TileState) (picture : Picture) (areas : List Area)
    → OnlyIn key (scene records picture) (scene (insert records key tile) (shown_in picture key areas tile))
only_shown key records tile picture areas = record { records = only_inserted key records tile; picture = shown_changes picture key areas tile }

-- ---- a whole message

-- before it nothing is kept
pub none_kept : (log : Kept) (now : Scene) → log ≡ nothing → IsUndoable now log now
none_kept log now none = subst (λ l. IsUndoable now l now) (sym none) (record { records = record { back = refl; can = tt }; picture = refl })

-- it is as it was
pub is_back : (before : Scene) (log : Kept) (now : Scene) → IsUndoable before log now → undone log now ≡ before
is_back before log now u i = scene (u.records.back i) (u.picture i)
