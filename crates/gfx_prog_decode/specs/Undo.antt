-- What is put back where a message is refused: of each key that it touched the record that was there before its first tile,
-- and of each cell the pixels that stood there. The records and the picture are put back apart.
use Rattle.std.specs.Prelude.{IsSome, ◌≡◌, false, Bool, List, [], ◌∷◌, Option, Some, None}
use Rattle.std.specs.FinMap as finmap
use Rattle.std.specs.List.{list_any}
use Rattle.std.specs.Ordering.{eq_by_cmp}
use Rattle.gfx_base.specs.Cells.{cell}
use Rattle.gfx_surface.specs.declared.kept_cell.KeptCell.{KeptCell}
use Rattle.gfx_surface.specs.Kept.{ChangesOnly, put_back}
use Rattle.gfx_tile_state.specs.declared.state.TileState.{TileState}
use Rattle.gfx_prog_decode.specs.declared.key.Key.{Key}
use Rattle.gfx_prog_decode.specs.declared.log.Log.{Log}
use Rattle.gfx_prog_decode.specs.declared.saved.SavedTile.{SavedTile}
use Rattle.gfx_prog_decode.specs.Records.{Records, key_cmp}
use Rattle.gfx_prog_decode.specs.Scene.{Scene, scene}

-- ---- records

-- the record of a key is as it was
abbrev pub records_back : Key → Option TileState → Records → Records
records_back key None records = finmap.remove records key
records_back key (Some tile) records = finmap.insert records key tile

-- all are put back, the one that was saved last first
abbrev pub records_undone : List SavedTile → Records → Records
records_undone [] now = now
records_undone (saved ∷ log) now = records_back saved.key saved.tile (records_undone log now)

-- a key's record as it is
pub record IsSavedOf (key : Key) (now : Records) (saved : SavedTile) : Type 0 where
  pub key_is : saved.key ≡ key
  pub tile_is : saved.tile ≡ finmap.get now key

abbrev pub is_saved_of : Key → SavedTile → Bool
is_saved_of key saved = eq_by_cmp key_cmp saved.key key

-- the key's record is saved
abbrev pub is_saved : Key → List SavedTile → Bool
is_saved key log = list_any (is_saved_of key) log

-- a record that is put back has its place: then no memory is needed
abbrev pub HasPlace : Key → Option TileState → Records → Type 0
HasPlace key None records = Unit {0}
HasPlace key (Some tile) records = IsSome (finmap.get records key)

-- so it is with each that is put back
abbrev pub CanBack : List SavedTile → Records → Type 0
CanBack [] now = Unit {0}
CanBack (saved ∷ log) now = CanBack log now × HasPlace saved.key saved.tile (records_undone log now)

-- what was before is put back
pub record AreUndoable (before : Records) (log : List SavedTile) (now : Records) : Type 0 where
  pub back : records_undone log now ≡ before
  pub can : CanBack log now

-- no record but this key's is other than before, and one that was there is there
pub record OnlyAt (key : Key) (old new : Records) : Type 0 where
  pub elsewhere : (q : Key) → eq_by_cmp key_cmp q key ≡ false → finmap.get new q ≡ finmap.get old q
  pub keeps : IsSome (finmap.get old key) → IsSome (finmap.get new key)

-- whatever is done to this key's record, what was put back before is still put back
abbrev pub KeepsRecord : Key → Records → List SavedTile → List SavedTile → Type 0
KeepsRecord key now log more =
    (later : Records) → OnlyAt key now later → (before : Records) → AreUndoable before log now → AreUndoable before more later

-- ---- records and the picture

-- what a log keeps
pub record Kept : Type 0 where
  pub cells : List KeptCell
  pub tiles : List SavedTile

abbrev pub kept : Log → Kept
kept log = record { cells = log.cells.cells.items; tiles = log.records.tiles.items }

abbrev pub nothing : Kept
nothing = record { cells = []; tiles = [] }

-- all is put back
abbrev pub undone : Kept → Scene → Scene
undone log now = scene (records_undone log.tiles now.records) (put_back log.cells now.picture)

-- what was before is put back
pub record IsUndoable (before : Scene) (log : Kept) (now : Scene) : Type 0 where
  pub records : AreUndoable before.records log.tiles now.records
  pub picture : put_back log.cells now.picture ≡ before.picture

-- whatever was put back is still put back
abbrev pub StaysUndoable : Kept → Scene → Kept → Scene → Type 0
StaysUndoable log old more new = (before : Scene) → IsUndoable before log old → IsUndoable before more new

-- nothing but this key's record and the pixels of its cell is other than before
pub record OnlyIn (key : Key) (old new : Scene) : Type 0 where
  pub records : OnlyAt key old.records new.records
  pub picture : ChangesOnly (cell key.x key.y) old.picture new.picture

-- whatever is done to this key's record and cell, it is put back
abbrev pub Keeps : Key → Scene → Kept → Kept → Type 0
Keeps key now log more = (later : Scene) → OnlyIn key now later → StaysUndoable log now more later
