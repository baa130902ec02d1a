-- Steps over a list, one after another, and the answers of calls.
use Rattle.std.proofs.Common.{◌≡◌, ◌∙◌, ap, sym, refl, subst, true, eqb, ℕ, ◌<◌, ◌≤◌, ◌+◌, List, drop, length, get_or, Result, Ok, Err, Option, Some, None}
use Rattle.std.specs.Prelude.{IfSome, OnErr}
use Rattle.std.specs.FinMap.{get, insert, len}
use Rattle.std.specs.Option.{ok_or}
use Rattle.std.proofs.lemmas.Bool.{eqb-true}
use Rattle.std.proofs.lemmas.List.{drop_more, drop_all, nil_from_length}
use Rattle.gfx_base.specs.Outcome.{Applies, Gives}
use Rattle.gfx_base.specs.Results.{and_then, check}
use Rattle.gfx_base.specs.declared.answer.Cause.{Cause}
use Rattle.gfx_base.specs.declared.answer.Cause.TheVariants.{Memory, Refused}
use Rattle.gfx_base.specs.declared.refusal.Refusal.{Refusal}
use Rattle.gfx_base.specs.declared.refusal.Refusal.TheVariants.{NoFirstPass, QuantRange}
use Rattle.gfx_base.proofs.ResultLemmas.{and_then_at, and_then_refused}
use Rattle.gfx_surface.specs.Picture.{Picture, IsPicture}
use Rattle.gfx_prog_block.specs.declared.area.Area.{Area}
use Rattle.gfx_prog_block.specs.declared.block.Block.{Block}
use Rattle.gfx_prog_block.specs.declared.region.Region.{Region as RegionRead}
use Rattle.gfx_prog_block.specs.declared.tile.FirstPass.{FirstPass}
use Rattle.gfx_prog_block.specs.declared.tile.TileHead.{TileHead}
use Rattle.gfx_prog_block.specs.declared.tile.UpgradePass.{UpgradePass}
use Rattle.gfx_prog_block.specs.Reading.{blocks_of}
use Rattle.gfx_tile_state.specs.declared.state.TileState.{TileState}
use Rattle.gfx_prog_decode.specs.declared.key.Key.{Key}
use Rattle.gfx_prog_decode.specs.declared.key.Place.{Place}
use Rattle.gfx_prog_decode.specs.Coding.{Coding, are_bases, coding_of}
use Rattle.gfx_prog_decode.specs.Inside.{Begins, Passes, Starts, improved_in}
use Rattle.gfx_prog_decode.specs.Passes.{improved, may_start, start_of, started}
use Rattle.gfx_prog_decode.specs.Progressive.{after_block, after_first, after_message, after_region, after_tile, after_upgrade, found, is_difference, key_of, with_tile}
use Rattle.gfx_prog_decode.specs.Records.{Records}
use Rattle.gfx_prog_decode.specs.Scene.{Scene, in_turn, scene}
use Rattle.gfx_prog_decode.specs.Showing.{shown_in}
use Rattle.gfx_prog_decode.specs.Undo.{Keeps, Kept, StaysUndoable, nothing, undone}
use Rattle.gfx_prog_decode.proofs.Keys.{get-inserted}
use Rattle.gfx_prog_decode.proofs.Undoing.{is_back, none_kept, only_insert, only_self, only_shown}

-- ---- a loop over a list

module _ {X : Type 0} (step : X → Scene → Result Scene Refusal) where
  -- what all make of the first scene is what the rest makes of the scene now
  abbrev pub SoFar : List X → Scene → ℕ → Scene → Type 0
  SoFar all old i now = in_turn step all old ≡ in_turn step (drop i all) now

  -- one more step, whatever it gives
  one_more : (all : List X) (now : Scene) (i : ℕ) (d : X) (due : Result Scene Refusal) → i < length all → step (get_or all i d) now ≡ due
      → in_turn step (drop i all) now ≡ and_then due (in_turn step (drop (i + 1) all))
  unfolding in_turn
  one_more all now i d due below did =
      ap (λ rest. in_turn step rest now) (drop_more all i d below) ∙ ap (λ r. and_then r (in_turn step (drop (i + 1) all))) did

  pub so_more : (all : List X) (old now next : Scene) (i : ℕ) (d : X) → i < length all → step (get_or all i d) now ≡ Ok next
      → SoFar all old i now → SoFar all old (i + 1) next
  unfolding and_then
  so_more all old now next i d below did so = so ∙ one_more all now i d (Ok next) below did

  pub so_ended : (all : List X) (old now : Scene) (i : ℕ) → length all ≤ i → SoFar all old i now → in_turn step all old ≡ Ok now
  unfolding in_turn
  so_ended all old now i end so = so ∙ ap (λ rest. in_turn step rest now) (drop_all i all end)

  -- where a step gives none
  pub so_failed : (fault : Cause Refusal) (all : List X) (old now mid new : Scene) (i : ℕ) (d : X) → i < length all
      → Gives {X = Unit {0}} (λ _. mid) (Err fault) (step (get_or all i d) now) → SoFar all old i now → Gives {X = Unit {0}} (λ _. new) (Err fault) (in_turn step all old)
  unfolding and_then
  so_failed Memory all old now mid new i d below did so = tt
  so_failed (Refused refusal) all old now mid new i d below did so = so ∙ one_more all now i d (Err refusal) below did

-- ---- what can still be undone

-- step after step
pub still : (one two three : Kept) (a b c : Scene) → StaysUndoable one a two b → StaysUndoable two b three c → StaysUndoable one a three c
still one two three a b c first then before u = then before (first before u)

-- ---- the whole message

-- a message that is refused, or for which memory is wanting, is undone
pub undone_applies : (fault : Cause Refusal) (due : Result Scene Refusal) (old now new : Scene) (empty log : Kept) → empty ≡ nothing
    → Gives {X = Unit {0}} (λ _. now) (Err fault) due → StaysUndoable empty old log now → new ≡ undone log now → Applies (Err fault) old new due
undone_applies Memory due old now new empty log none told stays is = is ∙ is_back old log now (stays old (none_kept empty old none))
undone_applies (Refused refusal) due old now new empty log none told stays is = (told, is ∙ is_back old log now (stays old (none_kept empty old none)))

-- ---- a pass of a key's record

module _ (key : Key) (begun after : Records) where
  -- the record that is there is the one that it is told of
  pub of_found : (found : Option TileState) (tile : TileState) (result : Result (Unit {0}) Refusal) (due : TileState → Result TileState Refusal) → found ≡ Some tile
      → IfSome found (λ t. Passes result (due t) key begun after) → Passes result (due tile) key begun after
  of_found found tile result due is passes = subst (λ o. IfSome o (λ t. Passes result (due t) key begun after)) is passes

  -- what was drawn is the record that it left
  pub drawn_left : (tile : TileState) (old new : Picture) (areas : List Area) → after ≡ insert begun key tile
      → IfSome (get after key) (λ t. new ≡ shown_in old key areas t) → new ≡ shown_in old key areas tile
  drawn_left tile old new areas left shown =
      subst (λ o. IfSome o (λ t. new ≡ shown_in old key areas t)) (ap (λ r. get r key) left ∙ get-inserted begun key tile) shown

-- the answer of a pass, told of the scene
pub refused_by : (due : Result TileState Refusal) (view : TileState → Scene) (refusal : Refusal) → due ≡ Err refusal → and_then due (λ tile. Ok (view tile)) ≡ Err refusal
refused_by due view refusal is = and_then_refused due refusal (λ tile. Ok (view tile)) is

pub left_by : (due : Result TileState Refusal) (view : TileState → Scene) (tile : TileState) (new : Scene) → due ≡ Ok tile → new ≡ view tile → and_then due (λ tile. Ok (view tile)) ≡ Ok new
left_by due view tile new is shows = and_then_at due tile (λ tile. Ok (view tile)) is ∙ ap Ok (sym shows)

-- ---- a simple or first tile

module _ (place : Place) (region : RegionRead) (head : TileHead) (flags quality : ℕ) (pass : FirstPass) (old : Scene) where
  abbrev key : Key
  key = key_of place head

  abbrev pub first_coding : Result Coding Refusal
  first_coding = coding_of region old.picture.width old.picture.height head quality

  -- its head is refused
  pub first_uncoded : (refusal : Refusal) → first_coding ≡ Err refusal → after_first place region head flags quality pass old ≡ Err refusal
  unfolding after_first
  first_uncoded refusal is = and_then_refused first_coding refusal _ is

  module _ (coding : Coding) (coded : first_coding ≡ Ok coding) where
    abbrev pub first_may : Result (Unit {0}) Refusal
    first_may = may_start (is_difference flags) (found old key) (len old.records) coding.transform

    -- it may not begin
    pub first_unstarted : (refusal : Refusal) → first_may ≡ Err refusal → after_first place region head flags quality pass old ≡ Err refusal
    unfolding after_first
    first_unstarted refusal is = and_then_at first_coding coding _ coded ∙ and_then_refused first_may refusal _ is

    -- it is what its pass gives
    pub first_is : first_may ≡ Ok tt → after_first place region head flags quality pass old
        ≡ and_then (started (is_difference flags) coding pass (start_of (found old key))) (λ tile. Ok (with_tile old key region.rects tile))
    unfolding after_first
    first_is may = and_then_at first_coding coding _ coded ∙ and_then_at first_may tt _ may

    -- its pass is refused, or memory is wanting
    pub first_failed : (fault : Cause Refusal) (after : Records) (new : Scene) → first_may ≡ Ok tt
        → Starts (Err fault) (started (is_difference flags) coding pass (start_of (found old key))) key old.records after
        → Gives {X = Unit {0}} (λ _. new) (Err fault) (after_first place region head flags quality pass old)
    first_failed Memory after new may is = tt
    first_failed (Refused refusal) after new may is =
        first_is may ∙ refused_by (started (is_difference flags) coding pass (start_of (found old key))) (with_tile old key region.rects) refusal is

    -- it is kept and drawn
    pub first_done : (after : Records) (new : Picture) → first_may ≡ Ok tt
        → Starts (Ok tt) (started (is_difference flags) coding pass (start_of (found old key))) key old.records after
        → IfSome (get after key) (λ t. new ≡ shown_in old.picture key region.rects t)
        → after_first place region head flags quality pass old ≡ Ok (scene after new)
    first_done after new may (next, is, left) shown =
        first_is may
        ∙ left_by (started (is_difference flags) coding pass (start_of (found old key))) (with_tile old key region.rects) next (scene after new) is
        (λ i. scene (left i) (drawn_left key old.records after next old.picture new region.rects left shown i))

-- ---- an upgrade tile

module _ (place : Place) (region : RegionRead) (head : TileHead) (quality : ℕ) (pass : UpgradePass) (old : Scene) where
  abbrev the_key : Key
  the_key = key_of place head

  abbrev pub upgrade_coding : Result Coding Refusal
  upgrade_coding = coding_of region old.picture.width old.picture.height head quality

  -- its head is refused
  pub upgrade_uncoded : (refusal : Refusal) → upgrade_coding ≡ Err refusal → after_upgrade place region head quality pass old ≡ Err refusal
  unfolding after_upgrade
  upgrade_uncoded refusal is = and_then_refused upgrade_coding refusal _ is

  module _ (coding : Coding) (coded : upgrade_coding ≡ Ok coding) where
    -- it is what its pass makes of the record
    pub upgrade_is : after_upgrade place region head quality pass old
        ≡ and_then (improved_in coding pass (found old the_key)) (λ tile. Ok (with_tile old the_key region.rects tile))
    unfolding after_upgrade and_then
    upgrade_is = and_then_at upgrade_coding coding _ coded ∙ by (found old the_key)
      where
        by : (o : Option TileState) → and_then (ok_or o NoFirstPass) (λ before. and_then (improved coding pass before) (λ tile. Ok (with_tile old the_key region.rects tile)))
            ≡ and_then (improved_in coding pass o) (λ tile. Ok (with_tile old the_key region.rects tile))
        by None = refl
        by (Some tile) = refl

    -- its pass is refused, or memory is wanting
    pub upgrade_failed : (fault : Cause Refusal) (after : Records) (new : Scene)
        → Starts (Err fault) (improved_in coding pass (found old the_key)) the_key old.records after
        → Gives {X = Unit {0}} (λ _. new) (Err fault) (after_upgrade place region head quality pass old)
    upgrade_failed Memory after new is = tt
    upgrade_failed (Refused refusal) after new is = upgrade_is ∙ refused_by (improved_in coding pass (found old the_key)) (with_tile old the_key region.rects) refusal is

    -- it is kept and drawn
    pub upgrade_done : (after : Records) (new : Picture) → Starts (Ok tt) (improved_in coding pass (found old the_key)) the_key old.records after
        → IfSome (get after the_key) (λ t. new ≡ shown_in old.picture the_key region.rects t)
        → after_upgrade place region head quality pass old ≡ Ok (scene after new)
    upgrade_done after new (next, is, left) shown =
        upgrade_is
        ∙ left_by (improved_in coding pass (found old the_key)) (with_tile old the_key region.rects) next (scene after new) is
        (λ i. scene (left i) (drawn_left the_key old.records after next old.picture new region.rects left shown i))

-- ---- what a tile leaves can be undone

-- whatever came of its pass
pub pass_undone : (key : Key) (records begun after : Records) (result : Result (Unit {0}) Refusal) (due : Result TileState Refusal) (picture : Picture) (log more : Kept)
    → IsPicture picture → ((tile : TileState) → insert begun key tile ≡ insert records key tile)
    → Passes result due key begun after → Keeps key (scene records picture) log more → StaysUndoable log (scene records picture) more (scene after picture)
pass_undone key records begun after result due picture log more shape same (next, says, left) keeps =
    subst (λ r. StaysUndoable log (scene records picture) more (scene r picture)) (sym (left ∙ same next))
    (keeps (scene (insert records key next) picture) (only_insert key records next picture shape))

-- and once it is drawn
pub shown_undone : (key : Key) (records after : Records) (tile : TileState) (old new : Picture) (areas : List Area) (log more : Kept)
    → after ≡ insert records key tile → new ≡ shown_in old key areas tile
    → Keeps key (scene records old) log more → StaysUndoable log (scene records old) more (scene after new)
shown_undone key records after tile old new areas log more left drawn keeps =
    subst (StaysUndoable log (scene records old) more) (λ i. scene (sym left i) (sym drawn i))
    (keeps (scene (insert records key tile) (shown_in old key areas tile)) (only_shown key records tile old areas))

-- a record that was begun
pub begun_undone : (key : Key) (records begun after : Records) (result : Result (Unit {0}) Refusal) (due : TileState → Result TileState Refusal) (picture : Picture)
    (log more : Kept) → IsPicture picture → Begins key records begun → IfSome (get begun key) (λ tile. Passes result (due tile) key begun after)
    → Keeps key (scene records picture) log more → StaysUndoable log (scene records picture) more (scene after picture)
begun_undone key records begun after result due picture log more shape begins passes keeps =
    pass_undone key records begun after result (due (start_of (get records key))) picture log more shape begins.same
    (of_found key begun after (get begun key) (start_of (get records key)) result due begins.stands passes) keeps

-- a record that took a pass and was drawn
pub started_shown : (key : Key) (records after : Records) (due : Result TileState Refusal) (old new : Picture) (areas : List Area) (log more : Kept)
    → Starts (Ok tt) due key records after → IfSome (get after key) (λ t. new ≡ shown_in old key areas t)
    → Keeps key (scene records old) log more → StaysUndoable log (scene records old) more (scene after new)
started_shown key records after due old new areas log more (next, is, left) shown keeps =
    shown_undone key records after next old new areas log more left (drawn_left key records after next old new areas left shown) keeps

-- what holds in any case holds where there is no answer
pub where_err : {A E : Type 0} (result : Result A E) (P : Type 0) → P → OnErr result P
where_err (Ok x) P holds = tt
where_err (Err e) P holds = holds

-- nothing was done yet
pub self_undone : (key : Key) (records after : Records) (picture : Picture) (log more : Kept) → IsPicture picture → after ≡ records
    → Keeps key (scene records picture) log more → StaysUndoable log (scene records picture) more (scene after picture)
self_undone key records after picture log more shape same keeps =
    subst (λ r. StaysUndoable log (scene records picture) more (scene r picture)) (sym same) (keeps (scene records picture) (only_self key (scene records picture) shape))

-- ---- a region

-- a base is wrong
pub region_unbased : (place : Place) (region : RegionRead) (old : Scene) (refusal : Refusal) → Err refusal ≡ check QuantRange (are_bases region.quants) → after_region place region old ≡ Err refusal
unfolding after_region
region_unbased place region old refusal is = and_then_refused (check QuantRange (are_bases region.quants)) refusal _ (sym is)

-- or its tiles are what it gives
pub region_gives : (place : Place) (region : RegionRead) (old : Scene) (result : Result (Unit {0}) (Cause Refusal)) (new : Scene) → Ok tt ≡ check QuantRange (are_bases region.quants)
    → Gives {X = Unit {0}} (λ _. new) result (in_turn (after_tile place region) region.tiles old) → Gives {X = Unit {0}} (λ _. new) result (after_region place region old)
unfolding after_region
region_gives place region old result new is gives =
    subst (Gives {X = Unit {0}} (λ _. new) result) (sym (and_then_at (check QuantRange (are_bases region.quants)) tt (λ _. in_turn (after_tile place region) region.tiles old) (sym is))) gives

-- ---- the data

pub data_unread : (place : Place) (bytes : List ℕ) (fault : Cause Refusal) (blocks : Result (List Block) Refusal) (old new : Scene) → blocks_of bytes ≡ blocks
    → Gives {X = List Block} (λ all. all) (Err fault) blocks → new ≡ old → Applies (Err fault) old new (after_message place bytes old)
unfolding after_message
data_unread place bytes Memory blocks old new is told same = same
data_unread place bytes (Refused refusal) blocks old new is told same = (and_then_refused (blocks_of bytes) refusal _ (is ∙ told), same)

pub data_empty : (place : Place) (bytes : List ℕ) (all : List Block) (old : Scene) → blocks_of bytes ≡ Ok all → eqb (length all) 0 ≡ true
    → after_message place bytes old ≡ Ok old
unfolding after_message in_turn
data_empty place bytes all old is none =
    and_then_at (blocks_of bytes) all (λ all. in_turn (after_block place) all old) is
    ∙ ap (λ l. in_turn (after_block place) l old) (nil_from_length all (eqb-true (length all) 0 none))

pub data_read : (place : Place) (bytes : List ℕ) (all : List Block) (result : Result (Unit {0}) (Cause Refusal)) (old new : Scene) → blocks_of bytes ≡ Ok all
    → Applies result old new (in_turn (after_block place) all old) → Applies result old new (after_message place bytes old)
unfolding after_message
data_read place bytes all result old new is applies =
    subst (Applies result old new) (sym (and_then_at (blocks_of bytes) all (λ all. in_turn (after_block place) all old) is)) applies
