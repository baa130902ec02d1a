-- The messages of what is sent, one group of tiles after another.
use Rattle.std.proofs.Common.{◌≡◌, ◌∙◌, ◌<◌, ◌≤◌, ◌^◌, ℕ, zero, suc, true, List, [], ◌∷◌, length, take, drop, Option, Ok, refl, sym, ap, length-take, length-drop, take-append-drop, arith}
use Rattle.std.specs.List.{AllByRecursion, fold}
use Rattle.std.proofs.lemmas.Grind.{fold-append}
use Rattle.gfx_base.proofs.ResultLemmas.{and_then_at}
use Rattle.gfx_tile_state.specs.declared.state.TileState.{TileState}
use Rattle.gfx_prog_block.specs.declared.area.Area.{Area}
use Rattle.gfx_prog_decode.specs.declared.key.Key.{Key}
use Rattle.gfx_prog_decode.specs.Coding.{begins_in}
use Rattle.gfx_prog_decode.specs.Progressive.{after_message, with_tile}
use Rattle.gfx_prog_decode.specs.Records.{Records}
use Rattle.gfx_prog_decode.specs.Scene.{Scene, in_turn}
use Rattle.gfx_prog_decode.specs.Showing.{shown_in}
use Rattle.gfx_prog_encode.specs.declared.TheConstants.{MOST_SENDS}
use Rattle.gfx_prog_encode.specs.declared.send.TileSend.{TileSend}
use Rattle.gfx_prog_live.specs.Live.{following, groups_of, in_groups, number_after, numbered}
use Rattle.gfx_prog_live.specs.Showing.{after_tiles, with_record}
use Rattle.gfx_prog_law.specs.Taken.{place_of}
use Rattle.gfx_prog_law.proofs.Apart.{Apart, all-drop, all-take, apart-drop, apart-take}
use Rattle.gfx_prog_law.proofs.Kept.{Asked, BeginsIn, asked-later}

-- ---- sides

-- a picture has these sides
abbrev pub HasSides : ℕ → ℕ → Scene → Type 0
HasSides width height old = (old.picture.width ≡ width) × (old.picture.height ≡ height)

pub tile-sides : (width height : ℕ) (old : Scene) (key : Key) (areas : List Area) (tile : TileState) → HasSides width height old → HasSides width height (with_tile old key areas tile)
unfolding shown_in
tile-sides width height old key areas tile sides = sides

pub tiles-sides : (id width height : ℕ) (sends : List TileSend) (old : Scene) → HasSides width height old → HasSides width height (after_tiles id sends old)
unfolding shown_in
tiles-sides id width height [] old sides = sides
tiles-sides id width height (send ∷ sends) old sides = tiles-sides id width height sends (with_record id old send) sides

-- a cell begins on it
pub begins-there : (width height : ℕ) (old : Scene) (send : TileSend) → HasSides width height old → BeginsIn width height send → begins_in old.picture.width old.picture.height send.cell.x send.cell.y ≡ true
begins-there width height old send sides begins = (λ i. begins_in (sides.0 i) (sides.1 i) send.cell.x send.cell.y) ∙ begins

-- ---- groups

module _ (id width height : ℕ) (Sent : TileSend → Type 0) (Ask : Option TileState → TileSend → Type 0) (Room : Records → Type 0) (write : List TileSend → ℕ → List ℕ) where
  -- tiles that may be sent
  pub record Ready (sends : List TileSend) (old : Scene) : Type 0 where
    pub sides : HasSides width height old
    pub sent : AllByRecursion Sent sends
    pub apart : Apart sends
    pub asked : AllByRecursion (Asked Ask id old.records) sends
    pub room : Room old.records

  -- the data of a group are accepted
  abbrev pub GroupIsTaken : Type 0
  GroupIsTaken =
      (sends : List TileSend) (index : ℕ) (old : Scene) → Ready sends old → length sends ≤ MOST_SENDS → index < 2 ^ 32
      → after_message (place_of id) (write sends index) old ≡ Ok (after_tiles id sends old)

  -- and leave room
  abbrev pub RoomStays : Type 0
  RoomStays = (sends : List TileSend) (old : Scene) → AllByRecursion Sent sends → Room old.records → Room (after_tiles id sends old).records

  module _ (taken : GroupIsTaken) (stays : RoomStays) where
    ready-first : (n : ℕ) (sends : List TileSend) (old : Scene) → Ready sends old → Ready (take n sends) old
    ready-first n sends old ready = record {
      sides = ready.sides;
      sent = all-take Sent n sends ready.sent;
      apart = apart-take n sends ready.apart;
      asked = all-take (Asked Ask id old.records) n sends ready.asked;
      room = ready.room;
    }

    ready-later : (n : ℕ) (sends : List TileSend) (old : Scene) → Ready sends old → Ready (drop n sends) (after_tiles id (take n sends) old)
    ready-later n sends old ready = record {
      sides = tiles-sides id width height (take n sends) old ready.sides;
      sent = all-drop Sent n sends ready.sent;
      apart = apart-drop n sends ready.apart;
      asked = asked-later Ask id n sends old ready.apart ready.asked;
      room = stays (take n sends) old (all-take Sent n sends ready.sent) ready.room;
    }

    -- a group, and what follows it
    followed : (n : ℕ) (sends : List TileSend) (next : ℕ) (old : Scene) (later : List (List ℕ)) → n ≤ MOST_SENDS → next < 2 ^ 32 → Ready sends old
        → in_turn (after_message (place_of id)) later (after_tiles id (take n sends) old) ≡ Ok (after_tiles id (drop n sends) (after_tiles id (take n sends) old))
        → in_turn (after_message (place_of id)) (write (take n sends) next ∷ later) old ≡ Ok (after_tiles id sends old)
    unfolding in_turn
    followed n sends next old later few small ready rest =
        and_then_at (after_message (place_of id) (write (take n sends) next) old) (after_tiles id (take n sends) old) (in_turn (after_message (place_of id)) later)
        (taken (take n sends) next old (ready-first n sends old ready) (omega (arith, few, length-take n sends)) small)
        ∙ rest
        ∙ ap (λ s. Ok s) (sym (fold-append (with_record id) old (take n sends) (drop n sends)) ∙ ap (λ l. after_tiles id l old) (take-append-drop n sends))

    fewer : (most : ℕ) (send : TileSend) (sends : List TileSend) → length (send ∷ sends) ≤ suc most → length (drop MOST_SENDS (send ∷ sends)) ≤ most
    fewer most send sends few = omega (arith, few, length-drop MOST_SENDS (send ∷ sends))

    pub groups-taken : (most : ℕ) (sends : List TileSend) (next : ℕ) (old : Scene) → length sends ≤ most → next < 2 ^ 32 → Ready sends old
        → in_turn (after_message (place_of id)) (numbered write (groups_of most sends) next) old ≡ Ok (after_tiles id sends old)
    unfolding in_turn numbered groups_of
    groups-taken zero [] next old few small ready = refl
    groups-taken zero (send ∷ sends) next old few small ready = absurd (omega (arith, few))
    groups-taken (suc most) [] next old few small ready = refl
    groups-taken (suc most) (send ∷ sends) next old few small ready =
        followed MOST_SENDS (send ∷ sends) next old (numbered write (groups_of most (drop MOST_SENDS (send ∷ sends))) (following next)) (omega arith) small ready
        (groups-taken most (drop MOST_SENDS (send ∷ sends)) (following next) (after_tiles id (take MOST_SENDS (send ∷ sends)) old)
        (fewer most send sends few) (omega arith) (ready-later MOST_SENDS (send ∷ sends) old ready))

-- ---- the number of the next message

number-small : (groups : List (List TileSend)) (next : ℕ) → next < 2 ^ 32 → fold (λ number (_ : List TileSend). following number) next groups < 2 ^ 32
number-small [] next small = small
number-small (group ∷ groups) next small = number-small groups (following next) (omega arith)

-- fits its field
pub number-fits : (sends : List TileSend) (next : ℕ) → next < 2 ^ 32 → number_after sends next < 2 ^ 32
number-fits sends next small = number-small (in_groups sends) next small
