-- The messages of what is painted in passes fit their channel messages.
use Rattle.std.proofs.Common.{◌≡◌, ◌+◌, ◌-◌, ◌≤◌, ◌<◌, ◌^◌, ℕ, zero, suc, List, [], ◌∷◌, drop, length, length-take, map, Some, take, arith}
use Rattle.std.specs.List.{AllByRecursion}
use Rattle.std.proofs.lemmas.List.Elements.{All-from_recursion}
use Rattle.gfx_base.specs.Format.{byte_of}
use Rattle.gfx_base.specs.declared.format.Format.{Format}
use Rattle.gfx_prog_live.specs.Live.{Live, following, groups_of, improve_all, improved_sends, numbered, paint_all}
use Rattle.gfx_prog_law.specs.Taken.{LiveIn, WasSent}
use Rattle.gfx_prog_law.proofs.Apart.{all-drop, all-map, all-more, all-take, all-with}
use Rattle.gfx_prog_law.proofs.Improving.{improved-asked, improved-sent}
use Rattle.gfx_prog_law.proofs.Kept.{Asked}
use Rattle.gfx_prog_law.proofs.Sends.{is-send}
use Rattle.gfx_pdu.specs.declared.pdu.Pdu.TheVariants.{WireToSurface2}
use Rattle.gfx_pdu.specs.Spelling.{size}
use Rattle.gfx_prog_decode.specs.Records.{Records}
use Rattle.gfx_prog_encode.specs.Inside.{IsRaised}
use Rattle.gfx_prog_encode.specs.Messages.{improve_data, paint_data}
use Rattle.gfx_prog_encode.specs.declared.TheConstants.{MOST_SENDS}
use Rattle.gfx_prog_encode.specs.declared.send.TileSend.{TileSend}
use Rattle.gfx_prog_law.specs.Accepted.{IsSend}
use Rattle.gfx_prog_law.specs.Message.{MOST_DATA}
use Rattle.gfx_prog_law.proofs.Lengths.{improve-short, paint-short}
use Rattle.gfx_quant.specs.declared.setting.Setting.{Setting}
use Rattle.gfx_quant.specs.Setting.{IsSetting}
use Rattle.gfx_segment.specs.declared.profile.TheConstants.{MOST_PAYLOAD}
use Rattle.gfx_state.specs.Sending.{IsCarried}
use Rattle.gfx_surface.specs.declared.TheConstants.{MOST_SIDE}
use Rattle.gfx_tile_make.specs.Levels.{tile_at}
use Rattle.gfx_planner.specs.TileMessages.{passes_message}
use Rattle.gfx_planner.proofs.Carried.{carried}

-- ---- one message

passes_size : (surface codec context format : ℕ) (payload : List ℕ) → size (WireToSurface2 surface codec context format payload) ≡ 21 + length payload
unfolding size
passes_size surface codec context format payload = omega arith

carried-passes : (surface codec context format : ℕ) (payload : List ℕ) → surface < 2 ^ 16 → codec < 2 ^ 16 → context < 2 ^ 32 → length payload + 21 ≤ MOST_PAYLOAD → IsCarried (WireToSurface2 surface codec context format payload)
carried-passes surface codec context format payload s c n short =
    carried (WireToSurface2 surface codec context format payload) (s, c, n) tt (omega (arith, short, passes_size surface codec context format payload))

-- data that are no longer than those of a message may be
abbrev pub IsShort : List ℕ → Type 0
IsShort bytes = length bytes ≤ MOST_DATA

-- messages of such data
pub messages_carried : (id : ℕ) (format : Format) (messages : List (List ℕ)) → id < 2 ^ 16 → AllByRecursion IsShort messages → AllByRecursion IsCarried (map (passes_message id format) messages)
messages_carried id format messages fits short =
    all-map (passes_message id format) IsShort IsCarried (λ bytes few. carried-passes id _ _ (byte_of format) bytes fits (omega arith) (omega arith) (omega (arith, few))) messages short

-- ---- all groups

module _ (write : List TileSend → ℕ → List ℕ) (P : TileSend → Type 0) (short : (sends : List TileSend) (index : ℕ) → AllByRecursion P sends → length sends ≤ MOST_SENDS → IsShort (write sends index)) where
  groups_short : (most : ℕ) (sends : List TileSend) (next : ℕ) → AllByRecursion P sends → AllByRecursion IsShort (numbered write (groups_of most sends) next)
  unfolding numbered groups_of
  groups_short zero sends next all = tt
  groups_short (suc most) [] next all = tt
  groups_short (suc most) (send ∷ sends) next all = (
    short (take MOST_SENDS (send ∷ sends)) next (all-take P MOST_SENDS (send ∷ sends) all) (omega (arith, length-take MOST_SENDS (send ∷ sends))),
    groups_short most (drop MOST_SENDS (send ∷ sends)) (following next) (all-drop P MOST_SENDS (send ∷ sends) all),
  )

module _ (setting : Setting) (width height : ℕ) (set : IsSetting setting) (wide : width ≤ MOST_SIDE) (high : height ≤ MOST_SIDE) where
  -- tiles that are sent, as a message takes them
  are_sends : (sends : List TileSend) → AllByRecursion (WasSent setting width height) sends → AllByRecursion (IsSend setting) sends
  are_sends sends was = all-more (WasSent setting width height) (IsSend setting) (is-send setting width height wide high) sends was

  -- the messages of a paint
  pub paints_short : (sends : List TileSend) (next : ℕ) → AllByRecursion (WasSent setting width height) sends → AllByRecursion IsShort (paint_all setting sends next)
  paints_short sends next was =
      groups_short (paint_data setting) (WasSent setting width height)
      (λ group index all few. paint-short setting group index set (All-from_recursion (IsSend setting) group (are_sends group all)) few) (length sends) sends next was

  -- a tile that is raised
  Raised : TileSend → Type 0
  Raised send = WasSent setting width height send × IsRaised send

  -- the messages of an improvement
  pub improvements_short : (id next : ℕ) (live : Live) (records : Records) → LiveIn setting id width height live records → AllByRecursion IsShort (improve_all setting (improved_sends live id width height) next)
  unfolding Raised
  improvements_short id next live records agree =
      groups_short (improve_data setting) Raised
      (λ group index all few.
      improve-short setting group index set (All-from_recursion (IsSend setting) group (are_sends group (all-more Raised (WasSent setting width height) (λ send one. one.0) group all)))
      (All-from_recursion IsRaised group (all-more Raised IsRaised (λ send one. one.1) group all)) few)
      (length (improved_sends live id width height)) (improved_sends live id width height) next
      (all-with (WasSent setting width height) (Asked (λ before (send : TileSend). (1 ≤ send.level) × ((send.level ≤ length send.tile.setting.levels) × (before ≡ Some (tile_at send.tile (send.level - 1))))) id records) Raised
      (λ send was ask. (was, (ask.0, ask.1.0))) (improved_sends live id width height)
      (improved-sent setting live id width height records agree) (improved-asked setting live id width height records agree))
