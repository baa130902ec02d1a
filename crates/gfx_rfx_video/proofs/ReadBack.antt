-- The data of a server's messages, read back.
use Rattle.std.proofs.Common.{◌≡◌, ◌∙◌, ℕ, suc, ◌+◌, ◌-◌, ◌*◌, ◌^◌, ◌<◌, ◌≤◌, List, [], ◌∷◌, ◌++◌, length, map, Some, refl, sym, ap, subst, append_assoc, length-append, arith, Ok, lit<, ne_eqb, not}
use Rattle.std.proofs.lemmas.Bool.{le-leb}
use Rattle.std.proofs.lemmas.List.{append-nil, length-map}
use Rattle.std.specs.List.{AllByRecursion, flat_map}
use Rattle.std.specs.Option.{ok_or}
use Rattle.std.specs.Prelude.{◌==◌}
use Rattle.gfx_base.specs.Results.{and_then, check}
use Rattle.gfx_base.specs.declared.refusal.Refusal.TheVariants.{BlockUnknown, TileCount}
use Rattle.gfx_base.proofs.ResultLemmas.{and_then_at}
use Rattle.gfx_layout.specs.declared.stop.Stop.TheVariants.{Rule}
use Rattle.gfx_layout.specs.Layout.{Parts, measured, spelled}
use Rattle.gfx_layout.specs.Reading.{read, read_whole, take_each}
use Rattle.gfx_layout.specs.Shape.{PartFits, digits, text, u16, u32}
use Rattle.gfx_layout.proofs.FoundLaws.{length-spelled, read_whole-spelled}
use Rattle.gfx_layout.proofs.LayoutLaws.{Reads-layout}
use Rattle.gfx_prog_block.specs.declared.area.Area.{Area}
use Rattle.gfx_prog_block.specs.declared.tile.TileHead.{TileHead}
use Rattle.gfx_prog_block.specs.Shapes.{area, tile_head}
use Rattle.gfx_prog_block.specs.Spelling.{framed}
use Rattle.gfx_quant.specs.declared.setting.Setting.{Setting}
use Rattle.gfx_rlgr.specs.declared.mode.Mode.{Mode}
use Rattle.gfx_rlgr.specs.declared.mode.Mode.TheVariants.{Rlgr1, Rlgr3}
use Rattle.gfx_rfx_video.specs.declared.block.VideoBlock.{VideoBlock}
use Rattle.gfx_rfx_video.specs.declared.block.VideoBlock.TheVariants as blocks
use Rattle.gfx_rfx_video.specs.declared.coding.Codes.{Codes}
use Rattle.gfx_rfx_video.specs.declared.kinds.BlockType.{BlockType}
use Rattle.gfx_rfx_video.specs.declared.kinds.BlockType.TheVariants as types
use Rattle.gfx_rfx_video.specs.declared.kinds.TheConstants.{TILE}
use Rattle.gfx_rfx_video.specs.declared.video_tile.VideoTile.{VideoTile}
use Rattle.gfx_rfx_video.specs.BlockReading.{block_at, block_of, blocks_within, due_tile, refused, set_of, tile_at, tiles_of, video_blocks_of}
use Rattle.gfx_rfx_video.specs.Kinds.{block_number, block_type_of}
use Rattle.gfx_rfx_video.specs.Layouts.{channels, context, frame, frame_begin, frame_end, region, sync, tile, tile_set, versions}
use Rattle.gfx_rfx_video.specs.Message.{AreShort, IsSent, area_of, begin_text, blocks_by, channels_text, coded_text, coded_tile, codes_of, context_properties, context_text, end_text, front_text, head_of, quants_of, region_parts, region_text, set_by, set_head, set_parts, set_properties, set_text, sync_text, tile_of, tile_parts, tile_text, versions_text, video_data}
use Rattle.gfx_dwt.specs.declared.layout.Transform.TheVariants.{Plain}
use Rattle.gfx_tile_make.specs.Levels.{MayBeSent}
use Rattle.gfx_rfx_video.proofs.BlockLoops.{blocks-some}
use Rattle.gfx_rfx_video.proofs.Direct.{codes-short}
use Rattle.gfx_rfx_video.proofs.Lengthy.{coded-some, length-coded, length-region, length-set}

-- ---- frames

framed-spelled : (kind size : ℕ) (body : List ℕ) → spelled frame (kind, (size, (body, tt))) ≡ digits u16 kind ++ (digits u32 size ++ body)
unfolding text
framed-spelled kind size body = ap (λ t. digits u16 kind ++ (digits u32 size ++ t)) (append-nil body)

read-framed : (kind size : ℕ) (body more : List ℕ) → kind < 2 ^ 16 → 6 + size < 2 ^ 32 → length body ≡ size → read frame (framed kind size body ++ more) ≡ Ok (record { kind = kind; body = body }, more)
read-framed kind size body more narrow short e =
    let rest : length body ≡ 6 + size - 6 = omega (arith, e) in
    let reads = (Reads-layout frame (kind, (6 + size, (body, tt))) ((narrow, tt), ((short, tt), (le-leb 6 (6 + size) (omega arith), (rest, tt))))).whole more in
    ap (λ t. read frame (t ++ more)) (sym (framed-spelled kind (6 + size) body)) ∙ reads

type-again : (kind : BlockType) → block_type_of (block_number kind) ≡ Some kind
unfolding block_type_of
type-again types.Sync = refl
type-again types.Versions = refl
type-again types.Channels = refl
type-again types.Context = refl
type-again types.FrameBegin = refl
type-again types.FrameEnd = refl
type-again types.Region = refl
type-again types.TileSet = refl

number-narrow : (kind : BlockType) → block_number kind < 2 ^ 16
number-narrow types.Sync = lit< tt
number-narrow types.Versions = lit< tt
number-narrow types.Channels = lit< tt
number-narrow types.Context = lit< tt
number-narrow types.FrameBegin = lit< tt
number-narrow types.FrameEnd = lit< tt
number-narrow types.Region = lit< tt
number-narrow types.TileSet = lit< tt

-- a block in its frame is read, whatever follows
block-read : (kind : BlockType) (size : ℕ) (body more : List ℕ) (block : VideoBlock) → 6 + size < 2 ^ 32 → length body ≡ size → block_of kind body ≡ Ok block
    → block_at (framed (block_number kind) size body ++ more) ≡ Ok (block, more)
unfolding block_at
block-read kind size body more block short long is =
    and_then_at (read frame (framed (block_number kind) size body ++ more)) (record { kind = block_number kind; body = body }, more) _ (read-framed (block_number kind) size body more (number-narrow kind) short long)
    ∙ and_then_at (ok_or (block_type_of (block_number kind)) (Rule BlockUnknown)) kind _ (ap (λ o. ok_or o (Rule BlockUnknown)) (type-again kind))
    ∙ and_then_at (block_of kind body) block (λ block. Ok (block, more)) is

-- bytes that are these blocks
abbrev AreBlocks : List ℕ → List VideoBlock → Type 0
AreBlocks bytes all = blocks_within (length bytes) bytes ≡ Ok all

no-blocks : AreBlocks [] []
unfolding blocks_within
no-blocks = refl

one-block : (content rest : List ℕ) (block : VideoBlock) (all : List VideoBlock) → 0 < length content → block_at (content ++ rest) ≡ Ok (block, rest) → AreBlocks rest all → AreBlocks (content ++ rest) (block ∷ all)
one-block content rest block all some reads are =
    blocks-some (content ++ rest) (omega (arith, length-append content rest))
    ∙ and_then_at (block_at (content ++ rest)) (block, rest) (λ first. and_then (blocks_within (length first.1) first.1) (λ others. Ok (first.0 ∷ others))) reads
    ∙ and_then_at (blocks_within (length rest) rest) all (λ others. Ok (block ∷ others)) are

-- ---- headers

sync-read : (more : List ℕ) → block_at (sync_text ++ more) ≡ Ok (blocks.Sync, more)
unfolding sync_text block_of read_whole
sync-read more = block-read types.Sync 6 (0xCA ∷ 0xAC ∷ 0xCC ∷ 0xCA ∷ 0 ∷ 1 ∷ []) more blocks.Sync (lit< tt) refl (read_whole-spelled sync (0xCA ∷ 0xAC ∷ 0xCC ∷ 0xCA ∷ 0 ∷ 1 ∷ [], tt) (refl, tt))

versions-read : (more : List ℕ) → block_at (versions_text ++ more) ≡ Ok (blocks.Versions, more)
unfolding versions_text block_of read_whole
versions-read more = block-read types.Versions 4 (1 ∷ 1 ∷ 0 ∷ 1 ∷ []) more blocks.Versions (lit< tt) refl (read_whole-spelled versions (1 ∷ 1 ∷ 0 ∷ 1 ∷ [], tt) (refl, tt))

channels-read : (width height : ℕ) (more : List ℕ) → block_at (channels_text width height ++ more) ≡ Ok (blocks.Channels, more)
unfolding channels_text text block_of read_whole
channels-read width height more =
    block-read types.Channels 6 (1 ∷ 0 ∷ (digits u16 width ++ digits u16 height)) more blocks.Channels (lit< tt) refl
    (read_whole-spelled channels (1, (0 ∷ (digits u16 width ++ digits u16 height), tt)) ((tt, tt), (refl, tt)))

context-read : (mode : Mode) (more : List ℕ) → block_at (context_text mode ++ more) ≡ Ok (blocks.Context, more)
unfolding context_text block_of read_whole
context-read mode more =
    block-read types.Context 7 (1 ∷ 0xFF ∷ 0 ∷ 0x40 ∷ 0 ∷ digits u16 (context_properties mode)) more blocks.Context (lit< tt) refl
    (read_whole-spelled context (1 ∷ 0xFF ∷ 0 ∷ 0x40 ∷ 0 ∷ digits u16 (context_properties mode), tt) (refl, tt))

begin-read : (index : ℕ) (more : List ℕ) → block_at (begin_text index ++ more) ≡ Ok (blocks.FrameBegin, more)
unfolding begin_text block_of read_whole
begin-read index more =
    block-read types.FrameBegin 8 (1 ∷ 0 ∷ (digits u32 index ++ (1 ∷ 0 ∷ []))) more blocks.FrameBegin (lit< tt) refl
    (read_whole-spelled frame_begin (1 ∷ 0 ∷ (digits u32 index ++ (1 ∷ 0 ∷ [])), tt) (refl, tt))

end-read : (more : List ℕ) → block_at (end_text ++ more) ≡ Ok (blocks.FrameEnd, more)
unfolding end_text block_of read_whole
end-read more = block-read types.FrameEnd 2 (1 ∷ 0 ∷ []) more blocks.FrameEnd (lit< tt) refl (read_whole-spelled frame_end (1 ∷ 0 ∷ [], tt) (refl, tt))

-- ---- the region

areas-fit : (setting : Setting) (width height : ℕ) (tiles : List VideoTile) → width < 2 ^ 16 → height < 2 ^ 16 → AllByRecursion (IsSent setting width height) tiles
    → AllByRecursion (PartFits area) (map (area_of width height) tiles)
areas-fit setting width height [] wide high sent = tt
areas-fit setting width height (t ∷ tiles) wide high sent =
    ((omega (arith, sent.0.across), (omega (arith, sent.0.down), (omega (arith, sent.0.across), (omega (arith, sent.0.down), tt)))), areas-fit setting width height tiles wide high sent.1)

region-read : (areas : List Area) (more : List ℕ) → length areas ≤ 256 → AllByRecursion (PartFits area) areas → block_at (region_text areas ++ more) ≡ Ok (blocks.Region areas, more)
unfolding region_text block_of read_whole
region-read areas more few fit =
    block-read types.Region (measured region (region_parts areas)) (spelled region (region_parts areas)) more (blocks.Region areas) (omega arith) (length-spelled region (region_parts areas))
    (read_whole-spelled region (region_parts areas) (refl, (omega arith, (fit, (refl, tt)))))

-- ---- tiles

tile-read : (head : TileHead) (codes : Codes) (more : List ℕ) → PartFits tile_head head → AreShort codes → tile_at (coded_text head codes ++ more) ≡ Ok (coded_tile head codes, more)
unfolding tile_at coded_text
tile-read head codes more fits short =
    and_then_at (read frame (framed TILE (measured tile (tile_parts head codes)) (spelled tile (tile_parts head codes)) ++ more)) (record { kind = TILE; body = spelled tile (tile_parts head codes) }, more) _
    (read-framed TILE (measured tile (tile_parts head codes)) (spelled tile (tile_parts head codes)) more (lit< tt) (omega (arith, short.0, short.1, short.2)) (length-spelled tile (tile_parts head codes)))
    ∙ and_then_at (check (Rule BlockUnknown) (TILE == TILE)) tt (λ known. and_then (read_whole tile (spelled tile (tile_parts head codes))) (λ one. Ok (one, more))) refl
    ∙ and_then_at (read_whole tile (spelled tile (tile_parts head codes))) (coded_tile head codes) (λ one. Ok (one, more))
    (read_whole-spelled tile (tile_parts head codes) (fits, ((omega (arith, short.0), tt), ((omega (arith, short.1), tt), ((omega (arith, short.2), tt), (refl, (refl, (refl, tt))))))))

-- a tile that may be read back: its place fits, and its codes are short
abbrev pub CanBeRead : Mode → VideoTile → Type 0
CanBeRead mode t = (t.x < 2 ^ 16) × (t.y < 2 ^ 16) × AreShort (codes_of mode t.tile)

due-read : (mode : Mode) (t : VideoTile) (more : List ℕ) → CanBeRead mode t → due_tile (tile_text mode t ++ more) ≡ Ok (tile_of mode t, more)
unfolding due_tile
due-read mode t more can =
    and_then_at (check (Rule TileCount) (not (length (tile_text mode t ++ more) == 0))) tt (λ some. tile_at (tile_text mode t ++ more))
    (ap (λ b. check (Rule TileCount) (not b))
    (ne_eqb (length (tile_text mode t ++ more)) 0 (λ e. omega (arith, e, length-append (tile_text mode t) more, coded-some (head_of t) (codes_of mode t.tile)))))
    ∙ tile-read (head_of t) (codes_of mode t.tile) more (tt, (tt, (tt, (can.0, (can.1, tt))))) can.2

tiles-read : (mode : Mode) (tiles : List VideoTile) (more : List ℕ) → AllByRecursion (CanBeRead mode) tiles
    → take_each due_tile (length tiles) (flat_map (tile_text mode) tiles ++ more) ≡ Ok (map (tile_of mode) tiles, more)
unfolding take_each
tiles-read mode [] more can = refl
tiles-read mode (t ∷ tiles) more can =
    ap (take_each due_tile (suc (length tiles))) (append_assoc (tile_text mode t) (flat_map (tile_text mode) tiles) more)
    ∙ and_then_at (due_tile (tile_text mode t ++ (flat_map (tile_text mode) tiles ++ more))) (tile_of mode t, flat_map (tile_text mode) tiles ++ more) _ (due-read mode t (flat_map (tile_text mode) tiles ++ more) can.0)
    ∙ and_then_at (take_each due_tile (length tiles) (flat_map (tile_text mode) tiles ++ more)) (map (tile_of mode) tiles, more) (λ others. Ok (tile_of mode t ∷ others.0, others.1)) (tiles-read mode tiles more can.1)

-- ---- the tile set

properties-narrow : (mode : Mode) → set_properties mode < 2 ^ 16
properties-narrow Rlgr1 = lit< tt
properties-narrow Rlgr3 = lit< tt

all-tiles : (mode : Mode) (tiles : List VideoTile) → AllByRecursion (CanBeRead mode) tiles → tiles_of (length tiles) (flat_map (tile_text mode) tiles) ≡ Ok (map (tile_of mode) tiles)
unfolding tiles_of and_then
all-tiles mode tiles can =
    and_then_at (take_each due_tile (length tiles) (flat_map (tile_text mode) tiles)) (map (tile_of mode) tiles, []) _
    (ap (take_each due_tile (length tiles)) (sym (append-nil (flat_map (tile_text mode) tiles))) ∙ tiles-read mode tiles [] can)

set-read : (mode : Mode) (setting : Setting) (tiles : List VideoTile) (more : List ℕ) → length tiles ≤ 256 → length (flat_map (tile_text mode) tiles) ≤ length tiles * 196624 → AllByRecursion (CanBeRead mode) tiles
    → block_at (set_text mode setting (length tiles) (flat_map (tile_text mode) tiles) ++ more) ≡ Ok (blocks.TileSet (set_by mode setting tiles), more)
unfolding set_text set_of block_of and_then
set-read mode setting tiles more few short can =
    let texts : List ℕ = flat_map (tile_text mode) tiles in
    let parts : Parts tile_set = set_parts mode setting (length tiles) texts in
    let whole : read_whole tile_set (spelled tile_set parts) ≡ Ok (record { head = set_head mode (length tiles) texts; quants = quants_of setting; tiles = texts }) =
    read_whole-spelled tile_set parts (refl, ((properties-narrow mode, (tt, (tt, (omega arith, (omega arith, tt))))), (refl, (((tt, (tt, (tt, (tt, (tt, tt))))), ((tt, (tt, (tt, (tt, (tt, tt))))), ((tt, (tt, (tt, (tt, (tt, tt))))), tt))), (refl, tt))))) in
    let found : set_of (spelled tile_set parts) ≡ Ok (set_by mode setting tiles) =
    and_then_at (read_whole tile_set (spelled tile_set parts)) (record { head = set_head mode (length tiles) texts; quants = quants_of setting; tiles = texts }) _ whole
    ∙ and_then_at (tiles_of (length tiles) texts) (map (tile_of mode) tiles) (λ some. Ok (record { properties = set_properties mode; quants = quants_of setting; tiles = some })) (all-tiles mode tiles can) in
    block-read types.TileSet (measured tile_set parts) (spelled tile_set parts) more (blocks.TileSet (set_by mode setting tiles)) (omega (arith, few, short)) (length-spelled tile_set parts)
    (and_then_at (set_of (spelled tile_set parts)) (set_by mode setting tiles) (λ some. Ok (blocks.TileSet some)) found)

-- ---- the message

some-sync : 0 < length sync_text
unfolding sync_text
some-sync = lit< tt

some-versions : 0 < length versions_text
unfolding versions_text
some-versions = lit< tt

some-channels : (width height : ℕ) → 0 < length (channels_text width height)
unfolding channels_text
some-channels width height = lit< tt

some-context : (mode : Mode) → 0 < length (context_text mode)
unfolding context_text
some-context mode = lit< tt

some-begin : (index : ℕ) → 0 < length (begin_text index)
unfolding begin_text
some-begin index = lit< tt

some-end : 0 < length end_text
unfolding end_text
some-end = lit< tt

five-joined : (a b c d e x : List ℕ) → (a ++ (b ++ (c ++ (d ++ e)))) ++ x ≡ a ++ (b ++ (c ++ (d ++ (e ++ x))))
five-joined a b c d e x = simp append_assoc

-- the data are these blocks
pub message-read : (setting : Setting) (mode : Mode) (width height : ℕ) (tiles : List VideoTile) (index : ℕ) → width < 2 ^ 16 → height < 2 ^ 16 → length tiles ≤ 256
    → AllByRecursion (IsSent setting width height) tiles → length (flat_map (tile_text mode) tiles) ≤ length tiles * 196624 → AllByRecursion (CanBeRead mode) tiles
    → video_blocks_of (video_data setting mode width height tiles index) ≡ Ok (blocks_by mode setting width height tiles)
unfolding video_blocks_of video_data front_text
message-read setting mode width height tiles index wide high few sent short can =
    let areas : List Area = map (area_of width height) tiles in
    let set : List ℕ = set_text mode setting (length tiles) (flat_map (tile_text mode) tiles) in
    let r : List ℕ = region_text areas in
    let many : length areas ≤ 256 = omega (arith, length-map tiles (area_of width height), few) in
    let e1 : AreBlocks end_text (blocks.FrameEnd ∷ []) =
    subst (λ l. AreBlocks l (blocks.FrameEnd ∷ [])) (append-nil end_text) (one-block end_text [] blocks.FrameEnd [] some-end (end-read []) no-blocks) in
    let e2 : AreBlocks (set ++ end_text) (blocks.TileSet (set_by mode setting tiles) ∷ blocks.FrameEnd ∷ []) =
    one-block set end_text (blocks.TileSet (set_by mode setting tiles)) (blocks.FrameEnd ∷ []) (omega (arith, length-set mode setting (length tiles) (flat_map (tile_text mode) tiles)))
    (set-read mode setting tiles end_text few short can) e1 in
    let e3 : AreBlocks (r ++ (set ++ end_text)) (blocks.Region areas ∷ blocks.TileSet (set_by mode setting tiles) ∷ blocks.FrameEnd ∷ []) =
    one-block r (set ++ end_text) (blocks.Region areas) (blocks.TileSet (set_by mode setting tiles) ∷ blocks.FrameEnd ∷ []) (omega (arith, length-region areas))
    (region-read areas (set ++ end_text) many (areas-fit setting width height tiles wide high sent)) e2 in
    let e4 : AreBlocks (begin_text index ++ (r ++ (set ++ end_text))) (blocks.FrameBegin ∷ blocks.Region areas ∷ blocks.TileSet (set_by mode setting tiles) ∷ blocks.FrameEnd ∷ []) =
    one-block (begin_text index) (r ++ (set ++ end_text)) blocks.FrameBegin (blocks.Region areas ∷ blocks.TileSet (set_by mode setting tiles) ∷ blocks.FrameEnd ∷ []) (some-begin index) (begin-read index (r ++ (set ++ end_text))) e3 in
    let e5 : AreBlocks (context_text mode ++ (begin_text index ++ (r ++ (set ++ end_text)))) (blocks.Context ∷ blocks.FrameBegin ∷ blocks.Region areas ∷ blocks.TileSet (set_by mode setting tiles) ∷ blocks.FrameEnd ∷ []) =
    one-block (context_text mode) (begin_text index ++ (r ++ (set ++ end_text))) blocks.Context (blocks.FrameBegin ∷ blocks.Region areas ∷ blocks.TileSet (set_by mode setting tiles) ∷ blocks.FrameEnd ∷ []) (some-context mode)
    (context-read mode (begin_text index ++ (r ++ (set ++ end_text)))) e4 in
    let e6 : AreBlocks (channels_text width height ++ (context_text mode ++ (begin_text index ++ (r ++ (set ++ end_text))))) (blocks.Channels ∷ blocks.Context ∷ blocks.FrameBegin ∷ blocks.Region areas ∷ blocks.TileSet (set_by mode setting tiles) ∷ blocks.FrameEnd ∷ []) =
    one-block (channels_text width height) (context_text mode ++ (begin_text index ++ (r ++ (set ++ end_text)))) blocks.Channels (blocks.Context ∷ blocks.FrameBegin ∷ blocks.Region areas ∷ blocks.TileSet (set_by mode setting tiles) ∷ blocks.FrameEnd ∷ []) (some-channels width height)
    (channels-read width height (context_text mode ++ (begin_text index ++ (r ++ (set ++ end_text))))) e5 in
    let e7 : AreBlocks (versions_text ++ (channels_text width height ++ (context_text mode ++ (begin_text index ++ (r ++ (set ++ end_text)))))) (blocks.Versions ∷ blocks.Channels ∷ blocks.Context ∷ blocks.FrameBegin ∷ blocks.Region areas ∷ blocks.TileSet (set_by mode setting tiles) ∷ blocks.FrameEnd ∷ []) =
    one-block versions_text (channels_text width height ++ (context_text mode ++ (begin_text index ++ (r ++ (set ++ end_text))))) blocks.Versions (blocks.Channels ∷ blocks.Context ∷ blocks.FrameBegin ∷ blocks.Region areas ∷ blocks.TileSet (set_by mode setting tiles) ∷ blocks.FrameEnd ∷ []) some-versions
    (versions-read (channels_text width height ++ (context_text mode ++ (begin_text index ++ (r ++ (set ++ end_text)))))) e6 in
    let e8 : AreBlocks (sync_text ++ (versions_text ++ (channels_text width height ++ (context_text mode ++ (begin_text index ++ (r ++ (set ++ end_text))))))) (blocks_by mode setting width height tiles) =
    one-block sync_text (versions_text ++ (channels_text width height ++ (context_text mode ++ (begin_text index ++ (r ++ (set ++ end_text)))))) blocks.Sync
    (blocks.Versions ∷ blocks.Channels ∷ blocks.Context ∷ blocks.FrameBegin ∷ blocks.Region areas ∷ blocks.TileSet (set_by mode setting tiles) ∷ blocks.FrameEnd ∷ []) some-sync
    (sync-read (versions_text ++ (channels_text width height ++ (context_text mode ++ (begin_text index ++ (r ++ (set ++ end_text))))))) e7 in
    ap refused (subst (λ l. AreBlocks l (blocks_by mode setting width height tiles)) (sym (five-joined sync_text versions_text (channels_text width height) (context_text mode) (begin_text index) (r ++ (set ++ end_text)))) e8)

-- all tiles' bytes
texts-short : (mode : Mode) (tiles : List VideoTile) → AllByRecursion (CanBeRead mode) tiles → length (flat_map (tile_text mode) tiles) ≤ length tiles * 196624
texts-short mode [] can = omega arith
texts-short mode (t ∷ tiles) can =
    omega (arith, length-append (tile_text mode t) (flat_map (tile_text mode) tiles), length-coded (head_of t) (codes_of mode t.tile) can.0.2, texts-short mode tiles can.1)

-- a tile that may be sent can be read
can-be-read : (mode : Mode) (setting : Setting) (width height : ℕ) (tiles : List VideoTile) → width < 2 ^ 16 → height < 2 ^ 16 → AllByRecursion (IsSent setting width height) tiles
    → AllByRecursion (λ t. MayBeSent t.tile) tiles → AllByRecursion (CanBeRead mode) tiles
can-be-read mode setting width height [] wide high sent may = tt
can-be-read mode setting width height (t ∷ tiles) wide high sent may =
    let plain : t.tile.setting.transform ≡ Plain = ap (λ (s : Setting). s.transform) sent.0.setting_is ∙ sent.0.plain in
    ((omega (arith, sent.0.across), omega (arith, sent.0.down), codes-short mode t.tile may.0 plain), can-be-read mode setting width height tiles wide high sent.1 may.1)

-- what is sent is read
pub sent-read : (setting : Setting) (mode : Mode) (width height : ℕ) (tiles : List VideoTile) (index : ℕ) → width < 2 ^ 16 → height < 2 ^ 16 → length tiles ≤ 256
    → AllByRecursion (IsSent setting width height) tiles → AllByRecursion (λ t. MayBeSent t.tile) tiles
    → video_blocks_of (video_data setting mode width height tiles index) ≡ Ok (blocks_by mode setting width height tiles)
sent-read setting mode width height tiles index wide high few sent may =
    let can : AllByRecursion (CanBeRead mode) tiles = can-be-read mode setting width height tiles wide high sent may in
    message-read setting mode width height tiles index wide high few sent (texts-short mode tiles can) can
