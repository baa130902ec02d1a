-- Texts that are put one part after another.
use Rattle.std.proofs.Common.{◌≡◌, ◌∙◌, ℕ, ◌+◌, ◌*◌, ◌<◌, ◌≤◌, List, [], ◌∷◌, ◌++◌, length, length-append, take, get_or, append_assoc, sym, ap, arith}
use Rattle.std.proofs.lemmas.Grind.{flat_map-append}
use Rattle.std.proofs.lemmas.List.{append-nil, take_more}
use Rattle.std.specs.List.{flat_map}
use Rattle.gfx_layout.specs.Layout.{measured}
use Rattle.gfx_layout.specs.Shape.{digits, number_alone, text, u16, u32}
use Rattle.gfx_prog_block.specs.declared.tile.TileHead.{TileHead}
use Rattle.gfx_prog_block.specs.Shapes.{tile_head}
use Rattle.gfx_quant.specs.declared.setting.Setting.{Setting}
use Rattle.gfx_rlgr.specs.declared.mode.Mode.{Mode}
use Rattle.gfx_rfx_video.specs.declared.coding.Codes.{Codes}
use Rattle.gfx_rfx_video.specs.declared.kinds.TheConstants.{TILE}
use Rattle.gfx_rfx_video.specs.declared.video_tile.VideoTile.{VideoTile}
use Rattle.gfx_rfx_video.specs.Layouts.{tile, tile_set}
use Rattle.gfx_rfx_video.specs.Message.{AreShort, begin_text, channels_text, coded_text, codes_of, head_of, quants_of, set_head, set_parts, set_text, tile_parts, tile_text}
use Rattle.gfx_rfx_video.specs.Shapes.{set_head as head_shape, video_quant}
use Rattle.gfx_rfx_video.proofs.Lengthy.{length-coded}

five-put : (old a b c d e n1 n2 n3 n4 n5 : List ℕ) → n1 ≡ old ++ a → n2 ≡ n1 ++ b → n3 ≡ n2 ++ c → n4 ≡ n3 ++ d → n5 ≡ n4 ++ e → n5 ≡ old ++ (a ++ (b ++ (c ++ (d ++ e))))
five-put old a b c d e n1 n2 n3 n4 n5 e1 e2 e3 e4 e5 = rw (e5, e4, e3, e2, e1) (simp append_assoc)

six-put : (old a b c d e f n1 n2 n3 n4 n5 n6 : List ℕ) → n1 ≡ old ++ a → n2 ≡ n1 ++ b → n3 ≡ n2 ++ c → n4 ≡ n3 ++ d → n5 ≡ n4 ++ e → n6 ≡ n5 ++ f
    → n6 ≡ old ++ (a ++ (b ++ (c ++ (d ++ (e ++ f)))))
six-put old a b c d e f n1 n2 n3 n4 n5 n6 e1 e2 e3 e4 e5 e6 = rw (e6, e5, e4, e3, e2, e1) (simp append_assoc)

four-put : (old a b c d n1 n2 n3 n4 : List ℕ) → n1 ≡ old ++ a → n2 ≡ n1 ++ b → n3 ≡ n2 ++ c → n4 ≡ n3 ++ d → n4 ≡ old ++ (a ++ (b ++ (c ++ d)))
four-put old a b c d n1 n2 n3 n4 e1 e2 e3 e4 = rw (e4, e3, e2, e1) (simp append_assoc)

-- the channel
pub channels-put : (width height : ℕ) (old n1 n2 n3 n4 : List ℕ) → n1 ≡ old ++ (digits u16 0xCCC2 ++ digits u32 12) → n2 ≡ n1 ++ (1 ∷ 0 ∷ []) → n3 ≡ n2 ++ text (number_alone u16) width
    → n4 ≡ n3 ++ text (number_alone u16) height → n4 ≡ old ++ channels_text width height
unfolding channels_text text
channels-put width height old n1 n2 n3 n4 e1 e2 e3 e4 =
    four-put old (digits u16 0xCCC2 ++ digits u32 12) (1 ∷ 0 ∷ []) (text (number_alone u16) width) (text (number_alone u16) height) n1 n2 n3 n4 e1 e2 e3 e4

-- the frame's begin
pub begin-put : (index : ℕ) (old n1 n2 n3 n4 : List ℕ) → n1 ≡ old ++ (digits u16 0xCCC4 ++ digits u32 14) → n2 ≡ n1 ++ (1 ∷ 0 ∷ []) → n3 ≡ n2 ++ text (number_alone u32) index
    → n4 ≡ n3 ++ (1 ∷ 0 ∷ []) → n4 ≡ old ++ begin_text index
unfolding begin_text text
begin-put index old n1 n2 n3 n4 e1 e2 e3 e4 =
    four-put old (digits u16 0xCCC4 ++ digits u32 14) (1 ∷ 0 ∷ []) (text (number_alone u32) index) (1 ∷ 0 ∷ []) n1 n2 n3 n4 e1 e2 e3 e4

-- a tile: its frame, its head, its lengths, its codes
pub tile-put : (head : TileHead) (y cb cr old n1 n2 n3 n4 n5 n6 : List ℕ) (size : ℕ) → size ≡ measured tile (tile_parts head (record { y = y; cb = cb; cr = cr }))
    → n1 ≡ old ++ (digits u16 TILE ++ digits u32 (6 + size)) → n2 ≡ n1 ++ text tile_head head
    → n3 ≡ n2 ++ flat_map (text (number_alone u16)) (length y ∷ length cb ∷ length cr ∷ []) → n4 ≡ n3 ++ y → n5 ≡ n4 ++ cb → n6 ≡ n5 ++ cr
    → n6 ≡ old ++ coded_text head (record { y = y; cb = cb; cr = cr })
unfolding coded_text text
tile-put head y cb cr old n1 n2 n3 n4 n5 n6 size whole e1 e2 e3 e4 e5 e6 =
    let sizes : List ℕ = flat_map (text (number_alone u16)) (length y ∷ length cb ∷ length cr ∷ []) in
    six-put old (digits u16 TILE ++ digits u32 (6 + size)) (text tile_head head) sizes y cb cr n1 n2 n3 n4 n5 n6 e1 e2 e3 e4 e5 e6
    ∙ ap (λ n. old ++ ((digits u16 TILE ++ digits u32 (6 + n)) ++ (text tile_head head ++ (sizes ++ (y ++ (cb ++ cr)))))) whole
    ∙ ap (λ t. old ++ ((digits u16 TILE ++ digits u32 (6 + measured tile (tile_parts head (record { y = y; cb = cb; cr = cr })))) ++ (text tile_head head ++ (sizes ++ (y ++ (cb ++ t)))))) (sym (append-nil cr))

-- a tile set: its frame, what isn't looked at, its head, its quants, its tiles
pub set-put : (mode : Mode) (setting : Setting) (count : ℕ) (texts old n1 n2 n3 n4 n5 : List ℕ) (size : ℕ) → size ≡ measured tile_set (set_parts mode setting count texts)
    → n1 ≡ old ++ (digits u16 0xCCC7 ++ digits u32 (6 + size)) → n2 ≡ n1 ++ (1 ∷ 0 ∷ 0xC2 ∷ 0xCA ∷ 0 ∷ 0 ∷ []) → n3 ≡ n2 ++ text head_shape (set_head mode count texts)
    → n4 ≡ n3 ++ flat_map (text video_quant) (quants_of setting) → n5 ≡ n4 ++ texts → n5 ≡ old ++ set_text mode setting count texts
unfolding set_text text
set-put mode setting count texts old n1 n2 n3 n4 n5 size whole e1 e2 e3 e4 e5 =
    let front : List ℕ = 1 ∷ 0 ∷ 0xC2 ∷ 0xCA ∷ 0 ∷ 0 ∷ [] in
    let head : List ℕ = text head_shape (set_head mode count texts) in
    let quants : List ℕ = flat_map (text video_quant) (quants_of setting) in
    five-put old (digits u16 0xCCC7 ++ digits u32 (6 + size)) front head quants texts n1 n2 n3 n4 n5 e1 e2 e3 e4 e5
    ∙ ap (λ n. old ++ ((digits u16 0xCCC7 ++ digits u32 (6 + n)) ++ (front ++ (head ++ (quants ++ texts))))) whole
    ∙ ap (λ t. old ++ ((digits u16 0xCCC7 ++ digits u32 (6 + measured tile_set (set_parts mode setting count texts))) ++ (front ++ (head ++ (quants ++ t))))) (sym (append-nil texts))

-- one more tile
pub tiles-more : (mode : Mode) (all : List VideoTile) (i : ℕ) (t : VideoTile) (codes : Codes) (head : TileHead) (now new : List ℕ) → i < length all → t ≡ get_or all i t → codes ≡ codes_of mode t.tile → head ≡ head_of t
    → AreShort codes → now ≡ flat_map (tile_text mode) (take i all) → length now ≤ i * 196624 → new ≡ now ++ coded_text head codes
    → (new ≡ flat_map (tile_text mode) (take (i + 1) all)) × (length new ≤ (i + 1) * 196624)
tiles-more mode all i t codes head now new below there coded stands short so few put =
    let one : coded_text head codes ≡ tile_text mode t = λ k. coded_text (stands k) (coded k) in
    let wide : length (coded_text head codes) ≤ 196624 = length-coded head codes short in (
      put
          ∙ (λ k. so k ++ one k)
          ∙ ap (λ x. flat_map (tile_text mode) (take i all) ++ tile_text mode x) there
          ∙ ap (λ l. flat_map (tile_text mode) (take i all) ++ l) (sym (append-nil (tile_text mode (get_or all i t))))
          ∙ sym (flat_map-append (tile_text mode) (take i all) (get_or all i t ∷ []))
          ∙ ap (flat_map (tile_text mode)) (sym (take_more all i t below)),
      omega (arith, ap length put, length-append now (coded_text head codes), wide, few),
    )
