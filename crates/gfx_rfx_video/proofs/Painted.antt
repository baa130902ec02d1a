-- A server's message, applied: each tile shows its own values.
use Rattle.std.proofs.Common.{◌≡◌, ◌∙◌, ℕ, ◌+◌, ◌-◌, ◌*◌, ◌/◌, ◌%◌, ◌^◌, ◌<◌, ◌≤◌, IsTrue, Bool, true, false, ◌&&◌, ◌||◌, List, [], ◌∷◌, ◌++◌, length, map, refl, sym, ap, subst, append_assoc, arith, Ok, Some}
use Rattle.std.proofs.lemmas.Bool.{ltb-true}
use Rattle.std.proofs.lemmas.Bool.Decides.{nat_tests}
use Rattle.std.proofs.lemmas.List.Folds.{list_any-append}
use Rattle.std.specs.List.{AllByRecursion, list_any}
use Rattle.std.specs.Option.{ok_or}
use Rattle.std.specs.Prelude.{min, nat_le, nat_lt}
use Rattle.gfx_base.specs.declared.geometry.Rect.{Rect}
use Rattle.gfx_base.specs.declared.refusal.Refusal.TheVariants.{EntropyUnknown, QuantRange}
use Rattle.gfx_base.specs.Geometry.{height_of, holds, width_of}
use Rattle.gfx_base.specs.Results.{and_then, check}
use Rattle.gfx_base.proofs.ResultLemmas.{and_then_at}
use Rattle.gfx_rlgr.specs.declared.mode.Mode.{Mode}
use Rattle.gfx_rlgr.specs.declared.mode.Mode.TheVariants.{Rlgr1, Rlgr3}
use Rattle.gfx_dwt.specs.declared.layout.Transform.TheVariants.{Plain}
use Rattle.gfx_quant.specs.declared.quant.Component.{Component}
use Rattle.gfx_quant.specs.declared.quant.Component.TheVariants.{Y, Cb, Cr}
use Rattle.gfx_quant.specs.declared.setting.Setting.{Setting}
use Rattle.gfx_quant.specs.Quant.{are_nibbles, is_base}
use Rattle.gfx_quant.specs.Setting.{IsSetting, base_of}
use Rattle.gfx_surface.specs.Picture.{Picture}
use Rattle.gfx_tile_make.specs.Levels.{MayBeSent}
use Rattle.gfx_tile_make.proofs.Settings.{is-base}
use Rattle.gfx_prog_block.specs.declared.area.Area.{Area}
use Rattle.gfx_rfx_video.specs.declared.video_tile.VideoTile.{VideoTile}
use Rattle.gfx_rfx_video.specs.Message.{IsSent, area_of, bases_by, blocks_by, direct_planes, head_of, packed, quants_of, set_by, set_properties, tile_of, video_data}
use Rattle.gfx_rfx_video.specs.Painted.{IsPlain, all_painted, tile_painted}
use Rattle.gfx_rfx_video.specs.BlockReading.{video_blocks_of}
use Rattle.gfx_rfx_video.specs.Showing.{changes, covered, has_pixel, open_areas, shown_in, tile_in}
use Rattle.gfx_rfx_video.specs.Tiles.{are_bases, base_at, bases_of, planes_by, planes_of, quant_numbers}
use Rattle.gfx_rfx_video.specs.Video.{after_blocks, after_set, after_tile, after_video, entropy_of, in_turn, painted, scene}
use Rattle.gfx_rfx_video.proofs.Direct.{pixel-direct, tile-direct}
use Rattle.gfx_rfx_video.proofs.Drawn.{drawn-same}
use Rattle.gfx_rfx_video.proofs.ReadBack.{sent-read}

-- a map over two lists in turn
map-append : {X Z : Type 0} (f : X → Z) (xs ys : List X) → map f (xs ++ ys) ≡ map f xs ++ map f ys
map-append f [] ys = refl
map-append f (x ∷ xs) ys = ap (λ l. f x ∷ l) (map-append f xs ys)

-- ---- quants

-- a nibble of a byte of two
low-of : (a b : ℕ) → a < 16 → (a + 16 * b) % 16 ≡ a
low-of a b small = omega arith

high-of : (a b : ℕ) → a < 16 → (a + 16 * b) / 16 ≡ b
high-of a b small = omega arith

both : (a b : Bool) → (a && b) ≡ true → (a ≡ true) × (b ≡ true)
both true b e = (refl, e)
both false b e = cc

-- numbers that are packed are read back
numbers-again : (values : List ℕ) → length values ≡ 10 → IsTrue (are_nibbles values) → quant_numbers (packed values) ≡ values
numbers-again [] long fit = absurd (omega arith)
numbers-again (a ∷ []) long fit = absurd (omega arith)
numbers-again (a ∷ (b ∷ [])) long fit = absurd (omega arith)
numbers-again (a ∷ (b ∷ (c ∷ []))) long fit = absurd (omega arith)
numbers-again (a ∷ (b ∷ (c ∷ (d ∷ [])))) long fit = absurd (omega arith)
numbers-again (a ∷ (b ∷ (c ∷ (d ∷ (e ∷ []))))) long fit = absurd (omega arith)
numbers-again (a ∷ (b ∷ (c ∷ (d ∷ (e ∷ (f ∷ [])))))) long fit = absurd (omega arith)
numbers-again (a ∷ (b ∷ (c ∷ (d ∷ (e ∷ (f ∷ (g ∷ []))))))) long fit = absurd (omega arith)
numbers-again (a ∷ (b ∷ (c ∷ (d ∷ (e ∷ (f ∷ (g ∷ (h ∷ [])))))))) long fit = absurd (omega arith)
numbers-again (a ∷ (b ∷ (c ∷ (d ∷ (e ∷ (f ∷ (g ∷ (h ∷ (i ∷ []))))))))) long fit = absurd (omega arith)
numbers-again (a ∷ (b ∷ (c ∷ (d ∷ (e ∷ (f ∷ (g ∷ (h ∷ (i ∷ (j ∷ (k ∷ more))))))))))) long fit = absurd (omega arith)
numbers-again (hl1 ∷ (lh1 ∷ (hh1 ∷ (hl2 ∷ (lh2 ∷ (hh2 ∷ (hl3 ∷ (lh3 ∷ (hh3 ∷ (ll3 ∷ [])))))))))) long fit =
    let f1 = both (nat_lt hl1 16) _ fit in
    let f2 = both (nat_lt lh1 16) _ f1.1 in
    let f3 = both (nat_lt hh1 16) _ f2.1 in
    let f4 = both (nat_lt hl2 16) _ f3.1 in
    let f5 = both (nat_lt lh2 16) _ f4.1 in
    let f6 = both (nat_lt hh2 16) _ f5.1 in
    let f7 = both (nat_lt hl3 16) _ f6.1 in
    let f8 = both (nat_lt lh3 16) _ f7.1 in
    let f9 = both (nat_lt hh3 16) _ f8.1 in
    let f10 = both (nat_lt ll3 16) _ f9.1 in
    λ z.
    low-of hl1 hh1 (ltb-true hl1 16 f1.0) z
    ∷ (high-of hh2 lh1 (ltb-true hh2 16 f6.0) z
    ∷ (high-of hl1 hh1 (ltb-true hl1 16 f1.0) z
    ∷ (high-of lh2 hl2 (ltb-true lh2 16 f5.0) z
    ∷ (low-of lh2 hl2 (ltb-true lh2 16 f5.0) z
    ∷ (low-of hh2 lh1 (ltb-true hh2 16 f6.0) z
    ∷ (low-of hl3 hh3 (ltb-true hl3 16 f7.0) z
    ∷ (high-of ll3 lh3 (ltb-true ll3 16 f10.0) z
    ∷ (high-of hl3 hh3 (ltb-true hl3 16 f7.0) z
    ∷ (low-of ll3 lh3 (ltb-true ll3 16 f10.0) z ∷ [])))))))))

entropy-again : (mode : Mode) → entropy_of (set_properties mode) ≡ Some mode
unfolding entropy_of
entropy-again Rlgr1 = refl
entropy-again Rlgr3 = refl

module _ (setting : Setting) (long : (component : Component) → length (base_of component setting) ≡ 10) where
  y-again : quant_numbers (packed setting.y.values) ≡ setting.y.values
  y-again = numbers-again setting.y.values (long Y) setting.y.nibbles

  cb-again : quant_numbers (packed setting.cb.values) ≡ setting.cb.values
  cb-again = numbers-again setting.cb.values (long Cb) setting.cb.nibbles

  cr-again : quant_numbers (packed setting.cr.values) ≡ setting.cr.values
  cr-again = numbers-again setting.cr.values (long Cr) setting.cr.nibbles

  -- the quants of a tile are those of the setting
  bases-again : (t : VideoTile) → bases_of (quants_of setting) (head_of t) ≡ Ok (bases_by setting)
  unfolding bases_of base_at and_then
  bases-again t = λ z. Ok (record { y = y-again z; cb = cb-again z; cr = cr-again z })

  all-three : (a b c : Bool) → a ≡ true → b ≡ true → c ≡ true → (a && (b && (c && true))) ≡ true
  all-three true true true e f g = refl
  all-three false b c e f g = cc
  all-three true false c e f g = cc
  all-three true true false e f g = cc

  are-again : ((component : Component) → is_base (base_of component setting) ≡ true) → are_bases (quants_of setting) ≡ true
  are-again fine =
      all-three (is_base (quant_numbers (packed setting.y.values))) (is_base (quant_numbers (packed setting.cb.values))) (is_base (quant_numbers (packed setting.cr.values)))
      (ap is_base y-again ∙ fine Y) (ap is_base cb-again ∙ fine Cb) (ap is_base cr-again ∙ fine Cr)

  -- ---- one tile

  -- the areas have all of a tile that lies in the rectangle
  abbrev HasAll : Rect → List Area → VideoTile → Type 0
  HasAll rect areas t = (x y : ℕ) → holds (tile_in rect (head_of t)) x y ≡ true → covered areas (x - rect.left) (y - rect.top) ≡ true

  chosen : (a b : Bool) → (a ≡ true → b ≡ true) → (a && b) ≡ a
  chosen true b f = f refl
  chosen false b f = refl

  tile-applied : (mode : Mode) (rect : Rect) (areas : List Area) (t : VideoTile) (picture : Picture) (w h : ℕ) → IsSent setting w h t → IsPlain t → HasAll rect areas t
      → after_tile rect mode (quants_of setting) areas (tile_of mode t) picture ≡ Ok (tile_painted rect t picture)
  unfolding after_tile planes_of shown_in tile_painted
  tile-applied mode rect areas t picture w h sent plain all =
      let flat : t.tile.setting.transform ≡ Plain = ap (λ (s : Setting). s.transform) sent.setting_is ∙ sent.plain in
      and_then_at (planes_of mode (quants_of setting) (tile_of mode t)) (direct_planes t.tile) (λ planes. Ok (shown_in rect areas (head_of t) planes picture))
      (and_then_at (bases_of (quants_of setting) (head_of t)) (bases_by setting) (λ base. planes_by mode base (tile_of mode t)) (bases-again t)
      ∙ ap (λ (s : Setting). planes_by mode (bases_by s) (tile_of mode t)) (sym sent.setting_is)
      ∙ tile-direct mode t.tile (head_of t) plain.may flat plain.kept)
      ∙ ap (λ p. Ok p)
      (drawn-same picture (changes rect areas (head_of t)) (holds (tile_in rect (head_of t))) _ _ (λ x y column row. chosen (holds (tile_in rect (head_of t)) x y) (covered areas (x - rect.left) (y - rect.top)) (all x y))
      (λ x y hit. pixel-direct t.tile flat (y - (tile_in rect (head_of t)).top) (x - (tile_in rect (head_of t)).left)))

  tiles-applied : (mode : Mode) (rect : Rect) (areas : List Area) (tiles : List VideoTile) (picture : Picture) (w h : ℕ) → AllByRecursion (IsSent setting w h) tiles → AllByRecursion IsPlain tiles
      → AllByRecursion (HasAll rect areas) tiles → in_turn (after_tile rect mode (quants_of setting) areas) (map (tile_of mode) tiles) picture ≡ Ok (all_painted rect tiles picture)
  unfolding in_turn all_painted
  tiles-applied mode rect areas [] picture w h sent plain all = refl
  tiles-applied mode rect areas (t ∷ tiles) picture w h sent plain all =
      and_then_at (after_tile rect mode (quants_of setting) areas (tile_of mode t) picture) (tile_painted rect t picture) (in_turn (after_tile rect mode (quants_of setting) areas) (map (tile_of mode) tiles))
      (tile-applied mode rect areas t picture w h sent.0 plain.0 all.0)
      ∙ tiles-applied mode rect areas tiles (tile_painted rect t picture) w h sent.1 plain.1 all.1

-- ---- the region

own-side : (left index right x : ℕ) → (nat_le (left + 64 * index) x && nat_lt x (min (left + 64 * index + 64) right)) ≡ true
    → (nat_le (64 * index) (x - left) && nat_lt (x - left) (64 * index + min 64 (right - left - 64 * index))) ≡ true
own-side left index right x hit = grind (arith, nat_tests)

paired : (a b c d : Bool) → (a && b && c && d) ≡ ((a && b) && (c && d))
paired false b c d = refl
paired true false c d = refl
paired true true c d = refl

-- the rectangle of a tile has all of it
own-area : (rect : Rect) (t : VideoTile) (x y : ℕ) → holds (tile_in rect (head_of t)) x y ≡ true → has_pixel (x - rect.left) (y - rect.top) (area_of (width_of rect) (height_of rect) t) ≡ true
own-area rect t x y hit =
    let there = tile_in rect (head_of t) in
    let parts = both (nat_le there.left x && nat_lt x there.right) (nat_le there.top y && nat_lt y there.bottom) (sym (paired (nat_le there.left x) (nat_lt x there.right) (nat_le there.top y) (nat_lt y there.bottom)) ∙ hit) in
    let own = area_of (width_of rect) (height_of rect) t in
    paired (nat_le own.x (x - rect.left)) (nat_lt (x - rect.left) (own.x + own.width)) (nat_le own.y (y - rect.top)) (nat_lt (y - rect.top) (own.y + own.height))
    ∙ (λ i. own-side rect.left t.x rect.right x parts.0 i && own-side rect.top t.y rect.bottom y parts.1 i)

or-right : (a b : Bool) → b ≡ true → (a || b) ≡ true
or-right true b e = refl
or-right false b e = e

or-left : (a b : Bool) → a ≡ true → (a || b) ≡ true
or-left true b e = refl
or-left false b e = cc

all-covered : (rect : Rect) (front tiles : List VideoTile)
    → AllByRecursion (λ t. (x y : ℕ) → holds (tile_in rect (head_of t)) x y ≡ true → covered (map (area_of (width_of rect) (height_of rect)) (front ++ tiles)) (x - rect.left) (y - rect.top) ≡ true) tiles
all-covered rect front [] = tt
all-covered rect front (t ∷ tiles) =
    let f = area_of (width_of rect) (height_of rect) in (
      λ x y hit.
          ap (λ l. list_any (has_pixel (x - rect.left) (y - rect.top)) l) (map-append f front (t ∷ tiles))
          ∙ list_any-append (has_pixel (x - rect.left) (y - rect.top)) (map f front) (f t ∷ map f tiles)
          ∙ or-right (list_any (has_pixel (x - rect.left) (y - rect.top)) (map f front)) _ (or-left (has_pixel (x - rect.left) (y - rect.top) (f t)) _ (own-area rect t x y hit)),
      subst (λ l. AllByRecursion (λ t. (x y : ℕ) → holds (tile_in rect (head_of t)) x y ≡ true → covered (map f l) (x - rect.left) (y - rect.top) ≡ true) tiles) (append_assoc front (t ∷ []) tiles)
          (all-covered rect (front ++ t ∷ []) tiles),
    )

-- ---- the message

open-covered : (rect : Rect) (tiles : List VideoTile)
    → AllByRecursion (λ t. (x y : ℕ) → holds (tile_in rect (head_of t)) x y ≡ true → covered (open_areas rect (map (area_of (width_of rect) (height_of rect)) tiles)) (x - rect.left) (y - rect.top) ≡ true) tiles
open-covered rect [] = tt
open-covered rect (t ∷ tiles) = all-covered rect [] (t ∷ tiles)

all-may : (tiles : List VideoTile) → AllByRecursion IsPlain tiles → AllByRecursion (λ t. MayBeSent t.tile) tiles
all-may [] plain = tt
all-may (t ∷ tiles) plain = (plain.0.may, all-may tiles plain.1)

pub sent-painted : (setting : Setting) (mode : Mode) (rect : Rect) (tiles : List VideoTile) (index : ℕ) (picture : Picture) → width_of rect < 2 ^ 16 → height_of rect < 2 ^ 16 → length tiles ≤ 256
    → IsSetting setting
    → AllByRecursion (IsSent setting (width_of rect) (height_of rect)) tiles → AllByRecursion IsPlain tiles
    → after_video rect (video_data setting mode (width_of rect) (height_of rect) tiles index) picture ≡ Ok (all_painted rect tiles picture)
unfolding after_video after_blocks after_set in_turn painted and_then
sent-painted setting mode rect tiles index picture wide high few is sent plain =
    let areas : List Area = map (area_of (width_of rect) (height_of rect)) tiles in
    let long : (component : Component) → length (base_of component setting) ≡ 10 = is.bases in
    let fine : (component : Component) → is_base (base_of component setting) ≡ true = λ component. is-base setting component is.accepted in
    let set : after_set rect (open_areas rect areas) (set_by mode setting tiles) picture ≡ Ok (all_painted rect tiles picture) =
    and_then_at (ok_or (entropy_of (set_properties mode)) EntropyUnknown) mode _ (ap (λ o. ok_or o EntropyUnknown) (entropy-again mode))
    ∙ and_then_at (check QuantRange (are_bases (quants_of setting))) tt _ (ap (check QuantRange) (are-again setting long fine))
    ∙ tiles-applied setting long mode rect (open_areas rect areas) tiles picture (width_of rect) (height_of rect) sent plain (open-covered rect tiles) in
    and_then_at (video_blocks_of (video_data setting mode (width_of rect) (height_of rect) tiles index)) (blocks_by mode setting (width_of rect) (height_of rect) tiles) _
    (sent-read setting mode (width_of rect) (height_of rect) tiles index wide high few sent (all-may tiles plain))
    ∙ ap (λ r. and_then (and_then (and_then r (λ p. Ok (scene areas p))) (λ s. Ok s)) (λ last. Ok last.picture)) set
