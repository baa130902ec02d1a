-- Texts that are put one part after another, and how long they are.
use Rattle.std.proofs.Common.{◌≡◌, ℕ, ◌+◌, ◌*◌, List, [], ◌∷◌, ◌++◌, length, take, drop, refl, sym, ap, ◌∙◌, append_assoc, arith}
use Rattle.std.proofs.lemmas.List.{append-nil, take-append-drop, take_at}
use Rattle.std.specs.List.{flat_map, sum_by}
use Rattle.gfx_layout.specs.Shape.{text, number_alone, u16}
use Rattle.gfx_prog_block.specs.declared.region.Region.{Region}
use Rattle.gfx_prog_block.specs.declared.tile.FirstPass.{FirstPass}
use Rattle.gfx_prog_block.specs.declared.tile.TileHead.{TileHead}
use Rattle.gfx_prog_block.specs.declared.tile.Tile.TheVariants as tiles
use Rattle.gfx_prog_block.specs.declared.tile.UpgradePass.{UpgradePass}
use Rattle.gfx_prog_block.specs.Spelling.{tile_measure, tile_size, upgrade_text, region_measure}
use Rattle.gfx_prog_block.proofs.TileLaws.{length-tiles}

-- ---- how long bodies are

pub simple-measure : (head : TileHead) (flags : ℕ) (pass : FirstPass) → tile_measure (tiles.Simple head flags pass) ≡ 16 + (length pass.y + length pass.cb + length pass.cr + length pass.tail)
unfolding tile_measure
simple-measure head flags pass = omega arith

pub first-measure : (head : TileHead) (flags quality : ℕ) (pass : FirstPass) → tile_measure (tiles.First head flags quality pass) ≡ 17 + (length pass.y + length pass.cb + length pass.cr + length pass.tail)
unfolding tile_measure
first-measure head flags quality pass = omega arith

pub upgrade-measure : (head : TileHead) (quality : ℕ) (pass : UpgradePass)
    → tile_measure (tiles.Upgrade head quality pass) ≡ 20 + (length pass.y_srl + length pass.y_raw + length pass.cb_srl + length pass.cb_raw + length pass.cr_srl + length pass.cr_raw)
unfolding tile_measure
upgrade-measure head quality pass = omega arith

pub region-measure : (r : Region) → region_measure r ≡ 12 + length r.rects * 8 + length r.quants * 5 + length r.levels * 16 + sum_by tile_size r.tiles
unfolding region_measure
region-measure r = omega (arith, length-tiles r.tiles)

pub ruleset measures = (simple-measure, first-measure, upgrade-measure, region-measure)

-- ---- parts put one after another

seven-put : (old a b c d e f g n1 n2 n3 n4 n5 n6 n7 : List ℕ) → n1 ≡ old ++ a → n2 ≡ n1 ++ b → n3 ≡ n2 ++ c → n4 ≡ n3 ++ d → n5 ≡ n4 ++ e → n6 ≡ n5 ++ f → n7 ≡ n6 ++ g
    → n7 ≡ old ++ (a ++ (b ++ (c ++ (d ++ (e ++ (f ++ g))))))
seven-put old a b c d e f g n1 n2 n3 n4 n5 n6 n7 e1 e2 e3 e4 e5 e6 e7 = rw (e7, e6, e5, e4, e3, e2, e1) (simp append_assoc)

-- lengths, and then the data of an upgrade
pub upgrade-put : (a b c d e f old sized n1 n2 n3 n4 n5 n6 : List ℕ)
    → sized ≡ old ++ flat_map (text (number_alone u16)) (length a ∷ length b ∷ length c ∷ length d ∷ length e ∷ length f ∷ [])
    → n1 ≡ sized ++ a → n2 ≡ n1 ++ b → n3 ≡ n2 ++ c → n4 ≡ n3 ++ d → n5 ≡ n4 ++ e → n6 ≡ n5 ++ f
    → n6 ≡ old ++ upgrade_text (record { y_srl = a; y_raw = b; cb_srl = c; cb_raw = d; cr_srl = e; cr_raw = f })
unfolding upgrade_text text
upgrade-put a b c d e f old sized n1 n2 n3 n4 n5 n6 h0 h1 h2 h3 h4 h5 h6 =
    let sizes = flat_map (text (number_alone u16)) (length a ∷ length b ∷ length c ∷ length d ∷ length e ∷ length f ∷ []) in
    seven-put old sizes a b c d e f sized n1 n2 n3 n4 n5 n6 h0 h1 h2 h3 h4 h5 h6
    ∙ ap (λ t. old ++ (sizes ++ (a ++ (b ++ (c ++ (d ++ (e ++ t))))))) (sym (append-nil f))

-- what kept a longer text kept a shorter one
pub kept-behind : (old text mid new : List ℕ) → mid ≡ old ++ text → take (length mid) new ≡ mid → take (length old) new ≡ old
kept-behind old text mid new e kept =
    let more = drop (length mid) new in
    let whole : new ≡ old ++ (text ++ more) = sym (take-append-drop (length mid) new) ∙ ap (λ t. t ++ more) (kept ∙ e) ∙ append_assoc old text more in
    ap (λ t. take (length old) t) whole ∙ take_at old (text ++ more) (length old) refl
