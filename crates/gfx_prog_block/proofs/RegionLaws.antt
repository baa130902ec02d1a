-- Contexts and regions: what is spelled is read, and what is read is spelled so.
use Rattle.std.proofs.Common.{◌≡◌, ℕ, ◌<◌, ◌^◌, eqb, List, [], ◌∷◌, ◌++◌, length, Ok, refl, sym, ap, subst, ◌∙◌, arith}
use Rattle.std.proofs.lemmas.Bool.{eqb-true}
use Rattle.std.proofs.lemmas.List.{append-nil}
use Rattle.std.specs.List.{flat_map, AllByRecursion, sum_by}
use Rattle.gfx_base.specs.Field.{IsBytes}
use Rattle.gfx_base.specs.Results.{and_then, check}
use Rattle.gfx_base.specs.declared.refusal.Refusal.TheVariants.{BlockUnknown}
use Rattle.gfx_base.proofs.ResultLemmas.{and_then_ok, check_ok}
use Rattle.gfx_layout.specs.declared.stop.Stop.TheVariants.{Rule}
use Rattle.gfx_layout.specs.Shape.{PartFits, text}
use Rattle.gfx_layout.specs.Layout.{Parts, made, Fit, spelled}
use Rattle.gfx_layout.specs.Reading.{read_whole}
use Rattle.gfx_layout.proofs.FoundLaws.{read_whole-spelled, read_whole-found}
use Rattle.gfx_prog_block.specs.declared.block.Block.{Block}
use Rattle.gfx_prog_block.specs.declared.block.Block.TheVariants as blocks
use Rattle.gfx_prog_block.specs.declared.quants.PackedQuant.{PackedQuant}
use Rattle.gfx_prog_block.specs.declared.quants.RegionLevel.{RegionLevel}
use Rattle.gfx_prog_block.specs.declared.region.Region.{Region}
use Rattle.gfx_prog_block.specs.declared.region.RegionBody.{RegionBody}
use Rattle.gfx_prog_block.specs.declared.region.RegionHead.{RegionHead}
use Rattle.gfx_prog_block.specs.declared.region.TheConstants.{TILE_SIZE}
use Rattle.gfx_prog_block.specs.declared.tile.Tile.{Tile}
use Rattle.gfx_prog_block.specs.Layouts.{context, region}
use Rattle.gfx_prog_block.specs.Reading.{tiles_of, region_of, context_of}
use Rattle.gfx_prog_block.specs.Shapes.{area, packed_quant, region_level, region_head}
use Rattle.gfx_prog_block.specs.Fitting.{IsSpellableTile, IsSpellableRegion, IsTileHead}
use Rattle.gfx_prog_block.specs.Spelling.{tile_size, tile_text, head_of, region_parts, region_body, region_measure}
use Rattle.gfx_prog_block.proofs.TileLaws.{bytes_before, bytes_behind, AreTiles, tiles_of-text, tiles_of-found, length-tiles}

-- ---- contexts

pub context_of-text : (id flags : ℕ) → context_of (spelled context (id, (TILE_SIZE, (flags, tt)))) ≡ Ok (blocks.Context id flags)
unfolding context_of and_then
context_of-text id flags =
    let fit : Fit context (id, (TILE_SIZE, (flags, tt))) = ((tt, tt), ((omega arith, tt), ((tt, tt), tt))) in
    rw (read_whole-spelled context (id, (TILE_SIZE, (flags, tt))) fit) refl

-- this body is a context
pub record IsContext (body : List ℕ) (block : Block) : Type 0 where
  pub id : ℕ
  pub flags : ℕ
  pub is : block ≡ blocks.Context id flags
  pub spelled_so : body ≡ spelled context (id, (TILE_SIZE, (flags, tt)))

pub context_of-found : (body : List ℕ) (block : Block) → IsBytes body → context_of body ≡ Ok block → IsContext body block
unfolding context_of
context_of-found body block all e =
    let parts = and_then_ok (read_whole context body) _ block e in
    let found = read_whole-found context body parts.0 all parts.1 in
    let right = and_then_ok (check (Rule BlockUnknown) (eqb parts.0.tile_size TILE_SIZE)) _ block parts.2 in
    let (id, (size, (flags, _))) = found.parts in
    let sized : size ≡ TILE_SIZE = ap (λ p. p.tile_size) found.made_is ∙ eqb-true _ _ (check_ok (Rule BlockUnknown) _ right.1) in
    let last = right.2 in
    record {
      id = id;
      flags = flags;
      is = let given : blocks.Context parts.0.id parts.0.flags ≡ block = cc in sym (ap (λ p. blocks.Context p.id p.flags) found.made_is ∙ given);
      spelled_so = found.splits ∙ append-nil (spelled context found.parts) ∙ ap (λ n. spelled context (id, (n, (flags, tt)))) sized;
    }

-- ---- regions

-- what always holds holds of all
always : {T : Type 0} (P : T → Type 0) → ((x : T) → P x) → (all : List T) → AllByRecursion P all
always P so [] = tt
always P so (x ∷ all) = (so x, always P so all)

quants_fit : (all : List PackedQuant) → AllByRecursion (PartFits packed_quant) all
quants_fit all = always (PartFits packed_quant) (λ q. (tt, (tt, (tt, (tt, (tt, tt)))))) all

levels_fit : (all : List RegionLevel) → AllByRecursion (PartFits region_level) all
levels_fit all = always (PartFits region_level) (λ l. (tt, (tt, (tt, (tt, (tt, (tt, (tt, (tt, (tt, (tt, (tt, (tt, (tt, (tt, (tt, (tt, tt))))))))))))))))) all

-- the whole is longer than its tiles
pub tiles-short : (r : Region) → IsSpellableRegion r → sum_by tile_size r.tiles < 2 ^ 32
unfolding region_measure
tiles-short r fits = omega (arith, fits.short, length-tiles r.tiles)

region-fit : (r : Region) → IsSpellableRegion r → AllByRecursion (PartFits area) r.rects → Fit region (region_parts r)
region-fit r fits areas =
    let head : PartFits region_head (head_of r) = (tt, (fits.rects, (tt, (tt, (tt, (fits.tiles, (tiles-short r fits, tt))))))) in
    (head, (refl, (areas, (refl, (quants_fit r.quants, (refl, (levels_fit r.levels, (length-tiles r.tiles, tt))))))))

pub region_of-text : (r : Region) → IsSpellableRegion r → AllByRecursion (PartFits area) r.rects → AllByRecursion IsTileHead r.tiles → region_of (region_body r) ≡ Ok r
unfolding region_of region_body and_then
region_of-text r fits areas placed =
    rw (read_whole-spelled region (region_parts r) (region-fit r fits areas), tiles_of-text r.tiles placed fits.each) refl

-- this body is this region
pub record IsRegion (body : List ℕ) (r : Region) : Type 0 where
  pub rects : length r.rects < 2 ^ 16
  pub quants : length r.quants < 2 ^ 8
  pub levels : length r.levels < 2 ^ 8
  pub tiles : length r.tiles < 2 ^ 16
  pub each : AllByRecursion IsSpellableTile r.tiles
  pub areas : AllByRecursion (PartFits area) r.rects
  pub placed : AllByRecursion IsTileHead r.tiles
  pub spelled_so : body ≡ region_body r

-- counts of one byte are bytes
byte_counts : (head : RegionHead) → IsBytes (text region_head head) → (head.quants < 2 ^ 8) × (head.levels < 2 ^ 8)
unfolding text
byte_counts head all = (omega (arith, all 3), omega (arith, all 4))

-- a region by its parts and its tiles
abbrev region_with : RegionBody → List Tile → Region
region_with parts ts = record { flags = parts.head.flags; rects = parts.rects; quants = parts.quants; levels = parts.levels; tiles = ts }

region_of_parts : (p : Parts region) → Fit region p → IsBytes (spelled region p) → (ts : List Tile)
    → (made region p).head.tile_size ≡ TILE_SIZE → tiles_of (made region p).head.tiles (made region p).tiles ≡ Ok ts → IsRegion (spelled region p) (region_with (made region p) ts)
unfolding region_body
region_of_parts p fit all ts sized reads =
    let (head, (rects, (quants, (levels, (bytes, _))))) = p in
    let (counts, (erects, (areas, (equants, (_, (elevels, (_, (ebytes, _)))))))) = fit in
    let r4 = bytes ++ [] in
    let r3 = flat_map (text region_level) levels ++ r4 in
    let r2 = flat_map (text packed_quant) quants ++ r3 in
    let r1 = flat_map (text area) rects ++ r2 in
    let a1 : IsBytes r1 = bytes_behind (text region_head head) r1 all in
    let a2 : IsBytes r2 = bytes_behind (flat_map (text area) rects) r2 a1 in
    let a3 : IsBytes r3 = bytes_behind (flat_map (text packed_quant) quants) r3 a2 in
    let a4 : IsBytes r4 = bytes_behind (flat_map (text region_level) levels) r4 a3 in
    let few = byte_counts head (bytes_before (text region_head head) r1 all) in
    let t : AreTiles head.tiles bytes ts [] = tiles_of-found head.tiles bytes ts (bytes_before bytes [] a4) reads in
    let texts : bytes ≡ flat_map tile_text ts = t.splits ∙ append-nil (flat_map tile_text ts) in
    let total : head.tile_bytes ≡ sum_by tile_size ts = sym ebytes ∙ ap length texts ∙ length-tiles ts in
    record {
      rects = subst (λ n. n < 2 ^ 16) (sym erects) counts.1.0;
      quants = subst (λ n. n < 2 ^ 8) (sym equants) few.0;
      levels = subst (λ n. n < 2 ^ 8) (sym elevels) few.1;
      tiles = subst (λ n. n < 2 ^ 16) (sym t.counted) counts.1.1.1.1.1.0;
      each = t.fit;
      areas = areas;
      placed = t.placed;
      spelled_so = λ i. spelled region (
        record {
          tile_size = sized i;
          rects = sym erects i;
          quants = sym equants i;
          levels = sym elevels i;
          flags = head.flags;
          tiles = sym t.counted i;
          tile_bytes = total i;
        },
        (rects, (quants, (levels, (texts i, tt)))),
      );
    }

pub region_of-found : (body : List ℕ) (r : Region) → IsBytes body → region_of body ≡ Ok r → IsRegion body r
unfolding region_of
region_of-found body r all e =
    let parts = and_then_ok (read_whole region body) _ r e in
    let found = read_whole-found region body parts.0 all parts.1 in
    let right = and_then_ok (check (Rule BlockUnknown) (eqb parts.0.head.tile_size TILE_SIZE)) _ r parts.2 in
    let sized : parts.0.head.tile_size ≡ TILE_SIZE = eqb-true _ _ (check_ok (Rule BlockUnknown) _ right.1) in
    let ts = and_then_ok (tiles_of parts.0.head.tiles parts.0.tiles) _ r right.2 in
    let last = ts.2 in
    let same : region_with parts.0 ts.0 ≡ r = cc in
    let there : body ≡ spelled region found.parts = found.splits ∙ append-nil (spelled region found.parts) in
    let inside : IsBytes (spelled region found.parts) = subst IsBytes there all in
    let is = subst (λ q. q.head.tile_size ≡ TILE_SIZE → tiles_of q.head.tiles q.tiles ≡ Ok ts.0 → IsRegion (spelled region found.parts) (region_with q ts.0)) found.made_is
    (region_of_parts found.parts found.fit inside ts.0) in
    subst (λ x. IsRegion body x) same (subst (λ b. IsRegion b (region_with parts.0 ts.0)) (sym there) (is sized ts.1))
