-- Tiles: what is spelled is read, and what is read is spelled so.
use Rattle.std.proofs.Common.{◌≡◌, ℕ, zero, suc, ◌+◌, ◌<◌, ◌^◌, false, eqb, List, [], ◌∷◌, ◌++◌, length, Ok, refl, sym, ap, subst, ◌∙◌, append_assoc, length-append, arith}
use Rattle.std.proofs.lemmas.Bool.{eqb-true, ne_eqb}
use Rattle.std.proofs.lemmas.List.{append-nil, take_at, nil_from_length}
use Rattle.std.proofs.lemmas.List.Sums.{sum_by-cons}
use Rattle.std.specs.List.{flat_map, AllByRecursion, sum_by}
use Rattle.std.specs.Option.{ok_or}
use Rattle.std.specs.Prelude.{not}
use Rattle.gfx_base.specs.Field.{IsBytes}
use Rattle.gfx_base.specs.Results.{and_then, check}
use Rattle.gfx_base.specs.declared.refusal.Refusal.TheVariants.{BlockUnknown, TileCount}
use Rattle.gfx_base.proofs.FieldLemmas.{IsBytes-take}
use Rattle.gfx_base.proofs.ResultLemmas.{and_then_ok, check_ok}
use Rattle.gfx_layout.specs.declared.stop.Stop.TheVariants.{Rule}
use Rattle.gfx_layout.specs.Shape.{digits, u16, u32}
use Rattle.gfx_layout.specs.Layout.{Parts, made, Fit, spelled}
use Rattle.gfx_layout.specs.Reading.{read, read_whole, take_each}
use Rattle.gfx_layout.proofs.FoundLaws.{read_whole-spelled, read_whole-found, length-spelled}
use Rattle.gfx_prog_block.specs.declared.kinds.TileType.{TileType}
use Rattle.gfx_prog_block.specs.declared.kinds.TileType.TheVariants as types
use Rattle.gfx_prog_block.specs.declared.tile.Tile.{Tile}
use Rattle.gfx_prog_block.specs.declared.tile.Tile.TheVariants as tiles
use Rattle.gfx_prog_block.specs.Kinds.{tile_number, tile_type_of}
use Rattle.gfx_prog_block.specs.Layouts.{frame, simple_tile, first_tile, upgrade_tile, tile_layout}
use Rattle.gfx_prog_block.specs.Reading.{tile_at, due_tile, tiles_of}
use Rattle.gfx_prog_block.specs.Fitting.{IsSpellableTile, IsTileHead}
use Rattle.gfx_prog_block.specs.Spelling.{framed, tile_type, tile_parts, tile_body, tile_measure, tile_text, tile_size}
use Rattle.gfx_prog_block.proofs.Frames.{read-framed, length-framed, IsFramed, read-is_framed, tile_type_of-again, tile_number-found, tile_number-fits}

-- ---- bytes in bytes

pub bytes_behind : (front more : List ℕ) → IsBytes (front ++ more) → IsBytes more
bytes_behind [] more all = all
bytes_behind (x ∷ front) more all = bytes_behind front more (λ i. all (suc i))

pub bytes_before : (front more : List ℕ) → IsBytes (front ++ more) → IsBytes front
bytes_before front more all = subst IsBytes (take_at front more (length front) refl) (IsBytes-take (length front) (front ++ more) all)

-- the body of a frame
pub bytes_framed : (kind size : ℕ) (body more : List ℕ) → IsBytes (framed kind size body ++ more) → IsBytes body
bytes_framed kind size body more all =
    bytes_behind (digits u32 (6 + size)) body (bytes_behind (digits u16 kind) (digits u32 (6 + size) ++ body) (bytes_before (framed kind size body) more all))

-- ---- one tile

-- the parts of a tile say that tile
tile-made : (tile : Tile) → made (tile_layout (tile_type tile)) (tile_parts tile) ≡ tile
tile-made (tiles.Simple head flags pass) = refl
tile-made (tiles.First head flags quality pass) = refl
tile-made (tiles.Upgrade head quality pass) = refl

-- and fit where it does
tile-fit : (tile : Tile) → IsTileHead tile → IsSpellableTile tile → Fit (tile_layout (tile_type tile)) (tile_parts tile)
tile-fit (tiles.Simple head flags pass) placed fits =
    (placed, ((tt, tt), ((fits.0, tt), ((fits.1, tt), ((fits.2, tt), ((fits.3, tt), (refl, (refl, (refl, (refl, tt))))))))))
tile-fit (tiles.First head flags quality pass) placed fits =
    (placed, ((tt, tt), ((tt, tt), ((fits.0, tt), ((fits.1, tt), ((fits.2, tt), ((fits.3, tt), (refl, (refl, (refl, (refl, tt)))))))))))
tile-fit (tiles.Upgrade head quality pass) placed fits = (
  placed,
  (
    (tt, tt),
    (
      (fits.0, tt),
      (
        (fits.1, tt),
        (
          (fits.2, tt),
          (
            (fits.3, tt),
            (
              (fits.4, tt),
              (
                (fits.5, tt),
                (refl, (refl, (refl, (refl, (refl, (refl, tt)))))),
              ),
            ),
          ),
        ),
      ),
    ),
  ),
)

-- no tile is too long for its frame
pub tile-short : (tile : Tile) → IsSpellableTile tile → tile_size tile < 2 ^ 32
unfolding tile_measure
tile-short (tiles.Simple head flags pass) fits = omega (arith, fits.0, fits.1, fits.2, fits.3)
tile-short (tiles.First head flags quality pass) fits = omega (arith, fits.0, fits.1, fits.2, fits.3)
tile-short (tiles.Upgrade head quality pass) fits = omega (arith, fits.0, fits.1, fits.2, fits.3, fits.4, fits.5)

length-body : (tile : Tile) → length (tile_body tile) ≡ tile_measure tile
unfolding tile_measure tile_body
length-body tile = length-spelled (tile_layout (tile_type tile)) (tile_parts tile)

pub length-tile_text : (tile : Tile) → length (tile_text tile) ≡ tile_size tile
unfolding tile_text
length-tile_text tile = length-framed (tile_number (tile_type tile)) (tile_measure tile) (tile_body tile) (length-body tile)

-- what is spelled is read
pub tile_at-text : (tile : Tile) (more : List ℕ) → IsTileHead tile → IsSpellableTile tile → tile_at (tile_text tile ++ more) ≡ Ok (tile, more)
unfolding tile_at tile_text tile_body and_then
tile_at-text tile more placed fits =
    let kind = tile_type tile in
    let layout = tile_layout kind in
    let body = tile_body tile in
    let reads : read_whole layout body ≡ Ok tile = read_whole-spelled layout (tile_parts tile) (tile-fit tile placed fits) ∙ ap (λ t. Ok t) (tile-made tile) in
    rw (read-framed (tile_number kind) (tile_measure tile) body more (tile_number-fits kind) (tile-short tile fits) (length-body tile), tile_type_of-again kind, reads) refl

-- these bytes are the body of this tile
record IsTileBody (kind : TileType) (body : List ℕ) (tile : Tile) : Type 0 where
  same : tile_type tile ≡ kind
  placed : IsTileHead tile
  fits : IsSpellableTile tile
  spelled_so : body ≡ tile_body tile

-- a length that is read is that of its bytes
narrow : (some : List ℕ) (n : ℕ) → length some ≡ n → n < 2 ^ 16 → length some < 2 ^ 16
narrow some n e lt = omega arith

found_tile : (kind : TileType) (p : Parts (tile_layout kind)) → Fit (tile_layout kind) p → IsTileBody kind (spelled (tile_layout kind) p) (made (tile_layout kind) p)
unfolding tile_body
found_tile types.Simple p fit =
    let (head, (flags, (ny, (nb, (nr, (nt, (y, (b, (r, (t, _)))))))))) = p in
    let (placed, (_, ((fy, _), ((fb, _), ((fr, _), ((ft, _), (ey, (eb, (er, (et, _)))))))))) = fit in
    record {
      same = refl;
      placed = placed;
      fits = (narrow y ny ey fy, narrow b nb eb fb, narrow r nr er fr, narrow t nt et ft);
      spelled_so = λ i. spelled simple_tile (head, (flags, (sym ey i, (sym eb i, (sym er i, (sym et i, (y, (b, (r, (t, tt))))))))));
    }
found_tile types.First p fit =
    let (head, (flags, (quality, (ny, (nb, (nr, (nt, (y, (b, (r, (t, _))))))))))) = p in
    let (placed, (_, (_, ((fy, _), ((fb, _), ((fr, _), ((ft, _), (ey, (eb, (er, (et, _))))))))))) = fit in
    record {
      same = refl;
      placed = placed;
      fits = (narrow y ny ey fy, narrow b nb eb fb, narrow r nr er fr, narrow t nt et ft);
      spelled_so = λ i. spelled first_tile (head, (flags, (quality, (sym ey i, (sym eb i, (sym er i, (sym et i, (y, (b, (r, (t, tt)))))))))));
    }
found_tile types.Upgrade p fit =
    let (head, (quality, (n1, (n2, (n3, (n4, (n5, (n6, (d1, (d2, (d3, (d4, (d5, (d6, _)))))))))))))) = p in
    let (placed, (_, ((f1, _), ((f2, _), ((f3, _), ((f4, _), ((f5, _), ((f6, _), (e1, (e2, (e3, (e4, (e5, (e6, _)))))))))))))) = fit in
    record {
      same = refl;
      placed = placed;
      fits = (narrow d1 n1 e1 f1, narrow d2 n2 e2 f2, narrow d3 n3 e3 f3, narrow d4 n4 e4 f4, narrow d5 n5 e5 f5, narrow d6 n6 e6 f6);
      spelled_so = λ i. spelled upgrade_tile (head, (quality, (sym e1 i, (sym e2 i, (sym e3 i, (sym e4 i, (sym e5 i, (sym e6 i, (d1, (d2, (d3, (d4, (d5, (d6, tt))))))))))))));
    }

read_tile_body : (kind : TileType) (body : List ℕ) (tile : Tile) → IsBytes body → read_whole (tile_layout kind) body ≡ Ok tile → IsTileBody kind body tile
read_tile_body kind body tile all e =
    let found = read_whole-found (tile_layout kind) body tile all e in
    let same : spelled (tile_layout kind) found.parts ≡ body = sym (found.splits ∙ append-nil (spelled (tile_layout kind) found.parts)) in
    subst (λ t. IsTileBody kind body t) found.made_is
    (subst (λ t. IsTileBody kind t (made (tile_layout kind) found.parts)) same (found_tile kind found.parts found.fit))

-- these bytes begin with this tile
pub record IsTile (bytes : List ℕ) (tile : Tile) (more : List ℕ) : Type 0 where
  pub placed : IsTileHead tile
  pub fits : IsSpellableTile tile
  pub splits : bytes ≡ tile_text tile ++ more

-- a body in its frame is a tile
tile_of_body : (number : ℕ) (body more : List ℕ) (kind : TileType) (tile : Tile) → tile_number kind ≡ number → IsTileBody kind body tile → framed number (length body) body ++ more ≡ tile_text tile ++ more
unfolding tile_text
tile_of_body number body more kind tile e b =
    let named : number ≡ tile_number (tile_type tile) = sym e ∙ ap tile_number (sym b.same) in
    let sized : length body ≡ tile_measure tile = ap length b.spelled_so ∙ length-body tile in
    λ i. framed (named i) (sized i) (b.spelled_so i) ++ more

pub tile_at-found : (bytes : List ℕ) (found : Tile × List ℕ) → IsBytes bytes → tile_at bytes ≡ Ok found → IsTile bytes found.0 found.1
unfolding tile_at
tile_at-found bytes found all e =
    let framing = and_then_ok (read frame bytes) _ found e in
    let number = framing.0.0.kind in
    let body = framing.0.0.body in
    let more = framing.0.1 in
    let f : IsFramed bytes framing.0.0 more = read-is_framed bytes framing.0 all framing.1 in
    let kind = and_then_ok (ok_or (tile_type_of number) (Rule BlockUnknown)) _ found framing.2 in
    let read_body = and_then_ok (read_whole (tile_layout kind.0) body) _ found kind.2 in
    let inside : IsBytes body = bytes_framed number (length body) body more (subst IsBytes f.splits all) in
    let b = read_tile_body kind.0 body read_body.0 inside read_body.1 in
    let last = read_body.2 in
    let same : (read_body.0, more) ≡ found = cc in
    subst (λ x. IsTile bytes x.0 x.1) same (record {
      placed = b.placed;
      fits = b.fits;
      splits = f.splits ∙ tile_of_body number body more kind.0 read_body.0 (tile_number-found number (Rule BlockUnknown) kind.0 kind.1) b;
    })

-- ---- tiles one after another

-- a tile that is due and there
due_tile-text : (tile : Tile) (more : List ℕ) → IsTileHead tile → IsSpellableTile tile → due_tile (tile_text tile ++ more) ≡ Ok (tile, more)
unfolding due_tile and_then
due_tile-text tile more placed fits =
    let some : eqb (length (tile_text tile ++ more)) 0 ≡ false = ne_eqb _ 0 (λ z. absurd (omega (arith, length-append (tile_text tile) more, length-tile_text tile))) in
    rw (some, tile_at-text tile more placed fits) refl

due_tile-found : (bytes : List ℕ) (found : Tile × List ℕ) → due_tile bytes ≡ Ok found → tile_at bytes ≡ Ok found
unfolding due_tile
due_tile-found bytes found e = (and_then_ok (check (Rule TileCount) (not (eqb (length bytes) 0))) (λ _. tile_at bytes) found e).2

each-text : (all : List Tile) (more : List ℕ) → AllByRecursion IsTileHead all → AllByRecursion IsSpellableTile all → take_each due_tile (length all) (flat_map tile_text all ++ more) ≡ Ok (all, more)
unfolding take_each and_then
each-text [] more placed fits = refl
each-text (tile ∷ all) more placed fits =
    let others = flat_map tile_text all ++ more in
    let here : flat_map tile_text (tile ∷ all) ++ more ≡ tile_text tile ++ others = append_assoc (tile_text tile) (flat_map tile_text all) more in
    ap (take_each due_tile (suc (length all))) here
    ∙ rw (due_tile-text tile others placed.0 fits.0, each-text all more placed.1 fits.1) refl

-- these bytes begin with so many tiles
pub record AreTiles (count : ℕ) (bytes : List ℕ) (all : List Tile) (more : List ℕ) : Type 0 where
  pub counted : length all ≡ count
  pub placed : AllByRecursion IsTileHead all
  pub fit : AllByRecursion IsSpellableTile all
  pub splits : bytes ≡ flat_map tile_text all ++ more

each-are_tiles : (count : ℕ) (bytes : List ℕ) (found : List Tile × List ℕ) → IsBytes bytes → take_each due_tile count bytes ≡ Ok found → AreTiles count bytes found.0 found.1
unfolding take_each
each-are_tiles zero bytes found all e =
    let same : ([], bytes) ≡ found = cc in
    subst (λ x. AreTiles 0 bytes x.0 x.1) same (record { counted = refl; placed = tt; fit = tt; splits = refl })
each-are_tiles (suc count) bytes found all e =
    let first = and_then_ok (due_tile bytes) _ found e in
    let t : IsTile bytes first.0.0 first.0.1 = tile_at-found bytes first.0 all (due_tile-found bytes first.0 first.1) in
    let behind : IsBytes first.0.1 = bytes_behind (tile_text first.0.0) first.0.1 (subst IsBytes t.splits all) in
    let others = and_then_ok (take_each due_tile count first.0.1) _ found first.2 in
    let more = each-are_tiles count first.0.1 others.0 behind others.1 in
    let last = others.2 in
    let same : (first.0.0 ∷ others.0.0, others.0.1) ≡ found = cc in
    subst (λ x. AreTiles (suc count) bytes x.0 x.1) same (record {
      counted = ap suc more.counted;
      placed = (t.placed, more.placed);
      fit = (t.fits, more.fit);
      splits = t.splits ∙ ap (λ z. tile_text first.0.0 ++ z) more.splits ∙ sym (append_assoc (tile_text first.0.0) (flat_map tile_text others.0.0) others.0.1);
    })

-- ---- the tiles of a region

pub tiles_of-text : (all : List Tile) → AllByRecursion IsTileHead all → AllByRecursion IsSpellableTile all → tiles_of (length all) (flat_map tile_text all) ≡ Ok all
unfolding tiles_of and_then
tiles_of-text all placed fits =
    let reads : take_each due_tile (length all) (flat_map tile_text all) ≡ Ok (all, []) = ap (take_each due_tile (length all)) (sym (append-nil (flat_map tile_text all))) ∙ each-text all [] placed fits in
    rw reads refl

pub tiles_of-found : (count : ℕ) (bytes : List ℕ) (all : List Tile) → IsBytes bytes → tiles_of count bytes ≡ Ok all → AreTiles count bytes all []
unfolding tiles_of
tiles_of-found count bytes all are e =
    let found = and_then_ok (take_each due_tile count bytes) _ all e in
    let none = and_then_ok (check (Rule TileCount) (eqb (length found.0.1) 0)) (λ _. Ok found.0.0) all found.2 in
    let nothing : found.0.1 ≡ [] = nil_from_length found.0.1 (eqb-true _ _ (check_ok (Rule TileCount) _ none.1)) in
    let last = none.2 in
    let same : found.0.0 ≡ all = cc in
    subst (λ more. AreTiles count bytes all more) nothing (subst (λ x. AreTiles count bytes x found.0.1) same (each-are_tiles count bytes found.0 are found.1))

-- as many bytes as they say
pub length-tiles : (all : List Tile) → length (flat_map tile_text all) ≡ sum_by tile_size all
length-tiles [] = refl
length-tiles (tile ∷ all) =
    length-append (tile_text tile) (flat_map tile_text all) ∙ rw (length-tile_text tile, length-tiles all) (sym (sum_by-cons tile_size tile all))
