-- Live tiles and records go on agreeing where tiles are sent.
use Rattle.std.proofs.Common.{◌≡◌, ◌≢◌, ◌⊎◌, inl, inr, ◌∙◌, ℕ, List, Option, Some, None, option_map, refl, sym, ap, subst}
use Rattle.std.specs.FinMap.{get, insert}
use Rattle.std.specs.List.{AllByRecursion}
use Rattle.std.proofs.lemmas.Bool.{cases_eq}
use Rattle.std.proofs.lemmas.List.Elements.{recursion_from_All}
use Rattle.gfx_prog_live.specs.Live.{Live, after_sends}
use Rattle.gfx_prog_live.specs.Showing.{after_tiles}
use Rattle.gfx_prog_law.specs.Taken.{AreTaken, IsCell, LiveIn, WasSent}
use Rattle.gfx_prog_law.proofs.Apart.{all-more}
use Rattle.gfx_prog_law.proofs.Groups.{HasSides, tiles-sides}
use Rattle.gfx_prog_law.proofs.Kept.{BeginsIn, keys-after, live-beside, live-elsewhere}
use Rattle.gfx_prog_decode.specs.declared.key.Key.{Key}
use Rattle.gfx_prog_decode.specs.Records.{Records}
use Rattle.gfx_prog_decode.specs.Scene.{Scene, scene}
use Rattle.gfx_prog_encode.specs.declared.send.TileSend.{TileSend}
use Rattle.gfx_quant.specs.declared.setting.Setting.{Setting}
use Rattle.gfx_surface.specs.Picture.{Picture}
use Rattle.gfx_surface_map.specs.Surfaces.{Surfaces}
use Rattle.gfx_planner.specs.Tiles.{HoldsTiles, IsCellOf}
use Rattle.gfx_planner.specs.Holds.{sides_of}
use Rattle.gfx_planner.proofs.Held.{sides-stay}
use Rattle.gfx_planner.proofs.TilesAccepted.{surface_elsewhere, surface_here}

-- a cell of a surface is one of any surface of the same sides
cell_stays : (old new : Option Picture) (key : Key) → option_map sides_of new ≡ option_map sides_of old → IsCellOf old key → IsCellOf new key
cell_stays None new key same cell = absurd cell
cell_stays (Some picture) None key same cell = absurd cc
cell_stays (Some picture) (Some other) key same cell =
    let sides : sides_of other ≡ sides_of picture = cc in
    subst (λ s. IsCell key.surface s.width s.height key) (sym sides) cell

module _ (setting : Setting) (id : ℕ) (messages : List (List ℕ)) (sends : List TileSend) (live : Live) (records : Records) (surfaces : Surfaces) (surface : Picture) (there : get surfaces id ≡ Some surface)
    (tiles : HoldsTiles setting live records surfaces) (taken : AreTaken setting id messages sends live (scene records surface)) where
  -- the surface and the records before, and after the tiles
  abbrev pub old : Scene
  old = scene records surface

  abbrev pub new : Scene
  new = after_tiles id sends old

  sides : HasSides surface.width surface.height new
  sides = tiles-sides id surface.width surface.height sends old (refl, refl)

  -- the surface keeps its sides
  pub tiles_sides : sides_of new.picture ≡ sides_of surface
  tiles_sides = λ i. record { width = sides.0 i; height = sides.1 i }

  begin : AllByRecursion (BeginsIn surface.width surface.height) sends
  begin = all-more (WasSent setting surface.width surface.height) (BeginsIn surface.width surface.height) (λ send was. was.begins) sends
      (recursion_from_All (WasSent setting surface.width surface.height) sends taken.sent)

  live_at : (q : ℕ) (picture : Picture) → ((q ≡ id) ⊎ (q ≢ id)) → get (insert surfaces id new.picture) q ≡ Some picture → LiveIn setting q picture.width picture.height (after_sends id sends live) new.records
  live_at q picture (inl at) found =
      let one : Some new.picture ≡ Some picture = sym (surface_here surfaces id new.picture q at) ∙ found in
      let same : new.picture ≡ picture = cc in
      subst (λ n. LiveIn setting n picture.width picture.height (after_sends id sends live) new.records) (sym at)
      (subst (λ (p : Picture). LiveIn setting id p.width p.height (after_sends id sends live) new.records) same
      (subst (λ s. LiveIn setting id s.width s.height (after_sends id sends live) new.records) (sym tiles_sides) taken.agree))
  live_at q picture (inr apart) found =
      live-beside setting id q picture.width picture.height sends live old apart (tiles.each q picture (sym (surface_elsewhere surfaces id new.picture q apart) ∙ found))

  not_id : (q : ℕ) → get (insert surfaces id new.picture) q ≡ None → q ≡ id → ⊥
  not_id q none at = let no : Some new.picture ≡ None = sym (surface_here surfaces id new.picture q at) ∙ none in cc

  pub tiles_kept : HoldsTiles setting (after_sends id sends live) new.records (insert surfaces id new.picture)
  tiles_kept = record {
    each = λ q picture found. live_at q picture (cases_eq q id) found;
    others = λ key none.
        let apart : key.surface ≡ id → ⊥ = not_id key.surface none in
        live-elsewhere id key apart sends live ∙ tiles.others key (sym (surface_elsewhere surfaces id new.picture key.surface apart) ∙ none);
    cells = λ key has.
        cell_stays (get surfaces key.surface) (get (insert surfaces id new.picture) key.surface) key (sides-stay surfaces id surface new.picture there tiles_sides key.surface)
        (elim (keys-after id surface.width surface.height sends old begin key has) [
          | inl before ↦ tiles.cells key before
          | inr cell ↦ subst (λ o. IsCellOf o key) (sym (ap (get surfaces) cell.0 ∙ there)) (subst (λ n. IsCell n surface.width surface.height key) (sym cell.0) cell)
        ]);
  }
