-- Live tiles and records go on agreeing where a step that isn't painted in passes ends the tiles that it touches.
use Rattle.std.proofs.Common.{◌≡◌, ◌≢◌, ◌⊎◌, inl, inr, ℕ, ◌==◌, ◌&&◌, Bool, true, false, not, cond, Option, Some, None, option_map, is_some, refl, sym, ap, ◌∙◌, subst, arith, eq-eqb, ne_eqb}
use Rattle.std.specs.Cmp.{nat_cmp_total}
use Rattle.std.specs.FinMap.{FinMap, contains_key, empty, get, get-empty, get-insert, get-remove, get-retain_keys, insert, remove, retain_keys}
use Rattle.std.specs.List.{list_any, slice_get}
use Rattle.std.specs.Ordering.{nat_cmp, eq_by_cmp}
use Rattle.std.proofs.lemmas.Bool.{cases_eq}
use Rattle.std.proofs.lemmas.Bool.Decides.{nat_tests}
use Rattle.gfx_base.specs.Cells.{cell, meets}
use Rattle.gfx_prog_live.specs.Live.{Live, Passes, without_surface}
use Rattle.gfx_prog_law.specs.Taken.{LiveIn}
use Rattle.gfx_prog_law.proofs.Kept.{retained-live}
use Rattle.gfx_prog_decode.specs.declared.key.Key.{Key}
use Rattle.gfx_prog_decode.specs.Records.{Records, key_cmp, without_surface as records_but}
use Rattle.gfx_prog_decode.proofs.Keys.{key_same}
use Rattle.gfx_prog_encode.specs.declared.send.TileSend.{TileSend}
use Rattle.gfx_quant.specs.declared.setting.Setting.{Setting}
use Rattle.gfx_script.specs.declared.held.Sides.{Sides}
use Rattle.gfx_script.specs.Kinds.{as_kind}
use Rattle.gfx_script.specs.Scripted.{Script}
use Rattle.gfx_script.specs.Writes.{Area, writes_by}
use Rattle.gfx_script.specs.declared.step.Kind.{Kind}
use Rattle.gfx_script.specs.declared.step.Step.{Step}
use Rattle.gfx_script.specs.declared.step.Step.TheVariants.{Surface, Delete, Improve, Paint}
use Rattle.gfx_state.specs.State.{State}
use Rattle.gfx_surface.specs.Picture.{Picture, blank}
use Rattle.gfx_surface_map.specs.Surfaces.{Surfaces}
use Rattle.gfx_tile_state.specs.declared.state.TileState.{TileState}
use Rattle.gfx_tile_make.specs.Levels.{tile_at}
use Rattle.gfx_planner.specs.Bitmaps.{sides_kept}
use Rattle.gfx_planner.specs.TileSteps.{sends_tiles}
use Rattle.gfx_planner.specs.Passes.{ended_by, passes_as}
use Rattle.gfx_planner.specs.Tiles.{HoldsLive, HoldsTiles, IsCellOf}
use Rattle.gfx_planner.specs.Server.{Server}
use Rattle.gfx_planner.specs.After.{passes_by}
use Rattle.gfx_planner.specs.Holds.{sides_of}
use Rattle.gfx_script.specs.Ways.{goes_by}
use Rattle.gfx_planner.proofs.Ways.{live_left}
use Rattle.gfx_planner.proofs.Seen.{KeepsTiles}
use Rattle.gfx_planner.proofs.SurfaceSteps.{none_of, some_of}

-- ---- what ends

-- what is live now was live before
abbrev pub Ends : Live → Live → Type 0
Ends live left = (key : Key) (send : TileSend) → get left key ≡ Some send → get live key ≡ Some send

-- so a change in an area leaves tiles
pub ends-by : (passes : Passes) (written : Option Area) → Ends passes.live (ended_by passes written).live
unfolding ended_by
ends-by passes None key send found = found
ends-by passes (Some written) key send found =
    (retained-live passes.live (λ k. not (k.surface == written.surface && list_any (λ rect. meets rect (cell k.x k.y)) written.rects)) key send found).0

number-ended : (passes : Passes) (written : Option Area) → (ended_by passes written).next ≡ passes.next
unfolding ended_by
number-ended passes None = refl
number-ended passes (Some written) = refl

-- the number of the next message stays
pub number-stays : (script : Script) (server : Server) (kind : Option Kind) (step : Step) → sends_tiles script.thin kind step ≡ false
    → (passes_by script server (as_kind kind step)).next ≡ server.passes.next
unfolding passes_as
number-stays script server kind (Delete id) apart = refl
number-stays script server kind (Improve id) apart = absurd cc
number-stays script server kind (Paint id picture at named glyph) apart =
    let written = writes_by script (sides_kept server.plan server.state.cache.slots) (Paint id picture at named glyph) in
    (live_left script server.passes (goes_by script.thin kind) id (slice_get script.pictures picture) at written apart).1
    ∙ number-ended server.passes written
number-stays script server kind step apart = number-ended server.passes (writes_by script (sides_kept server.plan server.state.cache.slots) step)

-- what wasn't live isn't live
none-left : (live left : Live) → Ends live left → (key : Key) → get live key ≡ None → get left key ≡ None
none-left live left ends key none = by (get left key) refl
  where
    by : (o : Option TileSend) → get left key ≡ o → o ≡ None
    by None e = refl
    by (Some send) e = let some : get live key ≡ Some send = ends key send e in cc

live-left : (setting : Setting) (id width height : ℕ) (live left : Live) (records : Records) → Ends live left → LiveIn setting id width height live records → LiveIn setting id width height left records
live-left setting id width height live left records ends agree = record { each = λ key send same found. agree.each key send same (ends key send found) }

-- ---- surfaces keep their sides

cell-stays : (old new : Option Picture) (key : Key) → option_map sides_of new ≡ option_map sides_of old → IsCellOf old key → IsCellOf new key
cell-stays None new key same cell = absurd cell
cell-stays (Some old) None key same cell = absurd cc
cell-stays (Some old) (Some new) key same cell =
    subst (λ o. IsCellOf (option_map (λ (s : Sides). record new { width = s.width; height = s.height }) o) key) (sym same) cell

pub sides-follow : (setting : Setting) (live left : Live) (records next : Records) (old new : Surfaces) → Ends live left → ((id : ℕ) → option_map sides_of (get new id) ≡ option_map sides_of (get old id)) → next ≡ records
    → HoldsTiles setting live records old → HoldsTiles setting left next new
sides-follow setting live left records next old new ends same stays tiles = subst (λ (r : Records). HoldsTiles setting left r new) (sym stays) record {
  each = λ id surface there.
      let found = some_of (get old id) (sides_of surface) (sym (same id) ∙ ap (option_map sides_of) there) in
      live-left setting id surface.width surface.height live left records ends
      (subst (λ (s : Sides). LiveIn setting id s.width s.height live records) found.2 (tiles.each id found.0 found.1));
  others = λ key none.
      none-left live left ends key (tiles.others key (none_of (get old key.surface) (ap is_some (sym (same key.surface)) ∙ ap (λ o. is_some (option_map sides_of o)) none)));
  cells = λ key has. cell-stays (get old key.surface) (get new key.surface) key (same key.surface) (tiles.cells key has);
}

-- ---- a surface is made

module _ (surfaces : Surfaces) (id : ℕ) (picture : Picture) where
  made-at : (q : ℕ) → q ≡ id → get (insert surfaces id picture) q ≡ Some picture
  made-at q at =
      let yes : eq_by_cmp nat_cmp q id ≡ true = grind (arith, nat_tests) in
      get-insert nat_cmp_total surfaces id picture q ∙ ap (λ b. cond b (Some picture) (get surfaces q)) yes

  made-apart : (q : ℕ) → q ≢ id → get (insert surfaces id picture) q ≡ get surfaces q
  made-apart q apart =
      let differ : eq_by_cmp nat_cmp q id ≡ false = grind (arith, nat_tests) in
      get-insert nat_cmp_total surfaces id picture q ∙ ap (λ b. cond b (Some picture) (get surfaces q)) differ

-- it has no live tiles and no records, since it wasn't there
pub made-follow : (setting : Setting) (live left : Live) (records next : Records) (surfaces : Surfaces) (id : ℕ) (picture : Picture) → Ends live left → get surfaces id ≡ None → next ≡ records
    → HoldsTiles setting live records surfaces → HoldsTiles setting left next (insert surfaces id picture)
made-follow setting live left records next surfaces id picture ends absent stays tiles = subst (λ (r : Records). HoldsTiles setting left r (insert surfaces id picture)) (sym stays) record {
  each = λ q surface there. each q surface there (cases_eq q id);
  others = λ key none. none-left live left ends key (tiles.others key (others key none (cases_eq key.surface id)));
  cells = λ key has. cells key has (cases_eq key.surface id);
}
  where
    gone : (q : ℕ) → q ≡ id → get surfaces q ≡ None
    gone q at = ap (get surfaces) at ∙ absent

    each : (q : ℕ) (surface : Picture) → get (insert surfaces id picture) q ≡ Some surface → (q ≡ id) ⊎ (q ≢ id) → LiveIn setting q surface.width surface.height left records
    each q surface there (inl at) = record {
      each = λ key send same found.
          let none : get live key ≡ None = tiles.others key (ap (get surfaces) same ∙ gone q at) in
          let some : get live key ≡ Some send = ends key send found in absurd cc;
    }
    each q surface there (inr apart) = live-left setting q surface.width surface.height live left records ends (tiles.each q surface (sym (made-apart surfaces id picture q apart) ∙ there))

    others : (key : Key) → get (insert surfaces id picture) key.surface ≡ None → (key.surface ≡ id) ⊎ (key.surface ≢ id) → get surfaces key.surface ≡ None
    others key none (inl at) = gone key.surface at
    others key none (inr apart) = sym (made-apart surfaces id picture key.surface apart) ∙ none

    cells : (key : Key) → contains_key records key ≡ true → (key.surface ≡ id) ⊎ (key.surface ≢ id) → IsCellOf (get (insert surfaces id picture) key.surface) key
    cells key has (inl at) = absurd (subst (λ o. IsCellOf o key) (gone key.surface at) (tiles.cells key has))
    cells key has (inr apart) = subst (λ o. IsCellOf o key) (sym (made-apart surfaces id picture key.surface apart)) (tiles.cells key has)

-- ---- a surface is deleted

module _ (surfaces : Surfaces) (id : ℕ) where
  gone-at : (q : ℕ) → q ≡ id → get (remove surfaces id) q ≡ None
  gone-at q at =
      let yes : eq_by_cmp nat_cmp q id ≡ true = grind (arith, nat_tests) in
      get-remove nat_cmp_total surfaces id q ∙ ap (λ b. cond b None (get surfaces q)) yes

  gone-apart : (q : ℕ) → q ≢ id → get (remove surfaces id) q ≡ get surfaces q
  gone-apart q apart =
      let differ : eq_by_cmp nat_cmp q id ≡ false = grind (arith, nat_tests) in
      get-remove nat_cmp_total surfaces id q ∙ ap (λ b. cond b None (get surfaces q)) differ

-- what is left of entries by the surfaces of their keys
module _ {X : Type 0} (m : FinMap key_cmp X) (id : ℕ) where
  left-by : (key : Key) (b : Bool) → (key.surface == id) ≡ b → get (retain_keys m (λ k. not (k.surface == id))) key ≡ cond (not b) (get m key) None
  left-by key b is =
      get-retain_keys m (λ k. not (k.surface == id)) key (λ x tie. ap (λ (k : Key). not (k.surface == id)) (sym (key_same key x tie)))
      ∙ ap (λ z. cond (not z) (get m key) None) is

  left-at : (key : Key) → key.surface ≡ id → get (retain_keys m (λ k. not (k.surface == id))) key ≡ None
  left-at key at = left-by key true (eq-eqb key.surface id at)

  left-apart : (key : Key) → key.surface ≢ id → get (retain_keys m (λ k. not (k.surface == id))) key ≡ get m key
  left-apart key apart = left-by key false (ne_eqb key.surface id apart)

-- its live tiles end, and its records go
pub gone-follow : (setting : Setting) (live : Live) (records : Records) (surfaces : Surfaces) (id : ℕ) → HoldsTiles setting live records surfaces
    → HoldsTiles setting (without_surface live id) (records_but records id) (remove surfaces id)
gone-follow setting live records surfaces id tiles = record {
  each = λ q surface there. each q surface there (cases_eq q id);
  others = λ key none. others key none (cases_eq key.surface id);
  cells = λ key has. cells key has (cases_eq key.surface id);
}
  where
    each : (q : ℕ) (surface : Picture) → get (remove surfaces id) q ≡ Some surface → (q ≡ id) ⊎ (q ≢ id) → LiveIn setting q surface.width surface.height (without_surface live id) (records_but records id)
    each q surface there (inl at) = let none : get (remove surfaces id) q ≡ None = gone-at surfaces id q at in absurd cc
    each q surface there (inr apart) = record {
      each = λ key send same found.
          let other : key.surface ≢ id = λ e. apart (sym same ∙ e) in
          let before = (tiles.each q surface (sym (gone-apart surfaces id q apart) ∙ there)).each key send same (sym (left-apart live id key other) ∙ found) in
          (before.0, (before.1.0, left-apart records id key other ∙ before.1.1));
    }

    others : (key : Key) → get (remove surfaces id) key.surface ≡ None → (key.surface ≡ id) ⊎ (key.surface ≢ id) → get (without_surface live id) key ≡ None
    others key none (inl at) = left-at live id key at
    others key none (inr apart) = left-apart live id key apart ∙ tiles.others key (sym (gone-apart surfaces id key.surface apart) ∙ none)

    cells : (key : Key) → contains_key (records_but records id) key ≡ true → (key.surface ≡ id) ⊎ (key.surface ≢ id) → IsCellOf (get (remove surfaces id) key.surface) key
    cells key has (inl at) = let none : contains_key (records_but records id) key ≡ false = ap is_some (left-at records id key at) in absurd cc
    cells key has (inr apart) =
        subst (λ o. IsCellOf o key) (sym (gone-apart surfaces id key.surface apart))
        (tiles.cells key (ap is_some (sym (left-apart records id key apart)) ∙ has))

-- ---- steps

pub tiles-follow : (script : Script) (server : Server) (kind : Option Kind) (step : Step) (next : State) → sends_tiles script.thin kind step ≡ false
    → HoldsTiles script.setting server.passes.live server.state.records server.state.shown.surfaces → KeepsTiles step server.state next
    → HoldsTiles script.setting (passes_by script server (as_kind kind step)).live next.records next.shown.surfaces
unfolding passes_as
tiles-follow script server kind (Delete id) next apart tiles keeps =
    subst (λ (r : Records). HoldsTiles script.setting (without_surface server.passes.live id) r next.shown.surfaces) (sym keeps.1)
    (subst (λ (s : Surfaces). HoldsTiles script.setting (without_surface server.passes.live id) (records_but server.state.records id) s) (sym keeps.0)
    (gone-follow script.setting server.passes.live server.state.records server.state.shown.surfaces id tiles))
tiles-follow script server kind (Improve id) next apart tiles keeps = absurd cc
tiles-follow script server kind (Surface id width height format) next apart tiles keeps =
    let written = writes_by script (sides_kept server.plan server.state.cache.slots) (Surface id width height format) in
    subst (λ (s : Surfaces). HoldsTiles script.setting (ended_by server.passes written).live next.records s) (sym keeps.1)
    (made-follow script.setting server.passes.live (ended_by server.passes written).live server.state.records next.records server.state.shown.surfaces id (blank width height format)
    (ends-by server.passes written) keeps.0 keeps.2 tiles)
tiles-follow script server kind (Paint id picture at named glyph) next apart tiles keeps =
    let written = writes_by script (sides_kept server.plan server.state.cache.slots) (Paint id picture at named glyph) in
    subst (λ (l : Live). HoldsTiles script.setting l next.records next.shown.surfaces) (sym (live_left script server.passes (goes_by script.thin kind) id (slice_get script.pictures picture) at written apart).0)
    (sides-follow script.setting server.passes.live (ended_by server.passes written).live server.state.records next.records server.state.shown.surfaces next.shown.surfaces
    (ends-by server.passes written) keeps.0 keeps.1 tiles)
tiles-follow script server kind step next apart tiles keeps =
    let written = writes_by script (sides_kept server.plan server.state.cache.slots) step in
    sides-follow script.setting server.passes.live (ended_by server.passes written).live server.state.records next.records server.state.shown.surfaces next.shown.surfaces
    (ends-by server.passes written) keeps.0 keeps.1 tiles

-- before the first step no tile is live, and there are no records
pub tiles-at-start : (setting : Setting) → HoldsTiles setting empty empty empty
tiles-at-start setting = record {
  each = λ id surface there. let none : get (empty {X = Picture} {R = nat_cmp}) id ≡ None = get-empty nat_cmp id in absurd cc;
  others = λ key none. get-empty key_cmp key;
  cells = λ key has. let none : contains_key (empty {X = TileState} {R = key_cmp}) key ≡ false = ap is_some (get-empty key_cmp key) in absurd cc;
}

-- live tiles that agree with records have them
pub has-records : (setting : Setting) (live : Live) (records : Records) (surfaces : Surfaces) → HoldsTiles setting live records surfaces → HoldsLive live records
has-records setting live records surfaces tiles key send found = by (get surfaces key.surface) refl
  where
    by : (o : Option Picture) → get surfaces key.surface ≡ o → get records key ≡ Some (tile_at send.tile send.level)
    by None none = let gone : get live key ≡ None = tiles.others key none in absurd cc
    by (Some picture) there = ((tiles.each key.surface picture there).each key send refl found).1.1
