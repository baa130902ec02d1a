-- An improvement raises the live tiles of its surface.
use Rattle.std.proofs.Common.{◌≡◌, ◌≢◌, ◌⊎◌, ◌∙◌, ◌+◌, ◌<◌, ◌==◌, ℕ, Bool, true, false, if◌then◌else◌, nat_lt, cond, List, [], ◌∷◌, length, Option, Some, None, option_map, inl, inr, refl, sym, ap, subst, arith, eq-eqb}
use Rattle.std.specs.FinMap.{get, get-insert, insert}
use Rattle.std.specs.List.{AllByRecursion, cons_option, filter_map}
use Rattle.std.specs.Option.{option_and_then}
use Rattle.std.specs.Ordering.{eq_by_cmp}
use Rattle.std.proofs.lemmas.Bool.{cases_eq}
use Rattle.std.proofs.lemmas.Bool.Decides.{nat_tests}
use Rattle.gfx_base.specs.declared.geometry.Cell.{Cell}
use Rattle.gfx_base.specs.Cells.{cell, cells_met}
use Rattle.gfx_base.specs.Geometry.{holds, sized}
use Rattle.gfx_prog_live.specs.Cells.{cell_key}
use Rattle.gfx_prog_live.specs.Live.{Live, after_sends, improved_sends, raised, with_live}
use Rattle.gfx_prog_live.specs.Showing.{after_showing}
use Rattle.gfx_prog_law.specs.Taken.{LiveIn}
use Rattle.gfx_prog_law.proofs.Apart.{CellsApart, DifferBy, Met, all-any, all-kept, all-more, all-with, at-cell, cells-apart}
use Rattle.gfx_prog_law.proofs.Improving.{IsRaised, own-cell, raised-from}
use Rattle.gfx_prog_law.proofs.Kept.{live-elsewhere}
use Rattle.gfx_prog_law.proofs.Seen.{showing-outside}
use Rattle.gfx_prog_law.proofs.Sends.{begins-column, begins-row}
use Rattle.gfx_prog_decode.specs.declared.key.Key.{Key}
use Rattle.gfx_prog_decode.specs.Records.{Records, key_cmp}
use Rattle.gfx_prog_decode.proofs.Keys.{itself, key_total, tied}
use Rattle.gfx_prog_encode.specs.declared.send.TileSend.{TileSend}
use Rattle.gfx_quant.specs.declared.setting.Setting.{Setting}
use Rattle.gfx_script.specs.declared.step.Step.TheVariants.{Improve}
use Rattle.gfx_script.specs.Kinds.{as_kind}
use Rattle.gfx_surface.specs.Picture.{Picture, pixel_at}
use Rattle.gfx_planner.specs.Passes.{improved_passes, passes_as}
use Rattle.gfx_planner.specs.Tiles.{HoldsTiles}
use Rattle.gfx_planner.specs.Wanted.{Wanted}
use Rattle.gfx_planner.specs.SurfaceEffects.{drawn_on}
use Rattle.gfx_planner.specs.TileEffects.{with_improved}
use Rattle.gfx_planner.specs.Want.{want, wanted_as}
use Rattle.gfx_planner.proofs.LiveShown.{tiles-wanted}
use Rattle.gfx_planner.proofs.Streams.{along}
use Rattle.gfx_planner.proofs.TilesAccepted.{surface_elsewhere, surface_here}
use Rattle.gfx_laws.specs.Raised.{ImprovementsRaiseLiveTiles, Raises, at_next_level}

-- ---- tiles of cells, each of its own

abbrev pub Found : Option TileSend → Option TileSend → Option TileSend
Found None before = before
Found (Some send) before = Some send

abbrev with_any : ℕ → Live → Option TileSend → Live
with_any id live None = live
with_any id live (Some send) = with_live id live send

module _ (id : ℕ) (g : Cell → Option TileSend) (own : (c : Cell) (send : TileSend) → g c ≡ Some send → (send.cell.x ≡ c.x) × (send.cell.y ≡ c.y)) where
  sends-cons : (o : Option TileSend) (sends : List TileSend) (live : Live) → after_sends id (cons_option o sends) live ≡ after_sends id sends (with_any id live o)
  sends-cons None sends live = refl
  sends-cons (Some send) sends live = refl

  -- what is found of a key once a cell's tile is sent
  found-here : (c : Cell) (o : Option TileSend) (live : Live) → g c ≡ o → get (with_any id live o) (cell_key id c) ≡ Found o (get live (cell_key id c))
  found-here c None live e = refl
  found-here c (Some send) live e =
      let at : cell_key id send.cell ≡ cell_key id c = λ i. cell_key id (cell ((own c send e).0 i) ((own c send e).1 i)) in
      get-insert key_total live (cell_key id send.cell) send (cell_key id c)
      ∙ ap (λ b. cond b (Some send) (get live (cell_key id c))) (ap (eq_by_cmp key_cmp (cell_key id c)) at ∙ itself (cell_key id c))

  found-elsewhere : (c : Cell) (o : Option TileSend) (live : Live) (key : Key) → g c ≡ o → (o ≡ None) ⊎ (eq_by_cmp key_cmp key (cell_key id c) ≡ false) → get (with_any id live o) key ≡ get live key
  found-elsewhere c None live key e apart = refl
  found-elsewhere c (Some send) live key e (inl none) = absurd cc
  found-elsewhere c (Some send) live key e (inr differs) =
      let at : cell_key id send.cell ≡ cell_key id c = λ i. cell_key id (cell ((own c send e).0 i) ((own c send e).1 i)) in
      get-insert key_total live (cell_key id send.cell) send key
      ∙ ap (λ b. cond b (Some send) (get live key)) (ap (eq_by_cmp key_cmp key) at ∙ differs)

  -- nothing is sent to this key
  abbrev pub Passes-by : Key → Cell → Type 0
  Passes-by key c = (g c ≡ None) ⊎ (eq_by_cmp key_cmp key (cell_key id c) ≡ false)

  pub untouched : (key : Key) (cells : List Cell) (live : Live) → AllByRecursion (Passes-by key) cells → get (after_sends id (filter_map g cells) live) key ≡ get live key
  untouched key [] live all = refl
  untouched key (c ∷ cells) live all =
      ap (λ m. get m key) (sends-cons (g c) (filter_map g cells) live)
      ∙ untouched key cells (with_any id live (g c)) all.1
      ∙ found-elsewhere c (g c) live key refl all.0

  keys-differ : (c d : Cell) → DifferBy (λ (c : Cell). c.x) (λ (c : Cell). c.y) c d → eq_by_cmp key_cmp (cell_key id c) (cell_key id d) ≡ false
  keys-differ c d apart = by (eq_by_cmp key_cmp (cell_key id c) (cell_key id d)) refl
    where
      by : (b : Bool) → eq_by_cmp key_cmp (cell_key id c) (cell_key id d) ≡ b → b ≡ false
      by false e = refl
      by true e =
          let same : cell_key id c ≡ cell_key id d = tied (cell_key id c) (cell_key id d) e in
          absurd (apart (ap (λ (k : Key). k.x) same) (ap (λ (k : Key). k.y) same))

  keys-turned : (c d : Cell) → DifferBy (λ (c : Cell). c.x) (λ (c : Cell). c.y) c d → eq_by_cmp key_cmp (cell_key id d) (cell_key id c) ≡ false
  keys-turned c d apart = keys-differ d c (λ e e'. apart (sym e) (sym e'))

  -- to each cell its tile, if it has one
  pub each-found : (cells : List Cell) (live : Live) → CellsApart cells
      → AllByRecursion (λ c. get (after_sends id (filter_map g cells) live) (cell_key id c) ≡ Found (g c) (get live (cell_key id c))) cells
  each-found [] live apart = tt
  each-found (c ∷ cells) live apart = (
    ap (λ m. get m (cell_key id c)) (sends-cons (g c) (filter_map g cells) live)
        ∙ untouched (cell_key id c) cells (with_any id live (g c)) (all-more (DifferBy (λ (c : Cell). c.x) (λ (c : Cell). c.y) c) (Passes-by (cell_key id c)) (λ d apart. inr (keys-differ c d apart)) cells apart.0)
        ∙ found-here c (g c) live refl,
    all-with (DifferBy (λ (c : Cell). c.x) (λ (c : Cell). c.y) c) (λ d. get (after_sends id (filter_map g cells) (with_any id live (g c))) (cell_key id d) ≡ Found (g d) (get (with_any id live (g c)) (cell_key id d)))
        (λ d. get (after_sends id (filter_map g (c ∷ cells)) live) (cell_key id d) ≡ Found (g d) (get live (cell_key id d)))
        (λ d apart found.
        ap (λ m. get m (cell_key id d)) (sends-cons (g c) (filter_map g cells) live) ∙ found
        ∙ ap (Found (g d)) (found-elsewhere c (g c) live (cell_key id d) refl (inr (keys-turned c d apart))))
        cells apart.0 (each-found cells (with_any id live (g c)) apart.1),
  )

-- ---- live tiles

-- a live tile raised, or as it was
next-level : (before : Option TileSend) → Found (option_and_then raised before) before ≡ option_map at_next_level before
unfolding raised
next-level None = refl
next-level (Some send) = by (nat_lt send.level (length send.tile.setting.levels))
  where
    by : (b : Bool) → Found (if b then Some (record send { level = send.level + 1 }) else None) (Some send) ≡ Some (if b then record send { level = send.level + 1 } else send)
    by true = refl
    by false = refl

module _ (setting : Setting) (live : Live) (id width height : ℕ) (records : Records) (agree : LiveIn setting id width height live records) where
  abbrev g : Cell → Option TileSend
  g c = option_and_then raised (get live (cell_key id c))

  abbrev cells : List Cell
  cells = cells_met (sized width height)

  abbrev after : Live
  after = after_sends id (improved_sends live id width height) live

  -- a live tile of the surface
  found-live : (key : Key) (send : TileSend) → key.surface ≡ id → get live key ≡ Some send → get after key ≡ option_map at_next_level (get live key)
  found-live key send same found =
      let is = agree.each key send same found in
      let met : Met (sized width height) send.cell = record {
        left = omega arith;
        right = begins-column width height send.cell.x send.cell.y is.1.0.begins;
        top = omega arith;
        bottom = begins-row width height send.cell.x send.cell.y is.1.0.begins;
      } in
      ap (get after) is.0
      ∙ at-cell (λ c. get after (cell_key id c) ≡ Found (g c) (get live (cell_key id c))) (sized width height) send.cell
      (each-found id g (own-cell setting live id width height records agree) cells live (cells-apart (sized width height))) met
      ∙ next-level (get live (cell_key id send.cell)) ∙ ap (λ k. option_map at_next_level (get live k)) (sym is.0)

  -- none is live there
  found-none : (key : Key) → get live key ≡ None → get after key ≡ get live key
  found-none key none =
      untouched id g (own-cell setting live id width height records agree) key cells live
      (all-any (Passes-by id g (own-cell setting live id width height records agree) key) (λ c. by c (eq_by_cmp key_cmp key (cell_key id c)) refl) cells)
    where
      by : (c : Cell) (b : Bool) → eq_by_cmp key_cmp key (cell_key id c) ≡ b → Passes-by id g (own-cell setting live id width height records agree) key c
      by c false e = inr e
      by c true e = inl (ap (λ k. option_and_then raised (get live k)) (sym (tied key (cell_key id c) e)) ∙ ap (option_and_then raised) none)

  found-there : (key : Key) → key.surface ≡ id → get after key ≡ option_map at_next_level (get live key)
  found-there key same = by (get live key) refl
    where
      by : (o : Option TileSend) → get live key ≡ o → get after key ≡ option_map at_next_level (get live key)
      by (Some send) found = found-live key send same found
      by None none = found-none key none ∙ none ∙ ap (option_map at_next_level) (sym none)

  -- what is sent paints nothing that no raised tile paints
  sent-beside : (x y : ℕ) → ((key : Key) (send : TileSend) → key.surface ≡ id → get live key ≡ Some send → send.level < length send.tile.setting.levels → holds send.rect x y ≡ false)
      → AllByRecursion (λ (send : TileSend). holds send.rect x y ≡ false) (improved_sends live id width height)
  sent-beside x y beside =
      all-kept g (λ _. Unit {0}) (λ (send : TileSend). holds send.rect x y ≡ false) (λ c send _ e.
      let from : IsRaised (get live (cell_key id c)) send = raised-from (get live (cell_key id c)) send e in
      ap (λ (s : TileSend). holds s.rect x y) from.is ∙ beside (cell_key id c) from.tile refl from.there from.below)
      cells (all-any (λ _. Unit {0}) (λ _. tt) cells)

-- a key of one surface or of another
which : (key : Key) (id : ℕ) (old new : Live) → (key.surface ≡ id → get new key ≡ option_map at_next_level (get old key)) → (key.surface ≢ id → get new key ≡ get old key)
    → get new key ≡ (if key.surface == id then option_map at_next_level (get old key) else get old key)
which key id old new same other = elim (cases_eq key.surface id) [
  | inl at ↦ same at ∙ ap (λ b. if b then option_map at_next_level (get old key) else get old key) (sym (eq-eqb key.surface id at))
  | inr apart ↦
      let differs : (key.surface == id) ≡ false = grind (arith, nat_tests) in
      other apart ∙ ap (λ b. if b then option_map at_next_level (get old key) else get old key) (sym differs)
]

-- ---- an improvement

pub raises : (setting : Setting) (wanted : Wanted) (records : Records) (id : ℕ) (o : Option Picture) → get wanted.shown.surfaces id ≡ o → HoldsTiles setting wanted.passes.live records wanted.shown.surfaces
    → Raises id wanted (record (with_improved wanted o id) { passes = improved_passes wanted.passes id o })
unfolding with_improved improved_passes drawn_on
raises setting wanted records id None there tiles = record {
  live = λ key. which key id wanted.passes.live wanted.passes.live (λ at. let none : get wanted.passes.live key ≡ None = tiles.others key (ap (get wanted.shown.surfaces) at ∙ there) in none ∙ ap (option_map at_next_level) (sym none)) (λ _. refl);
  others = λ other apart. refl;
  pixels = λ before after x y is now column row beside. let same : before ≡ after = let e : Some before ≡ Some after = sym is ∙ now in cc in ap (λ p. pixel_at p x y) (sym same);
}
raises setting wanted records id (Some surface) there tiles = record {
  live = λ key.
      which key id wanted.passes.live (after setting wanted.passes.live id surface.width surface.height records agree) (λ at. found-there setting wanted.passes.live id surface.width surface.height records agree key at)
      (λ apart. live-elsewhere id key apart sends wanted.passes.live);
  others = λ other apart. ap (λ m. get m other) surfaces ∙ surface_elsewhere wanted.shown.surfaces id painted other (grind (arith, nat_tests));
  pixels = λ before now x y is is-now column row beside.
      let one : Some surface ≡ Some before = sym there ∙ is in
      let same : surface ≡ before = cc in
      let other : Some painted ≡ Some now = sym (surface_here wanted.shown.surfaces id painted id refl) ∙ sym (ap (λ m. get m id) surfaces) ∙ is-now in
      let shown : painted ≡ now = cc in
      ap (λ p. pixel_at p x y) (sym shown)
      ∙ showing-outside id x y sends surface (subst (λ (p : Picture). x < p.width) (sym same) column) (subst (λ (p : Picture). y < p.height) (sym same) row)
      (sent-beside setting wanted.passes.live id surface.width surface.height records agree x y beside)
      ∙ ap (λ p. pixel_at p x y) same;
}
  where
    agree : LiveIn setting id surface.width surface.height wanted.passes.live records
    agree = tiles.each id surface there

    sends : List TileSend
    sends = improved_sends wanted.passes.live id surface.width surface.height

    painted : Picture
    painted = after_showing id sends surface

    surfaces : (drawn_on wanted.shown id (get wanted.shown.surfaces id) (after_showing id sends)).surfaces ≡ insert wanted.shown.surfaces id painted
    surfaces = ap (λ z. (drawn_on wanted.shown id z (after_showing id sends)).surfaces) there

pub improvements-raise : ImprovementsRaiseLiveTiles
unfolding wanted_as passes_as
improvements-raise script front rest id good fits =
    let a = along script front (as_kind None (Improve id) ∷ rest) good fits in
    let stands = a.streams.stands in
    raises script.setting (want script front) _ id _ refl (tiles-wanted script a.held _ _ stands.holds stands.agrees)
