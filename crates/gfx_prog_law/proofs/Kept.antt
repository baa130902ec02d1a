-- What stands of records and live tiles once tiles are sent.
use Rattle.std.proofs.Common.{◌≡◌, ◌∙◌, ◌+◌, ◌≤◌, ◌⊎◌, inl, inr, ℕ, zero, suc, Bool, true, false, cond, ◌||◌, nat_lt, List, [], ◌∷◌, take, drop, Option, Some, None, is_some, refl, sym, ap, subst, lt-ltb, arith}
use Rattle.std.specs.FinMap as finmap
use Rattle.std.specs.FinMap.{get-insert, get-retain_keys, len-insert}
use Rattle.std.specs.List.{AllByRecursion}
use Rattle.std.specs.Ordering.{eq_by_cmp}
use Rattle.gfx_quant.specs.declared.setting.Setting.{Setting}
use Rattle.gfx_tile_state.specs.declared.state.TileState.{TileState}
use Rattle.gfx_tile_make.specs.Levels.{tile_at}
use Rattle.gfx_prog_decode.specs.declared.TheConstants.{MOST_RECORDS}
use Rattle.gfx_prog_decode.specs.declared.key.Key.{Key}
use Rattle.gfx_prog_decode.specs.Coding.{begins_in}
use Rattle.gfx_prog_decode.specs.Records.{Records, key_cmp}
use Rattle.gfx_prog_decode.specs.Scene.{Scene}
use Rattle.gfx_prog_decode.proofs.Keys.{itself, key_same, key_total, tied}
use Rattle.gfx_prog_encode.specs.declared.send.TileSend.{TileSend}
use Rattle.gfx_prog_live.specs.Cells.{cell_key}
use Rattle.gfx_prog_live.specs.Live.{Live, after_sends, with_live}
use Rattle.gfx_prog_live.specs.Showing.{after_tiles, with_record}
use Rattle.gfx_prog_law.specs.Taken.{HasRoom, IsCell, LiveIn, WasSent}
use Rattle.gfx_prog_law.proofs.Apart.{Apart, Differ, all-with}

-- ---- one entry of a map

-- what another key has stays
abbrev pub KeysDiffer : Key → Key → Type 0
KeysDiffer k q = q ≡ k → ⊥

untied : (k q : Key) → KeysDiffer k q → eq_by_cmp key_cmp q k ≡ false
untied k q apart = by (eq_by_cmp key_cmp q k) refl
  where
    by : (b : Bool) → eq_by_cmp key_cmp q k ≡ b → b ≡ false
    by false e = refl
    by true e = absurd (apart (tied q k e))

module _ {X : Type 0} (m : finmap.FinMap key_cmp X) (k : Key) (x : X) where
  pub get-elsewhere : (q : Key) → KeysDiffer k q → finmap.get (finmap.insert m k x) q ≡ finmap.get m q
  get-elsewhere q apart = get-insert key_total m k x q ∙ ap (λ b. cond b (Some x) (finmap.get m q)) (untied k q apart)

  -- what is found is what was put there, or was there
  pub found-by : (P : X → Type 0) (q : Key) (y : X) → finmap.get (finmap.insert m k x) q ≡ Some y → (q ≡ k → x ≡ y → P y) → (finmap.get m q ≡ Some y → eq_by_cmp key_cmp q k ≡ false → P y) → P y
  found-by P q y found here there = by (eq_by_cmp key_cmp q k) refl (sym (get-insert key_total m k x q) ∙ found)
    where
      by : (b : Bool) → eq_by_cmp key_cmp q k ≡ b → cond b (Some x) (finmap.get m q) ≡ Some y → P y
      by true e is = here (tied q k e) cc
      by false e is = there is e

  pub has-by : (P : Type 0) (q : Key) → finmap.contains_key (finmap.insert m k x) q ≡ true → (q ≡ k → P) → (finmap.contains_key m q ≡ true → P) → P
  has-by P q has here there = by (eq_by_cmp key_cmp q k) refl (ap is_some (sym (get-insert key_total m k x q)) ∙ has)
    where
      by : (b : Bool) → eq_by_cmp key_cmp q k ≡ b → is_some (cond b (Some x) (finmap.get m q)) ≡ true → P
      by true e is = here (tied q k e)
      by false e is = there is

keys-apart : (id : ℕ) (one other : TileSend) → Differ one other → KeysDiffer (cell_key id one.cell) (cell_key id other.cell)
keys-apart id one other differ same = differ (sym (ap (λ k. k.x) same)) (sym (ap (λ k. k.y) same))

-- ---- what is asked of a cell's record before its tile

module _ (Ask : Option TileState → TileSend → Type 0) (id : ℕ) where
  abbrev pub Asked : Records → TileSend → Type 0
  Asked records send = Ask (finmap.get records (cell_key id send.cell)) send

  -- it holds still once tiles of other cells were sent
  pub asked-next : (records : Records) (send : TileSend) (tile : TileState) (sends : List TileSend) → AllByRecursion (Differ send) sends → AllByRecursion (Asked records) sends
      → AllByRecursion (Asked (finmap.insert records (cell_key id send.cell) tile)) sends
  asked-next records send tile sends apart asked =
      all-with (Differ send) (Asked records) (Asked (finmap.insert records (cell_key id send.cell) tile))
      (λ other differ ask. subst (λ o. Ask o other) (sym (get-elsewhere records (cell_key id send.cell) tile (cell_key id other.cell) (keys-apart id send other differ))) ask)
      sends apart asked

  pub asked-later : (n : ℕ) (sends : List TileSend) (old : Scene) → Apart sends → AllByRecursion (Asked old.records) sends
      → AllByRecursion (Asked (after_tiles id (take n sends) old).records) (drop n sends)
  asked-later zero sends old apart asked = asked
  asked-later (suc n) [] old apart asked = tt
  asked-later (suc n) (send ∷ sends) old apart asked = asked-later n sends (with_record id old send) apart.1 (asked-next old.records send (tile_at send.tile send.level) sends apart.0 asked.1)

-- ---- live tiles and records agree

pub live-next : (setting : Setting) (id width height : ℕ) (send : TileSend) (live : Live) (records : Records) → WasSent setting width height send → LiveIn setting id width height live records
    → LiveIn setting id width height (with_live id live send) (finmap.insert records (cell_key id send.cell) (tile_at send.tile send.level))
live-next setting id width height send live records was agree = record {
  each = λ key later same found.
      found-by live k send (Holds key) key later found
      (λ is which.
      subst (Holds key) which
      (is, (was, get-insert key_total records k tile key ∙ ap (λ b. cond b (Some tile) (finmap.get records key)) (ap (λ q. eq_by_cmp key_cmp q k) is ∙ itself k))))
      (λ was-live untie.
      let before = agree.each key later same was-live in
      (before.0, (before.1.0, get-insert key_total records k tile key ∙ ap (λ b. cond b (Some tile) (finmap.get records key)) untie ∙ before.1.1)));
}
  where
    k : Key
    k = cell_key id send.cell

    tile : TileState
    tile = tile_at send.tile send.level

    Holds : Key → TileSend → Type 0
    Holds key later = (key ≡ cell_key id later.cell) × (WasSent setting width height later × (finmap.get (finmap.insert records k tile) key ≡ Some (tile_at later.tile later.level)))

pub live-after : (setting : Setting) (id width height : ℕ) (sends : List TileSend) (live : Live) (old : Scene) → AllByRecursion (WasSent setting width height) sends → LiveIn setting id width height live old.records
    → LiveIn setting id width height (after_sends id sends live) (after_tiles id sends old).records
live-after setting id width height [] live old was agree = agree
live-after setting id width height (send ∷ sends) live old was agree =
    live-after setting id width height sends (with_live id live send) (with_record id old send) was.1 (live-next setting id width height send live old.records was.0 agree)

-- ---- other surfaces

module _ (id : ℕ) (key : Key) (apart : key.surface ≡ id → ⊥) where
  -- their records stay
  pub records-elsewhere : (sends : List TileSend) (old : Scene) → finmap.get (after_tiles id sends old).records key ≡ finmap.get old.records key
  records-elsewhere [] old = refl
  records-elsewhere (send ∷ sends) old =
      records-elsewhere sends (with_record id old send)
      ∙ get-elsewhere old.records (cell_key id send.cell) (tile_at send.tile send.level) key (λ same. apart (ap (λ k. k.surface) same))

  -- and what is live there
  pub live-elsewhere : (sends : List TileSend) (live : Live) → finmap.get (after_sends id sends live) key ≡ finmap.get live key
  live-elsewhere [] live = refl
  live-elsewhere (send ∷ sends) live =
      live-elsewhere sends (with_live id live send) ∙ get-elsewhere live (cell_key id send.cell) send key (λ same. apart (ap (λ k. k.surface) same))

-- so live tiles and records of another surface agree still
pub live-beside : (setting : Setting) (id other width height : ℕ) (sends : List TileSend) (live : Live) (old : Scene) → (other ≡ id → ⊥) → LiveIn setting other width height live old.records
    → LiveIn setting other width height (after_sends id sends live) (after_tiles id sends old).records
live-beside setting id other width height sends live old apart agree = record {
  each = λ key send same found.
      let differs : key.surface ≡ id → ⊥ = λ e. apart (sym same ∙ e) in
      let before = agree.each key send same (sym (live-elsewhere id key differs sends live) ∙ found) in
      (before.0, (before.1.0, records-elsewhere id key differs sends old ∙ before.1.1));
}

-- ---- tiles that end

-- what is left of live tiles by a test of their keys was live
pub retained-live : (live : Live) (test : Key → Bool) (key : Key) (send : TileSend) → finmap.get (finmap.retain_keys live test) key ≡ Some send → (finmap.get live key ≡ Some send) × (test key ≡ true)
retained-live live test key send found =
    by (test key) refl (sym (get-retain_keys live test key (λ x tie. ap test (sym (key_same key x tie)))) ∙ found)
  where
    by : (b : Bool) → test key ≡ b → cond b (finmap.get live key) None ≡ Some send → (finmap.get live key ≡ Some send) × (test key ≡ true)
    by true e is = (is, e)
    by false e is = cc

-- so it agrees with the records
pub live-retained : (setting : Setting) (id width height : ℕ) (live : Live) (test : Key → Bool) (records : Records) → LiveIn setting id width height live records
    → LiveIn setting id width height (finmap.retain_keys live test) records
live-retained setting id width height live test records agree = record {
  each = λ key send same found. agree.each key send same (retained-live live test key send found).0;
}

-- ---- room

-- a tile's cell begins on a surface of these sides
abbrev pub BeginsIn : ℕ → ℕ → TileSend → Type 0
BeginsIn width height send = begins_in width height send.cell.x send.cell.y ≡ true

module _ (id width height : ℕ) where
  key-before : (records : Records) (send : TileSend) (tile : TileState) → BeginsIn width height send → (key : Key) → finmap.contains_key (finmap.insert records (cell_key id send.cell) tile) key ≡ true
      → (finmap.contains_key records key ≡ true) ⊎ IsCell id width height key
  key-before records send tile begins key has =
      has-by records (cell_key id send.cell) tile ((finmap.contains_key records key ≡ true) ⊎ IsCell id width height key) key has
      (λ is. inr (ap (λ k. k.surface) is, ap (λ k. k.context) is, ap (λ k. begins_in width height k.x k.y) is ∙ begins))
      (λ there. inl there)

  -- each key of the records after tiles is one of before, or a cell of the surface
  pub keys-after : (sends : List TileSend) (old : Scene) → AllByRecursion (BeginsIn width height) sends → (key : Key) → finmap.contains_key (after_tiles id sends old).records key ≡ true
      → (finmap.contains_key old.records key ≡ true) ⊎ IsCell id width height key
  keys-after [] old begins key has = inl has
  keys-after (send ∷ sends) old begins key has = elim (keys-after sends (with_record id old send) begins.1 key has) [
    | inl more ↦ key-before old.records send (tile_at send.tile send.level) begins.0 key more
    | inr new ↦ inr new
  ]

  -- there is room still
  pub room-next : (records : Records) (send : TileSend) (tile : TileState) → BeginsIn width height send → HasRoom id width height records → HasRoom id width height (finmap.insert records (cell_key id send.cell) tile)
  room-next records send tile begins room more keys = room more (λ key has. elim (keys key has) [
    | inl there ↦ key-before records send tile begins key there
    | inr new ↦ inr new
  ])

  pub room-after : (sends : List TileSend) (old : Scene) → AllByRecursion (BeginsIn width height) sends → HasRoom id width height old.records → HasRoom id width height (after_tiles id sends old).records
  room-after [] old begins room = room
  room-after (send ∷ sends) old begins room = room-after sends (with_record id old send) begins.1 (room-next old.records send (tile_at send.tile send.level) begins.0 room)

  -- a tile's record has its place, or there is room for it
  pub room-for : (records : Records) (send : TileSend) → BeginsIn width height send → HasRoom id width height records
      → (is_some (finmap.get records (cell_key id send.cell)) || nat_lt (finmap.len records) MOST_RECORDS) ≡ true
  room-for records send begins room = by (is_some (finmap.get records (cell_key id send.cell))) refl
    where
      k : Key
      k = cell_key id send.cell

      tile : TileState
      tile = tile_at send.tile send.level

      by : (b : Bool) → finmap.contains_key records k ≡ b → (b || nat_lt (finmap.len records) MOST_RECORDS) ≡ true
      by true e = refl
      by false e =
          let one : finmap.len (finmap.insert records k tile) ≡ finmap.len records + 1 = len-insert key_total records k tile ∙ ap (λ b. cond b (finmap.len records) (finmap.len records + 1)) e in
          let few : finmap.len (finmap.insert records k tile) ≤ MOST_RECORDS = room (finmap.insert records k tile) (λ key has. key-before records send tile begins key has) in
          lt-ltb (finmap.len records) MOST_RECORDS (omega (arith, one, few))
