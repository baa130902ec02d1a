-- Messages leave records of which each component's passes have the record's transform.
use Rattle.std.proofs.Common.{◌≡◌, ◌∙◌, ℕ, Bool, true, false, cond, List, [], ◌∷◌, Option, Some, None, refl, sym, ap, subst, Result, Ok, Err}
use Rattle.std.specs.Option.{ok_or}
use Rattle.std.specs.FinMap as finmap
use Rattle.std.specs.FinMap.{get-empty, get-insert, get-retain_keys}
use Rattle.std.specs.Ordering.{eq_by_cmp}
use Rattle.gfx_base.specs.declared.refusal.Refusal.{Refusal}
use Rattle.gfx_base.specs.declared.refusal.Refusal.TheVariants.{NoFirstPass, QuantRange, TransformChanged}
use Rattle.gfx_base.specs.Results.{check}
use Rattle.gfx_base.proofs.ResultLemmas.{and_then_ok}
use Rattle.gfx_bits.specs.Bits.{bits_of}
use Rattle.gfx_dwt.specs.declared.layout.Transform.{Transform}
use Rattle.gfx_dwt.specs.declared.layout.Transform.TheVariants.{Plain, Reduced}
use Rattle.gfx_quant.specs.declared.quant.Component.{Component}
use Rattle.gfx_quant.specs.declared.quant.Component.TheVariants.{Y, Cb, Cr}
use Rattle.gfx_prog_block.specs.declared.block.Block.{Block}
use Rattle.gfx_prog_block.specs.declared.block.Block.TheVariants as blocks
use Rattle.gfx_prog_block.specs.declared.region.Region.{Region as RegionRead}
use Rattle.gfx_prog_block.specs.declared.tile.FirstPass.{FirstPass}
use Rattle.gfx_prog_block.specs.declared.tile.TheConstants.{NO_QUALITY}
use Rattle.gfx_prog_block.specs.declared.tile.Tile.{Tile}
use Rattle.gfx_prog_block.specs.declared.tile.Tile.TheVariants.{Simple, First, Upgrade}
use Rattle.gfx_prog_block.specs.declared.tile.TileHead.{TileHead}
use Rattle.gfx_prog_block.specs.declared.tile.UpgradePass.{UpgradePass}
use Rattle.gfx_prog_block.specs.Reading.{blocks_of}
use Rattle.gfx_tile_state.specs.declared.state.TileState.{TileState}
use Rattle.gfx_tile_state.specs.Known.{begun, raised}
use Rattle.gfx_tile_state.specs.Making.{entries_of, may_upgrade}
use Rattle.gfx_tile_state.specs.Passes.{Part, summed}
use Rattle.gfx_tile_state.specs.Record.{fits_transform, part_of}
use Rattle.gfx_tile_state.proofs.KnownSigns.{first-made, upgrade-made}
use Rattle.gfx_prog_decode.specs.declared.key.Key.{Key}
use Rattle.gfx_prog_decode.specs.declared.key.Place.{Place}
use Rattle.gfx_prog_decode.specs.Coding.{Coding, are_bases, coding_of, positions_in}
use Rattle.gfx_prog_decode.specs.OneTransform.{AreOfOne, IsOf, IsOfOne}
use Rattle.gfx_prog_decode.specs.Passes.{improved, kept_of, may_start, part_improved, part_started, pass_in, start_of, started}
use Rattle.gfx_prog_decode.specs.Progressive.{after_block, after_first, after_message, after_region, after_tile, after_upgrade, found, is_difference, key_of, with_tile}
use Rattle.gfx_prog_decode.specs.Records.{Records, key_cmp}
use Rattle.gfx_prog_decode.specs.Scene.{Scene, in_turn}
use Rattle.gfx_prog_decode.proofs.Keys.{key_same, key_total}

-- ---- steps that gave something

refused-not : {A : Type 0} (refusal : Refusal) (x : A) → Err refusal ≡ Ok x → ⊥
refused-not refusal x e = cc

abbrev other-than : {A : Type 0} → A → Result A Refusal → A
other-than x (Ok y) = y
other-than x (Err refusal) = x

given : {A : Type 0} (x y : A) → ◌≡◌ {A = Result A Refusal} (Ok x) (Ok y) → x ≡ y
given x y e = ap (other-than x) e

passes-check : (refusal : Refusal) (holds : Bool) (done : Unit {0}) → check refusal holds ≡ Ok done → holds ≡ true
passes-check refusal true done e = refl
passes-check refusal false done e = absurd (refused-not refusal done e)

same-transform : (found t : Transform) → fits_transform (Some found) t ≡ true → found ≡ t
same-transform Plain Plain e = refl
same-transform Plain Reduced e = absurd cc
same-transform Reduced Plain e = absurd cc
same-transform Reduced Reduced e = refl

-- ---- records

part-begun : (difference : Bool) (coding : Coding) (component : Component) (bytes : List ℕ) (old : TileState) (new : Part)
    → part_started difference coding component bytes old ≡ Ok new → IsOf coding.transform new
part-begun difference coding component bytes old new e =
    let made = first-made coding.transform (positions_in coding component) bytes (kept_of difference (part_of old component)) new e in
    (begun (summed coding.transform made.0) (positions_in coding component), made.2)

pub started-one : (difference : Bool) (coding : Coding) (pass : FirstPass) (old new : TileState) → started difference coding pass old ≡ Ok new → IsOfOne new
unfolding started
started-one difference coding pass old new e =
    let y = and_then_ok (part_started difference coding Y pass.y old) _ new e in
    let cb = and_then_ok (part_started difference coding Cb pass.cb old) _ new y.2 in
    let cr = and_then_ok (part_started difference coding Cr pass.cr old) _ new cb.2 in
    subst IsOfOne (given (record { transform = Some coding.transform; y = y.0; cb = cb.0; cr = cr.0 }) new cr.2) (record {
      transform = coding.transform;
      is = refl;
      y = part-begun difference coding Y pass.y old y.0 y.1;
      cb = part-begun difference coding Cb pass.cb old cb.0 cb.1;
      cr = part-begun difference coding Cr pass.cr old cr.0 cr.1;
    })

-- an upgrade may follow where its transform is the record's
may-follow : (old : TileState) (t found : Transform) (positions : Component → List ℕ) (done : Unit {0}) → old.transform ≡ Some found → may_upgrade old t positions ≡ Ok done → found ≡ t
unfolding may_upgrade
may-follow old t found positions done is e =
    let same = and_then_ok (check TransformChanged (fits_transform old.transform t)) _ done e in
    same-transform found t (ap (λ f. fits_transform f t) (sym is) ∙ passes-check TransformChanged (fits_transform old.transform t) same.0 same.1)

-- each component of a record of one transform
each-of : (t : Transform) (old : TileState) (one : IsOfOne old) → one.transform ≡ t → (component : Component) → IsOf t (part_of old component)
each-of t old one same Y = subst (λ u. IsOf u old.y) same one.y
each-of t old one same Cb = subst (λ u. IsOf u old.cb) same one.cb
each-of t old one same Cr = subst (λ u. IsOf u old.cr) same one.cr

pub upgraded-one : (coding : Coding) (pass : UpgradePass) (old new : TileState) → IsOfOne old → improved coding pass old ≡ Ok new → (component : Component) → IsOf coding.transform (part_of old component)
unfolding improved
upgraded-one coding pass old new one e component =
    let may = and_then_ok (may_upgrade old coding.transform (positions_in coding)) _ new e in
    each-of coding.transform old one (may-follow old coding.transform one.transform (positions_in coding) may.0 one.is may.1) component

part-raised : (coding : Coding) (component : Component) (srl raw : List ℕ) (old : TileState) (new : Part) → IsOf coding.transform (part_of old component)
    → part_improved coding component srl raw old ≡ Ok new → IsOf coding.transform new
part-raised coding component srl raw old new was e = (
  raised was.0 (record { positions = positions_in coding component; srl = bits_of srl; bits = bits_of raw; entries = entries_of (pass_in coding component srl raw old) }),
  upgrade-made coding.transform was.0 (positions_in coding component) (bits_of srl) (bits_of raw) (part_of old component) new was.1 e,
)

pub improved-one : (coding : Coding) (pass : UpgradePass) (old new : TileState) → IsOfOne old → improved coding pass old ≡ Ok new → IsOfOne new
unfolding improved
improved-one coding pass old new one e =
    let may = and_then_ok (may_upgrade old coding.transform (positions_in coding)) _ new e in
    let y = and_then_ok (part_improved coding Y pass.y_srl pass.y_raw old) _ new may.2 in
    let cb = and_then_ok (part_improved coding Cb pass.cb_srl pass.cb_raw old) _ new y.2 in
    let cr = and_then_ok (part_improved coding Cr pass.cr_srl pass.cr_raw old) _ new cb.2 in
    let same : one.transform ≡ coding.transform = may-follow old coding.transform one.transform (positions_in coding) may.0 one.is may.1 in
    let each = each-of coding.transform old one same in
    subst IsOfOne (given (record { transform = old.transform; y = y.0; cb = cb.0; cr = cr.0 }) new cr.2) (record {
      transform = coding.transform;
      is = one.is ∙ ap Some same;
      y = part-raised coding Y pass.y_srl pass.y_raw old y.0 (each Y) y.1;
      cb = part-raised coding Cb pass.cb_srl pass.cb_raw old cb.0 (each Cb) cb.1;
      cr = part-raised coding Cr pass.cr_srl pass.cr_raw old cr.0 (each Cr) cr.1;
    })

-- ---- maps of records

pub with-one : (records : Records) (key : Key) (tile : TileState) → AreOfOne records → IsOfOne tile → AreOfOne (finmap.insert records key tile)
with-one records key tile were one q later there = by (eq_by_cmp key_cmp q key) refl (sym (get-insert key_total records key tile q) ∙ there)
  where
    by : (b : Bool) → eq_by_cmp key_cmp q key ≡ b → cond b (Some tile) (finmap.get records q) ≡ Some later → IsOfOne later
    by true e is = subst IsOfOne (some-given tile later is) one
      where
        some-given : (x y : TileState) → Some x ≡ Some y → x ≡ y
        some-given x y e = cc
    by false e is = were q later is

pub retained-one : (records : Records) (test : Key → Bool) → AreOfOne records → AreOfOne (finmap.retain_keys records test)
retained-one records test were q later there =
    by (test q) refl (sym (get-retain_keys records test q (λ x tie. ap test (sym (key_same q x tie)))) ∙ there)
  where
    by : (b : Bool) → test q ≡ b → cond b (finmap.get records q) None ≡ Some later → IsOfOne later
    by true e is = were q later is
    by false e is = absurd cc

pub none-yet : AreOfOne finmap.empty
none-yet q later there = absurd (nothing-there later (sym (get-empty key_cmp q) ∙ there))
  where
    nothing-there : (later : TileState) → None ≡ Some later → ⊥
    nothing-there later e = cc

-- ---- steps over a scene

first-stays : (place : Place) (region : RegionRead) (head : TileHead) (flags quality : ℕ) (pass : FirstPass) (old new : Scene) → AreOfOne old.records
    → after_first place region head flags quality pass old ≡ Ok new → AreOfOne new.records
unfolding after_first
first-stays place region head flags quality pass old new were e =
    let coding = and_then_ok (coding_of region old.picture.width old.picture.height head quality) _ new e in
    let may = and_then_ok (may_start (is_difference flags) (found old (key_of place head)) (finmap.len old.records) coding.0.transform) _ new coding.2 in
    let tile = and_then_ok (started (is_difference flags) coding.0 pass (start_of (found old (key_of place head)))) _ new may.2 in
    subst (λ s. AreOfOne s.records) (given (with_tile old (key_of place head) region.rects tile.0) new tile.2)
    (with-one old.records (key_of place head) tile.0 were (started-one (is_difference flags) coding.0 pass (start_of (found old (key_of place head))) tile.0 tile.1))

had : (found : Option TileState) (tile : TileState) → ok_or found NoFirstPass ≡ Ok tile → found ≡ Some tile
had None tile e = absurd (refused-not NoFirstPass tile e)
had (Some x) tile e = ap Some (given x tile e)

upgrade-stays : (place : Place) (region : RegionRead) (head : TileHead) (quality : ℕ) (pass : UpgradePass) (old new : Scene) → AreOfOne old.records
    → after_upgrade place region head quality pass old ≡ Ok new → AreOfOne new.records
unfolding after_upgrade
upgrade-stays place region head quality pass old new were e =
    let coding = and_then_ok (coding_of region old.picture.width old.picture.height head quality) _ new e in
    let before = and_then_ok (ok_or (found old (key_of place head)) NoFirstPass) _ new coding.2 in
    let tile = and_then_ok (improved coding.0 pass before.0) _ new before.2 in
    let one : IsOfOne before.0 = were (key_of place head) before.0 (had (found old (key_of place head)) before.0 before.1) in
    subst (λ s. AreOfOne s.records) (given (with_tile old (key_of place head) region.rects tile.0) new tile.2)
    (with-one old.records (key_of place head) tile.0 were (improved-one coding.0 pass before.0 tile.0 one tile.1))

pub tile-stays : (place : Place) (region : RegionRead) (tile : Tile) (old new : Scene) → AreOfOne old.records → after_tile place region tile old ≡ Ok new → AreOfOne new.records
tile-stays place region (Simple head flags pass) old new were e = first-stays place region head flags NO_QUALITY pass old new were e
tile-stays place region (First head flags quality pass) old new were e = first-stays place region head flags quality pass old new were e
tile-stays place region (Upgrade head quality pass) old new were e = upgrade-stays place region head quality pass old new were e

turns-stay : {X : Type 0} (step : X → Scene → Result Scene Refusal) → ((x : X) (old new : Scene) → AreOfOne old.records → step x old ≡ Ok new → AreOfOne new.records)
    → (xs : List X) (old new : Scene) → AreOfOne old.records → in_turn step xs old ≡ Ok new → AreOfOne new.records
unfolding in_turn
turns-stay step each [] old new were e = subst (λ s. AreOfOne s.records) (given old new e) were
turns-stay step each (x ∷ xs) old new were e =
    let next = and_then_ok (step x old) _ new e in
    turns-stay step each xs next.0 new (each x old next.0 were next.1) next.2

region-stays : (place : Place) (region : RegionRead) (old new : Scene) → AreOfOne old.records → after_region place region old ≡ Ok new → AreOfOne new.records
unfolding after_region
region-stays place region old new were e =
    let bases = and_then_ok (check QuantRange (are_bases region.quants)) _ new e in
    turns-stay (after_tile place region) (tile-stays place region) region.tiles old new were bases.2

block-stays : (place : Place) (block : Block) (old new : Scene) → AreOfOne old.records → after_block place block old ≡ Ok new → AreOfOne new.records
block-stays place (blocks.Region region) old new were e = region-stays place region old new were e
block-stays place block old new were e = subst (λ s. AreOfOne s.records) (given old new e) were

pub message-stays : (place : Place) (bytes : List ℕ) (old new : Scene) → AreOfOne old.records → after_message place bytes old ≡ Ok new → AreOfOne new.records
unfolding after_message
message-stays place bytes old new were e =
    let all = and_then_ok (blocks_of bytes) _ new e in
    turns-stay (after_block place) (block-stays place) all.0 old new were all.2
