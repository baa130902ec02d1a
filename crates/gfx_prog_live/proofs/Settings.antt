-- Live tiles are all of one setting.
use Rattle.std.proofs.Common.{◌≡◌, ap, sym, refl, subst, cond, not, Bool, true, false, ℕ, ◌+◌, List, [], ◌∷◌, map, length, Option, Some, None}
use Rattle.std.specs.Prelude.{◌==◌, ◌&&◌, IfSome, nat_lt, if◌then◌else◌}
use Rattle.std.specs.FinMap.{empty, get, get-empty, get-insert, get-retain_keys, retain_keys}
use Rattle.std.specs.List.{AllByRecursion, cons_option, filter_map}
use Rattle.std.specs.Option.{option_and_then}
use Rattle.std.specs.Ordering.{eq_by_cmp}
use Rattle.gfx_base.specs.declared.geometry.Cell.{Cell}
use Rattle.gfx_base.specs.declared.geometry.Rect.{Rect}
use Rattle.gfx_base.specs.Cells.{cells_met}
use Rattle.gfx_quant.specs.declared.setting.Setting.{Setting}
use Rattle.gfx_prog_decode.specs.declared.key.Key.{Key}
use Rattle.gfx_prog_decode.specs.Records.{key_cmp}
use Rattle.gfx_prog_decode.proofs.Keys.{key_same, key_total}
use Rattle.gfx_prog_encode.specs.declared.send.TileSend.{TileSend}
use Rattle.gfx_script.specs.declared.picture.Picture.{Picture}
use Rattle.gfx_script.specs.Scripted.{Script}
use Rattle.gfx_script.specs.Writes.{Area}
use Rattle.gfx_tile_make.specs.Source.{SourceTile, difference_of}
use Rattle.gfx_prog_live.specs.Cells.{cell_key}
use Rattle.gfx_prog_live.specs.Inside.{AreBy, IsBy}
use Rattle.gfx_prog_live.specs.Live.{Live, Passes, after_sends, ended_in, improved_sends, painted_sends, passes_after, raised, send_of, with_live, without_surface}
use Rattle.gfx_prog_live.specs.Tiles.{gone_on, is_in_range}
use Rattle.gfx_prog_live.proofs.Ending.{lies}
use Rattle.gfx_prog_live.proofs.InPlace.{if_kept}

-- none
pub none_by : (setting : Setting) → AreBy setting empty
none_by setting key = subst (λ o. IfSome o (IsBy setting)) (sym (get-empty key_cmp key)) tt

-- those that a test leaves
retained_by : (setting : Setting) (live : Live) (test : Key → Bool) → AreBy setting live → AreBy setting (retain_keys live test)
retained_by setting live test are key =
    subst (λ o. IfSome o (IsBy setting)) (sym (get-retain_keys live test key (λ x tie. ap test (sym (key_same key x tie)))))
    (if_kept (test key) (get live key) (IsBy setting) (are key))

-- those that a change leaves
pub ended_by : (setting : Setting) (live : Live) (area : Area) → AreBy setting live → AreBy setting (ended_in live area)
ended_by setting live area = retained_by setting live (λ key. not (lies area key))

-- those of the other surfaces
pub without_surface_by : (setting : Setting) (live : Live) (id : ℕ) → AreBy setting live → AreBy setting (without_surface live id)
without_surface_by setting live id = retained_by setting live (λ key. not (key.surface == id))

-- those with one that was sent
with_by : (setting : Setting) (id : ℕ) (live : Live) (send : TileSend) → IsBy setting send → AreBy setting live → AreBy setting (with_live id live send)
with_by setting id live send is are key =
    subst (λ o. IfSome o (IsBy setting)) (sym (get-insert key_total live (cell_key id send.cell) send key))
    (by (eq_by_cmp key_cmp key (cell_key id send.cell)))
  where
    by : (b : Bool) → IfSome (cond b (Some send) (get live key)) (IsBy setting)
    by true = is
    by false = are key

-- those after tiles of the setting were sent
pub after_sends_by : (setting : Setting) (id : ℕ) (sends : List TileSend) (live : Live) → AllByRecursion (IsBy setting) sends → AreBy setting live
    → AreBy setting (after_sends id sends live)
after_sends_by setting id [] live each are = are
after_sends_by setting id (send ∷ sends) live each are = after_sends_by setting id sends (with_live id live send) each.1 (with_by setting id live send each.0 are)

either : (b : Bool) (x y : SourceTile) (setting : Setting) → x.setting ≡ setting → y.setting ≡ setting → (if b then x else y).setting ≡ setting
either true x y setting e f = e
either false x y setting e f = f

-- a tile keeps its setting, whatever it goes on
gone_on_by : (differences : Bool) (before : Option TileSend) (tile : SourceTile) → (gone_on differences before tile).setting ≡ tile.setting
unfolding gone_on
gone_on_by differences None tile = refl
gone_on_by differences (Some old) tile =
    either (differences && (old.level == length old.tile.setting.levels) && is_in_range (difference_of tile old.tile)) (difference_of tile old.tile) tile tile.setting refl refl

sent_by : (script : Script) (live : Live) (id : ℕ) (picture : Picture) (rect : Rect) (c : Cell) → IsBy script.setting (send_of script live id picture rect c)
unfolding send_of
sent_by script live id picture rect c = gone_on_by script.differences (get live (cell_key id c)) _

each_sent_by : (script : Script) (live : Live) (id : ℕ) (picture : Picture) (rect : Rect) (cells : List Cell)
    → AllByRecursion (IsBy script.setting) (map (send_of script live id picture rect) cells)
each_sent_by script live id picture rect [] = tt
each_sent_by script live id picture rect (c ∷ cells) = (sent_by script live id picture rect c, each_sent_by script live id picture rect cells)

-- what a paint sends is of the script's setting
pub painted_by : (script : Script) (live : Live) (id : ℕ) (picture : Picture) (rect : Rect) → AllByRecursion (IsBy script.setting) (painted_sends script live id picture rect)
painted_by script live id picture rect = each_sent_by script live id picture rect (cells_met rect)

raised_by : (setting : Setting) (send : TileSend) → IsBy setting send → IfSome (raised send) (IsBy setting)
unfolding raised
raised_by setting send is = by (nat_lt send.level (length send.tile.setting.levels))
  where
    by : (b : Bool) → IfSome (if b then Some (record send { level = send.level + 1 }) else None) (IsBy setting)
    by true = is
    by false = tt

found_by : (setting : Setting) (o : Option TileSend) → IfSome o (IsBy setting) → IfSome (option_and_then raised o) (IsBy setting)
found_by setting None is = tt
found_by setting (Some send) is = raised_by setting send is

each_found_by : (setting : Setting) (found : Cell → Option TileSend) → ((c : Cell) → IfSome (found c) (IsBy setting)) → (cells : List Cell)
    → AllByRecursion (IsBy setting) (filter_map found cells)
each_found_by setting found each [] = tt
each_found_by setting found each (c ∷ cells) = by (found c) (each c) (each_found_by setting found each cells)
  where
    by : (o : Option TileSend) → IfSome o (IsBy setting) → AllByRecursion (IsBy setting) (filter_map found cells) → AllByRecursion (IsBy setting) (cons_option o (filter_map found cells))
    by None is rest = rest
    by (Some send) is rest = (is, rest)

-- what an improvement sends is of the setting of the live tiles
pub improved_by : (setting : Setting) (live : Live) (id width height : ℕ) → AreBy setting live → AllByRecursion (IsBy setting) (improved_sends live id width height)
improved_by setting live id width height are =
    each_found_by setting _ (λ c. found_by setting (get live (cell_key id c)) (are (cell_key id c))) _

-- so they are after a paint
pub painted_after_by : (script : Script) (id : ℕ) (picture : Picture) (rect : Rect) (passes : Passes) → AreBy script.setting passes.live
    → AreBy script.setting (passes_after id (painted_sends script passes.live id picture rect) passes).live
painted_after_by script id picture rect passes are =
    after_sends_by script.setting id (painted_sends script passes.live id picture rect) passes.live (painted_by script passes.live id picture rect) are

-- and after an improvement
pub improved_after_by : (setting : Setting) (id width height : ℕ) (passes : Passes) → AreBy setting passes.live
    → AreBy setting (passes_after id (improved_sends passes.live id width height) passes).live
improved_after_by setting id width height passes are =
    after_sends_by setting id (improved_sends passes.live id width height) passes.live (improved_by setting passes.live id width height are) are
