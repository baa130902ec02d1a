-- How live tiles are coded, as the value of a model has to be: this project's own words.
use mathlib.Core.Bool.{Bool-set, true, false}
use base.Stored.{coded_sub}
use Rattle.std.specs.Prelude.{◌≡◌, refl, ℕ, ℤ, Bool, IsTrue, List}
use Rattle.std.specs.Coded.{Coded, code_by, coded×, coded_ℕ, coded_ℤ, coded_bool, coded_list}
use Rattle.std.specs.FinMap as finmap
use Rattle.gfx_base.specs.declared.geometry.Rect.{Rect}
use Rattle.gfx_dwt.specs.declared.layout.Transform.{Transform}
use Rattle.gfx_quant.specs.declared.quant.Quant.{Quant}
use Rattle.gfx_quant.specs.declared.rounding.Rounding.{Rounding}
use Rattle.gfx_quant.specs.declared.rounding.Rounding.TheVariants.{Zero, Nearest}
use Rattle.gfx_quant.specs.declared.setting.Level.{Level}
use Rattle.gfx_quant.specs.declared.setting.Setting.{Setting}
use Rattle.gfx_quant.specs.Quant.{are_nibbles}
use Rattle.gfx_tile_make.specs.Source.{Planes, SourceTile}
use Rattle.gfx_prog_decode.specs.Codes.{transform_code}
use Rattle.gfx_prog_decode.specs.Records.{key_code}
use Rattle.gfx_base.specs.Cells.{cell}
use Rattle.gfx_base.specs.Codes.{rect_code}
use Rattle.gfx_prog_encode.specs.declared.send.TileSend.{TileSend}
use Rattle.gfx_prog_live.specs.Live.{Live, Passes}

abbrev quant_code : Coded Quant
quant_code =
    code_by ((values : List ℕ) × IsTrue (are_nibbles values)) (coded_sub (coded_list coded_ℕ) (λ values. IsTrue (are_nibbles values)) (λ values. Bool-set (are_nibbles values) true))
    (λ q. (q.values, q.nibbles)) (λ t. record { values = t.0; nibbles = t.1 }) (λ _. refl)

abbrev level_code : Coded Level
level_code =
    code_by (Quant × (Quant × Quant)) (coded× quant_code (coded× quant_code quant_code))
    (λ l. (l.y, (l.cb, l.cr))) (λ t. record { y = t.0; cb = t.1.0; cr = t.1.1 }) (λ _. refl)

abbrev is_zero : Rounding → Bool
is_zero Zero = true
is_zero Nearest = false

abbrev zero_where : Bool → Rounding
zero_where true = Zero
zero_where false = Nearest

abbrev same_rounding : (rounding : Rounding) → zero_where (is_zero rounding) ≡ rounding
same_rounding Zero = refl
same_rounding Nearest = refl

-- a setting as its transform, its rounding, its quants and its levels
abbrev setting_code : Coded Setting
setting_code =
    code_by (Transform × (Rounding × (Quant × (Quant × (Quant × List Level)))))
    (coded× transform_code (coded× (code_by Bool coded_bool is_zero zero_where same_rounding) (coded× quant_code (coded× quant_code (coded× quant_code (coded_list level_code))))))
    (λ s. (s.transform, (s.rounding, (s.y, (s.cb, (s.cr, s.levels))))))
    (λ t. record { transform = t.0; rounding = t.1.0; y = t.1.1.0; cb = t.1.1.1.0; cr = t.1.1.1.1.0; levels = t.1.1.1.1.1 }) (λ _. refl)

abbrev planes_code : Coded Planes
planes_code =
    code_by (List ℤ × List ℤ) (coded× (coded_list coded_ℤ) (coded_list coded_ℤ))
    (λ p. (p.own, p.kept)) (λ t. record { own = t.0; kept = t.1 }) (λ _. refl)

-- a tile as its setting, its components, and whether it goes on another
abbrev source_code : Coded SourceTile
source_code =
    code_by (Setting × (Planes × (Planes × (Planes × Bool)))) (coded× setting_code (coded× planes_code (coded× planes_code (coded× planes_code coded_bool))))
    (λ s. (s.setting, (s.y, (s.cb, (s.cr, s.difference)))))
    (λ t. record { setting = t.0; y = t.1.0; cb = t.1.1.0; cr = t.1.1.1.0; difference = t.1.1.1.1 }) (λ _. refl)

-- a tile as it was sent
abbrev send_code : Coded TileSend
send_code =
    code_by (ℕ × (ℕ × (Rect × (SourceTile × ℕ)))) (coded× coded_ℕ (coded× coded_ℕ (coded× rect_code (coded× source_code coded_ℕ))))
    (λ s. (s.cell.x, (s.cell.y, (s.rect, (s.tile, s.level)))))
    (λ t. record { cell = cell t.0 t.1.0; rect = t.1.1.0; tile = t.1.1.1.0; level = t.1.1.1.1 }) (λ _. refl)

abbrev pub live_code : Coded Live
live_code = finmap.code key_code send_code

-- live tiles and the numbers of the next messages
abbrev pub passes_code : Coded Passes
passes_code =
    code_by (Live × (ℕ × ℕ)) (coded× live_code (coded× coded_ℕ coded_ℕ)) (λ p. (p.live, (p.next, p.videos))) (λ t. record { live = t.0; next = t.1.0; videos = t.1.1 }) (λ _. refl)
