-- How a state is coded, as the value of a model has to be.
use Rattle.std.specs.Prelude.{ℕ, List, Option, refl}
use Rattle.std.specs.Coded.{Coded, code_by, coded×, coded_ℕ, coded_list, coded_option}
use Rattle.gfx_base.specs.declared.pixel.Rgb.{Rgb}
use Rattle.gfx_bitmap_cache.specs.Slots.{Cached}
use Rattle.gfx_bitmap_cache.specs.Codes.{cached_code}
use Rattle.gfx_surface_map.specs.Shown.{Shown, shown_code}
use Rattle.gfx_clear_store.specs.Rings.{Places, Rings}
use Rattle.gfx_glyph.specs.declared.glyph.Glyph.{Glyph}
use Rattle.gfx_clear.specs.State.{ClearState}
use Rattle.gfx_prog_decode.specs.Records.{Records, records_code}
use Rattle.gfx_state.specs.State.{State}

-- a colour as three numbers
abbrev colour_code : Coded Rgb
colour_code = code_by (ℕ × (ℕ × ℕ)) (coded× coded_ℕ (coded× coded_ℕ coded_ℕ)) (λ c. (c.b, (c.g, c.r))) (λ t. record { b = t.0; g = t.1.0; r = t.1.1 }) (λ _. refl)

abbrev places_code : Coded Places
places_code =
    code_by (List (Option (List Rgb)) × ℕ) (coded× (coded_list (coded_option (coded_list colour_code))) coded_ℕ)
    (λ p. (p.slots, p.cursor)) (λ t. record { slots = t.0; cursor = t.1 }) (λ _. refl)

abbrev rings_code : Coded Rings
rings_code = code_by (Places × Places) (coded× places_code places_code) (λ r. (r.bars, r.shorts)) (λ t. record { bars = t.0; shorts = t.1 }) (λ _. refl)

abbrev glyph_code : Coded Glyph
glyph_code =
    code_by (ℕ × (ℕ × List Rgb)) (coded× coded_ℕ (coded× coded_ℕ (coded_list colour_code)))
    (λ g. (g.width, (g.height, g.pixels))) (λ t. record { width = t.0; height = t.1.0; pixels = t.1.1 }) (λ _. refl)

-- what ClearCodec streams left
abbrev pub clear_code : Coded ClearState
clear_code =
    code_by (Rings × (List (Option Glyph) × Option ℕ)) (coded× rings_code (coded× (coded_list (coded_option glyph_code)) (coded_option coded_ℕ)))
    (λ c. (c.rings, (c.glyphs, c.expected))) (λ t. record { rings = t.0; glyphs = t.1.0; expected = t.1.1 }) (λ _. refl)

abbrev pub state_code : Coded State
state_code =
    code_by (Shown × (Cached × (ClearState × (Records × (Option ℕ × ℕ)))))
    (coded× shown_code (coded× cached_code (coded× clear_code (coded× records_code (coded× (coded_option coded_ℕ) coded_ℕ)))))
    (λ s. (s.shown, (s.cache, (s.clear, (s.records, (s.frame, s.decoded))))))
    (λ t. record { shown = t.0; cache = t.1.0; clear = t.1.1.0; records = t.1.1.1.0; frame = t.1.1.1.1.0; decoded = t.1.1.1.1.1 }) (λ _. refl)
