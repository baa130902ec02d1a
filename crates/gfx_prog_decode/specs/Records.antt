-- The records that progressive messages leave ([MS-RDPEGFX] 3.2.8): at most one for each surface, encoding context
-- and cell. How many there may be is this project's own rule.
use Rattle.std.specs.Prelude.{refl, ℕ, ◌==◌, ◌&&◌, not, List, [], ◌∷◌}
use Rattle.std.specs.Coded.{Coded, code_by, coded×, coded_ℕ}
use Rattle.std.specs.Cmp.Lexicographic.{slice_cmp}
use Rattle.std.specs.FinMap as finmap
use Rattle.std.specs.FinMap.{FinMap}
use Rattle.std.specs.Ordering.{nat_cmp, on}
use Rattle.std.specs.declared.cmp.Ordering.{Ordering}
use Rattle.gfx_tile_state.specs.declared.state.TileState.{TileState}
use Rattle.gfx_prog_decode.specs.declared.key.Key.{Key}
use Rattle.gfx_prog_decode.specs.Codes.{tile_code}

-- a key as its numbers: surface, context, column and row of the cell
abbrev pub numbers : Key → List ℕ
numbers key = key.surface ∷ key.context ∷ key.x ∷ key.y ∷ []

-- keys are ordered by their numbers
abbrev pub key_cmp : Key → Key → Ordering
key_cmp = on numbers (slice_cmp nat_cmp)

-- records by their keys
abbrev pub Records : Type 0
Records = FinMap key_cmp TileState

-- how keys and records are coded, as the value of a model has to be
abbrev pub key_code : Coded Key
key_code =
    code_by (ℕ × (ℕ × (ℕ × ℕ))) (coded× coded_ℕ (coded× coded_ℕ (coded× coded_ℕ coded_ℕ)))
    (λ k. (k.surface, (k.context, (k.x, k.y)))) (λ t. record { surface = t.0; context = t.1.0; x = t.1.1.0; y = t.1.1.1 }) (λ _. refl)

abbrev pub records_code : Coded Records
records_code = finmap.code key_code tile_code

-- the records without those of a surface
abbrev pub without_surface : Records → ℕ → Records
without_surface records id = finmap.retain_keys records (λ key. not (key.surface == id))

-- the records without those of a surface's context
abbrev pub without_context : Records → ℕ → ℕ → Records
without_context records id context = finmap.retain_keys records (λ key. not (key.surface == id && key.context == context))
