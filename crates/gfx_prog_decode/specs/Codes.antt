-- How a tile's record is coded, as the value of a model has to be.
use Rattle.std.specs.Prelude.{◌≡◌, refl, ℕ, ℤ, Bool, true, false, List, Option}
use Rattle.std.specs.Coded.{Coded, code_by, coded×, coded_ℕ, coded_ℤ, coded_bool, coded_list, coded_option}
use Rattle.gfx_dwt.specs.declared.layout.Transform.{Transform}
use Rattle.gfx_dwt.specs.declared.layout.Transform.TheVariants.{Plain, Reduced}
use Rattle.gfx_tile_state.specs.Passes.{Part}
use Rattle.gfx_tile_state.specs.declared.state.TileState.{TileState}

abbrev is_plain : Transform → Bool
is_plain Plain = true
is_plain Reduced = false

abbrev plain_where : Bool → Transform
plain_where true = Plain
plain_where false = Reduced

abbrev same_transform : (t : Transform) → plain_where (is_plain t) ≡ t
same_transform Plain = refl
same_transform Reduced = refl

-- a transform is stored as whether it is the plain one
abbrev pub transform_code : Coded Transform
transform_code = code_by Bool coded_bool is_plain plain_where same_transform

-- a component as its planes and positions
abbrev pub part_code : Coded Part
part_code =
    code_by (List ℤ × (List ℤ × List ℕ)) (coded× (coded_list coded_ℤ) (coded× (coded_list coded_ℤ) (coded_list coded_ℕ)))
    (λ p. (p.kept, (p.sums, p.positions))) (λ t. record { kept = t.0; sums = t.1.0; positions = t.1.1 }) (λ _. refl)

-- a record as its transform and its components
abbrev pub tile_code : Coded TileState
tile_code =
    code_by (Option Transform × (Part × (Part × Part))) (coded× (coded_option transform_code) (coded× part_code (coded× part_code part_code)))
    (λ t. (t.transform, (t.y, (t.cb, t.cr)))) (λ t. record { transform = t.0; y = t.1.0; cb = t.1.1.0; cr = t.1.1.1 }) (λ _. refl)
