-- How damage is coded, as the value of a model has to be.
use Rattle.std.specs.Prelude.{ℕ, Bool, refl}
use Rattle.std.specs.Coded.{Coded, code_by, coded×, coded_ℕ, coded_bool, coded_list}
use Rattle.std.specs.FinMap as finmap
use Rattle.gfx_base.specs.Codes.{rect_code}
use Rattle.gfx_damage.specs.Damage.{Damage, Marks}

abbrev pub damage_code : Coded Damage
damage_code =
    code_by (Bool × (Bool × Marks)) (coded× coded_bool (coded× coded_bool (finmap.code coded_ℕ (coded_list rect_code))))
    (λ d. (d.ended, (d.whole, d.marks)))
    (λ t. record { ended = t.0; whole = t.1.0; marks = t.1.1 }) (λ _. refl)
