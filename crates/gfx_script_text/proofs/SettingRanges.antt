-- The setting of a script's progressive paints: it is accepted, and each component has ten numbers.
use Rattle.std.proofs.Common.{◌≡◌, ℕ, suc, ◌≤◌, true, List, [], ◌∷◌, length, Option, Some, None, Ok, refl, sym, ap, ◌∙◌, subst, arith}
use Rattle.std.proofs.lemmas.Bool.{eqb-true}
use Rattle.std.proofs.lemmas.List.Elements.{All-from_recursion}
use Rattle.std.specs.List.{AllByRecursion}
use Rattle.toml.specs.Data.{Data, Members}
use Rattle.gfx_base.specs.Results.{Has}
use Rattle.gfx_base.proofs.ResultLemmas.{and_then_ok, chain, gives, check_ok, length-each}
use Rattle.gfx_dwt.specs.declared.layout.Transform.{Transform}
use Rattle.gfx_quant.specs.declared.rounding.Rounding.{Rounding}
use Rattle.gfx_quant.specs.declared.quant.Component.{Component}
use Rattle.gfx_quant.specs.declared.quant.Component.TheVariants.{Y, Cb, Cr}
use Rattle.gfx_quant.specs.declared.quant.Quant.{Quant}
use Rattle.gfx_quant.specs.declared.quant.TheConstants.{LEAST_BASE, MOST_BITS}
use Rattle.gfx_quant.specs.declared.setting.Level.{Level}
use Rattle.gfx_quant.specs.declared.setting.Setting.{Setting}
use Rattle.gfx_quant.specs.declared.setting.TheConstants.{MOST_LEVELS}
use Rattle.gfx_quant.specs.Setting as quant
use Rattle.gfx_quant.specs.Setting.{IsSetting, of_level}
use Rattle.gfx_script.specs.declared.error.ScriptKind.TheVariants.{Range}
use Rattle.gfx_script_text.specs.declared.TheConstants.{MOST_LEFT_OUT}
use Rattle.gfx_script_text.specs.declared.levels.Bases.{Bases}
use Rattle.gfx_script_text.specs.declared.progressive.Progressive.{Progressive}
use Rattle.gfx_script_text.specs.Progressive.{usual_base, usual_level, usual_setting, usual_progressive, number_in, quant_with, quant_of, base_of, bases_of, level_with, level_in, next_level, levels_behind, levels_of, accepted, setting_with, progressive_in, progressive_of}
use Rattle.gfx_script_text.proofs.Ranges.{range_passed}

-- ---- one component

abbrev IsTen : Quant → Type 0
IsTen quant = length quant.values ≡ 10

-- the numbers of a quant are those that it was made of
quant_with-same : (values : List ℕ) → Has (quant_with values) (λ quant. quant.values ≡ values)
unfolding quant_with
quant_with-same values = chain _ _ (λ quant. quant.values ≡ values) (λ small found. gives _ (λ quant. quant.values ≡ values) refl)

quant_of-ten : (least most : ℕ) (items : List Data) → Has (quant_of least most items) IsTen
unfolding quant_of
quant_of-ten least most items =
    chain _ _ IsTen (λ ten are_ten.
    chain _ _ IsTen (λ values found.
    record {
      each = λ quant is.
          ap length ((quant_with-same values).each quant is) ∙ length-each (number_in least most) items values found
          ∙ eqb-true (length items) 10 (check_ok Range _ are_ten);
    }))

base_of-ten : (items : Option (List Data)) → Has (base_of items) IsTen
unfolding base_of
base_of-ten None = gives usual_base IsTen refl
base_of-ten (Some items) = quant_of-ten LEAST_BASE MOST_BITS items

-- each component has ten
record AreTens (bases : Bases) : Type 0 where
  y : IsTen bases.y
  cb : IsTen bases.cb
  cr : IsTen bases.cr

bases_of-ten : (y cb cr : Option (List Data)) → Has (bases_of y cb cr) AreTens
unfolding bases_of
bases_of-ten y cb cr =
    chain _ _ AreTens (λ y_in found_y.
    chain _ _ AreTens (λ cb_in found_cb.
    chain _ _ AreTens (λ cr_in found_cr.
    gives _ AreTens record { y = (base_of-ten y).each y_in found_y; cb = (base_of-ten cb).each cb_in found_cb; cr = (base_of-ten cr).each cr_in found_cr })))

-- ---- levels

-- each component of a level has ten numbers
abbrev IsWhole : Level → Type 0
IsWhole level = (component : Component) → length (of_level component level) ≡ 10

level_whole : (level : Level) → IsTen level.y → IsTen level.cb → IsTen level.cr → IsWhole level
level_whole level y cb cr Y = y
level_whole level y cb cr Cb = cb
level_whole level y cb cr Cr = cr

level_with-whole : (y cb cr : List Data) → Has (level_with y cb cr) IsWhole
unfolding level_with
level_with-whole y cb cr =
    chain _ _ IsWhole (λ y_in found_y.
    chain _ _ IsWhole (λ cb_in found_cb.
    chain _ _ IsWhole (λ cr_in found_cr.
    gives _ IsWhole
    (level_whole record { y = y_in; cb = cb_in; cr = cr_in } ((quant_of-ten 0 MOST_LEFT_OUT y).each y_in found_y) ((quant_of-ten 0 MOST_LEFT_OUT cb).each cb_in found_cb)
    ((quant_of-ten 0 MOST_LEFT_OUT cr).each cr_in found_cr)))))

level_in-whole : (value : Data) → Has (level_in value) IsWhole
unfolding level_in
level_in-whole value =
    chain _ _ IsWhole (λ table found_table.
    chain _ _ IsWhole (λ known passed.
    chain _ _ IsWhole (λ y found_y.
    chain _ _ IsWhole (λ cb found_cb.
    chain _ _ IsWhole (λ cr found_cr. level_with-whole y cb cr)))))

next_level-whole : (bases : Bases) (before : Option Level) (value : Data) → Has (next_level bases before value) IsWhole
unfolding next_level
next_level-whole bases before value =
    chain _ _ IsWhole (λ level found. chain _ _ IsWhole (λ fits are_fit. gives level IsWhole ((level_in-whole value).each level found)))

-- what holds of levels that were read from so many values
record AreRead (count : ℕ) (levels : List Level) : Type 0 where
  many : length levels ≡ count
  each : AllByRecursion IsWhole levels

levels_behind-read : (bases : Bases) (before : Option Level) (values : List Data) (levels : List Level) → levels_behind bases before values ≡ Ok levels → AreRead (length values) levels
unfolding levels_behind
levels_behind-read bases before [] levels is = subst (AreRead 0) (let e : [] ≡ levels = cc in e) record { many = refl; each = tt }
levels_behind-read bases before (value ∷ values) levels is =
    let first = and_then_ok (next_level bases before value) _ levels is in
    let others = and_then_ok (levels_behind bases (Some first.0) values) _ levels first.2 in
    let same : first.0 ∷ others.0 ≡ levels = let h = others.2 in cc in
    let rest = levels_behind-read bases (Some first.0) values others.0 others.1 in
    subst (AreRead (suc (length values))) same record { many = ap suc rest.many; each = ((next_level-whole bases before value).each first.0 first.1, rest.each) }

-- few levels
record AreLevels (levels : List Level) : Type 0 where
  few : length levels ≤ MOST_LEVELS
  each : AllByRecursion IsWhole levels

usual_level-whole : IsWhole usual_level
usual_level-whole = level_whole usual_level refl refl refl

levels_of-good : (bases : Bases) (values : Option (List Data)) → Has (levels_of bases values) AreLevels
unfolding levels_of
levels_of-good bases None = gives _ AreLevels record { few = omega arith; each = (usual_level-whole, tt) }
levels_of-good bases (Some values) =
    chain _ _ AreLevels (λ few are_few.
    record {
      each = λ levels found.
          let read = levels_behind-read bases None values levels found in
          record { few = subst (λ n. n ≤ MOST_LEVELS) (sym read.many) (range_passed 1 MOST_LEVELS (length values) (check_ok Range _ are_few)).1; each = read.each };
    })

-- ---- the whole

base_whole : (setting : Setting) → IsTen setting.y → IsTen setting.cb → IsTen setting.cr → (component : Component) → length (quant.base_of component setting) ≡ 10
base_whole setting y cb cr Y = y
base_whole setting y cb cr Cb = cb
base_whole setting y cb cr Cr = cr

good_setting : (setting : Setting) → quant.is_accepted setting ≡ true → IsTen setting.y → IsTen setting.cb → IsTen setting.cr → AreLevels setting.levels → IsSetting setting
good_setting setting fine y cb cr levels = record {
  accepted = fine;
  bases = base_whole setting y cb cr;
  levels = All-from_recursion IsWhole setting.levels levels.each;
  few = levels.few;
}

setting_with-good : (transform : Transform) (rounding : Rounding) (y cb cr levels : Option (List Data)) → Has (setting_with transform rounding y cb cr levels) IsSetting
unfolding setting_with accepted
setting_with-good transform rounding y cb cr levels =
    chain _ _ IsSetting (λ bases found_bases.
    chain _ _ IsSetting (λ levels_in found_levels.
    chain _ _ IsSetting (λ fine is_fine.
    let tens = (bases_of-ten y cb cr).each bases found_bases in
    gives _ IsSetting
    (good_setting record { transform = transform; rounding = rounding; y = bases.y; cb = bases.cb; cr = bases.cr; levels = levels_in } (check_ok Range _ is_fine) tens.y tens.cb tens.cr
    ((levels_of-good bases levels).each levels_in found_levels)))))

usual_setting-good : IsSetting usual_setting
unfolding quant.is_fine quant.all_below quant.stays_within quant.falls_well
usual_setting-good = good_setting usual_setting refl refl refl refl record { few = omega arith; each = (usual_level-whole, tt) }

-- the setting that a script's text says
abbrev HasSetting : Progressive → Type 0
HasSetting progressive = IsSetting progressive.setting

progressive_in-good : (table : Members) → Has (progressive_in table) HasSetting
unfolding progressive_in
progressive_in-good table =
    chain _ _ HasSetting (λ known passed.
    chain _ _ HasSetting (λ transform found_transform.
    chain _ _ HasSetting (λ rounding found_rounding.
    chain _ _ HasSetting (λ y found_y.
    chain _ _ HasSetting (λ cb found_cb.
    chain _ _ HasSetting (λ cr found_cr.
    chain _ _ HasSetting (λ levels found_levels.
    chain _ _ HasSetting (λ differences found_differences.
    chain _ _ HasSetting (λ setting found_setting.
    gives _ HasSetting ((setting_with-good transform rounding y cb cr levels).each setting found_setting))))))))))

pub progressive_of-good : (table : Option Members) → Has (progressive_of table) HasSetting
unfolding progressive_of
progressive_of-good None = gives usual_progressive HasSetting usual_setting-good
progressive_of-good (Some table) = progressive_in-good table
