-- The versions that a script's client offers ([MS-RDPEGFX] 2.2.3, and RDPGFX_CAPS_FLAG_SMALL_CACHE and
-- RDPGFX_CAPS_FLAG_THINCLIENT there): this project's own rule.
use Rattle.std.specs.Prelude.{ℕ, Bool, false, ◌==◌, ◌&&◌, nat_le, if◌then◌else◌, List, [], ◌∷◌, length, Option, Some, None, Result, Ok, Err, codes}
use Rattle.std.specs.Option.{ok_or}
use Rattle.std.specs.Str.{bytes_eq}
use Rattle.toml.specs.Data.{Data, as_bool, as_table, get_member}
use Rattle.gfx_base.specs.Results.{◌>>=◌, check, each}
use Rattle.gfx_caps.specs.declared.offer.Offer.{Offer}
use Rattle.gfx_caps.specs.declared.versions.TheConstants.{VERSION_8, VERSION_8_1, VERSION_10}
use Rattle.gfx_script.specs.declared.TheConstants.{MOST_VERSIONS}
use Rattle.gfx_script.specs.declared.error.ScriptKind.{ScriptKind}
use Rattle.gfx_script.specs.declared.error.ScriptKind.TheVariants.{Key, Range}
use Rattle.gfx_script_text.specs.Members.{flag_or_false, has_only, text}

-- the version that a word names
abbrev pub version_named : List ℕ → Result ℕ ScriptKind
version_named word =
    if bytes_eq word (codes "8") then Ok VERSION_8
    else if bytes_eq word (codes "8.1") then Ok VERSION_8_1
    else if bytes_eq word (codes "10") then Ok VERSION_10
    else Err Key

-- whether the client is thin with a version, by what stands under `thin`: a table of version 10 has no such key
abbrev pub thin_with : ℕ → Option Data → Result Bool ScriptKind
thin_with version None = Ok false
thin_with version (Some value) = if version == VERSION_10 then Err Key else ok_or (as_bool value) Key

-- the offer that a value is
unfoldable pub offer_in : Data → Result Offer ScriptKind
offer_in value = do
  table ← ok_or (as_table value) Key
  known ← check Key (has_only (codes "version" ∷ codes "small" ∷ codes "thin" ∷ []) table)
  word ← text (codes "version") table
  version ← version_named word
  small ← flag_or_false (get_member (codes "small") table)
  thin ← thin_with version (get_member (codes "thin") table)
  Ok record { version = version; small = small; thin = thin }

-- what is offered without `client`
abbrev pub usual_offer : Offer
usual_offer = record { version = VERSION_10; small = false; thin = false }

-- the offers of the values of `client`, if there are any
unfoldable pub offers_of : Option (List Data) → Result (List Offer) ScriptKind
offers_of None = Ok (usual_offer ∷ [])
offers_of (Some values) = do
  few ← check Range (nat_le 1 (length values) && nat_le (length values) MOST_VERSIONS)
  each offer_in values
