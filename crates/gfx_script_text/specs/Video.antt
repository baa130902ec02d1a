-- How the video paints of a script are coded, and what of it a script says under `video`: this project's own rule.
use Rattle.std.specs.Prelude.{ℕ, if◌then◌else◌, List, [], ◌∷◌, Option, Some, None, Result, Ok, Err, codes}
use Rattle.std.specs.Option.{ok_or}
use Rattle.std.specs.Str.{bytes_eq}
use Rattle.toml.specs.Data.{Data, Members, get_member, as_str}
use Rattle.gfx_base.specs.Results.{◌>>=◌, check}
use Rattle.gfx_script.specs.declared.error.ScriptKind.{ScriptKind}
use Rattle.gfx_script.specs.declared.error.ScriptKind.TheVariants.{Key}
use Rattle.gfx_script.specs.declared.step.Entropy.{Entropy}
use Rattle.gfx_script.specs.declared.step.Entropy.TheVariants.{One, Three}
use Rattle.gfx_script_text.specs.Members.{has_only}

-- the code that a word names ([MS-RDPRFX] 3.1.8.1.7)
abbrev pub entropy_named : List ℕ → Result Entropy ScriptKind
entropy_named word =
    if bytes_eq word (codes "rlgr1") then Ok One
    else if bytes_eq word (codes "rlgr3") then Ok Three
    else Err Key

-- the code, which may be missing
abbrev pub entropy_or_usual : Option Data → Result Entropy ScriptKind
entropy_or_usual None = Ok One
entropy_or_usual (Some value) = do
  word ← ok_or (as_str value) Key
  entropy_named word

-- what a table says
unfoldable pub video_in : Members → Result Entropy ScriptKind
video_in table = do
  known ← check Key (has_only (codes "entropy" ∷ []) table)
  entropy_or_usual (get_member (codes "entropy") table)

-- the same of the table under `video`, if there is one
unfoldable pub video_of : Option Members → Result Entropy ScriptKind
video_of None = Ok One
video_of (Some table) = video_in table
