-- The names of what may be wrong with a script: this project's own.
use Rattle.std.specs.Prelude.{ℕ, List, codes}
use Rattle.gfx_script.specs.declared.error.ScriptKind.{ScriptKind}
use Rattle.gfx_script.specs.declared.error.ScriptKind.TheVariants.{Toml, Key, Range, Name, Pixels, SurfacePresent, CellBudget, SurfaceAbsent, Outside, KeyAbsent, BitmapSize, Glyph, Unframed}

-- the name that a report prints
abbrev pub name_of : ScriptKind → List ℕ
name_of Toml = codes "Toml"
name_of Key = codes "Key"
name_of Range = codes "Range"
name_of Name = codes "Name"
name_of Pixels = codes "Pixels"
name_of SurfacePresent = codes "SurfacePresent"
name_of CellBudget = codes "CellBudget"
name_of SurfaceAbsent = codes "SurfaceAbsent"
name_of Outside = codes "Outside"
name_of KeyAbsent = codes "KeyAbsent"
name_of BitmapSize = codes "BitmapSize"
name_of Glyph = codes "Glyph"
name_of Unframed = codes "Unframed"
