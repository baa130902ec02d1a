use Rattle.std.proofs.Common.{◌∙◌, ap, map, Some}
use Rattle.toml.specs.View.{view}
use Rattle.gfx_script_text.proofs.Arrays.{items_in-array, items_in-none}
use Rattle.gfx_script_text.proofs.members.items_in.Goals as goal

pub returns-in-Some : goal.returns-in-Some
returns-in-Some c = ap (λ vs. Some (map view vs)) c.as_slice.ensures.value ∙ items_in-array _ _ c.in-Some.ensures

pub returns-in-None : goal.returns-in-None
returns-in-None c = items_in-none _ c.in-None.ensures
