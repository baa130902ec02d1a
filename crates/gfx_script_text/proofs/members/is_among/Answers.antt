use Rattle.std.proofs.Common.{◌∙◌, sym}
use Rattle.gfx_script_text.proofs.Arrays.{list_any-map}
use Rattle.std.specs.Str.{bytes_eq}
use Rattle.gfx_script_text.proofs.members.is_among.Goals as goal

pub returns : goal.returns
returns c = c.contains.ensures.value ∙ sym (list_any-map (λ one. bytes_eq one c.args.key.now) (λ k. k.now) c.args.keys.now)
