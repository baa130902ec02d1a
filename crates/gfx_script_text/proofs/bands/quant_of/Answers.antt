use Rattle.std.proofs.Common.{◌≡◌, ◌∙◌, length, map, sym, arith}
use Rattle.std.proofs.lemmas.List.{length-map}
use Rattle.toml.specs.View.{view}
use Rattle.gfx_script_text.proofs.Quants.{small_numbers, quant_read}
use Rattle.gfx_script_text.proofs.bands.quant_of.Goals as goal

pub invariant_of-result : goal.invariant_of-result
invariant_of-result c = record { nibbles = small_numbers c.args.least c.args.most (map view c.args.items.now) c.in_ok-values.values c.requires (sym c.in_ok-values.ensures) }

pub returns : goal.returns
returns c =
    let ten : length c.args.items.now ≡ 10 = omega arith in
    sym
    (quant_read c.args.least c.args.most (map view c.args.items.now) record { values = c.in_ok-values.values; nibbles = _ } (length-map c.args.items.now view ∙ ten)
    (sym c.in_ok-values.ensures))
