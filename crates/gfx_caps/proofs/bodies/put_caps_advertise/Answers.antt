use Rattle.std.proofs.Common.{subst}
use Rattle.gfx_layout.specs.Writing.{Puts}
use Rattle.gfx_caps.specs.declared.message.ClientPdu.TheVariants.{Advertise}
use Rattle.gfx_caps.specs.Spelling.{spelling}
use Rattle.gfx_caps.proofs.SetLemmas.{advertised}
use Rattle.gfx_caps.proofs.bodies.put_caps_advertise.Goals as goal

pub returns : goal.returns
returns c =
    subst (λ sets. Puts c.put_sets.result c.args.out.now c.put_sets.new.out (spelling (Advertise sets))) c.as_slice-offered.ensures
    (advertised c.put_sets.result c.args.out.now c.put_header.new.out c.put.new.out c.put_sets.new.out c.as_slice-offered.result.now c.sets_size-size.result
    c.sets_size-size.ensures c.in_ok-put_header.ensures c.in_ok-put.ensures.ok c.put_sets.ensures)
