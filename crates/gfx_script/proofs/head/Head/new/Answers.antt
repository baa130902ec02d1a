use Rattle.std.proofs.Common.{◌≡◌, true, subst, sym}
use Rattle.std.specs.List.{list_all}
use Rattle.gfx_caps.specs.Offers.{is_offer}
use Rattle.gfx_script.specs.declared.TheConstants.{MOST_VERSIONS}
use Rattle.gfx_script.specs.Script.{is_from_one}
use Rattle.gfx_script.proofs.HeadLemmas.{head_tested}
use Rattle.gfx_script.proofs.head.Head.new.Goals as goal

pub invariant_of-result : goal.invariant_of-result
invariant_of-result c =
    head_tested c.args.parts (sym c.if-not-is_window.ensures) (subst (λ count. is_from_one MOST_VERSIONS count ≡ true) c.len.ensures (sym c.if-not-is_offer_count.ensures))
    (subst (λ offers. list_all is_offer offers ≡ true) c.as_slice.ensures (sym c.if-not-are_offers.ensures)) (sym c.if-not-is_setting.ensures)
