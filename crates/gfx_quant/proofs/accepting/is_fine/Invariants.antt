use Rattle.std.proofs.Common.{◌≡◌, suc, ◌&&◌}
use Rattle.gfx_quant.specs.Quant.{is_base}
use Rattle.gfx_quant.specs.Setting.{all_below, stays_within, falls_well, left_out}
use Rattle.gfx_quant.proofs.accepting.is_fine.Given as goal

abbrev pub invariant-loop-index : goal.invariant-loop-index
invariant-loop-index l =
    l.fine ≡ (is_base l.base.values && all_below l.index (λ i. stays_within l.base.values (left_out l.component l.levels i) && falls_well (left_out l.component l.levels i) (left_out l.component l.levels (suc i))))
