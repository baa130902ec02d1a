use Rattle.std.proofs.Common.{length, refl}
use Rattle.gfx_clear_bands.proofs.Drawings.{none_left}
use Rattle.gfx_clear_runs.proofs.Appending.{is_none, is_some}
use Rattle.gfx_clear.specs.Inner.{parts_seen}
use Rattle.gfx_clear.proofs.Alone.{any_last_whole, runs_whole}
use Rattle.gfx_clear.proofs.whole.whole_of.Goals as goal

pub returns-then-is_empty : goal.returns-then-is_empty
returns-then-is_empty c =
    any_last_whole c.args.width c.args.height c.whole_area.result (parts_seen c.args.parts.now)
    (is_none (length c.args.parts.now.residual.now) c.is_empty-2.result c.is_empty-2.ensures c.if-is_empty.true)
    (none_left (length c.args.parts.now.bands.now) c.is_empty.result c.is_empty.ensures c.if-not-is_empty.false) c.whole_area.ensures

pub returns : goal.returns
returns c =
    runs_whole c.args.width c.args.height c.args.parts.now.residual (parts_seen c.args.parts.now) refl
    (record {
      some = is_some (length c.args.parts.now.residual.now) c.is_empty-2.result c.is_empty-2.ensures c.if-is_empty.false;
      no_bands = none_left (length c.args.parts.now.bands.now) c.is_empty.result c.is_empty.ensures c.if-not-is_empty.false;
      no_subcodecs = none_left (length c.args.parts.now.subcodecs.now) c.is_empty-3.result c.is_empty-3.ensures c.if-not-is_empty-2.false;
    })
